-- Worked verdicts on a tapped server: an end of its own where it is the first and where it isn't, a close of its own,
-- and a close without an answer.
use Rattle.std.proofs.Common.{◌≡◌, ◌++◌, [], false, true, arith, inr, refl}
use Rattle.ws_wire.specs.declared.role.Role.TheVariants.{Server}
use Rattle.ws_scripts.specs.declared.transcript.Ended.TheVariants.{Peer, Tester}
use Rattle.ws_suite.specs.declared.verdict.Verdict.TheVariants.{Pass, Loose, Fail}
use Rattle.ws_suite.specs.declared.verdict.FailWhy.TheVariants as fail
use Rattle.ws_suite.specs.declared.verdict.LooseWhy.{LooseWhy}
use Rattle.ws_suite.specs.declared.verdict.LooseWhy.TheVariants as loose
use Rattle.ws_suite.specs.Examples.{close_sent, in_one_turn, policy_got, text_got, text_sent}
use Rattle.ws_suite.specs.Tapped.{IsLooseTapped, IsTappedVerdictOf}
use Rattle.ws_suite.specs.InnerCollecting.{EventLaws, FrameLaws}
use Rattle.ws_suite.proofs.WorkedProtocol.{answered, answered_fails, answered_loose, answered_marks, close_first, closed, closed_evidence, closed_marks, closing, closing_evidence, closing_fails, closing_marks, ended_evidence, no_true, own_close_first, own_end_first}

second_silent : (why : LooseWhy) → IsLooseTapped Server false (answered Peer) answered_marks why → ⊥
second_silent loose.PongsSkipped h = absurd (omega (arith, own_end_first loose.PongsSkipped h.0))
second_silent loose.PongElsewhere h = absurd (omega (arith, own_end_first loose.PongElsewhere h.0))
second_silent loose.OtherCode h = absurd (omega (arith, own_end_first loose.OtherCode h.0))
second_silent loose.LateEnd h = absurd (omega (arith, own_end_first loose.LateEnd h.0))
second_silent loose.EchoShort h = absurd (omega (arith, own_end_first loose.EchoShort h.0))
second_silent loose.BrokenEnd h = absurd (omega (arith, own_end_first loose.BrokenEnd h.0))
second_silent loose.OwnFault h = absurd (omega (arith, own_end_first loose.OwnFault h.0))
second_silent loose.OwnClose h = absurd (omega (arith, own_end_first loose.OwnClose h.0))
second_silent loose.OwnEnd h = no_true h.1
second_silent loose.LateFault h = answered_loose Peer loose.LateFault refl h.0
second_silent loose.Tolerated h = answered_loose Peer loose.Tolerated refl h.0
second_silent loose.NoClose h = answered_loose Peer loose.NoClose refl h.0
second_silent loose.BehindClose h = answered_loose Peer loose.BehindClose refl h.0
second_silent loose.TooBig h = answered_loose Peer loose.TooBig refl h.0

closing_silent : (why : LooseWhy) → IsLooseTapped Server false closing closing_marks why → ⊥
closing_silent loose.PongsSkipped h = absurd (omega (arith, own_close_first loose.PongsSkipped h.0))
closing_silent loose.PongElsewhere h = absurd (omega (arith, own_close_first loose.PongElsewhere h.0))
closing_silent loose.OtherCode h = absurd (omega (arith, own_close_first loose.OtherCode h.0))
closing_silent loose.LateEnd h = absurd (omega (arith, own_close_first loose.LateEnd h.0))
closing_silent loose.EchoShort h = absurd (omega (arith, own_close_first loose.EchoShort h.0))
closing_silent loose.BrokenEnd h = absurd (omega (arith, own_close_first loose.BrokenEnd h.0))
closing_silent loose.OwnFault h = no_true h.1
closing_silent loose.OwnClose h = no_true h.1
closing_silent loose.OwnEnd h = no_true h.1
closing_silent loose.LateFault h = absurd (let wrong : Peer ≡ Tester = h.0.2 in cc)
closing_silent loose.Tolerated h = absurd (let wrong : Peer ≡ Tester = h.0.1 in cc)
closing_silent loose.NoClose h = absurd (let wrong : true ≡ false = h.0.0 in cc)
closing_silent loose.BehindClose h = no_true h.0.1
closing_silent loose.TooBig h = no_true h.0

module _ (laws : FrameLaws) (events : EventLaws) where
  pub first_end : IsTappedVerdictOf Server true (in_one_turn text_sent text_got Peer) (Loose loose.OwnEnd)
  first_end = record {
    counted = answered Peer;
    marks = answered_marks;
    is_evidence = ended_evidence laws events;
    is_verdict = (
      λ why h. answered_fails Peer why h.0,
      record { wrong = ((refl, refl, refl), refl); first = λ other h. own_end_first other h.0 },
    );
  }

  pub second_end : IsTappedVerdictOf Server false (in_one_turn text_sent text_got Peer) Pass
  second_end = record {
    counted = answered Peer;
    marks = answered_marks;
    is_evidence = ended_evidence laws events;
    is_verdict = (λ why h. answered_fails Peer why h.0, second_silent);
  }

  pub own_close : IsTappedVerdictOf Server false (in_one_turn text_sent (text_got ++ policy_got) Peer) Pass
  own_close = record {
    counted = closing;
    marks = closing_marks;
    is_evidence = closing_evidence laws events;
    is_verdict = (λ why h. closing_fails why h.0, closing_silent);
  }

  pub no_close : IsTappedVerdictOf Server true (in_one_turn close_sent [] Peer) (Fail fail.Close)
  no_close = record {
    counted = closed;
    marks = closed_marks;
    is_evidence = closed_evidence laws events;
    is_verdict = record { wrong = (((refl, refl), refl, refl, inr (refl, refl)), refl); first = λ other h. close_first other h.0 };
  }
