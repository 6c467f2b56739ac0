-- The verdict is told without the pings, and what came with them.
use Rattle.std.proofs.Common.{refl, subst, sym}
use Rattle.ws_suite.specs.declared.evidence.Direction.{Direction}
use Rattle.ws_suite.specs.Evidence.{IsDirectionOf, got_turns, other_role}
use Rattle.ws_suite.specs.Explanation.{told_in}
use Rattle.ws_suite.specs.InnerJudging.{without_pings}
use Rattle.ws_suite.proofs.TellingLemmas.{counted_without, told_is_evidence}
use Rattle.ws_suite.proofs.explaining.explain_by_echo.Goals as goal

pub returns : goal.returns
returns c =
    let transcript = c.args.transcript.now in
    let told = c.in_ok-told in
    let counted = c.with_doom-counted.result in
    let is_counted = c.with_doom-counted.ensures in
    record {
      evidence = without_pings told.told.evidence;
      is_evidence = told_is_evidence c.args.tested transcript told.told.evidence told.ensures.evidence;
      counted = without_pings counted;
      is_counted = counted_without c.args.tested transcript told.told.evidence counted is_counted;
      is_verdict = c.in_ok-verdict.ensures;
      due = refl;
      got = subst (λ (d : Direction). IsDirectionOf (other_role c.args.tested) told_in (got_turns transcript.turns) d)
          (sym is_counted.got) told.ensures.evidence.got;
      beyond = told.ensures.beyond;
      found = c.in_ok-found.ensures (other_role c.args.tested) told.ensures.streams.got;
      turns = refl;
      ended = refl;
    }
