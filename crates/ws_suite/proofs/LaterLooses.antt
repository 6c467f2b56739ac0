-- By the protocol: where no Loose before those of an own close applies, one of these is the lowest, and where they don't
-- the lowest of the later ones.
use Rattle.std.proofs.Common.{◌<◌, ◌≤◌, List, Option, None, Some, arith}
use Rattle.std.specs.Prelude.{MatchOption}
use Rattle.ws_wire.specs.declared.role.Role.{Role}
use Rattle.ws_session.specs.Faults.{IsLowest}
use Rattle.ws_suite.specs.declared.verdict.LooseWhy.{LooseWhy}
use Rattle.ws_suite.specs.declared.verdict.LooseWhy.TheVariants as loose
use Rattle.ws_suite.specs.declared.evidence.InTurn.{InTurn}
use Rattle.ws_suite.specs.declared.evidence.Reply.{Reply}
use Rattle.ws_suite.specs.declared.evidence.Evidence.{Evidence}
use Rattle.ws_suite.specs.declared.evidence.marks.Marks.{Marks}
use Rattle.ws_suite.specs.InnerMarks.{IsLaterLoose, IsOwnLoose}
use Rattle.ws_suite.specs.Marks.{with_pongs}
use Rattle.ws_suite.specs.Protocol.{HasOwnClose, HasOwnFault, HasToEnd, IsLooseByProtocol, SkipsOwedPong}
use Rattle.ws_suite.specs.Verdicts.{EndsLate, HasOtherCode, IsBroken, loose_number}

-- where none of the first six applies, one of an own close does
module _ (tested : Role) (x : Evidence) (marks : Marks) (pongs : SkipsOwedPong x → ⊥)
    (code : HasOtherCode x × (HasOwnClose x → ⊥) → ⊥)
    (late : EndsLate tested x × HasToEnd x marks × (HasOwnClose x → ⊥) → ⊥) (broken : IsBroken x → ⊥) where
  none_of_six : (why : LooseWhy) → IsLooseByProtocol tested x marks why → 7 ≤ loose_number why
  none_of_six loose.PongsSkipped h = absurd (pongs h)
  none_of_six loose.PongElsewhere h = absurd h
  none_of_six loose.OtherCode h = absurd (code h)
  none_of_six loose.LateEnd h = absurd (late h)
  none_of_six loose.EchoShort h = absurd h
  none_of_six loose.BrokenEnd h = absurd (broken h)
  none_of_six loose.OwnFault h = omega arith
  none_of_six loose.OwnClose h = omega arith
  none_of_six loose.OwnEnd h = omega arith
  none_of_six loose.LateFault h = omega arith
  none_of_six loose.Tolerated h = omega arith
  none_of_six loose.NoClose h = omega arith
  none_of_six loose.BehindClose h = omega arith
  none_of_six loose.TooBig h = omega arith

  none_of_seven : (HasOwnFault x → ⊥) → (why : LooseWhy) → IsLooseByProtocol tested x marks why → 8 ≤ loose_number why
  none_of_seven fault loose.PongsSkipped h = absurd (pongs h)
  none_of_seven fault loose.PongElsewhere h = absurd h
  none_of_seven fault loose.OtherCode h = absurd (code h)
  none_of_seven fault loose.LateEnd h = absurd (late h)
  none_of_seven fault loose.EchoShort h = absurd h
  none_of_seven fault loose.BrokenEnd h = absurd (broken h)
  none_of_seven fault loose.OwnFault h = absurd (fault h)
  none_of_seven fault loose.OwnClose h = omega arith
  none_of_seven fault loose.OwnEnd h = omega arith
  none_of_seven fault loose.LateFault h = omega arith
  none_of_seven fault loose.Tolerated h = omega arith
  none_of_seven fault loose.NoClose h = omega arith
  none_of_seven fault loose.BehindClose h = omega arith
  none_of_seven fault loose.TooBig h = omega arith

  pub lowest_of_own : (why : LooseWhy) → IsOwnLoose x why
      → IsLowest LooseWhy loose_number (IsLooseByProtocol tested x marks) why
  lowest_of_own loose.PongsSkipped h = absurd h
  lowest_of_own loose.PongElsewhere h = absurd h
  lowest_of_own loose.OtherCode h = absurd h
  lowest_of_own loose.LateEnd h = absurd h
  lowest_of_own loose.EchoShort h = absurd h
  lowest_of_own loose.BrokenEnd h = absurd h
  lowest_of_own loose.OwnFault h = record { wrong = h; first = none_of_six }
  lowest_of_own loose.OwnClose h = record { wrong = h; first = none_of_seven h.1 }
  lowest_of_own loose.OwnEnd h = absurd h
  lowest_of_own loose.LateFault h = absurd h
  lowest_of_own loose.Tolerated h = absurd h
  lowest_of_own loose.NoClose h = absurd h
  lowest_of_own loose.BehindClose h = absurd h
  lowest_of_own loose.TooBig h = absurd h

module _ (tested : Role) (x : Evidence) (marks : Marks) (pongs : SkipsOwedPong x → ⊥)
    (code : HasOtherCode x × (HasOwnClose x → ⊥) → ⊥) (late : EndsLate tested x × HasToEnd x marks × (HasOwnClose x → ⊥) → ⊥)
    (broken : IsBroken x → ⊥) (own : HasOwnClose x → ⊥) where
  -- each that applies is a later one
  are_later : (why : LooseWhy) → IsLooseByProtocol tested x marks why → loose_number loose.OwnClose < loose_number why
  are_later loose.PongsSkipped h = absurd (pongs h)
  are_later loose.PongElsewhere h = absurd h
  are_later loose.OtherCode h = absurd (code h)
  are_later loose.LateEnd h = absurd (late h)
  are_later loose.EchoShort h = absurd h
  are_later loose.BrokenEnd h = absurd (broken h)
  are_later loose.OwnFault h = absurd (own h.0)
  are_later loose.OwnClose h = absurd (own h.0)
  are_later loose.OwnEnd h = omega arith
  are_later loose.LateFault h = omega arith
  are_later loose.Tolerated h = omega arith
  are_later loose.NoClose h = omega arith
  are_later loose.BehindClose h = omega arith
  are_later loose.TooBig h = omega arith

  pub lowest_of_later : (found : Option LooseWhy)
      → MatchOption found ((why : LooseWhy) → IsLaterLoose tested x marks why → ⊥)
      (IsLowest LooseWhy loose_number (IsLaterLoose tested x marks))
      → MatchOption found ((why : LooseWhy) → IsLooseByProtocol tested x marks why → ⊥)
      (IsLowest LooseWhy loose_number (IsLooseByProtocol tested x marks))
  lowest_of_later None none = λ why h. none why (are_later why h, h)
  lowest_of_later (Some why) lowest = record {
    wrong = lowest.wrong.1;
    first = λ other h. lowest.first other (are_later other h, h);
  }

-- The later ones ask nothing of the pongs that were got.
module _ (tested : Role) (x : Evidence) (pongs : List (InTurn Reply)) (marks : Marks) where
  later_without : (why : LooseWhy) → IsLaterLoose tested (with_pongs x pongs) marks why → IsLaterLoose tested x marks why
  later_without loose.PongsSkipped h = absurd (omega (arith, h.0))
  later_without loose.PongElsewhere h = absurd (omega (arith, h.0))
  later_without loose.OtherCode h = absurd (omega (arith, h.0))
  later_without loose.LateEnd h = absurd (omega (arith, h.0))
  later_without loose.EchoShort h = absurd (omega (arith, h.0))
  later_without loose.BrokenEnd h = absurd (omega (arith, h.0))
  later_without loose.OwnFault h = absurd (omega (arith, h.0))
  later_without loose.OwnClose h = absurd (omega (arith, h.0))
  later_without loose.OwnEnd h = h
  later_without loose.LateFault h = h
  later_without loose.Tolerated h = h
  later_without loose.NoClose h = h
  later_without loose.BehindClose h = h
  later_without loose.TooBig h = h

  later_with : (why : LooseWhy) → IsLaterLoose tested x marks why → IsLaterLoose tested (with_pongs x pongs) marks why
  later_with loose.PongsSkipped h = absurd (omega (arith, h.0))
  later_with loose.PongElsewhere h = absurd (omega (arith, h.0))
  later_with loose.OtherCode h = absurd (omega (arith, h.0))
  later_with loose.LateEnd h = absurd (omega (arith, h.0))
  later_with loose.EchoShort h = absurd (omega (arith, h.0))
  later_with loose.BrokenEnd h = absurd (omega (arith, h.0))
  later_with loose.OwnFault h = absurd (omega (arith, h.0))
  later_with loose.OwnClose h = absurd (omega (arith, h.0))
  later_with loose.OwnEnd h = h
  later_with loose.LateFault h = h
  later_with loose.Tolerated h = h
  later_with loose.NoClose h = h
  later_with loose.BehindClose h = h
  later_with loose.TooBig h = h

  pub later_with_pongs : (found : Option LooseWhy)
      → MatchOption found ((why : LooseWhy) → IsLaterLoose tested x marks why → ⊥)
      (IsLowest LooseWhy loose_number (IsLaterLoose tested x marks))
      → MatchOption found ((why : LooseWhy) → IsLaterLoose tested (with_pongs x pongs) marks why → ⊥)
      (IsLowest LooseWhy loose_number (IsLaterLoose tested (with_pongs x pongs) marks))
  later_with_pongs None none = λ why h. none why (later_without why h)
  later_with_pongs (Some why) lowest = record {
    wrong = later_with why lowest.wrong;
    first = λ other h. lowest.first other (later_without other h);
  }
