-- What a run waits for before the next turn is sent, by what is expected of the tested end.
use Rattle.std.specs.Prelude.{◌≡◌, true, List, Some, None}
use Rattle.std.specs.List.{last_or}
use Rattle.ws_wire.specs.declared.role.Role.{Role}
use Rattle.ws_scripts.specs.declared.expectation.Expectation.{Expectation}
use Rattle.ws_scripts.specs.declared.expectation.Expectation.TheVariants.{Echo, Protocol}
use Rattle.ws_scripts.specs.declared.transcript.Turn.{Turn}
use Rattle.ws_scripts.specs.declared.transcript.Ended.TheVariants.{Tester}
use Rattle.ws_suite.specs.declared.evidence.InTurn.{InTurn}
use Rattle.ws_suite.specs.declared.evidence.Reply.{Reply}
use Rattle.ws_suite.specs.declared.evidence.Evidence.{Evidence}
use Rattle.ws_suite.specs.Evidence.{IsEvidenceOf}
use Rattle.ws_suite.specs.Growing.{IsAnswered}
use Rattle.ws_suite.specs.Matching.{due_pongs}
use Rattle.ws_suite.specs.Protocol.{IsLastAnswered, OwesPongs, is_answered}

-- ---- what is waited for

-- An echo owes messages and pongs. By the protocol no message is owed, and of the pongs that for the last ping for
-- which one is: it, or a later ping, is answered.
abbrev pub MeetsExpectation : Expectation → Evidence → Type 0
MeetsExpectation Echo x = IsAnswered x
MeetsExpectation Protocol x = OwesPongs x → IsLastAnswered x

-- by what these turns show
pub record AreTurnsAnsweredBy (expected : Expectation) (tested : Role) (turns : List Turn) : Type 0 where
  pub evidence : Evidence
  pub is_evidence : IsEvidenceOf tested (record { turns = turns; ended = Tester }) evidence
  pub answered : MeetsExpectation expected evidence

-- ---- what a run looks at

-- the last ping that was sent, if one was, is answered
abbrev pub IsLastPingAnswered : Evidence → Type 0
IsLastPingAnswered x = (last : InTurn Reply) → last_or None (due_pongs x) ≡ Some last → is_answered x last ≡ true

-- What a run asks for: of an echo that nothing is missing, and by the protocol that the last ping is answered. So what
-- is waited for has come.
abbrev pub IsSeenAnswered : Expectation → Evidence → Type 0
IsSeenAnswered Echo x = IsAnswered x
IsSeenAnswered Protocol x = IsLastPingAnswered x

-- by what these turns show
pub record AreTurnsSeenAnswered (expected : Expectation) (tested : Role) (turns : List Turn) : Type 0 where
  pub evidence : Evidence
  pub is_evidence : IsEvidenceOf tested (record { turns = turns; ended = Tester }) evidence
  pub answered : IsSeenAnswered expected evidence
