-- What was sent and is certain to be at fault before the fault has come: RFC 6455 section 7.1.7 lets an endpoint fail
-- the connection then, and what it waits for may never be sent.
use Rattle.std.specs.Prelude.{◌≡◌, ◌≢◌, ℕ, ◌+◌, ◌<◌, ◌↔◌, Bool, true, false, MatchBool, List, [], length, take}
use Rattle.std.specs.Prelude.{slice_index_or, Option, Some, None}
use Rattle.std.specs.List.{concat}
use Rattle.ws_wire.specs.declared.role.Role.{Role}
use Rattle.ws_wire.specs.declared.role.Role.TheVariants.{Client, Server}
use Rattle.ws_wire.specs.Frame.{KeyedFrame}
use Rattle.ws_session.specs.Doomed.{EndsDoomed}
use Rattle.ws_session.specs.Sends.{most_limits}
use Rattle.ws_scripts.specs.declared.transcript.Ended.{Ended}
use Rattle.ws_scripts.specs.declared.transcript.Ended.TheVariants.{Tester, Peer, Broken}
use Rattle.ws_scripts.specs.declared.transcript.Transcript.{Transcript}
use Rattle.ws_suite.specs.declared.evidence.InTurn.{InTurn}
use Rattle.ws_suite.specs.declared.evidence.Ending.{Ending}
use Rattle.ws_suite.specs.declared.evidence.Ending.TheVariants.{Doomed}
use Rattle.ws_suite.specs.declared.evidence.Evidence.{Evidence}
use Rattle.ws_suite.specs.Evidence.{sent_turns}
use Rattle.ws_suite.specs.Matching.{ends_with_close, is_close_ending}

-- All that was sent in the first turns, so many, is doomed at the tested end: it holds neither close nor fault and ends
-- inside a frame, and whatever bytes complete that frame, it is at fault.
abbrev pub IsDoomedAfter : Role → List (List ℕ) → ℕ → Type 0
IsDoomedAfter tested turns count = (frames : List KeyedFrame) × (rest : List ℕ)
    × EndsDoomed tested most_limits (concat (take count turns)) frames rest

-- ---- where the fault never comes

-- what was doomed counts as a fault where the tester didn't end the connection; and where it did, of a client that sent
-- its close, since the server ends the connection (section 7.1.1)
abbrev pub counts_doom : Role → Ended → Option (InTurn Ending) → Bool
counts_doom tested Peer got = true
counts_doom tested Broken got = true
counts_doom Server Tester got = false
counts_doom Client Tester got = ends_with_close got

-- bytes were sent in this turn, and in none after it
pub record IsLastWithBytes (turns : List (List ℕ)) (turn : ℕ) : Type 0 where
  pub some : slice_index_or turns turn [] ≢ []
  pub last : (later : ℕ) → turn < later → slice_index_or turns later [] ≡ []

-- all that was sent is doomed, which stands in the last turn with bytes; or it isn't
abbrev pub IsDoomOf : Role → List (List ℕ) → Option (InTurn Ending) → Type 0
IsDoomOf tested turns None = ¬ (IsDoomedAfter tested turns (length turns))
IsDoomOf tested turns (Some x) =
    (x.what ≡ Doomed) × IsLastWithBytes turns x.turn × IsDoomedAfter tested turns (length turns)

-- How what was sent ends as it counts: with its close or fault; where there is none and what is doomed counts as a
-- fault, with that. The first ending is what was got, the second what was sent, the third how that counts.
abbrev pub CountsAs : Role → Transcript → Option (InTurn Ending) → Option (InTurn Ending) → Option (InTurn Ending)
    → Type 0
CountsAs tested transcript got (Some sent) counted = counted ≡ Some sent
CountsAs tested transcript got None counted = MatchBool (counts_doom tested transcript.ended got)
    (IsDoomOf tested (sent_turns transcript.turns) counted) (counted ≡ None)

-- ---- where it comes too late

-- A close was got in an earlier turn than the fault that was sent, and when its turn was over what was sent was doomed.
-- So it stands in no earlier turn than the first byte from which on what was sent was doomed.
abbrev pub AnswersDoom : Role → List (List ℕ) → Option (InTurn Ending) → Option (InTurn Ending) → Type 0
AnswersDoom tested turns None due = ⊥
AnswersDoom tested turns (Some got) None = ⊥
AnswersDoom tested turns (Some got) (Some due) = (is_close_ending got.what ≡ true) × (is_close_ending due.what ≡ false)
    × (got.turn < due.turn) × IsDoomedAfter tested turns (got.turn + 1)

-- ---- the evidence as it counts

-- the same evidence, with what was doomed counted
pub record HasDoomCounted (tested : Role) (transcript : Transcript) (shown counted : Evidence) : Type 0 where
  pub replies : counted.due.replies ≡ shown.due.replies
  pub ending : CountsAs tested transcript shown.got.ending shown.due.ending counted.due.ending
  pub has_rest : counted.due.has_rest ≡ shown.due.has_rest
  pub got : counted.got ≡ shown.got
  pub turns : counted.turns ≡ shown.turns
  pub ended : counted.ended ≡ shown.ended
  pub answers_doom : (counted.answers_doom ≡ true)
      ↔ AnswersDoom tested (sent_turns transcript.turns) shown.got.ending counted.due.ending
