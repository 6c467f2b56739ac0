-- What the first cases of a run have in common, where that says what to type: an end that doesn't echo, or that lets
-- nobody in.
use Rattle.std.specs.Prelude.{◌≡◌, ℕ, ◌-◌, ◌==◌, ◌&&◌, min, nat_lt, Bool, true, false, if◌then◌else◌, List, []}
use Rattle.std.specs.Prelude.{◌∷◌, ◌++◌, codes, length}
use Rattle.std.specs.List.{list_all}
use Rattle.ws_scripts.specs.declared.expectation.Expectation.{Expectation}
use Rattle.ws_scripts.specs.declared.expectation.Expectation.TheVariants.{Echo, Protocol}
use Rattle.ws_scripts.specs.declared.transcript.Ended.{Ended}
use Rattle.ws_scripts.specs.declared.transcript.Ended.TheVariants as ended
use Rattle.ws_scripts.specs.declared.transcript.Transcript.{Transcript}
use Rattle.ws_suite.specs.Protocol.{IsVerdictBy}
use Rattle.ws_suite.specs.declared.verdict.Verdict.{Verdict}
use Rattle.ws_suite.specs.declared.verdict.Verdict.TheVariants as verdict
use Rattle.ws_suite.specs.declared.verdict.FailWhy.{FailWhy}
use Rattle.ws_suite.specs.declared.verdict.FailWhy.TheVariants as fail
use Rattle.ws_wire.specs.declared.role.Role.{Role}
use Rattle.wst_testing.specs.Outcomes.{is_status}
use Rattle.wst_testing.specs.declared.hinting.HintState.{HintState}
use Rattle.wst_testing.specs.declared.outcome.Outcome.{Outcome}
use Rattle.wst_testing.specs.declared.outcome.Outcome.TheVariants.{HeadRefused, Judged, NoConnection, NotRun}

abbrev pub is_messages_why : FailWhy → Bool
is_messages_why fail.Messages = true
is_messages_why _ = false

abbrev pub is_messages_verdict : Verdict → Bool
is_messages_verdict (verdict.Fail why) = is_messages_why why
is_messages_verdict (verdict.Loose why) = false
is_messages_verdict verdict.Pass = false

-- it is `FAIL Messages`
abbrev pub is_messages_fail : Outcome → Bool
is_messages_fail (Judged told) = is_messages_verdict told.verdict
is_messages_fail (HeadRefused refusal) = false
is_messages_fail (NoConnection why) = false
is_messages_fail NotRun = false

-- it is `FAIL Head Status`
abbrev pub is_status_fail : Outcome → Bool
is_status_fail (Judged told) = false
is_status_fail (HeadRefused refusal) = is_status refusal.fault
is_status_fail (NoConnection why) = false
is_status_fail NotRun = false

-- behind so many lines of a run of so many cases it is told: the tenth, or the last of three to nine. 0 is never
abbrev pub hint_place : ℕ → ℕ
hint_place cases = if nat_lt cases 3 then 0 else min cases 10

abbrev pub echo_hint : List ℕ
echo_hint =
    codes "every case so far is FAIL Messages: if the endpoint doesn't echo, add --expect protocol\n"

abbrev pub status_hint : List ℕ
status_hint = codes "every case so far is FAIL Head Status: --explain shows the status; "
    ++ codes "is the path right, and may anyone connect?\n"

-- what is told where all are the one, or all the other
abbrev pub common_notes : Bool → Bool → List (List ℕ)
common_notes true status = echo_hint ∷ []
common_notes false true = status_hint ∷ []
common_notes false false = []

-- what is told behind the last of these outcomes, where that is the place
abbrev pub hint_notes : ℕ → List Outcome → List (List ℕ)
hint_notes place outcomes = if length outcomes == place
    then common_notes (list_all is_messages_fail outcomes) (list_all is_status_fail outcomes) else []

-- what is kept of these outcomes: how many more come before the place, and what all of them are
pub record IsHintState (place : ℕ) (outcomes : List Outcome) (state : HintState) : Type 0 where
  pub left : state.left ≡ place - length outcomes
  pub messages : state.messages ≡ list_all is_messages_fail outcomes
  pub status : state.status ≡ list_all is_status_fail outcomes

-- it with one outcome more
abbrev pub hint_with : HintState → Outcome → HintState
hint_with state outcome = record {
  left = state.left - 1;
  messages = state.messages && is_messages_fail outcome;
  status = state.status && is_status_fail outcome;
}

-- what is told behind that one
abbrev pub notes_with : HintState → Outcome → List (List ℕ)
notes_with state outcome = if state.left == 1
    then common_notes (state.messages && is_messages_fail outcome) (state.status && is_status_fail outcome) else []

-- ---- a script that is sent alone, and says no verdict

-- only an end can get it of which an echo is expected
abbrev pub is_echo_why : FailWhy → Bool
is_echo_why fail.Early = true
is_echo_why fail.Messages = true
is_echo_why _ = false

abbrev pub is_echo_fail : Verdict → Bool
is_echo_fail (verdict.Fail why) = is_echo_why why
is_echo_fail (verdict.Loose why) = false
is_echo_fail verdict.Pass = false

-- by what went over the connection it is none: the tester ended it, and the verdict is one of those
abbrev pub MissesEchoAt : Ended → Role → Transcript → Bool → Type 0
MissesEchoAt ended.Tester tested transcript missed = (verdict : Verdict) × IsVerdictBy Echo tested transcript verdict
    × (missed ≡ is_echo_fail verdict)
MissesEchoAt ended.Peer tested transcript missed = missed ≡ false
MissesEchoAt ended.Broken tested transcript missed = missed ≡ false

-- an echo is expected of the tested end, and by what went over the connection, which the tester ended, it is none
abbrev pub MissesEcho : Expectation → Role → Transcript → Bool → Type 0
MissesEcho Echo tested transcript missed = MissesEchoAt transcript.ended tested transcript missed
MissesEcho Protocol tested transcript missed = missed ≡ false

abbrev pub missed_echo_hint : List ℕ
missed_echo_hint =
    codes "nothing came back, or not what an echo sends: if the endpoint doesn't echo, add --expect protocol\n"

-- what is told then
abbrev pub missed_echo_notes : Bool → List (List ℕ)
missed_echo_notes missed = if missed then missed_echo_hint ∷ [] else []
