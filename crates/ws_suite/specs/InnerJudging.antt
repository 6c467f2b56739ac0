-- Inside the crate: lists of replies as the judge's functions see them. A reader may skip this file.
use Rattle.std.specs.Prelude.{◌≡◌, ◌↔◌, ℕ, ◌<◌, ◌≤◌, Bool, true, false, List, filter, length, Option, None, Some}
use Rattle.std.specs.List.{list_any, slice_get, zip}
use Rattle.ws_wire.specs.declared.role.Role.{Role}
use Rattle.ws_suite.specs.declared.verdict.FailWhy.{FailWhy}
use Rattle.ws_suite.specs.declared.verdict.LooseWhy.{LooseWhy}
use Rattle.ws_suite.specs.declared.evidence.InTurn.{InTurn}
use Rattle.ws_suite.specs.declared.evidence.Reply.{Reply}
use Rattle.ws_suite.specs.declared.evidence.Reply.TheVariants as reply
use Rattle.ws_suite.specs.declared.evidence.Evidence.{Evidence}
use Rattle.ws_suite.specs.declared.judging.findings.Findings.{Findings}
use Rattle.ws_suite.specs.declared.judging.noted.Noted.{Noted}
use Rattle.ws_suite.specs.InnerNoted.{noted_of}
use Rattle.ws_suite.specs.Matching.{HasLastPong, IsBeginningOf, IsShortOfMessages, IsShortOfPongs, IsWithSomeLeftOut}
use Rattle.ws_suite.specs.Matching.{bare, due_messages, due_pongs, got_messages, matches, payload_of}
use Rattle.ws_suite.specs.Verdicts.{FailsNowhere, IsLowestFail, IsLowestLoose, IsNowhereLoose, is_before}
use Rattle.ws_suite.specs.Verdicts.{is_before_match, is_unmatched}

-- a message or a pong, and no ping
abbrev pub is_answer : Reply → Bool
is_answer (reply.Message message) = true
is_answer (reply.Pong payload) = true
is_answer (reply.Ping payload) = false

abbrev pub answers_among : List (InTurn Reply) → List (InTurn Reply)
answers_among replies = filter (λ x. is_answer x.what) replies

-- the evidence that the verdict is told on: the pings that were got are no part of it
abbrev pub without_pings : Evidence → Evidence
without_pings x = record {
  due = x.due;
  got = record { replies = answers_among x.got.replies; ending = x.got.ending; has_rest = x.got.has_rest };
  turns = x.turns;
  ended = x.ended;
  answers_doom = x.answers_doom;
}

-- what was found by comparing what was got with what is due, with the words of the verdict's definition
pub record AreFindingsOf (x : Evidence) (found : Findings) : Type 0 where
  pub has_early_message : found.has_early_message ≡ list_any is_before (zip (got_messages x) (due_messages x))
  pub has_early_pong : found.has_early_pong ≡ list_any is_before_match (matches x)
  pub has_unmatched_pong : found.has_unmatched_pong ≡ list_any is_unmatched (matches x)
  pub begins : (found.begins ≡ true) ↔ IsBeginningOf (bare (got_messages x)) (bare (due_messages x))
  pub is_short_of_messages : (found.is_short_of_messages ≡ true) ↔ IsShortOfMessages x
  pub is_short_of_pongs : (found.is_short_of_pongs ≡ true) ↔ IsShortOfPongs x
  pub owes_pongs : (found.owes_pongs ≡ true) ↔ (0 < length (due_pongs x))
  pub has_last_pong : (found.has_last_pong ≡ true) ↔ HasLastPong x
  pub keeps_order : (found.keeps_order ≡ true) ↔ IsWithSomeLeftOut (bare x.got.replies) (bare x.due.replies)

-- the place of a pong lies before what is known of its payload, if that has a place; else not all have one
abbrev pub IsPlaceBefore : Bool → ℕ → Option ℕ → Type 0
IsPlaceBefore has_all place None = has_all ≡ false
IsPlaceBefore has_all place (Some end) = place < end

-- each of these pongs stands at no later place than the last that is noted for its payload
abbrev pub AreLastPlaces : List (InTurn Reply) → Noted → Type 0
AreLastPlaces due noted = (place : ℕ) (pong : InTurn Reply) → slice_get due place ≡ Some pong
    → IsPlaceBefore noted.has_all place (noted_of noted (payload_of pong.what))

-- the lowest Fail that applies, or there is none
abbrev pub IsFirstFail : Role → Evidence → Option FailWhy → Type 0
IsFirstFail tested x None = FailsNowhere tested x
IsFirstFail tested x (Some why) = IsLowestFail tested x why

-- the lowest Loose that applies, or there is none
abbrev pub IsFirstLoose : Role → Evidence → Option LooseWhy → Type 0
IsFirstLoose tested x None = IsNowhereLoose tested x
IsFirstLoose tested x (Some why) = IsLowestLoose tested x why
