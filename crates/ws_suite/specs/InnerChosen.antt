-- Inside the crate: which replies the judge goes over. A reader may skip this file.
use Rattle.std.specs.Prelude.{◌≡◌, Bool, true, List, [], Option, None, Some}
use Rattle.std.specs.List.{last_or}
use Rattle.ws_suite.specs.declared.evidence.InTurn.{InTurn}
use Rattle.ws_suite.specs.declared.evidence.Reply.{Reply}
use Rattle.ws_suite.specs.declared.evidence.kept.Kept.{Kept}
use Rattle.ws_suite.specs.declared.judging.chosen.Wanted.{Wanted}
use Rattle.ws_suite.specs.declared.judging.chosen.Wanted.TheVariants.{Messages, Pongs, Answers, All}
use Rattle.ws_suite.specs.InnerJudging.{answers_among, is_answer}
use Rattle.ws_suite.specs.Kept.{reply_in, what_of}
use Rattle.ws_suite.specs.Matching.{is_message, is_pong, message_replies, pong_replies}

abbrev pub wants : Wanted → Reply → Bool
wants Messages r = is_message r
wants Pongs r = is_pong r
wants Answers r = is_answer r
wants All r = true

abbrev pub wanted_among : Wanted → List (InTurn Reply) → List (InTurn Reply)
wanted_among Messages replies = message_replies replies
wanted_among Pongs replies = pong_replies replies
wanted_among Answers replies = answers_among replies
wanted_among All replies = replies

-- there is a reply, and it is this one
abbrev pub IsThere : Reply → Option Kept → Type 0
IsThere what None = ⊥
IsThere what (Some x) = what ≡ what_of x

-- the last of the replies, if there is one
abbrev pub IsLastOf : List (InTurn Reply) → Option Kept → Type 0
IsLastOf replies None = replies ≡ []
IsLastOf replies (Some x) = last_or None replies ≡ Some (reply_in x)
