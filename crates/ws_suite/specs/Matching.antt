-- What a verdict compares, RFC 6455 sections 5.4 to 5.6: the messages and pongs that are due with those that were got,
-- the close or fault on either side, and which ping a pong answers.
use Rattle.std.specs.Prelude.{◌≡◌, ℕ, ◌<◌, ◌≤◌, ◌⊎◌, Bool, true, false, if◌then◌else◌, List, [], ◌∷◌, ◌++◌, length, ⊤}
use Rattle.std.specs.Prelude.{map, filter, find, is_some, bytes_eq, Option, Some, None}
use Rattle.std.specs.List.{last_or}
use Rattle.ws_session.specs.Replies.{close_code_of}
use Rattle.ws_suite.specs.declared.evidence.InTurn.{InTurn}
use Rattle.ws_suite.specs.declared.evidence.Reply.{Reply}
use Rattle.ws_suite.specs.declared.evidence.Reply.TheVariants as reply
use Rattle.ws_suite.specs.declared.evidence.Ending.{Ending}
use Rattle.ws_suite.specs.declared.evidence.Ending.TheVariants.{Closed, Failed, Doomed}
use Rattle.ws_suite.specs.declared.evidence.Evidence.{Evidence}

-- ---- replies

abbrev pub is_message : Reply → Bool
is_message (reply.Message message) = true
is_message (reply.Pong payload) = false
is_message (reply.Ping payload) = false

abbrev pub is_pong : Reply → Bool
is_pong (reply.Message message) = false
is_pong (reply.Pong payload) = true
is_pong (reply.Ping payload) = false

abbrev pub payload_of : Reply → List ℕ
payload_of (reply.Message message) = message.payload
payload_of (reply.Pong payload) = payload
payload_of (reply.Ping payload) = payload

-- the messages of replies, and the pongs
abbrev pub message_replies : List (InTurn Reply) → List (InTurn Reply)
message_replies replies = filter (λ x. is_message x.what) replies

abbrev pub pong_replies : List (InTurn Reply) → List (InTurn Reply)
pong_replies replies = filter (λ x. is_pong x.what) replies

-- what is due, and what was got
abbrev pub due_messages : Evidence → List (InTurn Reply)
due_messages x = message_replies x.due.replies

abbrev pub got_messages : Evidence → List (InTurn Reply)
got_messages x = message_replies x.got.replies

abbrev pub due_pongs : Evidence → List (InTurn Reply)
due_pongs x = pong_replies x.due.replies

abbrev pub got_pongs : Evidence → List (InTurn Reply)
got_pongs x = pong_replies x.got.replies

-- fewer messages were got than are due, and fewer pongs
abbrev pub IsShortOfMessages : Evidence → Type 0
IsShortOfMessages x = length (got_messages x) < length (due_messages x)

abbrev pub IsShortOfPongs : Evidence → Type 0
IsShortOfPongs x = length (got_pongs x) < length (due_pongs x)

-- without their turns
abbrev pub bare : List (InTurn Reply) → List Reply
bare replies = map (λ x. x.what) replies

-- the first list is the second with some left out: each of the second is left out, or stands next in the first
abbrev pub IsWithSomeLeftOut : List Reply → List Reply → Type 0
IsWithSomeLeftOut some [] = some ≡ []
IsWithSomeLeftOut some (x ∷ all) = IsWithSomeLeftOut some all
    ⊎ ((others : List Reply) × (some ≡ x ∷ others) × IsWithSomeLeftOut others all)

-- the first list is a beginning of the second
abbrev pub IsBeginningOf : List Reply → List Reply → Type 0
IsBeginningOf front all = (more : List Reply) × (all ≡ front ++ more)

-- ---- the close or the fault

-- it is a close, and no fault
abbrev pub is_close_ending : Ending → Bool
is_close_ending (Closed code) = true
is_close_ending (Failed reason) = false
is_close_ending Doomed = false

abbrev pub ends_with_close : Option (InTurn Ending) → Bool
ends_with_close None = false
ends_with_close (Some x) = is_close_ending x.what

abbrev pub ends_with_fault : Option (InTurn Ending) → Bool
ends_with_fault None = false
ends_with_fault (Some x) = if is_close_ending x.what then false else true

-- the code that a close has which answers this, or its want of one: that of the close, or the right one for the fault.
-- No code is asked where the fault has not come
abbrev pub IsCodeFor : Ending → Option ℕ → Type 0
IsCodeFor (Closed due) code = code ≡ due
IsCodeFor (Failed reason) code = code ≡ Some (close_code_of reason)
IsCodeFor Doomed code = ⊤

-- ---- pongs and what they answer

-- the pong that was got has the payload of the due one
abbrev pub has_payload_of : InTurn Reply → InTurn Reply → Bool
has_payload_of pong due = bytes_eq (payload_of due.what) (payload_of pong.what)

-- the due pongs after the first with the payload of this one; none where none has it
abbrev pub after_match : InTurn Reply → List (InTurn Reply) → List (InTurn Reply)
after_match pong [] = []
after_match pong (x ∷ due) = if has_payload_of pong x then due else after_match pong due

-- the due pongs that are left for later ones: those after the match of this one, or all where it has none
abbrev pub due_after : InTurn Reply → List (InTurn Reply) → List (InTurn Reply)
due_after pong due = if is_some (find (has_payload_of pong) due) then after_match pong due else due

-- each pong that was got, in order, with its match, if it has one: the first that has its payload of the due pongs
-- after the last one matched
abbrev pub matches_of : List (InTurn Reply) → List (InTurn Reply) → List (InTurn Reply × Option (InTurn Reply))
matches_of due [] = []
matches_of due (pong ∷ pongs) = (pong, find (has_payload_of pong) due) ∷ matches_of (due_after pong due) pongs

-- The last due pong is there: the last pong that was got has its payload, and stands in no earlier turn than its ping.
-- Nothing is asked of the pongs before it.
pub record IsLastPong (dues gots : List (InTurn Reply)) : Type 0 where
  pub due : InTurn Reply
  pub is_due : last_or None dues ≡ Some due
  pub got : InTurn Reply
  pub is_got : last_or None gots ≡ Some got
  pub same : got.what ≡ due.what
  pub turn : due.turn ≤ got.turn

abbrev pub HasLastPong : Evidence → Type 0
HasLastPong x = IsLastPong (due_pongs x) (got_pongs x)

-- the pongs that were got, each with its match
abbrev pub matches : Evidence → List (InTurn Reply × Option (InTurn Reply))
matches x = matches_of (due_pongs x) (got_pongs x)
