-- Replies as they are kept: a list of heads beside the joined payloads.
use Rattle.std.specs.Prelude.{◌≡◌, ℕ, ◌+◌, ◌*◌, List, [], ◌∷◌, drop, length, take, Option, Some, None}
use Rattle.ws_session.specs.declared.message.Kind.TheVariants as kind
use Rattle.ws_suite.specs.declared.evidence.InTurn.{InTurn}
use Rattle.ws_suite.specs.declared.evidence.Reply.{Reply}
use Rattle.ws_suite.specs.declared.evidence.Reply.TheVariants as reply
use Rattle.ws_suite.specs.declared.evidence.kept.Head.{Head}
use Rattle.ws_suite.specs.declared.evidence.kept.Kept.{Kept}
use Rattle.ws_suite.specs.declared.evidence.kept.ReplyKind.{ReplyKind}
use Rattle.ws_suite.specs.declared.evidence.kept.ReplyKind.TheVariants.{Text, Binary, Pong, Ping}

-- the reply of this kind with this payload
abbrev pub reply_of : ReplyKind → List ℕ → Reply
reply_of Text payload = reply.Message (record { kind = kind.Text; payload = payload })
reply_of Binary payload = reply.Message (record { kind = kind.Binary; payload = payload })
reply_of Pong payload = reply.Pong payload
reply_of Ping payload = reply.Ping payload

-- a reply that is kept, without its turn and with it
abbrev pub what_of : Kept → Reply
what_of x = reply_of x.kind x.payload.now

abbrev pub reply_in : Kept → InTurn Reply
reply_in x = record { turn = x.turn; what = what_of x }

-- the first reply, if there is one, and those after it; nothing where there is none
abbrev pub first_of : Option Kept → List (InTurn Reply) → List (InTurn Reply)
first_of None others = []
first_of (Some x) others = reply_in x ∷ others

-- ---- inside the crate: a reader may skip what follows

-- the number of a turn, which a head keeps in two parts
unfoldable pub turn_in : Head → ℕ
turn_in head = head.turn_high * 4294967296 + head.turn_low

-- the head of a reply
pub record IsHeadOf (reply : Kept) (head : Head) : Type 0 where
  pub turn : turn_in head ≡ reply.turn
  pub len : head.len ≡ length reply.payload.now
  pub kind : head.kind ≡ reply.kind

-- each head with its part of the payloads
abbrev pub kept_replies : List Head → List ℕ → List (InTurn Reply)
kept_replies [] payloads = []
kept_replies (head ∷ heads) payloads =
    record { turn = turn_in head; what = reply_of head.kind (take head.len payloads) }
    ∷ kept_replies heads (drop head.len payloads)

-- how many bytes the payloads have in all
abbrev pub payloads_len : List Head → ℕ
payloads_len [] = 0
payloads_len (head ∷ heads) = head.len + payloads_len heads
