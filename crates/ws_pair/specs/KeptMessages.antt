-- Messages as they are kept: a list of heads beside the joined payloads.
use Rattle.std.specs.Prelude.{ℕ, ◌+◌, List, [], ◌∷◌, drop, take, Option, Some, None}
use Rattle.ws_session.specs.declared.message.Kind.{Kind}
use Rattle.ws_session.specs.declared.message.Message.{Message}
use Rattle.ws_pair.specs.declared.messages.Head.{Head}
use Rattle.ws_pair.specs.declared.messages.MessageRef.{MessageRef}

-- messages, as a list that keeps them shows them
pub record MessageList : Type 0 where
  pub items : List Message

abbrev pub whole_message : Kind → List ℕ → Message
whole_message kind payload = record { kind = kind; payload = payload }

-- the first message, if there is one, and those after it; nothing where there is none
abbrev pub first_message : Option MessageRef → List Message → List Message
first_message None others = []
first_message (Some x) others = whole_message x.kind x.payload.now ∷ others

-- ---- inside the crate: a reader may skip what follows

-- each head with its part of the payloads
abbrev pub kept_messages : List Head → List ℕ → List Message
kept_messages [] payloads = []
kept_messages (head ∷ heads) payloads =
    whole_message head.kind (take head.len payloads) ∷ kept_messages heads (drop head.len payloads)

-- how many bytes the payloads have in all
abbrev pub kept_len : List Head → ℕ
kept_len [] = 0
kept_len (head ∷ heads) = head.len + kept_len heads
