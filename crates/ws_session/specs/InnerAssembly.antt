-- Inside the crate: the open message as it is kept, for contracts of private functions. A reader may skip this file.
use Rattle.std.specs.Prelude.{ℕ, List, [], Option, Some, None}
use Rattle.ws_text.specs.Stream.{HasReadText}
use Rattle.ws_session.specs.declared.message.Message.{Message}
use Rattle.ws_session.specs.Validity.{OfText}

-- the stream has read the message's payload, where it is text
abbrev pub IsTextOf : Message → Option (List ℕ) → Type 0
IsTextOf message text = OfText message.kind (HasReadText text message.payload)

-- the stream has read what is open, where that may go on as text
abbrev pub HasReadOpen : Option Message → Option (List ℕ) → Type 0
HasReadOpen None text = HasReadText text []
HasReadOpen (Some message) text = IsTextOf message text
