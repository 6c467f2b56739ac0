-- Inside the crate: what a whole frame holds, for contracts of private functions. A reader may skip this file.
use Rattle.std.specs.Prelude.{ℕ, Bool, List, Option}
use Rattle.ws_text.specs.Close.{CloseValue}
use Rattle.ws_session.specs.declared.message.Kind.{Kind}

-- a data frame: FIN, and the kind of its message, whose payload with this frame stands in the assembly, read by the
-- stream where it is text; or a control frame with its payload, or with what a close says
pub data Content : Type 0 where
  Data : Bool → Kind → Option (List ℕ) → Content
  Ping : List ℕ → Content
  Pong : List ℕ → Content
  Close : Option CloseValue → Content
