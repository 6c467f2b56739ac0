-- Inside the crate: what more bytes can make of the frame under way, for contracts of private functions. A reader may
-- skip this file.
use Rattle.std.specs.Prelude.{◌≡◌, ℕ, true, List, ◌++◌, length, Option}
use Rattle.ws_wire.specs.Header.{HeaderFields, AreBytes}
use Rattle.ws_text.specs.Text.{IsText}
use Rattle.ws_text.specs.Close.{CloseValue, IsClosePayload}
use Rattle.ws_session.specs.declared.message.Message.{Message}
use Rattle.ws_session.specs.Faults.{IsOfText}

-- a text ends with the frame
abbrev pub EndsText : Option Message → HeaderFields → Type 0
EndsText opened header = (header.fin ≡ true) × IsOfText opened header

-- so many more bytes can make a text of these
abbrev pub CanEndText : List ℕ → ℕ → Type 0
CanEndText bytes left = (more : List ℕ) × (length more ≡ left) × IsText (bytes ++ more)

-- so many more bytes can make a close payload of these
abbrev pub CanEndClose : List ℕ → ℕ → Type 0
CanEndClose payload left = (more : List ℕ) × (length more ≡ left) × AreBytes more
    × ((close : Option CloseValue) × IsClosePayload (payload ++ more) close)
