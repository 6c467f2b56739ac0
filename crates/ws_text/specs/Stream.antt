-- A text that comes in pieces (RFC 6455 section 8.1: a message is checked as a whole, and a fragment
-- may end inside a character).
use Rattle.std.specs.Prelude.{◌≡◌, ℕ, ◌+◌, ◌<◌, ◌≤◌, List, ◌++◌, length, take, Option, Some, None}
use Rattle.ws_text.specs.Text.{IsText, BeginsText, HasUnfinished}

-- A stream is seen as the unfinished character that it keeps, or as nothing once it has failed.

-- the stream has read this text, and none of it was refused
abbrev pub HasReadText : Option (List ℕ) → List ℕ → Type 0
HasReadText None text = ⊥
HasReadText (Some tail) text = HasUnfinished text tail

-- a piece was refused
abbrev pub HasFailed : Option (List ℕ) → Type 0
HasFailed stream = stream ≡ None

-- the piece goes on with the text up to this place, and with the byte there nothing can complete it
pub record BreaksTextAt (text piece : List ℕ) (place : ℕ) : Type 0 where
  pub within : place < length piece
  pub before : BeginsText (text ++ take place piece)
  pub after : ¬ BeginsText (text ++ take (place + 1) piece)

-- The number of bytes that the text so far still wants: (1) no fewer bytes complete it; (2) some that many do. It is 0
-- where the text so far is a text. Nothing is asked of what follows the bytes that complete it
pub record IsWanted (text : List ℕ) (count : ℕ) : Type 0 where
  pub least : (more : List ℕ) → IsText (text ++ more) → count ≤ length more
  pub enough : (more : List ℕ) × (length more ≡ count) × IsText (text ++ more)
