-- Inside the crate: the marks with which lines of bytes begin. A reader may skip this file.
use Rattle.std.specs.Prelude.{◌≡◌, ℕ, ◌==◌, if◌then◌else◌, List, [], ◌∷◌, Option, Some, None}
use Rattle.std.specs.Borrow.{Bor}
use Rattle.ws_capture_text.specs.declared.mark.Mark.{Mark}
use Rattle.ws_capture_text.specs.declared.mark.Mark.TheVariants.{Sent, Got}

-- the letter of a mark
abbrev pub letter : Mark → ℕ
letter Sent = 62
letter Got = 60

abbrev pub mark_by : ℕ → Option Mark
mark_by byte = if byte == 62 then Some Sent else (if byte == 60 then Some Got else None)

abbrev pub with_word : Option Mark → List ℕ → Option (Mark × List ℕ)
with_word None word = None
with_word (Some mark) word = Some (mark, word)

-- the mark of a line and the word behind it, where the line begins with the letter of a mark and a space
abbrev pub parted : List ℕ → Option (Mark × List ℕ)
parted [] = None
parted (byte ∷ []) = None
parted (byte ∷ next ∷ word) = if next == 32 then with_word (mark_by byte) word else None

abbrev pub CutsMark : List ℕ → Option (Mark × Bor (List ℕ)) → Type 0
CutsMark line None = parted line ≡ None
CutsMark line (Some parts) = parted line ≡ Some (parts.0, parts.1.now)
