-- What is told of the close frames of a script whose data look like a code.
use Rattle.std.specs.Prelude.{◌≡◌, ℕ, zero, suc, ◌+◌, ◌-◌, ◌*◌, ◌==◌, nat_eq, Bool, ◌&&◌, ◌||◌, if◌then◌else◌}
use Rattle.std.specs.Prelude.{List, [], ◌∷◌, ◌++◌, drop, codes, Option, Some, None}
use Rattle.std.specs.Char.{is_ascii_digit}
use Rattle.std.specs.Fmt.{decimal}
use Rattle.std.specs.List.{concat, starts_with}
use Rattle.wst_commands.specs.StepDamages.{behind_lines, cut_of}
use Rattle.wst_commands.specs.declared.close_codes.DigitCode.{DigitCode}

-- four digits, of which the first is 1, 3 or 4
abbrev pub is_code : ℕ → ℕ → ℕ → ℕ → Bool
is_code a b c d =
    (a == 49 || a == 51 || a == 52) && is_ascii_digit b && is_ascii_digit c && is_ascii_digit d

-- what four digits are to a base
abbrev pub value_of : ℕ → ℕ → ℕ → ℕ → ℕ → ℕ
value_of base a b c d =
    ((a - 48) * base + (b - 48)) * base * base + ((c - 48) * base + (d - 48))

-- the word looks like a code: which, and which it is as data, two bytes of two hexadecimal digits each
abbrev pub code_word : List ℕ → Option DigitCode
code_word (a ∷ b ∷ c ∷ d ∷ []) =
    if is_code a b c d then Some (record { told = value_of 10 a b c d; sent = value_of 16 a b c d }) else None
code_word _ = None

-- so are the data of a close frame without other fields
abbrev pub code_in : List ℕ → Option DigitCode
code_in line = if starts_with nat_eq line (codes "close ") then code_word (drop 6 line) else None

-- the line that tells of it
abbrev pub code_note : ℕ → DigitCode → List ℕ
code_note number code = concat (codes "line " ∷ decimal number ∷ codes ": close " ∷ decimal code.told
    ∷ codes " is code " ∷ decimal code.sent ∷ codes "; close=" ∷ decimal code.told ∷ codes " is code "
    ∷ decimal code.told ∷ codes "\n" ∷ [])

abbrev pub noted : ℕ → Option DigitCode → List ℕ
noted number None = []
noted number (Some code) = code_note number code

-- what is told of the line of this number
abbrev pub note_at : ℕ → List ℕ → List ℕ
note_at number line = noted number (code_in line)

abbrev pub cut_note : ℕ → Option (List ℕ × List ℕ) → List ℕ
cut_note number None = []
cut_note number (Some parts) = note_at number parts.0

-- what is told of so many lines, from the first on
abbrev pub notes_before : ℕ → List ℕ → List ℕ
notes_before zero script = []
notes_before (suc count) script =
    notes_before count script ++ cut_note (count + 1) (cut_of 10 (behind_lines count script))

-- what is told of all lines: behind the last of them no line ends
abbrev pub HasCodeNotes : List ℕ → List ℕ → Type 0
HasCodeNotes script notes =
    (count : ℕ) × (cut_of 10 (behind_lines count script) ≡ None) × (notes ≡ notes_before count script)
