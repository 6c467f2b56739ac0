-- What the readers of words and lines answer, what digits spell, and inside the crate their steps. A reader may skip
-- the steps.
use Rattle.std.specs.Prelude.{◌≡◌, ◌≢◌, All, ℕ, ◌/◌, ◌%◌, ◌<◌, ◌⊎◌, false, List, ◌∷◌, ◌++◌, length, slice_index, Option}
use Rattle.std.specs.Prelude.{Some, None, Result, Ok, Err}
use Rattle.std.specs.List.{AllZip}
use Rattle.std.specs.Fmt.{digit_glyph}
use Rattle.std.specs.Borrow.{Bor}
use Rattle.ws_formats.specs.Words.{hex, space}
use Rattle.ws_base.specs.Bytes.{AreBytes}
use Rattle.ws_formats.specs.Lines.{line_feed, IsLine}
use Rattle.ws_base.specs.declared.text_fault.LineFault.{LineFault}
use Rattle.ws_base.specs.declared.text_fault.LineFault.TheVariants.{Damaged}

-- a value of which this holds, or there is none, or memory ran out
abbrev pub Reads : {T : Type 0} → Result T LineFault → (T → Type 0) → Type 0
Reads (Ok value) P = P value
Reads {T = T} (Err fault) P = fault ≡ Damaged → (value : T) → P value → ⊥

-- a room has the bytes of which this holds, or there are none, or memory ran out
abbrev pub ReadsInto : {U : Type 0} → List ℕ → Result U LineFault → (List ℕ → Type 0) → Type 0
ReadsInto room (Ok done) P = P room
ReadsInto room (Err fault) P = fault ≡ Damaged → (bytes : List ℕ) → P bytes → ⊥

-- What taking a line into a part of a text answers, where `Tell part value lines` says that with these lines after the
-- part the whole tells the value: a longer part, or that no text goes on so, or memory ran out. What follows the longer
-- part tells the value with the line before it, and what the part goes on with after the line goes on after the longer.
abbrev pub TakesLine : {P T : Type 0} → (P → T → List (List ℕ) → Type 0) → P → List ℕ → Result P LineFault → Type 0
TakesLine {T = T} Tell part line (Ok longer) = (value : T) (more : List (List ℕ)) →
    (Tell part value (line ∷ more) → (other : T) × Tell longer other more)
    × (Tell longer value more → Tell part value (line ∷ more))
TakesLine {T = T} Tell part line (Err fault) =
    fault ≡ Damaged → (value : T) (more : List (List ℕ)) → Tell part value (line ∷ more) → ⊥

-- the first line of a text, and what stands behind its LF; without an LF there is none
abbrev pub CutsLine : List ℕ → Option (Bor (List ℕ) × Bor (List ℕ)) → Type 0
CutsLine text None = IsLine text
CutsLine text (Some parts) = (text ≡ parts.0.now ++ line_feed ∷ parts.1.now) × IsLine parts.0.now

-- ---- digits

-- a lower-case hexadecimal digit
abbrev pub IsDigit : ℕ → Type 0
IsDigit digit = (value : ℕ) × (value < 16) × (digit_glyph false value ≡ digit)

-- each of these is one
abbrev pub AreDigits : List ℕ → Type 0
AreDigits word = (i : ℕ) → i < length word → IsDigit (slice_index word i)

-- pairs of digits spell the bytes
abbrev pub ArePairs : List ℕ → List ℕ → Type 0
ArePairs bytes word = AreBytes bytes × (word ≡ hex bytes)

-- ---- steps

-- the values are the old ones and then one for each of the lines
abbrev pub TellFurther : {T : Type 0} → (T → List ℕ → Type 0) → List T → List T → List (List ℕ) → Type 0
TellFurther {T = T} IsLineOf old values lines = (new : List T) × (values ≡ old ++ new) × AllZip IsLineOf new lines

-- two digits spell the byte
abbrev pub IsPair : ℕ → ℕ → ℕ → Type 0
IsPair byte high low = (byte < 256) × (high ≡ digit_glyph false (byte / 16)) × (low ≡ digit_glyph false (byte % 16))

-- a plus stands first, or a zero with something behind it
abbrev pub BeginsOddly : List ℕ → Type 0
BeginsOddly word = (slice_index word 0 ≡ 43) ⊎ ((slice_index word 0 ≡ 48) × (1 < length word))

-- a word, without a space
abbrev pub IsWord : List ℕ → Type 0
IsWord word = All (λ byte. byte ≢ space) word

-- the first word of a line, and what stands behind its space; without a space there is none
abbrev pub CutsFirstWord : List ℕ → Option (Bor (List ℕ) × Bor (List ℕ)) → Type 0
CutsFirstWord line None = IsWord line
CutsFirstWord line (Some parts) = (line ≡ parts.0.now ++ space ∷ parts.1.now) × IsWord parts.0.now
