-- Texts of lines, each of which ends with LF; and, for any format of such texts, where a text is damaged.
use Rattle.std.specs.Prelude.{◌≡◌, ◌≢◌, ℕ, ◌<◌, All, List, [], ◌∷◌, ◌++◌, length}
use Rattle.std.specs.List.{AllByRecursion, flat_map}
use Rattle.ws_base.specs.declared.text_fault.TextFault.{TextFault}
use Rattle.ws_base.specs.declared.text_fault.TextFault.TheVariants.{Damaged}

abbrev pub line_feed : ℕ
line_feed = 10

-- a line, without the LF that ends it
abbrev pub IsLine : List ℕ → Type 0
IsLine line = All (λ byte. byte ≢ line_feed) line

-- these lines, one after the other, each ended by LF
abbrev pub ended : List (List ℕ) → List ℕ
ended lines = flat_map (λ line. line ++ line_feed ∷ []) lines

-- ---- formats in which each line tells one value

-- the text has a line for each of the values, in their order
abbrev pub HasLineForEach : {T : Type 0} → (T → List ℕ → Type 0) → List T → List ℕ → Type 0
HasLineForEach IsLineOf [] text = text ≡ []
HasLineForEach IsLineOf (value ∷ values) text = (line : List ℕ) × (rest : List ℕ)
    × (text ≡ line ++ line_feed ∷ rest) × IsLine line × IsLineOf value line × HasLineForEach IsLineOf values rest

-- ---- formats in which lines together tell a value: `Tell value lines` says that these lines tell it

-- the text is lines that tell the value, each ended by LF
abbrev pub IsTextOfLines : {T : Type 0} → (T → List (List ℕ) → Type 0) → T → List ℕ → Type 0
IsTextOfLines Tell value text =
    (lines : List (List ℕ)) × AllByRecursion IsLine lines × Tell value lines × (text ≡ ended lines)

-- some lines tell a value
abbrev pub CanBeTold : {T : Type 0} → (T → List (List ℕ) → Type 0) → Type 0
CanBeTold {T = T} Tell = (value : T) × (lines : List (List ℕ)) × AllByRecursion IsLine lines × Tell value lines

-- ---- damaged texts, in any format: `IsTextOf value text` says that the text tells the value

-- The text has so many lines that are ended by LF, and some text of the format begins with them.
pub record BeginsWithLines {T : Type 0} (IsTextOf : T → List ℕ → Type 0) (n : ℕ) (text : List ℕ) : Type 0 where
  pub lines : List (List ℕ)
  pub are_lines : AllByRecursion IsLine lines
  pub number : length lines ≡ n
  pub rest : List ℕ
  pub has : text ≡ ended lines ++ rest
  pub value : T
  pub more : List ℕ
  pub begins : IsTextOf value (ended lines ++ more)

-- The text tells no value, and n, counted from 1, is the first line that shows it: the lines before it begin some text
-- of the format, and with it they begin none, or it has no LF or isn't there.
pub record IsDamagedAt {T : Type 0} (IsTextOf : T → List ℕ → Type 0) (n : ℕ) (text : List ℕ) : Type 0 where
  pub none : (value : T) → IsTextOf value text → ⊥
  pub from_one : 0 < n
  pub before : (m : ℕ) → m < n → BeginsWithLines IsTextOf m text
  pub damaged : BeginsWithLines IsTextOf n text → ⊥

-- what a fault tells of a text: where it names a line, the text is damaged at that line
abbrev pub Damages : {T : Type 0} → (T → List ℕ → Type 0) → TextFault → List ℕ → Type 0
Damages IsTextOf fault text = (n : ℕ) → fault ≡ Damaged n → IsDamagedAt IsTextOf n text
