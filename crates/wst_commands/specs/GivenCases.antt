-- The cases that the words of a command line stand for: a word is the name of a case, or what such names begin with,
-- and a star.
use Rattle.std.specs.Prelude.{◌≡◌, ◌≢◌, ◌⊎◌, ⊤, ℕ, ◌-◌, ◌==◌, ◌&&◌, ◌||◌, nat_eq, not, Bool, true, false}
use Rattle.std.specs.Prelude.{if◌then◌else◌, List, [], ◌∷◌, ◌++◌, codes, filter, flat_map, length, map}
use Rattle.std.specs.Prelude.{slice_index, string_bytes, take}
use Rattle.std.specs.Borrow.{Bor}
use Rattle.std.specs.List.{All, Contains, concat, list_any, starts_with}
use Rattle.ws_frame.specs.Devices.{Device}
use Rattle.ws_scripts.specs.CaseNames.{case_names}
use Rattle.ws_scripts.specs.Scripts.{CanBeRun}
use Rattle.ws_scripts.specs.declared.script.Case.{Case}
use Rattle.wst_commands.specs.Devices.{Tells}
use Rattle.wst_commands.specs.Faults.{LacksMemory}
use Rattle.wst_commands.specs.ShownWords.{shown_word}
use Rattle.wst_commands.specs.declared.exit.Exit.{Exit}
use Rattle.wst_commands.specs.declared.exit.Exit.TheVariants.{WrongWords}
use Rattle.wst_commands.specs.declared.given_cases.NoCases.{NoCases}
use Rattle.wst_commands.specs.declared.given_cases.NoCases.TheVariants.{NoMemory, NoSuchCase}

-- ---- what a word stands for

-- its last byte is a star
abbrev pub is_glob : List ℕ → Bool
is_glob word = slice_index word (length word - 1) == 42

-- the name is meant by what stands before a star: it begins with that, and with `x` only where that does too
abbrev pub is_meant : List ℕ → List ℕ → Bool
is_meant front name = starts_with nat_eq name front
    && (not (starts_with nat_eq name (codes "x")) || starts_with nat_eq front (codes "x"))

-- The ids for which a word stands among these names, in the order of the names: the word itself; if it ends in a star,
-- the names that are meant by what is in front of the star.
abbrev pub ids_for : List (List ℕ) → List ℕ → List (List ℕ)
ids_for names word = if is_glob word then filter (is_meant (take (length word - 1) word)) names else word ∷ []

-- the ids for which a word stands among the names of all cases, which are in the order of the table
unfoldable pub ids_of : List ℕ → List (List ℕ)
ids_of word = ids_for case_names word

-- these ids are names of cases, and there is at least one
pub record NameCases (ids : List (List ℕ)) : Type 0 where
  pub some : ids ≢ []
  pub named : All (Contains case_names) ids

-- ---- the cases of words

-- these are cases with these names
pub record AreCasesOf (names : List (List ℕ)) (cases : List Case) : Type 0 where
  pub can_be_run : All CanBeRun cases
  pub named : map (λ case. string_bytes case.id) cases ≡ names

-- the cases for which the words stand, those of each word in its place; each word stands for at least one case
pub record AreCasesFor (words : List (List ℕ)) (cases : List Case) : Type 0 where
  pub have : AreCasesOf (flat_map ids_of words) cases
  pub some : All (λ word. NameCases (ids_of word)) words

-- the words that are given; where there are none, a star: all cases but those whose names begin with `x`
abbrev pub or_all : List (List ℕ) → List (List ℕ)
or_all [] = codes "*" ∷ []
or_all (word ∷ words) = word ∷ words

-- this is the first of the words that stands for no case: those in front of it have their cases
pub record IsFirstWithout (words : List (List ℕ)) (word : List ℕ) : Type 0 where
  pub before : List (List ℕ)
  pub after : List (List ℕ)
  pub split : words ≡ before ++ word ∷ after
  pub cases : List Case
  pub have : AreCasesFor before cases
  pub none : ¬ (NameCases (ids_of word))

-- why there are no cases for the words: this word is the first that stands for none; or memory ran out
abbrev pub LackCases : List (List ℕ) → NoCases → Type 0
LackCases words (NoSuchCase word) = IsFirstWithout words word.now
LackCases words NoMemory = ⊤

-- ---- what is told

-- a byte of addresses and paths that no name of a case has: a colon, or a slash
abbrev pub is_address_byte : ℕ → Bool
is_address_byte byte = byte == 58 || byte == 47

-- what to type instead: a word with such a byte may be a target, and stand behind its place
abbrev pub case_advice : List ℕ → List ℕ
case_advice id =
    if list_any is_address_byte id
    then codes "TARGET comes before IDs, and --known reads stdin: wst test --known TARGET '2.*' < known.txt"
    else codes "wst cases lists them; a star stands for a group: '2.*'"

-- the lines that tell that there is no such case, and what to type instead
abbrev pub no_case_line : List ℕ → List ℕ
no_case_line id = concat (codes "no such case: " ∷ shown_word id ∷ codes "\n  " ∷ case_advice id ∷ codes "\n" ∷ [])

-- what is told where there are no cases for the words, and the exit
abbrev pub TellsNoCases : NoCases → Exit → Device → Type 0
TellsNoCases (NoSuchCase id) exit faults =
    ((exit ≡ WrongWords) × Tells (no_case_line id.now) faults) ⊎ LacksMemory exit faults
TellsNoCases NoMemory exit faults = LacksMemory exit faults

-- ---- inside the crate: a reader may skip what follows

-- the bytes of borrowed words
abbrev pub names_of : List (Bor (List ℕ)) → List (List ℕ)
names_of words = map (λ word. word.now) words

-- among these names each of the words stands for the ids for which it stands among all names
abbrev pub AreNamesFor : List (Bor (List ℕ)) → List (List ℕ) → Type 0
AreNamesFor words names = All (λ word. ids_for names word.now ≡ ids_of word.now) words

-- none of the words ends in a star
abbrev pub HaveNoGlob : List (Bor (List ℕ)) → Type 0
HaveNoGlob words = All (λ word. is_glob word.now ≡ false) words

-- a case with this name was put at the end; or there is none
abbrev pub GrowsByCase : List ℕ → Bool → List Case → List Case → Type 0
GrowsByCase name true old new = Contains case_names name
    × ((case : Case) × CanBeRun case × (string_bytes case.id ≡ name) × (new ≡ old ++ case ∷ []))
GrowsByCase name false old new = ¬ (Contains case_names name)

-- the cases with these names, of which there is one, were put at the end; or there is none, or a name has no case
abbrev pub GrowsByCases : List (List ℕ) → Bool → List Case → List Case → Type 0
GrowsByCases names true old new =
    NameCases names × ((more : List Case) × AreCasesOf names more × (new ≡ old ++ more))
GrowsByCases names false old new = ¬ (NameCases names)
