-- A run of `cases`: the names of cases and their numbers of turns, or their titles, are written, a line each; or a case
-- as text.
use Rattle.std.specs.Prelude.{◌≡◌, ℕ, Bool, List, [], ◌∷◌, Option, Some, None, Result, Ok, Err, MatchResult}
use Rattle.std.specs.Prelude.{if◌then◌else◌, codes, flat_map, length, string_bytes}
use Rattle.std.specs.Borrow.{Bor}
use Rattle.std.specs.List.{concat}
use Rattle.std.specs.Fmt.{decimal}
use Rattle.ws_frame.specs.Devices.{Device, IsUntouched}
use Rattle.ws_scripts.specs.Scripts.{turns_of}
use Rattle.ws_scripts.specs.ScriptTexts.{written_script}
use Rattle.ws_scripts.specs.declared.script.Case.{Case}
use Rattle.ws_titles.specs.Titles.{title_of}
use Rattle.wst_words.specs.declared.cases.CasesOptions.{CasesOptions}
use Rattle.wst_commands.specs.Devices.{Delivers}
use Rattle.wst_commands.specs.GivenCases.{AreCasesFor, LackCases, TellsNoCases, is_glob}
use Rattle.wst_commands.specs.declared.exit.Exit.{Exit}
use Rattle.wst_commands.specs.declared.exit.Exit.TheVariants.{Done}
use Rattle.wst_commands.specs.declared.given_cases.NoCases.{NoCases}

-- the line of a case: its name, and how many turns it has
abbrev pub case_line : Case → List ℕ
case_line case =
    concat (string_bytes case.id ∷ codes " " ∷ decimal (length (turns_of case.steps)) ∷ codes "\n" ∷ [])

-- the line of a case with its title
abbrev pub titled_line : Case → List ℕ
titled_line case =
    concat (string_bytes case.id ∷ codes " " ∷ title_of (string_bytes case.id) ∷ codes "\n" ∷ [])

-- the word that `cases` is given, a star where it is given none
abbrev pub asked_for : Option (Bor (List ℕ)) → List ℕ
asked_for None = codes "*"
asked_for (Some word) = word.now

-- what is written of cases for a word: if titles are asked for, the line of each with its title; if the word ends in a
-- star, the line of each; else the one case as text
abbrev pub cases_text : Bool → List ℕ → List Case → List ℕ
cases_text with_titles word cases = if with_titles then flat_map titled_line cases
    else (if is_glob word then flat_map case_line cases else flat_map written_script cases)

-- what is asked for of the cases for which the word stands was written; or there are none, and nothing was
abbrev pub WritesCases : Bool → List ℕ → Result Exit NoCases → Device → Type 0
WritesCases with_titles word ended output = MatchResult ended
    (λ exit. (cases : List Case) × AreCasesFor (word ∷ []) cases
    × Delivers Done (cases_text with_titles word cases) exit output)
    (λ why. LackCases (word ∷ []) why × IsUntouched output)

-- how that ended is told
abbrev pub EndsCases : Result Exit NoCases → Exit → Device → Type 0
EndsCases (Ok ended) exit faults = (exit ≡ ended) × IsUntouched faults
EndsCases (Err why) exit faults = TellsNoCases why exit faults

-- a run of `cases`
abbrev pub ListsCases : CasesOptions → Exit → Device → Device → Type 0
ListsCases options exit output faults = (ended : Result Exit NoCases)
    × WritesCases options.titles (asked_for options.id) ended output × EndsCases ended exit faults
