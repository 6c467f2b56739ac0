-- Scripts as text: a case's chop and its steps as lines, each of which ends with LF. A text tells no name.
use Rattle.std.specs.Prelude.{◌≡◌, ◌⊎◌, ℕ, ◌≤◌, ◌&&◌, ◌==◌, nat_lt, if◌then◌else◌, ⊤, Bool, true, false, List, []}
use Rattle.std.specs.Prelude.{◌∷◌, ◌++◌, length, map, codes}
use Rattle.std.specs.List.{AllByRecursion, AllZip, list_all}
use Rattle.std.specs.Fmt.{decimal}
use Rattle.ws_base.specs.Bytes.{AreBytes}
use Rattle.ws_formats.specs.Lines.{IsTextOfLines, ended}
use Rattle.ws_formats.specs.Words.{hex}
use Rattle.ws_formats.specs.Words.{bit_word, opcode_word}
use Rattle.ws_scripts.specs.declared.script.Step.{Step}
use Rattle.ws_scripts.specs.declared.script.Step.TheVariants.{Frame, Raw, Wait}
use Rattle.ws_scripts.specs.declared.script.Chop.{Chop}
use Rattle.ws_scripts.specs.declared.script.Chop.TheVariants.{Octets, PerFrame, Whole}
use Rattle.ws_scripts.specs.declared.script.Case.{Case}
use Rattle.ws_scripts.specs.declared.script_text.reading.Script.{Script}
use Rattle.ws_scripts.specs.declared.script_text.line.ScriptLine.{ScriptLine}
use Rattle.ws_scripts.specs.declared.script_text.line.ScriptLine.TheVariants.{Blank, Cut, Does}
use Rattle.ws_scripts.specs.ScriptLines.{IsScriptLine}
use Rattle.ws_scripts.specs.Scripts.{CanBeRun}

-- ---- scripts

-- the steps that lines tell, in their order
abbrev pub steps_in : List ScriptLine → List Step
steps_in [] = []
steps_in (Blank ∷ lines) = steps_in lines
steps_in (Cut chop ∷ lines) = steps_in lines
steps_in (Does step ∷ lines) = step ∷ steps_in lines

abbrev pub IsBlank : ScriptLine → Type 0
IsBlank Blank = ⊤
IsBlank (Cut chop) = ⊥
IsBlank (Does step) = ⊥

abbrev pub IsNoChop : ScriptLine → Type 0
IsNoChop Blank = ⊤
IsNoChop (Cut chop) = ⊥
IsNoChop (Does step) = ⊤

-- The lines are a script with this chop and these steps: no line tells the chop, and it is Whole; or one does, and only
-- comments and empty lines stand before it.
abbrev pub AreScriptLines : Chop → List Step → List ScriptLine → Type 0
AreScriptLines chop steps lines =
    (AllByRecursion IsNoChop lines × (chop ≡ Whole) × (steps ≡ steps_in lines))
    ⊎ ((blank rest : List ScriptLine) × AllByRecursion IsBlank blank × AllByRecursion IsNoChop rest
    × (lines ≡ blank ++ Cut chop ∷ rest) × (steps ≡ steps_in rest))

-- lines of these words are the script's chop and steps
abbrev pub TellLines : Script → List (List ℕ) → Type 0
TellLines script words =
    (lines : List ScriptLine) × AllZip IsScriptLine lines words × AreScriptLines script.chop script.steps lines

-- the text is lines that are the script
abbrev pub IsTextOfScript : Script → List ℕ → Type 0
IsTextOfScript script text = IsTextOfLines TellLines script text

-- a case without its name
abbrev pub script_in : Case → Script
script_in case = record { steps = case.steps; chop = case.chop }

-- the text is a text of the case
abbrev pub IsScriptText : Case → List ℕ → Type 0
IsScriptText case text = IsTextOfScript (script_in case) text

-- ---- writing

-- more than sixteen bytes, of which each is the same, and no more than can be told by a number
abbrev pub is_counted : ℕ → List ℕ → Bool
is_counted byte bytes = nat_lt 16 (length bytes)
    && (nat_lt (length bytes) 16777217 && list_all (λ (other : ℕ). other == byte) bytes)

-- a dash for none; one byte so many times; or two digits each
abbrev pub written_data : List ℕ → List ℕ
written_data [] = codes "-"
written_data (byte ∷ bytes) =
    if is_counted byte (byte ∷ bytes)
    then hex (byte ∷ []) ++ (codes "*" ++ decimal (length (byte ∷ bytes)))
    else hex (byte ∷ bytes)

-- the fields stand only where FIN isn't set, and where a reserved bit is
abbrev pub written_fin : Bool → List ℕ
written_fin true = []
written_fin false = codes " fin=" ++ bit_word false

abbrev pub written_rsv : ℕ → List ℕ
written_rsv rsv = if rsv == 0 then [] else codes " rsv=" ++ decimal rsv

abbrev pub written_step : Step → List ℕ
written_step (Frame fin rsv opcode payload) =
    opcode_word opcode ++ (written_fin fin ++ (written_rsv rsv ++ (codes " " ++ written_data payload)))
written_step (Raw bytes) = codes "raw " ++ written_data bytes
written_step Wait = codes "wait"

-- the chop's line stands unless the turns are whole
abbrev pub written_chop : Chop → List (List ℕ)
written_chop Whole = []
written_chop PerFrame = codes "chop frames" ∷ []
written_chop (Octets n) = (codes "chop octets " ++ decimal n) ∷ []

-- what writing a case gives: its chop's line, and a line for each step
abbrev pub written_script : Case → List ℕ
written_script case = ended (written_chop case.chop ++ map written_step case.steps)

-- what the step holds are bytes
abbrev pub HoldsStepBytes : Step → Type 0
HoldsStepBytes (Frame fin rsv opcode payload) = AreBytes payload
HoldsStepBytes (Raw bytes) = AreBytes bytes
HoldsStepBytes Wait = ⊤

-- the case can be run, what it holds are bytes, and its pieces are cut by a number of at most 32 bits
pub record CanBeWritten (case : Case) : Type 0 where
  pub runs : CanBeRun case
  pub bytes : AllByRecursion HoldsStepBytes case.steps
  pub small : (n : ℕ) → case.chop ≡ Octets n → n ≤ 4294967295
