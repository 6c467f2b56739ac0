-- Inside the crate: the words of a script's line as they are cut from its front, what a line makes of what was read of
-- a script, and the parts of a written one. A reader may skip this file.
use Rattle.std.specs.Prelude.{◌≡◌, ◌≢◌, ◌⊎◌, ℕ, ◌≤◌, All, ⊤, Bool, true, List, [], ◌∷◌, ◌++◌, codes, length, flat_map}
use Rattle.std.specs.Prelude.{Option, Some, None, refl}
use Rattle.std.specs.Borrow.{Bor}
use Rattle.std.specs.List.{AllZip}
use Rattle.ws_wire.specs.declared.header.Form.{Form}
use Rattle.ws_wire.specs.Header.{IsMaskingKey}
use Rattle.ws_formats.specs.Lines.{CanBeTold}
use Rattle.ws_scripts.specs.declared.script.Step.{Step}
use Rattle.ws_scripts.specs.declared.script.Chop.{Chop}
use Rattle.ws_scripts.specs.declared.script.Chop.TheVariants.{Octets, PerFrame, Whole}
use Rattle.ws_scripts.specs.declared.script.Case.{Case}
use Rattle.ws_scripts.specs.declared.script_text.fields.FrameFields.{FrameFields}
use Rattle.ws_scripts.specs.declared.script_text.fields.Layout.{Layout}
use Rattle.ws_scripts.specs.declared.script_text.fields.Layout.TheVariants.{Own, Tester}
use Rattle.ws_scripts.specs.declared.script_text.frame_line.FrameName.{FrameName}
use Rattle.ws_scripts.specs.declared.script_text.line.ScriptLine.{ScriptLine}
use Rattle.ws_scripts.specs.declared.script_text.line.ScriptLine.TheVariants.{Blank, Cut, Does}
use Rattle.ws_scripts.specs.declared.script_text.reading.PartialScript.{PartialScript}
use Rattle.ws_scripts.specs.declared.script_text.reading.Script.{Script}
use Rattle.ws_scripts.specs.ScriptLines.{FormFits, IsFinWord, IsFormValue, IsKeyValue, IsPayloadField, IsRsvWord}
use Rattle.ws_scripts.specs.ScriptLines.{IsScriptLine, frame_step, named_opcode}
use Rattle.std.specs.Fmt.{decimal}
use Rattle.ws_scripts.specs.ScriptTexts.{written_step}

-- ---- words

abbrev pub NoSpace : List ℕ → Type 0
NoSpace word = All (λ byte. byte ≢ 32) word

-- the end of a line, or a space and what follows
abbrev pub IsRest : List ℕ → Type 0
IsRest text = (text ≡ []) ⊎ ((more : List ℕ) × (text ≡ 32 ∷ more))

-- a word at the front, and the rest
abbrev pub CutsWord : List ℕ → List ℕ → List ℕ → Type 0
CutsWord text word rest = (text ≡ word ++ rest) × NoSpace word × IsRest rest

-- the text doesn't begin with the name
abbrev pub Lacks : List ℕ → List ℕ → Type 0
Lacks name text = (more : List ℕ) → text ≡ name ++ more → ⊥

-- what stands after the name, or the text doesn't begin with it
abbrev pub CutsFront : List ℕ → List ℕ → Option (Bor (List ℕ)) → Type 0
CutsFront name text None = Lacks name text
CutsFront name text (Some after) = text ≡ name ++ after.now

-- what stands before the last part, or the text doesn't end with it
abbrev pub EndsIn : List ℕ → List ℕ → Option (Bor (List ℕ)) → Type 0
EndsIn part text None = (front : List ℕ) → text ≡ front ++ part → ⊥
EndsIn part text (Some front) = text ≡ front.now ++ part

-- a value and the rest of which this holds, or there are none
abbrev pub FindsCut : {T : Type 0} → (T → List ℕ → Type 0) → Option (T × Bor (List ℕ)) → Type 0
FindsCut P (Some found) = P found.0 found.1.now
FindsCut {T = T} P None = (value : T) (rest : List ℕ) → P value rest → ⊥

-- the word after the name and the rest, or the text doesn't begin with the name
abbrev pub TakesField : List ℕ → List ℕ → Option (Bor (List ℕ) × Bor (List ℕ)) → Type 0
TakesField name text None = Lacks name text
TakesField name text (Some parts) =
    (text ≡ name ++ (parts.0.now ++ parts.1.now)) × NoSpace parts.0.now × IsRest parts.1.now

-- ---- fields

-- the value of a field at the front and the rest, or the usual value where there is no such field
abbrev pub CutsField : {T : Type 0} → List ℕ → T → (T → List ℕ → Type 0) → T → List ℕ → List ℕ → Type 0
CutsField {T = T} name usual IsValue value rest text =
    ((value ≡ usual) × (rest ≡ text) × Lacks name text)
    ⊎ ((word : List ℕ) × IsValue value word × IsRest rest × (text ≡ name ++ (word ++ rest)))

abbrev pub CutsFin : Bool → List ℕ → List ℕ → Type 0
CutsFin fin rest text = CutsField (codes " fin=") true IsFinWord fin rest text

abbrev pub CutsRsv : ℕ → List ℕ → List ℕ → Type 0
CutsRsv rsv rest text = CutsField (codes " rsv=") 0 IsRsvWord rsv rest text

abbrev pub CutsForm : Option Form → List ℕ → List ℕ → Type 0
CutsForm form rest text = CutsField (codes " form=") None IsFormValue form rest text

abbrev pub CutsLayout : Layout → List ℕ → List ℕ → Type 0
CutsLayout Tester rest text = (rest ≡ text) × Lacks (codes " key=") text
CutsLayout (Own key form) rest text = (word after : List ℕ) × IsKeyValue key word × IsRest after
    × (text ≡ codes " key=" ++ (word ++ after)) × CutsForm form rest after

-- the fields of a frame at the front, and the rest
abbrev pub CutsFields : FrameFields → List ℕ → List ℕ → Type 0
CutsFields fields rest text = (second third : List ℕ) × CutsFin fields.fin second text
    × CutsRsv fields.rsv third second × CutsLayout fields.layout rest third

-- the rest of a frame's line, after its first word, tells the step
pub record IsFrameRest (name : FrameName) (step : Step) (text : List ℕ) : Type 0 where
  pub fields : FrameFields
  pub payload : List ℕ
  pub last : List ℕ
  pub cut : CutsFields fields last text
  pub is_payload : IsPayloadField name payload last
  pub fits : FormFits fields.layout (length payload)
  pub is_step : step ≡ frame_step fields (named_opcode name) payload

-- the step of a frame with these fields, where its form holds its length
abbrev pub IsLaidOut : FrameFields → ℕ → List ℕ → Step → Type 0
IsLaidOut fields opcode payload step =
    FormFits fields.layout (length payload) × (step ≡ frame_step fields opcode payload)

-- the masking key, where there is one, is four bytes
abbrev pub HasMaskingKey : Layout → Type 0
HasMaskingKey Tester = ⊤
HasMaskingKey (Own key form) = IsMaskingKey key

-- reserved numbers of an opcode (RFC 6455 section 5.2)
abbrev pub IsReserved : ℕ → Type 0
IsReserved opcode = ((3 ≤ opcode) × (opcode ≤ 7)) ⊎ ((11 ≤ opcode) × (opcode ≤ 15))

-- ---- lines

abbrev pub part_of : Option Chop → List Step → PartialScript
part_of chop steps = record { chop = chop; steps = steps }

-- a chop's line may stand where neither a chop's line nor a step was read
abbrev pub chop_with : Option Chop → List Step → Chop → Option PartialScript
chop_with None [] chop = Some (part_of (Some chop) [])
chop_with None (step ∷ steps) chop = None
chop_with (Some other) steps chop = None

-- what a line makes of what was read, where it may stand there
abbrev pub longer_by : PartialScript → ScriptLine → Option PartialScript
longer_by part Blank = Some part
longer_by part (Cut chop) = chop_with part.chop part.steps chop
longer_by part (Does step) = Some (part_of part.chop (part.steps ++ step ∷ []))

abbrev pub maybe_longer : Option PartialScript → ScriptLine → Option PartialScript
maybe_longer None line = None
maybe_longer (Some part) line = longer_by part line

-- what lines make of it
abbrev pub read_by_all : List ScriptLine → Option PartialScript → Option PartialScript
read_by_all [] part = part
read_by_all (line ∷ lines) part = read_by_all lines (maybe_longer part line)

abbrev pub chop_or_whole : Option Chop → Chop
chop_or_whole None = Whole
chop_or_whole (Some chop) = chop

-- what was read, as a script
abbrev pub script_of : PartialScript → Script
script_of part = record { steps = part.steps; chop = chop_or_whole part.chop }

-- with lines of these words after what was read, the script is read
abbrev pub TellScript : PartialScript → Script → List (List ℕ) → Type 0
TellScript part script words = (lines : List ScriptLine) × AllZip IsScriptLine lines words
    × (whole : PartialScript) × (read_by_all lines (Some part) ≡ Some whole) × (script ≡ script_of whole)

-- what was read of a script begins one: it is one
pub script_goes_on : (part : PartialScript) → CanBeTold (TellScript part)
script_goes_on part = (script_of part, [], tt, ([], tt, part, refl, refl))

-- ---- printing

-- a line with its LF
abbrev pub step_text : Step → List ℕ
step_text step = written_step step ++ 10 ∷ []

abbrev pub chop_text : Chop → List ℕ
chop_text Whole = []
chop_text PerFrame = codes "chop frames\n"
chop_text (Octets n) = codes "chop octets " ++ (decimal n ++ codes "\n")

abbrev pub script_text : Case → List ℕ
script_text case = chop_text case.chop ++ flat_map step_text case.steps
