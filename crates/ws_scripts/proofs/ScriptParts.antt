-- What is read of a script, line by line: a line makes of it what it makes in each text, and all lines tell the script.
use Rattle.std.proofs.Common.{◌≡◌, ◌∙◌, ℕ, inl, inr, List, [], ◌∷◌, ◌++◌, Option, Some, None, Result, Ok, Err}
use Rattle.std.proofs.Common.{ap, ap₂, sym, refl, subst, append_assoc, append-nil}
use Rattle.std.specs.List.{AllByRecursion, AllZip}
use Rattle.ws_formats.specs.Lines.{IsDamagedAt, IsTextOfLines}
use Rattle.ws_formats.specs.Reading.{TakesLine}
use Rattle.ws_formats.proofs.PartialTexts.{damaged_as, same_lines}
use Rattle.ws_base.specs.declared.text_fault.LineFault.{LineFault}
use Rattle.ws_base.specs.declared.text_fault.LineFault.TheVariants.{Damaged}
use Rattle.ws_scripts.specs.declared.script.Step.{Step}
use Rattle.ws_scripts.specs.declared.script.Chop.{Chop}
use Rattle.ws_scripts.specs.declared.script_text.line.ScriptLine.{ScriptLine}
use Rattle.ws_scripts.specs.declared.script_text.line.ScriptLine.TheVariants.{Blank, Cut, Does}
use Rattle.ws_scripts.specs.declared.script_text.reading.PartialScript.{PartialScript}
use Rattle.ws_scripts.specs.declared.script_text.reading.Script.{Script}
use Rattle.ws_scripts.specs.ScriptLines.{IsScriptLine}
use Rattle.ws_scripts.specs.ScriptTexts.{AreScriptLines, IsBlank, IsNoChop, IsTextOfScript, steps_in}
use Rattle.ws_scripts.specs.InnerCapturing.{Adds}
use Rattle.ws_scripts.specs.InnerScripting.{TellScript, chop_or_whole, part_of, longer_by, read_by_all, script_of}
use Rattle.ws_scripts.proofs.ScriptSteps.{line_one, lines_one}

abbrev Lines : Type 0
Lines = List ScriptLine

-- ---- one line more

none_read : (lines : Lines) → read_by_all lines None ≡ None
none_read [] = refl
none_read (line ∷ lines) = none_read lines

none_whole : (lines : Lines) (whole : PartialScript) → read_by_all lines None ≡ Some whole → ⊥
none_whole lines whole e = let wrong : None ≡ Some whole = sym (none_read lines) ∙ e in absurd cc

-- the lines that go on begin with this one
first_told : (part : PartialScript) (script : Script) (line : ScriptLine) (words : List ℕ) (more : List (List ℕ))
    → IsScriptLine line words → TellScript part script (words ∷ more)
    → (lines : Lines) × AllZip IsScriptLine lines more × (whole : PartialScript)
    × (read_by_all lines (longer_by part line) ≡ Some whole) × (script ≡ script_of whole)
first_told part script line words more is ([], zip, whole, e, f) = absurd zip
first_told part script line words more is (x ∷ lines, zip, whole, e, f) = (
  lines,
  zip.1,
  whole,
  subst (λ (l : ScriptLine). read_by_all lines (longer_by part l) ≡ Some whole) (line_one x line words zip.0 is) e,
  f,
)

pub line_taken : (part : PartialScript) (line : ScriptLine) (words : List ℕ) (result : Result PartialScript LineFault)
    → IsScriptLine line words → Adds (longer_by part line) result → TakesLine TellScript part words result
line_taken part line words (Ok longer) is e = λ script more. (
  λ told.
      let (lines, zip, whole, f, g) = first_told part script line words more is told in
      (script, (lines, zip, whole, ap (λ (p : Option PartialScript). read_by_all lines p) (sym e) ∙ f, g)),
  λ told. (
    line ∷ told.0,
    (is, told.1),
    told.2,
    ap (λ (p : Option PartialScript). read_by_all told.0 p) e ∙ told.3,
    told.4,
  ),
)
line_taken part line words (Err fault) is e = λ damaged script more told.
    let (lines, zip, whole, f, g) = first_told part script line words more is told in
    none_whole lines whole (ap (λ (p : Option PartialScript). read_by_all lines p) (sym (e damaged)) ∙ f)

-- words that tell no line
pub none_taken : (part : PartialScript) (words : List ℕ) (fault : LineFault)
    → (fault ≡ Damaged → (line : ScriptLine) → IsScriptLine line words → ⊥)
    → TakesLine TellScript part words (Err fault)
none_taken part words fault wrong = λ damaged script more told. none (wrong damaged) script more told
  where
    none : ((line : ScriptLine) → IsScriptLine line words → ⊥) → (script : Script) (more : List (List ℕ))
        → TellScript part script (words ∷ more) → ⊥
    none wrong_line script more ([], zip, whole, e, f) = absurd zip
    none wrong_line script more (x ∷ lines, zip, whole, e, f) = wrong_line x zip.0

-- ---- all lines

abbrev NoChops : Lines → Type 0
NoChops lines = AllByRecursion IsNoChop lines

-- lines without a chop add their steps
steps_read : (lines : Lines) (chop : Option Chop) (steps : List Step) → NoChops lines
    → read_by_all lines (Some (part_of chop steps)) ≡ Some (part_of chop (steps ++ steps_in lines))
steps_read [] chop steps h = ap (λ (l : List Step). Some (part_of chop l)) (sym (append-nil steps))
steps_read (Blank ∷ lines) chop steps h = steps_read lines chop steps h.1
steps_read (Cut other ∷ lines) chop steps h = absurd h.0
steps_read (Does step ∷ lines) chop steps h =
    steps_read lines chop (steps ++ step ∷ []) h.1
    ∙ ap (λ (l : List Step). Some (part_of chop l)) (append_assoc steps (step ∷ []) (steps_in lines))

-- after a chop's line there is none
one_chop : (lines : Lines) (chop : Chop) (steps : List Step) (whole : PartialScript)
    → read_by_all lines (Some (part_of (Some chop) steps)) ≡ Some whole → NoChops lines
one_chop [] chop steps whole e = tt
one_chop (Blank ∷ lines) chop steps whole e = (tt, one_chop lines chop steps whole e)
one_chop (Cut other ∷ lines) chop steps whole e = absurd (none_whole lines whole e)
one_chop (Does step ∷ lines) chop steps whole e = (tt, one_chop lines chop (steps ++ step ∷ []) whole e)

-- nor after a step
no_late_chop : (lines : Lines) (step : Step) (steps : List Step) (whole : PartialScript)
    → read_by_all lines (Some (part_of None (step ∷ steps))) ≡ Some whole → NoChops lines
no_late_chop [] step steps whole e = tt
no_late_chop (Blank ∷ lines) step steps whole e = (tt, no_late_chop lines step steps whole e)
no_late_chop (Cut other ∷ lines) step steps whole e = absurd (none_whole lines whole e)
no_late_chop (Does next ∷ lines) step steps whole e =
    (tt, no_late_chop lines step (steps ++ next ∷ []) whole e)

-- the chop and the steps of what was read
abbrev AreLinesOf : PartialScript → Lines → Type 0
AreLinesOf whole lines = AreScriptLines (chop_or_whole whole.chop) whole.steps lines

are_by : (lines : Lines) (part whole : PartialScript) → AreLinesOf part lines → Some part ≡ Some whole
    → AreLinesOf whole lines
are_by lines part whole are e =
    let same : part ≡ whole = cc in subst (λ (p : PartialScript). AreLinesOf p lines) same are

blank_before : (chop : Chop) (steps : List Step) (lines : Lines) → AreScriptLines chop steps lines
    → AreScriptLines chop steps (Blank ∷ lines)
blank_before chop steps lines (inl (h, e, f)) = inl ((tt, h), e, f)
blank_before chop steps lines (inr (blank, rest, h, i, e, f)) =
    inr (Blank ∷ blank, rest, (tt, h), i, ap (λ (l : Lines). Blank ∷ l) e, f)

start_lines : (lines : Lines) (whole : PartialScript) → read_by_all lines (Some (part_of None [])) ≡ Some whole
    → AreLinesOf whole lines
start_lines [] whole e = are_by [] (part_of None []) whole (inl (tt, refl, refl)) e
start_lines (Blank ∷ lines) whole e =
    blank_before (chop_or_whole whole.chop) whole.steps lines (start_lines lines whole e)
start_lines (Cut chop ∷ lines) whole e =
    let rest = one_chop lines chop [] whole e in
    are_by (Cut chop ∷ lines) (part_of (Some chop) (steps_in lines)) whole
    (inr ([], lines, tt, rest, refl, refl)) (sym (steps_read lines (Some chop) [] rest) ∙ e)
start_lines (Does step ∷ lines) whole e =
    let rest = no_late_chop lines step [] whole e in
    are_by (Does step ∷ lines) (part_of None (step ∷ steps_in lines)) whole (inl ((tt, rest), refl, refl))
    (sym (steps_read lines None (step ∷ []) rest) ∙ e)

blanks_read : (blank rest : Lines) (part : PartialScript) → AllByRecursion IsBlank blank
    → read_by_all (blank ++ rest) (Some part) ≡ read_by_all rest (Some part)
blanks_read [] rest part h = refl
blanks_read (Blank ∷ blank) rest part h = blanks_read blank rest part h.1
blanks_read (Cut chop ∷ blank) rest part h = absurd h.0
blanks_read (Does step ∷ blank) rest part h = absurd h.0

abbrev script_with : Chop → List Step → Script
script_with c s = record { steps = s; chop = c }

lines_read : (chop : Chop) (steps : List Step) (lines : Lines) → AreScriptLines chop steps lines
    → (whole : PartialScript) × (read_by_all lines (Some (part_of None [])) ≡ Some whole)
    × (record { steps = steps; chop = chop } ≡ script_of whole)
lines_read chop steps lines (inl (h, e, f)) = (
  part_of None (steps_in lines),
  steps_read lines None [] h,
  ap₂ (λ (c : Chop) (s : List Step). script_with c s) e f,
)
lines_read chop steps lines (inr (blank, rest, h, i, e, f)) = (
  part_of (Some chop) (steps_in rest),
  ap (λ (l : Lines). read_by_all l (Some (part_of None []))) e
      ∙ (blanks_read blank (Cut chop ∷ rest) (part_of None []) h ∙ steps_read rest (Some chop) [] i),
  ap (λ (s : List Step). script_with chop s) f,
)

-- ---- texts

abbrev pub Tells : Script → List ℕ → Type 0
Tells script text = IsTextOfLines (TellScript (part_of None [])) script text

pub is_text : (script : Script) (text : List ℕ) → Tells script text → IsTextOfScript script text
is_text script text (words, are, (lines, zip, whole, e, f), g) = (
  words,
  are,
  (
    lines,
    zip,
    subst (λ (s : Script). AreScriptLines s.chop s.steps lines) (sym f) (start_lines lines whole e),
  ),
  g,
)

pub is_told : (script : Script) (text : List ℕ) → IsTextOfScript script text → Tells script text
is_told script text (words, are, (lines, zip, h), g) =
    let (whole, e, f) = lines_read script.chop script.steps lines h in (words, are, (lines, zip, whole, e, f), g)

pub damaged_script : (n : ℕ) (text : List ℕ) → IsDamagedAt (IsTextOfLines (TellScript (part_of None []))) n text
    → IsDamagedAt IsTextOfScript n text
damaged_script n text d =
    damaged_as (IsTextOfLines (TellScript (part_of None []))) IsTextOfScript n text
    (λ s x told. (s, is_text s x told)) (λ s x is. (s, is_told s x is)) d

pub one_script : (a b : Script) (text : List ℕ) → IsTextOfScript a text → IsTextOfScript b text → a ≡ b
one_script a b text p q = of_told (is_told a text p) (is_told b text q)
  where
    of_told : Tells a text → Tells b text → a ≡ b
    of_told (words, are, (lines, zip, whole, e, f), g) (others, too, (more, zips, all, i, j), k) =
        let same = same_lines words others are too (sym g ∙ k) in
        let told = lines_one lines more words zip
        (subst (λ (l : List (List ℕ)). AllZip IsScriptLine more l) (sym same) zips) in
        let wholes : Some whole ≡ Some all =
        sym e ∙ (ap (λ (l : Lines). read_by_all l (Some (part_of None []))) told ∙ i) in
        let last : whole ≡ all = cc in
        f ∙ (ap (λ (p : PartialScript). script_of p) last ∙ sym j)
