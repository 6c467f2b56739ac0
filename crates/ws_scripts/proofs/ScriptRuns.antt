-- A script that is read can be run.
use Rattle.std.proofs.Common.{◌≡◌, ◌∙◌, ℕ, ◌<◌, inl, inr, List, [], ◌∷◌, ◌++◌, Bool, None, Result, Ok, Err, sym}
use Rattle.std.proofs.Common.{subst, arith}
use Rattle.std.specs.List.{AllZip}
use Rattle.std.specs.Prelude.{IfErr, IfOk, MatchResult}
use Rattle.ws_base.specs.declared.text_fault.TextFault.{TextFault}
use Rattle.ws_base.specs.declared.text_fault.TextFault.TheVariants.{Damaged, NoMemory}
use Rattle.ws_formats.specs.Lines.{Damages, IsTextOfLines}
use Rattle.ws_scripts.specs.declared.script.Step.{Step}
use Rattle.ws_scripts.specs.declared.script.Step.TheVariants.{Frame, Raw, Wait}
use Rattle.ws_scripts.specs.declared.script.Chop.{Chop}
use Rattle.ws_scripts.specs.declared.script.Chop.TheVariants.{Octets, Whole}
use Rattle.ws_scripts.specs.declared.script.Case.{Case}
use Rattle.ws_scripts.specs.declared.script_text.fields.Layout.{Layout}
use Rattle.ws_scripts.specs.declared.script_text.fields.Layout.TheVariants.{Own, Tester}
use Rattle.ws_scripts.specs.declared.script_text.frame_line.FrameName.{FrameName}
use Rattle.ws_scripts.specs.declared.script_text.frame_line.FrameName.TheVariants.{CloseWith, Kind}
use Rattle.ws_scripts.specs.declared.script_text.line.ScriptLine.{ScriptLine}
use Rattle.ws_scripts.specs.declared.script_text.line.ScriptLine.TheVariants.{Blank, Cut, Does}
use Rattle.ws_scripts.specs.ScriptLines.{IsChopLine, IsFrameName, IsRsvField, IsScriptLine, IsStepLine}
use Rattle.ws_scripts.specs.ScriptLines.{laid_out, named_opcode}
use Rattle.ws_scripts.specs.ScriptTexts.{AreScriptLines, IsScriptText, IsTextOfScript, script_in, steps_in}
use Rattle.ws_scripts.specs.InnerScripting.{TellScript, part_of}
use Rattle.ws_scripts.specs.declared.script_text.reading.PartialScript.{PartialScript}
use Rattle.ws_scripts.specs.declared.script_text.reading.Script.{Script}
use Rattle.ws_scripts.proofs.ScriptParts.{is_text}
use Rattle.ws_scripts.specs.Scripts.{CanBeRun, CutsOff, FitHeaders, FitsAHeader}

small_rsv : (rsv : ℕ) (words : List ℕ) → IsRsvField rsv words → rsv < 8
small_rsv rsv words (inl (e, f)) = omega (arith, e)
small_rsv rsv words (inr (word, h, f)) = omega (arith, h.0)

small_opcode : (name : FrameName) → IsFrameName name → named_opcode name < 16
small_opcode (Kind opcode) h = h
small_opcode (CloseWith code) h = omega arith

laid_fits : (layout : Layout) (fin : Bool) (rsv opcode : ℕ) (payload : List ℕ) (step : Step) → rsv < 8 → opcode < 16
    → step ≡ laid_out layout fin rsv opcode payload → FitsAHeader step
laid_fits Tester fin rsv opcode payload step small less e = λ f r o p g.
    let same : Frame fin rsv opcode payload ≡ Frame f r o p = sym e ∙ g in
    let rsvs : rsv ≡ r = cc in
    let opcodes : opcode ≡ o = cc in
    (subst (λ (n : ℕ). n < 8) rsvs small, subst (λ (n : ℕ). n < 16) opcodes less)
laid_fits (Own key form) fin rsv opcode payload step small less e = λ f r o p g. absurd cc

step_fits : (step : Step) (words : List ℕ) → IsStepLine step words → FitsAHeader step
step_fits step words (inl (e, f)) = λ fin r o p g. let wrong : Wait ≡ Frame fin r o p = sym e ∙ g in absurd cc
step_fits step words (inr (inl (bytes, word, e, is, f))) = λ fin r o p g.
    let wrong : Raw bytes ≡ Frame fin r o p = sym e ∙ g in absurd cc
step_fits step words (inr (inr (name, fields, payload, h, e))) =
    laid_fits fields.layout fields.fin fields.rsv (named_opcode name) payload step (small_rsv fields.rsv h.rsv h.is_rsv)
    (small_opcode name h.named) e

steps_fit : (lines : List ScriptLine) (words : List (List ℕ)) → AllZip IsScriptLine lines words
    → FitHeaders (steps_in lines)
steps_fit [] [] h = tt
steps_fit [] (w ∷ words) h = absurd h
steps_fit (line ∷ lines) [] h = absurd h
steps_fit (Blank ∷ lines) (w ∷ words) h = steps_fit lines words h.1
steps_fit (Cut chop ∷ lines) (w ∷ words) h = steps_fit lines words h.1
steps_fit (Does step ∷ lines) (w ∷ words) h = (step_fits step w h.0, steps_fit lines words h.1)

chop_fits : (chop : Chop) (words : List ℕ) → IsChopLine chop words → CutsOff chop
chop_fits chop words h n e = let own = subst (λ (c : Chop). IsChopLine c words) e h in own.0

lines_fit : (chop : Chop) (steps : List Step) (lines : List ScriptLine) (words : List (List ℕ))
    → AllZip IsScriptLine lines words → AreScriptLines chop steps lines → FitHeaders steps × CutsOff chop
lines_fit chop steps lines words zip (inl (h, e, f)) = (
  subst (λ (s : List Step). FitHeaders s) (sym f) (steps_fit lines words zip),
  λ n g. let wrong : Whole ≡ Octets n = sym e ∙ g in absurd cc,
)
lines_fit chop steps lines words zip (inr (blank, rest, h, i, e, f)) =
    of_parts blank words (subst (λ (l : List ScriptLine). AllZip IsScriptLine l words) e zip)
  where
    of_parts : (blank : List ScriptLine) (words : List (List ℕ)) → AllZip IsScriptLine (blank ++ Cut chop ∷ rest) words
        → FitHeaders steps × CutsOff chop
    of_parts [] [] zip = absurd zip
    of_parts [] (w ∷ words) zip =
        (subst (λ (s : List Step). FitHeaders s) (sym f) (steps_fit rest words zip.1), chop_fits chop w zip.0)
    of_parts (line ∷ blank) [] zip = absurd zip
    of_parts (line ∷ blank) (w ∷ words) zip = of_parts blank words zip.1

pub text_runs : (case : Case) (text : List ℕ) → IsScriptText case text → CanBeRun case
text_runs case text (words, are, (lines, zip, h), e) =
    let fits = lines_fit case.chop case.steps lines words zip h in record { frames = fits.0; pieces = fits.1 }

-- what is read has a name of its own, or memory ran out
pub named_read : (start : PartialScript) (script : Script) (text : List ℕ) (r : Result Case TextFault)
    → start ≡ part_of None [] → IsTextOfLines (TellScript start) script text
    → IfOk r (λ (case : Case). script_in case ≡ script) → IfErr r (λ (fault : TextFault). fault ≡ NoMemory)
    → MatchResult r (λ case. IsScriptText case text) (λ fault. Damages IsTextOfScript fault text)
    × IfOk r (λ (case : Case). CanBeRun case)
named_read start script text (Ok case) e told same memory =
    let is : IsTextOfScript script text =
    is_text script text (subst (λ (p : PartialScript). IsTextOfLines (TellScript p) script text) e told) in
    let own : IsScriptText case text = subst (λ (s : Script). IsTextOfScript s text) (sym same) is in
    (own, text_runs case text own)
named_read start script text (Err fault) e told same memory =
    (λ n f. let wrong : NoMemory ≡ Damaged n = sym memory ∙ f in absurd cc, tt)
