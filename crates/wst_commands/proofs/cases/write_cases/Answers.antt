-- A word that is no glob stands for one case, and its text is written.
use Rattle.std.proofs.Common.{rules, ◌≡◌, ◌∙◌, false, ℕ, List, [], ◌∷◌, slice_index_or, subst, sym}
use Rattle.ws_frame.specs.Devices.{watched}
use Rattle.ws_scripts.specs.ScriptTexts.{written_script}
use Rattle.wst_commands.specs.Devices.{Delivers}
use Rattle.wst_commands.specs.GivenCases.{AreCasesFor, is_glob}
use Rattle.wst_commands.specs.declared.exit.Exit.TheVariants.{Done}
use Rattle.wst_commands.proofs.CaseLemmas.{one_case, only_one, script_text}
use Rattle.wst_commands.proofs.cases.write_cases.Goals as goal

pub returns : goal.returns
returns g c =
    let word = c.args.word.now in
    let cases = c.in_ok-cases.cases.items in
    let case = c.index.result.now in
    let plain : is_glob word ≡ false = sym c.is_glob.ensures ∙ c.if-is_glob.false in
    let are : AreCasesFor (word ∷ []) cases = c.in_ok-cases.ensures in
    let first : case ≡ slice_index_or cases 0 case = search rules in
    let one = only_one cases case (one_case word cases are plain) first in
    let text : c.as_slice-else-is_glob.result.now ≡ written_script case = c.as_slice-else-is_glob.ensures.value ∙ c.in_ok-text.ensures in (
      cases,
      are,
      subst (λ (b : List ℕ). Delivers Done b c.deliver-else-is_glob.result (watched g.W.Write.contents c.args.writer.now c.deliver-else-is_glob.new.writer))
          (text ∙ script_text c.args.with_titles word cases case c.if-with_titles.false plain one) c.deliver-else-is_glob.ensures,
    )
