-- The cases of short scripts, one after the other: one more stands behind those before it.
use Rattle.std.proofs.Common.{◌≡◌, ◌∙◌, ◌+◌, ℕ, List, [], ◌∷◌, ◌++◌, arith, length, subst, sym}
use Rattle.ws_scripts.specs.declared.expectation.Expectation.{Expectation}
use Rattle.ws_scripts.specs.declared.script.Case.{Case}
use Rattle.ws_sweep.specs.Order.{ArePlaces, script_number}
use Rattle.wst_run.specs.ClientSweeps.{AreNamedCases, IsNamedCase}

pub named_more : (expected : Expectation) (number : ℕ) (cases : List Case) (places : List ℕ) (case : Case)
    → AreNamedCases expected number cases → ArePlaces places → script_number places ≡ number + length cases
    → IsNamedCase expected places case
    → AreNamedCases expected number (cases ++ case ∷ [])
named_more expected number [] places case so are is named = ((places, are, is ∙ omega arith, named), tt)
named_more expected number (first ∷ cases) places case (one, so) are is named =
    (one, named_more expected (number + 1) cases places case so are (is ∙ omega arith) named)

-- as the last of a list
pub named_pushed : (expected : Expectation) (cases now : List Case) (places : List ℕ) (case : Case)
    → now ≡ cases ++ case ∷ [] → AreNamedCases expected 0 cases → ArePlaces places → script_number places ≡ length cases
    → IsNamedCase expected places case → AreNamedCases expected 0 now
named_pushed expected cases now places case grown so are is named =
    subst (λ (l : List Case). AreNamedCases expected 0 l) (sym grown)
    (named_more expected 0 cases places case so are (is ∙ omega arith) named)
