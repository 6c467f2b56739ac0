-- Each step of the alphabet can be run, and so can those of a script, with a close behind them or not.
use Rattle.std.proofs.Common.{◌≡◌, ◌∙◌, ℕ, zero, suc, ◌<◌, Bool, true, false, List, [], ◌∷◌, ◌++◌, ◌&&◌, nat_lt, refl}
use Rattle.std.proofs.Common.{sym, subst, arith}
use Rattle.std.proofs.Common.{get_or, length}
use Rattle.std.proofs.lemmas.Bool.Decides.{nat_tests}
use Rattle.std.proofs.lemmas.Option.{unwrap_or-slice_get}
use Rattle.std.specs.List.{AllByRecursion, list_all}
use Rattle.ws_wire.proofs.Splits.{all-append}
use Rattle.ws_wire.specs.declared.role.Role.{Role}
use Rattle.ws_wire.specs.declared.role.Role.TheVariants.{Client, Server}
use Rattle.ws_scripts.specs.declared.expectation.Expectation.{Expectation}
use Rattle.ws_scripts.specs.declared.expectation.Expectation.TheVariants.{Echo, Protocol}
use Rattle.ws_scripts.specs.declared.script.Case.{Case}
use Rattle.ws_scripts.specs.declared.script.Chop.{Chop}
use Rattle.ws_scripts.specs.declared.script.Chop.TheVariants.{Octets, Whole}
use Rattle.ws_scripts.specs.declared.script.Step.{Step}
use Rattle.ws_scripts.specs.declared.script.Step.TheVariants.{Frame, Raw, Wait}
use Rattle.ws_scripts.specs.Scripts.{CanBeRun, CutsOff, FitHeaders, FitsAHeader}
use Rattle.ws_sweep.specs.Alphabet.{AlphabetStep, alphabet, no_step, step_at}
use Rattle.ws_sweep.specs.Order.{ArePlaces}
use Rattle.ws_sweep.specs.ShortCases.{close_step, end_steps, short_steps}

-- ---- by a look at each

step_fits : Step → Bool
step_fits (Frame fin rsv opcode payload) = nat_lt rsv 8 && nat_lt opcode 16
step_fits (Raw bytes) = true
step_fits Wait = true

both_true : (x y : Bool) → (x && y) ≡ true → (x ≡ true) × (y ≡ true)
both_true true y e = (refl, e)
both_true false y e = absurd cc

below_by : (m n : ℕ) → nat_lt m n ≡ true → m < n
below_by m n h = grind (arith, nat_tests)

fits_by : (step : Step) → step_fits step ≡ true → FitsAHeader step
unfolding step_fits
fits_by (Frame fin rsv opcode payload) e = λ f r o p same.
    let both = both_true (nat_lt rsv 8) (nat_lt opcode 16) e in
    let rsvs : rsv ≡ r = cc in
    let opcodes : opcode ≡ o = cc in (
      subst (λ (n : ℕ). n < 8) rsvs (below_by rsv 8 both.0),
      subst (λ (n : ℕ). n < 16) opcodes (below_by opcode 16 both.1),
    )
fits_by (Raw bytes) e = λ f r o p wrong. absurd cc
fits_by Wait e = λ f r o p wrong. absurd cc

-- the step of a row
abbrev RowFits : AlphabetStep → Type 0
RowFits row = FitsAHeader row.step

rows_fit : (rows : List AlphabetStep) → list_all (λ (row : AlphabetStep). step_fits row.step) rows ≡ true
    → AllByRecursion RowFits rows
rows_fit [] e = tt
rows_fit (row ∷ rows) e =
    let both = both_true (step_fits row.step) (list_all (λ (r : AlphabetStep). step_fits r.step) rows) e in
    (fits_by row.step both.0, rows_fit rows both.1)

alphabet_fits : (tested : Role) → AllByRecursion RowFits (alphabet tested)
unfolding step_fits
alphabet_fits Server = rows_fit (alphabet Server) refl
alphabet_fits Client = rows_fit (alphabet Client) refl

-- ---- scripts

row_at : (rows : List AlphabetStep) (place : ℕ) → AllByRecursion RowFits rows → place < length rows
    → RowFits (get_or rows place no_step)
row_at [] place all within = absurd (omega (arith, within))
row_at (row ∷ rows) zero all within = all.0
row_at (row ∷ rows) (suc place) all within = row_at rows place all.1 (omega (arith, within))

long : (tested : Role) → length (alphabet tested) ≡ 27
long Server = refl
long Client = refl

step_fits_at : (tested : Role) (place : ℕ) → place < 27 → RowFits (step_at tested place)
step_fits_at tested place within =
    subst RowFits (sym (unwrap_or-slice_get (alphabet tested) place no_step))
    (row_at (alphabet tested) place (alphabet_fits tested) (let many = long tested in omega (arith, many, within)))

pub steps_fit : (tested : Role) (places : List ℕ) → ArePlaces places → FitHeaders (short_steps tested places)
steps_fit tested [] are = tt
steps_fit tested (place ∷ places) are = (step_fits_at tested place are.0, steps_fit tested places are.1)

ends_fit : (expected : Expectation) → FitHeaders (end_steps expected)
unfolding step_fits
ends_fit Echo = (fits_by close_step refl, tt)
ends_fit Protocol = (fits_by Wait refl, (fits_by close_step refl, tt))

pub closed_steps_fit : (tested : Role) (expected : Expectation) (places : List ℕ) → ArePlaces places
    → FitHeaders (short_steps tested places ++ end_steps expected)
closed_steps_fit tested expected places are =
    all-append FitsAHeader (short_steps tested places) (end_steps expected) (steps_fit tested places are)
    (ends_fit expected)

fit_both : (first : List Step) (last : Step) → FitHeaders (first ++ last ∷ []) → FitHeaders first × FitsAHeader last
fit_both [] last fit = (tt, fit.0)
fit_both (step ∷ first) last fit = let rest = fit_both first last fit.1 in ((fit.0, rest.0), rest.1)

-- the steps before the last, and the last one, where all can
pub fit_parts : (steps first : List Step) (last : Step) → steps ≡ first ++ last ∷ [] → FitHeaders steps
    → FitHeaders first × FitsAHeader last
fit_parts steps first last parts fit = fit_both first last (subst (λ (l : List Step). FitHeaders l) parts fit)

cuts_whole : (chop : Chop) → chop ≡ Whole → CutsOff chop
cuts_whole chop is = λ n other. let wrong : Whole ≡ Octets n = sym is ∙ other in absurd cc

-- a case of such steps, whose turns are sent whole
pub can_be_run : (case : Case) (steps : List Step) → case.steps ≡ steps → case.chop ≡ Whole → FitHeaders steps
    → CanBeRun case
can_be_run case steps is whole fit = record {
  frames = subst (λ (l : List Step). FitHeaders l) (sym is) fit;
  pieces = cuts_whole case.chop whole;
}
