-- The lines of a script's case are those of all its steps.
use Rattle.std.proofs.Common.{◌≡◌, ◌∙◌, ℕ, ◌+◌, ◌<◌, ◌≤◌, inl, inr, true, false, nat_lt, List, [], ◌∷◌, ◌++◌, length, map}
use Rattle.std.proofs.Common.{Option, if◌then◌else◌, refl, sym, ap, arith, append-nil}
use Rattle.std.proofs.lemmas.Bool.Decides.{nat_tests}
use Rattle.std.proofs.lemmas.List.{length-append, length-map, map-append}
use Rattle.std.specs.List.{flat_map, join_by}
use Rattle.ws_wire.specs.declared.role.Role.{Role}
use Rattle.ws_scripts.specs.declared.expectation.Expectation.{Expectation}
use Rattle.ws_scripts.specs.declared.expectation.Expectation.TheVariants.{Echo, Protocol}
use Rattle.ws_scripts.specs.declared.script.Case.{Case}
use Rattle.ws_scripts.specs.declared.script.Step.{Step}
use Rattle.ws_sweep.specs.Alphabet.{AlphabetStep, step_at}
use Rattle.ws_sweep.specs.ShortCases.{AreCaseSteps, IsShortCase, end_steps, short_steps}
use Rattle.ws_sweep.specs.Telling.{case_rows, end_rows, script_rows}

-- ---- lines that are joined

module _ {X : Type 0} (f : X → List ℕ) (separator : List ℕ) where
  rest_by_lines : (xs : List X)
      → flat_map (λ x. separator ++ f x) xs ≡ flat_map (λ (l : List ℕ). separator ++ l) (map f xs)
  rest_by_lines [] = refl
  rest_by_lines (x ∷ xs) = ap (λ (l : List ℕ). (separator ++ f x) ++ l) (rest_by_lines xs)

  by_lines : (xs : List X) → join_by f separator xs ≡ join_by (λ (l : List ℕ). l) separator (map f xs)
  by_lines [] = refl
  by_lines (x ∷ xs) = ap (λ (l : List ℕ). f x ++ l) (rest_by_lines xs)

-- the same lines give the same text
pub same_text : {X Y : Type 0} (f : X → List ℕ) (g : Y → List ℕ) (separator : List ℕ) (xs : List X) (ys : List Y)
    → map f xs ≡ map g ys → join_by f separator xs ≡ join_by g separator ys
same_text f g separator xs ys same = by_lines f separator xs
    ∙ (ap (λ (l : List (List ℕ)). join_by (λ (t : List ℕ). t) separator l) same ∙ sym (by_lines g separator ys))

-- ---- the steps of a case

row_steps : (tested : Role) (places : List ℕ)
    → map (λ (told : AlphabetStep). told.step) (script_rows tested places) ≡ short_steps tested places
row_steps tested [] = refl
row_steps tested (place ∷ places) = ap (λ (l : List Step). (step_at tested place).step ∷ l) (row_steps tested places)

end_row_steps : (expected : Expectation)
    → map (λ (told : AlphabetStep). told.step) (end_rows expected) ≡ end_steps expected
end_row_steps Echo = refl
end_row_steps Protocol = refl

as_many : (tested : Role) (places : List ℕ) → length (short_steps tested places) ≡ length places
as_many tested places = length-map places (λ (place : ℕ). (step_at tested place).step)

some_end : (expected : Expectation) → 1 ≤ length (end_steps expected)
some_end Echo = omega arith
some_end Protocol = omega arith

-- where the case has no more steps than the script
rows_alone : (tested : Role) (expected : Expectation) (places : List ℕ) (steps : List Step)
    → length steps ≤ length places → case_rows tested expected places steps ≡ script_rows tested places
rows_alone tested expected places steps few =
    let none : nat_lt (length places) (length steps) ≡ false = grind (arith, nat_tests) in
    ap (λ b. script_rows tested places ++ (if b then end_rows expected else [])) none
    ∙ append-nil (script_rows tested places)

-- where it has more
rows_closed : (tested : Role) (expected : Expectation) (places : List ℕ) (steps : List Step)
    → length places < length steps
    → case_rows tested expected places steps ≡ script_rows tested places ++ end_rows expected
rows_closed tested expected places steps less =
    let more : nat_lt (length places) (length steps) ≡ true = grind (arith, nat_tests) in
    ap (λ b. script_rows tested places ++ (if b then end_rows expected else [])) more

-- ---- their lines

pub lines_alone : (tested : Role) (expected : Expectation) (places : List ℕ) (steps : List Step)
    (lines : List (List ℕ)) → length steps ≤ length places
    → lines ≡ map (λ (told : AlphabetStep). told.line) (script_rows tested places)
    → lines ≡ map (λ (told : AlphabetStep). told.line) (case_rows tested expected places steps)
lines_alone tested expected places steps lines few is =
    is ∙ ap (λ (l : List AlphabetStep). map (λ (told : AlphabetStep). told.line) l)
    (sym (rows_alone tested expected places steps few))

pub lines_closed : (tested : Role) (expected : Expectation) (places : List ℕ) (steps : List Step)
    (first lines : List (List ℕ)) → length places < length steps
    → first ≡ map (λ (told : AlphabetStep). told.line) (script_rows tested places)
    → lines ≡ first ++ map (λ (told : AlphabetStep). told.line) (end_rows expected)
    → lines ≡ map (λ (told : AlphabetStep). told.line) (case_rows tested expected places steps)
lines_closed tested expected places steps first lines less is all =
    all ∙ (ap (λ (l : List (List ℕ)). l ++ map (λ (told : AlphabetStep). told.line) (end_rows expected)) is
    ∙ (sym (map-append (λ (told : AlphabetStep). told.line) (script_rows tested places) (end_rows expected))
    ∙ ap (λ (l : List AlphabetStep). map (λ (told : AlphabetStep). told.line) l)
    (sym (rows_closed tested expected places steps less))))

-- ---- all of them

-- the script's steps alone are no more than its places
few_alone : (tested : Role) (places : List ℕ) (steps : List Step) → steps ≡ short_steps tested places
    → length steps ≤ length places
few_alone tested places steps is =
    let long : length steps ≡ length places = ap length is ∙ as_many tested places in omega (arith, long)

-- what stands behind them makes them more
more_closed : (tested : Role) (expected : Expectation) (places : List ℕ) (steps : List Step)
    → steps ≡ short_steps tested places ++ end_steps expected → length places < length steps
more_closed tested expected places steps is =
    let many = as_many tested places in
    let some = some_end expected in
    let long : length steps ≡ length (short_steps tested places) + length (end_steps expected) =
    ap length is ∙ length-append (short_steps tested places) (end_steps expected) in omega (arith, many, some, long)

all_steps : (tested : Role) (expected : Expectation) (key : Option (List ℕ)) (places : List ℕ) (steps : List Step)
    → AreCaseSteps tested expected key places steps
    → map (λ (told : AlphabetStep). told.step) (case_rows tested expected places steps) ≡ steps
all_steps tested expected key places steps (inl (ends, is)) =
    ap (λ (l : List AlphabetStep). map (λ (told : AlphabetStep). told.step) l)
    (rows_alone tested expected places steps (few_alone tested places steps is)) ∙ (row_steps tested places ∙ sym is)
all_steps tested expected key places steps (inr (ends, is)) =
    ap (λ (l : List AlphabetStep). map (λ (told : AlphabetStep). told.step) l)
    (rows_closed tested expected places steps (more_closed tested expected places steps is))
    ∙ (map-append (λ (told : AlphabetStep). told.step) (script_rows tested places) (end_rows expected)
    ∙ (ap (λ (l : List Step). l ++ map (λ (told : AlphabetStep). told.step) (end_rows expected))
    (row_steps tested places)
    ∙ (ap (λ (l : List Step). short_steps tested places ++ l) (end_row_steps expected) ∙ sym is)))

pub whole_case_told : (tested : Role) (expected : Expectation) (key : Option (List ℕ)) (places : List ℕ) (case : Case)
    → IsShortCase tested expected key places case
    → map (λ (told : AlphabetStep). told.step) (case_rows tested expected places case.steps) ≡ case.steps
whole_case_told tested expected key places case is = all_steps tested expected key places case.steps is.steps
