-- A name that is met among others is one of them; and how many rows there are.
use Rattle.std.proofs.Common.{◌≡◌, ◌∙◌, ◌<◌, ◌+◌, ℕ, zero, suc, Bool, true, false, ◌||◌, not, List, [], ◌∷◌, ◌++◌, ap, ap₂}
use Rattle.std.proofs.Common.{arith, get_or, length, refl, sym, if◌then◌else◌}
use Rattle.std.proofs.lemmas.List.{length-append}
use Rattle.std.proofs.lemmas.List.Sums.{length-filter}
use Rattle.std.specs.Borrow.{Bor}
use Rattle.std.specs.List.{count_by}
use Rattle.std.specs.Str.{bytes_eq}
use Rattle.ws_runs.specs.Names.{is_among}
use Rattle.ws_runs.specs.Rows.{are_cut_off, others_listed, row_ids}
use Rattle.ws_runs.specs.Runs.{RunsValue}
use Rattle.ws_runs.specs.Views.{texts_now}

-- what stands where a list has no element
abbrev no_text : Bor (List ℕ)
no_text = record { ref_ptr = (0, 0); now = [] }

or_true : (b : Bool) → (b || true) ≡ true
or_true true = refl
or_true false = refl

-- a name that is met is there
pub name_there : (names : List (Bor (List ℕ))) (i : ℕ) (name : List ℕ) → i < length names
    → bytes_eq (get_or names i no_text).now name ≡ true → is_among name (texts_now names) ≡ true
name_there [] i name less is = absurd (omega (arith, less))
name_there (first ∷ names) zero name less is = ap (λ (b : Bool). b || is_among name (texts_now names)) is
name_there (first ∷ names) (suc i) name less is =
    ap (λ (b : Bool). bytes_eq first.now name || b) (name_there names i name (omega (arith, less)) is)
    ∙ or_true (bytes_eq first.now name)

-- where each run was cut off, the other listed cases have rows too
pub rows_counted : (runs : RunsValue) (listed : List (List ℕ)) (had others : ℕ) → are_cut_off runs.peers ≡ true
    → had ≡ length runs.ids → others ≡ count_by (λ name. not (is_among name runs.ids)) listed
    → had + others ≡ length (row_ids runs listed)
rows_counted runs listed had others cut had_is others_is =
    let rest = others_listed runs.ids listed in
    ap₂ (λ (a b : ℕ). a + b) had_is
    (others_is ∙ sym (length-filter (λ name. not (is_among name runs.ids)) listed))
    ∙ sym (length-append runs.ids rest)
    ∙ sym (ap (λ (b : Bool). length (if b then runs.ids ++ rest else runs.ids)) cut)
