-- The first of the pings with a payload, by its place.
use Rattle.std.proofs.Common.{◌≡◌, ◌∙◌, ◌||◌, ◌<◌, ◌∷◌, [], ℕ, zero, suc, Bool, true, false, List, length, take, ap}
use Rattle.std.proofs.Common.{sym, refl, arith, if◌then◌else◌, bytes_eq, slice_index_or}
use Rattle.std.specs.List.{remove}
use Rattle.ws_suite.specs.Progress.{is_pong_owed, without_ping}

neither : (a b : Bool) → (a || b) ≡ false → (a ≡ false) × (b ≡ false)
neither true b e = absurd cc
neither false b e = (refl, e)

-- a place at which the payload is, and before which it isn't
pub first_found : (payload : List ℕ) (pings : List (List ℕ)) (place : ℕ) → place < length pings
    → is_pong_owed payload (take place pings) ≡ false
    → ((other : List ℕ) → bytes_eq payload (slice_index_or pings place other) ≡ true)
    → (is_pong_owed payload pings ≡ true) × (remove pings place ≡ without_ping payload pings)
first_found payload [] place less none same = absurd (omega (arith, less))
first_found payload (x ∷ pings) zero less none same = (
  ap (λ (b : Bool). b || is_pong_owed payload pings) (same []),
  ap (λ (b : Bool). if b then pings else x ∷ without_ping payload pings) (sym (same [])),
)
first_found payload (x ∷ pings) (suc n) less none same =
    let not = neither (bytes_eq payload x) (is_pong_owed payload (take n pings)) none in
    let later = first_found payload pings n (omega (arith, less)) not.1 same in (
      ap (λ (b : Bool). b || is_pong_owed payload pings) not.0 ∙ later.0,
      ap (λ (l : List (List ℕ)). x ∷ l) later.1
          ∙ ap (λ (b : Bool). if b then pings else x ∷ without_ping payload pings) (sym not.0),
    )

-- where it is none of theirs nothing is taken out
pub none_found : (payload : List ℕ) (pings : List (List ℕ)) → is_pong_owed payload pings ≡ false
    → pings ≡ without_ping payload pings
none_found payload [] none = refl
none_found payload (x ∷ pings) none =
    let not = neither (bytes_eq payload x) (is_pong_owed payload pings) none in
    ap (λ (l : List (List ℕ)). x ∷ l) (none_found payload pings not.1)
    ∙ ap (λ (b : Bool). if b then pings else x ∷ without_ping payload pings) (sym not.0)
