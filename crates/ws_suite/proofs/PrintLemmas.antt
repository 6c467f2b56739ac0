-- How many payloads have a fingerprint: one more, one less, and none with the payload where none has its fingerprint.
use Rattle.std.proofs.Common.{◌≡◌, ◌||◌, ◌==◌, ◌≢◌, ℕ, ◌+◌, ◌-◌, ◌≤◌, ◌∷◌, [], ◌++◌, Bool, true, false}
use Rattle.std.proofs.Common.{List, ap}
use Rattle.std.proofs.Common.{sym, refl, arith, subst, if◌then◌else◌, bytes_eq, OnErr, OnOk}
use Rattle.std.proofs.lemmas.Bool.Decides.{nat_tests}
use Rattle.std.proofs.lemmas.Slice.Eq.{bytes_eq-Decides}
use Rattle.std.specs.declared.result.Result.{Result}
use Rattle.std.specs.declared.result.Result.TheVariants.{Err, Ok}
use Rattle.ws_suite.specs.InnerUnanswered.{fingerprint, with_print}
use Rattle.ws_suite.specs.Progress.{is_pong_owed, without_ping}

abbrev pub one_if : Bool → ℕ
one_if b = if b then 1 else 0

-- ---- none

same_print : (payload other : List ℕ) → bytes_eq payload other ≡ true → fingerprint other ≡ fingerprint payload
same_print payload other same = ap (λ (l : List ℕ). fingerprint l) (sym ((bytes_eq-Decides payload other).0 same))

own_print : (n : ℕ) → one_if (n == n) ≡ 1
own_print n = grind (arith, nat_tests)

-- where none has its fingerprint, it is none of theirs
pub no_print : (payload : List ℕ) (pings : List (List ℕ)) → with_print (fingerprint payload) pings ≡ 0
    → is_pong_owed payload pings ≡ false
no_print payload [] none = refl
no_print payload (x ∷ pings) none =
    pick (bytes_eq payload x) refl (no_print payload pings (omega (arith, none)))
  where
    pick : (b : Bool) → bytes_eq payload x ≡ b → is_pong_owed payload pings ≡ false
        → (b || is_pong_owed payload pings) ≡ false
    pick true e later =
        absurd (omega (
          arith,
          none,
          own_print (fingerprint payload),
          ap (λ (n : ℕ). one_if (n == fingerprint payload)) (same_print payload x e),
        ))
    pick false e later = later

-- ---- one more

more : (print : ℕ) (pings : List (List ℕ)) (payload : List ℕ)
    → with_print print (pings ++ payload ∷ []) ≡ with_print print pings + one_if (fingerprint payload == print)
more print [] payload = omega arith
more print (x ∷ pings) payload = omega (arith, more print pings payload)

-- or as before, where there was no memory for it
pub print_more : {R E : Type 0} (result : Result R E) (old new : List (List ℕ)) (payload : List ℕ) (print : ℕ)
    → OnOk result (new ≡ old ++ payload ∷ []) → OnErr result (new ≡ old)
    → with_print print new ≤ with_print print old + one_if (fingerprint payload == print)
print_more (Ok x) old new payload print ok err =
    omega (arith, ap (λ (l : List (List ℕ)). with_print print l) ok, more print old payload)
print_more (Err x) old new payload print ok err =
    omega (arith, ap (λ (l : List (List ℕ)). with_print print l) err)

-- ---- one less

pub print_less : (print : ℕ) (payload : List ℕ) (pings : List (List ℕ)) → is_pong_owed payload pings ≡ true
    → with_print print (without_ping payload pings) + one_if (fingerprint payload == print) ≡ with_print print pings
print_less print payload [] owed = absurd cc
print_less print payload (x ∷ pings) owed =
    pick (bytes_eq payload x) refl owed (λ later. print_less print payload pings later)
  where
    Less : Bool → Type 0
    Less b = with_print print (if b then pings else x ∷ without_ping payload pings)
        + one_if (fingerprint payload == print) ≡ with_print print (x ∷ pings)

    pick : (b : Bool) → bytes_eq payload x ≡ b → (b || is_pong_owed payload pings) ≡ true
        → (is_pong_owed payload pings ≡ true
        → with_print print (without_ping payload pings) + one_if (fingerprint payload == print)
        ≡ with_print print pings) → Less b
    pick true e owed later = omega (arith, ap (λ (n : ℕ). one_if (n == print)) (same_print payload x e))
    pick false e owed later = omega (arith, later owed)

-- ---- where just one count changes

module _ (old new : ℕ → ℕ) (print : ℕ) (others : (other : ℕ) → other ≢ print → new other ≡ old other) where
  -- by one more
  pub counts_more : new print ≡ old print + 1 → (other : ℕ) → new other ≡ old other + one_if (print == other)
  counts_more own other = pick (print == other) refl
    where
      pick : (b : Bool) → (print == other) ≡ b → new other ≡ old other + one_if b
      pick true e =
          let same : print ≡ other = grind (arith, nat_tests, e) in
          subst (λ (n : ℕ). new n ≡ old n + 1) same own
      pick false e = omega (arith, others other (λ same. grind (arith, nat_tests, e, same)))

  -- by one less, where there was one
  pub counts_less : new print ≡ old print - 1 → (other : ℕ) → old other ≤ new other + one_if (print == other)
  counts_less own other = pick (print == other) refl
    where
      pick : (b : Bool) → (print == other) ≡ b → old other ≤ new other + one_if b
      pick true e =
          let same : print ≡ other = grind (arith, nat_tests, e) in
          subst (λ (n : ℕ). old n ≤ new n + 1) same (omega (arith, own))
      pick false e = omega (arith, others other (λ same. grind (arith, nat_tests, e, same)))
