-- Errands that are given up, and places that are left, one after the other.
use Rattle.std.proofs.Common.{◌≡◌, ◌∙◌, ℕ, ◌+◌, ◌<◌, ◌≤◌, ◌⊎◌, List, Some, length}
use Rattle.std.proofs.Common.{slice_set, sym, ap, inl, inr, arith, refl, true, false}
use Rattle.std.specs.List.{slice_get}
use Rattle.std.proofs.lemmas.Bool.{cases_eq, false≢true}
use Rattle.std.proofs.lemmas.Option.{same_Some, slice_get_within}
use Rattle.ws_loops.proofs.PlaceLemmas.{get_set_other, get_set_same, length_set, place_of, set_cases, set_same}
use Rattle.ws_networks.specs.NetworkLoops.{Standing}
use Rattle.ws_networks.specs.NetworkLoops.Standing.{Free}
use Rattle.wst_errands.specs.Errands.{AreGivenUp, given_up, is_under_way}
use Rattle.wst_errands.specs.declared.errands.Came.TheVariants.{GivenUp}
use Rattle.wst_errands.specs.declared.errands.Stage.{Stage}
use Rattle.wst_errands.specs.declared.errands.Stage.TheVariants.{Over, UnderWay}

-- ---- places that are left

module _ {M S A W : Type 0} (old new : List (Standing M S A W)) (at : ℕ) (set : new ≡ slice_set old at Free) where
  pub free_more : ((i : ℕ) (x : Standing M S A W) → i < at → slice_get old i ≡ Some x → x ≡ Free)
      → (i : ℕ) (x : Standing M S A W) → i < at + 1 → slice_get new i ≡ Some x → x ≡ Free
  free_more free i x lt is =
      by (set_cases old at Free i x (sym (ap (λ (l : List (Standing M S A W)). slice_get l i) set) ∙ is))
    where
      by : ((i ≡ at) × (x ≡ Free)) ⊎ ((i ≡ at → ⊥) × (slice_get old i ≡ Some x)) → x ≡ Free
      by (inl (same, e)) = e
      by (inr (other, was)) = free i x (omega (arith, lt, other)) was

  pub len_more : at < length old → at + 1 ≤ length new
  len_more lt = omega (arith, lt, ap (λ (l : List (Standing M S A W)). length l) set, length_set old at Free)

-- ---- errands that are given up

-- So many of the first ones are given up, and the others are as they were.
pub record AreGivenUpTo {E W : Type 0} (old new : List (Stage E W)) (count : ℕ) : Type 0 where
  pub within : count ≤ length new
  pub many : length new ≡ length old
  pub given : (place : ℕ) (stage : Stage E W) → place < count → slice_get old place ≡ Some stage
      → slice_get new place ≡ Some (given_up stage)
  pub others : (place : ℕ) (stage : Stage E W) → count ≤ place → slice_get old place ≡ Some stage
      → slice_get new place ≡ Some stage

module _ {E W : Type 0} where
  pub none_given : (line : List (Stage E W)) → AreGivenUpTo line line 0
  none_given line = record {
    within = omega arith;
    many = refl;
    given = λ place stage lt. absurd (omega (arith, lt));
    others = λ place stage le is. is;
  }

  pub one_given : (old mid new : List (Stage E W)) (place : ℕ) → AreGivenUpTo old mid place → place < length mid
      → ((stage : Stage E W) → slice_get mid place ≡ Some stage → new ≡ slice_set mid place (given_up stage))
      → AreGivenUpTo old new (place + 1)
  one_given old mid new place h lt set =
      let (stage, is) = place_of old place (omega (arith, lt, h.many)) in
      let now = h.others place stage (omega arith) is in
      let changed = set stage now in
      let same = ap (λ (l : List (Stage E W)). length l) changed ∙ length_set mid place (given_up stage) in record {
        within = omega (arith, lt, same);
        many = same ∙ h.many;
        given = λ other x before was. by other x before was stage is changed (cases_eq other place);
        others = λ other x behind was. ap (λ (l : List (Stage E W)). slice_get l other) changed
            ∙ (get_set_other mid place other (given_up stage) (λ e. absurd (omega (arith, e, behind)))
            ∙ h.others other x (omega (arith, behind)) was);
      }
    where
      by : (other : ℕ) (x : Stage E W) → other < place + 1 → slice_get old other ≡ Some x → (stage : Stage E W)
          → slice_get old place ≡ Some stage → new ≡ slice_set mid place (given_up stage)
          → (other ≡ place) ⊎ (other ≡ place → ⊥) → slice_get new other ≡ Some (given_up x)
      by other x before was stage is changed (inl e) =
          ap (λ (l : List (Stage E W)). slice_get l other) changed
          ∙ (ap (λ (n : ℕ). slice_get (slice_set mid place (given_up stage)) n) e
          ∙ (get_set_same mid place (given_up stage) lt
          ∙ ap (λ (s : Stage E W). Some (given_up s)) (same_Some stage x
          (sym is ∙ (ap (λ (n : ℕ). slice_get old n) (sym e) ∙ was)))))
      by other x before was stage is changed (inr far) =
          ap (λ (l : List (Stage E W)). slice_get l other) changed
          ∙ (get_set_other mid place other (given_up stage) far ∙ h.given other x (omega (arith, before, far)) was)

  pub same_given : (mid new : List (Stage E W)) (place : ℕ) → place < length mid
      → ((stage : Stage E W) → slice_get mid place ≡ Some stage → new ≡ slice_set mid place (given_up stage))
      → length new ≡ length mid
  same_given mid new place lt set =
      let (stage, is) = place_of mid place lt in
      ap (λ (l : List (Stage E W)). length l) (set stage is) ∙ length_set mid place (given_up stage)

  pub all_given : (old new : List (Stage E W)) (count : ℕ) → AreGivenUpTo old new count → length new ≤ count
      → AreGivenUp old new
  all_given old new count h past = record {
    many = h.many;
    each = λ place stage is. h.given place stage (omega (arith, past, h.many, slice_get_within old place stage is)) is;
  }

  -- one of them
  pub given_going : (old new : List (Stage E W)) (place : ℕ) (x : Stage E W) → slice_get old place ≡ Some x
      → is_under_way x ≡ true → new ≡ slice_set old place (Over GivenUp) → (stage : Stage E W)
      → slice_get old place ≡ Some stage → new ≡ slice_set old place (given_up stage)
  given_going old new place x is going set stage was = set ∙ ap (λ (s : Stage E W). slice_set old place s)
      (sym (by stage (ap is_under_way (same_Some stage x (sym was ∙ is)) ∙ going)))
    where
      by : (stage : Stage E W) → is_under_way stage ≡ true → given_up stage ≡ Over GivenUp
      by (UnderWay at) e = refl
      by (Over came) e = absurd (false≢true e)

  pub given_over : (old new : List (Stage E W)) (place : ℕ) (x : Stage E W) → slice_get old place ≡ Some x
      → is_under_way x ≡ false → new ≡ old → (stage : Stage E W) → slice_get old place ≡ Some stage
      → new ≡ slice_set old place (given_up stage)
  given_over old new place x is over same stage was = same ∙ (sym (set_same old place stage was)
      ∙ ap (λ (s : Stage E W). slice_set old place s)
      (sym (by stage (ap is_under_way (same_Some stage x (sym was ∙ is)) ∙ over))))
    where
      by : (stage : Stage E W) → is_under_way stage ≡ false → given_up stage ≡ stage
      by (UnderWay at) e = absurd (false≢true (sym e))
      by (Over came) e = refl
