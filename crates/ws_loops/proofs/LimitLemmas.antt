-- A tree over times: the first node is no later than any leaf, also where one leaf gets another time.
use Rattle.std.proofs.Common.{◌≡◌, ◌∙◌, ℕ, zero, suc, ◌+◌, ◌*◌, ◌/◌, ◌<◌, ◌≤◌, ◌⊎◌, List, length}
use Rattle.std.proofs.Common.{Option}
use Rattle.std.proofs.Common.{None, Some, false, slice_set, sym, ap, subst, arith, inl, inr}
use Rattle.std.proofs.lemmas.Bool.{cases_eq, leb-false}
use Rattle.std.specs.List.{slice_get}
use Rattle.std.proofs.lemmas.Option.{same_Some, slice_get_within}
use Rattle.ws_loops.specs.Limits.{IsChildOf, ComesLater, ComesNoLater, IsSoonest, IsTree}
use Rattle.ws_loops.specs.Paces.{IsBefore, has_ended_by, sooner}
use Rattle.ws_loops.specs.declared.limits.Limits.{Limits}
use Rattle.ws_loops.proofs.PlaceLemmas.{get_set_other, get_set_same, place_of, set_cases}

-- the sooner of two is no later than each
pub sooner_first : (one other : Option ℕ) → ComesNoLater (sooner one other) one
sooner_first None other t h = tt
sooner_first (Some a) None t h = h
sooner_first (Some a) (Some b) t h = omega (arith, h)

pub sooner_second : (one other : Option ℕ) → ComesNoLater (sooner one other) other
sooner_second None other t h = h
sooner_second (Some a) None t h = tt
sooner_second (Some a) (Some b) t h = omega (arith, h)

pub same_sooner : (a b one other : Option ℕ) → a ≡ one → b ≡ other → sooner a b ≡ sooner one other
same_sooner a b one other e f = ap (λ (o : Option ℕ). sooner o b) e ∙ ap (λ (o : Option ℕ). sooner one o) f

-- each node but the first is below one
pub below_half : (k : ℕ) → 2 ≤ k → IsChildOf k (k / 2)
below_half k h = by (cases_eq k (k / 2 + k / 2))
  where
    by : (k ≡ k / 2 + k / 2) ⊎ (k ≡ k / 2 + k / 2 → ⊥) → IsChildOf k (k / 2)
    by (inl e) = (omega (arith, h), inl e)
    by (inr other) = (omega (arith, h), inr (omega (arith, other)))

-- no node is later than one below it
abbrev pub IsInOrder : List (Option ℕ) → Type 0
IsInOrder tree = (child node : ℕ) (below above : Option ℕ) → IsChildOf child node → slice_get tree child ≡ Some below
    → slice_get tree node ≡ Some above → ComesNoLater above below

-- but for this one and the one that it is below
abbrev pub IsInOrderBut : List (Option ℕ) → ℕ → Type 0
IsInOrderBut tree at = (child node : ℕ) (below above : Option ℕ) → (child ≡ at → ⊥) → IsChildOf child node
    → slice_get tree child ≡ Some below → slice_get tree node ≡ Some above → ComesNoLater above below

-- so the first is no later than any
first_below : (tree : List (Option ℕ)) (first : Option ℕ) → IsInOrder tree → slice_get tree 1 ≡ Some first
    → (fuel k : ℕ) (time : Option ℕ) → k ≤ fuel → 1 ≤ k → slice_get tree k ≡ Some time → ComesNoLater first time
first_below tree first h is zero k time le one there = absurd (omega (arith, le, one))
first_below tree first h is (suc fuel) k time le one there = by (cases_eq k 1)
    (λ m t le_m one_m at_m. first_below tree first h is fuel m t le_m one_m at_m)
  where
    by : (k ≡ 1) ⊎ (k ≡ 1 → ⊥) → ((m : ℕ) (t : Option ℕ) → m ≤ fuel → 1 ≤ m → slice_get tree m ≡ Some t
        → ComesNoLater first t) → ComesNoLater first time
    by (inl e) below = subst (λ (o : Option ℕ). ComesNoLater first o) (same_Some first time (sym is
        ∙ subst (λ (n : ℕ). slice_get tree n ≡ Some time) e there)) (λ t before. before)
    by (inr other) below = through (place_of tree (k / 2) (omega (arith, slice_get_within tree k time there)))
      where
        through : (above : Option ℕ) × (slice_get tree (k / 2) ≡ Some above) → ComesNoLater first time
        through (above, above_is) t before = h k (k / 2) time above (below_half k (omega (arith, one, other))) there
            above_is t (below (k / 2) above (omega (arith, le, one, other)) (omega
            (arith, one, other)) above_is t before)

pub soonest_so : (limits : Limits) (first : Option ℕ) → IsTree limits → slice_get limits.tree.items 1 ≡ Some first
    → IsSoonest limits.times.items first
soonest_so limits first h is i time there =
    let times = limits.times.items in
    first_below limits.tree.items first h.order is (length times + i) (length times + i) time (omega arith)
    (omega (arith, slice_get_within times i time there)) (h.leaf i time there)

pub soonest_none : (limits : Limits) → IsTree limits → length limits.tree.items < 2
    → IsSoonest limits.times.items None
soonest_none limits h few i time there =
    absurd (omega (arith, few, h.len, slice_get_within limits.times.items i time there))

before_of : (first : Option ℕ) (now : ℕ) → has_ended_by first now ≡ false → IsBefore now first
before_of None now h = tt
before_of (Some time) now h = omega (arith, leb-false time now h)

-- where the soonest has not come, none has
pub comes_later : (times : List (Option ℕ)) (first : Option ℕ) (now : ℕ) → IsSoonest times first
    → has_ended_by first now ≡ false → ComesLater times now
comes_later times first now soon early i time there = soon i time there now (before_of first now early)

-- a leaf that gets another time: all else is in order
pub leaf_set : (tree : List (Option ℕ)) (at : ℕ) (time : Option ℕ) → IsInOrder tree → length tree ≤ at + at
    → IsInOrderBut (slice_set tree at time) at
leaf_set tree at time h leaf child node below above other is_below below_is above_is = by
    (set_cases tree at time child below below_is) (set_cases tree at time node above above_is)
  where
    by : ((child ≡ at) × (below ≡ time)) ⊎ ((child ≡ at → ⊥) × (slice_get tree child ≡ Some below))
        → ((node ≡ at) × (above ≡ time)) ⊎ ((node ≡ at → ⊥) × (slice_get tree node ≡ Some above))
        → ComesNoLater above below
    by (inl (e, _)) _ = absurd (other e)
    by (inr (_, there)) (inl (e, _)) = absurd (past is_below)
      where
        past : IsChildOf child node → ⊥
        past (one, inl twice) = omega (arith, leaf, e, twice, slice_get_within tree child below there)
        past (one, inr twice) = omega (arith, leaf, e, twice, slice_get_within tree child below there)
    by (inr (_, there)) (inr (_, up)) = h child node below above is_below there up

-- a node that becomes the sooner of both below it: but for it all is in order
pub node_set : (tree : List (Option ℕ)) (at from : ℕ) (one other : Option ℕ) → 1 ≤ at → IsChildOf from at
    → IsInOrderBut tree from → slice_get tree (2 * at) ≡ Some one → slice_get tree (2 * at + 1) ≡ Some other
    → IsInOrderBut (slice_set tree at (sooner one other)) at
node_set tree at from one other pos from_below h one_is other_is child node below above not_at is_below below_is
    above_is =
    by (set_cases tree at (sooner one other) child below below_is)
    (set_cases tree at (sooner one other) node above above_is)
  where
    first : (n : ℕ) → n ≡ at + at → slice_get tree n ≡ Some below → below ≡ one
    first n e is = same_Some below one (sym is ∙ (ap (λ (m : ℕ). slice_get tree m) (omega (arith, e)) ∙ one_is))

    second : (n : ℕ) → n ≡ at + at + 1 → slice_get tree n ≡ Some below → below ≡ other
    second n e is = same_Some below other (sym is ∙ (ap (λ (m : ℕ). slice_get tree m) (omega (arith, e)) ∙ other_is))

    at_node : node ≡ at → above ≡ sooner one other → slice_get tree child ≡ Some below → IsChildOf child node
        → ComesNoLater above below
    at_node e above_so there (_, inl twice) = subst (λ (o : Option ℕ). ComesNoLater o below) (sym above_so)
        (subst (λ (o : Option ℕ). ComesNoLater (sooner one other) o)
        (sym (first child (omega (arith, e, twice)) there)) (sooner_first one other))
    at_node e above_so there (_, inr twice) = subst (λ (o : Option ℕ). ComesNoLater o below) (sym above_so)
        (subst (λ (o : Option ℕ). ComesNoLater (sooner one other) o)
        (sym (second child (omega (arith, e, twice)) there)) (sooner_second one other))

    -- one node alone is above each
    same_node : (a b : ℕ) → IsChildOf from a → IsChildOf from b → a ≡ b
    same_node a b (_, inl e) (_, inl f) = omega (arith, e, f)
    same_node a b (_, inl e) (_, inr f) = absurd (omega (arith, e, f))
    same_node a b (_, inr e) (_, inl f) = absurd (omega (arith, e, f))
    same_node a b (_, inr e) (_, inr f) = omega (arith, e, f)

    elsewhere : (node ≡ at → ⊥) → slice_get tree child ≡ Some below → slice_get tree node ≡ Some above
        → (child ≡ from) ⊎ (child ≡ from → ⊥) → ComesNoLater above below
    elsewhere up there is (inl e) =
        absurd (up (same_node node at (subst (λ (n : ℕ). IsChildOf n node) e is_below) from_below))
    elsewhere up there is (inr away) = h child node below above away is_below there is

    by : ((child ≡ at) × (below ≡ sooner one other)) ⊎ ((child ≡ at → ⊥) × (slice_get tree child ≡ Some below))
        → ((node ≡ at) × (above ≡ sooner one other)) ⊎ ((node ≡ at → ⊥) × (slice_get tree node ≡ Some above))
        → ComesNoLater above below
    by (inl (e, _)) _ = absurd (not_at e)
    by (inr (_, there)) (inl (e, above_so)) = at_node e above_so there is_below
    by (inr (_, there)) (inr (up, is)) = elsewhere up there is (cases_eq child from)

-- a node that has the sooner of both below it already: all is in order
pub order_stopped : (tree : List (Option ℕ)) (at from : ℕ) (one other : Option ℕ) → 1 ≤ at → IsChildOf from at
    → IsInOrderBut tree from → slice_get tree (2 * at) ≡ Some one → slice_get tree (2 * at + 1) ≡ Some other
    → slice_set tree at (sooner one other) ≡ tree → IsInOrder tree
order_stopped tree at from one other pos from_below h one_is other_is same child node below above is_below below_is
    above_is = by (cases_eq child from)
  where
    but_at : IsInOrderBut tree at
    but_at = subst (λ (l : List (Option ℕ)). IsInOrderBut l at) same
        (node_set tree at from one other pos from_below h one_is other_is)

    not_at : IsChildOf from at → child ≡ from → child ≡ at → ⊥
    not_at (_, inl twice) e f = omega (arith, pos, twice, e, f)
    not_at (_, inr twice) e f = omega (arith, pos, twice, e, f)

    by : (child ≡ from) ⊎ (child ≡ from → ⊥) → ComesNoLater above below
    by (inl e) = but_at child node below above (not_at from_below e) is_below below_is above_is
    by (inr other) = h child node below above other is_below below_is above_is

-- where it is the first one, all is in order
pub order_whole : (tree : List (Option ℕ)) (at : ℕ) → at ≤ 1 → IsInOrderBut tree at → IsInOrder tree
order_whole tree at le h child node below above is_below = h child node below above (not_at is_below) is_below
  where
    not_at : IsChildOf child node → child ≡ at → ⊥
    not_at (pos, inl e) same = omega (arith, le, pos, e, same)
    not_at (pos, inr e) same = omega (arith, le, pos, e, same)

-- the leaves are kept where a node is set that is none
pub leaves_kept : (times tree : List (Option ℕ)) (at : ℕ) (time : Option ℕ) → at < length times
    → ((i : ℕ) (x : Option ℕ) → slice_get times i ≡ Some x → slice_get tree (length times + i) ≡ Some x)
    → (i : ℕ) (x : Option ℕ) → slice_get times i ≡ Some x → slice_get (slice_set tree at time) (length times + i)
    ≡ Some x
leaves_kept times tree at time lt h i x is =
    get_set_other tree at (length times + i) time (λ e. omega (arith, lt, e)) ∙ h i x is

-- and where a leaf is
pub leaves_set : (times tree : List (Option ℕ)) (at : ℕ) (time : Option ℕ) → at < length times
    → length tree ≡ length times + length times
    → ((i : ℕ) (x : Option ℕ) → slice_get times i ≡ Some x → slice_get tree (length times + i) ≡ Some x)
    → (i : ℕ) (x : Option ℕ) → slice_get (slice_set times at time) i ≡ Some x
    → slice_get (slice_set tree (length times + at) time) (length times + i) ≡ Some x
leaves_set times tree at time lt len h i x is = by (set_cases times at time i x is)
  where
    by : ((i ≡ at) × (x ≡ time)) ⊎ ((i ≡ at → ⊥) × (slice_get times i ≡ Some x))
        → slice_get (slice_set tree (length times + at) time) (length times + i) ≡ Some x
    by (inl (e, same)) = subst (λ (n : ℕ). slice_get (slice_set tree (length times + at) time) (length times + n)
        ≡ Some x)
        (sym e) (get_set_same tree (length times + at) time (omega (arith, lt, len))
        ∙ ap (λ (o : Option ℕ). Some o) (sym same))
    by (inr (other, was)) =
        get_set_other tree (length times + at) (length times + i) time (λ e. other (omega (arith, e))) ∙ h i x was
