-- The places at which payloads stand last.
use Rattle.std.proofs.Common.{◌≡◌, ◌∙◌, ℕ, zero, suc, ◌<◌, ◌≤◌, Bool, true, false, cond, List, [], ◌∷◌, ◌++◌, length, drop, find, Option, None, Some, ◌⊎◌, inl, inr, ap, sym, refl, subst, arith, nat_lt}
use Rattle.std.proofs.lemmas.Bool.{ltb-false}
use Rattle.std.proofs.lemmas.Slice.Eq.{bytes_eq-Decides}
use Rattle.std.specs.List.{slice_get}
use Rattle.std.specs.Str.{bytes_eq}
use Rattle.ws_suite.specs.declared.evidence.InTurn.{InTurn}
use Rattle.ws_suite.specs.declared.evidence.Reply.{Reply}
use Rattle.ws_suite.specs.declared.judging.noted.Noted.{Noted}
use Rattle.ws_suite.specs.InnerJudging.{AreLastPlaces, IsPlaceBefore}
use Rattle.ws_suite.specs.InnerNoted.{IsNotedIn, noted_of, reaches, with_number}
use Rattle.ws_suite.specs.Matching.{has_payload_of, payload_of}

push_place : {X : Type 0} (xs : List X) (y : X) (j : ℕ) (p : X) → slice_get (xs ++ y ∷ []) j ≡ Some p → (slice_get xs j ≡ Some p) ⊎ ((j ≡ length xs) × (p ≡ y))
push_place [] y zero p e = inr (refl, let same : y ≡ p = cc in sym same)
push_place [] y (suc j) p e = absurd cc
push_place (x ∷ xs) y zero p e = inl e
push_place (x ∷ xs) y (suc j) p e = pick (push_place xs y j p e)
  where
    pick : (slice_get xs j ≡ Some p) ⊎ ((j ≡ length xs) × (p ≡ y)) → (slice_get xs j ≡ Some p) ⊎ ((suc j ≡ suc (length xs)) × (p ≡ y))
    pick (inl a) = inl a
    pick (inr b) = inr (ap suc b.0, b.1)

place_within : {X : Type 0} (xs : List X) (j : ℕ) (p : X) → slice_get xs j ≡ Some p → j < length xs
place_within [] j p e = absurd cc
place_within (x ∷ xs) zero p e = omega arith
place_within (x ∷ xs) (suc j) p e = omega (arith, place_within xs j p e)

pub no_places : (places : Noted) → AreLastPlaces [] places
no_places places = λ place pong e. absurd cc

-- a place that was noted, or a later one
noted_place : (has_all : Bool) (place i : ℕ) (known : Option ℕ) → place ≤ i
    → IsPlaceBefore has_all place (with_number has_all i known)
noted_place true place i None less = omega (arith, less)
noted_place false place i None less = refl
noted_place true place i (Some end) less = omega (arith, less)
noted_place false place i (Some end) less = omega (arith, less)

-- one pong more, whose place is noted
pub places_more : (due : List (InTurn Reply)) (pong : InTurn Reply) (old new : Noted) → AreLastPlaces due old
    → IsNotedIn (payload_of pong.what) (length due) old new → AreLastPlaces (due ++ pong ∷ []) new
places_more due pong old new are noted = λ place p e. pick place p (push_place due pong place p e)
  where
    Stands : ℕ → InTurn Reply → Type 0
    Stands place p = IsPlaceBefore new.has_all place (noted_of new (payload_of p.what))

    -- what is known now, where it is known whether the payload is that of the new pong
    after : (place : ℕ) (p : InTurn Reply) (b : Bool) → bytes_eq (payload_of pong.what) (payload_of p.what) ≡ b
        → IsPlaceBefore old.has_all place (cond b
        (with_number old.has_all (length due) (noted_of old (payload_of pong.what))) (noted_of old (payload_of p.what)))
        → Stands place p
    after place p b same is =
        subst (λ (all : Bool). IsPlaceBefore all place (noted_of new (payload_of p.what))) (sym noted.has_all)
        (subst (λ (o : Option ℕ). IsPlaceBefore old.has_all place o)
        (sym (noted.moved (payload_of p.what) ∙ ap (λ (c : Bool). cond c
        (with_number old.has_all (length due) (noted_of old (payload_of pong.what)))
        (noted_of old (payload_of p.what))) same)) is)

    here : (p : InTurn Reply) (place : ℕ) → place ≤ length due
        → bytes_eq (payload_of pong.what) (payload_of p.what) ≡ true → Stands place p
    here p place less same = after place p true same
        (noted_place old.has_all place (length due) (noted_of old (payload_of pong.what)) less)

    other : (p : InTurn Reply) (place : ℕ) (b : Bool) → place < length due → slice_get due place ≡ Some p
        → bytes_eq (payload_of pong.what) (payload_of p.what) ≡ b → Stands place p
    other p place true less e same = here p place (omega (arith, less)) same
    other p place false less e same = after place p false same (are place p e)

    pick : (place : ℕ) (p : InTurn Reply) → (slice_get due place ≡ Some p) ⊎ ((place ≡ length due) × (p ≡ pong)) → Stands place p
    pick place p (inl e) = other p place (bytes_eq (payload_of pong.what) (payload_of p.what)) (place_within due place p e) e refl
    pick place p (inr e) = here p place (omega (arith, e.0)) ((bytes_eq-Decides (payload_of pong.what) (payload_of p.what)).1 (ap (λ (q : InTurn Reply). payload_of q.what) (sym e.1)))

none_from : {X : Type 0} (test : X → Bool) (xs : List X) (n : ℕ) → ((j : ℕ) (x : X) → n ≤ j → slice_get xs j ≡ Some x → test x ≡ true → ⊥) → find test (drop n xs) ≡ None
none_from test [] zero h = refl
none_from test [] (suc n) h = refl
none_from test (x ∷ xs) zero h = pick (none_from test xs 0 (λ j y less at passes. h (suc j) y (omega arith) at passes)) (test x) refl
  where
    pick : find test xs ≡ None → (b : Bool) → test x ≡ b → cond b (Some x) (find test xs) ≡ None
    pick later true e = absurd (h 0 x (omega arith) refl e)
    pick later false e = later
none_from test (x ∷ xs) (suc n) h = none_from test xs n (λ j y less at passes. h (suc j) y (omega (arith, less)) at passes)

-- a place that isn't reached lies before
not_reached : (has_all : Bool) (j next : ℕ) (known : Option ℕ) → next ≤ j → IsPlaceBefore has_all j known
    → reaches has_all next known ≡ false → ⊥
not_reached true j next None less is fails = absurd cc
not_reached false j next None less is fails = absurd cc
not_reached has_all j next (Some end) less is fails = absurd (omega (arith, less, is, ltb-false next end fails))

-- nothing is left of a payload whose last place isn't reached
pub none_left_of : (due : List (InTurn Reply)) (pong : InTurn Reply) (next : ℕ) (places : Noted) → AreLastPlaces due places
    → reaches places.has_all next (noted_of places (payload_of pong.what)) ≡ false → find (has_payload_of pong) (drop next due) ≡ None
none_left_of due pong next places are fails = none_from (has_payload_of pong) due next not
  where
    not : (j : ℕ) (d : InTurn Reply) → next ≤ j → slice_get due j ≡ Some d → has_payload_of pong d ≡ true → ⊥
    not j d less at passes =
        let same : payload_of d.what ≡ payload_of pong.what = (bytes_eq-Decides (payload_of d.what) (payload_of pong.what)).0 passes in
        not_reached places.has_all j next (noted_of places (payload_of pong.what)) less
        (subst (λ (payload : List ℕ). IsPlaceBefore places.has_all j (noted_of places payload)) same (are j d at)) fails
