-- A walk over a list: what is left of it at a place begins with what stands there.
use Rattle.std.proofs.Common.{◌≡◌, ◌∙◌, ◌<◌, ◌+◌, ℕ, List, [], ◌∷◌, ◌++◌, ap, arith, drop, length, slice_index_or, sym, take}
use Rattle.std.proofs.lemmas.List.{drop_more, length-drop, take_more}

-- an item stands at the place, and others after it
module _ {X : Type 0} (all : List X) (i : ℕ) (x : X) (others : List X) (left : x ∷ others ≡ drop i all) where
  pub within : i < length all
  within = omega (arith, ap (λ (l : List X). length l) left, length-drop i all)

  split : drop i all ≡ slice_index_or all i x ∷ drop (i + 1) all
  split = drop_more all i x within

  pub is_there : x ≡ slice_index_or all i x
  is_there = ap (λ (l : List X). slice_index_or l 0 x) (left ∙ split)

  pub others_left : others ≡ drop (i + 1) all
  others_left = ap (λ (l : List X). drop 1 l) (left ∙ split)

  pub one_more_done : take (i + 1) all ≡ take i all ++ x ∷ []
  one_more_done = take_more all i x within ∙ ap (λ (y : X). take i all ++ y ∷ []) (sym is_there)
