-- Numbers of scripts: what is put in front of places leaves their number, and so many steps have so many scripts.
use Rattle.std.proofs.Common.{◌≡◌, ◌∙◌, ℕ, zero, suc, ◌-◌, ◌/◌, ◌%◌, ◌<◌, ◌≤◌, List, ◌∷◌, length, drop, ap, sym}
use Rattle.std.proofs.Common.{add-one, arith, set, subst}
use Rattle.std.proofs.Math.Nat.{div-add-mod, mod-lt}
use Rattle.std.proofs.lemmas.List.{drop-set}
use Rattle.ws_sweep.specs.Order.{ArePlaces, count_of_scripts, script_number_from}

-- the last place of a number, in front of the places behind it
pub place_in_front : (rest : ℕ) (places : List ℕ) → 0 < rest
    → script_number_from ((rest - 1) / 27) ((rest - 1) % 27 ∷ places) ≡ script_number_from rest places
place_in_front rest places some =
    let whole = div-add-mod (rest - 1) 27 in
    ap (λ (n : ℕ). script_number_from n places) (omega (arith, whole, some))

-- one step less
one_less : (n : ℕ) → suc n - 1 ≡ n
one_less n = omega arith

-- one step less is left for what is left of the number
pub fewer_left : (rest start : ℕ) → 0 < rest → rest < count_of_scripts start
    → (0 < start) × ((rest - 1) / 27 < count_of_scripts (start - 1))
fewer_left rest zero some within = absurd (omega (arith, some, within))
fewer_left rest (suc start) some within =
    let whole = div-add-mod (rest - 1) 27 in (
      omega arith,
      subst (λ (n : ℕ). (rest - 1) / 27 < count_of_scripts n) (sym (one_less start))
          (omega (arith, whole, some, within)),
    )

-- a place that is written in front of the last ones
pub room_with : (room : List ℕ) (start place : ℕ) → 0 < start → start ≤ length room
    → drop (start - 1) (set room (start - 1) place) ≡ place ∷ drop start room
room_with room (suc start) place some within =
    subst (λ (n : ℕ). drop n (set room n place) ≡ place ∷ drop (suc start) room) (sym (one_less start))
    (drop-set room start place (omega (arith, within)) ∙ ap (λ (n : ℕ). place ∷ drop n room) (add-one start))
room_with room zero place some within = absurd (omega (arith, some))

-- a place and those behind it
pub places_with : (places : List ℕ) (rest : ℕ) → ArePlaces places → ArePlaces ((rest - 1) % 27 ∷ places)
places_with places rest are = (mod-lt (rest - 1) (omega arith), are)

-- no more than of four steps
pub count_within : (steps : ℕ) → steps ≤ 4 → count_of_scripts steps ≤ 551881
count_within zero within = omega arith
count_within (suc zero) within = omega arith
count_within (suc (suc zero)) within = omega arith
count_within (suc (suc (suc zero))) within = omega arith
count_within (suc (suc (suc (suc zero)))) within = omega arith
count_within (suc (suc (suc (suc (suc n))))) within = absurd (omega (arith, within))

-- so the next count fits
pub next_fits : (steps next count : ℕ) → steps ≤ 4 → next < steps → count ≡ count_of_scripts next → count ≤ 551881
next_fits steps next count most within is =
    let few = count_within next (omega (arith, most, within)) in omega (arith, few, is)
