-- The key's four bytes four times over are its lanes.
use Rattle.std.proofs.Common.{◌≡◌, ◌∙◌, List, ℕ, ap, length, take, arith, rules}
use Rattle.std.specs.Prelude.{slice_index}
use Rattle.std.proofs.lemmas.List.{take_all}
use Rattle.ws_wire.proofs.Masks.{four_times, four_again}
use Rattle.ws_frame.proofs.first_bytes.sixteen_lanes.Goals as goal

pub returns-clause-lanes : goal.returns-clause-lanes
returns-clause-lanes c =
    let key = c.args.key in
    let four : length key ≡ 4 = search rules in
    let whole : take 4 key ≡ key = take_all 4 key (omega (arith, four)) in
    four_times key 0 _ _ _ _ (λ i lt.
    four_again (take 4 key) (ap (λ (t : List ℕ). length t) whole ∙ four) i lt
    ∙ ap (λ (t : List ℕ). slice_index t i) whole ∙ ap (λ k. slice_index key k) (omega (arith, lt)))
