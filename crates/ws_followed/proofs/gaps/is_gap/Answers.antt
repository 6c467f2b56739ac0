-- What stands behind the bracket is parted before the words that end a gap.
use Rattle.std.proofs.Common.{◌≡◌, ◌∙◌, ◌∷◌, ◌-◌, ◌≤◌, List, ℕ, ap, arith, drop, length, length-drop, rules, sym, take, take_all}
use Rattle.ws_followed.proofs.GapPlaces.{gap_by, parts_of}
use Rattle.ws_followed.proofs.gaps.is_gap.Goals as goal

pub returns-then-eq : goal.returns-then-eq
returns-then-eq c =
    let bytes = c.args.bytes.now in
    let behind = drop 1 bytes in
    let size = length bytes - 1 in
    let count = c.split_at.result.0.now in
    let end = c.split_at.result.1.now in
    let begins : bytes ≡ 91 ∷ behind = search rules in
    let whole : length behind ≤ size = omega (arith, length-drop 1 bytes) in
    let first : bytes ≡ 91 ∷ take size behind =
    begins ∙ ap (λ (l : List ℕ). 91 ∷ l) (sym (take_all size behind whole)) in
    gap_by bytes (take size behind) count end first
    (parts_of _ (take size behind) count end c.split_at.ensures.front c.split_at.ensures.back) (search rules)
    c.are_count_digits.result c.are_count_digits.ensures
