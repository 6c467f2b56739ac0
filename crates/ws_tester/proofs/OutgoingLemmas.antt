-- So many bytes of the first piece are sent: a part of it, or all.
use Rattle.std.proofs.Common.{◌≡◌, ◌∙◌, ℕ, zero, suc, get_or, ◌+◌, ◌-◌, ◌<◌, ◌≤◌, List, [], ◌∷◌, ◌++◌, length, drop}
use Rattle.std.proofs.Common.{min, ◌^◌, refl, sym, ap, arith}
use Rattle.std.proofs.lemmas.List.{drop-drop, drop_all, length-drop}
use Rattle.ws_scripts.specs.Scripts.{without_empty}
use Rattle.ws_tester.specs.Outgoings.{Pieces, first_piece, pieces_left, without_front}

kept_piece : (piece : List ℕ) → 0 < length piece → piece ∷ [] ≡ without_empty (piece ∷ [])
kept_piece [] some = absurd (let wrong : 0 < 0 = some in omega arith)
kept_piece (byte ∷ bytes) some = refl

gone_piece : (piece : List ℕ) → length piece ≤ 0 → [] ≡ without_empty (piece ∷ [])
gone_piece [] none = refl
gone_piece (byte ∷ bytes) none = absurd (let wrong : suc (length bytes) ≤ 0 = none in omega arith)

pub part_sent : (items : Pieces) (sent count : ℕ) → count < length (first_piece items) - sent
    → pieces_left (sent + count) items ≡ without_front count (pieces_left sent items)
part_sent [] sent count less = refl
part_sent (first ∷ items) sent count less =
    let same : drop count (drop sent first) ≡ drop (sent + count) first = drop-drop count sent first in
    let some : 0 < length (drop count (drop sent first)) = omega (arith, less, length-drop count (drop sent first), length-drop sent first) in
    ap (λ (l : List ℕ). l ∷ items) (sym same)
    ∙ ap (λ (l : Pieces). l ++ items) (kept_piece (drop count (drop sent first)) some)

from_start : (items : Pieces) → pieces_left 0 items ≡ items
from_start [] = refl
from_start (first ∷ items) = refl

-- where all of the first piece is sent, it is gone
pub whole_sent : (rest : Pieces) (count : ℕ) → length (first_piece rest) ≤ count
    → drop 1 rest ≡ without_front count rest
whole_sent [] count all = refl
whole_sent (first ∷ rest) count all =
    let none : length (drop count first) ≤ 0 = omega (arith, all, length-drop count first) in
    ap (λ (l : Pieces). l ++ rest) (gone_piece (drop count first) none)

after_first_of : (items : Pieces) (sent : ℕ) → drop 1 (pieces_left sent items) ≡ drop 1 items
after_first_of [] sent = refl
after_first_of (first ∷ items) sent = refl

-- the pieces after the one that is next
pub after_next : (pieces : Pieces) (number sent : ℕ)
    → drop 1 (pieces_left sent (drop number pieces)) ≡ drop (number + 1) pieces
after_next pieces number sent = after_first_of (drop number pieces) sent ∙ drop-drop 1 number pieces

pub one_piece_on : (pieces rest : Pieces) (number next sent : ℕ) → rest ≡ pieces_left sent (drop number pieces)
    → next ≡ min (number + 1) (2 ^ 64 - 1)
    → next < length pieces → length pieces < 2 ^ 64 → pieces_left 0 (drop next pieces) ≡ drop 1 rest
one_piece_on pieces rest number next sent e n more fits =
    let one : next ≡ number + 1 = omega (arith, n, more, fits) in
    from_start (drop next pieces)
    ∙ (ap (λ (k : ℕ). drop k pieces) one ∙ (sym (after_next pieces number sent) ∙ ap (λ (l : Pieces). drop 1 l) (sym e)))

pub no_piece_on : (pieces rest : Pieces) (number next sent : ℕ) → rest ≡ pieces_left sent (drop number pieces)
    → next ≡ min (number + 1) (2 ^ 64 - 1)
    → length pieces ≤ next → [] ≡ drop 1 rest
no_piece_on pieces rest number next sent e n none =
    let all : length pieces ≤ number + 1 = omega (arith, n, none) in
    sym (ap (λ (l : Pieces). drop 1 l) e ∙ (after_next pieces number sent ∙ drop_all (number + 1) pieces all))

-- the piece of a number is the first of those from it on
pub first_from : (pieces : Pieces) (number : ℕ) → first_piece (drop number pieces) ≡ get_or pieces number []
first_from [] zero = refl
first_from [] (suc number) = refl
first_from (piece ∷ pieces) zero = refl
first_from (piece ∷ pieces) (suc number) = first_from pieces number

-- what is left of the first piece
pub rest_of_first : (pieces : Pieces) (sent : ℕ) → first_piece (pieces_left sent pieces) ≡ drop sent
    (first_piece pieces)
rest_of_first [] zero = refl
rest_of_first [] (suc sent) = refl
rest_of_first (piece ∷ pieces) sent = refl
