-- The pieces that are still to be sent, when a front of them is taken.
use Rattle.std.proofs.Common.{◌≡◌, ◌∙◌, ℕ, ◌<◌, true, List, [], ◌∷◌, ◌++◌, length, drop, refl, sym, ap, arith}
use Rattle.std.proofs.Common.{append_assoc}
use Rattle.std.proofs.Math.Seq.{drop-append_seam}
use Rattle.std.specs.List.{concat, AllByRecursion}
use Rattle.ws_scripts.specs.Scripts.{has_bytes, without_empty}
use Rattle.ws_tester.specs.Outgoings.{Pieces, first_piece, without_front}
use Rattle.ws_tester.specs.RunStates.{is_nothing}

pub one_left : (piece : List ℕ) (pieces : Pieces)
    → concat (without_empty (piece ∷ []) ++ pieces) ≡ piece ++ concat pieces
one_left [] pieces = refl
one_left (byte ∷ bytes) pieces = refl

pub no_front : (bytes unsent : List ℕ) → [] ≡ bytes ++ unsent → [] ≡ bytes ++ []
no_front [] unsent e = refl
no_front (byte ∷ bytes) unsent e = absurd cc

-- what is taken of the first piece, and what is left then
pub front_is : (rest : Pieces) (bytes unsent : List ℕ) → first_piece rest ≡ bytes ++ unsent
    → concat rest ≡ bytes ++ concat (without_front (length bytes) rest)
front_is [] bytes unsent e = no_front bytes unsent e
front_is (piece ∷ pieces) bytes unsent e =
    let left : drop (length bytes) piece ≡ unsent =
    ap (λ (l : List ℕ). drop (length bytes) l) e ∙ drop-append_seam bytes unsent in
    let one : concat (without_front (length bytes) (piece ∷ pieces)) ≡ unsent ++ concat pieces =
    one_left (drop (length bytes) piece) pieces ∙ ap (λ (l : List ℕ). l ++ concat pieces) left in
    ap (λ (l : List ℕ). l ++ concat pieces) e ∙ (append_assoc bytes unsent (concat pieces)
    ∙ ap (λ (l : List ℕ). bytes ++ l) (sym one))

pub some_piece : (piece : List ℕ) (pieces : Pieces) → AllByRecursion has_bytes pieces
    → AllByRecursion has_bytes (without_empty (piece ∷ []) ++ pieces)
some_piece [] pieces h = h
some_piece (byte ∷ bytes) pieces h = (omega arith, h)

pub still_pieces : (rest : Pieces) (count : ℕ) → AllByRecursion has_bytes rest
    → AllByRecursion has_bytes (without_front count rest)
still_pieces [] count h = h
still_pieces (piece ∷ pieces) count h = some_piece (drop count piece) pieces h.1

pub no_byte : (bytes : List ℕ) → is_nothing bytes ≡ true → 0 < length bytes → ⊥
no_byte [] e some = omega (arith, some)
no_byte (byte ∷ bytes) e some = absurd cc

-- where no piece is empty and the first has no byte, there is none
pub no_piece : (rest : Pieces) → AllByRecursion has_bytes rest → is_nothing (first_piece rest) ≡ true → concat rest ≡ []
no_piece [] h e = refl
no_piece (piece ∷ pieces) h e = absurd (no_byte piece e h.0)
