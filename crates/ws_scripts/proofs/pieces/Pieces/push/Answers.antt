-- One byte string more is kept: its length, which may be long, and its bytes behind the others.
use Rattle.std.proofs.Common.{◌≡◌, ◌∙◌, ◌++◌, ◌∷◌, [], List, ℕ, ap, ap₂, length, nat_eq, false, refl, rules, sym, subst}
use Rattle.std.proofs.Common.{arith}
use Rattle.std.proofs.lemmas.Bool.Decides.{nat_tests}
use Rattle.ws_scripts.specs.Pieces.{HasPieces, kept_pieces}
use Rattle.ws_scripts.proofs.PieceLemmas.{long_has, long_pieces, short_has, short_pieces}
use Rattle.ws_scripts.proofs.pieces.Pieces.push.Goals as goal

pub invariant_of-self-then-piece : goal.invariant_of-self-then-piece
invariant_of-self-then-piece c =
    let old = c.self.inside in
    let piece = c.args.piece.now in
    let n = length piece in
    let short : nat_eq n 255 ≡ false = grind (arith, nat_tests, c.if-piece.true) in
    let lens : c.push_reserved.new.self.items ≡ old.lens.items ++ n ∷ [] = search rules in
    let bytes : c.extend_from_slice.new.self.items ≡ old.bytes.items ++ piece = search rules in
    subst (λ (l : List ℕ). HasPieces l old.long.items c.extend_from_slice.new.self.items) (sym lens)
    (subst (λ (l : List ℕ). HasPieces (old.lens.items ++ n ∷ []) old.long.items l) (sym bytes)
    (short_has old.lens.items old.long.items old.bytes.items n piece c.self.invariant refl short))

pub invariant_of-self-else-piece : goal.invariant_of-self-else-piece
invariant_of-self-else-piece c =
    let old = c.self.inside in
    let piece = c.args.piece.now in
    let n = length piece in
    let lens : c.push_reserved-else-piece.new.self.items ≡ old.lens.items ++ 255 ∷ [] = search rules in
    let long : c.push_reserved-else-piece-2.new.self.items ≡ old.long.items ++ n ∷ [] = search rules in
    let bytes : c.extend_from_slice-else-piece.new.self.items ≡ old.bytes.items ++ piece = search rules in
    subst (λ (l : List ℕ). HasPieces l c.push_reserved-else-piece-2.new.self.items
    c.extend_from_slice-else-piece.new.self.items) (sym lens)
    (subst (λ (l : List ℕ). HasPieces (old.lens.items ++ 255 ∷ []) l c.extend_from_slice-else-piece.new.self.items) (sym long)
    (subst (λ (l : List ℕ). HasPieces (old.lens.items ++ 255 ∷ []) (old.long.items ++ n ∷ []) l) (sym bytes)
    (long_has old.lens.items old.long.items old.bytes.items n piece c.self.invariant refl)))

pub returns-in_ok-extend_from_slice-clause-longer : goal.returns-in_ok-extend_from_slice-clause-longer
returns-in_ok-extend_from_slice-clause-longer c =
    let old = c.self.inside in
    let piece = c.args.piece.now in
    let n = length piece in
    let short : nat_eq n 255 ≡ false = grind (arith, nat_tests, c.if-piece.true) in
    let lens : c.push_reserved.new.self.items ≡ old.lens.items ++ n ∷ [] = search rules in
    let bytes : c.extend_from_slice.new.self.items ≡ old.bytes.items ++ piece = search rules in
    ap₂ (λ (a b : List ℕ). kept_pieces a old.long.items b) lens bytes
    ∙ (short_pieces old.lens.items old.long.items old.bytes.items n piece c.self.invariant refl short
    ∙ ap (λ (l : List (List ℕ)). l ++ piece ∷ []) c.self.view_is)

pub returns-in_ok-extend_from_slice-2-clause-longer : goal.returns-in_ok-extend_from_slice-2-clause-longer
returns-in_ok-extend_from_slice-2-clause-longer c =
    let old = c.self.inside in
    let piece = c.args.piece.now in
    let n = length piece in
    let lens : c.push_reserved-else-piece.new.self.items ≡ old.lens.items ++ 255 ∷ [] = search rules in
    let long : c.push_reserved-else-piece-2.new.self.items ≡ old.long.items ++ n ∷ [] = search rules in
    let bytes : c.extend_from_slice-else-piece.new.self.items ≡ old.bytes.items ++ piece = search rules in
    ap₂ (λ (a b : List ℕ). kept_pieces a c.push_reserved-else-piece-2.new.self.items b) lens bytes
    ∙ (ap (λ (l : List ℕ). kept_pieces (old.lens.items ++ 255 ∷ []) l (old.bytes.items ++ piece)) long
    ∙ (long_pieces old.lens.items old.long.items old.bytes.items n piece c.self.invariant refl
    ∙ ap (λ (l : List (List ℕ)). l ++ piece ∷ []) c.self.view_is))
