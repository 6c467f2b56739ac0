-- First bytes and zeros, or one length byte more where all that came are zero, have their form's least length.
use Rattle.std.proofs.Common.{ℕ, ◌-◌, ◌≤◌, length, take, drop, set, List, refl, false, sym, arith, inl, inr, subst}
use Rattle.std.specs.Prelude.{IsTrue}
use Rattle.std.specs.Int.{w16, w64}
use Rattle.std.proofs.lemmas.List.{take_rest}
use Rattle.ws_session.specs.LeastHeader.{HasLeastLength}
use Rattle.ws_session.proofs.LeastLengths.{AreZeros, least_two, least_eight, least_two_set, least_eight_set}
use Rattle.ws_session.proofs.LeastLengths.{least_two_filled, least_eight_filled}
use Rattle.ws_session.proofs.receiver.least_header.with_least_length.Goals as goal

-- what was found of the bytes behind the first two
not_zeros : (start : List ℕ) → (AreZeros (take (length start - 2) (drop 2 start)) → ⊥) → AreZeros (drop 2 start) → ⊥
not_zeros start never zeros = never (subst (λ (l : List ℕ). AreZeros l) (sym (take_rest start 2)) zeros)

are_zeros : (start : List ℕ) → AreZeros (take (length start - 2) (drop 2 start)) → AreZeros (drop 2 start)
are_zeros start zeros = subst (λ (l : List ℕ). AreZeros l) (take_rest start 2) zeros

pub returns-then-not-are_zeros-clause-two_bytes : goal.returns-then-not-are_zeros-clause-two_bytes
returns-then-not-are_zeros-clause-two_bytes c bits =
    subst (λ (l : List ℕ). HasLeastLength w16 126 c.args.start.now l) (sym c.zero_filled-bytes.ensures)
    (least_two_set c.args.start.now (not_zeros c.args.start.now
    (λ zeros. let no : IsTrue false = c.if-not-are_zeros.ensures.1 zeros in absurd cc)))

pub returns-then-not-are_zeros-clause-eight_bytes : goal.returns-then-not-are_zeros-clause-eight_bytes
returns-then-not-are_zeros-clause-eight_bytes c bits =
    subst (λ (l : List ℕ). HasLeastLength w64 65536 c.args.start.now l) (sym c.zero_filled-bytes.ensures)
    (least_eight_set c.args.start.now (not_zeros c.args.start.now
    (λ zeros. let no : IsTrue false = c.if-not-are_zeros.ensures.1 zeros in absurd cc)))

pub returns-then-start-lt4-clause-two_bytes : goal.returns-then-start-lt4-clause-two_bytes
returns-then-start-lt4-clause-two_bytes c bits =
    subst (λ (l : List ℕ). HasLeastLength w16 126 c.args.start.now (set l 3 126)) (sym c.zero_filled-bytes.ensures)
    (least_two_filled c.args.start.now c.requires.two c.requires.room
    (are_zeros c.args.start.now (c.if-not-are_zeros.ensures.0 refl)))

pub returns-then-start-lt4-clause-eight_bytes : goal.returns-then-start-lt4-clause-eight_bytes
returns-then-start-lt4-clause-eight_bytes c bits = absurd (omega (arith, bits, c.if-form-eq-TWO_BYTES.true))

pub returns-then-start-lt8-clause-two_bytes : goal.returns-then-start-lt8-clause-two_bytes
returns-then-start-lt8-clause-two_bytes c bits = absurd (omega (arith, bits, c.if-form-eq-EIGHT_BYTES.true))

pub returns-then-start-lt8-clause-eight_bytes : goal.returns-then-start-lt8-clause-eight_bytes
returns-then-start-lt8-clause-eight_bytes c bits =
    subst (λ (l : List ℕ). HasLeastLength w64 65536 c.args.start.now (set l 7 1)) (sym c.zero_filled-bytes.ensures)
    (least_eight_filled c.args.start.now c.requires.two c.requires.room
    (are_zeros c.args.start.now (c.if-not-are_zeros.ensures.0 refl)))

pub returns-else-form-eq-EIGHT_BYTES-clause-two_bytes : goal.returns-else-form-eq-EIGHT_BYTES-clause-two_bytes
returns-else-form-eq-EIGHT_BYTES-clause-two_bytes c bits =
    let long : 4 ≤ length c.args.start.now = elim c.else-form-eq-TWO_BYTES.either
    [ inl h ↦ h.1 | inr never ↦ absurd (never bits) ] in
    subst (λ (l : List ℕ). HasLeastLength w16 126 c.args.start.now l) (sym c.zero_filled-bytes.ensures)
    (least_two c.args.start.now (λ few. absurd (omega (arith, few, long))))

pub returns-else-form-eq-EIGHT_BYTES-clause-eight_bytes : goal.returns-else-form-eq-EIGHT_BYTES-clause-eight_bytes
returns-else-form-eq-EIGHT_BYTES-clause-eight_bytes c bits =
    let long : 8 ≤ length c.args.start.now = elim c.else-form-eq-EIGHT_BYTES.either
    [ inl h ↦ h.1 | inr never ↦ absurd (never bits) ] in
    subst (λ (l : List ℕ). HasLeastLength w64 65536 c.args.start.now l) (sym c.zero_filled-bytes.ensures)
    (least_eight c.args.start.now (λ few. absurd (omega (arith, few, long))))
