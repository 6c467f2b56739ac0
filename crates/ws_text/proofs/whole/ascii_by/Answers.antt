-- Vectors that cover a piece are ASCII, and so is the piece; those before the first that isn't are its front.
use Rattle.std.proofs.Common.{◌≡◌, ◌+◌, ◌-◌, ◌≤◌, ◌<◌, ℕ, List, length, take, drop, get_or, sym, subst, arith, inl, inr, take-add}
use Rattle.std.proofs.lemmas.Bool.{cases_lt}
use Rattle.std.proofs.lemmas.List.{get_or-take, get_or-drop, length-drop, take_all}
use Rattle.std.proofs.lemmas.Str.{IsAscii-append}
use Rattle.std.specs.Str.{IsAscii}
use Rattle.ws_text.proofs.whole.ascii_by.Goals as goal

covered : (l : List ℕ) (at from : ℕ) → from ≤ at → IsAscii (take at l) → IsAscii (drop from l) → IsAscii l
covered l at from le first last = λ i.
    elim (cases_lt i at) [ inl low ↦ omega (arith, first i, get_or-take at l i 0 low) | inr high ↦ behind i high ]
  where
    behind : (i : ℕ) → at ≤ i → get_or l i 0 < 128
    behind i high =
        let same : from + (i - from) ≡ i = omega (arith, le, high) in
        let low : get_or l (from + (i - from)) 0 < 128 = omega (arith, last (i - from), get_or-drop from l (i - from) 0) in
        subst (λ (k : ℕ). get_or l k 0 < 128) same low

pub loop-at-preserved : goal.loop-at-preserved
loop-at-preserved g c = (omega arith, subst IsAscii (sym (take-add c.loop-at.at g.row.N c.args.bytes.now)) (IsAscii-append _ _ c.loop-at.invariant.1 (c.is_ascii.ensures.0 c.if-not-is_ascii.false)))

pub returns-then-is_ascii-clause-ascii : goal.returns-then-is_ascii-clause-ascii
returns-then-is_ascii-clause-ascii g c =
    let l = c.args.bytes.now in
    let n = g.row.N in
    let last : IsAscii (drop (length l - n) l) = subst IsAscii (take_all n (drop (length l - n) l) (omega (arith, length-drop (length l - n) l))) (c.is_ascii-2.ensures.0 c.if-is_ascii.true) in
    subst IsAscii (sym (take_all (length l) l (omega arith))) (covered l c.loop-at.at (length l - n) (omega arith) c.loop-at.invariant.1 last)
