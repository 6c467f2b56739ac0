-- The table of the names of opcodes, entry by entry.
use Rattle.std.proofs.Common.{◌≡◌, ℕ, zero, suc, ◌+◌, ◌-◌, ◌*◌, ◌<◌, ◌≤◌, List, length, get_or, take, drop, refl, sym, subst, inl, inr, arith, eq-zero-or-pos}
use Rattle.std.specs.Fmt.{digits}
use Rattle.ws_formats.specs.Words.{opcode_word}
use Rattle.ws_frame.specs.declared.line.TheConstants.{KINDS}

-- the bytes of an opcode
abbrev pub entry : ℕ → List ℕ
entry n = take 8 (drop (n * 8) KINDS)

-- they have its name, with so many of the eight to spare
abbrev IsNamed : ℕ → Type 0
IsNamed n = (spare : ℕ) × (get_or (entry n) 7 0 + spare ≡ 8) × (length (entry n) ≡ 8) × (take (get_or (entry n) 7 0) (entry n) ≡ opcode_word n)

-- and so have those of all below
abbrev AreNamed : ℕ → Type 0
AreNamed zero = Unit {0}
AreNamed (suc n) = IsNamed n × AreNamed n

all_named : AreNamed 16
unfolding digits
all_named = ((4, refl, refl, refl), ((4, refl, refl, refl), ((4, refl, refl, refl), ((4, refl, refl, refl), ((4, refl, refl, refl), ((4, refl, refl, refl), ((4, refl, refl, refl), ((3, refl, refl, refl), ((5, refl, refl, refl), ((5, refl, refl, refl), ((5, refl, refl, refl), ((5, refl, refl, refl), ((5, refl, refl, refl), ((2, refl, refl, refl), ((4, refl, refl, refl), ((4, refl, refl, refl), tt))))))))))))))))

below : (n k : ℕ) → AreNamed n → k < n → IsNamed k
below zero k t h = absurd (omega arith)
below (suc n) k t h =
    elim (eq-zero-or-pos (n - k)) [
      | inl z ↦ let e : k ≡ n = omega arith in rw e t.0
      | inr g ↦ below n k t.1 (omega arith)
    ]

pub named : (opcode : ℕ) (word : List ℕ) → opcode < 16 → word ≡ entry opcode
    → (get_or word 7 0 ≤ length word) × (get_or word 7 0 ≤ 8) × (take (get_or word 7 0) word ≡ opcode_word opcode)
named opcode word h e =
    let (spare, fits, whole, name) = below 16 opcode all_named h in
    subst (λ (t : List ℕ). (get_or t 7 0 ≤ length t) × (get_or t 7 0 ≤ 8) × (take (get_or t 7 0) t ≡ opcode_word opcode)) (sym e)
    (omega (arith, fits, whole), omega (arith, fits), name)
