-- The group of a case, byte by byte.
use Rattle.std.proofs.Common.{◌≡◌, ◌∙◌, ℕ, ◌+◌, ◌<◌, ◌==◌, Bool, true, false, List, [], ◌∷◌, ◌++◌, length, take, drop}
use Rattle.std.proofs.Common.{get_or, ap, sym, refl, arith, append-nil, append_assoc, if◌then◌else◌}
use Rattle.std.proofs.lemmas.Bool.Decides.{nat_tests}
use Rattle.std.proofs.lemmas.List.{drop_more, take_more}
use Rattle.ws_pages.specs.Page.{group_of}

is_dot : (byte : ℕ) → (byte == 46) ≡ true → byte ≡ 46
is_dot byte e = grind (arith, nat_tests)

no_dot : (byte : ℕ) (bytes : List ℕ) → (byte ≡ 46 → ⊥) → group_of (byte ∷ bytes) ≡ byte ∷ group_of bytes
no_dot byte bytes other = cases (byte == 46) refl
  where
    cases : (b : Bool) → (byte == 46) ≡ b
        → (if b then [] else byte ∷ group_of bytes) ≡ byte ∷ group_of bytes
    cases true e = absurd (other (is_dot byte e))
    cases false e = refl

pub group_here : (id : List ℕ) (i : ℕ) (whole : List ℕ) → i < length id → get_or id i 0 ≡ 46
    → take i id ++ group_of (drop i id) ≡ whole → take i id ≡ whole
group_here id i whole less dot e =
    sym (append-nil (take i id))
    ∙ sym (ap (λ (l : List ℕ). take i id ++ group_of l)
    (drop_more id i 0 less ∙ ap (λ (b : ℕ). b ∷ drop (i + 1) id) dot)) ∙ e

pub group_later : (id : List ℕ) (i : ℕ) (whole : List ℕ) → i < length id → (get_or id i 0 ≡ 46 → ⊥)
    → take i id ++ group_of (drop i id) ≡ whole → take (i + 1) id ++ group_of (drop (i + 1) id) ≡ whole
group_later id i whole less other e =
    ap (λ (l : List ℕ). l ++ group_of (drop (i + 1) id)) (take_more id i 0 less)
    ∙ append_assoc (take i id) (get_or id i 0 ∷ []) (group_of (drop (i + 1) id))
    ∙ sym (ap (λ (l : List ℕ). take i id ++ l)
    (ap group_of (drop_more id i 0 less) ∙ no_dot (get_or id i 0) (drop (i + 1) id) other)) ∙ e
