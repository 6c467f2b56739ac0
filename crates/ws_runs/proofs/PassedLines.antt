-- Lines that are passed: what stands behind the first of them.
use Rattle.std.proofs.Common.{◌≡◌, ◌∙◌, ℕ, zero, suc, ◌-◌, ◌<◌, ◌==◌, Bool, true, false, All, List, [], ◌∷◌, ◌++◌, ap, sym, refl, arith, if◌then◌else◌}
use Rattle.std.proofs.lemmas.Bool.Decides.{nat_tests}
use Rattle.std.proofs.lemmas.List.Elements.{All-head, All-tail}
use Rattle.ws_formats.specs.Lines.{IsLine, line_feed}
use Rattle.ws_runs.specs.NameLines.{behind_feed, from_line}

no_feed : (byte : ℕ) (line : List ℕ) → IsLine (byte ∷ line) → (byte == 10) ≡ false
no_feed byte line is = cases (byte == 10) refl
  where
    other : byte ≡ 10 → ⊥
    other = All-head (λ b. b ≡ line_feed → ⊥) byte line is

    cases : (b : Bool) → (byte == 10) ≡ b → b ≡ false
    cases true e = absurd (other (grind (arith, nat_tests)))
    cases false e = refl

behind_line : (line rest : List ℕ) → IsLine line → behind_feed (line ++ 10 ∷ rest) ≡ rest
behind_line [] rest is = refl
behind_line (byte ∷ line) rest is =
    ap (λ (b : Bool). if b then line ++ 10 ∷ rest else behind_feed (line ++ 10 ∷ rest)) (no_feed byte line is)
    ∙ behind_line line rest (All-tail (λ b. b ≡ line_feed → ⊥) byte line is)

behind_none : (line : List ℕ) → IsLine line → behind_feed line ≡ []
behind_none [] is = refl
behind_none (byte ∷ line) is =
    ap (λ (b : Bool). if b then line else behind_feed line) (no_feed byte line is)
    ∙ behind_none line (All-tail (λ b. b ≡ line_feed → ⊥) byte line is)

from_nothing : (n : ℕ) → from_line n [] ≡ []
from_nothing zero = refl
from_nothing (suc n) = from_nothing n

-- one line less is left behind the first
pub next_lines : (n : ℕ) (text line rest : List ℕ) → 0 < n → text ≡ line ++ line_feed ∷ rest → IsLine line
    → from_line (n - 1) rest ≡ from_line n text
next_lines zero text line rest some e is = absurd (omega (arith, some))
next_lines (suc n) text line rest some e is =
    let one_less : suc n - 1 ≡ n = omega arith in
    ap (λ k. from_line k rest) one_less
    ∙ ap (λ (l : List ℕ). from_line n l) (sym (ap (λ (l : List ℕ). behind_feed l) e ∙ behind_line line rest is))

-- nothing stands behind more lines than there are
pub no_lines : (n : ℕ) (text : List ℕ) → 0 < n → IsLine text → from_line n text ≡ []
no_lines zero text some is = absurd (omega (arith, some))
no_lines (suc n) text some is = ap (λ (l : List ℕ). from_line n l) (behind_none text is) ∙ from_nothing n
