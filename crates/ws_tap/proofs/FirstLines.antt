-- The place of the first byte that passes a test.
use Rattle.std.proofs.Common.{◌≡◌, ◌∙◌, ℕ, ◌≤◌, Bool, true, false, List, length, Option, Some, None, unwrap_or, cond}
use Rattle.std.proofs.Common.{ltb, take, drop, ap, refl, arith, not}
use Rattle.std.specs.List.{position_or_len}
use Rattle.std.proofs.lemmas.List.Sums.{prefix_len-le-length}
use borrow.Author.Tests.{ltb-false}
use Rattle.ws_tap.specs.Texts.{is_line_end, first_line}

-- a place within a list, or its end
place_in : (at len : ℕ) (within : Bool) → ltb at len ≡ within → at ≤ len
    → unwrap_or (cond within (Some at) None) len ≡ at
place_in at len true e le = refl
place_in at len false e le = omega (arith, ltb-false at len e, le)

pub place_of : (passes : ℕ → Bool) (bytes : List ℕ) (found : Option ℕ) (result : ℕ)
    → found ≡ cond (ltb (position_or_len passes bytes) (length bytes)) (Some (position_or_len passes bytes)) None
    → result ≡ unwrap_or found (length bytes) → result ≡ position_or_len passes bytes
place_of passes bytes found result is e =
    let at = position_or_len passes bytes in
    let short : at ≤ length bytes = prefix_len-le-length (λ (byte : ℕ). not (passes byte)) bytes in
    e ∙ ap (λ (o : Option ℕ). unwrap_or o (length bytes)) is
    ∙ place_in at (length bytes) (ltb at (length bytes)) refl short

-- the line that is cut at its end is the first
pub first_line_is : (head line : List ℕ) (start len : ℕ) → line ≡ drop start head
    → start ≡ position_or_len (λ (byte : ℕ). not (is_line_end byte)) head → len ≡ position_or_len is_line_end line
    → take len line ≡ first_line head
first_line_is head line start len el es en =
    ap (λ n. take n line) en ∙ ap (λ (t : List ℕ). take (position_or_len is_line_end t) t) (el
    ∙ ap (λ n. drop n head) es)
