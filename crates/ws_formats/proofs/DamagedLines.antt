-- Texts with a line for each value, and the first line that tells none.
use Rattle.std.proofs.Common.{◌≡◌, ◌∙◌, ℕ, zero, suc, ◌≤◌, List, [], ◌∷◌, ◌++◌, length, ap, ap₂, sym, refl, subst}
use Rattle.std.proofs.Common.{arith, append_assoc, slice_index}
use Rattle.std.proofs.lemmas.List.{length-append}
use Rattle.std.specs.List.{AllByRecursion}
use Rattle.ws_formats.specs.Lines.{Damages, IsDamagedAt, IsLine, ended}
use Rattle.ws_base.specs.declared.text_fault.TextFault.TheVariants.{Damaged}

-- ---- lines

line_tail : (b : ℕ) (line : List ℕ) → IsLine (b ∷ line) → IsLine line
line_tail b line h k d less = h (suc k) d (omega arith)

pub no_feed_in_line : (line rest : List ℕ) → IsLine (line ++ 10 ∷ rest) → ⊥
no_feed_in_line [] rest h = h 0 0 (omega arith) refl
no_feed_in_line (b ∷ line) rest h = no_feed_in_line line rest (line_tail b (line ++ 10 ∷ rest) h)

-- a text has one first line
pub one_line : (a b x y : List ℕ) → IsLine a → IsLine b → a ++ 10 ∷ x ≡ b ++ 10 ∷ y → (a ≡ b) × (x ≡ y)
one_line [] [] x y p q e = (refl, cc)
one_line [] (c ∷ b) x y p q e = absurd (q 0 0 (omega arith) (sym (ap (λ (l : List ℕ). slice_index l 0) e)))
one_line (c ∷ a) [] x y p q e = absurd (p 0 0 (omega arith) (ap (λ (l : List ℕ). slice_index l 0) e))
one_line (c ∷ a) (d ∷ b) x y p q e =
    let head : c ≡ d = ap (λ (l : List ℕ). slice_index l 0) e in
    let tail : a ++ 10 ∷ x ≡ b ++ 10 ∷ y = cc in
    let rest = one_line a b x y (line_tail c a p) (line_tail d b q) tail in
    (ap₂ (λ (z : ℕ) (zs : List ℕ). z ∷ zs) head rest.0, rest.1)

pub ended_cons : (line : List ℕ) (lines : List (List ℕ)) (rest : List ℕ)
    → ended (line ∷ lines) ++ rest ≡ line ++ 10 ∷ (ended lines ++ rest)
ended_cons line lines rest = append_assoc (line ++ 10 ∷ []) (ended lines) rest
    ∙ append_assoc line (10 ∷ []) (ended lines ++ rest)

pub no_line_empty : (line rest : List ℕ) → line ++ 10 ∷ rest ≡ [] → ⊥
no_line_empty [] rest e = absurd cc
no_line_empty (b ∷ line) rest e = absurd cc

pub ended_length : (lines : List (List ℕ)) → length lines ≤ length (ended lines)
ended_length [] = omega arith
ended_length (line ∷ lines) =
    let rest = ended_length lines in
    omega (arith, length-append (line ++ 10 ∷ []) (ended lines), length-append line (10 ∷ []))

-- ---- one more line

pub line_added : (lines : List (List ℕ)) (line : List ℕ) → ended (lines ++ line ∷ []) ≡ ended lines ++ (line ++ 10 ∷ [])
line_added [] line = append_assoc line (10 ∷ []) []
line_added (first ∷ lines) line =
    ap (λ (l : List ℕ). (first ++ 10 ∷ []) ++ l) (line_added lines line)
    ∙ sym (append_assoc (first ++ 10 ∷ []) (ended lines) (line ++ 10 ∷ []))

pub lines_added : (lines : List (List ℕ)) (line : List ℕ) → AllByRecursion IsLine lines → IsLine line
    → AllByRecursion IsLine (lines ++ line ∷ [])
lines_added [] line all is = (is, tt)
lines_added (first ∷ lines) line all is = (all.0, lines_added lines line all.1 is)

pub text_added : (text rest line after : List ℕ) (lines : List (List ℕ)) → text ≡ ended lines ++ rest
    → rest ≡ line ++ 10 ∷ after
    → text ≡ ended (lines ++ line ∷ []) ++ after
text_added text rest line after lines e f =
    e ∙ ap (λ (l : List ℕ). ended lines ++ l) (f ∙ sym (append_assoc line (10 ∷ []) after))
    ∙ sym (append_assoc (ended lines) (line ++ 10 ∷ []) after)
    ∙ ap (λ (l : List ℕ). l ++ after) (sym (line_added lines line))

-- some of the lines
pub parted : (lines : List (List ℕ)) (n : ℕ) → n ≤ length lines → AllByRecursion IsLine lines
    → (front : List (List ℕ)) × (back : List (List ℕ)) × AllByRecursion IsLine front × (length front ≡ n)
    × AllByRecursion IsLine back × (lines ≡ front ++ back)
parted lines zero less all = ([], lines, tt, refl, all, refl)
parted [] (suc n) less all = absurd (omega arith)
parted (line ∷ lines) (suc n) less all =
    let (front, back, are, len, behind, e) = parted lines n (omega arith) all.1 in
    (line ∷ front, back, (all.0, are), ap suc len, behind, ap (λ (l : List (List ℕ)). line ∷ l) e)

-- a fault that names the line at which the text is damaged
pub names_line : {T : Type 0} (IsTextOf : T → List ℕ → Type 0) (line : ℕ) (text : List ℕ)
    → IsDamagedAt IsTextOf line text → Damages IsTextOf (Damaged line) text
names_line IsTextOf line text damaged n told = let same : line
    ≡ n = cc in subst (λ (k : ℕ). IsDamagedAt IsTextOf k text) same damaged
