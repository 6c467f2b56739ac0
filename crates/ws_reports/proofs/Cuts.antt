-- Bytes are cut at the first of a kind in one way, and behind and before others.
use Rattle.std.proofs.Common.{◌≡◌, ◌≢◌, ◌∙◌, ℕ, ◌-◌, inl, inr, List, [], ◌∷◌, ◌++◌, length, take, drop, ap, ap₂, sym, refl, arith, All}
use Rattle.std.proofs.lemmas.List.Elements.{All-append, All-cons, All-head, All-nil, All-same, All-tail}
use Rattle.std.proofs.lemmas.List.{append-nil, append_assoc, drop_at, length-append, take_at}
use Rattle.ws_reports.specs.Cutting.{BeginsRemark, CutsRemark, IsCutAtFirst}

abbrev Lacks : ℕ → ℕ → Type 0
Lacks mark byte = byte ≢ mark

none_in : (mark : ℕ) (front back : List ℕ) → All (Lacks mark) (front ++ mark ∷ back) → ⊥
none_in mark [] back h = All-head (Lacks mark) mark back h refl
none_in mark (x ∷ front) back h = none_in mark front back (All-tail (Lacks mark) x (front ++ mark ∷ back) h)

abbrev rest_of : List ℕ → List ℕ
rest_of [] = []
rest_of (x ∷ xs) = xs

abbrev first_of : List ℕ → ℕ
first_of [] = 0
first_of (x ∷ xs) = x

same_parts : (mark : ℕ) (front back front' back' : List ℕ) → All (Lacks mark) front → All (Lacks mark) front'
    → front ++ mark ∷ back ≡ front' ++ mark ∷ back' → (front ≡ front') × (back ≡ back')
same_parts mark [] back [] back' a b e = (refl, ap rest_of e)
same_parts mark [] back (y ∷ front') back' a b e =
    absurd (All-head (Lacks mark) y front' b (sym (ap first_of e)))
same_parts mark (x ∷ front) back [] back' a b e = absurd (All-head (Lacks mark) x front a (ap first_of e))
same_parts mark (x ∷ front) back (y ∷ front') back' a b e =
    let same = same_parts mark front back front' back' (All-tail (Lacks mark) x front a)
    (All-tail (Lacks mark) y front' b) (ap rest_of e) in
    (ap₂ (λ (z : ℕ) (l : List ℕ). z ∷ l) (ap first_of e) same.0, same.1)

pub one_cut : (mark : ℕ) (bytes front back front' back' : List ℕ) → IsCutAtFirst mark bytes front back
    → IsCutAtFirst mark bytes front' back' → (front ≡ front') × (back ≡ back')
one_cut mark bytes front back front' back' h i = same_parts mark front back front' back' h.1 i.1 (sym h.0 ∙ i.0)

-- bytes without the mark can't be cut
pub no_cut : (mark : ℕ) (bytes front back : List ℕ) → All (Lacks mark) bytes → bytes ≡ front ++ mark ∷ back → ⊥
no_cut mark bytes front back lacks e = none_in mark front back (All-same (Lacks mark) (front ++ mark ∷ back) bytes (sym e) lacks)

-- two fronts that are equal have one rest
pub same_rest : (front back back' : List ℕ) → front ++ back ≡ front ++ back' → back ≡ back'
same_rest [] back back' e = e
same_rest (x ∷ front) back back' e = same_rest front back back' (ap rest_of e)

-- ---- remarks

bracket : ℕ
bracket = 40

remark_in : (rest front back words remark : List ℕ) → IsCutAtFirst 40 rest front back → rest ≡ words ++ remark
    → All (Lacks 40) words → BeginsRemark remark
    → (take (length front - 1) rest ≡ words) × (drop (length front - 1) rest ≡ remark)
remark_in rest front back words remark cut e lacks (inl none) =
    absurd (no_cut 40 rest front back
    (All-same (Lacks 40) rest words (e ∙ ap (λ (l : List ℕ). words ++ l) none ∙ append-nil words) lacks) cut.0)
remark_in rest front back words remark cut e lacks (inr (more, is)) =
    let there : rest ≡ (words ++ 32 ∷ []) ++ 40 ∷ more = e ∙ ap (λ (l : List ℕ). words ++ l) is
    ∙ sym (append_assoc words (32 ∷ []) (40 ∷ more)) in
    let same = one_cut 40 rest front back (words ++ 32 ∷ []) more cut (there, All-append (Lacks 40) words (32 ∷ []) lacks (All-cons (Lacks 40) 32 [] (λ wrong. omega (arith, wrong)) (All-nil (Lacks 40)))) in
    let long : length front - 1 ≡ length words = omega (arith, ap (λ (l : List ℕ). length l) same.0, length-append words (32 ∷ [])) in (
      ap (λ (n : ℕ). take n rest) long ∙ ap (λ (l : List ℕ). take (length words) l) e ∙ take_at words remark (length words) refl,
      ap (λ (n : ℕ). drop n rest) long ∙ ap (λ (l : List ℕ). drop (length words) l) e ∙ drop_at words remark (length words) refl,
    )

pub cuts_remark : (rest front back words remark : List ℕ) → IsCutAtFirst 40 rest front back
    → words ≡ take (length front - 1) rest → remark ≡ drop (length front - 1) rest → rest ≡ words ++ remark
    → CutsRemark rest words remark
cuts_remark rest front back words remark cut is_front is_back whole = (
  whole,
  λ words' remark' e lacks begins.
      let same = remark_in rest front back words' remark' cut e lacks begins in
      (is_front ∙ same.0, is_back ∙ same.1),
)

pub cuts_none : (rest : List ℕ) → All (Lacks 40) rest → CutsRemark rest rest []
cuts_none rest lacks = (sym (append-nil rest), λ words remark e free begins. one words remark e begins)
  where
    one : (words remark : List ℕ) → rest ≡ words ++ remark → BeginsRemark remark → (rest ≡ words) × ([] ≡ remark)
    one words remark e (inl none) = (e ∙ ap (λ (l : List ℕ). words ++ l) none ∙ append-nil words, sym none)
    one words remark e (inr (more, is)) = absurd (no_cut 40 rest (words ++ 32 ∷ []) more lacks
        (e ∙ ap (λ (l : List ℕ). words ++ l) is ∙ sym (append_assoc words (32 ∷ []) (40 ∷ more))))

-- ---- what ends a remark

empty_no : (front : List ℕ) (last : ℕ) → [] ≡ front ++ last ∷ [] → ⊥
empty_no [] last e = absurd cc
empty_no (x ∷ front) last e = absurd cc

-- two lists that are equal before one byte more are equal
pub same_front : (front front' : List ℕ) (last : ℕ) → front ++ last ∷ [] ≡ front' ++ last ∷ [] → front ≡ front'
same_front [] [] last e = refl
same_front [] (y ∷ front') last e = absurd (empty_no front' last (ap rest_of e))
same_front (x ∷ front) [] last e = absurd (empty_no front last (sym (ap rest_of e)))
same_front (x ∷ front) (y ∷ front') last e =
    ap₂ (λ (z : ℕ) (l : List ℕ). z ∷ l) (ap first_of e) (same_front front front' last (ap rest_of e))
