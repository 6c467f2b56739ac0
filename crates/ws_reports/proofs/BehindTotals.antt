-- A line behind a total is read in one way.
use Rattle.std.proofs.Common.{◌≡◌, ◌≢◌, ◌∙◌, ℕ, ◌↔◌, ◌⊎◌, inl, inr, Bool, false, IsTrue, rules, List, [], ◌∷◌, ◌++◌, codes, ap, ap₂, sym, subst, refl, arith, All}
use Rattle.std.proofs.lemmas.Bool.{false≢true}
use Rattle.std.proofs.lemmas.List.Elements.{All-append, All-cons, All-head, All-same, All-tail, All-weaker}
use Rattle.std.specs.Char.{is_ascii_digit}
use Rattle.ws_reports.specs.Cutting.{AreFurtherDigits, IsCutAtDigit, IsCutAtFirst, IsNoDigit}
use Rattle.ws_reports.specs.KnownLines.{HasCount, IsBehindTotal, IsBesideCases, IsCount, IsCountedVerdict, IsNamedVerdict}
use Rattle.ws_reports.specs.KnownLines.{IsTotal, IsVerdictLine, StandsFirst}
use Rattle.ws_reports.specs.Verdicts.{IsVerdict}
use Rattle.ws_reports.proofs.Cuts.{no_cut, one_cut, same_front, same_rest}
use Rattle.ws_reports.proofs.Parts.{digit_bounds, one_rest, told_false, verdict_no_colon, verdict_no_digit}

-- ---- cut at the first digit

-- where there is no digit nothing is cut so
none_at_digit : (front : List ℕ) (digit : ℕ) (more : List ℕ) → IsTrue (is_ascii_digit digit)
    → All IsNoDigit (front ++ digit ∷ more) → ⊥
none_at_digit [] digit more is lacks = false≢true (sym (All-head IsNoDigit digit more lacks) ∙ is)
none_at_digit (x ∷ front) digit more is lacks =
    none_at_digit front digit more is (All-tail IsNoDigit x (front ++ digit ∷ more) lacks)

abbrev others_of : List ℕ → List ℕ
others_of [] = []
others_of (x ∷ xs) = xs

abbrev head_of : List ℕ → ℕ
head_of [] = 0
head_of (x ∷ xs) = x

same_at_digit : (front front' : List ℕ) (digit digit' : ℕ) (more more' : List ℕ) → IsTrue (is_ascii_digit digit)
    → IsTrue (is_ascii_digit digit') → All IsNoDigit front → All IsNoDigit front'
    → front ++ digit ∷ more ≡ front' ++ digit' ∷ more' → (front ≡ front') × (digit ∷ more ≡ digit' ∷ more')
same_at_digit [] [] digit digit' more more' is is' a b same = (refl, same)
same_at_digit [] (y ∷ front') digit digit' more more' is is' a b same =
    absurd (false≢true (sym (All-head IsNoDigit y front' b) ∙ ap (λ (x : ℕ). is_ascii_digit x) (ap head_of (sym same)) ∙ is))
same_at_digit (x ∷ front) [] digit digit' more more' is is' a b same =
    absurd (false≢true (sym (All-head IsNoDigit x front a) ∙ ap (λ (z : ℕ). is_ascii_digit z) (ap head_of same) ∙ is'))
same_at_digit (x ∷ front) (y ∷ front') digit digit' more more' is is' a b same =
    let rest = same_at_digit front front' digit digit' more more' is is' (All-tail IsNoDigit x front a)
    (All-tail IsNoDigit y front' b) (ap others_of same) in
    (ap₂ (λ (z : ℕ) (l : List ℕ). z ∷ l) (ap head_of same) rest.0, rest.1)

-- ---- a verdict with how many cases have it

named_no_digit : (named : List ℕ) → IsNamedVerdict named → All IsNoDigit named
named_no_digit named (words, is, other, e) =
    All-same IsNoDigit named (words ++ codes " ") e
    (All-append IsNoDigit words (codes " ") (verdict_no_digit words is) (a_space_no_digit))
  where
    a_space_no_digit : All IsNoDigit (codes " ")
    a_space_no_digit = search rules

named_no_colon : (named : List ℕ) → IsNamedVerdict named → All (λ byte. byte ≢ 58) named
named_no_colon named (words, is, other, e) =
    All-same (λ byte. byte ≢ 58) named (words ++ codes " ") e
    (All-append (λ byte. byte ≢ 58) words (codes " ") (verdict_no_colon words is) a_space_no_colon)
  where
    a_space_no_colon : All (λ (byte : ℕ). byte ≢ 58) (codes " ")
    a_space_no_colon = search rules

counted_no_colon : (front : List ℕ) → IsCountedVerdict front → All (λ byte. byte ≢ 58) front
counted_no_colon front (named, count, is, counts, e) = All-same (λ byte. byte ≢ 58) front (named ++ count) e
    (All-append (λ byte. byte ≢ 58) named count (named_no_colon named is)
    (All-weaker (λ byte. IsTrue (is_ascii_digit byte)) (λ byte. byte ≢ 58)
    (λ byte digit is. omega (arith, (digit_bounds byte digit).1, is)) count counts.1))

pub named_read : (named words : List ℕ) (answer : Bool) → named ≡ words ++ codes " "
    → (IsTrue answer ↔ (IsVerdict words × (words ≢ codes "PASS"))) → (IsTrue answer ↔ IsNamedVerdict named)
named_read named words answer e h = (
  λ so. let both = h.0 so in (words, both.0, both.1, e),
  λ (words', is, other, e').
      let same = same_front words words' 32 (sym e ∙ e') in
      h.1 (subst IsVerdict (sym same) is, subst (λ (l : List ℕ). l ≢ codes "PASS") (sym same) other),
)

one_count : (digit : ℕ) (rest : List ℕ) → IsTrue (is_ascii_digit digit) → AreFurtherDigits rest → IsCount (digit ∷ rest)
one_count digit rest is are = (omega arith, All-cons (λ byte. IsTrue (is_ascii_digit byte)) digit rest is are)

pub counted_read : (front named : List ℕ) (digit : ℕ) (rest : List ℕ) (answer : Bool)
    → IsCutAtDigit front named digit rest → (IsTrue answer ↔ (IsNamedVerdict named × AreFurtherDigits rest))
    → (IsTrue answer ↔ IsCountedVerdict front)
counted_read front named digit rest answer (e, lacks, is) h = (
  λ so. let both = h.0 so in (named, digit ∷ rest, both.0, one_count digit rest is both.1, e),
  λ (named', count', is_named, is_count, e'). back named' count' is_named is_count e',
)
  where
    back : (named' count' : List ℕ) → IsNamedVerdict named' → IsCount count' → front ≡ named' ++ count' → IsTrue answer
    back named' [] is_named (some, all) e' = absurd (omega (arith, some))
    back named' (digit' ∷ rest') is_named (some, all) e' =
        let same = same_at_digit named named' digit digit' rest rest' is
        (All-head (λ byte. IsTrue (is_ascii_digit byte)) digit' rest' all) lacks (named_no_digit named' is_named)
        (sym e ∙ e') in
        h.1 (
          subst IsNamedVerdict (sym same.0) is_named,
          subst AreFurtherDigits (sym (ap others_of same.1))
              (All-tail (λ byte. IsTrue (is_ascii_digit byte)) digit' rest' all),
        )

pub counted_none : (front : List ℕ) → All IsNoDigit front → IsCountedVerdict front → ⊥
counted_none front lacks (named, count, is_named, is_count, e) = none count is_count e
  where
    none : (count : List ℕ) → IsCount count → front ≡ named ++ count → ⊥
    none [] (some, all) f = omega (arith, some)
    none (digit ∷ rest) (some, all) f = none_at_digit named digit rest
        (All-head (λ byte. IsTrue (is_ascii_digit byte)) digit rest all)
        (All-same IsNoDigit (named ++ digit ∷ rest) front (sym f) lacks)

-- ---- a line of a summary

pub verdict_line_read : (line front cases : List ℕ) (answer : Bool) → IsCutAtFirst 58 line front cases
    → (IsTrue answer ↔ (IsCountedVerdict front × StandsFirst (codes " ") cases)) → (IsTrue answer ↔ IsVerdictLine line)
verdict_line_read line front cases answer cut h = (
  λ so.
      let (counted, (more, e)) = h.0 so in
      (front, more, counted, cut.0 ∙ ap (λ (l : List ℕ). front ++ 58 ∷ l) e),
  λ (front', cases', counted, e).
      let same = one_cut 58 line front cases front' (32 ∷ cases') cut (e, counted_no_colon front' counted) in
      h.1 (subst IsCountedVerdict (sym same.0) counted, (cases', same.1)),
)

pub no_verdict_line : (line : List ℕ) → All (λ byte. byte ≢ 58) line → (IsTrue false ↔ IsVerdictLine line)
no_verdict_line line lacks = told_false (IsVerdictLine line)
    (λ (front, cases, counted, e). no_cut 58 line front (32 ∷ cases) lacks e)

-- ---- counts

-- what stands behind a count, or behind other bytes, is one thing
pub count_then : (P : List ℕ → Type 0) (line word rest : List ℕ) (answer : Bool) → HasCount word rest line
    → (IsTrue answer ↔ P rest) → (IsTrue answer ↔ ((behind : List ℕ) × HasCount word behind line × P behind))
count_then P line word rest answer has h = (
  λ so. (rest, has, h.0 so),
  λ (behind, other, p). h.1 (subst P (one_rest line word behind rest other has) p),
)

pub behind_then : (P : List ℕ → Type 0) (line front rest : List ℕ) (answer : Bool) → line ≡ front ++ rest
    → (IsTrue answer ↔ P rest) → (IsTrue answer ↔ ((behind : List ℕ) × (line ≡ front ++ behind) × P behind))
behind_then P line front rest answer e h = (
  λ so. (rest, e, h.0 so),
  λ (behind, e', p). h.1 (subst P (same_rest front behind rest (sym e' ∙ e)) p),
)

-- ---- beside cases

-- where it is none of the others, a line stands beside cases if it is behind a total
pub last_beside : (line : List ℕ) (total below listening behind : Bool)
    → (IsTrue total ↔ IsTotal line) → total ≡ false
    → (IsTrue below ↔ StandsFirst (codes " ") line) → below ≡ false
    → (IsTrue listening ↔ StandsFirst (codes "listening on ") line) → listening ≡ false
    → (IsTrue behind ↔ IsBehindTotal line) → (IsTrue behind ↔ IsBesideCases line)
last_beside line total below listening behind t not_total b not_below l not_listening h =
    (λ so. inr (inr (inr (h.0 so))), λ beside. back beside)
  where
    back : IsBesideCases line → IsTrue behind
    back (inl e) = absurd (false≢true (sym not_total ∙ t.1 e))
    back (inr (inl e)) = absurd (false≢true (sym not_below ∙ b.1 e))
    back (inr (inr (inl e))) = absurd (false≢true (sym not_listening ∙ l.1 e))
    back (inr (inr (inr e))) = h.1 e
