-- Segments that stand for missing bytes: their words, and the line of one.
use Rattle.std.proofs.Common.{◌≡◌, ◌∙◌, ◌<◌, ◌+◌, ◌==◌, if◌then◌else◌, ℕ, List, [], ◌∷◌, ◌++◌, ap, arith, length, refl, subst, sym}
use Rattle.std.proofs.Common.{drop, get_or, suc, take, take-append-drop, take-suc}
use Rattle.std.proofs.lemmas.List.Elements.{All-push}
use Rattle.std.specs.Prelude.{◌↔◌, All, Bool, IsTrue}
use Rattle.std.proofs.lemmas.Bool.Decides.{nat_tests}
use Rattle.std.proofs.lemmas.List.{length-append}
use Rattle.std.specs.List.{AllByRecursion}
use Rattle.ws_formats.specs.Lines.{IsLine, ended}
use Rattle.ws_followed.specs.declared.segment.Segment.{Segment}
use Rattle.ws_followed.specs.Gaps.{AreCountDigits, IsGap, IsNoGap, gap_end, lines_before}
use Rattle.ws_followed.specs.InnerConversion.{front_lines}

-- two lists that are parted before tails of one length are parted in one way
same_tails : (a b c d : List ℕ) → a ++ b ≡ c ++ d → length b ≡ length d → (a ≡ c) × (b ≡ d)
same_tails [] b [] d e size = (refl, e)
same_tails [] b (y ∷ c) d e size =
    absurd (omega (arith, size, ap (λ (l : List ℕ). length l) e, length-append c d))
same_tails (x ∷ a) b [] d e size =
    absurd (omega (arith, size, ap (λ (l : List ℕ). length l) e, length-append a b))
same_tails (x ∷ a) b (y ∷ c) d e size =
    let behind : a ++ b ≡ c ++ d = cc in
    let first : x ≡ y = cc in
    let both = same_tails a b c d behind size in
    (cc, both.1)

pub gap_of : (rest count end : List ℕ) → rest ≡ count ++ end → end ≡ gap_end → AreCountDigits count → IsGap (91 ∷ rest)
gap_of rest count end parts is digits =
    (count, digits, ap (λ (l : List ℕ). 91 ∷ l) (parts ∙ ap (λ (l : List ℕ). count ++ l) is))

pub of_gap : (rest count end : List ℕ) → rest ≡ count ++ end → length end ≡ length gap_end → IsGap (91 ∷ rest)
    → (end ≡ gap_end) × AreCountDigits count
of_gap rest count end parts size (word, digits, e) =
    let behind : count ++ end ≡ word ++ gap_end = cc in
    let both = same_tails count end word gap_end behind size in
    (both.1, subst (λ (l : List ℕ). AreCountDigits l) (sym both.0) digits)

pub parts_of : (n : ℕ) (rest count end : List ℕ) → count ≡ take n rest → end ≡ drop n rest → rest ≡ count ++ end
parts_of n rest count end front back =
    sym (take-append-drop n rest) ∙ (ap (λ (l : List ℕ). l ++ drop n rest) (sym front) ∙ ap (λ (l : List ℕ). count ++ l) (sym back))

pub gap_by : (bytes rest count end : List ℕ) → bytes ≡ 91 ∷ rest → rest ≡ count ++ end → end ≡ gap_end → (met : Bool)
    → IsTrue met ↔ AreCountDigits count → IsTrue met ↔ IsGap bytes
gap_by bytes rest count end first parts is met digits =
    subst (λ (l : List ℕ). IsTrue met ↔ IsGap l) (sym first) (
      λ yes. gap_of rest count end parts is (digits.0 yes),
      λ gap. digits.1 (of_gap rest count end parts (ap (λ (l : List ℕ). length l) is) gap).1,
    )

-- none of the segments so far is one, nor the next
pub none_more : (segments : List Segment) (at : ℕ) (next : Segment) → at < length segments
    → next ≡ get_or segments at next → IsNoGap next → All IsNoGap (take at segments)
    → All IsNoGap (take (at + 1) segments)
none_more segments at next less is none before =
    let one : at + 1 ≡ suc at = omega arith in
    let step : take (at + 1) segments ≡ take at segments ++ next ∷ [] =
    ap (λ (n : ℕ). take n segments) one ∙ (take-suc segments at next less
    ∙ ap (λ (x : Segment). take at segments ++ x ∷ []) (sym is)) in
    subst (λ (l : List Segment). All IsNoGap l) (sym step)
    (All-push IsNoGap (take at segments) next before none)

-- the first byte of a text tells whether an empty line stands first
pub front_is : (lines : List (List ℕ)) → AllByRecursion IsLine lines → front_lines (ended lines) ≡ lines_before lines
front_is [] are = refl
front_is ([] ∷ lines) are = refl
front_is ((byte ∷ bytes) ∷ lines) are =
    let no_feed = are.0 0 0 (omega arith) in
    grind (arith, nat_tests, no_feed)
