-- The line of a case is read in one way, and so is a total.
use Rattle.std.proofs.Common.{◌≡◌, ◌≢◌, ◌∙◌, ℕ, ◌<◌, ◌≤◌, ◌⊎◌, ◌↔◌, Bool, true, false, inl, inr, IsTrue, List, [], ◌∷◌, ◌++◌, length, ap, sym, refl, subst, arith, All, codes, string_bytes, Option, Some, None, MatchOption, Result, Ok, Err, IfOk, Bor, String}
use Rattle.std.proofs.lemmas.Bool.{false≢true}
use Rattle.std.proofs.lemmas.Bool.Decides.{nat_tests}
use Rattle.std.proofs.lemmas.List.Elements.{All-append, All-from_recursion, All-same, All-weaker}
use Rattle.std.proofs.lemmas.Str.Ascii.{IsAscii-from_all}
use Rattle.std.specs.declared.alloc.AllocError.{AllocError}
use Rattle.std.specs.declared.alloc.Global.{Global}
use Rattle.std.specs.Char.{is_ascii_alphabetic, is_ascii_digit}
use Rattle.std.specs.List.{AllByRecursion}
use Rattle.std.specs.Str.{IsAscii, IsUtf8}
use Rattle.std.proofs.lemmas.Str.{IsUtf8-from_ascii}
use Rattle.ws_base.specs.declared.text_fault.LineFault.{LineFault}
use Rattle.ws_base.specs.declared.text_fault.LineFault.TheVariants.{Damaged}
use Rattle.ws_formats.specs.Reading.{Reads}
use Rattle.ws_reports.specs.Cutting.{AreParts, BeginsRemark, CountsPasses, CutsRemark, IsCaseRead, IsCutAtFirst, IsNoDigit}
use Rattle.ws_reports.specs.Cutting.{TellsNoCase}
use Rattle.ws_reports.specs.KnownLines.{HasCount, HasInBrackets, IsBesideCases, IsCaseLine, IsCount, IsKnownLine, IsRemark}
use Rattle.ws_reports.specs.declared.known_line.KnownLine.{KnownLine}
use Rattle.ws_reports.specs.declared.known_line.KnownLine.TheVariants.{Other, Verdict}
use Rattle.ws_reports.specs.Verdicts.{HasName, HasRule, IsHeadFail, IsNamedLoose, IsPlainFail, IsVerdict}
use Rattle.ws_reports.specs.Verdicts.{NamesFail, NamesLoose, NamesRefusal}
use Rattle.ws_reports.proofs.Cuts.{no_cut, one_cut, same_front, same_rest}

-- ---- verdicts have no brackets, colons and digits, and are ASCII

abbrev IsSafe : ℕ → Type 0
IsSafe byte = (byte ≢ 40) × (byte < 128) × (byte ≢ 58) × IsNoDigit byte

-- a letter stands behind the digits
no_digit : (byte : ℕ) → 65 ≤ byte → IsNoDigit byte
no_digit byte high = grind (arith, nat_tests)

letter_bounds : (byte : ℕ) → IsTrue (is_ascii_alphabetic byte) → (65 ≤ byte) × (byte ≤ 122)
letter_bounds byte h = grind (arith, nat_tests)

letter_safe : (byte : ℕ) → IsTrue (is_ascii_alphabetic byte) → IsSafe byte
letter_safe byte h =
    let bounds = letter_bounds byte h in (
      λ is. omega (arith, is, bounds.0),
      omega (arith, bounds.1),
      λ is. omega (arith, is, bounds.0),
      no_digit byte bounds.0,
    )

named_safe : (front words : List ℕ) → All IsSafe front → HasName front words → All IsSafe words
named_safe front words safe (name, is, e) =
    All-same IsSafe words (front ++ name) e
    (All-append IsSafe front name safe (All-weaker (λ byte. IsTrue (is_ascii_alphabetic byte)) IsSafe letter_safe name is.1))

letters_safe : (word : List ℕ) → AllByRecursion (λ byte. IsTrue (is_ascii_alphabetic byte)) word → All IsSafe word
letters_safe word h = All-weaker (λ byte. IsTrue (is_ascii_alphabetic byte)) IsSafe letter_safe word
    (All-from_recursion (λ byte. IsTrue (is_ascii_alphabetic byte)) word h)

ruled_safe : (front words : List ℕ) → All IsSafe front → HasRule front words → All IsSafe words
ruled_safe front words safe (name, is, e) = named_safe front words safe (name, is.0, e)

letter : (byte : ℕ) → 65 ≤ byte → byte < 128 → IsSafe byte
letter byte low high = (λ is. omega (arith, is, low), high, λ is. omega (arith, is, low), no_digit byte low)

a_space : IsSafe 32
a_space = (λ is. omega (arith, is), omega arith, λ is. omega (arith, is), refl)

pass_safe : All IsSafe (codes "PASS")
pass_safe = All-from_recursion IsSafe (codes "PASS")
    (letter 80 (omega arith) (omega arith), (letter 65 (omega arith) (omega arith), (letter 83 (omega arith) (omega arith), (letter 83 (omega arith) (omega arith), tt))))

loose_safe : All IsSafe (codes "LOOSE ")
loose_safe = All-from_recursion IsSafe (codes "LOOSE ") (
  letter 76 (omega arith) (omega arith),
  (
    letter 79 (omega arith) (omega arith),
    (
      letter 79 (omega arith) (omega arith),
      (letter 83 (omega arith) (omega arith), (letter 69 (omega arith) (omega arith), (a_space, tt))),
    ),
  ),
)

fail_safe : All IsSafe (codes "FAIL ")
fail_safe = All-from_recursion IsSafe (codes "FAIL ") (
  letter 70 (omega arith) (omega arith),
  (
    letter 65 (omega arith) (omega arith),
    (
      letter 73 (omega arith) (omega arith),
      (letter 76 (omega arith) (omega arith), (a_space, tt)),
    ),
  ),
)

head_safe : All IsSafe (codes "Head ")
head_safe = All-from_recursion IsSafe (codes "Head ") (
  letter 72 (omega arith) (omega arith),
  (
    letter 101 (omega arith) (omega arith),
    (
      letter 97 (omega arith) (omega arith),
      (letter 100 (omega arith) (omega arith), (a_space, tt)),
    ),
  ),
)

near_safe : All IsSafe (codes "near ")
near_safe = All-append IsSafe (codes "near") (codes " ") (letters_safe (codes "near") (refl, (refl, (refl, (refl, tt)))))
    (All-from_recursion IsSafe (codes " ") (a_space, tt))

far_safe : All IsSafe (codes "far ")
far_safe = All-append IsSafe (codes "far") (codes " ") (letters_safe (codes "far") (refl, (refl, (refl, tt))))
    (All-from_recursion IsSafe (codes " ") (a_space, tt))

no_safe : All IsSafe (codes "no ")
no_safe = All-from_recursion IsSafe (codes "no ")
    (letter 110 (omega arith) (omega arith), (letter 111 (omega arith) (omega arith), (a_space, tt)))

connection_safe : All IsSafe (codes "connection")
connection_safe = All-weaker (λ byte. IsTrue (is_ascii_alphabetic byte)) IsSafe letter_safe (codes "connection")
    (All-from_recursion (λ byte. IsTrue (is_ascii_alphabetic byte)) (codes "connection") (refl, (refl, (refl, (refl, (refl, (refl, (refl, (refl, (refl, (refl, tt)))))))))))

-- a word and then the word for a hop
hop_safe : (front hop : List ℕ) → All IsSafe front → All IsSafe hop → All IsSafe (front ++ hop)
hop_safe front hop a b = All-append IsSafe front hop a b

is_loose_safe : (words : List ℕ) → NamesLoose words → All IsSafe words
is_loose_safe words (inl named) = named_safe (codes "LOOSE ") words loose_safe named
is_loose_safe words (inr (inl named)) = named_safe (codes "LOOSE " ++ codes "near ") words
    (hop_safe (codes "LOOSE ") (codes "near ") loose_safe near_safe) named
is_loose_safe words (inr (inr named)) = named_safe (codes "LOOSE " ++ codes "far ") words
    (hop_safe (codes "LOOSE ") (codes "far ") loose_safe far_safe) named

is_fail_safe : (words : List ℕ) → NamesFail words → All IsSafe words
is_fail_safe words (inl ruled) = ruled_safe (codes "FAIL ") words fail_safe ruled
is_fail_safe words (inr (inl ruled)) = ruled_safe (codes "FAIL " ++ codes "near ") words
    (hop_safe (codes "FAIL ") (codes "near ") fail_safe near_safe) ruled
is_fail_safe words (inr (inr ruled)) = ruled_safe (codes "FAIL " ++ codes "far ") words
    (hop_safe (codes "FAIL ") (codes "far ") fail_safe far_safe) ruled

is_head_safe : (words : List ℕ) → NamesRefusal words → All IsSafe words
is_head_safe words (inl named) = named_safe (codes "FAIL " ++ codes "Head ") words
    (hop_safe (codes "FAIL ") (codes "Head ") fail_safe head_safe) named
is_head_safe words (inr named) = named_safe (codes "FAIL " ++ (codes "far " ++ codes "Head ")) words
    (hop_safe (codes "FAIL ") (codes "far " ++ codes "Head ") fail_safe
    (hop_safe (codes "far ") (codes "Head ") far_safe head_safe)) named

verdict_safe : (words : List ℕ) → IsVerdict words → All IsSafe words
verdict_safe words (inl e) = All-same IsSafe words (codes "PASS") e pass_safe
verdict_safe words (inr (inl e)) =
    All-same IsSafe words (codes "no " ++ codes "connection") e (All-append IsSafe (codes "no ") (codes "connection") no_safe connection_safe)
verdict_safe words (inr (inr (inl loose))) = is_loose_safe words loose.names
verdict_safe words (inr (inr (inr (inl plain)))) = is_fail_safe words plain.names
verdict_safe words (inr (inr (inr (inr head)))) = is_head_safe words head.names

pub verdict_plain : (words : List ℕ) → IsVerdict words → All (λ byte. byte ≢ 40) words
verdict_plain words h = All-weaker IsSafe (λ byte. byte ≢ 40) (λ byte safe. safe.0) words (verdict_safe words h)

pub verdict_ascii : (words : List ℕ) → IsVerdict words → IsAscii words
verdict_ascii words h = IsAscii-from_all words (All-weaker IsSafe (λ byte. byte < 128) (λ byte safe. safe.1) words (verdict_safe words h))

pub verdict_no_colon : (words : List ℕ) → IsVerdict words → All (λ byte. byte ≢ 58) words
verdict_no_colon words h = All-weaker IsSafe (λ byte. byte ≢ 58) (λ byte safe. safe.2) words (verdict_safe words h)

pub verdict_no_digit : (words : List ℕ) → IsVerdict words → All IsNoDigit words
verdict_no_digit words h = All-weaker IsSafe IsNoDigit (λ byte safe. safe.3) words (verdict_safe words h)

-- ---- the line of a case

remark_begins : (remark : List ℕ) → IsRemark remark → BeginsRemark remark
remark_begins remark (inl none) = inl none
remark_begins remark (inr (inl new)) = inr (codes "new)", new)
remark_begins remark (inr (inr (words, is, e))) = inr (codes "was " ++ words ++ codes ")", e)

pub case_parts : (line id rest words remark : List ℕ) → IsCutAtFirst 32 line id rest → CutsRemark rest words remark
    → (id' words' : List ℕ) → IsCaseLine id' words' line → (id ≡ id') × (words ≡ words') × AreParts id words remark
case_parts line id rest words remark cut parts id' words' (is_id, is_verdict, (remark', is_remark, e)) =
    let same = one_cut 32 line id rest id' (words' ++ remark') cut (e, is_id.1) in
    let both = parts.1 words' remark' same.1 (verdict_plain words' is_verdict) (remark_begins remark' is_remark) in (
      same.0,
      both.0,
      (
        subst (λ (l : List ℕ). 1 ≤ length l) (sym same.0) is_id.0,
        subst IsVerdict (sym both.0) is_verdict,
        subst IsRemark (sym both.1) is_remark,
      ),
    )

pub is_case : (line id rest words remark : List ℕ) → IsCutAtFirst 32 line id rest → CutsRemark rest words remark
    → AreParts id words remark → IsCaseLine id words line
is_case line id rest words remark cut parts (some, verdict, is_remark) =
    ((some, cut.1), verdict, (remark, is_remark, cut.0 ∙ ap (λ (l : List ℕ). id ++ 32 ∷ l) parts.0))

pub tells_none : (line id rest words remark : List ℕ) → IsCutAtFirst 32 line id rest → CutsRemark rest words remark
    → (AreParts id words remark → ⊥) → TellsNoCase line
tells_none line id rest words remark cut parts none id' words' told =
    none (case_parts line id rest words remark cut parts id' words' told).2

-- ---- counts

pub digit_bounds : (byte : ℕ) → IsTrue (is_ascii_digit byte) → (48 ≤ byte) × (byte ≤ 57)
digit_bounds byte h = grind (arith, nat_tests)

count_plain : (word : List ℕ) → IsCount word → All (λ byte. byte ≢ 32) word
count_plain word is = All-weaker (λ byte. IsTrue (is_ascii_digit byte)) (λ byte. byte ≢ 32)
    (λ byte digit is. omega (arith, (digit_bounds byte digit).0, is)) word is.1

-- a line is cut behind its count
pub count_parts : (line count rest word back : List ℕ) → IsCutAtFirst 32 line count rest → HasCount word back line
    → IsCount count × (rest ≡ word ++ back)
count_parts line count rest word back cut (count', is, e) =
    let same = one_cut 32 line count rest count' (word ++ back) cut (e, count_plain count' is) in
    (subst IsCount (sym same.0) is, same.1)

-- what stands behind a count is one thing
pub one_rest : (line word back back' : List ℕ) → HasCount word back line → HasCount word back' line → back ≡ back'
one_rest line word back back' (count, is, e) h =
    same_rest word back back' (count_parts line count (word ++ back) word back' (e, count_plain count is) h).1

pub no_count : (line word : List ℕ) → All (λ byte. byte ≢ 32) line → (back : List ℕ) → HasCount word back line → ⊥
no_count line word lacks back (count, is, e) = no_cut 32 line count (word ++ back) lacks e

pub count_read : (line count rest word : List ℕ) (r : Option (Bor (List ℕ))) → IsCutAtFirst 32 line count rest → IsCount count
    → MatchOption r ((back : List ℕ) → rest ≡ word ++ back → ⊥) (λ back. rest ≡ word ++ back.now)
    → MatchOption r ((back : List ℕ) → HasCount word back line → ⊥) (λ back. HasCount word back.now line)
count_read line count rest word None cut is none = λ back h. none back (count_parts line count rest word back cut h).1
count_read line count rest word (Some back) cut is e = (count, is, cut.0 ∙ ap (λ (l : List ℕ). count ++ 32 ∷ l) e)

pub passes_read : (line behind_pass : List ℕ) (r : Option (Bor (List ℕ))) → HasCount (codes "pass, ") behind_pass line
    → MatchOption r ((rest : List ℕ) → HasCount (codes "loose, ") rest behind_pass → ⊥)
    (λ rest. HasCount (codes "loose, ") rest.now behind_pass)
    → MatchOption r ((rest : List ℕ) → CountsPasses rest line → ⊥) (λ rest. CountsPasses rest.now line)
passes_read line behind_pass None pass none = λ rest (other, first, second). none rest
    (subst (λ (l : List ℕ). HasCount (codes "loose, ") rest l) (one_rest line (codes "pass, ") other behind_pass first pass) second)
passes_read line behind_pass (Some rest) pass loose = (behind_pass, pass, loose)

pub one_passes : (line back back' : List ℕ) → CountsPasses back line → CountsPasses back' line → back ≡ back'
one_passes line back back' (pass, first, second) (pass', first', second') =
    one_rest pass (codes "loose, ") back back' second
    (subst (λ (l : List ℕ). HasCount (codes "loose, ") back' l) (one_rest line (codes "pass, ") pass' pass first' first) second')

-- ---- what is read

pub was_read : (remark rest : List ℕ) (r : Option (Bor (List ℕ))) → remark ≡ codes " (was " ++ rest
    → MatchOption r ((words : List ℕ) → rest ≡ words ++ codes ")" → ⊥) (λ words. rest ≡ words.now ++ codes ")")
    → MatchOption r ((words : List ℕ) → HasInBrackets words remark → ⊥) (λ words. HasInBrackets words.now remark)
was_read remark rest None is none = λ words e.
    none words (same_rest (codes " (was ") rest (words ++ codes ")") (sym is ∙ e))
was_read remark rest (Some words) is e = is ∙ ap (λ (l : List ℕ). codes " (was " ++ l) e

pub one_was : (remark words words' : List ℕ) → HasInBrackets words remark → HasInBrackets words' remark → words ≡ words'
one_was remark words words' e e' = same_front words words' 41 (same_rest (codes " (was ") (words ++ 41 ∷ []) (words' ++ 41 ∷ []) (sym e ∙ e'))

pub copied_text : (words : List ℕ) (r : Result (String Global) AllocError) → IsVerdict words
    → IfOk r (λ text. IsUtf8 words → string_bytes text ≡ words) → IfOk r (λ text. string_bytes text ≡ words)
copied_text words (Ok text) is h = h (IsUtf8-from_ascii words (verdict_ascii words is))
copied_text words (Err e) is h = tt

pub none_read : (line : List ℕ) (found : KnownLine) → TellsNoCase line → IsCaseRead line found → ⊥
none_read line (Verdict id words) none told = none id (string_bytes words) told
none_read line Other none told = told

pub case_copied : (line id words : List ℕ) (copy copied : List ℕ) → IsCaseLine id words line → copy ≡ id → copied ≡ words
    → IsCaseLine copy copied line
case_copied line id words copy copied told e f =
    subst (λ (l : List ℕ). IsCaseLine l copied line) (sym e) (subst (λ (l : List ℕ). IsCaseLine id l line) (sym f) told)

pub line_read : (line : List ℕ) (r : Result KnownLine LineFault) → (IsBesideCases line → ⊥)
    → Reads r (λ found. IsCaseRead line found) → Reads r (λ found. IsKnownLine found line)
line_read line (Ok (Verdict id words)) beside h = h
line_read line (Ok Other) beside h = absurd h
line_read line (Err fault) beside h = λ e found told. other e found told
  where
    other : fault ≡ Damaged → (found : KnownLine) → IsKnownLine found line → ⊥
    other e (Verdict id words) told = h e (Verdict id words) told
    other e Other told = beside told

-- ---- the words of a verdict

-- where they are none of the others they are a verdict if they are the last
pub last_told : (words : List ℕ) (bare loose fail head : Bool)
    → (IsTrue bare ↔ ((words ≡ codes "PASS") ⊎ (words ≡ codes "no connection"))) → bare ≡ false
    → (IsTrue loose ↔ IsNamedLoose words) → loose ≡ false → (IsTrue fail ↔ IsPlainFail words) → fail ≡ false
    → (IsTrue head ↔ IsHeadFail words) → (IsTrue head ↔ IsVerdict words)
last_told words bare loose fail head b not_bare l not_loose f not_fail h =
    (λ so. inr (inr (inr (inr (h.0 so)))), λ v. back v)
  where
    back : IsVerdict words → IsTrue head
    back (inl e) = absurd (false≢true (sym not_bare ∙ b.1 (inl e)))
    back (inr (inl e)) = absurd (false≢true (sym not_bare ∙ b.1 (inr e)))
    back (inr (inr (inl x))) = absurd (false≢true (sym not_loose ∙ l.1 x))
    back (inr (inr (inr (inl x)))) = absurd (false≢true (sym not_fail ∙ f.1 x))
    back (inr (inr (inr (inr x)))) = h.1 x

-- where they are one of them they are a verdict
pub told_true : (A : Type 0) → A → (IsTrue true ↔ A)
told_true A a = (λ so. a, λ x. refl)

pub told_false : (A : Type 0) → (A → ⊥) → (IsTrue false ↔ A)
told_false A never = (λ so. absurd (false≢true so), λ x. absurd (never x))

pub bare_told : (words : List ℕ) → (words ≡ codes "PASS") ⊎ (words ≡ codes "no connection") → IsVerdict words
bare_told words (inl e) = inl e
bare_told words (inr e) = inr (inl e)

-- parts of a line of which the first two are right
pub parts_told : (id words remark : List ℕ) (answer : Bool) → 1 ≤ length id → IsVerdict words
    → (IsTrue answer ↔ IsRemark remark) → (IsTrue answer ↔ AreParts id words remark)
parts_told id words remark answer some verdict h = (λ so. (some, verdict, h.0 so), λ p. h.1 p.2)
