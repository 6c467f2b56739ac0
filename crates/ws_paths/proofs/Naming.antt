-- Bytes are cut at the first that passes, and a path names a case by one word, which is one number.
use Rattle.std.proofs.Common.{◌≡◌, ◌∙◌, ℕ, ◌<◌, ◌≤◌, ◌==◌, inl, inr, ◌⊎◌, List, [], ◌∷◌, ◌++◌, length, Some, None}
use Rattle.std.proofs.Common.{filter, drop, false, ap, append_assoc, sym, refl, subst, arith, position}
use Rattle.std.proofs.lemmas.Bool.Decides.{nat_tests}
use Rattle.std.proofs.lemmas.List.Elements.{All-from_get_or}
use Rattle.std.proofs.lemmas.List.Quantifiers.{position-Some}
use Rattle.std.proofs.lemmas.List.Splits.{slice_split_first, slice_split_none}
use Rattle.std.proofs.lemmas.List.Sums.{fails_before_first, position_or_len_is}
use Rattle.std.specs.List.{after_first, before_first, position_or_len, slice_split}
use Rattle.ws_formats.specs.Words.{IsNumberWord}
use Rattle.ws_formats.proofs.NumberWords.{number_one}
use Rattle.ws_paths.specs.NamingCases.{IsFoundIn}
use Rattle.ws_paths.specs.Paths.{NameCaseOnce, NamesNone, is_ampersand, names_case}
use Rattle.ws_paths.specs.declared.named_case.Found.{Found}

-- ---- where bytes are cut

pub marks_at : (mark : ℕ) (bytes : List ℕ) (at : ℕ) → position (λ byte. byte == mark) bytes ≡ Some at
    → (position_or_len (λ byte. byte == mark) bytes ≡ at) × (at < length bytes)
marks_at mark bytes at found =
    let facts = position-Some (λ byte. byte == mark) bytes at 0 found in (
      position_or_len_is (λ byte. byte == mark) bytes at 0 (omega (arith, facts.0)) facts.2 (λ _. facts.1),
      facts.0,
    )

pub marks_nowhere : (mark : ℕ) (bytes : List ℕ) → position (λ byte. byte == mark) bytes ≡ None
    → length bytes ≤ position_or_len (λ byte. byte == mark) bytes
marks_nowhere mark bytes none = grind (arith, nat_tests)

-- ---- parts

-- this was found in the parts before the rest
pub record HasFound (query rest : List ℕ) (found : Found) : Type 0 where
  pub seen : List (List ℕ)
  pub parts : slice_split is_ampersand query ≡ seen ++ slice_split is_ampersand rest
  pub is_found : IsFoundIn seen found

pub found_none : (query : List ℕ) (found : Found) → IsFoundIn [] found → HasFound query query found
found_none query found is = record { seen = []; parts = refl; is_found = is }

-- with one part more
pub found_more : (query rest part after : List ℕ) (found next : Found) (has : HasFound query rest found)
    → position_or_len is_ampersand rest < length rest → part ≡ before_first is_ampersand rest
    → after ≡ after_first is_ampersand rest
    → ((parts : List (List ℕ)) → IsFoundIn parts found → IsFoundIn (parts ++ part ∷ []) next)
    → HasFound query after next
found_more query rest part after found next has there front back step =
    let first = slice_split_first is_ampersand rest 0 there in
    let cut : slice_split is_ampersand rest ≡ part ∷ slice_split is_ampersand after = first
    ∙ ap (λ (l : List ℕ). l ∷ slice_split is_ampersand (after_first is_ampersand rest)) (sym front)
    ∙ ap (λ (l : List ℕ). part ∷ slice_split is_ampersand l) (sym back) in record {
      seen = has.seen ++ part ∷ [];
      parts = has.parts ∙ ap (λ (l : List (List ℕ)). has.seen ++ l) cut
          ∙ sym (append_assoc has.seen (part ∷ []) (slice_split is_ampersand after));
      is_found = step has.seen has.is_found;
    }

-- with the last part
pub found_all : (query rest : List ℕ) (found last : Found) (has : HasFound query rest found)
    → length rest ≤ position_or_len is_ampersand rest
    → ((parts : List (List ℕ)) → IsFoundIn parts found → IsFoundIn (parts ++ rest ∷ []) last)
    → IsFoundIn (slice_split is_ampersand query) last
found_all query rest found last has whole step =
    let one : slice_split is_ampersand rest ≡ rest ∷ [] = slice_split_none is_ampersand rest
    (All-from_get_or (λ byte. is_ampersand byte ≡ false) rest 0
    (λ i less. fails_before_first is_ampersand rest i 0 (omega (arith, less, whole)))) in
    subst (λ (l : List (List ℕ)). IsFoundIn l last) (sym (has.parts ∙ ap (λ (l : List (List ℕ)). has.seen ++ l) one))
    (step has.seen has.is_found)

-- ---- the case that is named

abbrev first_of : List (List ℕ) → List ℕ
first_of [] = []
first_of (part ∷ parts) = part

-- there is one word
pub one_word : (parts : List (List ℕ)) (word other : List ℕ) → NameCaseOnce parts word → NameCaseOnce parts other
    → word ≡ other
one_word parts word other a b = ap (λ (l : List (List ℕ)). drop 5 (first_of l)) (sym a ∙ b)

pub none_without : (count : ℕ) (parts : List (List ℕ)) → filter names_case parts ≡ [] → NamesNone count parts
none_without count parts none number (_, (word, once, _)) =
    let more : 0 ≡ 1 = ap length (sym none ∙ once) in omega (arith, more)

pub none_of_two : (count : ℕ) (parts : List (List ℕ)) → 2 ≤ length (filter names_case parts) → NamesNone count parts
none_of_two count parts two number (_, (word, once, _)) =
    let one : length (filter names_case parts) ≡ 1 = ap length once in omega (arith, one, two)

-- a word that is no number names none
pub none_by_word : (count : ℕ) (parts : List (List ℕ)) (word : List ℕ) → count ≤ 4294967295
    → NameCaseOnce parts word → ((number : ℕ) → IsNumberWord 4294967295 number word → ⊥) → NamesNone count parts
none_by_word count parts word small once none number (_, (other, again, (few, spells))) =
    none number (omega (arith, few, small), one_word parts word other once again ∙ spells)

-- a number that is no case's names none
pub none_beyond : (count n : ℕ) (parts : List (List ℕ)) (word : List ℕ) → count ≤ 4294967295
    → NameCaseOnce parts word → IsNumberWord 4294967295 n word → (n ≡ 0) ⊎ (count < n) → NamesNone count parts
none_beyond count n parts word small once spells beyond number (from, (other, again, is)) =
    let same = number_one 4294967295 count n number word (omega arith) (omega (arith, small)) spells
    (is.0, one_word parts word other once again ∙ is.1) in outside beyond same
  where
    outside : (n ≡ 0) ⊎ (count < n) → n ≡ number → ⊥
    outside (inl zero) same = omega (arith, zero, same, from)
    outside (inr above) same = omega (arith, above, same, is.0)
