-- The headers of words, one after the other.
use Rattle.std.proofs.Common.{◌≡◌, ◌∙◌, ◌+◌, ◌<◌, ◌≤◌, ℕ, List, [], ◌∷◌, ◌++◌, Some, None, ap, arith, length, sym, subst, take, take_all}
use Rattle.std.proofs.lemmas.List.{map-append, take_more}
use Rattle.std.proofs.lemmas.List.Elements.{All-get_or, All-nil, All-push}
use Rattle.std.proofs.lemmas.List.Quantifiers.{position-Some}
use Rattle.std.proofs.lemmas.List.Sums.{position_or_len_is, prefix_len-le-length}
use Rattle.std.proofs.Common.{All, Bool, get_or, not}
use Rattle.std.proofs.lemmas.Bool.Decides.{nat_tests}
use Rattle.ws_upgrade.proofs.ProtocolLemmas.{All-unmap}
use Rattle.std.specs.Borrow.{Bor}
use Rattle.std.specs.List.{position, position_or_len}
use Rattle.std.specs.Prelude.{map}
use Rattle.ws_upgrade.specs.AddedHeaders.{header_pair}
use Rattle.ws_upgrade.specs.declared.added_headers.AddedHeader.{AddedHeader}
use Rattle.ws_connection.specs.RequestHeaders.{HasColonSpace, header_in, headers_in, is_colon, name_length}

abbrev words_in : List (Bor (List ℕ)) → List (List ℕ)
words_in words = map (λ (word : Bor (List ℕ)). word.now) words

-- the headers of the words so far
pub record AreHeadersSoFar (words : List (Bor (List ℕ))) (i : ℕ) (headers : List AddedHeader) : Type 0 where
  pub pairs : map header_pair headers ≡ headers_in (words_in (take i words))
  pub parted : All HasColonSpace (words_in (take i words))

pub no_headers : (words : List (Bor (List ℕ))) (headers : List AddedHeader) → headers ≡ [] → AreHeadersSoFar words 0 headers
no_headers words headers none = record { pairs = ap (λ (l : List AddedHeader). map header_pair l) none; parted = All-nil HasColonSpace }

one_word_more : (words : List (Bor (List ℕ))) (i : ℕ) (d : Bor (List ℕ)) → i < length words
    → words_in (take (i + 1) words) ≡ words_in (take i words) ++ (get_or words i d).now ∷ []
one_word_more words i d below =
    ap words_in (take_more words i d below)
    ∙ map-append (λ (w : Bor (List ℕ)). w.now) (take i words) (get_or words i d ∷ [])

pub one_header_more : (words : List (Bor (List ℕ))) (i : ℕ) (d : Bor (List ℕ)) (headers after : List AddedHeader)
    (header : AddedHeader) → i < length words
    → header_pair header ≡ header_in (get_or words i d).now → HasColonSpace (get_or words i d).now
    → after ≡ headers ++ header ∷ [] → AreHeadersSoFar words i headers → AreHeadersSoFar words (i + 1) after
one_header_more words i d headers after header below pair parted grown before =
    let word = (get_or words i d).now in
    let more = one_word_more words i d below in
    record {
      pairs = ap (λ (l : List AddedHeader). map header_pair l) grown ∙ map-append header_pair headers (header ∷ [])
          ∙ (λ j. before.pairs j ++ pair j ∷ [])
          ∙ sym (map-append header_in (words_in (take i words)) (word ∷ []))
          ∙ sym (ap headers_in more);
      parted = subst (λ (l : List (List ℕ)). All HasColonSpace l) (sym more)
          (All-push HasColonSpace (words_in (take i words)) word before.parted parted);
    }

-- of all words
pub all_headers : (words : List (Bor (List ℕ))) (i : ℕ) (headers : List AddedHeader) → length words ≤ i
    → AreHeadersSoFar words i headers
    → (map header_pair headers ≡ headers_in (words_in words)) × All HasColonSpace (words_in words)
all_headers words i headers all before =
    let whole : words_in (take i words) ≡ words_in words = ap words_in (take_all i words all) in
    (before.pairs ∙ ap headers_in whole, subst (λ (l : List (List ℕ)). All HasColonSpace l) whole before.parted)

-- one word is not parted so
pub not_all_parted : (words : List (Bor (List ℕ))) (i : ℕ) (d : Bor (List ℕ)) → i < length words
    → ¬ (HasColonSpace (get_or words i d).now) → ¬ (All HasColonSpace (words_in words))
not_all_parted words i d below not all =
    let each = All-unmap HasColonSpace (λ (w : Bor (List ℕ)). w.now) words all in
    not (All-get_or (λ (w : Bor (List ℕ)). HasColonSpace w.now) words i d below each)

-- ---- the first colon

pub colon_at : (word : List ℕ) (at : ℕ) → position is_colon word ≡ Some at → (at ≡ name_length word) × (at ≤ length word)
colon_at word at found =
    let facts = position-Some is_colon word at 0 found in
    (sym (position_or_len_is is_colon word at 0 (omega (arith, facts.0)) facts.2 (λ _. facts.1)), omega (arith, facts.0))

beyond : (p : ℕ → Bool) (xs : List ℕ) → position p xs ≡ None → length xs ≤ position_or_len p xs
beyond p xs none = grind (arith, nat_tests)

pub no_colon : (word : List ℕ) → position is_colon word ≡ None → length word ≡ name_length word
no_colon word none =
    let most : name_length word ≤ length word = prefix_len-le-length (λ byte. not (is_colon byte)) word in
    let least : length word ≤ position_or_len is_colon word = beyond is_colon word none in
    omega (arith, most, least)
