-- From clap's clauses to what the words ask for.
use Rattle.std.proofs.Common.{◌≡◌, ◌∙◌, ◌<◌, ◌^◌, ℕ, Bool, true, false, zero, suc, List, [], ◌∷◌, Option, Some}
use Rattle.std.proofs.Common.{None, Result, Ok, Err, IsErrAnd, arith, ap, refl, sym, subst, inl, inr, length, map}
use Rattle.std.proofs.Common.{codes, slice_index_or}
use Rattle.std.specs.Borrow.{Bor}
use Rattle.std.specs.Prelude.{Box, MatchOption, option_map, unwrap_or}
use Rattle.std.specs.Box.{box_value}
use Rattle.std.specs.Str.Parse.{ParsesBool, ParsesUnsigned}
use Rattle.clap.specs.Words.{App, HasKind, ReadsOne, Row, Text, fault_of, first_of, found_of, kind_of, one_of, rows_of}
use Rattle.clap.specs.Words.{subcommand_of, subcommand_rows}
use Rattle.clap.specs.declared.parser.matches.ArgMatches.TheViews.{out-SubCommand}
use Rattle.clap.specs.declared.parser.matches.SubCommand.{SubCommand}
use Rattle.clap.specs.declared.error.Error.{Error}
use Rattle.clap.specs.declared.error.kind.ErrorKind.TheVariants.{OutOfMemory}
use Rattle.wst_words.specs.Options.{GivesFlag, GivesNoEnd, GivesNoExpectation, GivesNoFlag, GivesNoNumber, GivesNoStyle}
use Rattle.wst_words.specs.Options.{GivesCount, GivesCountIfAny, GivesNoCount, GivesNoCountIfAny, GivesNoNumberOr}
use Rattle.wst_words.specs.Options.{GivesNumber, GivesNumberOf, GivesNumberOr}
use Rattle.wst_words.specs.Words.{AsksFor, AsksForNothing, CommandAsks, CommandAsksNothing, IsOfClap, IsRead}
use Rattle.wst_words.specs.Words.{RefusesWords}
use Rattle.wst_words.specs.declared.words.Task.{Task}
use Rattle.wst_words.specs.declared.words.WordsFault.{WordsFault}
use Rattle.wst_words.specs.declared.words.WordsFault.TheVariants.{Clap, NoTask}

-- two names in memory, in a list that lies there too
abbrev pub two_names : ℕ × ℕ → (ℕ × ℕ) × (ℕ × ℕ) → Text → Text → Bor (List (Bor Text))
two_names list places one other = record {
  ref_ptr = list;
  now = record { ref_ptr = places.0; now = one } ∷ record { ref_ptr = places.1; now = other } ∷ [];
}

-- a list of two names has them in two places
pub places_of : (one other : Text) (list : ℕ × ℕ) (names : List (Bor Text))
    → map (λ s. s.now) names ≡ one ∷ other ∷ []
    → (places : (ℕ × ℕ) × (ℕ × ℕ)) × (record { ref_ptr = list; now = names } ≡ two_names list places one other)
places_of one other list [] e =
    let bad : zero ≡ suc (suc zero) = ap (λ (l : List Text). length l) e in
    absurd (omega arith)
places_of one other list (a ∷ []) e =
    let bad : suc zero ≡ suc (suc zero) = ap (λ (l : List Text). length l) e in
    absurd (omega arith)
places_of one other list (a ∷ b ∷ []) e =
    let first : a.now ≡ one = ap (λ (l : List Text). slice_index_or l 0 []) e in
    let second : b.now ≡ other = ap (λ (l : List Text). slice_index_or l 1 []) e in (
      (a.ref_ptr, b.ref_ptr),
      λ i. record { ref_ptr = list; now = record { ref_ptr = a.ref_ptr; now = first i } ∷ record { ref_ptr = b.ref_ptr; now = second i } ∷ [] },
    )
places_of one other list (a ∷ b ∷ x ∷ rest) e =
    let bad : suc (suc (suc (length (map (λ s. s.now) rest)))) ≡ suc (suc zero) = ap (λ (l : List Text). length l) e in
    absurd (omega arith)

-- and of three
abbrev three_names : (ℕ × ℕ) → ((ℕ × ℕ) × ((ℕ × ℕ) × (ℕ × ℕ))) → Text → Text → Text → Bor (List (Bor Text))
three_names list places one other third = record {
  ref_ptr = list;
  now = record { ref_ptr = places.0; now = one } ∷ record { ref_ptr = places.1.0; now = other }
      ∷ record { ref_ptr = places.1.1; now = third } ∷ [];
}

pub places_of_three : (one other third : Text) (list : ℕ × ℕ) (names : List (Bor Text))
    → map (λ s. s.now) names ≡ one ∷ other ∷ third ∷ []
    → (places : (ℕ × ℕ) × ((ℕ × ℕ) × (ℕ × ℕ)))
    × (record { ref_ptr = list; now = names } ≡ three_names list places one other third)
places_of_three one other third list [] e =
    let bad : zero ≡ suc (suc (suc zero)) = ap (λ (l : List Text). length l) e in
    absurd (omega arith)
places_of_three one other third list (a ∷ []) e =
    let bad : suc zero ≡ suc (suc (suc zero)) = ap (λ (l : List Text). length l) e in
    absurd (omega arith)
places_of_three one other third list (a ∷ b ∷ []) e =
    let bad : suc (suc zero) ≡ suc (suc (suc zero)) = ap (λ (l : List Text). length l) e in
    absurd (omega arith)
places_of_three one other third list (a ∷ b ∷ d ∷ []) e =
    let first : a.now ≡ one = ap (λ (l : List Text). slice_index_or l 0 []) e in
    let second : b.now ≡ other = ap (λ (l : List Text). slice_index_or l 1 []) e in
    let last : d.now ≡ third = ap (λ (l : List Text). slice_index_or l 2 []) e in (
      (a.ref_ptr, (b.ref_ptr, d.ref_ptr)),
      λ i. record {
        ref_ptr = list;
        now = record { ref_ptr = a.ref_ptr; now = first i } ∷ record { ref_ptr = b.ref_ptr; now = second i }
            ∷ record { ref_ptr = d.ref_ptr; now = last i } ∷ [];
      },
    )
places_of_three one other third list (a ∷ b ∷ d ∷ x ∷ rest) e =
    let bad : suc (suc (suc (suc (length (map (λ s. s.now) rest))))) ≡ suc (suc (suc zero)) =
    ap (λ (l : List Text). length l) e in
    absurd (omega arith)

-- what is passed up is nothing
pub none_from : {T : Type 0} (r : Option T) (N : Type 0) (P : T → Type 0) → r ≡ None → N → MatchOption r N P
none_from None N P e none = none
none_from (Some x) N P e none = absurd (cc)

-- a number is given exactly where a text is there that a typed getter reads
pub number_given : {E : Type 0} (bits : ℕ) (gives : Text → Result ℕ E → Type 0) → ((text : Text) (g : Result ℕ E) → gives text g → ParsesUnsigned bits 10 text g)
    → (rows : List Row) (name : Text) (o : Option Text) (r : Option ℕ) → o ≡ one_of name rows → (o ≡ None → r ≡ None)
    → ((text : Text) → o ≡ Some text → ReadsOne gives text r) → MatchOption r ((number : ℕ) → GivesNumberOf bits rows name number → ⊥) (GivesNumberOf bits rows name)
number_given bits gives parses rows name o None there none some = λ number given.
    let (e, fails) = some given.word (there ∙ given.has_word) in
    parses given.word (Err e) fails (given.numeral, subst (λ (n : ℕ). n < 2 ^ bits) given.value given.fits)
number_given bits gives parses rows name None (Some n) there none some =
    let bad : Some n ≡ None = none refl in
    absurd (cc)
number_given bits gives parses rows name (Some text) (Some n) there none some =
    let parsed = parses text (Ok n) (some text refl) in
    record { word = text; has_word = sym there; numeral = parsed.0.0; value = parsed.1; fits = subst (λ (m : ℕ). m < 2 ^ bits) (sym parsed.1) parsed.0.1 }

-- a word that isn't there is no word
pub no_word : (rows : List Row) (name word : Text) → first_of name rows ≡ None → first_of name rows ≡ Some word → ⊥
no_word rows name word none there =
    let bad : Some word ≡ None = sym there ∙ none in
    absurd (cc)

-- where the option was met, its number is given or none is
pub number_or_given : (rows : List Row) (name : Text) (other : ℕ) (word : Text) (r : Option ℕ)
    → first_of name rows ≡ Some word → MatchOption r (GivesNoNumber rows name) (GivesNumber rows name)
    → MatchOption r (GivesNoNumberOr rows name) (GivesNumberOr other rows name)
number_or_given rows name other word None there none = refuses
  where
    refuses : GivesNoNumberOr rows name
    refuses any number (inl given) = none number given
    refuses any number (inr (left_out, same)) = no_word rows name word left_out there
number_or_given rows name other word (Some number) there given = inl given

-- where the word was met and gives no count, none is given, and it wasn't left out
pub no_count_if_any : (rows : List Row) (name word : Text) → first_of name rows ≡ Some word → GivesNoCount rows name
    → GivesNoCountIfAny rows name
no_count_if_any rows name word there none None left_out = no_word rows name word left_out there
no_count_if_any rows name word there none (Some count) given = none count given

-- a flag is set or not exactly where a text is there that names a `bool`
pub flag_given : (E : Type 0) (rows : List Row) (name : Text) (o : Option Text) (r : Option Bool)
    → o ≡ one_of name rows → (o ≡ None → r ≡ None)
    → ((text : Text) → o ≡ Some text → ReadsOne {E = E} ParsesBool text r) → MatchOption r (GivesNoFlag rows name) (GivesFlag rows name)
flag_given E rows name o None there none some = no_flag
  where
    no_flag : (set : Bool) → GivesFlag rows name set → ⊥
    no_flag true given = (some (codes "true") (there ∙ given)).1.0 refl
    no_flag false given = (some (codes "false") (there ∙ given)).1.1 refl
flag_given E rows name None (Some set) there none some =
    let bad : Some set ≡ None = none refl in
    absurd (cc)
flag_given E rows name (Some text) (Some true) there none some = sym there ∙ ap (λ (t : Text). Some t) (some text refl)
flag_given E rows name (Some text) (Some false) there none some = sym there ∙ ap (λ (t : Text). Some t) (some text refl)

-- without a text no end is given
pub no_end_given : (rows : List Row) (name : Text) → first_of name rows ≡ None → GivesNoEnd rows name
no_end_given rows name none = λ role given.
    let bad : Some given.word ≡ None = sym given.has_word ∙ none in
    absurd (cc)

-- without a word nothing is said of what is expected
pub no_expectation_given : (rows : List Row) (name : Text) → first_of name rows ≡ None → GivesNoExpectation rows name
no_expectation_given rows name none = λ expected given.
    let bad : Some given.word ≡ None = sym given.has_word ∙ none in
    absurd (cc)

-- without a word no style is given
pub no_style_given : (rows : List Row) (name : Text) → first_of name rows ≡ None → GivesNoStyle rows name
no_style_given rows name none = λ shown given.
    let bad : Some given.word ≡ None = sym given.has_word ∙ none in
    absurd (cc)

-- the name and the rows of a subcommand that was met are those of what was met
pub met_is : {Z : Type 0} (sub : Option (Box SubCommand Z)) (name : Text) (rows : List Row)
    → Some name ≡ option_map (λ b. (out-SubCommand (box_value b)).name.now) sub
    → Some rows ≡ option_map (λ p. p.1) (subcommand_rows sub) → subcommand_rows sub ≡ Some (name, rows)
met_is None name rows named there = absurd (cc)
met_is (Some b) name rows named there =
    let same : name ≡ (out-SubCommand (box_value b)).name.now = ap (λ (o : Option Text). unwrap_or o name) named in
    let held : rows ≡ rows_of (found_of (out-SubCommand (box_value b)).matches) = ap (λ (o : Option (List Row)). unwrap_or o rows) there in
    sym (λ i. Some (same i, held i))

-- want of memory is an error of any words
pub memory_read : (app : App) (words : List Text) (r : Result Task WordsFault)
    → IsErrAnd r (λ fault. IsOfClap (λ e. kind_of e ≡ OutOfMemory) fault)
    → IsRead app words r
memory_read app words (Ok task) h = absurd h
memory_read app words (Err (Clap e)) h = inl h
memory_read app words (Err NoTask) h = absurd h

-- an error of clap is passed up as it is
pub fault_read : (app other : App) (words : List Text) (r : Result Task WordsFault) (e : Error) → app ≡ other
    → IsErrAnd r (λ y. y ≡ Clap e)
    → HasKind (fault_of app words) e → IsRead other words r
fault_read app other words (Ok task) e same is h = absurd is
fault_read app other words (Err y) e same is h =
    let kind : HasKind (fault_of other words) e = subst (λ (a : App). HasKind (fault_of a words) e) same h in
    subst (λ (x : WordsFault). RefusesWords other words x) (sym is) kind

-- a task by the matches is what the words ask for
pub task_read : (app other : App) (words : List Text) (met : Option (Text × List Row)) (task : Task) → app ≡ other
    → fault_of app words ≡ [] → met ≡ subcommand_of app words → CommandAsks met task
    → AsksFor other words task
task_read app other words met task same faultless is asks = (
  subst (λ (a : App). fault_of a words ≡ []) same faultless,
  subst (λ (o : Option (Text × List Row)). CommandAsks o task) (is ∙ ap (λ (a : App). subcommand_of a words) same) asks,
)

-- and where they give none, the words ask for nothing
pub nothing_read : (app other : App) (words : List Text) (met : Option (Text × List Row)) → app ≡ other
    → fault_of app words ≡ [] → met ≡ subcommand_of app words → CommandAsksNothing met
    → AsksForNothing other words
nothing_read app other words met same faultless is none = (
  subst (λ (a : App). fault_of a words ≡ []) same faultless,
  subst (λ (o : Option (Text × List Row)). CommandAsksNothing o) (is ∙ ap (λ (a : App). subcommand_of a words) same) none,
)
