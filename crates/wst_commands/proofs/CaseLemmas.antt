-- Cases one after the other: their names, their lines, and those for which words stand.
use Rattle.std.proofs.Common.{◌≡◌, ◌==◌, ◌∙◌, ◌+◌, ◌-◌, ◌<◌, ap, ap₂, arith, cond, refl, subst, sym, ℕ, Bool, true, false}
use Rattle.std.proofs.Common.{List, [], ◌∷◌, ◌++◌, append-nil, append_assoc, codes, filter, flat_map, length, map}
use Rattle.std.proofs.Common.{MatchResult, Option, Result, slice_index_or, string_bytes, take, drop}
use Rattle.std.proofs.lemmas.Bool.Decides.{nat_tests}
use Rattle.std.proofs.lemmas.Grind.{flat_map-append}
use Rattle.std.proofs.lemmas.List.{get_or-map, length-map, map-append, take-append-drop, take_more}
use Rattle.std.proofs.lemmas.List.Elements.{All-append, All-from_get_or, All-get_or, All-nil, All-push, filter-append}
use Rattle.std.proofs.lemmas.Slice.Zip.{AllZip-long}
use Rattle.std.specs.Borrow.{Bor}
use Rattle.std.specs.List.{All, Contains}
use Rattle.std.specs.declared.alloc.Global.{Global}
use Rattle.std.specs.declared.string.String.{String}
use Rattle.std.specs.declared.vec.Vec.{Vec}
use Rattle.ws_scripts.specs.CaseNames.{case_names}
use Rattle.ws_scripts.specs.Scripts.{ArePieces, AreTurns, CanBeRun, turns_of}
use Rattle.ws_scripts.specs.ScriptTexts.{written_script}
use Rattle.ws_scripts.specs.declared.script.Case.{Case}
use Rattle.wst_commands.specs.Cases.{case_line, cases_text, titled_line}
use Rattle.wst_commands.specs.GivenCases.{AreCasesFor, AreCasesOf, AreNamesFor, GrowsByCase, GrowsByCases, HaveNoGlob}
use Rattle.wst_commands.specs.GivenCases.{LackCases}
use Rattle.wst_commands.specs.declared.given_cases.NoCases.{NoCases}
use Rattle.wst_commands.specs.GivenCases.{NameCases, ids_for, ids_of, is_glob, is_meant, names_of, or_all}

-- ---- names

-- the names so far and the next one
pub next_name : (names : List (String Global)) (i : ℕ) (name : String Global) → i < length names → name ≡ slice_index_or names i name
    → map string_bytes (take (i + 1) names) ≡ map string_bytes (take i names) ++ string_bytes name ∷ []
next_name names i name within is =
    ap (λ (l : List (String Global)). map string_bytes l) (take_more names i name within)
    ∙ (map-append string_bytes (take i names) (slice_index_or names i name ∷ [])
    ∙ ap (λ (n : String Global). map string_bytes (take i names) ++ string_bytes n ∷ []) (sym is))

-- the words so far and the next one
pub next_word : (words : List (Bor (List ℕ))) (i : ℕ) (d : Bor (List ℕ)) → i < length words
    → names_of (take (i + 1) words) ≡ names_of (take i words) ++ (slice_index_or words i d).now ∷ []
next_word words i d within =
    ap (λ (l : List (Bor (List ℕ))). names_of l) (take_more words i d within)
    ∙ map-append (λ (x : Bor (List ℕ)). x.now) (take i words) (slice_index_or words i d ∷ [])

-- a name that passes a test is the next of those that do
pub next_meant : (p : List ℕ → Bool) (names : List (String Global)) (i : ℕ) (name : String Global) (ids more : List (Bor (List ℕ))) (last : Bor (List ℕ))
    → i < length names → name ≡ slice_index_or names i name → names_of ids ≡ filter p (map string_bytes (take i names))
    → p (string_bytes name) ≡ true → more ≡ ids ++ last ∷ [] → last.now ≡ string_bytes name
    → names_of more ≡ filter p (map string_bytes (take (i + 1) names))
next_meant p names i name ids more last within is before passes grown same =
    ap (λ (l : List (Bor (List ℕ))). names_of l) grown
    ∙ map-append (λ (x : Bor (List ℕ)). x.now) ids (last ∷ [])
    ∙ ap₂ (λ (a : List (List ℕ)) (b : List ℕ). a ++ b ∷ []) before same
    ∙ sym (ap (λ (l : List (List ℕ)). filter p l) (next_name names i name within is)
    ∙ filter-append p (map string_bytes (take i names)) (string_bytes name ∷ [])
    ∙ ap (λ (b : Bool). filter p (map string_bytes (take i names)) ++ cond b (string_bytes name ∷ []) []) passes)

-- and another one changes nothing
pub next_left_out : (p : List ℕ → Bool) (names : List (String Global)) (i : ℕ) (name : String Global) (ids : List (Bor (List ℕ)))
    → i < length names → name ≡ slice_index_or names i name → names_of ids ≡ filter p (map string_bytes (take i names))
    → p (string_bytes name) ≡ false → names_of ids ≡ filter p (map string_bytes (take (i + 1) names))
next_left_out p names i name ids within is before fails =
    before ∙ sym (ap (λ (l : List (List ℕ)). filter p l) (next_name names i name within is)
    ∙ filter-append p (map string_bytes (take i names)) (string_bytes name ∷ [])
    ∙ ap (λ (b : Bool). filter p (map string_bytes (take i names)) ++ cond b (string_bytes name ∷ []) []) fails
    ∙ append-nil (filter p (map string_bytes (take i names))))

-- ---- cases

-- one more name, and its case
pub one_more_case : (names : List (List ℕ)) (name : List ℕ) (old new : List Case) (case : Case) → AreCasesOf names old → CanBeRun case
    → string_bytes case.id ≡ name → new ≡ old ++ case ∷ [] → AreCasesOf (names ++ name ∷ []) new
one_more_case names name old new case before runs called is = record {
  can_be_run = subst (λ (l : List Case). All CanBeRun l) (sym is) (All-push CanBeRun old case before.can_be_run runs);
  named = ap (λ (l : List Case). map (λ c. string_bytes c.id) l) is ∙ map-append (λ (c : Case). string_bytes c.id) old (case ∷ [])
      ∙ ap₂ (λ (a b : List (List ℕ)). a ++ b) before.named (ap (λ (n : List ℕ). n ∷ []) called);
}

-- more names, and their cases
pub more_cases : (names others : List (List ℕ)) (old more new : List Case) → AreCasesOf names old → AreCasesOf others more
    → new ≡ old ++ more → AreCasesOf (names ++ others) new
more_cases names others old more new before behind is = record {
  can_be_run = subst (λ (l : List Case). All CanBeRun l) (sym is) (All-append CanBeRun old more before.can_be_run behind.can_be_run);
  named = ap (λ (l : List Case). map (λ c. string_bytes c.id) l) is ∙ map-append (λ (c : Case). string_bytes c.id) old more
      ∙ ap₂ (λ (a b : List (List ℕ)). a ++ b) before.named behind.named;
}

-- the ids so far and the next one are names of cases
pub next_named : (ids : List (Bor (List ℕ))) (i : ℕ) (d : Bor (List ℕ)) → i < length ids
    → All (Contains case_names) (names_of (take i ids)) → Contains case_names (slice_index_or ids i d).now
    → All (Contains case_names) (names_of (take (i + 1) ids))
next_named ids i d within before named =
    subst (λ (l : List (List ℕ)). All (Contains case_names) l) (sym (next_word ids i d within))
    (All-push (Contains case_names) (names_of (take i ids)) (slice_index_or ids i d).now before named)

-- where one of the ids is the name of no case, not each is that of one
pub one_unnamed : (ids : List (Bor (List ℕ))) (i : ℕ) (d : Bor (List ℕ)) → i < length ids
    → ¬ (Contains case_names (slice_index_or ids i d).now) → ¬ (NameCases (names_of ids))
one_unnamed ids i d within other = λ h.
    other (subst (λ (l : List ℕ). Contains case_names l) (get_or-map (λ (x : Bor (List ℕ)). x.now) ids i d d.now within)
    (All-get_or (Contains case_names) (names_of ids) i d.now
    (omega (arith, within, length-map ids (λ (x : Bor (List ℕ)). x.now))) h.named))

-- no ids are the names of no cases
pub none_named : (ids : List (Bor (List ℕ))) (b : Bool) → b ≡ (length ids == 0) → b ≡ true
    → NameCases (names_of ids) → ⊥
none_named [] b is none h = h.some refl
none_named (id ∷ ids) b is none h =
    let zero : length (id ∷ ids) ≡ 0 = grind (arith, nat_tests, is, none) in absurd (omega (arith, zero))

-- and some are some names
pub some_named : (ids : List (Bor (List ℕ))) (b : Bool) → b ≡ (length ids == 0) → b ≡ false → names_of ids ≡ [] → ⊥
some_named [] b is some nil = absurd cc
some_named (id ∷ ids) b is some nil = absurd cc

-- the case of the next id was put behind those of the ids so far
pub next_id : (ids : List (Bor (List ℕ))) (i : ℕ) (d : Bor (List ℕ)) (first old more new : List Case) → i < length ids
    → AreCasesOf (names_of (take i ids)) more → old ≡ first ++ more → GrowsByCase (slice_index_or ids i d).now true old new
    → (longer : List Case) × AreCasesOf (names_of (take (i + 1) ids)) longer × (new ≡ first ++ longer)
next_id ids i d first old more new within before is (named, (case, runs, called, grown)) = (
  more ++ case ∷ [],
  subst (λ (l : List (List ℕ)). AreCasesOf l (more ++ case ∷ [])) (sym (next_word ids i d within))
      (one_more_case (names_of (take i ids)) (slice_index_or ids i d).now more (more ++ case ∷ []) case before runs called refl),
  grown ∙ ap (λ (l : List Case). l ++ case ∷ []) is ∙ append_assoc first more (case ∷ []),
)

-- the cases of the next word were put behind those of the words so far
pub next_cases : (words : List (Bor (List ℕ))) (i : ℕ) (d : Bor (List ℕ)) (old new : List Case) → i < length words
    → AreCasesFor (names_of (take i words)) old → GrowsByCases (ids_of (slice_index_or words i d).now) true old new
    → AreCasesFor (names_of (take (i + 1) words)) new
next_cases words i d old new within before (some, (more, are, grown)) =
    let word = (slice_index_or words i d).now in
    let front = names_of (take i words) in
    let ids : flat_map ids_of (front ++ word ∷ []) ≡ flat_map ids_of front ++ ids_of word =
    flat_map-append ids_of front (word ∷ []) ∙ ap (λ (l : List (List ℕ)). flat_map ids_of front ++ l)
    (append-nil (ids_of word)) in
    subst (λ (l : List (List ℕ)). AreCasesFor l new) (sym (next_word words i d within)) record {
      have = subst (λ (l : List (List ℕ)). AreCasesOf l new) (sym ids)
          (more_cases (flat_map ids_of front) (ids_of word) old more new before.have are grown);
      some = All-push (λ (w : List ℕ). NameCases (ids_of w)) front word before.some some;
    }

-- no words stand for no cases
pub no_cases : AreCasesFor [] []
no_cases = record {
  have = record { can_be_run = All-nil CanBeRun; named = refl };
  some = All-nil (λ (w : List ℕ). NameCases (ids_of w));
}

-- where no word is given a star is
pub none_given : (words : List (Bor (List ℕ))) (b : Bool) → b ≡ (length words == 0) → b ≡ true
    → codes "*" ∷ [] ≡ or_all (names_of words)
none_given [] b is none = refl
none_given (word ∷ words) b is none =
    let zero : length (word ∷ words) ≡ 0 = grind (arith, nat_tests, is, none) in absurd (omega (arith, zero))

pub some_given : (words : List (Bor (List ℕ))) (b : Bool) → b ≡ (length words == 0) → b ≡ false
    → names_of words ≡ or_all (names_of words)
some_given [] b is some = absurd cc
some_given (word ∷ words) b is some = refl

-- the cases for which words stand, or why there are none
abbrev pub AnswersFor : List (List ℕ) → Result (Vec Case Global) NoCases → Type 0
AnswersFor words result = MatchResult result (λ cases. AreCasesFor words cases.items) (LackCases words)

-- a word that is no glob stands for itself
pub plain_ids : (names : List (List ℕ)) (word : List ℕ) → is_glob word ≡ false → ids_for names word ≡ word ∷ []
plain_ids names word plain =
    ap (λ (b : Bool). cond b (filter (is_meant (take (length word - 1) word)) names) (word ∷ [])) plain

-- where none of the words is a glob no names are needed for them
pub none_needed : (words : List (Bor (List ℕ))) → HaveNoGlob words → AreNamesFor words []
unfolding ids_of
none_needed words plain =
    let none : Bor (List ℕ) = record { ref_ptr = (0, 0); now = [] } in
    All-from_get_or (λ (w : Bor (List ℕ)). ids_for [] w.now ≡ ids_of w.now) words none (λ i within.
    let word = slice_index_or words i none in
    let p = All-get_or (λ (w : Bor (List ℕ)). is_glob w.now ≡ false) words i none within plain in
    plain_ids [] word.now p ∙ sym (plain_ids case_names word.now p))

-- and those of all cases are right for each
pub all_given : (words : List (Bor (List ℕ))) (names : List (List ℕ)) → names ≡ case_names → AreNamesFor words names
unfolding ids_of
all_given words names are =
    let none : Bor (List ℕ) = record { ref_ptr = (0, 0); now = [] } in
    All-from_get_or (λ (w : Bor (List ℕ)). ids_for names w.now ≡ ids_of w.now) words none (λ i within.
    ap (λ (l : List (List ℕ)). ids_for l (slice_index_or words i none).now) are)

-- the ids of a word, by names that are right for it
pub ids_by : (words : List (Bor (List ℕ))) (names : List (List ℕ)) (i : ℕ) (d : Bor (List ℕ)) → i < length words
    → AreNamesFor words names → ids_for names (slice_index_or words i d).now ≡ ids_of (slice_index_or words i d).now
ids_by words names i d within are =
    All-get_or (λ (w : Bor (List ℕ)). ids_for names w.now ≡ ids_of w.now) words i d within are

-- and so for one case
pub one_case : (word : List ℕ) (cases : List Case) → AreCasesFor (word ∷ []) cases → is_glob word ≡ false → length cases ≡ 1
unfolding ids_of
one_case word cases are plain =
    sym (length-map cases (λ (c : Case). string_bytes c.id)) ∙ ap (λ (l : List (List ℕ)). length l) are.have.named
    ∙ ap (λ (l : List (List ℕ)). length (l ++ [])) (plain_ids case_names word plain)

-- one case, where there is one
pub only_one : (cases : List Case) (case : Case) → length cases ≡ 1 → case ≡ slice_index_or cases 0 case → cases ≡ case ∷ []
only_one [] case one is = absurd (omega (arith, one))
only_one (x ∷ []) case one is = ap (λ (c : Case). c ∷ []) (sym is)
only_one (x ∷ y ∷ more) case one is = absurd (omega (arith, one))

-- the word of a word that stands for none, and those before it
pub lacking : (words : List (Bor (List ℕ))) (i : ℕ) (d : Bor (List ℕ)) → i < length words
    → names_of words ≡ names_of (take i words) ++ (slice_index_or words i d).now ∷ names_of (drop (i + 1) words)
lacking words i d within =
    ap (λ (l : List (Bor (List ℕ))). names_of l) (sym (take-append-drop (i + 1) words))
    ∙ map-append (λ (x : Bor (List ℕ)). x.now) (take (i + 1) words) (drop (i + 1) words)
    ∙ ap (λ (l : List (List ℕ)). l ++ names_of (drop (i + 1) words)) (next_word words i d within)
    ∙ append_assoc (names_of (take i words)) ((slice_index_or words i d).now ∷ []) (names_of (drop (i + 1) words))

-- ---- what is written of cases

-- where the word is a glob, a line of each
pub lines_text : (with_titles : Bool) (word : List ℕ) (cases : List Case) → with_titles ≡ false → is_glob word ≡ true
    → flat_map case_line cases ≡ cases_text with_titles word cases
lines_text with_titles word cases untitled glob =
    let texts = flat_map written_script cases in
    sym (ap (λ (b : Bool). cond b (flat_map titled_line cases) (cond (is_glob word) (flat_map case_line cases) texts)) untitled
    ∙ ap (λ (b : Bool). cond b (flat_map case_line cases) texts) glob)

-- else the one as text
pub script_text : (with_titles : Bool) (word : List ℕ) (cases : List Case) (case : Case) → with_titles ≡ false
    → is_glob word ≡ false → cases ≡ case ∷ [] → written_script case ≡ cases_text with_titles word cases
script_text with_titles word cases case untitled plain one =
    let texts = flat_map written_script cases in
    sym (ap (λ (b : Bool). cond b (flat_map titled_line cases) (cond (is_glob word) (flat_map case_line cases) texts)) untitled
    ∙ ap (λ (b : Bool). cond b (flat_map case_line cases) texts) plain
    ∙ ap (λ (l : List Case). flat_map written_script l) one ∙ append-nil (written_script case))

-- the line of the next case
pub next_line : (cases : List Case) (i : ℕ) (d : Case) (lines more : List ℕ) → i < length cases → lines ≡ flat_map case_line (take i cases)
    → more ≡ lines ++ case_line (slice_index_or cases i d) → more ≡ flat_map case_line (take (i + 1) cases)
next_line cases i d lines more within before grown =
    grown ∙ ap (λ (l : List ℕ). l ++ case_line (slice_index_or cases i d)) before
    ∙ sym (ap (λ (l : List Case). flat_map case_line l) (take_more cases i d within)
    ∙ flat_map-append case_line (take i cases) (slice_index_or cases i d ∷ [])
    ∙ ap (λ (l : List ℕ). flat_map case_line (take i cases) ++ l) (append-nil (case_line (slice_index_or cases i d))))

-- a case has as many turns as there are lists of pieces
pub turns_counted : (case : Case) (key : Option (List ℕ)) (turns : List (List (List ℕ))) → AreTurns case key turns → length turns ≡ length (turns_of case.steps)
turns_counted case key turns are = AllZip-long (ArePieces case.chop key) (turns_of case.steps) turns are
