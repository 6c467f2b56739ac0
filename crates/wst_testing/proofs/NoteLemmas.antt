-- Texts that are told one after the other, and cases in a row without a connection.
use Rattle.std.proofs.Common.{append_assoc, ◌-◌, ◌==◌, ◌&&◌, ◌≡◌, ◌∙◌, ◌+◌, ◌<◌, ◌++◌, ℕ, Bool, true, if◌then◌else◌, List, [], ◌∷◌, Option, Some, None}
use Rattle.std.proofs.Common.{ap, append-nil, arith, below_more, inl, inr, length, refl, subst, sym, take}
use Rattle.std.proofs.KnownBytes.{Keeps-refl, Keeps-trans}
use Rattle.std.proofs.Math.Bool.{and-true}
use Rattle.std.proofs.lemmas.Bool.{eq-eqb, eqb-true}
use Rattle.std.proofs.lemmas.List.Folds.{list_all-append}
use Rattle.std.specs.Cmp.{both_ways}
use Rattle.std.proofs.lemmas.List.{length-append, reverse-append, take-append-le, take_at}
use Rattle.std.specs.Io.KnownBytes.{Appends, Keeps}
use Rattle.std.specs.List.{list_all, prefix_len}
use Rattle.ws_scripts.specs.declared.script.Case.{Case}
use Rattle.wst_commands.specs.Devices.{Tells}
use Rattle.wst_testing.specs.Hints.{IsHintState, common_notes, hint_notes, hint_with, is_messages_fail}
use Rattle.wst_testing.specs.Hints.{is_status_fail, notes_with}
use Rattle.wst_testing.specs.Notes.{TellsEach, miss_notes, notes_behind, notes_of, progress_notes}
use Rattle.wst_testing.specs.Outcomes.{MayRunEach, is_missed, missed_at_end}
use Rattle.wst_testing.specs.Testing.{outcomes_in}
use Rattle.wst_testing.specs.declared.hinting.HintState.{HintState}
use Rattle.wst_testing.specs.declared.outcome.Outcome.{Outcome}

-- ---- what outcomes have in common

all_more : (p : Outcome → Bool) (outcomes : List Outcome) (outcome : Outcome) (b : Bool) → b ≡ list_all p outcomes
    → (b && p outcome) ≡ list_all p (outcomes ++ outcome ∷ [])
all_more p outcomes outcome b is =
    ap (λ (c : Bool). c && p outcome) is ∙ ap (λ (c : Bool). list_all p outcomes && c) (sym (and-true (p outcome)))
    ∙ sym (list_all-append p outcomes (outcome ∷ []))

due_more : (place count left next : ℕ) → left ≡ place - count → next ≡ count + 1 → (left == 1) ≡ (next == place)
due_more place count left next is more = both_ways (left == 1) (next == place)
    (λ one. eq-eqb next place (omega (arith, is, more, eqb-true left 1 one)))
    (λ same. eq-eqb left 1 (omega (arith, is, more, eqb-true next place same)))

-- ---- texts

-- a device that has failed since has failed
tells_on : (text : List ℕ) (f g : Bool) (old new : Option (List ℕ)) → (f ≡ true → g ≡ true)
    → Tells text (record { failed = f; old = old; new = new }) → Tells text
    (record { failed = g; old = old; new = new })
tells_on text f g old new still (inl written) = inl written
tells_on text f g old new still (inr (failed, begun)) = inr (still failed, begun)

pub each_on : (texts : List (List ℕ)) (f g : Bool) (old new : Option (List ℕ)) → (f ≡ true → g ≡ true)
    → TellsEach texts (record { failed = f; old = old; new = new })
    → TellsEach texts (record { failed = g; old = old; new = new })
each_on [] f g old new still untouched = untouched
each_on (text ∷ texts) f g old new still (held, first, rest) =
    (held, tells_on text f g old held still first, each_on texts f g held new still rest)

-- bytes behind what was kept
keeps_then : (a b c : Option (List ℕ)) (bytes : List ℕ) → Keeps a b → Appends b c bytes → Appends a c bytes
keeps_then None b c bytes kept written = tt
keeps_then (Some xs) None c bytes kept written = absurd kept
keeps_then (Some xs) (Some ys) None bytes kept written = absurd written
keeps_then (Some xs) (Some ys) (Some zs) bytes kept written = written ∙ ap (λ (l : List ℕ). l ++ bytes) kept

tells_kept : (text : List ℕ) (f : Bool) (a b c : Option (List ℕ)) → Keeps a b
    → Tells text (record { failed = f; old = b; new = c }) → Tells text (record { failed = f; old = a; new = c })
tells_kept text f a b c kept (inl written) = inl (keeps_then a b c text kept written)
tells_kept text f a b c kept (inr (failed, (front, more, parts, begun))) =
    inr (failed, (front, more, parts, keeps_then a b c front kept begun))

each_kept : (texts : List (List ℕ)) (f : Bool) (a b c : Option (List ℕ)) → Keeps a b
    → TellsEach texts (record { failed = f; old = b; new = c }) → TellsEach texts
    (record { failed = f; old = a; new = c })
each_kept [] f a b c kept untouched = Keeps-trans a b c kept untouched
each_kept (text ∷ texts) f a b c kept (held, first, rest) = (held, tells_kept text f a b held kept first, rest)

-- other texts behind them
pub each_then : (first second : List (List ℕ)) (f : Bool) (a b c : Option (List ℕ))
    → TellsEach first (record { failed = f; old = a; new = b }) → TellsEach second
    (record { failed = f; old = b; new = c })
    → TellsEach (first ++ second) (record { failed = f; old = a; new = c })
each_then [] second f a b c kept told = each_kept second f a b c kept told
each_then (text ∷ texts) second f a b c (held, first, rest) told =
    (held, first, each_then texts second f held b c rest told)

notes_end : (name miss hint : List (List ℕ)) → name ++ (miss ++ hint) ≡ name ++ (miss ++ (hint ++ []))
notes_end name miss hint = ap (λ (l : List (List ℕ)). name ++ (miss ++ l)) (sym (append-nil hint))

-- the notes of one case more, behind others
notes_behind_more : (progress : Bool) (hints : List Outcome → List (List ℕ)) (before : List Outcome)
    (tests : List (Case × Outcome)) (case : Case) (outcome : Outcome) → notes_behind progress hints before tests ++ (progress_notes progress case
    ++ (miss_notes outcome ++ hints (before ++ (outcomes_in tests ++ outcome ∷ []))))
    ≡ notes_behind progress hints before (tests ++ (case, outcome) ∷ [])
notes_behind_more progress hints before [] case outcome = notes_end (progress_notes progress case)
    (miss_notes outcome) (hints (before ++ outcome ∷ []))
notes_behind_more progress hints before (test ∷ tests) case outcome =
    let one = progress_notes progress test.0 in
    let miss = miss_notes test.1 in
    let hint = hints (before ++ test.1 ∷ []) in
    let rest = notes_behind progress hints (before ++ test.1 ∷ []) tests in
    let more = λ (l : List Outcome). progress_notes progress case ++ (miss_notes outcome ++ hints l) in
    let all : before ++ (test.1 ∷ (outcomes_in tests ++ outcome ∷ []))
    ≡ (before ++ test.1 ∷ []) ++ (outcomes_in tests ++ outcome ∷ []) =
    sym (append_assoc before (test.1 ∷ []) (outcomes_in tests ++ outcome ∷ [])) in
    ap (λ (l : List Outcome). (one ++ (miss ++ (hint ++ rest))) ++ more l) all
    ∙ append_assoc one (miss ++ (hint ++ rest)) (more ((before ++ test.1 ∷ []) ++ (outcomes_in tests ++ outcome ∷ [])))
    ∙ ap (λ (l : List (List ℕ)). one ++ l)
    (append_assoc miss (hint ++ rest) (more ((before ++ test.1 ∷ []) ++ (outcomes_in tests ++ outcome ∷ [])))
    ∙ ap (λ (l : List (List ℕ)). miss ++ l)
    (append_assoc hint rest (more ((before ++ test.1 ∷ []) ++ (outcomes_in tests ++ outcome ∷ [])))
    ∙ ap (λ (l : List (List ℕ)). hint ++ l)
    (notes_behind_more progress hints (before ++ test.1 ∷ []) tests case outcome)))

-- the notes of one case more
pub notes_more : (progress : Bool) (place : ℕ) (tests : List (Case × Outcome)) (case : Case) (outcome : Outcome)
    → notes_of progress place tests ++ (progress_notes progress case
    ++ (miss_notes outcome ++ hint_notes place (outcomes_in tests ++ outcome ∷ [])))
    ≡ notes_of progress place (tests ++ (case, outcome) ∷ [])
notes_more progress place tests case outcome = notes_behind_more progress (hint_notes place) [] tests case outcome

-- what is told behind one outcome more is told by what was kept of those before it
pub hint_told : (place : ℕ) (outcomes : List Outcome) (state : HintState) (outcome : Outcome)
    → IsHintState place outcomes state → notes_with state outcome ≡ hint_notes place (outcomes ++ outcome ∷ [])
hint_told place outcomes state outcome kept =
    let messages : (state.messages && is_messages_fail outcome) ≡ list_all is_messages_fail (outcomes ++ outcome ∷ []) =
    all_more is_messages_fail outcomes outcome state.messages kept.messages in
    let status : (state.status && is_status_fail outcome) ≡ list_all is_status_fail (outcomes ++ outcome ∷ []) =
    all_more is_status_fail outcomes outcome state.status kept.status in
    let due : (state.left == 1) ≡ (length (outcomes ++ outcome ∷ []) == place) =
    due_more place (length outcomes) state.left (length (outcomes ++ outcome ∷ [])) kept.left
    (length-append outcomes (outcome ∷ [])) in
    ap (λ (b : Bool). if b then common_notes (state.messages && is_messages_fail outcome)
    (state.status && is_status_fail outcome) else []) due
    ∙ ap (λ (b : Bool). if length (outcomes ++ outcome ∷ []) == place then common_notes b
    (state.status && is_status_fail outcome) else []) messages
    ∙ ap (λ (b : Bool). if length (outcomes ++ outcome ∷ []) == place
    then common_notes (list_all is_messages_fail (outcomes ++ outcome ∷ [])) b else []) status

-- and what is kept of them is kept with it
pub hint_kept : (place : ℕ) (outcomes : List Outcome) (state : HintState) (outcome : Outcome)
    → IsHintState place outcomes state → IsHintState place (outcomes ++ outcome ∷ []) (hint_with state outcome)
hint_kept place outcomes state outcome kept = record {
  left = omega (arith, kept.left, length-append outcomes (outcome ∷ []));
  messages = all_more is_messages_fail outcomes outcome state.messages kept.messages;
  status = all_more is_status_fail outcomes outcome state.status kept.status;
}

-- the name of the next case behind the notes so far
pub noted_next : (notes next : List (List ℕ)) (f g : Bool) (a b c : Option (List ℕ)) → (f ≡ true → g ≡ true)
    → TellsEach notes (record { failed = f; old = a; new = b }) → TellsEach next
    (record { failed = g; old = b; new = c })
    → TellsEach (notes ++ next) (record { failed = g; old = a; new = c })
noted_next notes next f g a b c still before told = each_then notes next g a b c (each_on notes f g a b still before)
    told

-- three texts, one after the other
pub three_told : (x y z : List ℕ) (f g h : Bool) (a b c d : Option (List ℕ)) → (f ≡ true → g ≡ true)
    → (g ≡ true → h ≡ true) → Tells x (record { failed = f; old = a; new = b })
    → Tells y (record { failed = g; old = b; new = c }) → Tells z (record { failed = h; old = c; new = d })
    → TellsEach (x ∷ y ∷ z ∷ []) (record { failed = h; old = a; new = d })
three_told x y z f g h a b c d still stays first second third = (
  b,
  tells_on x f h a b (λ failed. stays (still failed)) first,
  (c, tells_on y g h b c stays second, (d, third, Keeps-refl d)),
)

-- ---- cases in a row without a connection

pub missed_more : (outcomes : List Outcome) (outcome : Outcome)
    → missed_at_end (outcomes ++ outcome ∷ []) ≡ (if is_missed outcome then 1 + missed_at_end outcomes else 0)
missed_more outcomes outcome =
    ap (λ (l : List Outcome). prefix_len is_missed l) (reverse-append outcomes (outcome ∷ []))

pub may_run_more : (most : ℕ) (outcomes : List Outcome) (outcome : Outcome) → MayRunEach most outcomes
    → missed_at_end outcomes < most → MayRunEach most (outcomes ++ outcome ∷ [])
may_run_more most outcomes outcome may few = λ k below.
    let long = length-append outcomes (outcome ∷ []) in
    let each : (j : ℕ) → j < length outcomes + 1 → missed_at_end (take j (outcomes ++ outcome ∷ [])) < most =
    below_more (λ (j : ℕ). missed_at_end (take j (outcomes ++ outcome ∷ [])) < most) (length outcomes)
    (λ j within. subst (λ (l : List Outcome). missed_at_end l < most)
    (sym (take-append-le j outcomes (outcome ∷ []) (omega (arith, within)))) (may j within))
    (subst (λ (l : List Outcome). missed_at_end l < most)
    (sym (take_at outcomes (outcome ∷ []) (length outcomes) refl)) few) in
    each k (omega (arith, below, long))
