-- What turns add to bytes and events, where events end, and whether bytes stand after the last of them.
use Rattle.std.proofs.Common.{◌≡◌, ◌∙◌, ℕ, zero, suc, ◌+◌, ◌-◌, ◌<◌, ◌≤◌, ◌↔◌, Bool, true, false, List, [], ◌∷◌, ◌++◌, length, map, take, drop, flat_map, Option, Some, ap, ap₂, sym, refl, subst, arith, append_assoc, append-nil, inl, inr}
use Rattle.std.proofs.lemmas.Bool.{cases_lt}
use Rattle.std.proofs.lemmas.List.{append_cancel_left, length-append, length-take-le, take-append-drop, take-append-le}
use Rattle.std.specs.List.{concat, last_or}
use Rattle.ws_wire.specs.declared.role.Role.{Role}
use Rattle.ws_wire.specs.Header.{AreBytes}
use Rattle.ws_session.specs.declared.event.Event.{Event}
use Rattle.ws_session.specs.declared.event.Event.TheVariants as event
use Rattle.ws_session.specs.Events.{HasEvents}
use Rattle.ws_session.specs.Sends.{most_limits}
use Rattle.ws_suite.specs.declared.evidence.InTurn.{InTurn}
use Rattle.ws_suite.specs.declared.evidence.Ending.{Ending}
use Rattle.ws_suite.specs.Evidence.{HasRest}
use Rattle.ws_suite.specs.InnerEchoReplyLaws.{EchoReplyLaws}
use Rattle.ws_suite.proofs.AnsweredEvents.{OnlyLastEnds, is_end}
use Rattle.ws_suite.proofs.AnsweredTurns.{answer_in_turn}
use Rattle.ws_suite.proofs.FairVerdict.{answered_end}

-- ---- lists in parts

-- lists of lists with the same fronts are the same
pub same_parts : (xs ys : List (List ℕ)) → length xs ≡ length ys → ((n : ℕ) → n ≤ length xs → concat (take n xs) ≡ concat (take n ys)) → xs ≡ ys
same_parts [] [] len same = refl
same_parts [] (y ∷ ys) len same = absurd (omega (arith, len))
same_parts (x ∷ xs) [] len same = absurd (omega (arith, len))
same_parts (x ∷ xs) (y ∷ ys) len same =
    let head : x ≡ y = sym (append-nil x) ∙ (same (suc zero) (omega arith) ∙ append-nil y) in
    let tail = same_parts xs ys (omega (arith, len)) (λ n less. append_cancel_left x (concat (take n xs)) (concat (take n ys))
    (same (suc n) (omega (arith, less)) ∙ ap (λ (l : List ℕ). l ++ concat (take n ys)) (sym head))) in
    ap₂ (λ (z : List ℕ) (zs : List (List ℕ)). z ∷ zs) head tail

pub one_turn_more : (n : ℕ) (turns : List (List ℕ)) → (more : List ℕ) × (concat (take (suc n) turns) ≡ concat (take n turns) ++ more)
one_turn_more zero [] = ([], refl)
one_turn_more zero (x ∷ turns) = (x, append-nil x)
one_turn_more (suc n) [] = ([], refl)
one_turn_more (suc n) (x ∷ turns) =
    let rest = one_turn_more n turns in
    (rest.0, ap (λ (l : List ℕ). x ++ l) rest.1 ∙ sym (append_assoc x (concat (take n turns)) rest.0))

abbrev pub Grows : {X : Type 0} → (ℕ → List X) → ℕ → Type 0
Grows f n = f (n + 1) ≡ f n ++ drop (length (f n)) (f (n + 1))

-- what each turn adds, from this one on
abbrev pub added_from : {X : Type 0} → (ℕ → List X) → ℕ → List (List ℕ) → List (List X)
added_from f n [] = []
added_from f n (turn ∷ turns) = drop (length (f n)) (f (n + 1)) ∷ added_from f (n + 1) turns

pub length-added : {X : Type 0} (f : ℕ → List X) (n : ℕ) (turns : List (List ℕ)) → length (added_from f n turns) ≡ length turns
length-added f n [] = refl
length-added f n (turn ∷ turns) = ap suc (length-added f (n + 1) turns)

pub added_so_far : {X : Type 0} (f : ℕ → List X) (n : ℕ) (turns : List (List ℕ)) (m : ℕ) → ((i : ℕ) → i < length turns → Grows f (n + i)) → m ≤ length turns
    → f n ++ flat_map (λ (l : List X). l) (take m (added_from f n turns)) ≡ f (n + m)
added_so_far f n turns zero grow less = append-nil (f n) ∙ ap (λ k. f k) (let e : n ≡ n + 0 = omega arith in e)
added_so_far f n [] (suc m) grow less = absurd (omega (arith, less))
added_so_far {X} f n (turn ∷ turns) (suc m) grow less =
    let new = drop (length (f n)) (f (n + 1)) in
    let rest = flat_map (λ (l : List X). l) (take m (added_from f (n + 1) turns)) in
    let here : Grows f n = subst (λ k. Grows f k) (let e : n + 0 ≡ n = omega arith in e) (grow 0 (omega arith)) in
    let later = added_so_far f (n + 1) turns m (λ i short. subst (λ k. Grows f k) (let e : n + suc i ≡ (n + 1) + i = omega arith in e) (grow (suc i) (omega (arith, short)))) (omega (arith, less)) in
    sym (append_assoc (f n) new rest) ∙ (ap (λ (l : List X). l ++ rest) (sym here) ∙ (later ∙ ap (λ k. f k) (let e : (n + 1) + m ≡ n + suc m = omega arith in e)))

-- the things of this turn, counted from 0
abbrev pub turn_at : {X : Type 0} → List (List X) → ℕ → List X
turn_at [] n = []
turn_at (first ∷ turns) zero = first
turn_at (first ∷ turns) (suc n) = turn_at turns n

-- one turn more adds them
pub one_more_turn : {X : Type 0} (turns : List (List X)) (n : ℕ) → flat_map (λ (l : List X). l) (take (suc n) turns) ≡ flat_map (λ (l : List X). l) (take n turns) ++ turn_at turns n
one_more_turn [] zero = refl
one_more_turn [] (suc n) = refl
one_more_turn (first ∷ turns) zero = append-nil first
one_more_turn {X} (first ∷ turns) (suc n) =
    ap (λ (l : List X). first ++ l) (one_more_turn turns n) ∙ sym (append_assoc first (flat_map (λ (l : List X). l) (take n turns)) (turn_at turns n))

-- so what lists of all so far grow by in a turn stands in it
pub grows_by_turn : {X : Type 0} (turns : List (List X)) (f : ℕ → List X) (n : ℕ) (more : List X) → flat_map (λ (l : List X). l) (take n turns) ≡ f n
    → flat_map (λ (l : List X). l) (take (n + 1) turns) ≡ f (n + 1) → f (n + 1) ≡ f n ++ more → turn_at turns n ≡ more
grows_by_turn {X} turns f n more now then grown =
    let next : suc n ≡ n + 1 = omega arith in
    append_cancel_left (f n) (turn_at turns n) more
    (ap (λ (l : List X). l ++ turn_at turns n) (sym now) ∙ (sym (one_more_turn turns n) ∙ (ap (λ k. flat_map (λ (l : List X). l) (take k turns)) next ∙ (then ∙ grown))))

pub last_of_map : (o : Option (InTurn Ending)) (xs : List (InTurn Ending)) → last_or (answered_end o) (map answer_in_turn xs) ≡ answered_end (last_or o xs)
last_of_map o [] = refl
last_of_map o (x ∷ xs) = last_of_map (Some x) xs

front_bytes : (a b : List ℕ) → AreBytes (a ++ b) → AreBytes a
front_bytes [] b are i = omega arith
front_bytes (x ∷ a) b are zero = are 0
front_bytes (x ∷ a) b are (suc i) = front_bytes a b (λ j. are (suc j)) i

none_left : {X : Type 0} (xs : List X) → length xs ≤ 0 → xs ≡ []
none_left [] less = refl
none_left (x ∷ xs) less = absurd (omega arith)

module _ (laws : EchoReplyLaws) (role : Role) where
  -- ---- what was sent to the tested end

  pub only_by : (bytes : List ℕ) (front es : List Event) → HasEvents role most_limits bytes (front ++ es) → OnlyLastEnds es
  only_by bytes front [] has = tt
  only_by bytes front (e ∷ es) has = (ends e has, only_by bytes (front ++ e ∷ []) es (subst (λ (l : List Event). HasEvents role most_limits bytes l) (sym (append_assoc front (e ∷ []) es)) has))
    where
      ends : (d : Event) → HasEvents role most_limits bytes (front ++ d ∷ es) → is_end d ≡ true → es ≡ []
      ends event.Part h is = absurd cc
      ends (event.Message message) h is = absurd cc
      ends (event.Ping payload) h is = absurd cc
      ends (event.Pong payload) h is = absurd cc
      ends (event.Close close) h is = laws.close_last role bytes front es close h
      ends (event.Failed reason) h is = laws.fault_last role bytes front es reason h

  -- whether bytes stand after the last event can be told
  pub rest_told : (bytes : List ℕ) (events : List Event) → AreBytes bytes → HasEvents role most_limits bytes events → (b : Bool) × ((b ≡ true) ↔ HasRest role bytes events)
  rest_told bytes events are has = elim (cases_lt 0 (length bytes)) [
    | inr none ↦ (false, ((λ e. absurd cc), (λ r. absurd (omega (arith, r.fewer, none)))))
    | inl some ↦
        let n = length bytes - 1 in
        let parts = take-append-drop n bytes in
        let front = take n bytes in
        let (es, told) = laws.some role most_limits front (front_bytes front (drop n bytes) (subst (λ (l : List ℕ). AreBytes l) (sym parts) are)) in
        let (later, e) = laws.session.go_on role most_limits front (drop n bytes) es events told (subst (λ (l : List ℕ). HasEvents role most_limits l events) (sym parts) has) in
        elim (cases_lt 0 (length later)) [
          | inr none ↦
              let same : es ≡ events = sym (e ∙ (ap (λ (l : List Event). es ++ l) (none_left later none) ∙ append-nil es)) in
              (true, ((λ t. record { n = n; fewer = omega (arith, some); same = subst (λ (l : List Event). HasEvents role most_limits front l) same told }), (λ r. refl)))
          | inl more ↦ (false, ((λ t. absurd cc), (λ r. absurd (fewer_events bytes events es later r n refl told e more))))
        ]
  ]
    where
      fewer_events : (all : List ℕ) (told es later : List Event) → HasRest role all told → (n : ℕ) → n ≡ length all - 1 → HasEvents role most_limits (take n all) es → told ≡ es ++ later → 0 < length later → ⊥
      fewer_events all told es later r n is has e more =
          let k = r.n in
          let size = length-take-le n all (omega (arith, is)) in
          let cut : take k (take n all) ≡ take k all = sym (take-append-le k (take n all) (drop n all) (omega (arith, r.fewer, is, size))) ∙ ap (λ (l : List ℕ). take k l) (take-append-drop n all) in
          let whole : take k all ++ drop k (take n all) ≡ take n all = ap (λ (l : List ℕ). l ++ drop k (take n all)) (sym cut) ∙ take-append-drop k (take n all) in
          let (others, f) = laws.session.go_on role most_limits (take k all) (drop k (take n all)) told es r.same (subst (λ (l : List ℕ). HasEvents role most_limits l es) (sym whole) has) in
          omega (arith, more, ap (λ (l : List Event). length l) e, ap (λ (l : List Event). length l) f, length-append es later, length-append told others)
