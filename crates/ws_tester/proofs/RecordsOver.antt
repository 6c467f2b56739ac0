-- Nothing is over in a run that rests, nor in one that the budget breaks off.
use Rattle.std.proofs.Common.{◌≡◌, ◌∙◌, ℕ, ◌⊎◌, ◌&&◌, ◌||◌, not, Bool, true, false, List, [], ◌∷◌, ◌++◌, map, refl, sym}
use Rattle.std.proofs.Common.{ap, subst, inl, inr, append-nil}
use Rattle.std.proofs.lemmas.List.{append_cancel_left, map-append}
use Rattle.std.specs.List.{concat}
use Rattle.ws_wire.specs.declared.role.Role.{Role}
use Rattle.ws_scripts.specs.declared.expectation.Expectation.{Expectation}
use Rattle.ws_scripts.specs.declared.transcript.Turn.{Turn}
use Rattle.ws_suite.specs.Evidence.{sent_turns}
use Rattle.ws_suite.specs.Growing.{EndInsideFrame}
use Rattle.ws_machines.specs.Told.{Told}
use Rattle.ws_tester.specs.Standings.{stops_run}
use Rattle.ws_tester.specs.Outcomes.{AreFacts, HasSentEnd, got_in_all, has_come, has_end, is_in_vain, is_turn_over}
use Rattle.ws_tester.specs.Outcomes.{is_waited_out, owes_messages, waits_for_end}
use Rattle.ws_tester.specs.Outgoings.{Pieces, first_piece}
use Rattle.ws_tester.specs.RunStates.{PlanValue, RunState, has_more, is_all_sent, is_nothing, some_turn, turns_of_run}
use Rattle.ws_tester.specs.Following.{ScriptValue}
use Rattle.ws_tester.specs.Records.{CannotComeAnyMore, IsClientAnswered, IsNextDue, IsOver, IsUnbroken}
use Rattle.ws_tester.specs.declared.outcome.TurnFacts.{TurnFacts}
use Rattle.ws_tester.specs.declared.standing.Standing.{Standing}
use Rattle.ws_tester.specs.declared.standing.Standing.TheVariants.{Going}
use Rattle.ws_tester.proofs.RecordsHolds.{Holds}
use Rattle.ws_tester.proofs.RecordsTests.{OneStanding, is_false, one_end, stands_once}

-- ---- tests

come_true : (ends failed out answered more inside : Bool) → ends ≡ false → failed ≡ false → out ≡ false
    → answered ≡ true → (more ≡ true) ⊎ (inside ≡ false)
    → (not ends && (not failed && (not out && (answered && (more || not inside))))) ≡ true
come_true true failed out answered more inside e f o a m = absurd cc
come_true false true out answered more inside e f o a m = absurd cc
come_true false false true answered more inside e f o a m = absurd cc
come_true false false false false more inside e f o a m = absurd cc
come_true false false false true true inside e f o a m = refl
come_true false false false true false false e f o a m = refl
come_true false false false true false true e f o a (inl m) = absurd cc
come_true false false false true false true e f o a (inr m) = absurd cc

vain_true : (owes more failed ends cannot inside : Bool) → owes ≡ true → more ≡ false → failed ≡ false → ends ≡ false
    → cannot ≡ true → inside ≡ false
    → (owes && (not more && (not failed && (not ends && (cannot && not inside))))) ≡ true
vain_true false more failed ends cannot inside o m f e c i = absurd cc
vain_true true true failed ends cannot inside o m f e c i = absurd cc
vain_true true false true ends cannot inside o m f e c i = absurd cc
vain_true true false false true cannot inside o m f e c i = absurd cc
vain_true true false false false false inside o m f e c i = absurd cc
vain_true true false false false true true o m f e c i = absurd cc
vain_true true false false false true false o m f e c i = refl

or_left : (a b : Bool) → a ≡ true → (a || b) ≡ true
or_left true b e = refl
or_left false b e = absurd cc

or_right : (a b : Bool) → b ≡ true → (a || b) ≡ true
or_right true b e = refl
or_right false true e = refl
or_right false false e = absurd cc

unwaited : (timeouts sent had : Bool) → (timeouts ≡ true → sent ≡ true → had ≡ true)
    → (timeouts && (sent && not had)) ≡ false
unwaited false sent had h = refl
unwaited true false had h = refl
unwaited true true true h = refl
unwaited true true false h = absurd (let wrong : false ≡ true = h refl refl in cc)

-- ---- the turns of a script

abbrev rest_of : List (List ℕ) → List (List ℕ)
rest_of [] = []
rest_of (first ∷ others) = others

abbrev first_of : List (List ℕ) → List ℕ
first_of [] = []
first_of (first ∷ others) = first

no_piece_left : (rest : Pieces) (dropped : List ℕ) → concat rest ++ dropped ≡ [] → is_nothing (first_piece rest) ≡ true
no_piece_left [] dropped e = refl
no_piece_left ([] ∷ pieces) dropped e = refl
no_piece_left ((byte ∷ bytes) ∷ pieces) dropped e = absurd cc

some_later : (later : List Pieces) (next : List ℕ) (others : List (List ℕ)) → map concat later ≡ next ∷ others
    → some_turn later ≡ true
some_later [] next others e = absurd cc
some_later (pieces ∷ turns) next others e = refl

none_later : (later : List Pieces) → map concat later ≡ [] → some_turn later ≡ false
none_later [] e = refl
none_later (pieces ∷ turns) e = absurd cc

-- ---- what isn't over

module _ (run : ScriptValue) (told : List Told) (x : RunState) (h : Holds run told x) where
  -- all of the turn is sent where it is one of the script
  pub sent_whole : (others : List (List ℕ)) → map concat run.script ≡ sent_turns x.past ++ x.turn.sent ∷ others
      → (is_all_sent x ≡ true) × (map concat x.outgoing.later ≡ others)
  sent_whole others e =
      let same : (x.turn.sent ++ (concat x.outgoing.rest ++ h.bytes.dropped)) ∷ map concat x.outgoing.later
      ≡ x.turn.sent ∷ others = append_cancel_left (sent_turns x.past)
      ((x.turn.sent ++ (concat x.outgoing.rest ++ h.bytes.dropped)) ∷ map concat x.outgoing.later)
      (x.turn.sent ∷ others) (sym h.bytes.split ∙ e) in
      let bare : x.turn.sent ++ (concat x.outgoing.rest ++ h.bytes.dropped) ≡ x.turn.sent ++ [] =
      ap (λ (l : List (List ℕ)). first_of l) same ∙ sym (append-nil x.turn.sent) in (
        no_piece_left x.outgoing.rest h.bytes.dropped (append_cancel_left x.turn.sent
            (concat x.outgoing.rest ++ h.bytes.dropped) [] bare),
        ap (λ (l : List (List ℕ)). rest_of l) same,
      )

module _ (one : OneStanding) (run : ScriptValue) (told : List Told) (x : RunState) (facts : TurnFacts)
    (h : Holds run told x) (are : AreFacts x.plan x.past (turns_of_run x) facts) where
  facts_are : AreFacts run.plan x.past (turns_of_run x) facts
  facts_are = subst (λ (plan : PlanValue). AreFacts plan x.past (turns_of_run x) facts) h.plan_is are

  all_whole : map concat run.script ≡ sent_turns (turns_of_run x)
      → (is_all_sent x ≡ true) × (has_more x ≡ false)
  all_whole e =
      let whole = sent_whole run told x h [] (e ∙ map-append (λ (t : Turn). t.sent) x.past (x.turn ∷ [])) in
      (whole.0, none_later x.outgoing.later whole.1)

  works : IsUnbroken run told (turns_of_run x) → x.write_failed ≡ false
  works u = is_false x.write_failed (λ e. u.works (h.has_failed e))

  going : IsUnbroken run told (turns_of_run x) → has_end facts.standing ≡ false
  going u = ap (λ (s : Standing). has_end s)
      (stands_once one run.plan.tested run.plan.expected facts.standing Going (got_in_all (turns_of_run x))
      facts_are.standing u.going)

  whole_frames : ¬ (EndInsideFrame run.plan.tested (turns_of_run x)) → facts.is_inside ≡ false
  whole_frames never = is_false facts.is_inside (λ e. never (facts_are.inside.0 e))

  next_over : IsUnbroken run told (turns_of_run x) → IsNextDue run x.past x.turn
      → (is_all_sent x ≡ true) × (is_turn_over x facts ≡ true)
  next_over u n =
      let whole = sent_whole run told x h (n.next ∷ n.later) n.sent in
      let more : has_more x ≡ true = some_later x.outgoing.later n.next n.later whole.1 in
      let out : is_waited_out x.plan (has_more x) facts ≡ false =
      ap (λ (plan : PlanValue). is_waited_out plan (has_more x) facts) h.plan_is
      ∙ (ap (λ (m : Bool). is_waited_out run.plan m facts) more
      ∙ unwaited run.plan.timeouts facts.has_sent_end facts.had_sent_end (λ t s.
      one_end one run.plan.tested x.past facts.had_sent_end true facts_are.sent_before (n.unended t
      (subst (λ (b : Bool). HasSentEnd run.plan.tested (turns_of_run x) b) s facts_are.sent_end)))) in (
        whole.0,
        or_left (has_come x facts) (is_in_vain x facts) (come_true (has_end facts.standing) x.write_failed
            (is_waited_out x.plan (has_more x) facts) facts.is_answered (has_more x) facts.is_inside (going u) (works u) out
            (facts_are.seen n.answered) (inl more)),
      )

  client_over : IsUnbroken run told (turns_of_run x) → IsClientAnswered run (turns_of_run x)
      → (is_all_sent x ≡ true) × (is_turn_over x facts ≡ true)
  client_over u c =
      let whole = all_whole c.sent in
      let out : is_waited_out x.plan (has_more x) facts ≡ false =
      ap (λ (plan : PlanValue). is_waited_out plan (has_more x) facts) h.plan_is
      ∙ (ap (λ (m : Bool). is_waited_out run.plan m facts) whole.1
      ∙ (ap (λ (role : Role). waits_for_end role facts.has_sent_end) c.client
      ∙ one_end one run.plan.tested (turns_of_run x) facts.has_sent_end false facts_are.sent_end c.unended)) in (
        whole.0,
        or_left (has_come x facts) (is_in_vain x facts) (come_true (has_end facts.standing) x.write_failed
            (is_waited_out x.plan (has_more x) facts) facts.is_answered (has_more x) facts.is_inside (going u) (works u) out
            (facts_are.seen c.answered) (inr (whole_frames c.whole))),
      )

  vain_over : IsUnbroken run told (turns_of_run x) → CannotComeAnyMore run (turns_of_run x)
      → (is_all_sent x ≡ true) × (is_turn_over x facts ≡ true)
  vain_over u c =
      let whole = all_whole c.sent in
      let owes : owes_messages x.plan.expected ≡ true =
      ap (λ (plan : PlanValue). owes_messages plan.expected) h.plan_is
      ∙ ap (λ (expected : Expectation). owes_messages expected) c.echo in (
        whole.0,
        or_right (has_come x facts) (is_in_vain x facts) (vain_true (owes_messages x.plan.expected) (has_more x)
            x.write_failed (has_end facts.standing) facts.cannot_come facts.is_inside owes whole.1 (works u) (going u)
            (facts_are.cannot.1 c.cannot) (whole_frames c.whole)),
      )

  sent_and_over : (is_all_sent x ≡ true) × (is_turn_over x facts ≡ true)
      → (is_all_sent x ≡ false) ⊎ (is_turn_over x facts ≡ false) → ⊥
  sent_and_over (sent, over) (inl e) = let wrong : true ≡ false = sym sent ∙ e in cc
  sent_and_over (sent, over) (inr e) = let wrong : true ≡ false = sym over ∙ e in cc

  -- where what was got doesn't stop the run, and not all of the turn is sent or the turn isn't over by the table
  pub not_over : stops_run x.plan.tested facts.standing ≡ false
      → (is_all_sent x ≡ false) ⊎ (is_turn_over x facts ≡ false) → ¬ (IsOver run told x.past x.turn)
  not_over goes waits (inl (t, is, stands)) =
      let stops : stops_run x.plan.tested facts.standing ≡ true =
      ap (λ (plan : PlanValue). stops_run plan.tested facts.standing) h.plan_is
      ∙ (ap (λ (s : Standing). stops_run run.plan.tested s)
      (stands_once one run.plan.tested run.plan.expected facts.standing t (got_in_all (turns_of_run x))
      facts_are.standing stands)
      ∙ is) in
      let wrong : true ≡ false = sym stops ∙ goes in cc
  not_over goes waits (inr (u, inl n)) = sent_and_over (next_over u n) waits
  not_over goes waits (inr (u, inr (inl c))) = sent_and_over (client_over u c) waits
  not_over goes waits (inr (u, inr (inr v))) = sent_and_over (vain_over u v) waits
