-- Where the table says that the tester ends a run, that is so.
use Rattle.std.proofs.Common.{◌≡◌, ◌∙◌, ℕ, ◌⊎◌, ◌&&◌, ◌||◌, not, Bool, true, false, List, [], ◌∷◌, ◌++◌, map, refl, sym}
use Rattle.std.proofs.Common.{ap, subst, inl, inr, append_assoc, append-nil}
use Rattle.std.proofs.lemmas.List.{map-append}
use Rattle.std.specs.List.{concat}
use Rattle.ws_wire.specs.declared.role.Role.{Role}
use Rattle.ws_wire.specs.declared.role.Role.TheVariants.{Client, Server}
use Rattle.ws_scripts.specs.declared.expectation.Expectation.{Expectation}
use Rattle.ws_scripts.specs.declared.expectation.Expectation.TheVariants.{Echo, Protocol}
use Rattle.ws_scripts.specs.declared.transcript.Turn.{Turn}
use Rattle.ws_suite.specs.Evidence.{sent_turns}
use Rattle.ws_suite.specs.Growing.{EndInsideFrame, CannotComeAfter}
use Rattle.ws_suite.specs.Waiting.{AreTurnsAnsweredBy}
use Rattle.ws_machines.specs.Told.{Told}
use Rattle.ws_tester.specs.Standings.{HasStandingBy, StandsAs, stops_run}
use Rattle.ws_tester.specs.Outcomes.{AreFacts, got_in_all, has_come, has_end, is_in_vain, is_turn_over, is_waited_out}
use Rattle.ws_tester.specs.Outcomes.{HasSentEnd, owes_messages, waits_for_end}
use Rattle.ws_tester.specs.Outgoings.{Pieces}
use Rattle.ws_tester.specs.RunStates.{PlanValue, RunState, has_more, is_all_sent, some_turn, turns_of_run}
use Rattle.ws_tester.specs.Following.{ScriptValue}
use Rattle.ws_tester.specs.Records.{AreSentWhole, HasAllOwed, CannotComeAnyMore, IsEndedByTester}
use Rattle.ws_tester.specs.declared.outcome.TurnFacts.{TurnFacts}
use Rattle.ws_tester.specs.declared.standing.Standing.{Standing}
use Rattle.ws_tester.specs.declared.standing.Standing.TheVariants.{Going, Closed, Faulty}
use Rattle.ws_tester.proofs.RecordsHolds.{Holds}
use Rattle.ws_tester.proofs.RecordsPieces.{no_piece}
use Rattle.ws_tester.proofs.RecordsTests.{OneStanding, closing_ends, come_unwaited, is_false, open_where_come}

-- ---- what the tests say

-- one of two
either_so : (a b : Bool) → (a || b) ≡ true → (a ≡ true) ⊎ (b ≡ true)
either_so true b e = inl refl
either_so false true e = inr refl
either_so false false e = absurd cc

no_turn : (later : List Pieces) → some_turn later ≡ false → later ≡ []
no_turn [] e = refl
no_turn (pieces ∷ turns) e = absurd cc

-- in the last turn no frame is under way
come_whole : (ends failed out answered more inside : Bool) → more ≡ false
    → (not ends && (not failed && (not out && (answered && (more || not inside))))) ≡ true → inside ≡ false
come_whole true failed out answered more inside last e = absurd cc
come_whole false true out answered more inside last e = absurd cc
come_whole false false true answered more inside last e = absurd cc
come_whole false false false false more inside last e = absurd cc
come_whole false false false true true inside last e = absurd cc
come_whole false false false true false true last e = absurd cc
come_whole false false false true false false last e = refl

vain_parts : (owes more failed : Bool) (standing : Standing) (cannot inside : Bool)
    → (owes && (not more && (not failed && (not (has_end standing) && (cannot && not inside))))) ≡ true
    → (owes ≡ true) × (failed ≡ false) × (standing ≡ Going) × (cannot ≡ true) × (inside ≡ false)
vain_parts false more failed standing cannot inside e = absurd cc
vain_parts true true failed standing cannot inside e = absurd cc
vain_parts true false true standing cannot inside e = absurd cc
vain_parts true false false Closed cannot inside e = absurd cc
vain_parts true false false Faulty cannot inside e = absurd cc
vain_parts true false false Going false inside e = absurd cc
vain_parts true false false Going true true e = absurd cc
vain_parts true false false Going true false e = (refl, refl, refl, refl, refl)

is_echo : (expected : Expectation) → owes_messages expected ≡ true → expected ≡ Echo
is_echo Echo e = refl
is_echo Protocol e = absurd cc

-- only a client isn't waited out, where neither a close nor a fault was sent
client_by : (tested : Role) (sent : Bool) → waits_for_end tested sent ≡ false → (tested ≡ Client) × (sent ≡ false)
client_by Client sent e = (refl, e)
client_by Server sent e = absurd cc

-- what isn't so, where the answer is no
not_inside : (inside : Bool) (X : Type 0) → (X → inside ≡ true) → inside ≡ false → ¬ X
not_inside inside X seen never x = let always : inside ≡ true = seen x in cc

-- ---- the end

module _ (run : ScriptValue) (told : List Told) (x : RunState) (h : Holds run told x) where
  -- the turns so far are sent whole where all of the last one is, no write has failed and no close was got
  sent_whole : is_all_sent x ≡ true → x.closing ≡ false → x.write_failed ≡ false
      → map concat run.script ≡ sent_turns (turns_of_run x) ++ map concat x.outgoing.later
  sent_whole sent unclosed works = h.bytes.split
      ∙ (ap (λ (l : List ℕ). sent_turns x.past ++ l ∷ map concat x.outgoing.later) bare
      ∙ (sym (append_assoc (sent_turns x.past) (x.turn.sent ∷ []) (map concat x.outgoing.later))
      ∙ ap (λ (l : List (List ℕ)). l ++ map concat x.outgoing.later)
      (sym (map-append (λ (t : Turn). t.sent) x.past (x.turn ∷ [])))))
    where
      bare : x.turn.sent ++ (concat x.outgoing.rest ++ h.bytes.dropped) ≡ x.turn.sent
      bare = ap (λ (l : List ℕ). x.turn.sent ++ (l ++ h.bytes.dropped)) (no_piece x.outgoing.rest h.pieces.0 sent)
          ∙ (ap (λ (l : List ℕ). x.turn.sent ++ l) (h.bytes.whole unclosed works) ∙ append-nil x.turn.sent)

  -- and then all turns are, where that is the last one
  pub all_sent : is_all_sent x ≡ true → has_more x ≡ false → x.closing ≡ false → x.write_failed ≡ false
      → map concat run.script ≡ sent_turns (turns_of_run x)
  all_sent sent last unclosed works = sent_whole sent unclosed works
      ∙ (ap (λ (l : List Pieces). sent_turns (turns_of_run x) ++ map concat l) (no_turn x.outgoing.later last)
      ∙ append-nil (sent_turns (turns_of_run x)))

  pub are_sent_whole : is_all_sent x ≡ true → AreSentWhole run told (turns_of_run x)
  are_sent_whole sent = pick x.closing x.write_failed refl refl
    where
      pick : (closing failed : Bool) → x.closing ≡ closing → x.write_failed ≡ failed
          → AreSentWhole run told (turns_of_run x)
      pick true failed c f = inr (inr (h.closed c))
      pick false true c f = inr (inl (h.has_failed f))
      pick false false c f = inl (map concat x.outgoing.later, sent_whole sent c f)

module _ (one : OneStanding) (run : ScriptValue) (told : List Told) (x : RunState) (facts : TurnFacts)
    (h : Holds run told x) (are : AreFacts x.plan x.past (turns_of_run x) facts) where
  whole : facts.is_inside ≡ false → ¬ (EndInsideFrame run.plan.tested (turns_of_run x))
  whole never = subst (λ (plan : PlanValue). ¬ (EndInsideFrame plan.tested (turns_of_run x))) h.plan_is
      (not_inside facts.is_inside (EndInsideFrame x.plan.tested (turns_of_run x)) are.inside.1 never)

  owed : is_all_sent x ≡ true → has_more x ≡ false → has_come x facts ≡ true → HasAllOwed run (turns_of_run x)
  owed sent last come =
      let open_now = open_where_come one run told x facts h are come in
      let out : waits_for_end run.plan.tested facts.has_sent_end ≡ false =
      ap (λ (m : Bool). is_waited_out run.plan m facts) (sym last)
      ∙ (ap (λ (plan : PlanValue). is_waited_out plan (has_more x) facts) (sym h.plan_is)
      ∙ come_unwaited (has_end facts.standing) x.write_failed (is_waited_out x.plan (has_more x) facts)
      facts.is_answered (has_more x || not facts.is_inside) come) in
      let client : (run.plan.tested ≡ Client) × (facts.has_sent_end ≡ false) =
      client_by run.plan.tested facts.has_sent_end out in
      record {
        client = client.0;
        unended = subst (λ (b : Bool). HasSentEnd run.plan.tested (turns_of_run x) b) client.1
            (subst (λ (plan : PlanValue). HasSentEnd plan.tested (turns_of_run x) facts.has_sent_end) h.plan_is
            are.sent_end);
        sent = all_sent run told x h sent last open_now.0 open_now.1;
        answered = subst (λ (plan : PlanValue). AreTurnsAnsweredBy plan.expected plan.tested (turns_of_run x)) h.plan_is
            (are.come open_now.2);
        whole = whole (come_whole (has_end facts.standing) x.write_failed (is_waited_out x.plan (has_more x) facts)
            facts.is_answered (has_more x) facts.is_inside last come);
      }

  vain : is_all_sent x ≡ true → has_more x ≡ false → is_in_vain x facts ≡ true → CannotComeAnyMore run (turns_of_run x)
  vain sent last e =
      let parts = vain_parts (owes_messages x.plan.expected) (has_more x) x.write_failed facts.standing
      facts.cannot_come facts.is_inside e in
      let unclosed : x.closing ≡ false = is_false x.closing (λ c.
      (let ends : has_end facts.standing ≡ true = closing_ends one run told x facts h are c in
      let none : has_end facts.standing ≡ false = ap (λ (s : Standing). has_end s) parts.2 in cc)) in
      record {
        sent = all_sent run told x h sent last unclosed parts.1;
        echo = subst (λ (plan : PlanValue). plan.expected ≡ Echo) h.plan_is (is_echo x.plan.expected parts.0);
        going = subst (λ (plan : PlanValue). StandsAs plan.tested plan.expected Going (got_in_all (turns_of_run x)))
            h.plan_is (subst (λ (s : Standing). StandsAs x.plan.tested x.plan.expected s (got_in_all (turns_of_run x)))
            parts.2 are.standing);
        cannot = subst (λ (plan : PlanValue). CannotComeAfter plan.tested (turns_of_run x)) h.plan_is
            (are.cannot.0 parts.3);
        whole = whole parts.4;
      }

  pub tester_so : (stops_run x.plan.tested facts.standing ≡ true)
      ⊎ ((is_all_sent x ≡ true) × (is_turn_over x facts ≡ true) × (has_more x ≡ false))
      → IsEndedByTester run told (turns_of_run x)
  tester_so (inl final) = inl (subst (λ (plan : PlanValue). HasStandingBy stops_run true plan.tested plan.expected
      (got_in_all (turns_of_run x))) h.plan_is (facts.standing, final, are.standing))
  tester_so (inr (sent, over, last)) = pick (either_so (has_come x facts) (is_in_vain x facts) over)
    where
      pick : (has_come x facts ≡ true) ⊎ (is_in_vain x facts ≡ true) → IsEndedByTester run told (turns_of_run x)
      pick (inl come) = inr (inr (inr (inl (owed sent last come))))
      pick (inr in_vain) = inr (inr (inr (inr (vain sent last in_vain))))
