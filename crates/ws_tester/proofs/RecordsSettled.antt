-- It still holds once the run rests, or has ended.
use Rattle.std.proofs.Common.{◌≡◌, ◌∙◌, ℕ, ◌&&◌, ◌||◌, not, Bool, true, false, List, [], ◌∷◌, refl, sym, ap, subst, arith, inl, inr}
use Rattle.std.specs.Prelude.{Option, None, Some, zero, suc}
use Rattle.ws_scripts.specs.declared.transcript.Ended.{Ended}
use Rattle.ws_scripts.specs.declared.transcript.Ended.TheVariants.{Tester, Peer, Broken}
use Rattle.ws_suite.specs.Growing.{new_turn}
use Rattle.ws_suite.specs.Waiting.{AreTurnsAnsweredBy}
use Rattle.ws_machines.specs.Told.{Told}
use Rattle.ws_tester.specs.Standings.{stops_run}
use Rattle.ws_tester.specs.Outcomes.{AreFacts, HasSentEnd, has_come, has_end, is_spent, is_turn_over, is_waited_out}
use Rattle.ws_tester.specs.Outcomes.{outcome_of}
use Rattle.ws_tester.specs.Outgoings.{Pieces}
use Rattle.ws_tester.specs.RunStates.{PlanValue, RunState, has_more, is_all_sent, turns_of_run, wants_own_end}
use Rattle.ws_tester.specs.RunStates.{with_next_turn}
use Rattle.ws_tester.specs.Following.{Obeys, ScriptValue, Settles, SettlesIn}
use Rattle.ws_tester.specs.Records.{IsWaitedFor}
use Rattle.ws_tester.specs.declared.outcome.Outcome.TheVariants.{Rests, Next, Ends}
use Rattle.ws_tester.specs.declared.outcome.TurnFacts.{TurnFacts}
use Rattle.ws_tester.proofs.OutcomeLemmas.{next_come, next_more, next_sent}
use Rattle.ws_tester.proofs.RecordsHolds.{HoldsOf, Holds, EndsBy, HoldsSo}
use Rattle.ws_tester.proofs.RecordsNext.{next_holds}
use Rattle.ws_tester.proofs.RecordsOver.{not_over}
use Rattle.ws_tester.proofs.RecordsTests.{OneStanding, broken_by, broken_waits, come_unwaited, no_peer, nothing_left, one_end}
use Rattle.ws_tester.proofs.RecordsTests.{open_where_come, tester_by}
use Rattle.ws_tester.proofs.RecordsTester.{are_sent_whole, tester_so}

-- where the turn isn't waited out, a close or a fault was sent before it, if one was
had_by : (timeouts sent had : Bool) → (timeouts && (sent && not had)) ≡ false → timeouts ≡ true → sent ≡ true
    → had ≡ true
had_by false sent had e t s = absurd cc
had_by true false had e t s = absurd cc
had_by true true false e t s = absurd cc
had_by true true true e t s = refl

module _ (one : OneStanding) (run : ScriptValue) (told : List Told) where
  -- the end that the table gives
  pub settled_end : (x : RunState) (facts : TurnFacts) (how : Ended) → Holds run told x
      → AreFacts x.plan x.past (turns_of_run x) facts → outcome_of x facts ≡ Ends how
      → EndsBy run told (turns_of_run x) (Some how)
  settled_end x facts Tester h are e = tester_so one run told x facts h are
      (tester_by _ (is_all_sent x) (is_turn_over x facts) (is_spent x) (has_more x) e)
  settled_end x facts Peer h are e = absurd
      (no_peer _ (is_all_sent x) (is_turn_over x facts) (is_spent x) (has_more x) e)
  settled_end x facts Broken h are e =
      let none : x.allowance ≡ 0 = nothing_left x.allowance (wants_own_end x)
      (broken_by _ (is_all_sent x) (is_turn_over x facts) (is_spent x) (has_more x) e) in
      let waits : (stops_run x.plan.tested facts.standing ≡ false) × (is_all_sent x ≡ true)
      × (is_turn_over x facts ≡ false) =
      broken_waits (stops_run x.plan.tested facts.standing) (is_all_sent x) (is_turn_over x facts) (is_spent x)
      (has_more x) e in
      inr (inr (inr (record {
        used = omega (arith, h.budget, none);
        sent = are_sent_whole run told x h waits.1;
        past = x.past;
        turn = x.turn;
        last = refl;
        waits = not_over one run told x facts h are waits.0 (inr waits.2);
      })))

  -- a turn that the next one follows by the table was waited for
  pub next_waits : (x : RunState) (facts : TurnFacts) → Holds run told x
      → AreFacts x.plan x.past (turns_of_run x) facts → outcome_of x facts ≡ Next
      → IsWaitedFor run (turns_of_run x) told
  next_waits x facts h are e = inl (answered, (x.past, x.turn, refl, had))
    where
      come : has_come x facts ≡ true
      come = next_come x facts e

      answered : AreTurnsAnsweredBy run.plan.expected run.plan.tested (turns_of_run x)
      answered = subst (λ (plan : PlanValue). AreTurnsAnsweredBy plan.expected plan.tested (turns_of_run x)) h.plan_is
          (are.come (open_where_come one run told x facts h are come).2)

      facts_are : AreFacts run.plan x.past (turns_of_run x) facts
      facts_are = subst (λ (plan : PlanValue). AreFacts plan x.past (turns_of_run x) facts) h.plan_is are

      out : is_waited_out run.plan true facts ≡ false
      out = ap (λ (m : Bool). is_waited_out run.plan m facts) (sym (next_more x facts e))
          ∙ (ap (λ (plan : PlanValue). is_waited_out plan (has_more x) facts) (sym h.plan_is)
          ∙ come_unwaited (has_end facts.standing) x.write_failed (is_waited_out x.plan (has_more x) facts)
          facts.is_answered (has_more x || not facts.is_inside) come)

      had : run.plan.timeouts ≡ true → HasSentEnd run.plan.tested (turns_of_run x) true
          → HasSentEnd run.plan.tested x.past true
      had t s = subst (λ (b : Bool). HasSentEnd run.plan.tested x.past b)
          (had_by run.plan.timeouts facts.has_sent_end facts.had_sent_end out t
          (one_end one run.plan.tested (turns_of_run x) facts.has_sent_end true facts_are.sent_end s))
          facts_are.sent_before

  -- the next turn, where there is one
  pub next_so : (x : RunState) → x.ended ≡ None → has_more x ≡ true → x.closing ≡ false → x.write_failed ≡ false
      → is_all_sent x ≡ true → IsWaitedFor run (turns_of_run x) told → Holds run told x → Holds run told (with_next_turn x)
  next_so x going more unclosed works sent waits h = pick x.outgoing.later refl more
    where
      pick : (later : List Pieces) → x.outgoing.later ≡ later → (is : has_more x ≡ true)
          → Holds run told (with_next_turn x)
      pick [] e is = absurd (let wrong : false ≡ true =
          ap (λ (l : List Pieces). has_more (record x { outgoing = record { rest = x.outgoing.rest; later = l } }))
          (sym e)
          ∙ is in cc)
      pick (first ∷ others) e is =
          subst (λ (l : List Pieces). HoldsOf run told x.plan (turns_of_run x) new_turn (with_next_turn (record x {
            outgoing
                = record { rest = x.outgoing.rest; later = l };
          })).outgoing x.allowance x.closing x.write_failed x.begun)
          (sym e)
          (next_holds run told x.plan x.past x.turn x.outgoing.rest first others x.allowance x.closing x.write_failed
          x.begun
          (subst (λ (l : List Pieces). HoldsOf run told x.plan x.past x.turn
          (record { rest = x.outgoing.rest; later = l })
          x.allowance x.closing x.write_failed x.begun) e h) unclosed works sent waits)

  pub settled_in : (n : ℕ) (x now : RunState) → x.ended ≡ None → Holds run told x → SettlesIn n x now
      → HoldsSo run told now
  settled_in zero x now going h (inl (o, same)) = subst (λ (y : RunState). Holds run told y × EndsBy run told (turns_of_run y) y.ended)
      (sym same) (h, subst (λ (e : Option Ended). EndsBy run told (turns_of_run x) e) (sym going) tt)
  settled_in zero x now going h (inr (how, o, same)) =
      subst (λ (y : RunState). Holds run told y × EndsBy run told (turns_of_run y) y.ended) (sym same)
      (h, settled_end x o.facts how h o.are_facts o.is)
  settled_in (suc n) x now going h (o, rest) =
      let open_now = open_where_come one run told x o.facts h o.are_facts (next_come x o.facts o.is) in
      settled_in n (with_next_turn x) now going
      (next_so x going (next_more x o.facts o.is) open_now.0 open_now.1 (next_sent x o.facts o.is)
      (next_waits x o.facts h o.are_facts o.is) h) rest

  pub settled : (x now : RunState) → x.ended ≡ None → Holds run told x → Settles x now → HoldsSo run told now
  settled x now going h (n, s) = settled_in n x now going h s

  -- ---- what an event decides by itself
  pub ended_so : (x now : RunState) (how : Ended) → Holds run told x → EndsBy run told (turns_of_run x) (Some how)
      → Obeys (Ends how) x now
      → HoldsSo run told now
  ended_so x now how h e same =
      subst (λ (y : RunState). Holds run told y × EndsBy run told (turns_of_run y) y.ended) (sym same) (h, e)

  pub rests_so : (x now : RunState) → x.ended ≡ None → Holds run told x → Obeys Rests x now → HoldsSo run told now
  rests_so x now going h same = subst (λ (y : RunState). Holds run told y × EndsBy run told (turns_of_run y) y.ended) (sym same)
      (h, subst (λ (e : Option Ended). EndsBy run told (turns_of_run x) e) (sym going) tt)
