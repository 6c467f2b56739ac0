-- It still holds after an event.
use Rattle.std.proofs.Common.{◌≡◌, ◌∙◌, ℕ, ◌⊎◌, ◌&&◌, ◌||◌, not, Bool, true, false, if◌then◌else◌, List, [], ◌∷◌, ◌++◌}
use Rattle.std.proofs.Common.{refl, sym, ap, subst, inl, inr}
use Rattle.std.specs.Prelude.{None, map}
use Rattle.std.specs.List.{concat}
use Rattle.ws_suite.specs.Evidence.{sent_turns}
use Rattle.ws_scripts.specs.declared.transcript.Ended.TheVariants.{Tester, Peer, Broken}
use Rattle.ws_tester.specs.declared.standing.Standing.{Standing}
use Rattle.ws_machines.specs.Told.{Told, came_by, taken_by}
use Rattle.ws_machines.specs.Told.Told.{Came, DeadlinePassed, DirectionEnded, Ended as StreamEnded, NothingCame}
use Rattle.ws_machines.specs.Told.Told.{ReadFailed, Reported, Taken, WriteFailed}
use Rattle.ws_tester.specs.Standings.{HasServerClose, is_server_close}
use Rattle.ws_tester.specs.Outcomes.{got_in_all, by_deadline, by_silence, next_or_end, outcome_of_event, unless_failed}
use Rattle.ws_tester.specs.RunStates.{PlanValue, RunState, has_more, is_all_sent, turns_of_run, with_came, with_closing}
use Rattle.ws_tester.specs.RunStates.{with_anew, with_next_turn, with_nothing_to_send, with_unanswered}
use Rattle.ws_tester.proofs.EventLemmas.{closes}
use Rattle.ws_tester.specs.Following.{Changes, LeadsOnBy, MayHappen, Obeys, ScriptValue, Settles, StandsBy}
use Rattle.ws_tester.specs.Records.{IsWaitedFor}
use Rattle.ws_tester.proofs.RecordsTold.{was_now}
use Rattle.ws_tester.proofs.RecordsHolds.{Holds, HoldsSo, same_came, same_taken, holds_more, closing_holds}
use Rattle.ws_tester.proofs.RecordsHolds.{failed_holds}
use Rattle.ws_tester.proofs.RecordsBytes.{came_holds, taken_holds}
use Rattle.ws_tester.proofs.RecordsTests.{OneStanding, both_true, not_true}
use Rattle.ws_tester.proofs.RecordsSettled.{next_so, settled, ended_so, rests_so}
use Rattle.ws_tester.proofs.RecordsTester.{all_sent}

either_false : (a b : Bool) → (a && not b) ≡ false → (a ≡ false) ⊎ (b ≡ true)
either_false false b e = inl refl
either_false true true e = inr refl
either_false true false e = absurd cc

not_false : (b : Bool) → not b ≡ false → b ≡ true
not_false true e = refl
not_false false e = absurd cc

module _ (one : OneStanding) (run : ScriptValue) (before : List Told) where
  -- nothing came in time: the turns so far were waited for
  pub silence_waits : (x : RunState) → Holds run (before ++ NothingCame ∷ []) x
      → IsWaitedFor run (turns_of_run x) (before ++ NothingCame ∷ [])
  silence_waits x h = inr (
    before,
    record { after = []; parts = refl },
    h.sent ∙ same_taken run before NothingCame refl refl,
    h.got ∙ ap (λ (l : List ℕ). run.first ++ l) (same_came run before NothingCame refl refl),
  )

  pub next_after_silence : (x now : RunState) (more : Bool) → x.ended ≡ None → is_all_sent x ≡ true
      → x.write_failed ≡ false
      → (more ≡ true → (has_more x ≡ true) × (not x.closing ≡ true))
      → (more ≡ false → (has_more x ≡ false) ⊎ (x.closing ≡ true))
      → Holds run (before ++ NothingCame ∷ []) x → Obeys (next_or_end more) x now
      → HoldsSo run (before ++ NothingCame ∷ []) now
  next_after_silence x now true going sent works is no_more h obeys =
      settled one run (before ++ NothingCame ∷ []) (with_next_turn x) now going
      (next_so one run (before ++ NothingCame ∷ []) x going (is refl).0 (not_true x.closing (is refl).1) works sent
      (silence_waits x h) h) obeys
  next_after_silence x now false going sent works is no_more h obeys =
      ended_so one run (before ++ NothingCame ∷ []) x now Tester h (inr (inl (record {
        last = (before, refl);
        sent = pick (no_more refl);
      }))) obeys
    where
      by_close : (closing : Bool) → x.closing ≡ closing → has_more x ≡ false
          → (map concat run.script ≡ sent_turns (turns_of_run x))
          ⊎ HasServerClose run.plan.tested run.plan.expected (got_in_all (turns_of_run x))
      by_close true c last = inr (h.closed c)
      by_close false c last = inl (all_sent run (before ++ NothingCame ∷ []) x h sent last c works)

      pick : (has_more x ≡ false) ⊎ (x.closing ≡ true)
          → (map concat run.script ≡ sent_turns (turns_of_run x))
          ⊎ HasServerClose run.plan.tested run.plan.expected (got_in_all (turns_of_run x))
      pick (inl last) = by_close x.closing refl last
      pick (inr closing) = inr (h.closed closing)

  pub silence_so : (x now : RunState) (sent failed : Bool) → x.ended ≡ None → is_all_sent x ≡ sent
      → x.write_failed ≡ failed
      → Holds run (before ++ NothingCame ∷ []) x
      → Obeys (by_silence sent failed (has_more x && not x.closing)) x now
      → HoldsSo run (before ++ NothingCame ∷ []) now
  silence_so x now false failed going s f h obeys =
      rests_so one run (before ++ NothingCame ∷ []) x now going h obeys
  silence_so x now true true going s f h obeys =
      ended_so one run (before ++ NothingCame ∷ []) x now Broken h (inr (inl (h.has_failed f, inr (before, refl)))) obeys
  silence_so x now true false going s f h obeys = next_after_silence x now (has_more x && not x.closing) going s f
      (both_true (has_more x) (not x.closing)) (either_false (has_more x) x.closing) h obeys

  pub stream_end_so : (x now : RunState) (failed : Bool) → x.write_failed ≡ failed
      → Holds run (before ++ StreamEnded ∷ []) x
      → Obeys (unless_failed failed Peer) x now → HoldsSo run (before ++ StreamEnded ∷ []) now
  stream_end_so x now true f h obeys =
      ended_so one run (before ++ StreamEnded ∷ []) x now Broken h (inr (inl (h.has_failed f, inl (before, refl)))) obeys
  stream_end_so x now false f h obeys =
      ended_so one run (before ++ StreamEnded ∷ []) x now Peer h (before, refl) obeys

  pub deadline_so : (waited no_limit : Bool) (x now : RunState) → no_limit ≡ not run.plan.timeouts
      → Holds run (before ++ DeadlinePassed waited ∷ []) x → Obeys (by_deadline (waited || no_limit)) x now
      → HoldsSo run (before ++ DeadlinePassed waited ∷ []) now
  deadline_so true no_limit x now limit h obeys =
      ended_so one run (before ++ DeadlinePassed true ∷ []) x now Tester h
      (inr (inr (inl (true, inl refl, (before, refl))))) obeys
  deadline_so false true x now limit h obeys =
      ended_so one run (before ++ DeadlinePassed false ∷ []) x now Tester h
      (inr (inr (inl (false, inr (not_true run.plan.timeouts (sym limit)), (before, refl))))) obeys
  deadline_so false false x now limit h obeys = ended_so one run (before ++ DeadlinePassed false ∷ []) x now Broken h
      (inr (inr (inl (not_false run.plan.timeouts (sym limit), (before, refl))))) obeys

  -- how what came stands, and what that changes
  pub standing_so : (b : Bool) (x : RunState) (bytes : List ℕ) → Holds run (before ++ Came bytes ∷ []) x
      → (b ≡ true → HasServerClose run.plan.tested run.plan.expected (got_in_all (turns_of_run x)))
      → Holds run (before ++ Came bytes ∷ []) (if b then with_closing (with_nothing_to_send x) else x)
  standing_so true x bytes h closes = closing_holds run (before ++ Came bytes ∷ []) x h (closes refl)
  standing_so false x bytes h closes = h

  -- a standing by which the own direction is ended is that of a server's close
  pub closes_by : (old : RunState) (bytes : List ℕ) (standing : Standing) → Holds run before old
      → StandsBy (with_came bytes old) standing → is_server_close old.plan.tested standing ≡ true
      → HasServerClose run.plan.tested run.plan.expected (got_in_all (turns_of_run (with_came bytes old)))
  closes_by old bytes standing h stands e = subst (λ (plan : PlanValue).
      HasServerClose plan.tested plan.expected (got_in_all (turns_of_run (with_came bytes old)))) h.plan_is (standing, e, stands.stands)

  pub standing_ends : (b : Bool) (x : RunState)
      → (if b then with_closing (with_nothing_to_send x) else x).ended ≡ x.ended
  standing_ends true x = refl
  standing_ends false x = refl

  pub came_so : (old heard new : RunState) (bytes : List ℕ) → old.ended ≡ None → Holds run before old
      → MayHappen old (Came bytes) → Changes (Came bytes) old heard → Settles heard new
      → HoldsSo run (before ++ Came bytes ∷ []) new
  came_so old heard new bytes going h fits hears rest =
      let x = with_anew hears.progress (with_unanswered hears.pings (with_came bytes old)) in
      let closing = is_server_close old.plan.tested hears.standing && not old.closing in
      settled one run (before ++ Came bytes ∷ []) heard new
      (ap (λ (y : RunState). y.ended) hears.is ∙ (standing_ends closing x ∙ going))
      (subst (λ (y : RunState). Holds run (before ++ Came bytes ∷ []) y) (sym hears.is)
      (standing_so closing x bytes
      (came_holds run before old h bytes fits.1.0
      (λ c. closes_by old bytes hears.standing h hears.stands (hears.stands.still c)))
      (λ e. closes_by old bytes hears.standing h hears.stands
      (both_true (is_server_close old.plan.tested hears.standing) (not old.closing) e).0)))
      rest

  -- where an event changes nothing
  pub same_so : (old heard : RunState) (event : Told) → came_by event ≡ [] → taken_by event ≡ []
      → (event ≡ DirectionEnded → old.closing ≡ true) → Holds run before old → heard ≡ old
      → Holds run (before ++ event ∷ []) heard
  same_so old heard event c t ends h same = subst (λ (y : RunState). Holds run (before ++ event ∷ []) y) (sym same)
      (holds_more run before event c t old ends h)

  pub going_so : (old heard : RunState) → heard ≡ old → old.ended ≡ None → heard.ended ≡ None
  going_so old heard same going = ap (λ (y : RunState). y.ended) same ∙ going

  pub event_so : (old heard new : RunState) (event : Told) → old.ended ≡ None → Holds run before old
      → MayHappen old event
      → Changes event old heard → LeadsOnBy (outcome_of_event heard event) heard new
      → HoldsSo run (before ++ event ∷ []) new
  event_so old heard new (Came bytes) going h may changes on = came_so old heard new bytes going h may changes on
  event_so old heard new StreamEnded going h may changes on =
      stream_end_so heard new heard.write_failed refl
      (same_so (with_anew false old) heard StreamEnded refl refl (λ e. absurd cc) h changes) on
  event_so old heard new ReadFailed going h may changes on =
      ended_so one run (before ++ ReadFailed ∷ []) heard new Broken
      (same_so (with_anew false old) heard ReadFailed refl refl (λ e. absurd cc) h changes)
      (inl (before, refl)) on
  event_so old heard new NothingCame going h may changes on =
      silence_so heard new (is_all_sent heard) heard.write_failed
      (going_so (with_anew true old) heard changes going) refl refl
      (same_so (with_anew true old) heard NothingCame refl refl (λ e. absurd cc) h changes) on
  event_so old heard new (Taken bytes) going h (unsent, e) changes on =
      settled one run (before ++ Taken bytes ∷ []) heard new
      (ap (λ (y : RunState). y.ended) changes.is ∙ going)
      (subst (λ (y : RunState). Holds run (before ++ Taken bytes ∷ []) y) (sym changes.is)
      (taken_holds run before old h bytes unsent e)) on
  event_so old heard new WriteFailed going h may changes on =
      settled one run (before ++ WriteFailed ∷ []) heard new
      (ap (λ (y : RunState). y.ended) changes ∙ going)
      (subst (λ (y : RunState). Holds run (before ++ WriteFailed ∷ []) y) (sym changes)
      (failed_holds run (before ++ WriteFailed ∷ []) old
      (holds_more run before WriteFailed refl refl old (λ e. absurd cc) h) (was_now WriteFailed before))) on
  event_so old heard new DirectionEnded going h may changes on =
      settled one run (before ++ DirectionEnded ∷ []) heard new
      (ap (λ (y : RunState). y.ended) changes ∙ going)
      (subst (λ (y : RunState). Holds run (before ++ DirectionEnded ∷ []) y) (sym changes)
      (holds_more run before DirectionEnded refl refl old
      (λ e. closes old.ended old.closing old.half_closed (is_all_sent old) may) h)) on
  event_so old heard new (Reported lines) going h may changes on =
      settled one run (before ++ Reported lines ∷ []) heard new (going_so (with_anew false old) heard changes going)
      (same_so (with_anew false old) heard (Reported lines) refl refl (λ e. absurd cc) h changes) on
  event_so old heard new (DeadlinePassed waited) going h may changes on =
      deadline_so waited (not heard.plan.timeouts) heard new
      (ap (λ (plan : PlanValue). not plan.timeouts) (ap (λ (y : RunState). y.plan) changes ∙ h.plan_is))
      (same_so (with_anew false old) heard (DeadlinePassed waited) refl refl (λ e. absurd cc) h changes) on
