-- Where a server's close was got the own direction is ended, unless the run ends before.
use Rattle.std.proofs.Common.{◌≡◌, ◌∙◌, ℕ, ◌<◌, ◌+◌, ◌⊎◌, ◌&&◌, ◌||◌, not, Bool, true, false, if◌then◌else◌, List, []}
use Rattle.std.proofs.Common.{◌∷◌, ◌++◌, length, map, nat_eq, refl, sym, ap, subst, inl, inr, arith, length-append}
use Rattle.std.proofs.Common.{append_assoc, append-nil}
use Rattle.std.specs.Prelude.{Option, None, Some, is_some, zero, suc, ⊤}
use Rattle.std.specs.List.{AllByRecursion, concat}
use Rattle.ws_wire.specs.declared.role.Role.{Role}
use Rattle.ws_wire.specs.declared.role.Role.TheVariants.{Client, Server}
use Rattle.ws_scripts.specs.Scripts.{has_bytes}
use Rattle.ws_scripts.specs.declared.transcript.Ended.{Ended}
use Rattle.ws_scripts.specs.declared.transcript.Ended.TheVariants.{Tester, Peer, Broken}
use Rattle.ws_scripts.specs.declared.transcript.Turn.{Turn}
use Rattle.ws_machines.specs.Told.{Told}
use Rattle.ws_machines.specs.Told.Told.{Came, DeadlinePassed, DirectionEnded, Ended as StreamEnded, NothingCame}
use Rattle.ws_machines.specs.Told.Told.{ReadFailed, Reported, Taken, WriteFailed}
use Rattle.ws_tester.specs.Standings.{HasServerClose, StandsAs, is_server_close, stops_run}
use Rattle.ws_tester.specs.Outcomes.{AreFacts, by_deadline, by_silence, by_tests, got_in_all, has_end}
use Rattle.ws_tester.specs.Outcomes.{is_spent, is_turn_over, next_or_end, outcome_of, outcome_of_event}
use Rattle.ws_tester.specs.Outcomes.{sent_in_all, unless_failed}
use Rattle.ws_tester.specs.Outgoings.{Pieces, first_piece, first_turn, without_front}
use Rattle.ws_tester.specs.RunStates.{PlanValue, RunState, has_more, is_all_sent, is_nothing, turns_of_run, wants_own_end}
use Rattle.ws_tester.specs.RunStates.{with_came, with_closing, with_next_turn, with_nothing_to_send, with_run_end}
use Rattle.ws_tester.specs.RunStates.{with_anew, with_taken, with_unanswered}
use Rattle.ws_tester.specs.Following.{Changes, Follows, LeadsOnBy, MayHappen, Obeys, ScriptValue}
use Rattle.ws_tester.specs.Following.{Settles, SettlesIn, StandsBy, first_state}
use Rattle.ws_tester.specs.Records.{IsHalfClosed, Was, WasLast}
use Rattle.ws_tester.specs.declared.outcome.Outcome.TheVariants.{Ends}
use Rattle.ws_tester.specs.declared.outcome.TurnFacts.{TurnFacts}
use Rattle.ws_tester.specs.declared.standing.Standing.{Standing}
use Rattle.ws_tester.specs.declared.standing.Standing.TheVariants.{Going, Closed, Faulty}
use Rattle.ws_tester.proofs.OutcomeLemmas.{next_come, next_more, next_sent}
use Rattle.ws_tester.proofs.EventLemmas.{closes}
use Rattle.ws_tester.proofs.RecordsBytes.{came_holds, taken_holds}
use Rattle.ws_tester.proofs.RecordsEvent.{closes_by, event_so, same_so, silence_waits, standing_ends, standing_so}
use Rattle.ws_tester.proofs.RecordsHolds.{Holds, HoldsSo, failed_holds, holds_more}
use Rattle.ws_tester.proofs.RecordsPieces.{no_byte}
use Rattle.ws_tester.proofs.RecordsSettled.{next_so, next_waits}
use Rattle.ws_tester.proofs.RecordsTests.{OneStanding, both_true, closing_ends, one_close}
use Rattle.ws_tester.proofs.RecordsTests.{open_where_come}
use Rattle.ws_tester.proofs.RecordsTold.{was_more, was_now}
use Rattle.ws_tester.proofs.RecordsTurns.{got_begun, got_stays}

-- ---- what holds of a run as it goes on

-- Where a server's close was got it is closing; where the own direction was ended that was told; and where it is closing
-- all of the turn is sent. Where it has ended while closing, the own direction was ended or couldn't be.
pub record Closes (run : ScriptValue) (told : List Told) (x : RunState) : Type 0 where
  pub closing : HasServerClose run.plan.tested run.plan.expected (got_in_all (turns_of_run x)) → x.closing ≡ true
  pub half : x.half_closed ≡ true → Was DirectionEnded told
  pub sent : x.closing ≡ true → is_all_sent x ≡ true

-- how it has ended
abbrev pub EndsClosed : ScriptValue → List Told → RunState → Option Ended → Type 0
EndsClosed run told x None = ⊤
EndsClosed run told x (Some how) = x.closing ≡ true → IsHalfClosed told

abbrev pub ClosesSo : ScriptValue → List Told → RunState → Type 0
ClosesSo run told x = Closes run told x × EndsClosed run told x x.ended

-- ---- tests

-- the own direction isn't to be ended though it is closing: it was, or not all is sent
own_end_done : (ended : Option Ended) (closing half sent : Bool) → ended ≡ None → closing ≡ true
    → (not (is_some ended) && (closing && (not half && sent))) ≡ false → (half ≡ true) ⊎ (sent ≡ false)
own_end_done None true true sent going c e = inl refl
own_end_done None true false true going c e = absurd cc
own_end_done None true false false going c e = inr refl
own_end_done None false half sent going c e = absurd cc
own_end_done (Some how) closing half sent going c e = absurd cc

-- a close of a server doesn't end the run by itself, and nothing is over behind it
close_goes_on : (tested : Role) (standing : Standing) → is_server_close tested standing ≡ true
    → stops_run tested standing ≡ false
close_goes_on Server Closed e = refl
close_goes_on Client Closed e = absurd cc
close_goes_on tested Going e = absurd cc
close_goes_on tested Faulty e = absurd cc

over_never : (ends come owes more failed vain : Bool) → ends ≡ true
    → ((not ends && come) || (owes && (not more && (not failed && (not ends && vain))))) ≡ false
over_never true come false more failed vain e = refl
over_never true come true true failed vain e = refl
over_never true come true false true vain e = refl
over_never true come true false false vain e = refl
over_never false come owes more failed vain e = absurd cc

ends_spent : (final sent over spent more : Bool) (how : Ended) → final ≡ false → over ≡ false
    → by_tests final sent over spent more ≡ Ends how → (sent ≡ true) × (spent ≡ true)
ends_spent true sent over spent more how f o e = absurd cc
ends_spent false false over spent more how f o e = absurd cc
ends_spent false true true spent more how f o e = absurd cc
ends_spent false true false true more how f o e = (refl, refl)
ends_spent false true false false more how f o e = absurd cc

pub not_is : (b : Bool) → not b ≡ true → b ≡ false
not_is true e = absurd cc
not_is false e = refl

-- the own direction is to be ended still, or all of the turn isn't sent
pub none_both : (b : Bool) (X : Type 0) → b ≡ true → b ≡ false → X
none_both b X e f = absurd (let wrong : true ≡ false = sym e ∙ f in cc)

-- ---- the table

module _ (one : OneStanding) (run : ScriptValue) (told : List Told) where
  -- what was got has a server's close where it is closing
  stands_closed : (x : RunState) (facts : TurnFacts) → Holds run told x
      → AreFacts x.plan x.past (turns_of_run x) facts → x.closing ≡ true
      → is_server_close x.plan.tested facts.standing ≡ true
  stands_closed x facts h are c =
      subst (λ (plan : PlanValue). is_server_close plan.tested facts.standing ≡ true) (sym h.plan_is)
      (one_close one run.plan.tested run.plan.expected facts.standing (got_in_all (turns_of_run x))
      (subst (λ (plan : PlanValue). StandsAs plan.tested plan.expected facts.standing (got_in_all (turns_of_run x)))
      h.plan_is are.standing) (h.closed c))

  -- where the table ends the run while it is closing, the own direction was ended
  table_closes : (x : RunState) (facts : TurnFacts) (how : Ended) → x.ended ≡ None → Holds run told x
      → AreFacts x.plan x.past (turns_of_run x) facts → Closes run told x → outcome_of x facts ≡ Ends how
      → x.closing ≡ true → IsHalfClosed told
  table_closes x facts how going h are k e c =
      let is = stands_closed x facts h are c in
      let over : is_turn_over x facts ≡ false =
      over_never (has_end facts.standing) _ _ (has_more x) x.write_failed _ (closing_ends one run told x facts h are c) in
      let both : (is_all_sent x ≡ true) × (is_spent x ≡ true) =
      ends_spent (stops_run x.plan.tested facts.standing) (is_all_sent x) (is_turn_over x facts) (is_spent x) (has_more x)
      how (close_goes_on x.plan.tested facts.standing is) over e in
      pick both.0 (own_end_done x.ended x.closing x.half_closed (is_all_sent x) going c
      (not_is (wants_own_end x) (both_true (nat_eq x.allowance 0) (not (wants_own_end x)) both.1).1))
    where
      pick : is_all_sent x ≡ true → (x.half_closed ≡ true) ⊎ (is_all_sent x ≡ false)
          → IsHalfClosed told
      pick sent (inl half) = inl (k.half half)
      pick sent (inr unsent) = none_both (is_all_sent x) (IsHalfClosed told) sent unsent

  -- ---- until the run rests

  ended_closes : (x now : RunState) (how : Ended) → Closes run told x
      → (x.closing ≡ true → IsHalfClosed told) → now ≡ with_run_end how x → ClosesSo run told now
  ended_closes x now how k ends same = subst (λ (y : RunState). ClosesSo run told y) (sym same)
      (record { closing = k.closing; half = k.half; sent = k.sent }, ends)

  rests_closes : (x now : RunState) → x.ended ≡ None → Closes run told x → now ≡ x → ClosesSo run told now
  rests_closes x now going k same = subst (λ (y : RunState). ClosesSo run told y) (sym same)
      (k, subst (λ (o : Option Ended). EndsClosed run told x o) (sym going) tt)

  pub next_closes : (x : RunState) → Closes run told x → x.closing ≡ false → Closes run told (with_next_turn x)
  next_closes x k unclosed = record {
    closing = λ s. k.closing (subst (λ (l : List ℕ). HasServerClose run.plan.tested run.plan.expected l) (got_begun (turns_of_run x)) s);
    half = k.half;
    sent = λ c. none_both x.closing (is_all_sent (with_next_turn x) ≡ true) c unclosed;
  }

  settled_closes_in : (n : ℕ) (x now : RunState) → x.ended ≡ None → Holds run told x → Closes run told x
      → SettlesIn n x now → ClosesSo run told now
  settled_closes_in zero x now going h k (inl (o, same)) = rests_closes x now going k same
  settled_closes_in zero x now going h k (inr (how, o, same)) =
      ended_closes x now how k (table_closes x o.facts how going h o.are_facts k o.is) same
  settled_closes_in (suc n) x now going h k (o, rest) =
      let open_now = open_where_come one run told x o.facts h o.are_facts (next_come x o.facts o.is) in
      settled_closes_in n (with_next_turn x) now going
      (next_so one run told x going (next_more x o.facts o.is) open_now.0 open_now.1 (next_sent x o.facts o.is)
      (next_waits one run told x o.facts h o.are_facts o.is) h) (next_closes x k open_now.0) rest

  pub settled_closes : (x now : RunState) → x.ended ≡ None → Holds run told x → Closes run told x → Settles x now
      → ClosesSo run told now
  settled_closes x now going h k (n, s) = settled_closes_in n x now going h k s

-- ---- one event

-- pieces none of which is empty, of which the first has no byte
no_pieces : (rest : Pieces) → AllByRecursion has_bytes rest → is_nothing (first_piece rest) ≡ true → rest ≡ []
no_pieces [] h e = refl
no_pieces (piece ∷ pieces) h e = absurd (no_byte piece e h.0)

module _ (one : OneStanding) (run : ScriptValue) (before : List Told) where
  more_closes : (x : RunState) (event : Told) → Closes run before x → Closes run (before ++ event ∷ []) x
  more_closes x event k = record {
    closing = k.closing;
    half = λ e. was_more DirectionEnded before event (k.half e);
    sent = k.sent;
  }

  -- whether the time limit begins anew changes nothing of that
  anew_closes : (x : RunState) (anew : Bool) → Closes run before x → Closes run before (with_anew anew x)
  anew_closes x anew k = record { closing = k.closing; half = k.half; sent = k.sent }

  -- what was told ends the run, while the own direction isn't to be ended: it was
  told_ends : (x : RunState) (event : Told) → x.ended ≡ None → Closes run before x → wants_own_end x ≡ false
      → x.closing ≡ true → IsHalfClosed (before ++ event ∷ [])
  told_ends x event going k own c =
      pick (own_end_done x.ended x.closing x.half_closed (is_all_sent x) going c own)
    where
      pick : (x.half_closed ≡ true) ⊎ (is_all_sent x ≡ false) → IsHalfClosed (before ++ event ∷ [])
      pick (inl half) = inl (was_more DirectionEnded before event (k.half half))
      pick (inr unsent) = none_both (is_all_sent x) (IsHalfClosed (before ++ event ∷ [])) (k.sent c) unsent

  stream_end_closes : (x now : RunState) (failed : Bool) → x.ended ≡ None → Holds run before x → Closes run before x
      → wants_own_end x ≡ false → Obeys (unless_failed failed Peer) x now → ClosesSo run (before ++ StreamEnded ∷ []) now
  stream_end_closes x now true going h k own obeys = ended_closes one run (before ++ StreamEnded ∷ []) x now Broken
      (more_closes x StreamEnded k) (λ c. told_ends x StreamEnded going k own c) obeys
  stream_end_closes x now false going h k own obeys = ended_closes one run (before ++ StreamEnded ∷ []) x now Peer
      (more_closes x StreamEnded k) (λ c. told_ends x StreamEnded going k own c) obeys

  -- nothing came in time
  silence_closes : (x now : RunState) (sent failed : Bool) → x.ended ≡ None → is_all_sent x ≡ sent
      → x.write_failed ≡ failed → Holds run (before ++ NothingCame ∷ []) x → Closes run before x
      → wants_own_end x ≡ false → Obeys (by_silence sent failed (has_more x && not x.closing)) x now
      → ClosesSo run (before ++ NothingCame ∷ []) now
  silence_closes x now false failed going s f h k own obeys =
      rests_closes one run (before ++ NothingCame ∷ []) x now going (more_closes x NothingCame k) obeys
  silence_closes x now true true going s f h k own obeys = ended_closes one run (before ++ NothingCame ∷ []) x now Broken
      (more_closes x NothingCame k) (λ c. told_ends x NothingCame going k own c) obeys
  silence_closes x now true false going s f h k own obeys = pick (has_more x && not x.closing) refl obeys
    where
      pick : (more : Bool) → (has_more x && not x.closing) ≡ more → Obeys (next_or_end more) x now
          → ClosesSo run (before ++ NothingCame ∷ []) now
      pick true e obey =
          let both : (has_more x ≡ true) × (not x.closing ≡ true) = both_true (has_more x) (not x.closing) e in
          settled_closes one run (before ++ NothingCame ∷ []) (with_next_turn x) now going
          (next_so one run (before ++ NothingCame ∷ []) x going both.0 (not_is x.closing both.1) f s
          (silence_waits one run before x h) h)
          (next_closes one run (before ++ NothingCame ∷ []) x (more_closes x NothingCame k) (not_is x.closing both.1))
          obey
      pick false e obey = ended_closes one run (before ++ NothingCame ∷ []) x now Tester
          (more_closes x NothingCame k) (λ c. told_ends x NothingCame going k own c) obey

  deadline_closes : (x now : RunState) (waited : Bool) (b : Bool) → Closes run before x → Obeys (by_deadline b) x now
      → ClosesSo run (before ++ DeadlinePassed waited ∷ []) now
  deadline_closes x now waited true k obeys = ended_closes one run (before ++ DeadlinePassed waited ∷ []) x now Tester
      (more_closes x (DeadlinePassed waited) k) (λ c. inr (waited, (before, refl))) obeys
  deadline_closes x now waited false k obeys = ended_closes one run (before ++ DeadlinePassed waited ∷ []) x now Broken
      (more_closes x (DeadlinePassed waited) k) (λ c. inr (waited, (before, refl))) obeys

  -- how what came stands
  came_closes : (old : RunState) (bytes : List ℕ) (pings : List (List ℕ)) (anew : Bool) (standing : Standing) (b : Bool)
      → Holds run before old → Closes run before old → StandsBy (with_came bytes old) standing
      → (is_server_close old.plan.tested standing && not old.closing) ≡ b → Closes run (before ++ Came bytes ∷ [])
      (if b then with_closing (with_nothing_to_send (with_anew anew (with_unanswered pings (with_came bytes old))))
      else with_anew anew (with_unanswered pings (with_came bytes old)))
  came_closes old bytes pings anew standing true h k stands e = record {
    closing = λ s. refl;
    half = λ d. was_more DirectionEnded before (Came bytes) (k.half d);
    sent = λ c. refl;
  }
  came_closes old bytes pings anew standing false h k stands e = record {
    closing = λ s. closed (subst (λ (plan : PlanValue). is_server_close plan.tested standing ≡ true) (sym h.plan_is)
        (one_close one run.plan.tested run.plan.expected standing (got_in_all (turns_of_run (with_came bytes old)))
        (subst (λ (plan : PlanValue). StandsAs plan.tested plan.expected standing
        (got_in_all (turns_of_run (with_came bytes old)))) h.plan_is stands.stands) s));
    half = λ d. was_more DirectionEnded before (Came bytes) (k.half d);
    sent = k.sent;
  }
    where
      closed_by : (is closing : Bool) → is ≡ true → (is && not closing) ≡ false → closing ≡ true
      closed_by true true e f = refl
      closed_by true false e f = absurd cc
      closed_by false closing e f = absurd cc

      closed : is_server_close old.plan.tested standing ≡ true → old.closing ≡ true
      closed is = closed_by (is_server_close old.plan.tested standing) old.closing is e

  taken_closes : (old : RunState) (bytes : List ℕ) (pings : List (List ℕ)) → Holds run before old
      → Closes run before old → Closes run (before ++ Taken bytes ∷ [])
      (with_anew true (with_unanswered pings (with_taken bytes old)))
  taken_closes old bytes pings h k = record {
    closing = λ s. k.closing (subst (λ (l : List ℕ). HasServerClose run.plan.tested run.plan.expected l)
        (got_stays old.past old.turn bytes) s);
    half = λ d. was_more DirectionEnded before (Taken bytes) (k.half d);
    sent = λ c. ap (λ (rest : Pieces). is_nothing (first_piece (without_front (length bytes) rest)))
        (no_pieces old.outgoing.rest h.pieces.0 (k.sent c));
  }

  -- ---- what holds after an event, once it is heard

  pub heard_so : (old heard : RunState) (event : Told) → Holds run before old → MayHappen old event
      → Changes event old heard → Holds run (before ++ event ∷ []) heard
  heard_so old heard (Came bytes) h fits hears =
      subst (λ (y : RunState). Holds run (before ++ Came bytes ∷ []) y) (sym hears.is)
      (standing_so one run before (is_server_close old.plan.tested hears.standing && not old.closing)
      (with_anew hears.progress (with_unanswered hears.pings (with_came bytes old))) bytes
      (came_holds run before old h bytes fits.1.0
      (λ c. closes_by one run before old bytes hears.standing h hears.stands (hears.stands.still c)))
      (λ e. closes_by one run before old bytes hears.standing h hears.stands
      (both_true (is_server_close old.plan.tested hears.standing) (not old.closing) e).0))
  heard_so old heard (Taken bytes) h (unsent, e) hears =
      subst (λ (y : RunState). Holds run (before ++ Taken bytes ∷ []) y) (sym hears.is)
      (taken_holds run before old h bytes unsent e)
  heard_so old heard WriteFailed h may same =
      subst (λ (y : RunState). Holds run (before ++ WriteFailed ∷ []) y) (sym same)
      (failed_holds run (before ++ WriteFailed ∷ []) old
      (holds_more run before WriteFailed refl refl old (λ e. absurd cc) h) (was_now WriteFailed before))
  heard_so old heard DirectionEnded h may same =
      subst (λ (y : RunState). Holds run (before ++ DirectionEnded ∷ []) y) (sym same)
      (holds_more run before DirectionEnded refl refl old
      (λ e. closes old.ended old.closing old.half_closed (is_all_sent old) may) h)
  heard_so old heard StreamEnded h may same =
      same_so one run before (with_anew false old) heard StreamEnded refl refl (λ e. absurd cc) h same
  heard_so old heard ReadFailed h may same =
      same_so one run before (with_anew false old) heard ReadFailed refl refl (λ e. absurd cc) h same
  heard_so old heard NothingCame h may same =
      same_so one run before (with_anew true old) heard NothingCame refl refl (λ e. absurd cc) h same
  heard_so old heard (Reported lines) h may same =
      same_so one run before (with_anew false old) heard (Reported lines) refl refl (λ e. absurd cc) h same
  heard_so old heard (DeadlinePassed waited) h may same =
      same_so one run before (with_anew false old) heard (DeadlinePassed waited) refl refl (λ e. absurd cc) h same

  pub heard_closes : (old heard : RunState) (event : Told) → Holds run before old → Closes run before old
      → MayHappen old event → Changes event old heard → Closes run (before ++ event ∷ []) heard
  heard_closes old heard (Came bytes) h k may hears =
      subst (λ (y : RunState). Closes run (before ++ Came bytes ∷ []) y) (sym hears.is)
      (came_closes old bytes hears.pings hears.progress hears.standing
      (is_server_close old.plan.tested hears.standing && not old.closing) h k hears.stands refl)
  heard_closes old heard (Taken bytes) h k may hears =
      subst (λ (y : RunState). Closes run (before ++ Taken bytes ∷ []) y) (sym hears.is)
      (taken_closes old bytes hears.pings h k)
  heard_closes old heard WriteFailed h k may same =
      subst (λ (y : RunState). Closes run (before ++ WriteFailed ∷ []) y) (sym same) (record {
        closing = k.closing;
        half = λ d. was_more DirectionEnded before WriteFailed (k.half d);
        sent = λ c. refl;
      })
  heard_closes old heard DirectionEnded h k may same =
      subst (λ (y : RunState). Closes run (before ++ DirectionEnded ∷ []) y) (sym same) (record {
        closing = k.closing;
        half = λ d. was_now DirectionEnded before;
        sent = k.sent;
      })
  heard_closes old heard NothingCame h k may same =
      subst (λ (y : RunState). Closes run (before ++ NothingCame ∷ []) y) (sym same)
      (more_closes (with_anew true old) NothingCame (anew_closes old true k))
  heard_closes old heard StreamEnded h k may same =
      subst (λ (y : RunState). Closes run (before ++ StreamEnded ∷ []) y) (sym same)
      (more_closes (with_anew false old) StreamEnded (anew_closes old false k))
  heard_closes old heard ReadFailed h k may same =
      subst (λ (y : RunState). Closes run (before ++ ReadFailed ∷ []) y) (sym same)
      (more_closes (with_anew false old) ReadFailed (anew_closes old false k))
  heard_closes old heard (Reported lines) h k may same =
      subst (λ (y : RunState). Closes run (before ++ Reported lines ∷ []) y) (sym same)
      (more_closes (with_anew false old) (Reported lines) (anew_closes old false k))
  heard_closes old heard (DeadlinePassed waited) h k may same =
      subst (λ (y : RunState). Closes run (before ++ DeadlinePassed waited ∷ []) y) (sym same)
      (more_closes (with_anew false old) (DeadlinePassed waited) (anew_closes old false k))

  -- ---- and once the run has gone on

  settles_closes : (old heard new : RunState) (event : Told) → heard.ended ≡ None → Holds run before old
      → Closes run before old → MayHappen old event → Changes event old heard → Settles heard new
      → ClosesSo run (before ++ event ∷ []) new
  settles_closes old heard new event going h k may changes on = settled_closes one run (before ++ event ∷ []) heard new
      going (heard_so old heard event h may changes) (heard_closes old heard event h k may changes) on

  pub event_closes : (old heard new : RunState) (event : Told) → old.ended ≡ None → Holds run before old
      → Closes run before old → MayHappen old event → Changes event old heard
      → LeadsOnBy (outcome_of_event heard event) heard new → ClosesSo run (before ++ event ∷ []) new
  event_closes old heard new (Came bytes) going h k may hears on =
      settles_closes old heard new (Came bytes) (ap (λ (y : RunState). y.ended) hears.is
      ∙ (standing_ends one run before (is_server_close old.plan.tested hears.standing && not old.closing)
      (with_anew hears.progress (with_unanswered hears.pings (with_came bytes old))) ∙ going)) h k may hears on
  event_closes old heard new (Taken bytes) going h k may hears on =
      settles_closes old heard new (Taken bytes) (ap (λ (y : RunState). y.ended) hears.is ∙ going) h k may hears on
  event_closes old heard new WriteFailed going h k may same on =
      settles_closes old heard new WriteFailed (ap (λ (y : RunState). y.ended) same ∙ going) h k may same on
  event_closes old heard new DirectionEnded going h k may same on =
      settles_closes old heard new DirectionEnded (ap (λ (y : RunState). y.ended) same ∙ going) h k may same on
  event_closes old heard new (Reported lines) going h k may same on =
      settles_closes old heard new (Reported lines) (ap (λ (y : RunState). y.ended) same ∙ going) h k may same on
  event_closes old heard new StreamEnded going h k may same on =
      stream_end_closes (with_anew false old) new heard.write_failed going h (anew_closes old false k) may
      (subst (λ (y : RunState). Obeys (unless_failed heard.write_failed Peer) y new) same on)
  event_closes old heard new ReadFailed going h k may same on =
      let x = with_anew false old in
      ended_closes one run (before ++ ReadFailed ∷ []) x new Broken (more_closes x ReadFailed (anew_closes old false k))
      (λ c. told_ends x ReadFailed going (anew_closes old false k) may c)
      (subst (λ (y : RunState). Obeys (Ends Broken) y new) same on)
  event_closes old heard new NothingCame going h k may same on =
      silence_closes (with_anew true old) new (is_all_sent old) old.write_failed going refl refl
      (holds_more run before NothingCame refl refl old (λ e. absurd cc) h) (anew_closes old true k) may
      (subst (λ (y : RunState). Obeys (by_silence (is_all_sent y) y.write_failed (has_more y && not y.closing)) y new)
      same on)
  event_closes old heard new (DeadlinePassed waited) going h k may same on =
      deadline_closes (with_anew false old) new waited (waited || not heard.plan.timeouts) (anew_closes old false k)
      (subst (λ (y : RunState). Obeys (by_deadline (waited || not heard.plan.timeouts)) y new) same on)

-- ---- all events

pub follows_closes : OneStanding → (run : ScriptValue) (before : List Told) (start now : RunState) (told : List Told)
    → HoldsSo run before start → ClosesSo run before start → Follows start now told → ClosesSo run (before ++ told) now
follows_closes one run before start now [] h k same =
    subst (λ (l : List Told). ClosesSo run l now) (sym (append-nil before))
    (subst (λ (y : RunState). ClosesSo run before y) (sym same) k)
follows_closes one run before start now (event ∷ told) h k (next, happens, rest) =
    subst (λ (l : List Told). ClosesSo run l now) (append_assoc before (event ∷ []) told)
    (follows_closes one run (before ++ event ∷ []) next now told
    (event_so one run before start happens.heard next event happens.goes h.0 happens.may happens.changes happens.goes_on)
    (event_closes one run before start happens.heard next event happens.goes h.0 k.0 happens.may happens.changes
    happens.goes_on)
    rest)

-- the beginning: where what came with the head has a server's close it is closing
pub begins_closes : OneStanding → (run : ScriptValue) (standing : Standing)
    → StandsAs run.plan.tested run.plan.expected standing run.first
    → Closes run [] (first_state run (is_server_close run.plan.tested standing))
begins_closes one run standing stands = record {
  closing = λ s. one_close one run.plan.tested run.plan.expected standing run.first stands
      (subst (λ (l : List ℕ). HasServerClose run.plan.tested run.plan.expected l) (append-nil run.first) s);
  half = λ d. absurd cc;
  sent = λ c. ap (λ (b : Bool). is_nothing (first_piece (if b then [] else first_turn run.script))) c;
}

-- where it has ended with a server's close
pub closed_so : (run : ScriptValue) (told : List Told) (x : RunState) (how : Ended) → ClosesSo run told x
    → x.ended ≡ Some how → HasServerClose run.plan.tested run.plan.expected (got_in_all (turns_of_run x))
    → IsHalfClosed told
closed_so run told x how (k, ends) e s =
    subst (λ (o : Option Ended). EndsClosed run told x o) e ends (k.closing s)
