-- Whatever is told to a run, something is still waited for by then.
use Rattle.std.proofs.Common.{◌≡◌, ◌∙◌, ℕ, ◌⊎◌, ◌&&◌, ◌||◌, not, Bool, true, false, if◌then◌else◌, List, [], ◌∷◌, ◌++◌, refl}
use Rattle.std.proofs.Common.{sym, ap, subst, inl, inr, append_assoc, append-nil}
use Rattle.std.specs.Prelude.{Option, None, Some, zero, suc}
use Rattle.ws_scripts.specs.declared.transcript.Ended.{Ended}
use Rattle.ws_scripts.specs.declared.transcript.Ended.TheVariants.{Peer}
use Rattle.ws_scripts.specs.declared.transcript.Turn.{Turn}
use Rattle.ws_suite.specs.Growing.{new_turn}
use Rattle.ws_machines.specs.Told.{Told}
use Rattle.ws_machines.specs.Told.Told.{Came, DeadlinePassed, DirectionEnded, Ended as StreamEnded, NothingCame}
use Rattle.ws_machines.specs.Told.Told.{ReadFailed, Reported, Taken, WriteFailed}
use Rattle.ws_tester.specs.Standings.{is_server_close, stops_run}
use Rattle.ws_tester.specs.Outcomes.{AreFacts, by_deadline, by_tests, is_spent, is_turn_over, outcome_of, outcome_of_event}
use Rattle.ws_tester.specs.Outcomes.{unless_failed}
use Rattle.ws_tester.specs.RunStates.{RunState, has_more, is_all_sent, turns_of_run, with_anew, with_came, with_closing}
use Rattle.ws_tester.specs.RunStates.{with_next_turn, with_nothing_to_send, with_run_end, with_unanswered}
use Rattle.ws_tester.specs.Following.{Changes, Follows, LeadsOnBy, ScriptValue, Settles, SettlesIn}
use Rattle.ws_tester.specs.Records.{AreTurnsSoFar, HasBegunTurn, IsOver, WasAt, WasWaiting}
use Rattle.ws_tester.specs.declared.outcome.Outcome.{Outcome}
use Rattle.ws_tester.specs.declared.outcome.Outcome.TheVariants.{Rests, Next, Ends}
use Rattle.ws_tester.specs.declared.outcome.TurnFacts.{TurnFacts}
use Rattle.ws_tester.proofs.RecordsEvent.{event_so}
use Rattle.ws_tester.proofs.RecordsGoing.{at_or_last, no_more}
use Rattle.ws_tester.proofs.RecordsHolds.{Holds, HoldsSo}
use Rattle.ws_tester.proofs.RecordsOver.{not_over}
use Rattle.ws_tester.proofs.RecordsTests.{OneStanding}
use Rattle.ws_tester.proofs.RecordsTold.{was_more}

-- ---- what holds of a run as it goes on

-- whatever was told so far, in these turns
abbrev pub Waited : ScriptValue → List Told → List Turn → Type 0
Waited run told turns = (before : List Told) (event : Told) → WasAt event told before → WasWaiting run turns before

-- while it rests
abbrev pub RestsWaiting : ScriptValue → List Told → RunState → Type 0
RestsWaiting run told x = x.ended ≡ None → ¬ (IsOver run told x.past x.turn)

abbrev pub WaitsSo : ScriptValue → List Told → RunState → Type 0
WaitsSo run told x = Waited run told (turns_of_run x) × RestsWaiting run told x

-- ---- turns that go on

same_turn : (turn : Turn) → HasBegunTurn turn turn
same_turn turn = record {
  unsent = [];
  sent = sym (append-nil turn.sent);
  ungot = [];
  got = sym (append-nil turn.got);
}

further : (a b c : Turn) → HasBegunTurn a b → HasBegunTurn b c → HasBegunTurn a c
further a b c first second = record {
  unsent = first.unsent ++ second.unsent;
  sent = second.sent ∙ (ap (λ (l : List ℕ). l ++ second.unsent) first.sent ∙ append_assoc a.sent first.unsent second.unsent);
  ungot = first.ungot ++ second.ungot;
  got = second.got ∙ (ap (λ (l : List ℕ). l ++ second.ungot) first.got ∙ append_assoc a.got first.ungot second.ungot);
}

pub so_far_now : (past : List Turn) (turn : Turn) → AreTurnsSoFar past turn (past ++ turn ∷ [])
so_far_now [] turn = same_turn turn
so_far_now (first ∷ past) turn = (refl, so_far_now past turn)

pub so_far_more : (past turns more : List Turn) (turn : Turn) → AreTurnsSoFar past turn turns
    → AreTurnsSoFar past turn (turns ++ more)
so_far_more past [] more turn h = absurd h
so_far_more [] (whole ∷ later) more turn h = h
so_far_more (first ∷ past) (whole ∷ later) more turn (e, h) = (e, so_far_more past later more turn h)

pub so_far_grown : (past turns : List Turn) (turn last grown : Turn) → HasBegunTurn last grown
    → AreTurnsSoFar past turn (turns ++ last ∷ []) → AreTurnsSoFar past turn (turns ++ grown ∷ [])
so_far_grown [] [] turn last grown b h = further turn last grown h b
so_far_grown (first ∷ past) [] turn last grown b (e, h) = absurd h
so_far_grown [] (whole ∷ later) turn last grown b h = h
so_far_grown (first ∷ past) (whole ∷ later) turn last grown b (e, h) =
    (e, so_far_grown past later turn last grown b h)

module _ (run : ScriptValue) (told : List Told) where
  -- another turn has begun
  waited_more : (turns more : List Turn) → Waited run told turns → Waited run told (turns ++ more)
  waited_more turns more w = λ before event was. (
      let at : WasWaiting run turns before = w before event was in record {
        past = at.past;
        turn = at.turn;
        so_far = so_far_more at.past turns more at.turn at.so_far;
        sent = at.sent;
        got = at.got;
        waits = at.waits;
      })

  -- the last one has sent or got more
  waited_grown : (past : List Turn) (last grown : Turn) → HasBegunTurn last grown
      → Waited run told (past ++ last ∷ []) → Waited run told (past ++ grown ∷ [])
  waited_grown past last grown b w = λ before event was. (
      let at : WasWaiting run (past ++ last ∷ []) before = w before event was in record {
        past = at.past;
        turn = at.turn;
        so_far = so_far_grown at.past past at.turn last grown b at.so_far;
        sent = at.sent;
        got = at.got;
        waits = at.waits;
      })

-- ---- until the run rests

rests_tests : (final sent over spent more : Bool) → by_tests final sent over spent more ≡ Rests
    → (final ≡ false) × ((sent ≡ false) ⊎ (over ≡ false))
rests_tests true sent over spent more e = absurd cc
rests_tests false false over spent more e = (refl, inl refl)
rests_tests false true true spent true e = absurd cc
rests_tests false true true spent false e = absurd cc
rests_tests false true false spent more e = (refl, inr refl)

module _ (one : OneStanding) (run : ScriptValue) (told : List Told) where
  rests_waiting : (x : RunState) (facts : TurnFacts) → Holds run told x
      → AreFacts x.plan x.past (turns_of_run x) facts → outcome_of x facts ≡ Rests
      → ¬ (IsOver run told x.past x.turn)
  rests_waiting x facts h are e =
      let tests = rests_tests (stops_run x.plan.tested facts.standing) (is_all_sent x) (is_turn_over x facts)
      (is_spent x) (has_more x) e in
      not_over one run told x facts h are tests.0 tests.1

  ended_waits : (x now : RunState) (how : Ended) → Waited run told (turns_of_run x) → now ≡ with_run_end how x
      → WaitsSo run told now
  ended_waits x now how w same = subst (λ (y : RunState). WaitsSo run told y) (sym same)
      (w, λ going. absurd (let wrong : Some how ≡ None = going in cc))

  settled_waits_in : (n : ℕ) (x now : RunState) → Holds run told now → Waited run told (turns_of_run x)
      → SettlesIn n x now → WaitsSo run told now
  settled_waits_in zero x now h w (inl (o, same)) = subst (λ (y : RunState). WaitsSo run told y) (sym same)
      (w, λ going. rests_waiting x o.facts (subst (λ (y : RunState). Holds run told y) same h) o.are_facts o.is)
  settled_waits_in zero x now h w (inr (how, o, same)) = ended_waits x now how w same
  settled_waits_in (suc n) x now h w (o, rest) =
      settled_waits_in n (with_next_turn x) now h (waited_more run told (turns_of_run x) (new_turn ∷ []) w) rest

  pub settled_waits : (x now : RunState) → Holds run told now → Waited run told (turns_of_run x) → Settles x now
      → WaitsSo run told now
  settled_waits x now h w (n, s) = settled_waits_in n x now h w s

  -- what an event decides by itself, or leaves to the table
  leads_waits : (by : Option Outcome) (x now : RunState) → Holds run told now → Waited run told (turns_of_run x)
      → (by ≡ Some Rests → ¬ (IsOver run told x.past x.turn)) → LeadsOnBy by x now → WaitsSo run told now
  leads_waits None x now h w rests on = settled_waits x now h w on
  leads_waits (Some Rests) x now h w rests same = subst (λ (y : RunState). WaitsSo run told y) (sym same)
      (w, λ going. rests refl)
  leads_waits (Some Next) x now h w rests on =
      settled_waits (with_next_turn x) now h (waited_more run told (turns_of_run x) (new_turn ∷ []) w) on
  leads_waits (Some (Ends how)) x now h w rests same = ended_waits x now how w same

-- ---- one event

-- the turns go on
abbrev GoesOn : RunState → RunState → Type 0
GoesOn old heard = (heard.past ≡ old.past) × HasBegunTurn old.turn heard.turn

standing_goes : (b : Bool) (x : RunState)
    → ((if b then with_closing (with_nothing_to_send x) else x).past ≡ x.past)
    × ((if b then with_closing (with_nothing_to_send x) else x).turn ≡ x.turn)
standing_goes true x = (refl, refl)
standing_goes false x = (refl, refl)

same_goes : (old x heard : RunState) → x.past ≡ old.past → x.turn ≡ old.turn → heard ≡ x → GoesOn old heard
same_goes old x heard p t same = (
  ap (λ (y : RunState). y.past) same ∙ p,
  subst (λ (turn : Turn). HasBegunTurn old.turn turn) (sym (ap (λ (y : RunState). y.turn) same ∙ t)) (same_turn old.turn),
)

pub event_goes : (event : Told) (old heard : RunState) → Changes event old heard → GoesOn old heard
event_goes (Came bytes) old heard hears =
    let x = with_anew hears.progress (with_unanswered hears.pings (with_came bytes old)) in
    let kept = standing_goes (is_server_close old.plan.tested hears.standing && not old.closing) x in (
      ap (λ (y : RunState). y.past) hears.is ∙ kept.0,
      subst (λ (turn : Turn). HasBegunTurn old.turn turn) (sym (ap (λ (y : RunState). y.turn) hears.is ∙ kept.1))
          (record { unsent = []; sent = sym (append-nil old.turn.sent); ungot = bytes; got = refl }),
    )
event_goes (Taken bytes) old heard hears = (
  ap (λ (y : RunState). y.past) hears.is,
  subst (λ (turn : Turn). HasBegunTurn old.turn turn) (sym (ap (λ (y : RunState). y.turn) hears.is))
      (record { unsent = bytes; sent = refl; ungot = []; got = sym (append-nil old.turn.got) }),
)
event_goes StreamEnded old heard same = same_goes old (with_anew false old) heard refl refl same
event_goes ReadFailed old heard same = same_goes old (with_anew false old) heard refl refl same
event_goes NothingCame old heard same = same_goes old (with_anew true old) heard refl refl same
event_goes WriteFailed old heard same = (
  ap (λ (y : RunState). y.past) same,
  subst (λ (turn : Turn). HasBegunTurn old.turn turn) (sym (ap (λ (y : RunState). y.turn) same)) (same_turn old.turn),
)
event_goes DirectionEnded old heard same = (
  ap (λ (y : RunState). y.past) same,
  subst (λ (turn : Turn). HasBegunTurn old.turn turn) (sym (ap (λ (y : RunState). y.turn) same)) (same_turn old.turn),
)
event_goes (Reported lines) old heard same = same_goes old (with_anew false old) heard refl refl same
event_goes (DeadlinePassed waited) old heard same = same_goes old (with_anew false old) heard refl refl same

-- only behind a wait in vain a run rests by the event itself, and then the turn is the same
by_end : (failed : Bool) → Some (unless_failed failed Peer) ≡ Some Rests → ⊥
by_end true e = cc
by_end false e = cc

by_limit : (enough : Bool) → Some (by_deadline enough) ≡ Some Rests → ⊥
by_limit true e = cc
by_limit false e = cc

rests_same : (event : Told) (old heard : RunState) → Changes event old heard → outcome_of_event heard event ≡ Some Rests
    → (heard.past ≡ old.past) × (heard.turn ≡ old.turn)
rests_same (Came bytes) old heard hears e = absurd cc
rests_same (Taken bytes) old heard hears e = absurd cc
rests_same StreamEnded old heard same e = absurd (by_end heard.write_failed e)
rests_same ReadFailed old heard same e = absurd cc
rests_same NothingCame old heard same e = (ap (λ (y : RunState). y.past) same, ap (λ (y : RunState). y.turn) same)
rests_same WriteFailed old heard same e = absurd cc
rests_same DirectionEnded old heard same e = absurd cc
rests_same (Reported lines) old heard same e = absurd cc
rests_same (DeadlinePassed waited) old heard same e = absurd (by_limit (waited || not heard.plan.timeouts) e)

module _ (run : ScriptValue) (before : List Told) (event : Told) where
  -- what isn't over isn't over by a further event alone
  over_before : (past : List Turn) (turn : Turn) → IsOver run (before ++ event ∷ []) past turn
      → IsOver run before past turn
  over_before past turn (inl stops) = inl stops
  over_before past turn (inr (u, why)) = inr (
    record { going = u.going; works = λ was. u.works (was_more WriteFailed before event was) },
    why,
  )

  told_waits : (old : RunState) → old.ended ≡ None → Holds run before old → WaitsSo run before old
      → Waited run (before ++ event ∷ []) (turns_of_run old)
  told_waits old going h (w, rests) = λ at told was. pick at told (at_or_last before at was.after event told was.parts)
    where
      now : WasWaiting run (turns_of_run old) before
      now = record {
        past = old.past;
        turn = old.turn;
        so_far = so_far_now old.past old.turn;
        sent = h.sent;
        got = h.got;
        waits = rests going;
      }

      pick : (at : List Told) (told : Told) → WasAt told before at ⊎ ((at ≡ before) × (event ≡ told))
          → WasWaiting run (turns_of_run old) at
      pick at told (inl was) = w at told was
      pick at told (inr (all, is)) = subst (λ (l : List Told). WasWaiting run (turns_of_run old) l) (sym all) now

  pub event_waits : OneStanding → (old heard new : RunState) → old.ended ≡ None → Holds run before old
      → WaitsSo run before old → Changes event old heard → LeadsOnBy (outcome_of_event heard event) heard new
      → Holds run (before ++ event ∷ []) new → WaitsSo run (before ++ event ∷ []) new
  event_waits one old heard new going h w changes on holds =
      leads_waits one run (before ++ event ∷ []) (outcome_of_event heard event) heard new holds waited rests on
    where
      goes : GoesOn old heard
      goes = event_goes event old heard changes

      waited : Waited run (before ++ event ∷ []) (turns_of_run heard)
      waited = subst (λ (past : List Turn). Waited run (before ++ event ∷ []) (past ++ heard.turn ∷ [])) (sym goes.0)
          (waited_grown run (before ++ event ∷ []) old.past old.turn heard.turn goes.1 (told_waits old going h w))

      rests : outcome_of_event heard event ≡ Some Rests → ¬ (IsOver run (before ++ event ∷ []) heard.past heard.turn)
      rests e = λ over. (let same = rests_same event old heard changes e in
          w.1 going (over_before old.past old.turn
          (subst (λ (turn : Turn). IsOver run (before ++ event ∷ []) old.past turn) same.1
          (subst (λ (past : List Turn). IsOver run (before ++ event ∷ []) past heard.turn) same.0 over))))

-- ---- all events

pub follows_waits : OneStanding → (run : ScriptValue) (before : List Told) (start now : RunState) (told : List Told)
    → HoldsSo run before start → WaitsSo run before start → Follows start now told → WaitsSo run (before ++ told) now
follows_waits one run before start now [] h w same =
    subst (λ (l : List Told). WaitsSo run l now) (sym (append-nil before))
    (subst (λ (y : RunState). WaitsSo run before y) (sym same) w)
follows_waits one run before start now (event ∷ told) h w (next, happens, rest) =
    let holds : HoldsSo run (before ++ event ∷ []) next =
    event_so one run before start happens.heard next event happens.goes h.0 happens.may happens.changes happens.goes_on in
    subst (λ (l : List Told). WaitsSo run l now) (append_assoc before (event ∷ []) told)
    (follows_waits one run (before ++ event ∷ []) next now told holds
    (event_waits run before event one start happens.heard next happens.goes h.0 w happens.changes happens.goes_on
    holds.0)
    rest)

-- nothing was told yet
pub nothing_waited : (run : ScriptValue) (turns : List Turn) → Waited run [] turns
nothing_waited run turns = λ before event was. absurd (no_more before was.after event was.parts)
