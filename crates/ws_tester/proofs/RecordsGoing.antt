-- What is sent is sent while what was got has neither a close nor a fault, and so is each further turn.
use Rattle.std.proofs.Common.{◌≡◌, ◌∙◌, ℕ, ◌<◌, ◌≤◌, ◌⊎◌, ◌&&◌, ◌||◌, not, Bool, true, false, if◌then◌else◌, List, []}
use Rattle.std.proofs.Common.{◌∷◌, ◌++◌, length, take, refl, sym, ap, subst, inl, inr, arith, append_assoc, append-nil}
use Rattle.std.proofs.Common.{length-append}
use Rattle.std.proofs.lemmas.Bool.{cases_lt}
use Rattle.std.proofs.lemmas.List.{take-append-le, take_all}
use Rattle.std.specs.Prelude.{None, Some, zero, suc}
use Rattle.ws_wire.specs.declared.role.Role.{Role}
use Rattle.ws_wire.specs.declared.role.Role.TheVariants.{Client, Server}
use Rattle.ws_scripts.specs.declared.transcript.Ended.{Ended}
use Rattle.ws_scripts.specs.declared.transcript.Ended.TheVariants.{Tester, Peer, Broken}
use Rattle.ws_scripts.specs.declared.transcript.Turn.{Turn}
use Rattle.ws_machines.specs.Told.{Told}
use Rattle.ws_machines.specs.Told.Told.{Came, DeadlinePassed, DirectionEnded, Ended as StreamEnded, NothingCame}
use Rattle.ws_machines.specs.Told.Told.{ReadFailed, Reported, Taken, WriteFailed}
use Rattle.ws_tester.specs.Standings.{StandsAs, is_server_close, stops_run}
use Rattle.ws_tester.specs.Outcomes.{AreFacts, by_deadline, by_silence, by_tests, got_in_all, has_come, has_end, is_spent}
use Rattle.ws_tester.specs.Outcomes.{is_turn_over, next_or_end, outcome_of, outcome_of_event, unless_failed}
use Rattle.ws_tester.specs.Outgoings.{first_piece}
use Rattle.ws_tester.specs.RunStates.{PlanValue, RunState, has_more, is_all_sent, is_nothing, turns_of_run, with_anew}
use Rattle.ws_tester.specs.RunStates.{with_came, with_closing, with_next_turn, with_nothing_to_send, with_run_end}
use Rattle.ws_tester.specs.RunStates.{with_unanswered}
use Rattle.ws_tester.specs.Following.{Changes, Follows, LeadsOnBy, MayHappen, Obeys, ScriptValue, Settles}
use Rattle.ws_tester.specs.Following.{SettlesIn}
use Rattle.ws_tester.specs.Records.{IsSentInTime, WasAt}
use Rattle.ws_tester.specs.declared.outcome.Outcome.TheVariants.{Rests, Ends}
use Rattle.ws_tester.specs.declared.outcome.TurnFacts.{TurnFacts}
use Rattle.ws_tester.specs.declared.standing.Standing.{Standing}
use Rattle.ws_tester.specs.declared.standing.Standing.TheVariants.{Going, Closed, Faulty}
use Rattle.ws_tester.proofs.OutcomeLemmas.{next_come, next_more, next_sent}
use Rattle.ws_tester.proofs.RecordsEvent.{event_so, silence_waits, standing_ends}
use Rattle.ws_tester.proofs.RecordsCloses.{Closes, ClosesSo, event_closes, heard_closes, heard_so}
use Rattle.ws_tester.proofs.RecordsCloses.{next_closes, none_both, not_is}
use Rattle.ws_tester.proofs.RecordsHolds.{Holds, HoldsSo, holds_more}
use Rattle.ws_tester.proofs.RecordsSettled.{next_so, next_waits}
use Rattle.ws_tester.proofs.RecordsTests.{OneStanding, both_true, is_false, open_where_come}

-- ---- what holds of a run as it goes on

abbrev pub IsGoing : ScriptValue → List ℕ → Type 0
IsGoing run got = StandsAs run.plan.tested run.plan.expected Going got

-- Each byte was taken in time, and behind each of the turns before another one was sent in time.
pub record Went (run : ScriptValue) (told : List Told) (past : List Turn) : Type 0 where
  pub sent : (before : List Told) (byte : ℕ) (bytes : List ℕ) → WasAt (Taken (byte ∷ bytes)) told before
      → IsSentInTime run before
  pub turns : (n : ℕ) → 0 < n → n ≤ length past → IsGoing run (got_in_all (take n past))

-- while it rests and no close was got, nor was a fault
abbrev pub RestsGoing : ScriptValue → RunState → Type 0
RestsGoing run x = x.ended ≡ None → x.closing ≡ false → IsGoing run (got_in_all (turns_of_run x))

abbrev pub WentSo : ScriptValue → List Told → RunState → Type 0
WentSo run told x = Went run told x.past × RestsGoing run x

-- ---- tests

going_by : (tested : Role) (standing : Standing) → stops_run tested standing ≡ false
    → is_server_close tested standing ≡ false → standing ≡ Going
going_by tested Going s c = refl
going_by Server Closed s c = absurd cc
going_by Client Closed s c = absurd cc
going_by tested Faulty s c = absurd cc

no_end : (standing : Standing) → has_end standing ≡ false → standing ≡ Going
no_end Going e = refl
no_end Closed e = absurd cc
no_end Faulty e = absurd cc

first_not : (a b : Bool) → (not a && b) ≡ true → a ≡ false
first_not true b e = absurd cc
first_not false b e = refl

rests_final : (final sent over spent more : Bool) → by_tests final sent over spent more ≡ Rests → final ≡ false
rests_final true sent over spent more e = absurd cc
rests_final false sent over spent more e = refl

-- ---- what was told, and one event more

abbrev tail_of : List Told → List Told
tail_of [] = []
tail_of (x ∷ xs) = xs

abbrev head_or : Told → List Told → Told
head_or y [] = y
head_or y (x ∷ xs) = x

pub no_more : (before after : List Told) (e : Told) → [] ≡ before ++ e ∷ after → ⊥
no_more [] after e h = cc
no_more (b ∷ before) after e h = cc

pub at_or_last : (told before after : List Told) (x e : Told) → told ++ x ∷ [] ≡ before ++ e ∷ after
    → WasAt e told before ⊎ ((before ≡ told) × (x ≡ e))
at_or_last [] [] after x e h = inr (refl, ap (λ (l : List Told). head_or x l) h)
at_or_last [] (b ∷ before) after x e h = absurd (no_more before after e (ap (λ (l : List Told). tail_of l) h))
at_or_last (t ∷ told) [] after x e h = inl (record {
  after = told;
  parts = ap (λ (y : Told). y ∷ told) (ap (λ (l : List Told). head_or t l) h);
})
at_or_last (t ∷ told) (b ∷ before) after x e h =
    pick (at_or_last told before after x e (ap (λ (l : List Told). tail_of l) h))
  where
    same : t ≡ b
    same = ap (λ (l : List Told). head_or t l) h

    pick : WasAt e told before ⊎ ((before ≡ told) × (x ≡ e))
        → WasAt e (t ∷ told) (b ∷ before) ⊎ ((b ∷ before ≡ t ∷ told) × (x ≡ e))
    pick (inl at) = inl (record {
      after = at.after;
      parts = ap (λ (y : Told). y ∷ told) same ∙ ap (λ (l : List Told). b ∷ l) at.parts;
    })
    pick (inr (all, is)) = inr (
      ap (λ (y : Told). y ∷ before) (sym same) ∙ ap (λ (l : List Told). t ∷ l) all,
      is,
    )

-- the bytes of what was taken
abbrev taken_bytes : Told → List ℕ
taken_bytes (Taken bytes) = bytes
taken_bytes _ = []

no_bytes : (byte : ℕ) (bytes : List ℕ) → [] ≡ byte ∷ bytes → ⊥
no_bytes byte bytes e = cc

-- ---- until the run rests

module _ (one : OneStanding) (run : ScriptValue) (told : List Told) where
  -- a run that rests, and that isn't closing, has got neither a close nor a fault
  rests_going : (x : RunState) (facts : TurnFacts) → Holds run told x → Closes run told x
      → AreFacts x.plan x.past (turns_of_run x) facts → outcome_of x facts ≡ Rests → RestsGoing run x
  rests_going x facts h k are e = λ going unclosed.
      subst (λ (s : Standing). StandsAs run.plan.tested run.plan.expected s (got_in_all (turns_of_run x)))
      (going_by run.plan.tested facts.standing unstopped
      (is_false (is_server_close run.plan.tested facts.standing) (λ is. (let wrong : true ≡ false =
      sym (k.closing (facts.standing, is, stands)) ∙ unclosed in cc)))) stands
    where
      stands : StandsAs run.plan.tested run.plan.expected facts.standing (got_in_all (turns_of_run x))
      stands = subst (λ (plan : PlanValue).
          StandsAs plan.tested plan.expected facts.standing (got_in_all (turns_of_run x))) h.plan_is are.standing

      unstopped : stops_run run.plan.tested facts.standing ≡ false
      unstopped = subst (λ (plan : PlanValue). stops_run plan.tested facts.standing ≡ false) h.plan_is
          (rests_final (stops_run x.plan.tested facts.standing) (is_all_sent x) (is_turn_over x facts) (is_spent x)
          (has_more x) e)

  -- nor has one whose next turn begins
  next_going : (x : RunState) (facts : TurnFacts) → Holds run told x
      → AreFacts x.plan x.past (turns_of_run x) facts → has_come x facts ≡ true
      → IsGoing run (got_in_all (turns_of_run x))
  next_going x facts h are come = subst (λ (plan : PlanValue).
      StandsAs plan.tested plan.expected Going (got_in_all (turns_of_run x))) h.plan_is
      (subst (λ (s : Standing). StandsAs x.plan.tested x.plan.expected s (got_in_all (turns_of_run x)))
      (no_end facts.standing (first_not (has_end facts.standing) _ come)) are.standing)

  next_went : (x : RunState) → Went run told x.past → IsGoing run (got_in_all (turns_of_run x))
      → Went run told (turns_of_run x)
  next_went x w going = record { sent = w.sent; turns = λ n some within. pick n some (cases_lt (length x.past) n) }
    where
      pick : (n : ℕ) → 0 < n → (length x.past < n) ⊎ (n ≤ length x.past)
          → IsGoing run (got_in_all (take n (turns_of_run x)))
      pick n some (inl over) = subst (λ (l : List Turn). IsGoing run (got_in_all l))
          (sym (take_all n (turns_of_run x) (omega (arith, over, length-append x.past (x.turn ∷ []))))) going
      pick n some (inr within) = subst (λ (l : List Turn). IsGoing run (got_in_all l))
          (sym (take-append-le n x.past (x.turn ∷ []) within)) (w.turns n some within)

  ended_went : (x now : RunState) (how : Ended) → Went run told x.past → now ≡ with_run_end how x
      → WentSo run told now
  ended_went x now how w same = subst (λ (y : RunState). WentSo run told y) (sym same)
      (w, λ going unclosed. absurd (let wrong : Some how ≡ None = going in cc))

  settled_went_in : (n : ℕ) (x now : RunState) → x.ended ≡ None → Holds run told x → Closes run told x
      → Went run told x.past → SettlesIn n x now → WentSo run told now
  settled_went_in zero x now going h k w (inl (o, same)) = subst (λ (y : RunState). WentSo run told y) (sym same)
      (w, rests_going x o.facts h k o.are_facts o.is)
  settled_went_in zero x now going h k w (inr (how, o, same)) = ended_went x now how w same
  settled_went_in (suc n) x now going h k w (o, rest) =
      let open_now = open_where_come one run told x o.facts h o.are_facts (next_come x o.facts o.is) in
      settled_went_in n (with_next_turn x) now going
      (next_so one run told x going (next_more x o.facts o.is) open_now.0 open_now.1 (next_sent x o.facts o.is)
      (next_waits one run told x o.facts h o.are_facts o.is) h) (next_closes one run told x k open_now.0)
      (next_went x w (next_going x o.facts h o.are_facts (next_come x o.facts o.is))) rest

  pub settled_went : (x now : RunState) → x.ended ≡ None → Holds run told x → Closes run told x
      → Went run told x.past → Settles x now → WentSo run told now
  settled_went x now going h k w (n, s) = settled_went_in n x now going h k w s

-- ---- one event

module _ (one : OneStanding) (run : ScriptValue) (before : List Told) where
  -- an event by which nothing was taken
  other_went : (past : List Turn) (event : Told) → taken_bytes event ≡ [] → Went run before past
      → Went run (before ++ event ∷ []) past
  other_went past event none w = record {
    sent = λ at byte bytes was. pick at byte bytes
        (at_or_last before at was.after event (Taken (byte ∷ bytes)) was.parts);
    turns = w.turns;
  }
    where
      pick : (at : List Told) (byte : ℕ) (bytes : List ℕ)
          → WasAt (Taken (byte ∷ bytes)) before at ⊎ ((at ≡ before) × (event ≡ Taken (byte ∷ bytes)))
          → IsSentInTime run at
      pick at byte bytes (inl was) = w.sent at byte bytes was
      pick at byte bytes (inr (all, is)) = absurd (no_bytes byte bytes
          (sym none ∙ ap (λ (e : Told). taken_bytes e) is))

  -- and one by which bytes were
  taken_went : (old : RunState) (bytes unsent : List ℕ) → old.ended ≡ None → Holds run before old
      → Closes run before old → first_piece old.outgoing.rest ≡ bytes ++ unsent → WentSo run before old
      → Went run (before ++ Taken bytes ∷ []) old.past
  taken_went old bytes unsent going h k e (w, rests) = record {
    sent = λ at byte others was. pick at byte others
        (at_or_last before at was.after (Taken bytes) (Taken (byte ∷ others)) was.parts);
    turns = w.turns;
  }
    where
      unsent_now : (byte : ℕ) (others : List ℕ) → bytes ≡ byte ∷ others → is_all_sent old ≡ false
      unsent_now byte others is = ap (λ (l : List ℕ). is_nothing l) (e ∙ ap (λ (l : List ℕ). l ++ unsent) is)

      in_time : (closing : Bool) → old.closing ≡ closing → is_all_sent old ≡ false → IsSentInTime run before
      in_time false c not_sent = subst (λ (l : List ℕ). IsGoing run l) h.got (rests going c)
      in_time true c not_sent = none_both (is_all_sent old) (IsSentInTime run before) (k.sent c) not_sent

      pick : (at : List Told) (byte : ℕ) (others : List ℕ)
          → WasAt (Taken (byte ∷ others)) before at ⊎ ((at ≡ before) × (Taken bytes ≡ Taken (byte ∷ others)))
          → IsSentInTime run at
      pick at byte others (inl was) = w.sent at byte others was
      pick at byte others (inr (all, is)) = subst (λ (l : List Told). IsSentInTime run l) (sym all)
          (in_time old.closing refl (unsent_now byte others (ap (λ (x : Told). taken_bytes x) is)))

  standing_past : (b : Bool) (x : RunState)
      → (if b then with_closing (with_nothing_to_send x) else x).past ≡ x.past
  standing_past true x = refl
  standing_past false x = refl

  silence_went : (x now : RunState) (sent failed : Bool) → x.ended ≡ None → is_all_sent x ≡ sent
      → x.write_failed ≡ failed → Holds run (before ++ NothingCame ∷ []) x → Closes run (before ++ NothingCame ∷ []) x
      → WentSo run (before ++ NothingCame ∷ []) x → Obeys (by_silence sent failed (has_more x && not x.closing)) x now
      → WentSo run (before ++ NothingCame ∷ []) now
  silence_went x now false failed going s f h k w obeys =
      subst (λ (y : RunState). WentSo run (before ++ NothingCame ∷ []) y) (sym obeys) w
  silence_went x now true true going s f h k w obeys =
      ended_went one run (before ++ NothingCame ∷ []) x now Broken w.0 obeys
  silence_went x now true false going s f h k w obeys = pick (has_more x && not x.closing) refl obeys
    where
      pick : (more : Bool) → (has_more x && not x.closing) ≡ more → Obeys (next_or_end more) x now
          → WentSo run (before ++ NothingCame ∷ []) now
      pick true e obey =
          let both : (has_more x ≡ true) × (not x.closing ≡ true) = both_true (has_more x) (not x.closing) e in
          let unclosed : x.closing ≡ false = not_is x.closing both.1 in
          settled_went one run (before ++ NothingCame ∷ []) (with_next_turn x) now going
          (next_so one run (before ++ NothingCame ∷ []) x going both.0 unclosed f s
          (silence_waits one run before x h) h)
          (next_closes one run (before ++ NothingCame ∷ []) x k unclosed)
          (next_went one run (before ++ NothingCame ∷ []) x w.0 (w.1 going unclosed)) obey
      pick false e obey = ended_went one run (before ++ NothingCame ∷ []) x now Tester w.0 obey

  unless_went : (x now : RunState) (event : Told) (failed : Bool) → Went run (before ++ event ∷ []) x.past
      → Obeys (unless_failed failed Peer) x now → WentSo run (before ++ event ∷ []) now
  unless_went x now event true w obeys = ended_went one run (before ++ event ∷ []) x now Broken w obeys
  unless_went x now event false w obeys = ended_went one run (before ++ event ∷ []) x now Peer w obeys

  deadline_went : (x now : RunState) (event : Told) (b : Bool) → Went run (before ++ event ∷ []) x.past
      → Obeys (by_deadline b) x now → WentSo run (before ++ event ∷ []) now
  deadline_went x now event true w obeys = ended_went one run (before ++ event ∷ []) x now Tester w obeys
  deadline_went x now event false w obeys = ended_went one run (before ++ event ∷ []) x now Broken w obeys

  event_went : (old heard new : RunState) (event : Told) → old.ended ≡ None → Holds run before old
      → Closes run before old → WentSo run before old → MayHappen old event → Changes event old heard
      → LeadsOnBy (outcome_of_event heard event) heard new → WentSo run (before ++ event ∷ []) new
  event_went old heard new (Came bytes) going h k w may hears on =
      let x = with_anew hears.progress (with_unanswered hears.pings (with_came bytes old)) in
      let closing = is_server_close old.plan.tested hears.standing && not old.closing in
      settled_went one run (before ++ Came bytes ∷ []) heard new
      (ap (λ (y : RunState). y.ended) hears.is ∙ (standing_ends one run before closing x ∙ going))
      (heard_so one run before old heard (Came bytes) h may hears)
      (heard_closes one run before old heard (Came bytes) h k may hears)
      (subst (λ (l : List Turn). Went run (before ++ Came bytes ∷ []) l)
      (sym (ap (λ (y : RunState). y.past) hears.is ∙ standing_past closing x))
      (other_went old.past (Came bytes) refl w.0)) on
  event_went old heard new (Taken bytes) going h k w (unsent, e) hears on =
      settled_went one run (before ++ Taken bytes ∷ []) heard new (ap (λ (y : RunState). y.ended) hears.is ∙ going)
      (heard_so one run before old heard (Taken bytes) h (unsent, e) hears)
      (heard_closes one run before old heard (Taken bytes) h k (unsent, e) hears)
      (subst (λ (y : RunState). Went run (before ++ Taken bytes ∷ []) y.past) (sym hears.is)
      (taken_went old bytes unsent going h k e w)) on
  event_went old heard new StreamEnded going h k w may same on = unless_went (with_anew false old) new StreamEnded
      heard.write_failed (other_went old.past StreamEnded refl w.0)
      (subst (λ (y : RunState). Obeys (unless_failed heard.write_failed Peer) y new) same on)
  event_went old heard new ReadFailed going h k w may same on =
      ended_went one run (before ++ ReadFailed ∷ []) (with_anew false old) new Broken
      (other_went old.past ReadFailed refl w.0) (subst (λ (y : RunState). Obeys (Ends Broken) y new) same on)
  event_went old heard new NothingCame going h k w may same on =
      silence_went (with_anew true old) new (is_all_sent old) old.write_failed going refl refl
      (holds_more run before NothingCame refl refl old (λ e. absurd cc) h)
      (subst (λ (y : RunState). Closes run (before ++ NothingCame ∷ []) y) same
      (heard_closes one run before old heard NothingCame h k may same))
      (other_went old.past NothingCame refl w.0, w.1)
      (subst (λ (y : RunState). Obeys (by_silence (is_all_sent y) y.write_failed (has_more y && not y.closing)) y new)
      same on)
  event_went old heard new WriteFailed going h k w may same on =
      settled_went one run (before ++ WriteFailed ∷ []) heard new (ap (λ (y : RunState). y.ended) same ∙ going)
      (heard_so one run before old heard WriteFailed h may same)
      (heard_closes one run before old heard WriteFailed h k may same)
      (subst (λ (y : RunState). Went run (before ++ WriteFailed ∷ []) y.past) (sym same)
      (other_went old.past WriteFailed refl w.0)) on
  event_went old heard new DirectionEnded going h k w may same on =
      settled_went one run (before ++ DirectionEnded ∷ []) heard new (ap (λ (y : RunState). y.ended) same ∙ going)
      (heard_so one run before old heard DirectionEnded h may same)
      (heard_closes one run before old heard DirectionEnded h k may same)
      (subst (λ (y : RunState). Went run (before ++ DirectionEnded ∷ []) y.past) (sym same)
      (other_went old.past DirectionEnded refl w.0)) on
  event_went old heard new (Reported lines) going h k w may same on =
      settled_went one run (before ++ Reported lines ∷ []) heard new (ap (λ (y : RunState). y.ended) same ∙ going)
      (heard_so one run before old heard (Reported lines) h may same)
      (heard_closes one run before old heard (Reported lines) h k may same)
      (subst (λ (y : RunState). Went run (before ++ Reported lines ∷ []) y.past) (sym same)
      (other_went old.past (Reported lines) refl w.0)) on
  event_went old heard new (DeadlinePassed waited) going h k w may same on =
      deadline_went (with_anew false old) new (DeadlinePassed waited) (waited || not heard.plan.timeouts)
      (other_went old.past (DeadlinePassed waited) refl w.0)
      (subst (λ (y : RunState). Obeys (by_deadline (waited || not heard.plan.timeouts)) y new) same on)

-- ---- all events

pub follows_went : OneStanding → (run : ScriptValue) (before : List Told) (start now : RunState) (told : List Told)
    → HoldsSo run before start → ClosesSo run before start → WentSo run before start → Follows start now told
    → WentSo run (before ++ told) now
follows_went one run before start now [] h k w same =
    subst (λ (l : List Told). WentSo run l now) (sym (append-nil before))
    (subst (λ (y : RunState). WentSo run before y) (sym same) w)
follows_went one run before start now (event ∷ told) h k w (next, happens, rest) =
    subst (λ (l : List Told). WentSo run l now) (append_assoc before (event ∷ []) told)
    (follows_went one run (before ++ event ∷ []) next now told
    (event_so one run before start happens.heard next event happens.goes h.0 happens.may happens.changes happens.goes_on)
    (event_closes one run before start happens.heard next event happens.goes h.0 k.0 happens.may happens.changes
    happens.goes_on)
    (event_went one run before start happens.heard next event happens.goes h.0 k.0 w happens.may happens.changes
    happens.goes_on)
    rest)

-- nothing was told yet
pub nothing_went : (run : ScriptValue) → Went run [] []
nothing_went run = record {
  sent = λ before byte bytes was. absurd (no_more before was.after (Taken (byte ∷ bytes)) was.parts);
  turns = λ n some within. absurd (let wrong : n ≤ 0 = within in omega (arith, some, wrong));
}
