-- What is recorded of a run, by all that it was told.
use Rattle.std.proofs.Common.{◌≡◌, ◌∙◌, ℕ, ◌+◌, ◌<◌, ◌≤◌, ◌⊎◌, ◌||◌, Bool, true, false, if◌then◌else◌, List, [], ◌∷◌, ◌++◌}
use Rattle.std.proofs.Common.{length, take, map, refl, sym, ap, subst, arith, inl, inr, append_assoc, append-nil}
use Rattle.std.proofs.Common.{length-append}
use Rattle.std.proofs.lemmas.List.{map-append, take-append-le}
use Rattle.std.specs.Prelude.{Option, None, Some}
use Rattle.std.specs.List.{concat}
use Rattle.ws_scripts.specs.declared.transcript.Ended.{Ended}
use Rattle.ws_scripts.specs.declared.transcript.Ended.TheVariants.{Tester, Peer, Broken}
use Rattle.ws_scripts.specs.declared.transcript.Turn.{Turn}
use Rattle.ws_scripts.specs.declared.transcript.Transcript.{Transcript}
use Rattle.ws_suite.specs.Evidence.{sent_turns}
use Rattle.ws_suite.specs.Growing.{new_turn}
use Rattle.ws_machines.specs.Told.{Told}
use Rattle.ws_machines.specs.Told.Told.{NothingCame}
use Rattle.ws_tester.specs.Standings.{HasServerClose, StandsAs, is_server_close}
use Rattle.ws_tester.specs.Outcomes.{got_in_all, sent_in_all}
use Rattle.ws_tester.specs.Outgoings.{HaveBytes, Pieces, after_first, first_turn}
use Rattle.ws_tester.specs.RunStates.{RunState, is_all_sent, recorded, turns_of_run, with_run_end}
use Rattle.ws_tester.specs.Following.{BeginsRun, BeginsBy, Follows, ScriptValue, first_state, has_items}
use Rattle.ws_tester.specs.Records.{IsBrokenBy, IsEndedByTester, IsHalfClosed, IsRecordOf, IsWaitedFor, WasAt, WasLast}
use Rattle.ws_tester.specs.Records.{AreTurnsSoFar, IsWaitOver, is_last_told}
use Rattle.ws_tester.specs.declared.standing.Standing.{Standing}
use Rattle.ws_tester.proofs.RecordsHolds.{Holds, EndsBy, HoldsSo}
use Rattle.ws_tester.proofs.RecordsTests.{OneStanding}
use Rattle.ws_tester.proofs.RecordsSettled.{settled}
use Rattle.ws_tester.proofs.RecordsEvent.{event_so}
use Rattle.ws_tester.proofs.RecordsGoing.{IsGoing, Went, WentSo, follows_went, no_more, nothing_went, settled_went}
use Rattle.ws_tester.proofs.RecordsLast.{last_is, none_behind}
use Rattle.ws_tester.proofs.RecordsOver.{sent_whole}
use Rattle.ws_tester.proofs.RecordsSilence.{IsAt, at_event, silence_over, so_far_event, so_far_follows}
use Rattle.ws_tester.proofs.RecordsWaiting.{Waited, WaitsSo, follows_waits, nothing_waited, settled_waits, so_far_now}
use Rattle.ws_tester.proofs.RecordsCloses.{ClosesSo, begins_closes, closed_so, follows_closes, settled_closes}

-- ---- all events

pub follows_so : OneStanding → (run : ScriptValue) (before : List Told) (start now : RunState) (told : List Told)
    → HoldsSo run before start → Follows start now told → HoldsSo run (before ++ told) now
follows_so one run before start now [] h same =
    subst (λ (l : List Told). HoldsSo run l now) (sym (append-nil before))
    (subst (λ (y : RunState). HoldsSo run before y) (sym same) h)
follows_so one run before start now (event ∷ told) h (next, happens, rest) =
    subst (λ (l : List Told). HoldsSo run l now) (append_assoc before (event ∷ []) told)
    (follows_so one run (before ++ event ∷ []) next now told
    (event_so one run before start happens.heard next event happens.goes h.0 happens.may happens.changes
    happens.goes_on)
    rest)

-- a turn that is all sent isn't waited for any more once nothing came
pub follows_silent : OneStanding → (run : ScriptValue) (start now : RunState) (told before : List Told)
    → HoldsSo run [] start → Follows start now told → WasAt NothingCame told before
    → IsWaitOver run (turns_of_run now) told before
follows_silent one run start now told before holds follows was = record {
  past = at.old.past;
  turn = at.old.turn;
  so_far = so_far_follows at.old.past at.old.turn at.new now was.after at.rest
      (so_far_event at.old.past at.old.turn at.old at.new NothingCame at.happens (so_far_now at.old.past at.old.turn));
  sent = h.sent;
  got = h.got;
  over = λ later e. pick (silence_over at.old at.new at.happens (all_sent later e));
}
  where
    at : IsAt start now before was.after NothingCame
    at = at_event start now before was.after NothingCame (subst (λ (l : List Told). Follows start now l) was.parts follows)

    h : Holds run before at.old
    h = (follows_so one run [] start at.old before holds at.told).0

    all_sent : (later : List (List ℕ)) → map concat run.script ≡ sent_turns (turns_of_run at.old) ++ later
        → is_all_sent at.old ≡ true
    all_sent later e = (sent_whole run before at.old h later (e ∙ (ap (λ (l : List (List ℕ)). l ++ later)
        (map-append (λ (t : Turn). t.sent) at.old.past (at.old.turn ∷ []))
        ∙ append_assoc (sent_turns at.old.past) (at.old.turn.sent ∷ []) later))).0

    pick : AreTurnsSoFar (turns_of_run at.old) new_turn (turns_of_run at.new) ⊎ (at.new.ended ≡ None → ⊥)
        → AreTurnsSoFar (turns_of_run at.old) new_turn (turns_of_run now) ⊎ (told ≡ before ++ NothingCame ∷ [])
    pick (inl far) = inl (so_far_follows (turns_of_run at.old) new_turn at.new now was.after at.rest far)
    pick (inr ended) = inr (was.parts ∙ ap (λ (l : List Told). before ++ NothingCame ∷ l)
        (none_behind at.new now was.after was.after ended at.rest refl))

-- ---- the beginning, and the record

-- what isn't sent of the first turn, where a close came with the head
abbrev dropped_first : Bool → Pieces → List ℕ
dropped_first true first = concat first
dropped_first false first = []

first_pieces : (closing : Bool) (first : Pieces) (others : List Pieces) → HaveBytes (first ∷ others)
    → HaveBytes ((if closing then [] else first) ∷ others)
first_pieces true first others h = (tt, h.1)
first_pieces false first others h = h

first_bytes : (closing : Bool) (first : Pieces)
    → concat first ≡ concat (if closing then [] else first) ++ dropped_first closing first
first_bytes true first = refl
first_bytes false first = sym (append-nil (concat first))

none_dropped : (closing : Bool) (first : Pieces) → closing ≡ false → dropped_first closing first ≡ []
none_dropped true first c = absurd cc
none_dropped false first c = refl

pub begins_so : (run : ScriptValue) (first : Pieces) (others : List Pieces) (standing : Standing)
    → StandsAs run.plan.tested run.plan.expected standing run.first → HaveBytes (first ∷ others)
    → run.script ≡ first ∷ others → Holds run [] (first_state run (is_server_close run.plan.tested standing))
begins_so run first others standing stands pieces e = record {
  plan_is = refl;
  begun_is = ap (λ (l : List Pieces). has_items l || has_items run.first) e;
  sent = refl;
  got = refl;
  budget = omega arith;
  pieces = subst (λ (l : List Pieces). HaveBytes ((if is_server_close run.plan.tested standing then []
      else first_turn l) ∷ after_first l)) (sym e)
      (first_pieces (is_server_close run.plan.tested standing) first others pieces);
  bytes = record {
    dropped = dropped_first (is_server_close run.plan.tested standing) first;
    split = subst (λ (l : List Pieces). map concat l
        ≡ (concat (if is_server_close run.plan.tested standing then [] else first_turn l)
        ++ dropped_first (is_server_close run.plan.tested standing) first) ∷ map concat (after_first l)) (sym e)
        (ap (λ (l : List ℕ). l ∷ map concat others)
        (first_bytes (is_server_close run.plan.tested standing) first));
    whole = λ c f. none_dropped (is_server_close run.plan.tested standing) first c;
  };
  has_failed = λ f. absurd cc;
  closed = λ c. (
    standing,
    c,
    subst (λ (l : List ℕ). StandsAs run.plan.tested run.plan.expected standing l) (sym (append-nil run.first)) stands,
  );
  half = λ w. absurd w;
  waited = λ n some within. absurd (let wrong : n ≤ 0 = within in omega (arith, some, wrong));
}

pub recorded_so : (run : ScriptValue) (told : List Told) (now : RunState) (transcript : Transcript) → Holds run told now
    → EndsBy run told (turns_of_run now) (Some transcript.ended)
    → (HasServerClose run.plan.tested run.plan.expected (got_in_all (turns_of_run now)) → IsHalfClosed told)
    → Went run told now.past → Waited run told (turns_of_run now)
    → ((before : List Told) (event : Told) → WasAt event told before → is_last_told event ≡ true → WasLast event told)
    → ((before : List Told) → WasAt NothingCame told before → IsWaitOver run (turns_of_run now) told before)
    → transcript.turns ≡ turns_of_run now → IsRecordOf run told transcript
recorded_so run told now transcript h ends closed went waited lasts silent e = record {
  sent = ap (λ (l : List Turn). sent_in_all l) e ∙ h.sent;
  got = ap (λ (l : List Turn). got_in_all l) e ∙ h.got;
  budget = omega (arith, h.budget);
  turns = inr (record {
    whole = sent_turns now.past;
    last = now.turn.sent;
    unsent = concat now.outgoing.rest ++ h.bytes.dropped;
    later = map concat now.outgoing.later;
    sent_turns = ap (λ (l : List Turn). sent_turns l) e ∙ map-append (λ (t : Turn). t.sent) now.past (now.turn ∷ []);
    turns = h.bytes.split;
  });
  waited_for = λ n some less. waits n some (within n less);
  in_time = went.sent;
  follows = λ n some less. subst (λ (l : List Turn). IsGoing run (got_in_all l))
      (sym (ap (λ (l : List Turn). take n l) e ∙ take-append-le n now.past (now.turn ∷ []) (within n less)))
      (went.turns n some (within n less));
  waits = subst (λ (l : List Turn). Waited run told l) (sym e) waited;
  broken = λ b. subst (λ (l : List Turn). IsBrokenBy run told l) (sym e)
      (subst (λ (how : Ended). EndsBy run told (turns_of_run now) (Some how)) b ends);
  tester = λ b. inr (subst (λ (l : List Turn). IsEndedByTester run told l) (sym e)
      (subst (λ (how : Ended). EndsBy run told (turns_of_run now) (Some how)) b ends));
  peer = λ b. subst (λ (how : Ended). EndsBy run told (turns_of_run now) (Some how)) b ends;
  last = lasts;
  silences = λ before was. subst (λ (l : List Turn). IsWaitOver run l told before) (sym e) (silent before was);
  half_closed = λ w. subst (λ (l : List Turn). HasServerClose run.plan.tested run.plan.expected (got_in_all l)) (sym e) (h.closed (h.half w));
  closes = λ s. inr (closed (subst (λ (l : List Turn). HasServerClose run.plan.tested run.plan.expected (got_in_all l)) e s));
}
  where
    within : (n : ℕ) → n < length transcript.turns → n ≤ length now.past
    within n less =
        let len : length transcript.turns ≡ length now.past + 1 = ap (λ (l : List Turn). length l) e
        ∙ length-append now.past (now.turn ∷ []) in
        omega (arith, less, len)

    waits : (n : ℕ) → 0 < n → n ≤ length now.past → IsWaitedFor run (take n transcript.turns) told
    waits n some enough = subst (λ (l : List Turn). IsWaitedFor run l told)
        (sym (ap (λ (l : List Turn). take n l) e ∙ take-append-le n now.past (now.turn ∷ []) enough))
        (h.waited n some enough)

-- ---- a script without turns

-- what came with the head is a turn, if it is anything
abbrev pub alone : List ℕ → List Turn
alone first = if has_items first then record { sent = []; got = first } ∷ [] else []

pub none_sent : (first : List ℕ) → sent_in_all (alone first) ≡ []
none_sent [] = refl
none_sent (byte ∷ bytes) = refl

pub just_got : (first : List ℕ) → got_in_all (alone first) ≡ first ++ []
just_got [] = refl
just_got (byte ∷ bytes) = refl

pub at_most_one : (first : List ℕ) → length (alone first) ≤ 1
at_most_one [] = omega arith
at_most_one (byte ∷ bytes) = omega arith

pub nothing_run : (run : ScriptValue) (closing : Bool) (transcript : Transcript) → run.script ≡ []
    → transcript.turns ≡ recorded (with_run_end Tester (first_state run closing)) → Some Tester ≡ Some transcript.ended
    → IsRecordOf run [] transcript
nothing_run run closing transcript e turns how = record {
  sent = ap (λ (l : List Turn). sent_in_all l) is ∙ none_sent run.first;
  got = ap (λ (l : List Turn). got_in_all l) is ∙ just_got run.first;
  budget = omega arith;
  turns = inl e;
  waited_for = λ n some less. absurd (let len : length transcript.turns ≡ length (alone run.first) =
      ap (λ (l : List Turn). length l) is in omega (arith, some, less, len, at_most_one run.first));
  tester = λ t. inl e;
  broken = λ b. absurd (let wrong : Some Tester ≡ Some Broken = how ∙ ap (λ (x : Ended). Some x) b in cc);
  peer = λ b. absurd (let wrong : Some Tester ≡ Some Peer = how ∙ ap (λ (x : Ended). Some x) b in cc);
  last = λ before event was ends. absurd (no_more before was.after event was.parts);
  silences = λ before was. absurd (no_more before was.after NothingCame was.parts);
  half_closed = λ w. absurd w;
  closes = λ s. inl e;
  in_time = (nothing_went run).sent;
  waits = nothing_waited run transcript.turns;
  follows = λ n some less. absurd (let len : length transcript.turns ≡ length (alone run.first) =
      ap (λ (l : List Turn). length l) is in omega (arith, some, less, len, at_most_one run.first));
}
  where
    is : transcript.turns ≡ alone run.first
    is = turns ∙ ap (λ (l : List Pieces). if has_items l || has_items run.first
        then record { sent = []; got = run.first } ∷ [] else []) e

-- ---- all of it

pub begun_recorded : (x : RunState) → x.begun ≡ true → recorded x ≡ turns_of_run x
begun_recorded x e = ap (λ (b : Bool). if b then turns_of_run x else []) e

-- a run that began so, was told just this and has ended is recorded so
pub recorded_is : OneStanding → (run : ScriptValue) (start now : RunState) (told : List Told) (transcript : Transcript)
    → HaveBytes run.script → BeginsRun run start → Follows start now told → transcript.turns ≡ recorded now
    → now.ended ≡ Some transcript.ended → IsRecordOf run told transcript
recorded_is one run start now told transcript pieces (standing, stands, begins) follows turns ended =
    pick run.script refl begins
  where
    -- nothing is told to a run that has ended
    none_told : (told : List Told) → start ≡ with_run_end Tester (first_state run (is_server_close run.plan.tested standing))
        → Follows start now told → run.script ≡ [] → IsRecordOf run told transcript
    none_told [] same is e =
        let at : now ≡ with_run_end Tester (first_state run (is_server_close run.plan.tested standing)) = is ∙ same in
        nothing_run run (is_server_close run.plan.tested standing) transcript e
        (turns ∙ ap (λ (y : RunState). recorded y) at) (sym (ap (λ (y : RunState). y.ended) at) ∙ ended)
    none_told (event ∷ told) same (next, happens, rest) e =
        absurd (let wrong : Some Tester ≡ None = sym (ap (λ (y : RunState). y.ended) same) ∙ happens.goes in cc)

    some_told : (holds : HoldsSo run [] start) → ClosesSo run [] start → WentSo run [] start → WaitsSo run [] start
        → IsRecordOf run told transcript
    some_told holds closes goes waits =
        let at : HoldsSo run told now = follows_so one run [] start now told holds follows in
        recorded_so run told now transcript at.0
        (subst (λ (o : Option Ended). EndsBy run told (turns_of_run now) o) ended at.1)
        (λ s. closed_so run told now transcript.ended (follows_closes one run [] start now told holds closes follows)
        ended s)
        (follows_went one run [] start now told holds closes goes follows).0
        (follows_waits one run [] start now told holds waits follows).0
        (λ before event was e. last_is start now told before event follows was e)
        (λ before was. follows_silent one run start now told before holds follows was)
        (turns ∙ begun_recorded now at.0.begun_is)

    pick : (script : List Pieces) → run.script ≡ script
        → BeginsBy script (first_state run (is_server_close run.plan.tested standing)) start
        → IsRecordOf run told transcript
    pick [] e same = none_told told same follows e
    pick (pieces_first ∷ others) e settles =
        let state = first_state run (is_server_close run.plan.tested standing) in
        let holds : Holds run [] state = begins_so run pieces_first others standing stands
        (subst (λ (l : List Pieces). HaveBytes l) e pieces) e in
        let begun : HoldsSo run [] start = settled one run [] state start refl holds settles in
        some_told begun
        (settled_closes one run [] state start refl holds (begins_closes one run standing stands) settles)
        (settled_went one run [] state start refl holds (begins_closes one run standing stands) (nothing_went run)
        settles)
        (settled_waits one run [] state start begun.0 (nothing_waited run (turns_of_run state)) settles)
