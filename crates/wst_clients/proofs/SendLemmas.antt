-- A script that is sent to the first client whose request is accepted: what came of it, and its lines.
use Rattle.std.proofs.Common.{◌≡◌, ◌∙◌, ℕ, All, Bool, false, true, List, [], ◌∷◌, ◌++◌, Option, Some, None, Result, Ok, Err, ap}
use Rattle.std.proofs.Common.{IfOk, append-nil, inl, inr, refl, subst, sym}
use Rattle.std.proofs.KnownBytes.{Appends-trans, Keeps-refl}
use Rattle.std.proofs.lemmas.Grind.{flat_map-append}
use Rattle.std.proofs.lemmas.List.Folds.{concat-append}
use Rattle.std.specs.Bool.{⊤}
use Rattle.std.specs.List.{concat}
use Rattle.std.specs.Prelude.{Vec}
use Rattle.std.specs.declared.alloc.Global.{Global}
use Rattle.ws_frame.specs.Devices.{Device, HasWritten, IsUntouched, watched}
use Rattle.ws_frame.specs.Watching.{has_failed, inner_of}
use Rattle.ws_frame.specs.declared.watching.Watched.{Watched}
use Rattle.ws_clients.specs.Clients.{HasBecome, HasLines, HoldsBehind, IsHeldAt, IsPlayEnd, IsPlaying, KeepsPlays}
use Rattle.ws_clients.specs.Clients.{PlaysOn, StandsWhere, line_told, lines_told}
use Rattle.ws_clients.specs.declared.clients.Event.{Event}
use Rattle.ws_clients.specs.declared.clients.Event.TheVariants.{Deaf, Decided, Full, Gone, Played, TooLate}
use Rattle.ws_clients.specs.declared.talking.Talk.{Talk}
use Rattle.ws_loops.proofs.RunLemmas.{shown_then}
use Rattle.ws_loops.proofs.SinkLemmas.{lines_then, put_nothing, put_then}
use Rattle.ws_loops.specs.Deeds.{Deed, Happened, all_done, all_shown, all_told, told_by}
use Rattle.ws_loops.specs.Sinks.{HasTakenLines, lines_at}
use Rattle.ws_loops.specs.declared.places.Place.{Place}
use Rattle.ws_loops.specs.Listeners.{AcceptDeed}
use Rattle.ws_loops.specs.declared.fault.LoopFault.{LoopFault}
use Rattle.ws_loops.specs.declared.fault.LoopFault.TheVariants as loop
use Rattle.ws_machines.specs.Told.{Told}
use Rattle.ws_machines.specs.Told.Told.{Came, DeadlinePassed, DirectionEnded, Ended, NothingCame, ReadFailed, Reported}
use Rattle.ws_machines.specs.Told.Told.{Taken, WriteFailed}
use Rattle.ws_scripts.specs.declared.transcript.Transcript.{Transcript}
use Rattle.ws_shown.specs.ShownRuns.{RunShows}
use Rattle.ws_shown.specs.ShownTesters.{all_reported, without_report, without_reports}
use Rattle.ws_shown.specs.declared.shown_run.RunEnd.{RunEnd}
use Rattle.ws_shown.specs.declared.shown_tester.ShownTester.{ShownTester}
use Rattle.ws_tester.specs.Records.{IsRecorded}
use Rattle.ws_tester.specs.declared.tester.Tester.{Tester}
use Rattle.wst_commands.specs.declared.fault.Fault.{Fault}
use Rattle.wst_sockets.specs.Meetings.{miss_line}
use Rattle.wst_sockets.specs.declared.meeting.ConnectFault.TheVariants.{TimedOut}
use Rattle.wst_testing.proofs.OutputLemmas.{none_taken, wrote_run}
use Rattle.wst_testing.specs.declared.line_output.LineOutput.{LineOutput}
use Rattle.wst_testing.specs.LineOutputs.{HasWrittenTaken, WritesRest}
use Rattle.wst_testing.specs.LineWriting.{HasWrittenRun}
use Rattle.wst_testing.specs.Notes.{TellsEach}
use Rattle.wst_clients.specs.ClientSends.{AreMetSo, FindsFirst, GivesOver, HavePassedUnsent, IsFirstAt, IsPlayedAt}
use Rattle.wst_clients.specs.ClientSends.{IsRequestOf, IsRunAt, IsRunFrom, IsSentThere}
use Rattle.wst_clients.specs.ClientSends.{MayBeMissed, PassesUnsent, ScriptsFirst, ScriptsOver, SeeksFirst}
use Rattle.wst_clients.specs.ClientSends.{TakesAccepted, TellsNothingOf}
use Rattle.wst_clients.specs.declared.sending_to_client.Search.TheVariants.{Found, GoesOn, Over}
use Rattle.wst_clients.specs.Visitors.{StayAll, StayVisitors, wait_until}
use Rattle.wst_clients.proofs.VisitorLemmas.{waited_by}
use Rattle.wst_commands.specs.Devices.{Tells}
use Rattle.ws_clients.specs.Talks.{IsAdmission}
use Rattle.ws_handshake.specs.declared.admission.Admission.{Admission}
use Rattle.ws_handshake.specs.declared.admission.Admission.TheVariants as admission
use Rattle.std.proofs.lemmas.Option.{same_Some}
use Rattle.wst_testing.specs.Servers.{DidThese}
use Rattle.wst_testing.proofs.NoteLemmas.{each_on, each_then}
use Rattle.std.specs.Io.KnownBytes.{Keeps}
use Rattle.std.proofs.lemmas.List.Elements.{All-append, All-cons, All-nil}
use Rattle.wst_clients.specs.ClientTests.{IsFaultFor, IsVisitFault}
use Rattle.wst_clients.specs.Visits.{BeginsScript, IsPlayed, IsRunOver, client_plan, notes_of_passing, passing_notes}
use Rattle.wst_clients.specs.Visits.Passing.{Lost, Refused}
use Rattle.wst_clients.specs.declared.sending_to_client.ScriptRules.{ScriptRules}
use Rattle.wst_clients.specs.declared.visitors.Visitors.{Visitors}
use Rattle.wst_clients.proofs.TurnLemmas.{admitted, did_these, played_out, plays_still}

-- ---- which is the first

module _ {M L P E S W : Type 0} (did : L → L → List (AcceptDeed W) → Type 0) (time : P → ℕ) (rules : ScriptRules)
    (old new : Visitors M L P E S W) (faults : Device) where
  -- over the first the script was run
  pub scripted : (mid : Visitors M L P E S W) (found : ℕ × Vec ℕ Global) (transcript : Transcript)
      → FindsFirst did time old mid (Some found) faults
      → IsPlayed (client_plan rules.expected rules.has_timeouts) rules.budget rules.case.now found.1.items transcript
      → ScriptsFirst did time rules old new (Some transcript) faults
  scripted mid found transcript (passing, pass, told, (request, accepted, same)) played = record {
    passing = passing;
    pass = pass;
    next = [];
    is_sent = (
      record {
        request = request;
        accepted = accepted;
        played = subst (λ (l : List ℕ). IsPlayed (client_plan rules.expected rules.has_timeouts) rules.budget
            rules.case.now l transcript) (sym same) played;
      },
      refl,
    );
    noted = subst (λ (l : List (List ℕ)). TellsEach l faults) (sym (append-nil (notes_of_passing passing))) told;
  }

  -- there is none
  pub unscripted : FindsFirst did time old new None faults → ScriptsFirst did time rules old new None faults
  unscripted (passing, pass, inl (may, told)) = record {
    passing = passing;
    pass = pass;
    next = miss_line TimedOut ∷ [];
    is_sent = inl (may, refl);
    noted = told;
  }
  unscripted (passing, pass, inr (never, told)) = record {
    passing = passing;
    pass = pass;
    next = [];
    is_sent = inr (never, refl);
    noted = subst (λ (l : List (List ℕ)). TellsEach l faults) (sym (append-nil (notes_of_passing passing))) told;
  }

-- and then those who are left are read to the end
pub left_over : {M L P E S W X : Type 0} (did : L → L → List (AcceptDeed W) → Type 0) (time : P → ℕ) (rules : ScriptRules)
    (old mid new : Visitors M L P E S W) (ended : Result (Option Transcript) X) (faults : Device)
    → new.listener ≡ mid.listener → IfOk ended (λ sent. ScriptsFirst did time rules old mid sent faults)
    → IfOk ended (λ sent. ScriptsOver did time rules old new sent faults)
left_over did time rules old mid new (Ok sent) faults same h = (mid, same, h)
left_over did time rules old mid new (Err why) faults same h = tt

-- ---- what came of it

-- the tester was run to its end
pub run_over : {S K : Type 0} (heard : K → K → List (ℕ × List ℕ) → Type 0) (did : S → S → List Deed → Type 0)
    (held : List (Option S)) (at : ℕ) (start : Tester) (transcript : Transcript) (s t : K)
    → GivesOver heard did (λ (x : Tester) told end. IsRecorded x.run told end) held at start transcript s t
    → IsRunOver start.run transcript
run_over heard did held at start transcript s t h = record {
  happened = h.happened;
  told = all_told h.happened;
  is_told = refl;
  recorded = h.given;
  before = [];
  last = all_done h.happened;
  done = did_these did h.first h.last h.happened h.done;
}

-- over the stream that was held there
pub run_at_by : {S K : Type 0} (heard : K → K → List (ℕ × List ℕ) → Type 0) (did : S → S → List Deed → Type 0)
    (held : List (Option S)) (at : ℕ) (start : Tester) (transcript : Transcript) (s t : K)
    → GivesOver heard did (λ (x : Tester) told end. IsRecorded x.run told end) held at start transcript s t
    → IsRunAt did held at start.run transcript
run_at_by heard did held at start transcript s t h = (
  h.first,
  h.is_held,
  record {
    happened = h.happened;
    told = all_told h.happened;
    is_told = refl;
    recorded = h.given;
    last = h.last;
    done = h.done;
  },
)

none_again : (x : Told) → without_reports (without_report x) ≡ without_report x
none_again (Came bytes) = refl
none_again Ended = refl
none_again ReadFailed = refl
none_again NothingCame = refl
none_again (Taken bytes) = refl
none_again WriteFailed = refl
none_again DirectionEnded = refl
none_again (Reported lines) = refl
none_again (DeadlinePassed waited) = refl

without_again : (told : List Told) → without_reports (without_reports told) ≡ without_reports told
without_again [] = refl
without_again (x ∷ told) = flat_map-append without_report (without_report x) (without_reports told)
    ∙ (ap (λ (l : List Told). l ++ without_reports (without_reports told)) (none_again x)
    ∙ ap (λ (l : List Told). without_report x ++ l) (without_again told))

-- so the tester of a run that was shown
pub shown_over : {S K : Type 0} (heard : K → K → List (ℕ × List ℕ) → Type 0) (did : S → S → List Deed → Type 0)
    (held : List (Option S)) (at : ℕ) (start : ShownTester) (end : RunEnd) (s t : K)
    → GivesOver heard did (λ (x : ShownTester) told last. RunShows x told last) held at start end s t
    → IsRunOver start.tester.run end.transcript
shown_over heard did held at start end s t h = record {
  happened = h.happened;
  told = without_reports (all_told h.happened);
  is_told = without_again (all_told h.happened);
  recorded = h.given.0;
  before = [];
  last = all_done h.happened;
  done = did_these did h.first h.last h.happened h.done;
}

-- over the stream that was held there
pub shown_at_by : {S K : Type 0} (heard : K → K → List (ℕ × List ℕ) → Type 0) (did : S → S → List Deed → Type 0)
    (held : List (Option S)) (at : ℕ) (start : ShownTester) (end : RunEnd) (s t : K)
    → GivesOver heard did (λ (x : ShownTester) told last. RunShows x told last) held at start end s t
    → IsRunAt did held at start.tester.run end.transcript
shown_at_by heard did held at start end s t h = (
  h.first,
  h.is_held,
  record {
    happened = h.happened;
    told = without_reports (all_told h.happened);
    is_told = without_again (all_told h.happened);
    recorded = h.given.0;
    last = h.last;
    done = h.done;
  },
)

-- so the script was sent to the client whose request was accepted: one stream is held in its place
pub sent_there : {M L P E S W : Type 0} (did : S → S → List Deed → Type 0) (v : Visitors M L P E S W) (at : ℕ)
    (behind : Vec ℕ Global) (rules : ScriptRules) (known : List (List ℕ)) (transcript : Transcript)
    → v.clients.known ≡ known → IsFirstAt did v at behind
    → IsPlayedAt did v.clients.held at rules behind.items transcript → IsSentThere did known rules transcript
sent_there {M} {L} {P} {E} {S} {W} did v at behind rules known transcript same (request, (is, held), bytes)
    (start, begins, (stream, there, runs)) =
    let one : stream ≡ is.last = same_Some stream is.last (same_Some (Some stream) (Some is.last) (sym there ∙ held)) in
    subst (λ (l : List (List ℕ)). IsSentThere did l rules transcript) same (record {
      request = request;
      accepted = is;
      start = start;
      begins = subst (λ (l : List ℕ). BeginsScript (client_plan rules.expected rules.has_timeouts) rules.budget
          rules.case.now l start) (sym bytes) begins;
      runs = subst (λ (s : S). IsRunFrom did s start transcript) one runs;
    })

-- ---- its lines

reported_told : (told : List Told) → lines_told told ≡ all_reported told
reported_told [] = refl
reported_told (Came bytes ∷ told) = reported_told told
reported_told (Ended ∷ told) = reported_told told
reported_told (ReadFailed ∷ told) = reported_told told
reported_told (NothingCame ∷ told) = reported_told told
reported_told (Taken bytes ∷ told) = reported_told told
reported_told (WriteFailed ∷ told) = reported_told told
reported_told (DirectionEnded ∷ told) = reported_told told
reported_told (Reported lines ∷ told) = ap (λ (l : List ℕ). lines ++ l) (reported_told told)
reported_told (DeadlinePassed waited ∷ told) = reported_told told

-- where those that were taken were written, and then the last ones, all lines of the run were
pub shown_whole : (start : ShownTester) (told : List Told) (end : RunEnd) (taken : List (List ℕ))
    (old mid new : Option (List ℕ)) (failed : Bool) → RunShows start told end → lines_told told ≡ concat taken
    → HasWritten (concat taken) (record { failed = false; old = old; new = mid })
    → HasWritten end.last.items (record { failed = failed; old = mid; new = new }) → failed ≡ false
    → HasWrittenRun start.room.showing end.transcript (record { failed = failed; old = old; new = new })
shown_whole start told end taken old mid new failed (recorded, marked) same first last works =
    wrote_run start.room.showing end.transcript (all_reported told ++ end.last.items)
    (record { failed = failed; old = old; new = new }) marked
    (subst (λ (l : List ℕ). HasWritten (l ++ end.last.items) (record { failed = failed; old = old; new = new }))
    (sym same ∙ reported_told told) (Appends-trans old mid new (concat taken) end.last.items first last)) works

-- what the output of one place has taken
abbrev pub placed_heard : {W : Type 0} → (W → Option (List ℕ)) → LineOutput W → LineOutput W → List (ℕ × List ℕ)
    → Type 0
placed_heard contents first now taken = HasWrittenTaken first.at now.at taken first.writer.ghost_name
    now.writer.ghost_name (watched contents first.writer.now now.writer.now)

-- so it is of a run that was alone
alone_taken : {S W : Type 0} (contents : W → Option (List ℕ)) (did : S → S → List Deed → Type 0)
    (held : List (Option S)) (at : ℕ) (start : ShownTester) (end : RunEnd) (writer : Watched W) (s t : LineOutput W)
    → (h : GivesOver (placed_heard contents) did (λ (x : ShownTester) told e. RunShows x told e) held at start end s t)
    → has_failed writer ≡ false → s.writer.now ≡ writer → placed_heard contents s t h.lines
alone_taken contents did held at start end writer s t h works same = h.put s [] (none_taken contents s.at s.writer.now
    s.writer.ghost_name (subst (λ w. has_failed w ≡ false) (sym same) works))

-- it writes to the same output still
pub alone_name : {S W : Type 0} (contents : W → Option (List ℕ)) (did : S → S → List Deed → Type 0)
    (held : List (Option S)) (at : ℕ) (start : ShownTester) (end : RunEnd) (writer : Watched W) (s t : LineOutput W)
    → GivesOver (placed_heard contents) did (λ (x : ShownTester) told e. RunShows x told e) held at start end s t
    → has_failed writer ≡ false → s.writer.now ≡ writer
    → t.writer.ghost_name ≡ s.writer.ghost_name
alone_name contents did held at start end writer s t h works same =
    (alone_taken contents did held at start end writer s t h works same).name

-- so the lines of a run that was alone were written, and behind them the last ones
pub alone_shown : {S W : Type 0} (contents : W → Option (List ℕ)) (did : S → S → List Deed → Type 0)
    (held : List (Option S)) (at : ℕ) (start : ShownTester) (end : RunEnd) (writer last : Watched W)
    (s t : LineOutput W)
    → GivesOver (placed_heard contents) did (λ (x : ShownTester) told e. RunShows x told e) held at start end s t
    → has_failed writer ≡ false → s.at ≡ at → s.writer.now ≡ writer
    → WritesRest contents t.writer.now last end.last.items
    → HasWrittenRun start.room.showing end.transcript (watched contents writer last)
alone_shown {S} {W} contents did held at start end writer last s t h works place same rest =
    let taken = alone_taken contents did held at start end writer s t h works same in
    let lines = subst (λ (n : ℕ). HasLines h.happened (lines_at n h.lines)) (sym place) h.shown in
    let first = subst (λ (w : Watched W). HasWritten (concat (lines_at s.at h.lines)) (record {
      failed = false;
      old = contents (inner_of w);
      new = contents (inner_of t.writer.now);
    })) same taken.written in
    shown_whole start (all_told h.happened) end (lines_at s.at h.lines) (contents (inner_of writer))
    (contents (inner_of t.writer.now)) (contents (inner_of last)) (has_failed last) h.given lines.1 first rest.0
    (rest.1 taken.works)

-- ---- what stops it

pub stops_so : (why : LoopFault) (fault : Fault) → IsFaultFor why fault → IsVisitFault ⊤ fault
stops_so loop.NoMemory fault is = inl is
stops_so loop.WaitFailed fault is = inr (is, tt)
stops_so loop.NoOutput fault is = inr (is, tt)

-- ---- so far

-- nobody has passed by yet
pub unsent_none : (known : List (List ℕ)) (faults : Device) → Keeps faults.old faults.new
    → HavePassedUnsent known faults
unsent_none known faults kept = record { passing = []; pass = All-nil (PassesUnsent known); noted = kept }

-- those who stay, twice
pub stay_twice : {M L P E S W : Type 0} (old mid new : Visitors M L P E S W) → StayVisitors old mid
    → StayVisitors mid new → StayVisitors old new
stay_twice old mid new first last = record {
  is_known = last.is_known ∙ first.is_known;
  limits = last.limits ∙ first.limits;
  is_wait = last.is_wait ∙ first.is_wait;
  listener = last.listener ∙ first.listener;
  stay = λ known wait are. last.stay known wait (first.stay known wait are);
}

-- what is told by one text
pub tells_one : (text told : List ℕ) (failed : Bool) (old new : Option (List ℕ)) → told ≡ text
    → Tells told (record { failed = failed; old = old; new = new })
    → TellsEach (text ∷ []) (record { failed = failed; old = old; new = new })
tells_one text told failed old new is tells = (
  new,
  subst (λ (l : List ℕ). Tells l (record { failed = failed; old = old; new = new })) is tells,
  Keeps-refl new,
)

-- ---- what has happened before the first

module _ {M L P E S W : Type 0} (stream : S → S → List Deed → Type 0) (did : L → L → List (AcceptDeed W) → Type 0)
    (time : P → ℕ) (old new : Visitors M L P E S W) (until : Option ℕ) (event : Event E W)
    (become : HasBecome stream did (time new.poller) until new.listener new.clients event) (stay : StayAll old new) where
  -- it is too late, where the listener was asked in vain
  pub late_before : event ≡ TooLate → until ≡ wait_until old.ending old.wait old.since → MayBeMissed did time old new
  late_before is wait =
      let (ended, vain) = subst (λ (e : Event E W). HasBecome stream did (time new.poller) until new.listener
      new.clients e) is become in
      (stay.is_wait, waited_by time old new until wait stay ended, vain)

  -- a request was decided
  pub decided_before : (at : ℕ) (came : Admission) → event ≡ Decided at came
      → IsAdmission DidThese new.clients.known came
  decided_before at came is = admitted stream new.clients.known came
      (subst (λ (e : Event E W). HasBecome stream did (time new.poller) until new.listener new.clients e) is become)

-- what was known is known still
pub met_so : {M L P E S W : Type 0} (old mid new : Visitors M L P E S W) → StayAll old mid → StayVisitors mid new
    → AreMetSo old new
met_so old mid new all stay = (stay.is_known ∙ all.is_known, stay.is_wait ∙ all.is_wait)

pub met_twice : {M L P E S W : Type 0} (old mid new : Visitors M L P E S W) → AreMetSo old mid → AreMetSo mid new
    → AreMetSo old new
met_twice old mid new first last = (last.0 ∙ first.0, last.1 ∙ first.1)

-- what was decided was of the first
pub taken_first : (old known : List (List ℕ)) (came : Admission) (behind : Vec ℕ Global) (faults : Device)
    → known ≡ old → IsAdmission DidThese known came → TakesAccepted came (Some behind) faults
    → IsRequestOf old behind × IsUntouched faults
taken_first old known (admission.Accepted request) behind faults same is (bytes, kept) =
    (subst (λ (l : List (List ℕ)). IsRequestOf l behind) same (request, is, bytes), kept)
taken_first old known (admission.Refused fault) behind faults same is takes = absurd takes
taken_first old known admission.Lost behind faults same is takes = absurd takes

-- or of another
pub taken_other : (old known : List (List ℕ)) (came : Admission) (faults : Device) → known ≡ old
    → IsAdmission DidThese known came → TakesAccepted came None faults → HavePassedUnsent old faults
taken_other old known (admission.Accepted request) faults same is takes = absurd takes
taken_other old known (admission.Refused fault) faults same is takes =
    subst (λ (l : List (List ℕ)). HavePassedUnsent l faults) same (record {
      passing = Refused fault ∷ [];
      pass = All-cons (PassesUnsent known) (Refused fault) [] is (All-nil (PassesUnsent known));
      noted = takes;
    })
taken_other old known admission.Lost faults same is takes =
    subst (λ (l : List (List ℕ)). HavePassedUnsent l faults) same (record {
      passing = Lost ∷ [];
      pass = All-cons (PassesUnsent known) Lost [] tt (All-nil (PassesUnsent known));
      noted = takes;
    })

-- the stream of the first is held in its place
pub first_there : {M L P E S W : Type 0} (did : S → S → List Deed → Type 0) (v w : Visitors M L P E S W) (at : ℕ)
    (came : Admission) (behind : Vec ℕ Global) (faults : Device) (event : Event E W) → event ≡ Decided at came
    → HoldsBehind did v.clients.known v.clients.held event → TakesAccepted came (Some behind) faults → w ≡ v
    → IsFirstAt did w at behind
first_there {M} {L} {P} {E} {S} {W} did v w at (admission.Accepted request) behind faults event is holds (bytes, kept)
    same =
    let held = subst (λ (e : Event E W). HoldsBehind did v.clients.known v.clients.held e) is holds in
    subst (λ (x : Visitors M L P E S W). IsFirstAt did x at behind) (sym same) (request, held, bytes)
first_there did v w at (admission.Refused fault) behind faults event is holds takes same = absurd takes
first_there did v w at admission.Lost behind faults event is holds takes same = absurd takes

module _ {M L P E S W : Type 0} (did : L → L → List (AcceptDeed W) → Type 0) (time : P → ℕ)
    (first old new : Visitors M L P E S W) (f g : Bool) (a b c : Option (List ℕ)) (so : AreMetSo first old)
    (h : HavePassedUnsent first.clients.known (record { failed = f; old = a; new = b })) (still : f ≡ true → g ≡ true)
  where
    -- nothing was told since
    told_before : IsUntouched (record { failed = g; old = b; new = c })
        → TellsEach (notes_of_passing h.passing) (record { failed = g; old = a; new = c })
    told_before kept = subst (λ (l : List (List ℕ)). TellsEach l (record { failed = g; old = a; new = c }))
        (append-nil (notes_of_passing h.passing))
        (each_then (notes_of_passing h.passing) [] g a b c (each_on (notes_of_passing h.passing) f g a b still h.noted)
        kept)

    -- so the first was found
    pub found_so : (at : ℕ) (behind : Vec ℕ Global)
        → SeeksFirst did time old new (Found at behind) (record { failed = g; old = b; new = c })
        → FindsFirst did time first new (Some (at, behind)) (record { failed = g; old = a; new = c })
    found_so at behind (is, kept) = (
      h.passing,
      h.pass,
      told_before kept,
      subst (λ (l : List (List ℕ)). IsRequestOf l behind) so.0 is,
    )

    -- or there is none
    pub over_so : SeeksFirst did time old new Over (record { failed = g; old = b; new = c })
        → FindsFirst did time first new None (record { failed = g; old = a; new = c })
    over_so (inl ((same, waited, asked), told)) = (
      h.passing,
      h.pass,
      inl (
        (same ∙ so.1, waited, asked),
        each_then (notes_of_passing h.passing) (miss_line TimedOut ∷ []) g a b c
            (each_on (notes_of_passing h.passing) f g a b still h.noted) told,
      ),
    )
    over_so (inr (deaf, kept)) = (h.passing, h.pass, inr (deaf, told_before kept))

    -- or others have passed by since
    pub goes_so : SeeksFirst did time old new GoesOn (record { failed = g; old = b; new = c })
        → HavePassedUnsent first.clients.known (record { failed = g; old = a; new = c })
    goes_so more = record {
      passing = h.passing ++ more.passing;
      pass = All-append (PassesUnsent first.clients.known) h.passing more.passing h.pass
          (subst (λ (l : List (List ℕ)). All (PassesUnsent l) more.passing) so.0 more.pass);
      noted = subst (λ (l : List (List ℕ)). TellsEach l (record { failed = g; old = a; new = c }))
          (sym (flat_map-append passing_notes h.passing more.passing))
          (each_then (notes_of_passing h.passing) (notes_of_passing more.passing) g a b c
          (each_on (notes_of_passing h.passing) f g a b still h.noted) more.noted);
    }

-- this is played on, and of the lines that the sink took meanwhile those of its place are those of which it was told
pub record PlaysSo {M S K : Type 0} (heard : K → K → List (ℕ × List ℕ) → Type 0) (agrees : M → M → List Told → Type 0)
    (did : S → S → List Deed → Type 0) (held : List (Option S)) (at : ℕ) (start : M) (places : List (Place (Talk M) S))
    (old_sink new_sink : K) : Type 0 where
  pub stream : S
  pub is_held : IsHeldAt held at stream
  pub happened : List Happened
  pub plays : IsPlaying agrees did start stream happened places at
  pub lines : List (ℕ × List ℕ)
  pub put : HasTakenLines heard old_sink new_sink lines
  pub shown : HasLines happened (lines_at at lines)

lines_more : (at : ℕ) (one other : List Happened) (first second : List (ℕ × List ℕ)) → HasLines one (lines_at at first)
    → HasLines other (lines_at at second) → HasLines (one ++ other) (lines_at at (first ++ second))
lines_more at one other first second (shown, told) (shows, tells) = (
  shown_then one other ∙ (ap (λ (l : List (List ℕ)). l ++ all_shown other) shown
      ∙ (ap (λ (l : List (List ℕ)). lines_at at first ++ l) shows ∙ sym (lines_then at first second))),
  ap (λ (l : List Told). lines_told l) (flat_map-append (λ (x : Happened). told_by x.deed) one other)
      ∙ (flat_map-append line_told (all_told one) (all_told other)
      ∙ (ap (λ (l : List ℕ). l ++ lines_told (all_told other)) told
      ∙ (ap (λ (l : List ℕ). concat (lines_at at first) ++ l) tells
      ∙ (sym (concat-append (lines_at at first) (lines_at at second))
      ∙ ap (λ (l : List (List ℕ)). concat l) (sym (lines_then at first second)))))),
)

-- it begins
pub plays_first : {M S K : Type 0} (heard : K → K → List (ℕ × List ℕ) → Type 0) (agrees : M → M → List Told → Type 0)
    (did : S → S → List Deed → Type 0) (held : List (Option S)) (at : ℕ) (start : M) (stream : S)
    (places : List (Place (Talk M) S)) (s : K) → IsHeldAt held at stream → IsPlaying agrees did start stream [] places at
    → PlaysSo heard agrees did held at start places s s
plays_first heard agrees did held at start stream places s is_held plays = record {
  stream = stream;
  is_held = is_held;
  happened = [];
  plays = plays;
  lines = [];
  put = put_nothing heard s;
  shown = (refl, refl);
}

module _ {M S K E W : Type 0} (heard : K → K → List (ℕ × List ℕ) → Type 0) (agrees : M → M → List Told → Type 0)
    (did : S → S → List Deed → Type 0) (gives : M → List Told → E → Type 0) (held : List (Option S)) (at : ℕ) (start : M)
  where
    not_told : (stream : S) (happened : List Happened) (event : Event E W) → TellsNothingOf at event
        → IsPlayEnd did gives start stream at happened event → ⊥
    not_told stream happened (Decided place admission) nothing end = end
    not_told stream happened (Played place last) nothing end = nothing end.0
    not_told stream happened (Gone place number) nothing end = nothing end
    not_told stream happened TooLate nothing end = end
    not_told stream happened (Full why) nothing end = end
    not_told stream happened (Deaf why) nothing end = end

    -- more has happened, and this event tells nothing of it; and then all that is played is as it was
    pub plays_on : (old mid new : List (Place (Talk M) S)) (r s t : K) (event : Event E W) → TellsNothingOf at event
        → PlaysSo heard agrees did held at start old r s → PlaysOn heard agrees did gives old mid s t (Some event)
        → KeepsPlays agrees did mid new → PlaysSo heard agrees did held at start new r t
    plays_on old mid new r s t event nothing so on keeps =
        let (more, lines, what) = on.each at start so.stream so.happened so.plays in record {
          stream = so.stream;
          is_held = so.is_held;
          happened = so.happened ++ more;
          plays = keeps at start so.stream (so.happened ++ more)
              (plays_still agrees did gives start so.stream (so.happened ++ more) mid at event
              (not_told so.stream (so.happened ++ more) event nothing) what);
          lines = so.lines ++ on.lines;
          put = put_then heard r s t so.lines on.lines so.put on.put;
          shown = lines_more at so.happened more so.lines on.lines so.shown lines;
        }

    -- it has ended, as this event tells
    pub plays_out : (old new : List (Place (Talk M) S)) (r s t : K) (event : Event E W) (end : E)
        → PlaysSo heard agrees did held at start old r s → event ≡ Played at end → StandsWhere new event
        → PlaysOn heard agrees did gives old new s t (Some event) → GivesOver heard did gives held at start end r t
    plays_out old new r s t event end so is stands on =
        let awaited = subst (λ (e : Event E W). StandsWhere new e) is stands in
        let (more, lines, what) = on.each at start so.stream so.happened so.plays in
        let (same, given, (last, done)) = subst
        (λ (e : Event E W). IsPlayEnd did gives start so.stream at (so.happened ++ more) e) is
        (played_out agrees did gives start so.stream (so.happened ++ more) new at event awaited what) in record {
          first = so.stream;
          is_held = so.is_held;
          last = last;
          happened = so.happened ++ more;
          given = given;
          done = done;
          lines = so.lines ++ on.lines;
          put = put_then heard r s t so.lines on.lines so.put on.put;
          shown = lines_more at so.happened more so.lines on.lines so.shown lines;
        }
