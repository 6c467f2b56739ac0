-- A case that is run by the loop and shown: its lines, and what came of it.
use Rattle.std.proofs.Common.{◌≡◌, ◌∙◌, ℕ, ◌≤◌, false, List, [], ◌∷◌, ◌++◌, Option, refl, sym, ap, subst, arith, inl, inr}
use Rattle.std.proofs.Common.{append-nil, append_assoc, IfErr, None, Some, Result, Ok, Err}
use Rattle.std.proofs.KnownBytes.{Appends-nil, Appends-trans}
use Rattle.std.proofs.lemmas.Grind.{flat_map-append}
use Rattle.std.proofs.lemmas.List.Folds.{concat-append}
use Rattle.std.specs.Io.KnownBytes.{Appends, Keeps}
use Rattle.std.specs.List.{concat}
use Rattle.ws_connection.specs.Probing.{BeginsProbe, bytes_by_turn}
use Rattle.ws_frame.specs.Devices.{Device, HasWritten, IsUntouched, watched}
use Rattle.ws_frame.specs.Watching.{has_failed}
use Rattle.ws_frame.specs.declared.watching.Watched.{Watched}
use Rattle.ws_handshake.specs.Probes.{ProbeValue}
use Rattle.ws_handshake.specs.declared.probe_end.Probe.{Probe}
use Rattle.ws_handshake.specs.declared.probe_end.Probe.TheVariants as probe
use Rattle.ws_lines.specs.declared.transcript_lines.Showing.{Showing}
use Rattle.ws_shown.specs.MarkedLines.{AreMarkedLines}
use Rattle.ws_loops.specs.Deeds.{Deed, Happened, all_done, all_shown, all_told, shown_by, told_by}
use Rattle.ws_loops.specs.Deeds.Deed.{Did, Emptied, HadNone, Passed, Showed, TookNone, Woken}
use Rattle.ws_loops.specs.Sinks.{HasTakenLines, lines_at, said_at}
use Rattle.ws_loops.proofs.SinkLemmas.{lines_own}
use Rattle.ws_loops.specs.Slots.{AreSteps, IsNextDeed}
use Rattle.ws_loops.specs.declared.pace.Pace.{Pace}
use Rattle.ws_loops.specs.declared.slot.Slot.{Slot}
use Rattle.ws_machines.specs.Machines.{Wants}
use Rattle.ws_machines.specs.Told.{Told}
use Rattle.ws_machines.specs.Told.Told.{Came, DeadlinePassed, DirectionEnded, Ended as StreamEnded, NothingCame}
use Rattle.ws_machines.specs.Told.Told.{ReadFailed, Reported, Taken, WriteFailed}
use Rattle.ws_networks.specs.Bounds.{bounds_from}
use Rattle.ws_networks.specs.Connecting.{only_place}
use Rattle.ws_networks.specs.Meetings.{HasEnded, HasEndedShowing, HasMetShowing, TakesOnly}
use Rattle.ws_networks.specs.Networks.{NetworkDeed}
use Rattle.ws_networks.specs.declared.bounds.Limits.{Limits}
use Rattle.ws_networks.specs.declared.meeting.Met.{Met}
use Rattle.ws_networks.specs.declared.meeting.Met.TheVariants.{Ended, NotMade}
use Rattle.ws_scripts.specs.declared.script.Case.{Case}
use Rattle.ws_shown.specs.ShownProbes.{EndsAs, ShownGives, ShownGivesAt, ShownValue, WasShown, shown_wants}
use Rattle.ws_shown.specs.ShownTesters.{all_reported, reported_by}
use Rattle.ws_shown.specs.declared.shown_probe.ShownEnd.{ShownEnd}
use Rattle.ws_shown.specs.declared.shown_probe.ShownStage.{ShownStage}
use Rattle.ws_shown.specs.declared.shown_probe.ShownStage.TheVariants.{Lost, Opening, Refused, Running}
use Rattle.ws_shown.proofs.ProbeShownLemmas.{lost_none, refused_none}
use Rattle.wst_network.specs.declared.connector.ConnectMiss.{ConnectMiss}
use Rattle.wst_sockets.specs.Meetings.{probe_of}
use Rattle.wst_sockets.specs.declared.meeting.ConnectFault.{ConnectFault}
use Rattle.wst_sockets.specs.declared.meeting.Meeting.{Meeting}
use Rattle.wst_testing.specs.LineOutputs.{EndsOutput, HasWrittenTaken, MayStopLines, ShowsMeeting, untaken_lines}
use Rattle.wst_testing.specs.declared.line_output.LineStop.{LineStop}
use Rattle.wst_testing.specs.declared.line_output.LineStop.TheVariants as stop
use Rattle.wst_testing.specs.Servers.{AddressValue, IsShownMeeting, IsShownSo, ShowsAtAddress, ShowsBecause, TookThese}
use Rattle.wst_testing.specs.Servers.{limits_of_server, meeting_at, plan_at, reason_of_end, reason_of_miss}
use Rattle.wst_testing.proofs.LoopLemmas.{ended_listed, made_later, probe_at}
use Rattle.wst_testing.proofs.OutputLemmas.{wrote_run}

-- ---- the lines of which a machine was told are those that were taken

deed_shown : (wants : Wants) (pace : Pace) (now : ℕ) (deed : Deed) → IsNextDeed wants pace now deed
    → all_reported (told_by deed) ≡ concat (shown_by deed)
deed_shown wants pace now (Did (Came bytes)) next = refl
deed_shown wants pace now (Did StreamEnded) next = refl
deed_shown wants pace now (Did ReadFailed) next = refl
deed_shown wants pace now (Did NothingCame) next = refl
deed_shown wants pace now (Did (Taken bytes)) next = refl
deed_shown wants pace now (Did WriteFailed) next = refl
deed_shown wants pace now (Did DirectionEnded) next = refl
deed_shown wants pace now (Did (Reported lines)) next = absurd next
deed_shown wants pace now (Did (DeadlinePassed waited)) next = refl
deed_shown wants pace now (Emptied bytes) next = refl
deed_shown wants pace now HadNone next = refl
deed_shown wants pace now TookNone next = refl
deed_shown wants pace now (Showed lines) next = refl
deed_shown wants pace now (Passed (Came bytes)) next = refl
deed_shown wants pace now (Passed StreamEnded) next = refl
deed_shown wants pace now (Passed ReadFailed) next = refl
deed_shown wants pace now (Passed NothingCame) next = refl
deed_shown wants pace now (Passed (Taken bytes)) next = refl
deed_shown wants pace now (Passed WriteFailed) next = refl
deed_shown wants pace now (Passed DirectionEnded) next = refl
deed_shown wants pace now (Passed (Reported lines)) next = absurd next
deed_shown wants pace now (Passed (DeadlinePassed waited)) next = refl
deed_shown wants pace now (Woken readable writable) next = refl

module _ {M S : Type 0} (agrees : M → M → List Told → Type 0) (wants : M → Wants) (did : S → S → List Deed → Type 0)
  where
    pub reported_shown : (from : ℕ) (old : Slot M S) (happened : List Happened) (to : ℕ) (new : Slot M S)
        → AreSteps agrees wants did from old happened to new
        → all_reported (all_told happened) ≡ concat (all_shown happened)
    reported_shown from old [] to new steps = refl
    reported_shown from old (x ∷ happened) to new (later, (next, step, rest)) =
        flat_map-append reported_by (told_by x.deed) (all_told happened)
        ∙ (ap (λ (l : List ℕ). l ++ all_reported (all_told happened))
        (deed_shown (wants old.machine) old.pace x.at x.deed step.order)
        ∙ (ap (λ (l : List ℕ). concat (shown_by x.deed) ++ l) (reported_shown x.at next happened to new rest)
        ∙ sym (concat-append (shown_by x.deed) (all_shown happened))))

-- ---- what came of it

nothing_more : (a : List ℕ) (last : List ℕ) → a ≡ [] → last ≡ [] → a ++ last ≡ []
nothing_more a last first second = ap (λ (l : List ℕ). l ++ last) first ∙ second

untouched : (a b : Option (List ℕ)) → Appends a b [] → Keeps a b
untouched None b h = h
untouched (Some xs) None h = h
untouched (Some xs) (Some ys) h = h ∙ append-nil xs

-- all its lines were written, or nothing
pub end_shown_so : (start : ShownValue) (told : List Told) (showing : Showing) (lines : List ℕ) (end : ShownEnd)
    (reason : ConnectFault) (output : Device) → ShownGives start told end → all_reported told ≡ lines
    → start.showing ≡ showing → HasWritten (lines ++ end.last.items) output → output.failed ≡ false
    → ShowsMeeting showing (meeting_at end.probe reason) output
end_shown_so start told showing lines end reason output gives same is wrote works = pick start.stage gives
  where
    text : HasWritten (all_reported told ++ end.last.items) output
    text = subst (λ (l : List ℕ). HasWritten (l ++ end.last.items) output) (sym same) wrote

    none : all_reported told ≡ [] → end.last.items ≡ [] → IsUntouched output
    none reported last = untouched output.old output.new
        (subst (λ (l : List ℕ). HasWritten l output) (nothing_more (all_reported told) end.last.items reported last) text)

    of : (asking : ProbeValue) (p : Probe) → end.probe ≡ p → EndsAs asking start.showing told p end.last.items
        → ShowsMeeting showing (meeting_at p reason) output
    of asking (probe.Ran transcript) e (ran, are) = wrote_run showing transcript (all_reported told ++ end.last.items)
        output (subst (λ (s : Showing). AreMarkedLines s transcript (all_reported told ++ end.last.items)) is are) text
        works
    of asking (probe.Refused refusal) e (refuses, last) = none (refused_none asking refusal told refuses) last
    of asking probe.NoConnection e (loses, last) = none (lost_none asking told loses) last

    pick : (s : ShownStage) → ShownGivesAt s start.showing told end
        → ShowsMeeting showing (meeting_at end.probe reason) output
    pick (Opening asking) ends = of asking end.probe refl ends
    pick (Running x) k = absurd k
    pick (Refused refusal) k = absurd k
    pick Lost k = absurd k

-- ---- the sink

-- lines that were taken stand for themselves
took_all : (all : List (ℕ × List ℕ)) → HasTakenLines TookThese [] all all
took_all all start taken e = ap (λ (l : List (ℕ × List ℕ)). l ++ all) e ∙ append_assoc start taken all

-- what a sink took, and what came of the machine with just that
pub record TookSome {S A N K : Type 0} (heard : K → K → List (ℕ × List ℕ) → Type 0) (old_sink new_sink : K)
    (did : S → S → List Deed → Type 0) (does : N → N → List (NetworkDeed A ConnectMiss) → Type 0) (limits : Limits)
    (from to : ℕ) (old new : N) (name : List ℕ) (start : ShownValue) (met : Met ShownEnd S ConnectMiss) : Type 0 where
  pub taken : List (ℕ × List ℕ)
  pub put : heard old_sink new_sink taken
  pub shows : HasMetShowing TookThese [] taken WasShown (λ (now : ShownValue). shown_wants now) ShownGives did does
      limits from to old new name start met

pub took_so : {S A N K : Type 0} (heard : K → K → List (ℕ × List ℕ) → Type 0) (old_sink new_sink : K)
    (did : S → S → List Deed → Type 0) (does : N → N → List (NetworkDeed A ConnectMiss) → Type 0) (limits : Limits)
    (from to : ℕ) (old new : N) (name : List ℕ) (start : ShownValue) (met : Met ShownEnd S ConnectMiss)
    → heard old_sink old_sink []
    → HasMetShowing heard old_sink new_sink WasShown (λ (now : ShownValue). shown_wants now) ShownGives did does limits
    from to old new name start met
    → TookSome heard old_sink new_sink did does limits from to old new name start met
took_so {S} {A} {N} {K} heard old_sink new_sink did does limits from to old new name start (NotMade why) fresh
    (takes, h) = record { taken = []; put = takes old_sink [] fresh; shows = (took_all [], h) }
took_so heard old_sink new_sink did does limits from to old new name start (Ended end stream) fresh
    (begun, made, later, connected, (now, after, h)) =
    let all : List (ℕ × List ℕ) = said_at only_place (all_shown h.ended.happened) in
    record {
      taken = all;
      put = h.takes old_sink [] fresh;
      shows = (begun, made, later, connected, (now, after, record { ended = h.ended; takes = took_all all }));
    }

-- what was written then
module _ {S A N : Type 0} (did : S → S → List Deed → Type 0)
    (does : N → N → List (NetworkDeed A ConnectMiss) → Type 0) (limits : Limits) (from to : ℕ) (old new : N)
    (name : List ℕ) (start : ShownValue) (met : Met ShownEnd S ConnectMiss) (meeting : Meeting) (output : Device)
    (taken : List (ℕ × List ℕ))
    (shows : HasMetShowing TookThese [] taken WasShown (λ (now : ShownValue). shown_wants now) ShownGives did does limits
    from to old new name start met) (is_meeting : IsShownMeeting met meeting)
    (written : HasWritten (concat (lines_at only_place taken) ++ untaken_lines met) output)
  where
    pub shows_meeting : (showing : Showing) → start.showing ≡ showing → output.failed ≡ false
        → ShowsMeeting showing meeting output
    shows_meeting showing is works = pick met refl shows is_meeting written
      where
        pick : (m : Met ShownEnd S ConnectMiss) → met ≡ m
            → HasMetShowing TookThese [] taken WasShown (λ (now : ShownValue). shown_wants now) ShownGives did does
            limits from to old new name start m
            → IsShownMeeting m meeting → HasWritten (concat (lines_at only_place taken) ++ untaken_lines m) output
            → ShowsMeeting showing meeting output
        pick (NotMade why) e (takes, h) same wrote =
            let none : lines_at only_place taken ≡ [] = ap (λ (l : List (ℕ × List ℕ)). lines_at only_place l)
            (takes [] [] refl) in
            subst (λ (m : Meeting). ShowsMeeting showing m output) (sym same)
            (untouched output.old output.new (subst (λ (l : List (List ℕ)). HasWritten (concat l ++ []) output) none
            wrote))
        pick (Ended end stream) e (begun, made, later, connected, (now, after, h)) (how, same) wrote =
            let lines : List (List ℕ) = all_shown h.ended.happened in
            let taken_is : taken ≡ said_at only_place lines = h.takes [] [] refl in
            let shown : all_reported (all_told h.ended.happened) ≡ concat (lines_at only_place taken) =
            reported_shown WasShown (λ (v : ShownValue). shown_wants v) did now _ h.ended.happened to h.ended.last
            h.ended.run.steps ∙ (ap (λ (l : List (List ℕ)). concat l) (sym (lines_own only_place lines))
            ∙ ap (λ (l : List (ℕ × List ℕ)). concat (lines_at only_place l)) (sym taken_is)) in
            subst (λ (m : Meeting). ShowsMeeting showing m output) (sym same)
            (end_shown_so start (all_told h.ended.happened) showing (concat (lines_at only_place taken)) end
            (reason_of_end how) output h.ended.is_end shown is wrote works)

-- what may come of the case
module _ (server : AddressValue) (key : List ℕ) (case : Case) (start : ShownValue) (asking : ProbeValue)
    (opens : start.stage ≡ Opening asking)
    (begins : BeginsProbe (plan_at server) (bytes_by_turn case (Some key)) server.request server.budget asking) where
  pub meets_shown_so : {S A N K : Type 0} (heard : K → K → List (ℕ × List ℕ) → Type 0) (old_sink new_sink : K)
      (did : S → S → List Deed → Type 0) (does : N → N → List (NetworkDeed A ConnectMiss) → Type 0) (from to : ℕ)
      (old new : N) (name : List ℕ) (met : Met ShownEnd S ConnectMiss) (meeting : Meeting)
      → HasMetShowing heard old_sink new_sink WasShown (λ (now : ShownValue). shown_wants now) ShownGives did does
      (limits_of_server server) from to old new name start met
      → IsShownMeeting met meeting → ShowsAtAddress server key case meeting
  meets_shown_so heard old_sink new_sink did does from to old new name (NotMade why) meeting h same =
      inl (ap (λ (m : Meeting). probe_of m) same)
  meets_shown_so heard old_sink new_sink did does from to old new name (Ended end stream) meeting
      (begun, made, after, connected, (now, later, h)) (how, same) =
      let bounds = bounds_from (limits_of_server server) begun in
      let first = made_later does only_place bounds begun made old new name connected in
      let told = ap (λ (m : Meeting). probe_of m) same ∙ probe_at end.probe (reason_of_end how) in
      inr (subst (λ (p : Probe). IsShownSo server key case p) (sym told) (record {
        start = start;
        asking = asking;
        opens = opens;
        begins = begins;
        begun = begun;
        made = now;
        in_order = omega (arith, first, later);
        to = to;
        did = all_done h.ended.happened;
        end = end;
        is_probe = refl;
        ended = ended_listed WasShown (λ (v : ShownValue). shown_wants v) did ShownGives bounds now to start end stream
            h.ended;
      }))

  -- and why
  pub shows_because : {S A N : Type 0} (did : S → S → List Deed → Type 0)
      (does : N → N → List (NetworkDeed A ConnectMiss) → Type 0) (from to : ℕ) (old new : N) (name : List ℕ)
      (met : Met ShownEnd S ConnectMiss) (meeting : Meeting) (output : Device) (taken : List (ℕ × List ℕ))
      → HasMetShowing TookThese [] taken WasShown (λ (now : ShownValue). shown_wants now) ShownGives did does
      (limits_of_server server) from to old new name start met
      → IsShownMeeting met meeting → HasWritten (concat (lines_at only_place taken) ++ untaken_lines met) output
      → ShowsBecause did does server key case from to old new name meeting output
  shows_because did does from to old new name met meeting output taken shows is_meeting written = record {
    start = start;
    asking = asking;
    opens = opens;
    begins = begins;
    met = met;
    taken = taken;
    shows = shows;
    is_meeting = is_meeting;
    written = written;
  }

-- ---- why not all lines were written

pub stops_at : (server : AddressValue) (key : List ℕ) (case : Case) (result : Result Meeting LineStop)
    → IfErr result (λ why. MayStopLines (λ meeting. ShowsAtAddress server key case meeting) why)
stops_at server key case (Ok meeting) = tt
stops_at server key case (Err stop.Output) = tt
stops_at server key case (Err stop.NoMemory) = tt
stops_at server key case (Err stop.Network) = inl refl
