-- A case that is run by the loop: its run over a stream of any kind is one over the list of what that did.
use Rattle.std.proofs.Common.{◌≡◌, ◌∙◌, ℕ, ◌≤◌, List, [], ◌∷◌, ◌++◌, refl, sym, ap, subst, arith, append_assoc, append-nil}
use Rattle.std.proofs.Common.{IfOk, Result, Ok, Err, Some, None, inl, inr}
use Rattle.ws_scripts.specs.declared.script.Case.{Case}
use Rattle.ws_machines.specs.Told.{Told}
use Rattle.ws_machines.specs.Machines.{Wants}
use Rattle.ws_loops.specs.Deeds.{Deed, Happened, HasDone, all_done, done_by}
use Rattle.ws_loops.specs.Slots.{AreSteps, IsStep}
use Rattle.ws_loops.specs.declared.slot.Slot.{Slot}
use Rattle.ws_networks.specs.Bounds.{bounds_from}
use Rattle.ws_networks.specs.Connecting.{AreMissed, HasConnected, only_place}
use Rattle.ws_networks.specs.Meetings.{HasEnded, HasMet}
use Rattle.ws_networks.specs.Networks.{NetworkDeed}
use Rattle.ws_networks.specs.declared.bounds.Bounds.{Bounds}
use Rattle.ws_networks.specs.declared.dialing.Missed.{Missed}
use Rattle.ws_networks.specs.declared.meeting.Met.{Met}
use Rattle.ws_networks.specs.declared.meeting.Met.TheVariants.{Ended, NotMade}
use Rattle.ws_connection.specs.Probing.{BeginsProbe, bytes_by_turn}
use Rattle.ws_handshake.specs.Probes.{ProbeGives, ProbeValue, WasProbed, wanted_of}
use Rattle.ws_handshake.specs.declared.probe_end.Probe.{Probe}
use Rattle.ws_handshake.specs.declared.probe_end.Probe.TheVariants as probe
use Rattle.ws_networks.specs.declared.bounds.Limits.{Limits}
use Rattle.wst_network.specs.declared.connector.ConnectMiss.{ConnectMiss}
use Rattle.ws_loops.specs.declared.fault.LoopFault.{LoopFault}
use Rattle.ws_loops.specs.declared.fault.LoopFault.TheVariants.{NoMemory, NoOutput, WaitFailed}
use Rattle.wst_sockets.specs.Meetings.{probe_of}
use Rattle.wst_sockets.specs.declared.meeting.ConnectFault.{ConnectFault}
use Rattle.wst_sockets.specs.declared.meeting.Meeting.{Meeting}
use Rattle.wst_testing.specs.Servers.{AddressValue, DidThese, IsMeetingBy, IsProbedSo, MeetsAtAddress, MeetsBecause}
use Rattle.wst_testing.specs.Servers.{limits_of_server, meeting_at, plan_at, reason_of_end}

-- ---- a stream as the list of what it did

module _ {M S : Type 0} (agrees : M → M → List Told → Type 0) (wants : M → Wants) (did : S → S → List Deed → Type 0)
  where
    abbrev listed : Slot M S → List Deed → Slot M (List Deed)
    listed slot deeds = record { machine = slot.machine; stream = deeds; pace = slot.pace }

    done_listed : (before more : List Deed) → HasDone DidThese before (before ++ more) more
    done_listed before more start deeds same =
        ap (λ (l : List Deed). l ++ more) same ∙ append_assoc start deeds more

    step_listed : (old new : Slot M S) (now : ℕ) (deed : Deed) (before : List Deed)
        → IsStep agrees wants did old now deed new
        → IsStep agrees wants DidThese (listed old before) now deed (listed new (before ++ done_by deed))
    step_listed old new now deed before h =
        record { told = h.told; done = done_listed before (done_by deed); paced = h.paced; order = h.order }

    steps_listed : (from : ℕ) (old : Slot M S) (happened : List Happened) (to : ℕ) (new : Slot M S)
        (before : List Deed) → AreSteps agrees wants did from old happened to new
        → AreSteps agrees wants DidThese from (listed old before) happened to (listed new (before ++ all_done happened))
    steps_listed from old [] to new before (later, same) = (
      later,
      ap (λ (s : Slot M S). listed s before) same
          ∙ ap (λ (l : List Deed). listed new l) (sym (append-nil before)),
    )
    steps_listed from old (x ∷ happened) to new before (later, (next, step, rest)) = (
      later,
      (
        listed next (before ++ done_by x.deed),
        step_listed old next x.at x.deed before step,
        subst (λ (l : List Deed). AreSteps agrees wants DidThese x.at (listed next (before ++ done_by x.deed)) happened to
            (listed new l)) (append_assoc before (done_by x.deed) (all_done happened))
            (steps_listed x.at next happened to new (before ++ done_by x.deed) rest),
      ),
    )

    pub ended_listed : {E : Type 0} (gives : M → List Told → E → Type 0) (bounds : Bounds) (from to : ℕ) (machine : M)
        (end : E) (stream : S) (h : HasEnded agrees wants gives did bounds from to machine end stream)
        → HasEnded agrees wants gives DidThese bounds from to machine end (all_done h.happened)
    ended_listed gives bounds from to machine end stream h = record {
      first = [];
      happened = h.happened;
      last = listed h.last (all_done h.happened);
      run = record {
        told = h.run.told;
        done = done_listed [] (all_done h.happened);
        steps = steps_listed from _ h.happened to h.last [] h.run.steps;
      };
      is_last = refl;
      done = h.done;
      is_end = h.is_end;
      was_done = refl;
    }

-- ---- a connection is made no earlier than it was begun

missed_later : {A W : Type 0} (at : ℕ) (bounds : Bounds) (from to : ℕ) (addresses : List A) (misses : List (Missed W))
    (deeds : List (NetworkDeed A W)) → AreMissed at bounds from to addresses misses deeds → from ≤ to
missed_later at bounds from to [] [] deeds (later, none) = later
missed_later at bounds from to [] (why ∷ misses) deeds h = absurd h
missed_later at bounds from to (address ∷ addresses) [] deeds h = absurd h
missed_later at bounds from to (address ∷ addresses) (why ∷ misses) deeds
    (mid, one, rest, parts, (since, now, after, between, before, missed), others) =
    let last = missed_later at bounds mid to addresses misses rest others in omega (arith, after, between, before, last)

pub made_later : {A W N : Type 0} (did : N → N → List (NetworkDeed A W) → Type 0) (at : ℕ) (bounds : Bounds) (from to : ℕ)
    (old new : N) (name : List ℕ) → HasConnected did at bounds from to old new name None → from ≤ to
made_later did at bounds from to old new name (deeds, added, inl (cause, none, parts)) = absurd cc
made_later did at bounds from to old new name (deeds, added, inr (addresses, tries, parts, made)) =
    let first = missed_later at bounds from made.mid made.before made.misses made.tried made.are_missed in
    omega (arith, first, made.behind, made.later)

-- ---- what came of a case

pub probe_at : (probe : Probe) (reason : ConnectFault) → probe_of (meeting_at probe reason) ≡ probe
probe_at (probe.Ran transcript) reason = refl
probe_at (probe.Refused refusal) reason = refl
probe_at probe.NoConnection reason = refl

module _ (server : AddressValue) (key : List ℕ) (case : Case) (start : ProbeValue)
    (begins : BeginsProbe (plan_at server) (bytes_by_turn case (Some key)) server.request server.budget start) where
  abbrev pub HasMetServer : {S A W N : Type 0} → (S → S → List Deed → Type 0) → (N → N → List (NetworkDeed A W) → Type 0)
      → ℕ → ℕ → N → N → List ℕ → Met Probe S W → Type 0
  HasMetServer did does from to old new name met = HasMet WasProbed (λ (now : ProbeValue). wanted_of now) ProbeGives
      did does (limits_of_server server) from to old new name start met

  met_so : {S A N : Type 0} (did : S → S → List Deed → Type 0)
      (does : N → N → List (NetworkDeed A ConnectMiss) → Type 0)
      (from to : ℕ) (old new : N) (name : List ℕ) (met : Met Probe S ConnectMiss) (meeting : Meeting)
      → HasMetServer did does from to old new name met → IsMeetingBy (Ok met) meeting
      → MeetsAtAddress server key case meeting
  met_so did does from to old new name (NotMade why) meeting h same = inl (ap (λ (m : Meeting). probe_of m) same)
  met_so did does from to old new name (Ended probe stream) meeting
      (begun, made, after, connected, (now, later, ended)) (end, same) =
      let bounds = bounds_from (limits_of_server server) begun in
      let first = made_later does only_place bounds begun made old new name connected in
      let told = ap (λ (m : Meeting). probe_of m) same ∙ probe_at probe (reason_of_end end) in
      inr (subst (λ (p : Probe). IsProbedSo server key case p) (sym told) (record {
        start = start;
        begins = begins;
        begun = begun;
        made = now;
        in_order = omega (arith, first, later);
        to = to;
        did = all_done ended.happened;
        ended = ended_listed WasProbed (λ (v : ProbeValue). wanted_of v) did ProbeGives bounds now to start probe stream
            ended;
      }))

  pub met_or_not : {S A N E : Type 0} (did : S → S → List Deed → Type 0)
      (does : N → N → List (NetworkDeed A ConnectMiss) → Type 0) (from to : ℕ) (old new : N) (name : List ℕ)
      (met : Result (Met Probe S ConnectMiss) LoopFault) (answer : Result Meeting E)
      → IfOk met (λ m. HasMetServer did does from to old new name m)
      → IfOk answer (λ meeting. IsMeetingBy met meeting) → IfOk answer (λ meeting. MeetsAtAddress server key case meeting)
  met_or_not did does from to old new name met (Err why) h by = by
  met_or_not did does from to old new name (Err NoMemory) (Ok meeting) h by = absurd by
  met_or_not did does from to old new name (Err WaitFailed) (Ok meeting) h by =
      inl (ap (λ (m : Meeting). probe_of m) by)
  met_or_not did does from to old new name (Err NoOutput) (Ok meeting) h by = inl (ap (λ (m : Meeting). probe_of m) by)
  met_or_not did does from to old new name (Ok met) (Ok meeting) h by =
      met_so did does from to old new name met meeting h by

  -- and why
  pub met_because : {S A N E : Type 0} (did : S → S → List Deed → Type 0)
      (does : N → N → List (NetworkDeed A ConnectMiss) → Type 0) (from to : ℕ) (old new : N) (name : List ℕ)
      (met : Result (Met Probe S ConnectMiss) LoopFault) (answer : Result Meeting E)
      → IfOk met (λ m. HasMetServer did does from to old new name m)
      → IfOk answer (λ meeting. IsMeetingBy met meeting)
      → IfOk answer (λ meeting. MeetsBecause did does server key case from to old new name meeting)
  met_because did does from to old new name met (Err why) h by = by
  met_because did does from to old new name (Err NoMemory) (Ok meeting) h by = absurd by
  met_because did does from to old new name (Err WaitFailed) (Ok meeting) h by = inr by
  met_because did does from to old new name (Err NoOutput) (Ok meeting) h by = inr by
  met_because did does from to old new name (Ok met) (Ok meeting) h by = inl (start, met, begins, h, by)
