-- The one case of which a capture is written, and how a run of it ends.
use Rattle.std.proofs.Common.{◌≡◌, ◌∙◌, ℕ, List, [], ◌∷◌, ◌++◌, Option, Some, None, Result, Ok, Err}
use Rattle.std.proofs.Common.{Bool, true, ap, append-nil, arith, inl, inr, length, refl, subst, sym}
use Rattle.std.specs.Io.KnownBytes.{Appends, Keeps}
use Rattle.ws_frame.specs.Devices.{Device}
use Rattle.ws_scripts.specs.declared.script.Case.{Case}
use Rattle.wst_commands.specs.Judge.{exit_of}
use Rattle.wst_commands.specs.declared.exit.Exit.{Exit}
use Rattle.wst_commands.specs.declared.exit.Exit.TheVariants.{Damaged, Failed}
use Rattle.wst_commands.specs.declared.fault.Fault.{Fault}
use Rattle.wst_commands.specs.declared.fault.Fault.TheVariants.{NoMemory}
use Rattle.wst_sockets.specs.declared.meeting.Meeting.{Meeting}
use Rattle.wst_sockets.specs.declared.meeting.Meeting.TheVariants.{NoConnection, Ran, Refused}
use Rattle.wst_testing.specs.Capturer.{AwaitsCapture, EndsCapture, HasCaptured, IsEndOfCapture, TellsCame}
use Rattle.wst_testing.specs.Notes.{progress_notes}
use Rattle.wst_testing.specs.Runner.{CameOf, GaveAllOfList, GaveOfList, Hearing, IsGivenNext, ListValue, RunsEach, Stopping}
use Rattle.wst_testing.specs.Runner.{items_of}
use Rattle.wst_testing.specs.Testing.{RunsCapture, TellsMeeting, meeting_notes}
use Rattle.wst_testing.specs.declared.runner.RunStop.{RunStop}
use Rattle.wst_testing.specs.declared.runner.RunStop.TheVariants as stop
use Rattle.wst_testing.specs.declared.testing.RunRules.{RunRules}
use Rattle.wst_testing.proofs.NoteLemmas.{noted_next}
use Rattle.wst_testing.proofs.TestLemmas.{delivers_after}

-- ---- the one case

abbrev first_of : Case → List Case → Case
first_of other [] = other
first_of other (case ∷ cases) = case

-- the only one of a list
only_case : (case run : Case) (rest : List Case) → case ∷ [] ≡ run ∷ rest → run ≡ case
only_case case run rest e = sym (ap (λ (l : List Case). first_of run l) e)

-- ---- what came of it

-- nothing was written
keeps_nothing : (old mid : Option (List ℕ)) → Keeps old mid → Appends old mid []
keeps_nothing None mid kept = tt
keeps_nothing (Some xs) None kept = absurd kept
keeps_nothing (Some xs) (Some ys) kept = kept ∙ sym (append-nil xs)

-- what is written behind nothing
told_behind : (rules : RunRules) (case : Case) (meeting : Meeting) (exit : Exit) (failed : Bool)
    (old mid new : Option (List ℕ)) → Keeps old mid
    → TellsMeeting rules case meeting exit (record { failed = failed; old = mid; new = new })
    → TellsMeeting rules case meeting exit (record { failed = failed; old = old; new = new })
told_behind rules case (Ran transcript) exit failed old mid new kept (verdict, is, told) = (
  verdict,
  is,
  delivers_after old mid new failed [] _ (exit_of verdict) exit (keeps_nothing old mid kept) told,
)
told_behind rules case (Refused refusal) exit failed old mid new kept told =
    delivers_after old mid new failed [] _ Damaged exit (keeps_nothing old mid kept) told
told_behind rules case (NoConnection why) exit failed old mid new kept told =
    delivers_after old mid new failed [] _ Failed exit (keeps_nothing old mid kept) told

-- What came of the case that runs was told: `f` and `g` say whether the fault output has failed before and since, which
-- held `a`, then `b`, then `c`.
pub captured_then : (rules : RunRules) (told : List (Case × Meeting)) (case : Case) (meeting : Meeting) (exit : Exit)
    (worked failed : Bool) (old mid new : Option (List ℕ)) (f g : Bool) (a b c : Option (List ℕ))
    → AwaitsCapture rules told (Some case) (record { failed = worked; old = old; new = mid })
    (record { failed = f; old = a; new = b }) → (f ≡ true → g ≡ true)
    → TellsCame rules case meeting exit (record { failed = failed; old = mid; new = new })
    (record { failed = g; old = b; new = c })
    → HasCaptured rules (told ++ (case, meeting) ∷ []) exit (record { failed = failed; old = old; new = new })
    (record { failed = g; old = a; new = c })
captured_then rules told case meeting exit worked failed old mid new f g a b c so still (is, notes) = record {
  case = case;
  meeting = meeting;
  one = ap (λ (l : List (Case × Meeting)). l ++ (case, meeting) ∷ []) so.none;
  told = told_behind rules case meeting exit failed old mid new so.untouched is;
  noted = noted_next (progress_notes rules.progress case) (meeting_notes meeting) f g a b c still so.noted notes;
}

-- ---- a run

module _ (Meets : Case → Meeting → Type 0) (rules : RunRules) (case : Case) where
  -- what came of it was written
  captured_so : (came : List (Case × Meeting)) (rest : List Case) (exit : Exit) (output faults : Device)
      → CameOf (λ (c : Case). c) Meets came → case ∷ [] ≡ items_of came ++ rest
      → HasCaptured rules came exit output faults → RunsCapture Meets rules case (Ok exit) output faults
  captured_so came rest exit output faults met given h =
      let one = subst (λ (l : List (Case × Meeting)). CameOf (λ (c : Case). c) Meets l) h.one met in
      let whole = given ∙ ap (λ (l : List (Case × Meeting)). items_of l ++ rest) h.one in
      subst (λ (c : Case). RunsCapture Meets rules c (Ok exit) output faults) (only_case case h.case rest whole) (
        progress_notes rules.progress h.case ++ meeting_notes h.meeting,
        (h.meeting, one.0, h.told, refl),
        h.noted,
      )

  -- memory ran out before it
  capture_lacks : (came : List (Case × Meeting)) (more rest : List Case) (next : Option Case) (output faults : Device)
      → case ∷ [] ≡ (items_of came ++ more) ++ rest → IsGivenNext more next
      → AwaitsCapture rules came next output faults → RunsCapture Meets rules case (Err NoMemory) output faults
  capture_lacks came more rest None output faults given is_next so = ([], (refl, so.untouched, inl refl), so.noted)
  capture_lacks came more rest (Some next) output faults given is_next so =
      let whole : case ∷ [] ≡ next ∷ rest =
      given ∙ ap (λ (l : List (Case × Meeting)). (items_of l ++ more) ++ rest) so.none
      ∙ ap (λ (l : List Case). l ++ rest) is_next in
      let same = only_case case next rest whole in (
        progress_notes rules.progress next,
        (refl, so.untouched, inr (ap (λ (c : Case). progress_notes rules.progress c) same)),
        so.noted,
      )

  -- a run doesn't go on to its end
  goes_no_further : (came : List (Case × Meeting)) → case ∷ [] ≡ items_of came → came ≡ [] → ⊥
  goes_no_further came given none =
      let e = given ∙ ap (λ (l : List (Case × Meeting)). items_of l) none in
      omega (arith, ap (λ (l : List Case). length l) e)

  -- the sink of a run is a capturer that has written and told this
  pub capture_ended : {K : Type 0} (heard : Hearing Case K) (stopped : Stopping Case K) (source : ListValue) (old new : K)
      (run : Result (Unit {0}) RunStop) (exit : Exit) (ended : Result Exit Fault) (output faults : Device)
      → source.rest ≡ case ∷ []
      → ((came : List (Case × Meeting)) (next : Option Case) → heard old new came next
      → AwaitsCapture rules came next output faults)
      → ((came : List (Case × Meeting)) (w : RunStop) → stopped old new came w
      → EndsCapture rules came exit w output faults)
      → RunsEach (λ (c : Case). c) Meets GaveOfList (λ start now cases. GaveAllOfList start cases) heard stopped source
      old new run → IsEndOfCapture run exit ended → RunsCapture Meets rules case ended output faults
  capture_ended heard stopped source old new (Ok _) exit ended output faults one hears stops h is =
      absurd (goes_no_further h.came (sym one ∙ h.given) (hears h.came None h.told).none)
  capture_ended heard stopped source old new (Err stop.Enough) exit ended output faults one hears stops h is =
      subst (λ (e : Result Exit Fault). RunsCapture Meets rules case e output faults) (sym is)
      (captured_so h.came h.last.rest exit output faults h.met (sym one ∙ h.stops.0.0)
      (stops h.came stop.Enough h.stops.1))
  capture_ended heard stopped source old new (Err stop.Output) exit ended output faults one hears stops h is =
      absurd (stops h.came stop.Output h.stops.1)
  capture_ended heard stopped source old new (Err (stop.NoConnection why)) exit ended output faults one hears stops h is =
      absurd (stops h.came (stop.NoConnection why) h.stops.1)
  capture_ended heard stopped source old new (Err stop.NoMemory) exit ended output faults one hears stops h is =
      let (more, next, given, is_next, told) = h.stops in
      subst (λ (e : Result Exit Fault). RunsCapture Meets rules case e output faults) (sym is)
      (capture_lacks h.came more h.last.rest next output faults (sym one ∙ given.0) is_next (hears h.came next told))
