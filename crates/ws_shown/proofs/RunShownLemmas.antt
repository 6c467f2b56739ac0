-- The run of a script whose lines are wanted: nothing was told yet, one event more, and its end.
use Rattle.std.proofs.Common.{◌≡◌, ◌∙◌, ℕ, List, [], ◌∷◌, ◌++◌, refl, sym, ap, subst, append-nil}
use Rattle.ws_machines.specs.Machines.{Extends, told_at}
use Rattle.ws_machines.specs.Told.{Told}
use Rattle.ws_machines.specs.Told.Told.{Came, DeadlinePassed, DirectionEnded, Ended, NothingCame, ReadFailed, Reported}
use Rattle.ws_machines.specs.Told.Told.{Taken, WriteFailed}
use Rattle.ws_machines.specs.declared.stream.StreamEvent.{StreamEvent}
use Rattle.ws_lines.specs.declared.transcript_lines.Showing.{Showing}
use Rattle.ws_tester.specs.Following.{BeginsRun, ScriptValue, TesterValue, WasTold}
use Rattle.ws_tester.specs.Outgoings.{HaveBytes}
use Rattle.ws_shown.specs.MarkedLines.{AreMarkedLines}
use Rattle.ws_shown.specs.ShownProbes.{IsNoReport}
use Rattle.ws_shown.specs.ShownRuns.{RunShows, WasRunShown}
use Rattle.ws_shown.specs.ShownTesters.{EndsShown, IsRunOfScript, IsShownBy, TellsShown, all_reported, reported_by}
use Rattle.ws_shown.specs.ShownTesters.{wanted_shown, without_report, without_reports}
use Rattle.ws_shown.specs.declared.shown_run.RunEnd.{RunEnd}
use Rattle.ws_shown.specs.declared.shown_tester.ShownTester.{ShownTester}
use Rattle.ws_shown.proofs.ProbeShownLemmas.{reported_more, without_more}

-- nothing was told yet of a tester that begins
pub run_begins : (tester : TesterValue) (x : ShownTester) (script : ScriptValue) → x.tester ≡ tester
    → HaveBytes script.script → BeginsRun script tester.run → WasTold tester tester [] → IsShownBy x []
    → WasRunShown x x []
run_begins tester x script same pieces begins told shown = record {
  script = script;
  pieces = pieces;
  begins = subst (λ (t : TesterValue). BeginsRun script t.run) (sym same) begins;
  was_told = subst (λ (t : TesterValue). WasTold t t []) (sym same) told;
  shown = shown;
  showing = refl;
}

-- it has run since it began
pub script_run : (start x : ShownTester) (told : List Told) → WasRunShown start x told → IsRunOfScript x.tester
script_run start x told h = record {
  run = h.script;
  pieces = h.pieces;
  start = start.tester;
  begins = h.begins;
  told = without_reports told;
  was_told = h.was_told;
}

module _ (start : ShownTester) (told : List Told) (event : Told) where
  run_told : (old new : ShownTester) → IsNoReport event → Extends WasTold old.tester new.tester (event ∷ [])
      → (IsRunOfScript old.tester → (taken : List ℕ) → IsShownBy old taken → IsShownBy new taken)
      → new.room.showing ≡ old.room.showing → WasRunShown start old told → WasRunShown start new (told ++ event ∷ [])
  run_told old new (is, silent) on shows same h = record {
    script = h.script;
    pieces = h.pieces;
    begins = h.begins;
    was_told = subst (λ (l : List Told). WasTold start.tester new.tester l)
        (sym (without_more told event ∙ ap (λ (l : List Told). without_reports told ++ l) is))
        (on start.tester (without_reports told) h.was_told);
    shown = subst (λ (l : List ℕ). IsShownBy new l)
        (sym (reported_more told event ∙ (ap (λ (l : List ℕ). all_reported told ++ l) silent
        ∙ append-nil (all_reported told))))
        (shows (script_run start old told h) (all_reported told) h.shown);
    showing = same ∙ h.showing;
  }

  run_taken : (lines : List ℕ) (old new : ShownTester) → event ≡ Reported lines → new.tester ≡ old.tester
      → ((taken : List ℕ) → IsShownBy old taken → IsShownBy new (taken ++ lines))
      → new.room.showing ≡ old.room.showing → WasRunShown start old told → WasRunShown start new (told ++ event ∷ [])
  run_taken lines old new e tester shows same h = record {
    script = h.script;
    pieces = h.pieces;
    begins = h.begins;
    was_told = subst (λ (x : TesterValue). WasTold start.tester x (without_reports (told ++ event ∷ []))) (sym tester)
        (subst (λ (l : List Told). WasTold start.tester old.tester l)
        (sym (without_more told event ∙ (ap (λ (x : Told). without_reports told ++ without_report x) e
        ∙ append-nil (without_reports told)))) h.was_told);
    shown = subst (λ (l : List ℕ). IsShownBy new l)
        (sym (reported_more told event ∙ ap (λ (x : Told). all_reported told ++ reported_by x) e))
        (shows (all_reported told) h.shown);
    showing = same ∙ h.showing;
  }

  -- by any event
  pub run_on : (old new : ShownTester) → TellsShown old new event → new.room.showing ≡ old.room.showing
      → WasRunShown start old told → WasRunShown start new (told ++ event ∷ [])
  run_on old new tells same h = pick event refl tells
    where
      other : (x : Told) → IsNoReport x → event ≡ x → Extends WasTold old.tester new.tester (x ∷ [])
          → (IsRunOfScript old.tester → (taken : List ℕ) → IsShownBy old taken → IsShownBy new taken)
          → WasRunShown start new (told ++ event ∷ [])
      other x silent e on shows = run_told old new (subst (λ (y : Told). IsNoReport y) (sym e) silent)
          (subst (λ (y : Told). Extends WasTold old.tester new.tester (y ∷ [])) (sym e) on) shows same h

      pick : (e : Told) → event ≡ e → TellsShown old new e → WasRunShown start new (told ++ event ∷ [])
      pick (Reported lines) e (tester, shows) = run_taken lines old new e tester shows same h
      pick (Came bytes) e (on, shows) = other (Came bytes) (refl, refl) e on shows
      pick Ended e (on, shows) = other Ended (refl, refl) e on shows
      pick ReadFailed e (on, shows) = other ReadFailed (refl, refl) e on shows
      pick NothingCame e (on, shows) = other NothingCame (refl, refl) e on shows
      pick (Taken bytes) e (on, shows) = other (Taken bytes) (refl, refl) e on shows
      pick WriteFailed e (on, shows) = other WriteFailed (refl, refl) e on shows
      pick DirectionEnded e (on, shows) = other DirectionEnded (refl, refl) e on shows
      pick (DeadlinePassed waited) e (on, shows) = other (DeadlinePassed waited) (refl, refl) e on shows

-- it was told one thing more, where it is what it was
pub told_at_run : (start now at new : ShownTester) (told : List Told) (happened : StreamEvent) → at ≡ now
    → TellsShown at new (told_at (wanted_shown at) happened) → new.room.showing ≡ at.room.showing
    → WasRunShown start now told → WasRunShown start new (told ++ told_at (wanted_shown now) happened ∷ [])
told_at_run start now at new told happened is tells same h =
    run_on start told (told_at (wanted_shown now) happened) now new
    (subst (λ (x : ShownTester). TellsShown x new (told_at (wanted_shown x) happened)) is tells)
    (same ∙ ap (λ (x : ShownTester). x.room.showing) is) h

-- what comes of it
pub ends_run : (start now : ShownTester) (told : List Told) (end : RunEnd)
    → EndsShown now end.transcript end.last.items → WasRunShown start now told → RunShows start told end
ends_run start now told end ends h = (
  ends.is_end start.tester (without_reports told) h.was_told,
  subst (λ (s : Showing). AreMarkedLines s end.transcript (all_reported told ++ end.last.items)) h.showing
      (ends.lines (script_run start now told h) (all_reported told) h.shown),
)
