-- The stages of a probe whose lines are wanted: what is wanted there, and what may be told.
use Rattle.std.proofs.Common.{◌≡◌, ◌∙◌, ℕ, ◌⊎◌, ◌+◌, ◌*◌, ◌<◌, ◌≤◌, Bool, true, false, if◌then◌else◌, List, [], length}
use Rattle.std.proofs.Common.{refl, sym, ap, subst, arith, inl, inr}
use Rattle.ws_machines.specs.Machines.{HasNext, MayBeTold, Wants, WasWanted, told_at}
use Rattle.ws_machines.specs.declared.stream.StreamEvent.{StreamEvent}
use Rattle.ws_machines.specs.declared.stream.StreamEvent.TheVariants as event
use Rattle.ws_handshake.specs.Probes.{ProbeValue, is_opening, nothing_wanted, probe_left, probe_left_at, wanted_at, wanted_of}
use Rattle.ws_handshake.specs.declared.probe_end.HeadRefusal.{HeadRefusal}
use Rattle.ws_handshake.specs.declared.probe_machine.ProbeStage.{ProbeStage}
use Rattle.ws_handshake.specs.declared.probe_machine.ProbeStage.TheVariants as stage
use Rattle.ws_tester.specs.Following.{TesterValue}
use Rattle.ws_tester.specs.RunStates.{is_nothing, run_left, wanted_in}
use Rattle.ws_lines.specs.declared.transcript_lines.Showing.{Showing}
use Rattle.ws_shown.specs.ShownProbes.{ComesOn, IsNoReport, IsRunningAt, RunsOnAt, shown_left_at, wants_at}
use Rattle.ws_shown.specs.declared.shown_probe.ShownStage.{ShownStage}
use Rattle.ws_shown.specs.declared.shown_probe.ShownStage.TheVariants as shown
use Rattle.ws_shown.specs.ShownTesters.{left_shown, wants_with_lines}
use Rattle.ws_shown.specs.declared.shown_tester.ShownTester.{ShownTester}

-- with lines it wants something, or is done, as without
pub next_shown : (lines : List ℕ) (wants : Wants) → wants.report ≡ [] → HasNext wants
    → HasNext (wants_with_lines lines wants)
next_shown lines wants none (inl done) = inl done
next_shown lines wants none (inr (inl some)) = absurd (omega (arith, some, ap (λ (l : List ℕ). length l) none))
next_shown lines wants none (inr (inr rest)) = inr (inr rest)

-- a probe wants no lines
pub no_lines : (x : ProbeValue) → (wanted_of x).report ≡ []
no_lines x = pick x.stage
  where
    pick : (s : ProbeStage) → (wanted_at s x.rest x.read).report ≡ []
    pick stage.Opening = refl
    pick (stage.Running tester) = refl
    pick (stage.Refused refusal) = refl
    pick stage.Lost = refl

-- so it is not told that some were taken
pub no_report : (wants : Wants) (happened : StreamEvent) → wants.report ≡ [] → WasWanted wants happened
    → IsNoReport (told_at wants happened)
no_report wants (event.Came piece) none may = (refl, refl)
no_report wants event.Ended none may = (refl, refl)
no_report wants event.ReadFailed none may = (refl, refl)
no_report wants event.NothingCame none may = (refl, refl)
no_report wants (event.Taken count) none may = (refl, refl)
no_report wants event.WriteFailed none may = (refl, refl)
no_report wants event.DirectionEnded none may = (refl, refl)
no_report wants event.Reported none may = absurd (omega (arith, may, ap (λ (l : List ℕ). length l) none))
no_report wants (event.DeadlinePassed waited) none may = (refl, refl)

-- while the head isn't whole it isn't done
pub opening_is_not_done : (x : ProbeValue) → is_opening x.stage ≡ true → (wanted_of x).done ≡ true → ⊥
opening_is_not_done x opening done = pick x.stage opening done
  where
    pick : (s : ProbeStage) → is_opening s ≡ true → (wanted_at s x.rest x.read).done ≡ true → ⊥
    pick stage.Opening o d = absurd cc
    pick (stage.Running tester) o d = absurd cc
    pick (stage.Refused refusal) o d = absurd cc
    pick stage.Lost o d = absurd cc

pub opening_shown_is_not_done : (at : ShownStage) (x : ProbeValue) → at ≡ shown.Opening x → RunsOnAt at
    → (wants_at at).done ≡ true → ⊥
opening_shown_is_not_done at x is runs done =
    opening_is_not_done x (subst (λ (s : ShownStage). RunsOnAt s) is runs)
    (subst (λ (s : ShownStage). (wants_at s).done ≡ true) is done)

-- a tester that runs
pub runs_next : (x : ProbeValue) (tester : TesterValue) → x.stage ≡ stage.Running tester → HasNext (wanted_of x)
    → HasNext (wanted_in tester.run)
runs_next x tester at next = subst (λ (s : ProbeStage). HasNext (wanted_at s x.rest x.read)) at next

pub runs_left : (x : ProbeValue) (shown : ShownTester) → x.stage ≡ stage.Running shown.tester
    → left_shown shown ≤ probe_left x * 2 + 1
runs_left x shown at = bound (is_nothing shown.room.parts.bytes.items)
    (subst (λ (s : ProbeStage). probe_left_at s x ≡ run_left shown.tester.run) (sym at) refl)
  where
    bound : (b : Bool) → probe_left_at x.stage x ≡ run_left shown.tester.run
        → run_left shown.tester.run * 2 + (if b then 0 else 1) ≤ probe_left x * 2 + 1
    bound true e = omega (arith, e)
    bound false e = omega (arith, e)

-- one event behind which less can happen
pub opens_nearer : (a b left : ℕ) → a < b → left ≤ a * 2 + 1 → left < b * 2
opens_nearer a b left less most = omega (arith, less, most)

-- ---- a stage is told one thing more

pub may_at : (at now : ShownStage) (happened : StreamEvent) → at ≡ now → MayBeTold (wants_at at) happened
    → MayBeTold (wants_at now) happened
may_at at now happened is may = subst (λ (s : ShownStage). MayBeTold (wants_at s) happened) is may

pub comes_at : (showing : Showing) (at now new : ShownStage) (happened : StreamEvent) → at ≡ now
    → ComesOn showing now new (told_at (wants_at now) happened)
    → ComesOn showing at new (told_at (wants_at at) happened)
comes_at showing at now new happened is comes =
    subst (λ (s : ShownStage). ComesOn showing s new (told_at (wants_at s) happened)) (sym is) comes

pub nears_at : (at now : ShownStage) (left : ℕ) → at ≡ now → (IsRunningAt now → left < shown_left_at now)
    → IsRunningAt at → left < shown_left_at at
nears_at at now left is nears =
    subst (λ (s : ShownStage). IsRunningAt s → left < shown_left_at s) (sym is) nears

-- where there is nothing more to do nothing is wanted, and nothing told
pub over_wants_nothing : (at : ShownStage) → ((refusal : HeadRefusal) × (at ≡ shown.Refused refusal)) ⊎ (at ≡ shown.Lost)
    → wants_at at ≡ nothing_wanted
over_wants_nothing at (inl (refusal, is)) = ap (λ (s : ShownStage). wants_at s) is
over_wants_nothing at (inr is) = ap (λ (s : ShownStage). wants_at s) is

pub over_is_not_told : (at : ShownStage) (happened : StreamEvent) → wants_at at ≡ nothing_wanted
    → MayBeTold (wants_at at) happened → ⊥
over_is_not_told at happened none may =
    absurd (let wrong : true ≡ false = sym (ap (λ (w : Wants). w.done) none) ∙ may.0 in cc)

pub runs_at : (at now : ShownStage) → at ≡ now → RunsOnAt at → RunsOnAt now
runs_at at now is runs = subst (λ (s : ShownStage). RunsOnAt s) is runs
