-- A tester whose lines are wanted: its beginning, one event more, lines that were taken, and its end.
use Rattle.std.proofs.Common.{◌≡◌, ◌∙◌, ℕ, ◌+◌, ◌*◌, ◌<◌, Bool, true, false, if◌then◌else◌, List, [], ◌∷◌, ◌++◌}
use Rattle.std.proofs.Common.{refl, sym, ap, subst, arith, length}
use Rattle.ws_scripts.specs.declared.transcript.Transcript.{Transcript}
use Rattle.ws_scripts.specs.declared.transcript.Turn.{Turn}
use Rattle.ws_machines.specs.Told.{Told}
use Rattle.ws_machines.specs.Machines.{Extends, MayBeTold, told_at}
use Rattle.ws_machines.specs.declared.stream.StreamEvent.{StreamEvent}
use Rattle.ws_machines.specs.declared.stream.StreamEvent.TheVariants as event
use Rattle.ws_tester.specs.Following.{Happens, TesterValue, WasTold}
use Rattle.ws_tester.specs.Outcomes.{outcome_of_event}
use Rattle.ws_tester.specs.Outgoings.{first_piece}
use Rattle.ws_tester.specs.Records.{IsRecorded}
use Rattle.ws_tester.specs.RunStates.{RunState, is_nothing, recorded, run_left, turns_of_run, wanted_in}
use Rattle.ws_tester.proofs.RecordsTests.{OneStanding}
use Rattle.ws_shown.specs.LineRooms.{EndsLines, HasCleared, HasLinesOf, LineRoomValue}
use Rattle.ws_shown.specs.MarkedLines.{AreMarkedLines}
use Rattle.ws_shown.specs.ShownTesters.{HearsShown, IsRunOfScript, IsShownBy, ShowsRun, TellsShown, is_report}
use Rattle.ws_shown.specs.ShownTesters.{left_shown, wanted_shown}
use Rattle.ws_shown.specs.TurnsTold.{IsToldOfRun}
use Rattle.ws_shown.specs.declared.shown_tester.ShownTester.{ShownTester}
use Rattle.ws_shown.specs.declared.turns_told.TurnsTold.{TurnsTold}
use Rattle.ws_shown.proofs.GrowthLemmas.{hears_on, leads_goes, told_goes}
use Rattle.ws_shown.proofs.RunLemmas.{none_told, one_event, running_holds}

-- ---- the beginning

pub shown_anew : (tester : TesterValue) (first told : TurnsTold) (fresh room : LineRoomValue) → first.whole ≡ 0
    → first.is_sent ≡ false → HasLinesOf fresh [] []
    → ((turns : List Turn) → IsToldOfRun first tester.run turns → ShowsRun tester.run told turns fresh room)
    → IsShownBy (record { tester = tester; told = told; room = room }) []
shown_anew tester first told fresh room whole none lines shows =
    let s = shows [] (none_told first tester.run whole none) in
    record {
      turns = s.new_turns;
      told_of = s.told_of;
      shown = s.shows [] lines;
      over = s.over;
      all = s.all;
      none = s.none;
    }

-- ---- one event

module _ (one : OneStanding) (old new : ShownTester) (event : Told) where
  event_shows : Happens old.tester.run event new.tester.run → IsRunOfScript old.tester
      → ((turns : List Turn) → IsToldOfRun old.told new.tester.run turns
      → ShowsRun new.tester.run new.told turns old.room new.room)
      → (taken : List ℕ) → IsShownBy old taken → IsShownBy new taken
  event_shows happens r shows taken h =
      let x = old.tester.run in
      let holds = running_holds one r.run r.start.run x r.told r.pieces r.begins r.was_told.0 happens.goes in
      let on = hears_on event x happens.heard holds.0.pieces.0 happens.may happens.changes in
      let goes = leads_goes (outcome_of_event happens.heard event) happens.heard new.tester.run happens.goes_on in
      let s = shows h.turns (told_goes old.told x happens.heard new.tester.run h.turns happens.goes on goes h.told_of) in
      record {
        turns = s.new_turns;
        told_of = s.told_of;
        shown = s.shows taken h.shown;
        over = s.over;
        all = s.all;
        none = λ e. s.none e ∙ h.none (sym (goes.0 ∙ on.begun) ∙ e);
      }

  pub hears_shown : Extends WasTold old.tester new.tester (event ∷ [])
      → ((turns : List Turn) → IsToldOfRun old.told new.tester.run turns
      → ShowsRun new.tester.run new.told turns old.room new.room) → HearsShown old new event
  hears_shown told shows = (
    told,
    λ r taken h. event_shows (one_event old.tester new.tester event r.was_told.1 told) r shows taken h,
  )

-- ---- lines that were taken

pub taken_shown : (old new : ShownTester) (taken : List ℕ) → new.tester ≡ old.tester → new.told ≡ old.told
    → HasCleared old.room new.room → IsShownBy old taken → IsShownBy new (taken ++ old.room.parts.bytes.items)
taken_shown old new taken same told (showing, (none, cleared)) h =
    subst (λ (x : TesterValue). IsShownBy (record { tester = x; told = new.told; room = new.room })
    (taken ++ old.room.parts.bytes.items)) (sym same)
    (subst (λ (t : TurnsTold). IsShownBy (record { tester = old.tester; told = t; room = new.room })
    (taken ++ old.room.parts.bytes.items)) (sym told) (record {
      turns = h.turns;
      told_of = h.told_of;
      shown = cleared h.turns taken h.shown;
      over = h.over;
      all = h.all;
      none = h.none;
    }))

-- ---- what can still happen

pub nearer : (a b : ℕ) (x y : Bool) → a < b → a * 2 + (if x then 0 else 1) < b * 2 + (if y then 0 else 1)
nearer a b true true less = omega (arith, less)
nearer a b true false less = omega (arith, less)
nearer a b false true less = omega (arith, less)
nearer a b false false less = omega (arith, less)

pub nearer_taken : (a : ℕ) (x y : List ℕ) → 0 < length x → y ≡ []
    → a * 2 + (if is_nothing y then 0 else 1) < a * 2 + (if is_nothing x then 0 else 1)
nearer_taken a [] y some none = absurd (omega (arith, some))
nearer_taken a (byte ∷ x) y some none =
    subst (λ (l : List ℕ). a * 2 + (if is_nothing l then 0 else 1) < a * 2 + 1) (sym none) (omega arith)

-- ---- what happens to the machine

-- where it is not that lines were taken, its tester may be told it, and was
pub may_hear : (x : ShownTester) (happened : StreamEvent) → is_report happened ≡ false
    → MayBeTold (wanted_shown x) happened → MayBeTold (wanted_in x.tester.run) happened
may_hear x (event.Came piece) other may = may
may_hear x event.Ended other may = may
may_hear x event.ReadFailed other may = may
may_hear x event.NothingCame other may = may
may_hear x (event.Taken count) other may = may
may_hear x event.WriteFailed other may = may
may_hear x event.DirectionEnded other may = may
may_hear x (event.DeadlinePassed waited) other may = may
may_hear x event.Reported other may = absurd cc

pub hears_tells : (old new : ShownTester) (happened : StreamEvent) → is_report happened ≡ false
    → HearsShown old new (told_at (wanted_in old.tester.run) happened)
    → TellsShown old new (told_at (wanted_shown old) happened)
hears_tells old new (event.Came piece) other hears = hears
hears_tells old new event.Ended other hears = hears
hears_tells old new event.ReadFailed other hears = hears
hears_tells old new event.NothingCame other hears = hears
hears_tells old new (event.Taken count) other hears = hears
hears_tells old new event.WriteFailed other hears = hears
hears_tells old new event.DirectionEnded other hears = hears
hears_tells old new (event.DeadlinePassed waited) other hears = hears
hears_tells old new event.Reported other hears = absurd cc

-- and else they were
pub taken_tells : (old new : ShownTester) (happened : StreamEvent) → is_report happened ≡ true
    → new.tester ≡ old.tester → new.told ≡ old.told → HasCleared old.room new.room
    → TellsShown old new (told_at (wanted_shown old) happened)
taken_tells old new event.Reported report tester told clears =
    (tester, λ taken h. taken_shown old new taken tester told clears h)
taken_tells old new (event.Came piece) report tester told clears = absurd cc
taken_tells old new event.Ended report tester told clears = absurd cc
taken_tells old new event.ReadFailed report tester told clears = absurd cc
taken_tells old new event.NothingCame report tester told clears = absurd cc
taken_tells old new (event.Taken count) report tester told clears = absurd cc
taken_tells old new event.WriteFailed report tester told clears = absurd cc
taken_tells old new event.DirectionEnded report tester told clears = absurd cc
taken_tells old new (event.DeadlinePassed waited) report tester told clears = absurd cc

pub taken_nears : (old new : ShownTester) (happened : StreamEvent) → is_report happened ≡ true
    → MayBeTold (wanted_shown old) happened → new.tester ≡ old.tester → HasCleared old.room new.room
    → left_shown new < left_shown old
taken_nears old new event.Reported report may tester clears =
    subst (λ (x : TesterValue). run_left x.run * 2 + (if is_nothing new.room.parts.bytes.items then 0 else 1)
    < left_shown old) (sym tester)
    (nearer_taken (run_left old.tester.run) old.room.parts.bytes.items new.room.parts.bytes.items may.1 clears.1.0)
taken_nears old new (event.Came piece) report may tester clears = absurd cc
taken_nears old new event.Ended report may tester clears = absurd cc
taken_nears old new event.ReadFailed report may tester clears = absurd cc
taken_nears old new event.NothingCame report may tester clears = absurd cc
taken_nears old new (event.Taken count) report may tester clears = absurd cc
taken_nears old new event.WriteFailed report may tester clears = absurd cc
taken_nears old new event.DirectionEnded report may tester clears = absurd cc
taken_nears old new (event.DeadlinePassed waited) report may tester clears = absurd cc

-- ---- the end

-- the turns that were shown are those that are recorded
pub all_recorded : (x : ShownTester) (taken : List ℕ) (h : IsShownBy x taken) → (wanted_in x.tester.run).done ≡ true
    → h.turns ≡ recorded x.tester.run
all_recorded x taken h done = pick x.tester.run.begun refl
  where
    no_write_left : (wanted_in x.tester.run).write ≡ []
    no_write_left = ap (λ (b : Bool). if b then [] else first_piece x.tester.run.outgoing.rest) done

    pick : (b : Bool) → x.tester.run.begun ≡ b → h.turns ≡ recorded x.tester.run
    pick true e = h.all e no_write_left
        ∙ sym (ap (λ (c : Bool). if c then turns_of_run x.tester.run else []) e)
    pick false e = h.none e ∙ sym (ap (λ (c : Bool). if c then turns_of_run x.tester.run else []) e)

pub ends_lines : (x : ShownTester) (transcript : Transcript) (last taken : List ℕ) → (wanted_in x.tester.run).done ≡ true
    → IsRecorded x.tester.run [] transcript → EndsLines x.room.showing x.room.parts transcript.ended last
    → IsShownBy x taken
    → AreMarkedLines x.room.showing transcript (taken ++ last)
ends_lines x transcript last taken done is ends h =
    subst (λ (l : List Turn). AreMarkedLines x.room.showing (record { turns = l; ended = transcript.ended })
    (taken ++ last)) same (ends h.turns taken h.shown)
  where
    same : h.turns ≡ transcript.turns
    same = all_recorded x taken h done
        ∙ (sym (ap (λ (s : RunState). recorded s) is.of_run.follows) ∙ sym is.of_run.turns)
