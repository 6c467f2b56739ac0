-- The sink is told of the oldest case, or memory runs out.
use Rattle.std.proofs.Common.{◌≡◌, ◌∷◌, ◌<◌, List, [], None, Some, arith, length, refl, slice_get, subst, sym, true}
use Rattle.std.proofs.lemmas.Bool.{false≢true}
use Rattle.std.specs.Prelude.{Err, Ok, Result}
use Rattle.ws_scripts.specs.declared.script.Case.{Case}
use Rattle.wst_errands.specs.Errands.{count_under_way, is_stage_over}
use Rattle.wst_errands.specs.declared.errands.Stage.{Stage}
use Rattle.wst_sockets.specs.declared.meeting.Meeting.{Meeting}
use Rattle.wst_testing.specs.Runner.{AwaitsCase, AwaitsOutcome, Hearing, HearsCase, HearsMeeting, Stopping}
use Rattle.wst_testing.specs.declared.runner.RunStop.{RunStop}
use Rattle.wst_testing.specs.declared.runner.RunStop.TheVariants as stop
use Rattle.wst_at_once.specs.Crowds.{LacksMemoryFor, TellsOldest}

-- one that is over stands in the line
pub over_line : {E W : Type 0} (line : List (Stage E W)) → is_stage_over (slice_get line 0) ≡ true → 0 < length line
over_line [] over = absurd (false≢true over)
over_line (stage ∷ line) over = omega arith

-- and one that is under way
pub some_line : {E W : Type 0} (line : List (Stage E W)) → 0 < count_under_way line → 0 < length line
some_line [] waits = absurd (omega (arith, waits))
some_line (stage ∷ line) waits = omega arith

module _ {I K : Type 0} (case_of : I → Case) (Meets : Case → Meeting → Type 0) (heard : Hearing I K)
    (stopped : Stopping I K) where
  -- the one that was begun is awaited
  pub awaits_outcome : (old mid : K) (item : I) → AwaitsCase heard old → HearsCase heard old mid item
      → AwaitsOutcome heard mid item
  awaits_outcome old mid item (start, told, few, h) begins = (start, told, few, begins start told h)

  pub tells_oldest : (old mid new : K) (before after : List I) (item : I) (meeting : Meeting)
      (ended : Result (Unit {0}) RunStop) → before ≡ item ∷ after → Meets (case_of item) meeting
      → HearsCase heard old mid item → HearsMeeting heard stopped mid new item meeting ended
      → TellsOldest case_of Meets heard stopped old new before after ended
  tells_oldest old mid new before after item meeting (Ok done) first met begins told = record {
    item = item;
    first = first;
    meeting = meeting;
    met = met;
    mid = mid;
    begins = begins;
    told = told;
  }
  tells_oldest old mid new before after item meeting (Err stop.NoMemory) first met begins told =
      subst (λ (l : List I). LacksMemoryFor heard old new l) (sym first) (λ start so_far h. (
        Some item,
        refl,
        subst (λ (k : K). heard start k so_far (Some item)) (sym told) (begins start so_far h),
      ))
  tells_oldest old mid new before after item meeting (Err stop.Enough) first met begins told = record {
    item = item;
    first = first;
    meeting = meeting;
    met = met;
    mid = mid;
    begins = begins;
    told = told;
  }
  tells_oldest old mid new before after item meeting (Err stop.Output) first met begins told = record {
    item = item;
    first = first;
    meeting = meeting;
    met = met;
    mid = mid;
    begins = begins;
    told = told;
  }
  tells_oldest old mid new before after item meeting (Err (stop.NoConnection why)) first met begins told = record {
    item = item;
    first = first;
    meeting = meeting;
    met = met;
    mid = mid;
    begins = begins;
    told = told;
  }

  -- memory ran out before it was told that the oldest one runs
  pub lacks_before : (old new : K) (before after : List I) (why : RunStop) → why ≡ stop.NoMemory → new ≡ old
      → TellsOldest case_of Meets heard stopped old new before after (Err why)
  lacks_before old new before after why is same =
      subst (λ (w : RunStop). TellsOldest case_of Meets heard stopped old new before after (Err w)) (sym is)
      (λ start told h. (None, tt, subst (λ (k : K). heard start k told None) (sym same) h))
