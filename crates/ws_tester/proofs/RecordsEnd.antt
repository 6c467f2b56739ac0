-- What comes of a machine that is done is what is recorded, where a stream has one list of events.
use Rattle.std.proofs.Common.{◌≡◌, true, List, refl, sym, ap}
use Rattle.std.specs.Prelude.{Option, None, Some, is_some}
use Rattle.ws_scripts.specs.declared.transcript.Ended.{Ended}
use Rattle.ws_scripts.specs.declared.transcript.Transcript.{Transcript}
use Rattle.ws_machines.specs.Told.{Told}
use Rattle.ws_tester.specs.RunStates.{RunState, recorded}
use Rattle.ws_tester.specs.Following.{Follows}
use Rattle.ws_tester.specs.Records.{IsRecorded}
use Rattle.ws_tester.proofs.StandingLemmas.{OneList, one_standing}
use Rattle.ws_tester.proofs.RecordsTests.{OneStanding}
use Rattle.ws_tester.proofs.RecordLemmas.{recorded_is}

-- then what was got stands in one way
pub one_standing_is : OneList → OneStanding
one_standing_is one reader s t bytes a b = one_standing one reader s t bytes a b

-- how it has ended
ended_so : (ended : Option Ended) (how : Ended) → is_some ended ≡ true → ((some : Ended) → ended ≡ Some some → how ≡ some)
    → ended ≡ Some how
ended_so None how done is = absurd cc
ended_so (Some some) how done is = ap (λ (e : Ended). Some e) (sym (is some refl))

pub end_recorded : OneList → (start now : RunState) (told : List Told) (transcript : Transcript)
    → is_some now.ended ≡ true → transcript.turns ≡ recorded now
    → ((how : Ended) → now.ended ≡ Some how → transcript.ended ≡ how) → Follows start now told
    → IsRecorded start told transcript
end_recorded one start now told transcript done turns ended follows = record {
  of_run = record { now = now; follows = follows; turns = turns; ended = how };
  is_record = λ run pieces begins.
      recorded_is (one_standing_is one) run start now told transcript pieces begins follows turns how;
}
  where
    how : now.ended ≡ Some transcript.ended
    how = ended_so now.ended transcript.ended done ended
