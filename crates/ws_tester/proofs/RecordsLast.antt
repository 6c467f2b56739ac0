-- What ends a run is the last that it is told.
use Rattle.std.proofs.Common.{◌≡◌, ◌∙◌, ◌||◌, not, Bool, true, false, List, [], ◌∷◌, ◌++◌, sym, ap}
use Rattle.std.specs.Prelude.{None, Some}
use Rattle.ws_scripts.specs.declared.transcript.Ended.{Ended}
use Rattle.ws_scripts.specs.declared.transcript.Ended.TheVariants.{Tester, Peer, Broken}
use Rattle.ws_machines.specs.Told.{Told}
use Rattle.ws_machines.specs.Told.Told.{Came, DeadlinePassed, DirectionEnded, Ended as StreamEnded, NothingCame}
use Rattle.ws_machines.specs.Told.Told.{ReadFailed, Reported, Taken, WriteFailed}
use Rattle.ws_tester.specs.Outcomes.{by_deadline, outcome_of_event, unless_failed}
use Rattle.ws_tester.specs.RunStates.{RunState, with_run_end}
use Rattle.ws_tester.specs.Following.{Follows, LeadsOnBy, Obeys}
use Rattle.ws_tester.specs.Records.{WasAt, WasLast, is_last_told}
use Rattle.ws_tester.proofs.RecordsGoing.{no_more}

-- a run that has ended doesn't go on
pub none_ended : (how : Ended) (x now : RunState) → now ≡ with_run_end how x → now.ended ≡ None → ⊥
none_ended how x now same goes =
    let wrong : Some how ≡ None = sym (ap (λ (y : RunState). y.ended) same) ∙ goes in cc

by_end : (failed : Bool) (x now : RunState) → Obeys (unless_failed failed Peer) x now → now.ended ≡ None → ⊥
by_end true x now same goes = none_ended Broken x now same goes
by_end false x now same goes = none_ended Peer x now same goes

by_limit : (enough : Bool) (x now : RunState) → Obeys (by_deadline enough) x now → now.ended ≡ None → ⊥
by_limit true x now same goes = none_ended Tester x now same goes
by_limit false x now same goes = none_ended Broken x now same goes

ended_by : (event : Told) (x now : RunState) → is_last_told event ≡ true → LeadsOnBy (outcome_of_event x event) x now
    → now.ended ≡ None → ⊥
ended_by (Came bytes) x now e on goes = cc
ended_by (Taken bytes) x now e on goes = cc
ended_by StreamEnded x now e on goes = by_end x.write_failed x now on goes
ended_by ReadFailed x now e on goes = none_ended Broken x now on goes
ended_by NothingCame x now e on goes = cc
ended_by WriteFailed x now e on goes = cc
ended_by DirectionEnded x now e on goes = cc
ended_by (Reported lines) x now e on goes = cc
ended_by (DeadlinePassed waited) x now e on goes = by_limit (waited || not x.plan.timeouts) x now on goes

-- ---- all events

abbrev first_or : Told → List Told → Told
first_or x [] = x
first_or x (event ∷ told) = event

abbrev without_first : List Told → List Told
without_first [] = []
without_first (event ∷ told) = told

-- nothing follows in a state that has ended
pub none_behind : (start now : RunState) (told after : List Told) → (start.ended ≡ None → ⊥) → Follows start now told
    → told ≡ after → after ≡ []
none_behind start now [] after ended same e = sym e
none_behind start now (event ∷ told) after ended (next, happens, rest) e = absurd (ended happens.goes)

behind : (start now : RunState) (told before after : List Told) (event : Told) → is_last_told event ≡ true
    → Follows start now told → told ≡ before ++ event ∷ after → after ≡ []
behind start now [] before after event ends same e = absurd (no_more before after event e)
behind start now (first ∷ told) [] after event ends (next, happens, rest) e =
    let is : is_last_told first ≡ true = ap (λ (l : List Told). is_last_told (first_or first l)) e ∙ ends in
    none_behind next now told after (ended_by first happens.heard next is happens.goes_on) rest
    (ap (λ (l : List Told). without_first l) e)
behind start now (first ∷ told) (other ∷ before) after event ends (next, happens, rest) e =
    behind next now told before after event ends rest (ap (λ (l : List Told). without_first l) e)

pub last_is : (start now : RunState) (told before : List Told) (event : Told) → Follows start now told
    → WasAt event told before → is_last_told event ≡ true → WasLast event told
last_is start now told before event follows was ends = (
  before,
  was.parts ∙ ap (λ (l : List Told). before ++ event ∷ l)
      (behind start now told before was.after event ends follows was.parts),
)
