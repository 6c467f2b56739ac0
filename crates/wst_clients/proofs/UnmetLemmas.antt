-- What is known where nobody is met may be said more weakly of the same run.
use Rattle.std.proofs.Common.{List, ℕ, Result, Ok, Err, inl, inr}
use Rattle.ws_frame.specs.Devices.{Device}
use Rattle.ws_paths.specs.Standings.{StandingValue}
use Rattle.ws_reports.specs.Reports.{ReportValue}
use Rattle.ws_scripts.specs.declared.script.Case.{Case}
use Rattle.wst_commands.specs.declared.exit.Exit.{Exit}
use Rattle.wst_commands.specs.declared.fault.Fault.{Fault}
use Rattle.wst_testing.specs.declared.outcome.Score.{Score}
use Rattle.wst_clients.specs.ClientCaptures.{CapturesClient}
use Rattle.wst_clients.specs.ClientTests.{DocumentsClients, EndsVisits, HaveBeenTaken, IsVisitFault}
use Rattle.wst_clients.specs.ClientTests.{StopsVisiting, TestsAll, TestsClients}
use Rattle.wst_clients.specs.VisitOutcomes.{TakenTurn}
use Rattle.wst_clients.specs.Visits.{Met, Unmet}
use Rattle.wst_clients.specs.declared.visiting.NoVisit.{NoVisit}
use Rattle.wst_clients.specs.declared.visiting.NoVisit.TheVariants.{Never, TooLate}
use Rattle.wst_clients.specs.declared.visiting.VisitRules.{VisitRules}

module _ (m : Met) (u v : Unmet) (rules : VisitRules) (none : (why : NoVisit) → u.none rules why → v.none rules why)
    (fails : u.fails → v.fails) where
  fault_by : (fault : Fault) → IsVisitFault u.fails fault → IsVisitFault v.fails fault
  fault_by fault (inl is) = inl is
  fault_by fault (inr (is, may)) = inr (is, fails may)

  taken_by : (visits : List TakenTurn) (standing : StandingValue) (late : List (List ℕ))
      → HaveBeenTaken m u rules visits standing late → HaveBeenTaken m v rules visits standing late
  taken_by visits standing late (inl all) = inl all
  taken_by visits standing late (inr (may, come, told)) = inr (none TooLate may, come, told)

  stops_by : (output faults : Device) → StopsVisiting m u rules output faults → StopsVisiting m v rules output faults
  stops_by output faults (inl (never, rest)) = inl (none Never never, rest)
  stops_by output faults (inr stops) = inr stops

  ends_by : (standing : StandingValue) (score : Score) (output faults : Device)
      → EndsVisits m u rules standing score output faults → EndsVisits m v rules standing score output faults
  ends_by standing score output faults h = record {
    visits = h.visits;
    late = h.late;
    have_all = taken_by h.visits standing h.late h.have_all;
    counted = h.counted;
    told = h.told;
    noted = h.noted;
  }

  all_by : (exit : Exit) (output faults : Device) → TestsAll m u rules exit output faults
      → TestsAll m v rules exit output faults
  all_by exit output faults h = record {
    visits = h.visits;
    standing = h.standing;
    late = h.late;
    have_all = taken_by h.visits h.standing h.late h.have_all;
    tests = h.tests;
    are_tests = h.are_tests;
    told = h.told;
    noted = h.noted;
  }

  pub tests_by : (ended : Result Exit Fault) (output faults : Device) → TestsClients m u rules ended output faults
      → TestsClients m v rules ended output faults
  tests_by (Ok exit) output faults (inl all) = inl (all_by exit output faults all)
  tests_by (Ok exit) output faults (inr (inl (is, stops))) = inr (inl (is, stops_by output faults stops))
  tests_by (Ok exit) output faults (inr (inr enough)) = inr (inr enough)
  tests_by (Err fault) output faults (is, inl breaks) = (fault_by fault is, inl breaks)
  tests_by (Err fault) output faults (is, inr (inl (standing, score, ends))) =
      (fault_by fault is, inr (inl (standing, score, ends_by standing score output faults ends)))
  tests_by (Err fault) output faults (is, inr (inr enough)) = (fault_by fault is, inr (inr enough))

  pub documents_by : (target : List ℕ) (report : ReportValue) (ended : Result Exit Fault) (output faults : Device)
      → DocumentsClients m u rules target report ended output faults
      → DocumentsClients m v rules target report ended output faults
  documents_by target report ended output faults (inl h) = inl (record {
    begun = h.begun;
    started = h.started;
    failed = h.failed;
    behind = h.behind;
    tests = tests_by ended (record { failed = h.failed; old = h.begun; new = h.behind }) faults h.tests;
    closes = h.closes;
  })
  documents_by target report ended output faults (inr stops) = inr stops

  pub captures_by : (case : Case) (ended : Result Exit Fault) (output faults : Device)
      → CapturesClient m u rules case ended output faults → CapturesClient m v rules case ended output faults
  captures_by case (Ok exit) output faults (inl taken) = inl taken
  captures_by case (Ok exit) output faults (inr (inl (late, passed, told))) = inr (inl (none TooLate late, passed, told))
  captures_by case (Ok exit) output faults (inr (inr (never, is, passed, kept))) =
      inr (inr (none Never never, is, passed, kept))
  captures_by case (Err fault) output faults (is, kept, rest) = (fault_by fault is, kept, rest)
