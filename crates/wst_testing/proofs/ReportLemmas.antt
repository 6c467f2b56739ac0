-- A run that stops at what its report has before all cases.
use Rattle.std.proofs.Common.{◌≡◌, ℕ, Result, true, List}
use Rattle.std.proofs.Common.{sym, subst, IsErrAnd, Ok, Err}
use Rattle.ws_frame.specs.Devices.{Device, HasBegun, IsUntouched}
use Rattle.wst_commands.specs.declared.exit.Exit.{Exit}
use Rattle.wst_commands.specs.declared.fault.Fault.{Fault}
use Rattle.ws_reports.specs.Reports.{ReportValue, start_text}
use Rattle.wst_commands.specs.declared.exit.Exit.TheVariants.{Failed}
use Rattle.wst_commands.specs.declared.fault.Fault.TheVariants.{NoMemory}
use Rattle.wst_testing.specs.Reporting.{StopsAtStart}

pub stops_lacking : (target : List ℕ) (report : ReportValue) (ended : Result Exit Fault) (output : Device)
    → IsErrAnd ended (λ fault. fault ≡ NoMemory) → IsUntouched output → StopsAtStart target report ended output
stops_lacking target report (Ok exit) output is untouched = absurd is
stops_lacking target report (Err fault) output is untouched = (is, untouched)

pub stops_failed : (target : List ℕ) (report : ReportValue) (exit : Exit) (output : Device) → exit ≡ Failed
    → HasBegun (start_text report target) output → output.failed ≡ true → StopsAtStart target report (Ok exit) output
stops_failed target report exit output is begun failed =
    subst (λ (e : Exit). StopsAtStart target report (Ok e) output) (sym is) (begun, failed)
