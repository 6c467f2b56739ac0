-- The capture of one case that a client under test asks for, by how its turn was taken.
use Rattle.std.proofs.Common.{◌≡◌, ℕ, IsErrAnd, List, Option, Result, Ok, Err, inl, inr, subst, sym}
use Rattle.std.specs.Prelude.{MatchResult}
use Rattle.std.proofs.KnownBytes.{Keeps-refl}
use Rattle.ws_frame.specs.Devices.{Device, IsUntouched, watched}
use Rattle.ws_frame.specs.Watching.{inner_of}
use Rattle.ws_frame.specs.declared.watching.Watched.{Watched}
use Rattle.ws_paths.specs.declared.purpose.Purpose.{Purpose}
use Rattle.ws_scripts.specs.declared.expectation.Expectation.{Expectation}
use Rattle.ws_scripts.specs.declared.script.Case.{Case}
use Rattle.ws_scripts.specs.declared.transcript.Transcript.{Transcript}
use Rattle.ws_wire.specs.declared.role.Role.TheVariants.{Client}
use Rattle.wst_commands.specs.declared.exit.Exit.{Exit}
use Rattle.wst_commands.specs.declared.fault.Fault.{Fault}
use Rattle.wst_commands.specs.declared.fault.Fault.TheVariants.{NoMemory}
use Rattle.wst_testing.specs.Testing.{WritesCapture, run_capture}
use Rattle.wst_clients.specs.ClientCaptures.{CapturesClient, WritesLast, WritesTaken, first_standing}
use Rattle.wst_clients.specs.ClientTests.{IsVisitFault}
use Rattle.wst_clients.specs.Turns.{TakesNext}
use Rattle.wst_clients.specs.Visits.{BreaksTurn, Met, Unmet}
use Rattle.wst_clients.specs.declared.visiting.NoVisit.{NoVisit}
use Rattle.wst_clients.specs.declared.visiting.NoVisit.TheVariants.{Never, TooLate}
use Rattle.wst_clients.specs.declared.visiting.Visit.{Visit}
use Rattle.wst_clients.specs.declared.visiting.Visit.TheVariants as visit
use Rattle.wst_clients.specs.declared.visiting.VisitRules.{VisitRules}

-- the capture of a run over a client is that of the turn
pub last_captured : (expected : Expectation) (case : Case) (came : Visit) (purpose : Purpose) (transcript : Transcript)
    (key : List ℕ) (exit : Exit) (output : Device) → came ≡ visit.Ran purpose transcript
    → WritesCapture Client expected (run_capture Client key transcript) exit output
    → WritesLast expected case came exit output
last_captured expected case came purpose transcript key exit output is writes =
    subst (λ (v : Visit). WritesLast expected case v exit output) (sym is) writes

-- of a turn that was taken, or of none, the same is written
pub taken_written : (expected : Expectation) (case : Case) (taken said : Result Visit NoVisit) (ended : Result Exit Fault)
    (output : Device) (Kept : Type 0) → taken ≡ said
    → MatchResult ended (λ exit. WritesTaken expected case said exit output) (λ fault. (fault ≡ NoMemory) × Kept)
    → MatchResult ended (λ exit. WritesTaken expected case taken exit output) (λ fault. (fault ≡ NoMemory) × Kept)
taken_written expected case taken said ended output Kept is told =
    subst (λ (t : Result Visit NoVisit). MatchResult ended (λ exit. WritesTaken expected case t exit output)
    (λ fault. (fault ≡ NoMemory) × Kept)) (sym is) told

-- where an output is as before, nothing was written
pub kept_untouched : {W : Type 0} (contents : W → Option (List ℕ)) (old new : Watched W) → new ≡ old
    → IsUntouched (watched contents old new)
kept_untouched contents old new same = subst (λ w. IsUntouched (watched contents old w)) (sym same)
    (Keeps-refl (contents (inner_of old)))

module _ (m : Met) (u : Unmet) (rules : VisitRules) (case : Case) (output faults : Device) where
  -- what came of the turn is written, or memory ran out for that
  pub captured : (taken : Result Visit NoVisit) (ended : Result Exit Fault) (Kept : Type 0)
      → TakesNext m u rules (first_standing rules) taken faults → (Kept → IsUntouched output)
      → MatchResult ended (λ exit. WritesTaken rules.expected case taken exit output)
      (λ fault. (fault ≡ NoMemory) × Kept) → CapturesClient m u rules case ended output faults
  captured (Ok came) (Ok exit) Kept taken kept told = inl (came, taken, told)
  captured (Ok came) (Err fault) Kept taken kept (is, same) = (inl is, kept same, inr (inl (came, taken)))
  captured (Err TooLate) (Ok exit) Kept (late, passed) kept told = inr (inl (late, passed, told))
  captured (Err Never) (Ok exit) Kept (never, passed) kept (is, same) = inr (inr (never, is, passed, same))
  captured (Err why) (Err fault) Kept (none, passed) kept (is, same) = (inl is, kept same, inr (inr passed))

  -- a turn was not taken to its end
  pub captured_broken : (ended : Result Exit Fault) → IsErrAnd ended (IsVisitFault u.fails)
      → BreaksTurn m rules (first_standing rules) faults → IsUntouched output
      → CapturesClient m u rules case ended output faults
  captured_broken (Ok exit) is broken kept = absurd is
  captured_broken (Err fault) is broken kept = (is, kept, inl broken)
