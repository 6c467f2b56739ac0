-- What came of it is that of a run of the script.
use Rattle.ws_loops.specs.declared.line_sink.NoLines.{NoLines}
use Rattle.std.proofs.Common.{[], List, ℕ, ◌≡◌}
use Rattle.wst_clients.proofs.SendLemmas.{run_at_by, run_over, stops_so}
use Rattle.wst_clients.proofs.sending_to_client.script_at.Goals as goal

pub returns-in-Ok-clause-played : goal.returns-in-Ok-clause-played
returns-in-Ok-clause-played g c = (
  c.in_ok-tester.tester.run,
  c.in_ok-tester.ensures.begins,
  run_over (λ (old new : NoLines) (lines : List (ℕ × List ℕ)). lines ≡ []) g.L.Client.NonBlocking.did
      c.args.visitors.now.clients.held c.args.at c.in_ok-tester.tester c.in-Ok.transcript _ _ c.in-Ok.ensures.ends,
)

pub returns-in-Ok-clause-there : goal.returns-in-Ok-clause-there
returns-in-Ok-clause-there g c = (
  c.in_ok-tester.tester.run,
  c.in_ok-tester.ensures.begins,
  run_at_by (λ (old new : NoLines) (lines : List (ℕ × List ℕ)). lines ≡ []) g.L.Client.NonBlocking.did
      c.args.visitors.now.clients.held c.args.at c.in_ok-tester.tester c.in-Ok.transcript _ _ c.in-Ok.ensures.ends,
)

pub returns-in-Err-clause-why : goal.returns-in-Err-clause-why
returns-in-Err-clause-why g c = stops_so c.in-Err.why c.fault_of.result c.fault_of.ensures
