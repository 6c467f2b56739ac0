-- What the source gave so far was run, and the sink was told of it.
use Rattle.std.proofs.Common.{◌≡◌}
use Rattle.wst_testing.proofs.RunnerLemmas.{HasRun}
use Rattle.wst_testing.proofs.runner.run_cases.Given as goal

abbrev pub invariant-loop-source : goal.invariant-loop-source
invariant-loop-source g l = HasRun g.S.Item.HasCase.case_of (g.E.CaseServer.meets l.end l.key) g.S.CaseSource.gave
    g.K.Sink.heard l.initial.source l.source l.initial.sink l.sink
    × (g.K.Sink.borrows l.sink ≡ g.K.Sink.borrows l.initial.sink)

-- fewer are left
abbrev pub decreases-loop-source : goal.decreases-loop-source
decreases-loop-source g l = g.S.CaseSource.left l.source
