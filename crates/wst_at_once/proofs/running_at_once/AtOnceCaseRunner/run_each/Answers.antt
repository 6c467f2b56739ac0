-- All are run, or memory runs out before any is.
use Rattle.std.proofs.Common.{IsErrAnd, None, [], rules, ◌≡◌, subst}
use Rattle.ws_scripts.specs.declared.script.Case.{Case}
use Rattle.wst_sockets.specs.declared.meeting.Meeting.{Meeting}
use Rattle.wst_testing.specs.Runner.{RunsEach}
use Rattle.wst_testing.specs.Servers.{MeetsAtAddress}
use Rattle.wst_testing.specs.declared.runner.RunStop.TheVariants as stop
use Rattle.wst_testing.proofs.RunnerLemmas.{run_lacks_memory}
use Rattle.wst_at_once.proofs.running_at_once.AtOnceCaseRunner.run_each.Goals as goal

pub returns-in_err-crowd-in-Ok-clause-runs : goal.returns-in_err-crowd-in-Ok-clause-runs
returns-in_err-crowd-in-Ok-clause-runs g c =
    let is : IsErrAnd c.from_residual.result (λ given. given ≡ stop.NoMemory) = search rules in
    run_lacks_memory g.S.Item.HasCase.case_of
    (λ (case : Case) (meeting : Meeting). MeetsAtAddress c.args.self.now c.args.key case meeting)
    g.S.CaseSource.gave g.S.CaseSource.gave_all g.K.Sink.heard g.K.Sink.stopped c.args.source.now c.args.sink.now [] []
    None c.args.source.now c.args.sink.now c.from_residual.result tt c.requires.unused tt c.requires.fresh is

pub returns-in_ok-crowd-in-Ok-clause-runs : goal.returns-in_ok-crowd-in-Ok-clause-runs
returns-in_ok-crowd-in-Ok-clause-runs g c =
    let runs = subst (λ t. RunsEach g.S.Item.HasCase.case_of
    (λ (case : Case) (meeting : Meeting). MeetsAtAddress t.server.now t.key case meeting) g.S.CaseSource.gave
    g.S.CaseSource.gave_all g.K.Sink.heard g.K.Sink.stopped c.args.source.now c.args.sink.now c.run.new.sink
    c.run.result) c.in_ok-crowd-in-Ok.ensures.terms c.run.ensures.runs in
    subst (λ v. RunsEach g.S.Item.HasCase.case_of
    (λ (case : Case) (meeting : Meeting). MeetsAtAddress v c.args.key case meeting) g.S.CaseSource.gave
    g.S.CaseSource.gave_all g.K.Sink.heard g.K.Sink.stopped c.args.source.now c.args.sink.now c.run.new.sink
    c.run.result) c.self.view_is runs
