-- One more was run, and the sink was told of it, or it ended the run; or memory ran out.
use Rattle.std.proofs.Common.{IsErrAnd, rules, ◌≡◌, ◌∙◌, ◌++◌, [], ◌∷◌, None, Some, append-nil, refl, subst, sym}
use Rattle.wst_testing.specs.Runner.{items_of}
use Rattle.wst_testing.specs.declared.runner.RunStop.TheVariants as stop
use Rattle.wst_testing.proofs.RunnerLemmas.{few_came, next_given, one_more_came, one_more_item, run_lacks_memory}
use Rattle.wst_testing.proofs.RunnerLemmas.{run_stops_there}
use Rattle.wst_testing.proofs.runner.run_cases.Goals as goal

pub returns-in_err-advance-clause-runs : goal.returns-in_err-advance-clause-runs
returns-in_err-advance-clause-runs g c =
    let at = c.loop-source in
    let so = at.invariant.0 in
    let is : IsErrAnd c.from_residual.result (λ given. given ≡ stop.NoMemory) = search rules in
    run_lacks_memory g.S.Item.HasCase.case_of (g.E.CaseServer.meets c.args.end.now c.args.key)
    g.S.CaseSource.gave g.S.CaseSource.gave_all g.K.Sink.heard g.K.Sink.stopped c.args.source.now c.args.sink.now so.came
    [] None at.source at.sink c.from_residual.result so.met
    (subst (λ l. g.S.CaseSource.gave c.args.source.now at.source l) (sym (append-nil (items_of so.came))) so.given) tt
    so.told is

pub returns-in_err-begins-clause-runs : goal.returns-in_err-begins-clause-runs
returns-in_err-begins-clause-runs g c =
    let at = c.loop-source in
    let so = at.invariant.0 in
    let item = c.item-item.result.now in
    let given = next_given g.S.CaseSource.gave g.S.CaseSource.gave_all g.S.CaseSource.last g.S.CaseSource.left
    g.S.Item.HasCase.case_of c.args.source.now at.source c.advance.new.self c.in_ok-advance.field-0 (items_of so.came)
    item c.in_ok-advance.ensures c.if-branch.true c.item-item.ensures so.given in
    let is : IsErrAnd c.from_residual-in_err-begins.result (λ given. given ≡ stop.NoMemory) = search rules in
    run_lacks_memory g.S.Item.HasCase.case_of (g.E.CaseServer.meets c.args.end.now c.args.key)
    g.S.CaseSource.gave g.S.CaseSource.gave_all g.K.Sink.heard g.K.Sink.stopped c.args.source.now c.args.sink.now so.came
    (item ∷ []) None c.advance.new.self c.begins.new.self c.from_residual-in_err-begins.result so.met given.2.0 tt
    (subst (λ k. g.K.Sink.heard c.args.sink.now k so.came None) (sym c.in_err-begins.ensures.kept) so.told) is

pub returns-in_err-meeting-clause-runs : goal.returns-in_err-meeting-clause-runs
returns-in_err-meeting-clause-runs g c =
    let at = c.loop-source in
    let so = at.invariant.0 in
    let item = c.item-item.result.now in
    let given = next_given g.S.CaseSource.gave g.S.CaseSource.gave_all g.S.CaseSource.last g.S.CaseSource.left
    g.S.Item.HasCase.case_of c.args.source.now at.source c.advance.new.self c.in_ok-advance.field-0 (items_of so.came)
    item c.in_ok-advance.ensures c.if-branch.true c.item-item.ensures so.given in
    let is : IsErrAnd c.from_residual-in_err-meeting.result (λ given. given ≡ stop.NoMemory) = search rules in
    run_lacks_memory g.S.Item.HasCase.case_of (g.E.CaseServer.meets c.args.end.now c.args.key)
    g.S.CaseSource.gave g.S.CaseSource.gave_all g.K.Sink.heard g.K.Sink.stopped c.args.source.now c.args.sink.now so.came
    (item ∷ []) (Some item) c.advance.new.self c.begins.new.self c.from_residual-in_err-meeting.result so.met given.2.0
    refl (c.in_ok-begins.ensures.heard c.args.sink.now so.came so.told) is

pub returns-in_err-came-clause-runs : goal.returns-in_err-came-clause-runs
returns-in_err-came-clause-runs g c =
    let at = c.loop-source in
    let so = at.invariant.0 in
    let item = c.item-item.result.now in
    let given = next_given g.S.CaseSource.gave g.S.CaseSource.gave_all g.S.CaseSource.last g.S.CaseSource.left
    g.S.Item.HasCase.case_of c.args.source.now at.source c.advance.new.self c.in_ok-advance.field-0 (items_of so.came)
    item c.in_ok-advance.ensures c.if-branch.true c.item-item.ensures so.given in
    let met = subst (λ x. g.E.CaseServer.meets c.args.end.now c.args.key x c.in_ok-meeting.meeting) c.case.ensures
    c.in_ok-meeting.ensures in
    let is : IsErrAnd c.from_residual-in_err-came.result (λ given. given ≡ c.in_err-came.field-0.0) = search rules in
    run_stops_there g.S.Item.HasCase.case_of (g.E.CaseServer.meets c.args.end.now c.args.key)
    g.S.CaseSource.gave g.S.CaseSource.gave_all g.K.Sink.heard g.K.Sink.stopped c.args.source.now c.args.sink.now so.came
    c.advance.new.self c.begins.new.self c.came.new.self item c.in_ok-meeting.meeting c.in_err-came.field-0.0
    c.from_residual-in_err-came.result so.met met given.2.0
    (c.in_ok-begins.ensures.heard c.args.sink.now so.came so.told) c.in_err-came.ensures.heard is
