-- One more is told of, begun, or waited for; or the sink ends the run, or memory runs out.
use Rattle.std.proofs.Common.{IsErrAnd, rules, ◌≡◌, ◌∙◌, ◌+◌, ◌*◌, ◌<◌, if◌then◌else◌, Err, Ok, ap, arith, length}
use Rattle.std.proofs.Common.{map, refl, subst, sym, true}
use Rattle.std.proofs.lemmas.List.{length-map}
use Rattle.ws_scripts.specs.declared.script.Case.{Case}
use Rattle.wst_errands.specs.Errands.{count_under_way}
use Rattle.wst_sockets.specs.declared.meeting.Meeting.{Meeting}
use Rattle.wst_testing.specs.Servers.{MeetsAtAddress}
use Rattle.wst_testing.specs.declared.runner.RunStop.TheVariants as stop
use Rattle.wst_at_once.specs.Crowds.{HasRunSoFar, TellsOldest}
use Rattle.wst_at_once.proofs.BesideLemmas.{none_stands, one_waits}
use Rattle.wst_at_once.proofs.CrowdLemmas.{all_told, begun_less, begun_so_far, may_be_told, none_so_far, run_lacks}
use Rattle.wst_at_once.proofs.CrowdLemmas.{run_stops, told_so_far}
use Rattle.wst_at_once.proofs.TellLemmas.{over_line}
use Rattle.wst_at_once.proofs.crowd.Crowd.run.Goals as goal

pub loop-self-init : goal.loop-self-init
loop-self-init g c =
    let self = c.args.self.now in
    let meets = λ (case : Case) (meeting : Meeting). MeetsAtAddress self.terms.server.now self.terms.key case meeting in
    record {
      so_far = subst (λ l. HasRunSoFar g.S.Item.HasCase.case_of meets g.S.CaseSource.gave g.S.CaseSource.gave_all
          g.K.Sink.heard c.args.source.now c.args.source.now c.args.sink.now c.args.sink.now
          (map g.S.CaseSource.kept_item l) true) (sym c.requires.items)
          (none_so_far g.S.Item.HasCase.case_of meets g.S.CaseSource.gave g.S.CaseSource.gave_all g.S.CaseSource.left
          g.K.Sink.heard g.K.Sink.stopped c.args.source.now c.args.sink.now c.requires.unused c.requires.fresh);
      under_way = none_stands g.C.Stream.NonBlocking.did g.S.Item.HasCase.case_of g.S.CaseSource.kept_item
          self.terms.server.now self.terms.key self.terms.most (g.C.Poller.Poller.time c.args.poller) self.errands
          self.items.items c.requires.some c.requires.errands c.requires.items;
      terms = refl;
      at_once = c.requires.errands.at_once;
      room = c.requires.room;
      borrows = refl;
    }

pub tell-requires-clause-under_way : goal.tell-requires-clause-under_way
tell-requires-clause-under_way g c = (g.C.Poller.Poller.time c.loop-self.poller, c.loop-self.invariant.under_way)

pub tell-requires-clause-awaits : goal.tell-requires-clause-awaits
tell-requires-clause-awaits g c =
    let at = c.loop-self in
    let terms = c.args.self.now.terms in
    let over = over_line at.self.errands.line (sym c.is_first_over.ensures ∙ c.if-is_first_over.true) in
    may_be_told g.S.Item.HasCase.case_of
    (λ (case : Case) (meeting : Meeting). MeetsAtAddress terms.server.now terms.key case meeting)
    g.S.CaseSource.gave g.S.CaseSource.gave_all g.S.CaseSource.left g.K.Sink.heard g.K.Sink.stopped
    c.args.source.now c.args.sink.now at.source at.sink (map g.S.CaseSource.kept_item at.self.items.items) at.more
    at.invariant.so_far
    (omega (arith, over, at.invariant.under_way.many, length-map at.self.items.items g.S.CaseSource.kept_item))

pub returns-in_err-tell-clause-runs : goal.returns-in_err-tell-clause-runs
returns-in_err-tell-clause-runs g c =
    let at = c.loop-self in
    let terms = c.args.self.now.terms in
    let is : IsErrAnd c.from_residual.result (λ given. given ≡ c.in_err-tell.field-0.0) = search rules in
    let tells = subst (λ t. TellsOldest g.S.Item.HasCase.case_of
    (λ (case : Case) (meeting : Meeting). MeetsAtAddress t.server.now t.key case meeting)
    g.K.Sink.heard g.K.Sink.stopped at.sink c.tell.new.sink (map g.S.CaseSource.kept_item at.self.items.items)
    (map g.S.CaseSource.kept_item c.tell.new.self.items.items) (Err c.in_err-tell.field-0.0)) at.invariant.terms
    c.in_err-tell.ensures.tells in
    run_stops g.S.Item.HasCase.case_of
    (λ (case : Case) (meeting : Meeting). MeetsAtAddress terms.server.now terms.key case meeting)
    g.S.CaseSource.gave g.S.CaseSource.gave_all g.S.CaseSource.left g.K.Sink.heard g.K.Sink.stopped
    c.args.source.now c.args.sink.now at.source at.sink c.tell.new.sink
    (map g.S.CaseSource.kept_item at.self.items.items) (map g.S.CaseSource.kept_item c.tell.new.self.items.items)
    at.more c.in_err-tell.field-0.0 c.from_residual.result at.invariant.so_far tells is

pub loop-self-preserved-in-Continue-1 : goal.loop-self-preserved-in-Continue-1
loop-self-preserved-in-Continue-1 g c =
    let at = c.loop-self in
    let terms = c.args.self.now.terms in
    let tells = subst (λ t. TellsOldest g.S.Item.HasCase.case_of
    (λ (case : Case) (meeting : Meeting). MeetsAtAddress t.server.now t.key case meeting)
    g.K.Sink.heard g.K.Sink.stopped at.sink c.tell.new.sink (map g.S.CaseSource.kept_item at.self.items.items)
    (map g.S.CaseSource.kept_item c.tell.new.self.items.items) (Ok tt)) at.invariant.terms
    c.in_ok-tell.ensures.tells in
    record {
      so_far = told_so_far g.S.Item.HasCase.case_of
          (λ (case : Case) (meeting : Meeting). MeetsAtAddress terms.server.now terms.key case meeting)
          g.S.CaseSource.gave g.S.CaseSource.gave_all g.S.CaseSource.left g.K.Sink.heard g.K.Sink.stopped
          c.args.source.now c.args.sink.now at.source at.sink c.tell.new.sink
          (map g.S.CaseSource.kept_item at.self.items.items)
          (map g.S.CaseSource.kept_item c.tell.new.self.items.items) at.more tt at.invariant.so_far tells;
      under_way = c.tell.ensures.under_way (g.C.Poller.Poller.time at.poller) at.invariant.under_way;
      terms = c.tell.ensures.terms ∙ at.invariant.terms;
      at_once = c.tell.ensures.at_once ∙ at.invariant.at_once ∙ ap (λ t. t.most) (sym c.tell.ensures.terms);
      room = subst (λ n. 0 < n) (sym c.tell.ensures.room) at.invariant.room;
      borrows = c.tell.ensures.borrows ∙ at.invariant.borrows;
    }

pub free_place-requires-clause-some : goal.free_place-requires-clause-some
free_place-requires-clause-some g c = (
  subst (λ n. 0 < n) (ap (λ t. t.most) (sym c.loop-self.invariant.terms)) c.requires.some,
  c.loop-self.invariant.at_once,
)

pub returns-in_err-more-in-Some-clause-runs : goal.returns-in_err-more-in-Some-clause-runs
returns-in_err-more-in-Some-clause-runs g c =
    let at = c.loop-self in
    let terms = c.args.self.now.terms in
    let is : IsErrAnd c.from_residual-in_err-more-in-Some.result (λ given. given ≡ stop.NoMemory) = search rules in
    run_lacks g.S.Item.HasCase.case_of
    (λ (case : Case) (meeting : Meeting). MeetsAtAddress terms.server.now terms.key case meeting)
    g.S.CaseSource.gave g.S.CaseSource.gave_all g.S.CaseSource.left g.K.Sink.heard g.K.Sink.stopped
    c.args.source.now c.args.sink.now at.source at.sink (map g.S.CaseSource.kept_item at.self.items.items) at.more
    c.from_residual-in_err-more-in-Some.result at.invariant.so_far is

pub loop-self-preserved-in-Some : goal.loop-self-preserved-in-Some
loop-self-preserved-in-Some g c =
    let at = c.loop-self in
    let terms = c.args.self.now.terms in
    let now = c.free_place.new.self in
    let same = c.free_place.ensures.same in
    let meets = λ (case : Case) (meeting : Meeting). MeetsAtAddress terms.server.now terms.key case meeting in
    let h = subst (λ s. HasRunSoFar g.S.Item.HasCase.case_of meets g.S.CaseSource.gave g.S.CaseSource.gave_all
    g.K.Sink.heard c.args.source.now at.source c.args.sink.now at.sink (map g.S.CaseSource.kept_item s.items.items)
    at.more) (sym same) at.invariant.so_far in
    record {
      so_far = begun_so_far g.S.Item.HasCase.case_of meets g.S.CaseSource.gave g.S.CaseSource.gave_all
          g.S.CaseSource.left g.K.Sink.heard g.K.Sink.stopped c.args.source.now c.args.sink.now at.source
          c.begin.new.source at.sink (map g.S.CaseSource.kept_item now.items.items)
          (map g.S.CaseSource.kept_item c.begin.new.self.items.items) c.in_ok-more-in-Some.more
          (subst (λ b. HasRunSoFar g.S.Item.HasCase.case_of meets g.S.CaseSource.gave g.S.CaseSource.gave_all
          g.K.Sink.heard c.args.source.now at.source c.args.sink.now at.sink
          (map g.S.CaseSource.kept_item now.items.items) b) c.in-Some.ensures.free.0 h)
          c.in_ok-more-in-Some.ensures.begins;
      under_way = c.in_ok-more-in-Some.ensures.under_way;
      terms = c.begin.ensures.terms ∙ ap (λ s. s.terms) same ∙ at.invariant.terms;
      at_once = c.begin.ensures.at_once ∙ ap (λ s. s.errands.at_once) same ∙ at.invariant.at_once
          ∙ ap (λ s. s.terms.most) (sym same) ∙ ap (λ t. t.most) (sym c.begin.ensures.terms);
      room = subst (λ n. 0 < n) (sym (c.begin.ensures.room ∙ ap (λ s. length s.room.items) same)) at.invariant.room;
      borrows = at.invariant.borrows;
    }

pub loop-self-smaller-in-Some : goal.loop-self-smaller-in-Some
loop-self-smaller-in-Some g c =
    let at = c.loop-self in
    let now = c.free_place.new.self in
    let new = c.begin.new.self in
    let same = c.free_place.ensures.same in
    subst (λ s. (if c.in_ok-more-in-Some.more then 3 * g.S.CaseSource.left c.begin.new.source + 1 else 0)
    + count_under_way new.errands.line + length new.items.items
    < (if at.more then 3 * g.S.CaseSource.left at.source + 1 else 0)
    + count_under_way s.errands.line + length s.items.items) same
    (begun_less g.S.Item.HasCase.case_of g.S.CaseSource.kept_item g.S.CaseSource.gave g.S.CaseSource.gave_all
    g.S.CaseSource.left at.source c.begin.new.source now.items.items new.items.items at.more
    c.in_ok-more-in-Some.more now.errands.line new.errands.line c.in-Some.ensures.free.0
    c.in_ok-more-in-Some.ensures.begins c.in_ok-more-in-Some.ensures.more)

pub wait-requires-clause-waits : goal.wait-requires-clause-waits
wait-requires-clause-waits g c =
    let at = c.loop-self in
    subst (λ s. 0 < count_under_way s.errands.line) (sym c.free_place.ensures.same)
    (one_waits at.more at.self.items.items at.self.errands.line at.invariant.under_way.many
    (sym c.is_first_over.ensures ∙ c.if-is_first_over.false) (c.free_place.ensures.busy c.in-None.is)
    (c.goes_on.ensures.on c.loop-self-test.true))

pub returns-in_err-poller-in-None-clause-runs : goal.returns-in_err-poller-in-None-clause-runs
returns-in_err-poller-in-None-clause-runs g c =
    let at = c.loop-self in
    let terms = c.args.self.now.terms in
    let is : IsErrAnd c.from_residual-in_err-poller-in-None.result (λ given. given ≡ stop.NoMemory) = search rules in
    run_lacks g.S.Item.HasCase.case_of
    (λ (case : Case) (meeting : Meeting). MeetsAtAddress terms.server.now terms.key case meeting)
    g.S.CaseSource.gave g.S.CaseSource.gave_all g.S.CaseSource.left g.K.Sink.heard g.K.Sink.stopped
    c.args.source.now c.args.sink.now at.source at.sink (map g.S.CaseSource.kept_item at.self.items.items) at.more
    c.from_residual-in_err-poller-in-None.result at.invariant.so_far is

pub loop-self-preserved : goal.loop-self-preserved
loop-self-preserved g c =
    let at = c.loop-self in
    let terms = c.args.self.now.terms in
    let same = c.free_place.ensures.same in
    record {
      so_far = subst (λ x. HasRunSoFar g.S.Item.HasCase.case_of
          (λ (case : Case) (meeting : Meeting). MeetsAtAddress terms.server.now terms.key case meeting)
          g.S.CaseSource.gave g.S.CaseSource.gave_all g.K.Sink.heard c.args.source.now at.source c.args.sink.now at.sink
          (map g.S.CaseSource.kept_item x.items) at.more) (sym (c.wait.ensures.items ∙ ap (λ s. s.items) same))
          at.invariant.so_far;
      under_way = c.in_ok-poller-in-None.ensures.under_way;
      terms = c.wait.ensures.terms ∙ ap (λ s. s.terms) same ∙ at.invariant.terms;
      at_once = c.wait.ensures.at_once ∙ ap (λ s. s.errands.at_once) same ∙ at.invariant.at_once
          ∙ ap (λ s. s.terms.most) (sym same) ∙ ap (λ t. t.most) (sym c.wait.ensures.terms);
      room = subst (λ n. 0 < n) (sym (c.wait.ensures.room ∙ ap (λ s. length s.room.items) same)) at.invariant.room;
      borrows = at.invariant.borrows;
    }

pub returns-clause-runs : goal.returns-clause-runs
returns-clause-runs g c =
    let at = c.loop-self in
    let terms = c.args.self.now.terms in
    let off = c.goes_on.ensures.off c.loop-self-test.false in
    all_told g.S.Item.HasCase.case_of
    (λ (case : Case) (meeting : Meeting). MeetsAtAddress terms.server.now terms.key case meeting)
    g.S.CaseSource.gave g.S.CaseSource.gave_all g.S.CaseSource.left g.K.Sink.heard g.K.Sink.stopped
    c.args.source.now c.args.sink.now at.source at.sink (map g.S.CaseSource.kept_item at.self.items.items) at.more
    at.invariant.so_far off.0 (length-map at.self.items.items g.S.CaseSource.kept_item ∙ off.1)
