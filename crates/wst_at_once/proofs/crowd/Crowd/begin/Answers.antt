-- The next one stands behind the others.
use Rattle.std.proofs.Common.{rules, ◌≡◌, ◌∙◌, ◌++◌, ◌∷◌, [], ap, arith, length, subst, sym, true}
use Rattle.std.proofs.lemmas.List.{length-append}
use Rattle.std.specs.List.{slice_get}
use Rattle.ws_scripts.specs.Scripts.{CanBeRun}
use Rattle.wst_errands.specs.Errands.{count_under_way}
use Rattle.wst_at_once.specs.Crowds.{AreUnderWay}
use Rattle.wst_at_once.proofs.BeginLemmas.{begins_one, begun_stand, gives_one}
use Rattle.wst_at_once.proofs.crowd.Crowd.begin.Goals as goal

pub probe-requires : goal.probe-requires
probe-requires g c =
    let moved : c.in_ok-advance.field-0 ≡ true = search rules in
    let gives = gives_one g.S.CaseSource.gave g.S.CaseSource.gave_all g.S.CaseSource.last g.S.CaseSource.left
    g.S.Item.HasCase.case_of c.args.source.now c.advance.new.self c.keep-item.new.self c.in_ok-advance.field-0
    (g.S.CaseSource.kept_item c.keep-item.result) c.in_ok-advance.ensures moved c.keep-item.ensures.kept
    c.keep-item.ensures.gave c.keep-item.ensures.left in
    subst (λ case. CanBeRun case) (sym (c.case-case.ensures ∙ ap (λ i. g.S.Item.HasCase.case_of i) c.kept.ensures)) gives.0

pub connect-requires-clause-free : goal.connect-requires-clause-free
connect-requires-clause-free g c = ap (λ e. slice_get e.standings c.args.at) c.find.ensures.errands ∙ c.requires.free

pub connect-requires-clause-untold : goal.connect-requires-clause-untold
connect-requires-clause-untold g c = c.in_ok-machine.ensures.told

pub connect-requires-clause-goes_on : goal.connect-requires-clause-goes_on
connect-requires-clause-goes_on g c = c.in_ok-machine.ensures.goes_on

pub returns-clause-begins : goal.returns-clause-begins
returns-clause-begins g c =
    let moved : c.in_ok-advance.field-0 ≡ true = search rules in
    let pushed : c.push_back.new.self.items ≡ c.connect.new.self.items.items ++ c.keep-item.result ∷ [] = search rules in
    let last = pushed ∙ ap (λ q. q.items ++ c.keep-item.result ∷ []) (c.connect.ensures.items ∙ c.find.ensures.items) in
    begins_one g.S.CaseSource.gave g.S.CaseSource.gave_all g.S.CaseSource.last g.S.CaseSource.left
    g.S.Item.HasCase.case_of g.S.CaseSource.kept_item c.args.source.now c.keep-item.new.self c.args.self.now.items.items
    c.push_back.new.self.items c.keep-item.result last
    (gives_one g.S.CaseSource.gave g.S.CaseSource.gave_all g.S.CaseSource.last g.S.CaseSource.left
    g.S.Item.HasCase.case_of c.args.source.now c.advance.new.self c.keep-item.new.self c.in_ok-advance.field-0
    (g.S.CaseSource.kept_item c.keep-item.result) c.in_ok-advance.ensures moved c.keep-item.ensures.kept
    c.keep-item.ensures.gave c.keep-item.ensures.left)

pub returns-clause-under_way : goal.returns-clause-under_way
returns-clause-under_way g c =
    let did = g.C.Stream.NonBlocking.did in
    let pushed : c.push_back.new.self.items ≡ c.connect.new.self.items.items ++ c.keep-item.result ∷ [] = search rules in
    let last = pushed ∙ ap (λ q. q.items ++ c.keep-item.result ∷ []) (c.connect.ensures.items ∙ c.find.ensures.items) in
    let old = c.args.self.now in
    let mid = c.find.new.self in
    let stands = subst (λ t. AreUnderWay did g.S.Item.HasCase.case_of g.S.CaseSource.kept_item t.server.now t.key
    mid.errands old.items.items (g.C.Poller.Poller.time c.args.poller.now)) (sym c.find.ensures.terms)
    (subst (λ e. AreUnderWay did g.S.Item.HasCase.case_of g.S.CaseSource.kept_item old.terms.server.now old.terms.key e
    old.items.items (g.C.Poller.Poller.time c.args.poller.now)) (sym c.find.ensures.errands)
    c.requires.under_way) in
    subst (λ t. AreUnderWay did g.S.Item.HasCase.case_of g.S.CaseSource.kept_item t.server.now t.key
    c.connect.new.self.errands c.push_back.new.self.items (g.C.Poller.Poller.time c.connect.new.poller))
    (sym c.connect.ensures.terms)
    (begun_stand did g.S.Item.HasCase.case_of g.S.CaseSource.kept_item mid.terms.server.now mid.terms.key
    (g.C.Poller.Poller.time c.args.poller.now) (g.C.Poller.Poller.time c.connect.new.poller) mid.errands
    c.connect.new.self.errands old.items.items c.push_back.new.self.items c.keep-item.result c.case-case.result.now
    c.in_ok-machine.machine stands
    (c.case-case.ensures ∙ ap (λ i. g.S.Item.HasCase.case_of i) c.kept.ensures) c.in_ok-machine.ensures.begins
    c.in_ok-connect.ensures.connects last)

pub returns-clause-more : goal.returns-clause-more
returns-clause-more g c =
    let pushed : c.push_back.new.self.items ≡ c.connect.new.self.items.items ++ c.keep-item.result ∷ [] = search rules in
    let last = pushed ∙ ap (λ q. q.items ++ c.keep-item.result ∷ []) (c.connect.ensures.items ∙ c.find.ensures.items) in
    omega (
      arith,
      c.in_ok-connect.ensures.connects.more,
      ap (λ e. count_under_way e.line) c.find.ensures.errands,
      ap (λ l. length l) last,
      length-append c.args.self.now.items.items (c.keep-item.result ∷ []),
    )
