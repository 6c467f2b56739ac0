-- The oldest case is handed out, and the sink is told of it.
use Rattle.std.proofs.Common.{◌≡◌, ◌∙◌, ◌<◌, ◌∷◌, List, ap, arith, length, map, refl, rules, subst, sym}
use Rattle.std.proofs.lemmas.Result.{err_from_is_err_and}
use Rattle.ws_scripts.specs.declared.script.Case.{Case}
use Rattle.wst_sockets.specs.declared.meeting.Meeting.{Meeting}
use Rattle.wst_testing.specs.Servers.{MeetsAtAddress}
use Rattle.wst_at_once.proofs.BesideLemmas.{oldest_meets, stand_less}
use Rattle.wst_at_once.proofs.TellLemmas.{awaits_outcome, lacks_before, over_line, tells_oldest}
use Rattle.wst_at_once.proofs.crowd.Crowd.tell.Goals as goal

pub unreachable-requires : goal.unreachable-requires
unreachable-requires g c =
    let (now, stands) = c.requires.under_way in
    let some = over_line c.args.self.now.errands.line c.requires.over in
    let more : 0 < length c.args.self.now.items.items = omega (arith, some, stands.many) in
    search (rules, more)

pub returns-in_err-meeting-clause-tells : goal.returns-in_err-meeting-clause-tells
returns-in_err-meeting-clause-tells g c =
    let old = c.args.self.now in
    let p = err_from_is_err_and c.from_residual.result c.from_residual.ensures.1 in
    rw p.1 (lacks_before g.S.Item.HasCase.case_of
    (λ (case : Case) (meeting : Meeting). MeetsAtAddress old.terms.server.now old.terms.key case meeting)
    g.K.Sink.heard g.K.Sink.stopped c.args.sink.now c.args.sink.now
    (map g.S.CaseSource.kept_item old.items.items) (map g.S.CaseSource.kept_item c.pop_front.new.self.items)
    p.0 p.2 refl)

pub returns-in_err-meeting-clause-under_way : goal.returns-in_err-meeting-clause-under_way
returns-in_err-meeting-clause-under_way g c = λ now stands.
    let old = c.args.self.now in
    let took = c.take_first-came in
    let first : old.items.items ≡ c.in-Some.item ∷ c.pop_front.new.self.items = search rules in
    stand_less g.C.Stream.NonBlocking.did g.S.Item.HasCase.case_of g.S.CaseSource.kept_item old.terms.server.now
    old.terms.key now old.errands took.new.self old.items.items c.pop_front.new.self.items c.in-Some.item took.result
    stands first took.ensures.first took.ensures.standings took.ensures.at_once

pub came-requires : goal.came-requires
came-requires g c =
    let old = c.args.self.now in
    awaits_outcome g.S.Item.HasCase.case_of
    (λ (case : Case) (meeting : Meeting). MeetsAtAddress old.terms.server.now old.terms.key case meeting)
    g.K.Sink.heard g.K.Sink.stopped c.args.sink.now c.begins.new.self c.kept-item.result.now c.requires.awaits
    c.in_ok-begins.ensures.heard

pub returns-in_err-begins-clause-tells : goal.returns-in_err-begins-clause-tells
returns-in_err-begins-clause-tells g c =
    let old = c.args.self.now in
    let p = err_from_is_err_and c.from_residual-in_err-begins.result c.from_residual-in_err-begins.ensures.1 in
    rw p.1 (lacks_before g.S.Item.HasCase.case_of
    (λ (case : Case) (meeting : Meeting). MeetsAtAddress old.terms.server.now old.terms.key case meeting)
    g.K.Sink.heard g.K.Sink.stopped c.args.sink.now c.begins.new.self
    (map g.S.CaseSource.kept_item old.items.items) (map g.S.CaseSource.kept_item c.pop_front.new.self.items)
    p.0 p.2 c.in_err-begins.ensures.kept)

pub returns-in_err-begins-clause-under_way : goal.returns-in_err-begins-clause-under_way
returns-in_err-begins-clause-under_way g c = λ now stands.
    let old = c.args.self.now in
    let took = c.take_first-came in
    let first : old.items.items ≡ c.in-Some.item ∷ c.pop_front.new.self.items = search rules in
    stand_less g.C.Stream.NonBlocking.did g.S.Item.HasCase.case_of g.S.CaseSource.kept_item old.terms.server.now
    old.terms.key now old.errands took.new.self old.items.items c.pop_front.new.self.items c.in-Some.item took.result
    stands first took.ensures.first took.ensures.standings took.ensures.at_once

pub returns-clause-tells : goal.returns-clause-tells
returns-clause-tells g c =
    let (now, stands) = c.requires.under_way in
    let old = c.args.self.now in
    let took = c.take_first-came in
    let rest = c.pop_front.new.self.items in
    let first : old.items.items ≡ c.in-Some.item ∷ rest = search rules in
    let meeting = c.in_ok-meeting.meeting in
    tells_oldest g.S.Item.HasCase.case_of
    (λ (case : Case) (meeting : Meeting). MeetsAtAddress old.terms.server.now old.terms.key case meeting)
    g.K.Sink.heard g.K.Sink.stopped c.args.sink.now c.begins.new.self c.came.new.self
    (map g.S.CaseSource.kept_item old.items.items) (map g.S.CaseSource.kept_item rest) c.kept-item.result.now meeting
    c.came.result
    (ap (λ (l : List _). map g.S.CaseSource.kept_item l) first
    ∙ ap (λ (i : _). i ∷ map g.S.CaseSource.kept_item rest) (sym c.kept-item.ensures))
    (subst (λ (i : _). MeetsAtAddress old.terms.server.now old.terms.key (g.S.Item.HasCase.case_of i) meeting)
    (sym c.kept-item.ensures)
    (oldest_meets g.C.Stream.NonBlocking.did g.S.Item.HasCase.case_of g.S.CaseSource.kept_item old.terms.server.now
    old.terms.key now old.errands old.items.items rest c.in-Some.item took.result took.new.self.line meeting stands
    first took.ensures.first c.in_ok-meeting.ensures)) c.in_ok-begins.ensures.heard c.came.ensures.heard

pub returns-clause-under_way : goal.returns-clause-under_way
returns-clause-under_way g c = λ now stands.
    let old = c.args.self.now in
    let took = c.take_first-came in
    let first : old.items.items ≡ c.in-Some.item ∷ c.pop_front.new.self.items = search rules in
    stand_less g.C.Stream.NonBlocking.did g.S.Item.HasCase.case_of g.S.CaseSource.kept_item old.terms.server.now
    old.terms.key now old.errands took.new.self old.items.items c.pop_front.new.self.items c.in-Some.item took.result
    stands first took.ensures.first took.ensures.standings took.ensures.at_once
