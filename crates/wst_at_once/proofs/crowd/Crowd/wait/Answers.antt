-- All have come on, and one more is over.
use Rattle.std.proofs.Common.{◌≡◌, ◌<◌, List, ℕ, arith, length, rules, subst, sym}
use Rattle.ws_handshake.specs.Probes.{ProbeGives, ProbeValue, WasProbed, wanted_of}
use Rattle.wst_errands.specs.Errands.{KeepsLine}
use Rattle.wst_at_once.specs.Crowds.{AreUnderWay}
use Rattle.wst_at_once.proofs.BesideLemmas.{stand_on}
use Rattle.wst_at_once.proofs.TellLemmas.{some_line}
use Rattle.wst_at_once.proofs.crowd.Crowd.wait.Goals as goal

pub unreachable-requires : goal.unreachable-requires
unreachable-requires g c =
    let line = some_line c.args.self.now.errands.line c.requires.waits in
    let more : 0 < length c.args.self.now.items.items = omega (arith, line, c.requires.under_way.many) in
    search (rules, more)

pub run-requires-clause-room : goal.run-requires-clause-room
run-requires-clause-room g c = subst (λ (l : List ℕ). 0 < length l) (sym c.as_mut_slice.ensures.value) c.requires.room

pub returns-clause-under_way : goal.returns-clause-under_way
returns-clause-under_way g c =
    let self = c.args.self.now in
    let time = g.C.Poller.Poller.time in
    let after = c.run.new.poller.poller in
    let keeps = subst (λ p. KeepsLine WasProbed (λ (x : ProbeValue). wanted_of x) ProbeGives
    g.C.Stream.NonBlocking.did (time p) (time after) self.errands c.run.new.self) c.of-telling.ensures
    c.in_ok-run.ensures.keeps in
    let stands = stand_on g.C.Stream.NonBlocking.did g.S.Item.HasCase.case_of g.S.CaseSource.kept_item
    self.terms.server.now self.terms.key (time c.args.poller) (time after) self.errands c.run.new.self
    self.items.items c.requires.under_way keeps c.run.ensures.len c.in_ok-run.ensures.places c.run.ensures.at_once in
    subst (λ p. AreUnderWay g.C.Stream.NonBlocking.did g.S.Item.HasCase.case_of g.S.CaseSource.kept_item
    self.terms.server.now self.terms.key c.run.new.self self.items.items (time p)) (sym c.into_poller.ensures) stands
