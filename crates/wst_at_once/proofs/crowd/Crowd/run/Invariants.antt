-- What was run so far was told in its order, and each that was begun stands beside its machine.
use Rattle.std.proofs.Common.{◌≡◌, ◌+◌, ◌*◌, ◌<◌, Bool, true, false, if◌then◌else◌, length, map}
use Rattle.ws_scripts.specs.declared.script.Case.{Case}
use Rattle.wst_errands.specs.Errands.{count_under_way}
use Rattle.wst_sockets.specs.declared.meeting.Meeting.{Meeting}
use Rattle.wst_testing.specs.Servers.{MeetsAtAddress}
use Rattle.wst_at_once.specs.Crowds.{AreUnderWay, HasRunSoFar}
use Rattle.wst_at_once.proofs.crowd.Crowd.run.Given as goal

abbrev pub invariant-loop-self : goal.invariant-loop-self
invariant-loop-self g l = record {
  so_far : HasRunSoFar g.S.Item.HasCase.case_of (λ (case : Case) (meeting : Meeting).
      MeetsAtAddress l.fn.self.terms.server.now l.fn.self.terms.key case meeting) g.S.CaseSource.gave
      g.S.CaseSource.gave_all g.K.Sink.heard l.fn.source l.source l.fn.sink l.sink
      (map g.S.CaseSource.kept_item l.self.items.items) l.more;
  under_way : AreUnderWay g.C.Stream.NonBlocking.did g.S.Item.HasCase.case_of g.S.CaseSource.kept_item
      l.self.terms.server.now l.self.terms.key l.self.errands l.self.items.items
      (g.C.Poller.Poller.time l.poller);
  terms : l.self.terms ≡ l.fn.self.terms;
  at_once : l.self.errands.at_once ≡ l.self.terms.most;
  room : 0 < length l.self.room.items;
  borrows : g.K.Sink.borrows l.sink ≡ g.K.Sink.borrows l.fn.sink;
}

-- each time one that is left is begun, one that is under way is over, or one is told of
abbrev pub decreases-loop-self : goal.decreases-loop-self
decreases-loop-self g l = (if l.more then 3 * g.S.CaseSource.left l.source + 1 else 0)
    + count_under_way l.self.errands.line + length l.self.items.items
