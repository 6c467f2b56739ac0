-- All come on, and then one is over, or all are given up.
use Rattle.std.proofs.Common.{◌∙◌, ◌<◌, OnOk, ap, arith, length, subst}
use Rattle.wst_errands.specs.Errands.{KeepsLine, count_under_way}
use Rattle.wst_errands.proofs.ErrandRuns.{ended_fewer, ended_keeps, never_late, no_slot}
use Rattle.wst_errands.proofs.LineLemmas.{lost_keeps, lost_sound, none_left, none_under_way, sound_comes}
use Rattle.wst_errands.proofs.errands.Errands.run.Goals as goal

pub end_at-requires-clause-sound : goal.end_at-requires-clause-sound
end_at-requires-clause-sound g c = sound_comes g.M.Machine.agrees g.M.Machine.wants g.M.Machine.gives
    g.S.NonBlocking.did _ g.N.Network.did
    (g.P.Poller.time c.args.poller.now) (g.P.Poller.time c.run.new.poller) c.self.inside.all.standings
    c.run.new.self.standings _ c.run.new.sink c.args.network.now c.run.new.network c.in-Ok-Ended.ensures.run
    c.self.inside.line.items c.self.invariant

pub unreachable-requires : goal.unreachable-requires
unreachable-requires g c = never_late g.M.Machine.wants (g.P.Poller.time c.run.new.poller) c.run.new.self
    c.in-Ok-TooLate.field-0 c.in-Ok-TooLate.field-0-is c.in-Ok-TooLate.ensures.ending

pub unreachable-requires-in-Ok-NoSlot : goal.unreachable-requires-in-Ok-NoSlot
unreachable-requires-in-Ok-NoSlot g c =
    let none = none_under_way g.M.Machine.agrees g.M.Machine.wants g.M.Machine.gives g.S.NonBlocking.did
    c.run.new.self.standings c.self.inside.line.items
    (sound_comes g.M.Machine.agrees g.M.Machine.wants g.M.Machine.gives g.S.NonBlocking.did _ g.N.Network.did
    (g.P.Poller.time c.args.poller.now) (g.P.Poller.time c.run.new.poller) c.self.inside.all.standings
    c.run.new.self.standings _ c.run.new.sink c.args.network.now c.run.new.network c.in-Ok-NoSlot.ensures.run
    c.self.inside.line.items c.self.invariant)
    (no_slot g.M.Machine.wants (g.P.Poller.time c.run.new.poller) c.run.new.self c.in-Ok-NoSlot.field-0
    c.in-Ok-NoSlot.field-0-is c.in-Ok-NoSlot.ensures.ending) in
    let same = ap (λ v. count_under_way v.line) c.self.view_is in omega (arith, none, same, c.requires.waits)

pub invariant_of-self-in-NoMemory : goal.invariant_of-self-in-NoMemory
invariant_of-self-in-NoMemory g c = lost_sound g.M.Machine.agrees g.M.Machine.wants g.M.Machine.gives
    g.S.NonBlocking.did
    c.self.inside.line.items c.give_up.new.line.items c.give_up.ensures.given_up
    c.give_up.new.all.standings c.give_up.ensures.free

pub invariant_of-self-in_err-self-inside-in-WaitFailed : goal.invariant_of-self-in_err-self-inside-in-WaitFailed
invariant_of-self-in_err-self-inside-in-WaitFailed g c = lost_sound g.M.Machine.agrees g.M.Machine.wants
    g.M.Machine.gives g.S.NonBlocking.did
    c.self.inside.line.items c.give_up.new.line.items c.give_up.ensures.given_up
    c.give_up.new.all.standings c.give_up.ensures.free

pub invariant_of-self-in-WaitFailed : goal.invariant_of-self-in-WaitFailed
invariant_of-self-in-WaitFailed g c = lost_sound g.M.Machine.agrees g.M.Machine.wants g.M.Machine.gives
    g.S.NonBlocking.did
    c.self.inside.line.items c.give_up.new.line.items c.give_up.ensures.given_up
    c.in_ok-self-inside-in-WaitFailed.field-0.standings c.in_ok-self-inside-in-WaitFailed.ensures.free

pub returns-in-Ok-Ended-clause-keeps : goal.returns-in-Ok-Ended-clause-keeps
returns-in-Ok-Ended-clause-keeps g c = subst (λ v. OnOk c.end_at.result
    (KeepsLine g.M.Machine.agrees g.M.Machine.wants g.M.Machine.gives g.S.NonBlocking.did
    (g.P.Poller.time c.args.poller.now) (g.P.Poller.time c.run.new.poller) v (record {
      at_once = c.self.inside.at_once;
      standings = c.end_at.new.all.standings;
      line = c.end_at.new.line.items;
    }))) c.self.view_is
    (ended_keeps g.M.Machine.agrees g.M.Machine.wants g.M.Machine.gives g.S.NonBlocking.did _ g.N.Network.did
    (g.P.Poller.time c.args.poller.now) (g.P.Poller.time c.run.new.poller)
    (record {
      at_once = c.self.inside.at_once;
      standings = c.self.inside.all.standings;
      line = c.self.inside.line.items;
    }) c.run.new.self.standings c.end_at.new.all.standings _ c.run.new.sink c.args.network.now
    c.run.new.network c.in-Ok-Ended.ensures.run c.in-Ok-Ended.at c.end_at.new.line.items c.self.invariant
    c.end_at.result c.end_at.ensures.ends)

pub returns-in-Ok-Ended-clause-fewer : goal.returns-in-Ok-Ended-clause-fewer
returns-in-Ok-Ended-clause-fewer g c = subst
    (λ v. OnOk c.end_at.result (count_under_way c.end_at.new.line.items < count_under_way v.line)) c.self.view_is
    (ended_fewer g.M.Machine.agrees g.M.Machine.wants g.M.Machine.gives g.S.NonBlocking.did _ g.N.Network.did
    (g.P.Poller.time c.args.poller.now) (g.P.Poller.time c.run.new.poller)
    (record {
      at_once = c.self.inside.at_once;
      standings = c.self.inside.all.standings;
      line = c.self.inside.line.items;
    }) c.run.new.self.standings c.end_at.new.all.standings _ c.run.new.sink c.args.network.now
    c.run.new.network c.in-Ok-Ended.ensures.run c.in-Ok-Ended.at c.end_at.new.line.items c.self.invariant
    c.end_at.result c.end_at.ensures.ends)

pub returns-in_ok-self-inside-in-WaitFailed : goal.returns-in_ok-self-inside-in-WaitFailed
returns-in_ok-self-inside-in-WaitFailed g c = record {
  keeps = subst (λ v. KeepsLine g.M.Machine.agrees g.M.Machine.wants g.M.Machine.gives g.S.NonBlocking.did
      (g.P.Poller.time c.args.poller.now) (g.P.Poller.time c.run.new.poller) v (record {
        at_once = c.self.inside.at_once;
        standings = c.in_ok-self-inside-in-WaitFailed.field-0.standings;
        line = c.give_up.new.line.items;
      })) c.self.view_is
      (lost_keeps g.M.Machine.agrees g.M.Machine.wants g.M.Machine.gives g.S.NonBlocking.did
      c.self.inside.line.items c.give_up.new.line.items c.give_up.ensures.given_up
      (g.P.Poller.time c.args.poller.now) (g.P.Poller.time c.run.new.poller) c.self.inside.at_once
      c.self.inside.all.standings c.in_ok-self-inside-in-WaitFailed.field-0.standings);
  len = c.give_up.ensures.given_up.many ∙ ap (λ v. length v.line) c.self.view_is;
  fewer = omega (
    arith,
    none_left c.self.inside.line.items c.give_up.new.line.items c.give_up.ensures.given_up,
    c.requires.waits,
  );
  places = c.in_ok-self-inside-in-WaitFailed.ensures.len;
  at_once = ap (λ v. v.at_once) c.self.view_is;
}
