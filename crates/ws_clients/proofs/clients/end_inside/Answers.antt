-- Who is left is served until nobody is there, or the time has come.
use Rattle.std.proofs.Common.{◌∙◌, Some, arith, rules, subst}
use Rattle.ws_clients.specs.Clients.{IsOverAs}
use Rattle.ws_clients.proofs.ServedLemmas.{out_all, out_end, out_late, out_now, out_run}
use Rattle.ws_clients.proofs.clients.end_inside.Goals as goal

pub loop-left-init : goal.loop-left-init
loop-left-init g c = record {
  goes_out = out_now g.M.Machine.agrees g.M.Machine.wants g.S.NonBlocking.did (g.P.Poller.time c.args.poller.now)
      (g.P.Poller.time c.now.new.self) c.args.inside.now.all.places c.drop_idle.new.inside.all.places
      c.now.ensures.later (λ at slot is busy. c.drop_idle.ensures.busy at slot is busy);
  room = c.requires.room;
  whole = c.drop_idle.ensures.whole;
  known = c.drop_idle.ensures.known;
  limits = c.drop_idle.ensures.limits;
  taken = c.drop_idle.ensures.taken;
  counted = c.drop_idle.ensures.counted;
}

pub loop-left-preserved : goal.loop-left-preserved
loop-left-preserved g c = record {
  goes_out = out_end g.M.Machine.agrees g.M.Machine.wants g.S.NonBlocking.did (g.P.Poller.time c.args.poller.now)
      (g.P.Poller.time c.run_on.new.poller) (g.P.Poller.time c.now-now.new.self) c.in-Ended.at
      c.args.inside.now.all.places c.run_on.new.inside.all.places c.end_at.new.inside.all.places
      c.now-now.ensures.later c.in_ok-end_at-in-Ended.ensures.rest
      (subst (λ e. IsOverAs g.M.Machine.agrees g.M.Machine.wants g.S.NonBlocking.did
      (Some c.saturating_add-until.result) (g.P.Poller.time c.run_on.new.poller) c.run_on.new.inside.all.places e)
      c.in-Ended.is c.in_ok-ending.ensures.over)
      (out_run g.M.Machine.agrees g.M.Machine.wants g.S.NonBlocking.did (g.P.Poller.time c.args.poller.now)
      (g.P.Poller.time c.loop-left.poller) (g.P.Poller.time c.run_on.new.poller) c.args.inside.now.all.places
      c.loop-left.inside.all.places c.run_on.new.inside.all.places c.in_ok-ending.ensures.later
      c.loop-left.invariant.goes_out c.in_ok-ending.ensures.goes_on);
  room = search rules;
  whole = c.end_at.ensures.whole;
  known = c.end_at.ensures.known ∙ (c.run_on.ensures.known ∙ c.loop-left.invariant.known);
  limits = c.end_at.ensures.limits ∙ (c.run_on.ensures.limits ∙ c.loop-left.invariant.limits);
  taken = c.end_at.ensures.taken ∙ (c.run_on.ensures.taken ∙ c.loop-left.invariant.taken);
  counted = c.end_at.ensures.counted;
}

pub returns-in-NoSlot-clause-ends : goal.returns-in-NoSlot-clause-ends
returns-in-NoSlot-clause-ends g c = out_all g.M.Machine.agrees g.M.Machine.wants g.S.NonBlocking.did
    (g.P.Poller.time c.args.poller.now) (g.P.Poller.time c.run_on.new.poller) c.args.inside.now.all.places
    c.run_on.new.inside.all.places
    (subst (λ e. IsOverAs g.M.Machine.agrees g.M.Machine.wants g.S.NonBlocking.did
    (Some c.saturating_add-until.result) (g.P.Poller.time c.run_on.new.poller) c.run_on.new.inside.all.places e)
    c.in-NoSlot.is c.in_ok-ending.ensures.over)
    (out_run g.M.Machine.agrees g.M.Machine.wants g.S.NonBlocking.did (g.P.Poller.time c.args.poller.now)
    (g.P.Poller.time c.loop-left.poller) (g.P.Poller.time c.run_on.new.poller) c.args.inside.now.all.places
    c.loop-left.inside.all.places c.run_on.new.inside.all.places c.in_ok-ending.ensures.later
    c.loop-left.invariant.goes_out c.in_ok-ending.ensures.goes_on)

pub returns-in-TooLate-clause-ends : goal.returns-in-TooLate-clause-ends
returns-in-TooLate-clause-ends g c = out_late g.M.Machine.agrees g.M.Machine.wants g.S.NonBlocking.did
    (g.P.Poller.time c.args.poller.now) c.now.result c.saturating_add-until.result
    (g.P.Poller.time c.run_on.new.poller) c.args.inside.now.all.places c.run_on.new.inside.all.places
    (omega (arith, c.now.ensures.now, c.now.ensures.later)) c.saturating_add-until.ensures
    (subst (λ e. IsOverAs g.M.Machine.agrees g.M.Machine.wants g.S.NonBlocking.did
    (Some c.saturating_add-until.result) (g.P.Poller.time c.run_on.new.poller) c.run_on.new.inside.all.places e)
    c.in-TooLate.is c.in_ok-ending.ensures.over)
    (out_run g.M.Machine.agrees g.M.Machine.wants g.S.NonBlocking.did (g.P.Poller.time c.args.poller.now)
    (g.P.Poller.time c.loop-left.poller) (g.P.Poller.time c.run_on.new.poller) c.args.inside.now.all.places
    c.loop-left.inside.all.places c.run_on.new.inside.all.places c.in_ok-ending.ensures.later
    c.loop-left.invariant.goes_out c.in_ok-ending.ensures.goes_on)
