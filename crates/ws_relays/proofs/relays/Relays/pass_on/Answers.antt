-- What has happened is told, and then the connection is over, or both its ends are asked for what is to be asked next.
use Rattle.std.proofs.Common.{◌∙◌, sym}
use Rattle.std.proofs.lemmas.Result.{err_from_is_err_and}
use Rattle.ws_relays.proofs.RelayEvents.{some_may, some_on, some_over, some_tapping, telling_failed, telling_on}
use Rattle.ws_relays.proofs.RelayEvents.{telling_over, telling_stops}
use Rattle.ws_relays.proofs.relays.Relays.pass_on.Goals as goal

pub happened-requires-clause-tapping : goal.happened-requires-clause-tapping
happened-requires-clause-tapping g c = some_tapping g.S.NonBlocking.did c.args.self.now c.args.at c.args.role
    c.args.relay c.args.happened c.requires.stood

pub happened-requires-clause-may : goal.happened-requires-clause-may
happened-requires-clause-may g c = some_may g.S.NonBlocking.did c.args.self.now c.args.at c.args.role c.args.relay
    c.args.happened c.requires.stood

pub end-requires : goal.end-requires
end-requires g c = record {
  stood = some_over g.S.NonBlocking.did c.args.self.now c.args.at c.args.role c.args.relay c.happened.new.self
      c.args.happened _ _ _ c.in_ok-fate.fate
      c.in_ok-fate.ensures.told c.happened.ensures.kept c.in-Over.end
      (sym c.in_ok-fate.ensures.fate ∙ c.in-Over.is) c.requires.stood;
}

pub ask_both-requires : goal.ask_both-requires
ask_both-requires g c = record {
  stood = some_on g.S.NonBlocking.did c.args.self.now c.args.at c.args.role c.args.relay c.happened.new.self
      c.args.happened _ _ _ c.in_ok-fate.fate
      c.in_ok-fate.ensures.told c.happened.ensures.kept c.requires.stood;
}

pub returns-in-Over-clause-goes : goal.returns-in-Over-clause-goes
returns-in-Over-clause-goes g c = telling_over g.S.NonBlocking.did c.args.self.now c.args.at c.args.role c.args.relay
    c.happened.new.self c.args.happened _ _ _ c.in_ok-fate.fate
    c.in_ok-fate.ensures.told c.happened.ensures.kept _ c.in-Over.end
    c.end.result (sym c.in_ok-fate.ensures.fate ∙ c.in-Over.is) c.end.ensures.ended c.requires.stood
    c.end.ensures.stands

pub returns-in_ok-ask_both-in-On-clause-goes : goal.returns-in_ok-ask_both-in-On-clause-goes
returns-in_ok-ask_both-in-On-clause-goes g c = telling_on g.S.NonBlocking.did c.args.self.now c.args.at c.args.role
    c.args.relay c.happened.new.self c.args.happened _ _ _ c.in_ok-fate.fate
    c.in_ok-fate.ensures.told c.happened.ensures.kept _
    c.requires.stood c.in_ok-ask_both-in-On.ensures.stands

pub returns-in_err-fate-clause-goes : goal.returns-in_err-fate-clause-goes
returns-in_err-fate-clause-goes g c =
    let p = err_from_is_err_and c.from_residual.result c.from_residual.ensures.1 in
    rw p.1 (rw p.2 (telling_failed g.S.NonBlocking.did c.args.self.now c.args.at c.args.role c.args.relay
    c.happened.new.self c.args.happened _ _ _ _ c.in_err-fate.ensures.told c.requires.stood))

pub returns-in_err-ask_both-in-On-clause-goes : goal.returns-in_err-ask_both-in-On-clause-goes
returns-in_err-ask_both-in-On-clause-goes g c =
    let p = err_from_is_err_and c.from_residual-in_err-ask_both-in-On.result
    c.from_residual-in_err-ask_both-in-On.ensures.1 in
    rw p.1 (rw p.2 (telling_stops g.S.NonBlocking.did c.args.self.now c.args.at c.args.role c.args.relay
    c.happened.new.self c.args.happened _ _ _ c.in_ok-fate.fate
    c.in_ok-fate.ensures.told c.happened.ensures.kept
    c.requires.stood))
