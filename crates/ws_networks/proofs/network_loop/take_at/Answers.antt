-- What stood there is handed out.
use Rattle.std.proofs.Common.{refl, subst, sym}
use Rattle.ws_loops.specs.declared.places.Place.TheVariants.{Broken, Empty, Open, Pending}
use Rattle.ws_networks.specs.NetworkLoops.{IsHandedOutAs, standing_of}
use Rattle.ws_networks.proofs.BoardLemmas.{freed, sound_taken, taken_pending, taken_so, unnumbered, within_beside}
use Rattle.ws_networks.proofs.BoardLemmas.{within_places}
use Rattle.ws_networks.proofs.network_loop.take_at.Goals as goal

pub outbound_of-beside-requires : goal.outbound_of-beside-requires
outbound_of-beside-requires g c = within_beside g.M.Machine.agrees g.M.Machine.wants g.S.NonBlocking.did
    c.args.board.now.all c.args.board.now.outbound.items c.args.at c.requires.whole c.requires.at

pub take-requires : goal.take-requires
take-requires g c = record {
  at = within_places g.M.Machine.agrees g.M.Machine.wants g.S.NonBlocking.did c.args.board.now.all
      c.args.board.now.outbound.items c.args.at c.requires.whole c.requires.at;
}

pub returns-in-Empty-clause-taken : goal.returns-in-Empty-clause-taken
returns-in-Empty-clause-taken g c = taken_so g.M.Machine.agrees g.M.Machine.wants g.S.NonBlocking.did c.args.board.now.all
    c.args.board.now.outbound.items c.args.at Empty c.outbound_of-beside.result _ c.in-Empty.ensures.taken
    c.outbound_of-beside.ensures.taken refl

pub returns-in-Open-clause-taken : goal.returns-in-Open-clause-taken
returns-in-Open-clause-taken g c = taken_so g.M.Machine.agrees g.M.Machine.wants g.S.NonBlocking.did c.args.board.now.all
    c.args.board.now.outbound.items c.args.at (Open c.in-Open.slot) c.outbound_of-beside.result _ c.in-Open.ensures.taken
    c.outbound_of-beside.ensures.taken (refl, c.in-Open.ensures.able)

pub returns-in-Broken-clause-taken : goal.returns-in-Broken-clause-taken
returns-in-Broken-clause-taken g c = taken_so g.M.Machine.agrees g.M.Machine.wants g.S.NonBlocking.did c.args.board.now.all
    c.args.board.now.outbound.items c.args.at Broken c.outbound_of-beside.result _ c.in-Broken.ensures.taken
    c.outbound_of-beside.ensures.taken refl

pub returns-clause-taken : goal.returns-clause-taken
returns-clause-taken g c =
    let old = c.args.board.now in
    let beside = c.outbound_of-beside.result in
    taken_so g.M.Machine.agrees g.M.Machine.wants g.S.NonBlocking.did old.all old.outbound.items c.args.at
    (Pending c.in-Pending.field-0) beside c.missed_or_not.result c.in-Pending.ensures.taken
    c.outbound_of-beside.ensures.taken
    (subst (λ t. IsHandedOutAs g.M.Machine.agrees g.M.Machine.wants (standing_of (Pending c.in-Pending.field-0) beside) t)
    (sym c.missed_or_not.ensures)
    (taken_pending g.M.Machine.agrees g.M.Machine.wants g.S.NonBlocking.did old.all old.outbound.items c.args.at
    c.in-Pending.field-0 beside c.requires.whole c.in-Pending.ensures.taken c.outbound_of-beside.ensures.taken))

pub returns-in-Empty-clause-free : goal.returns-in-Empty-clause-free
returns-in-Empty-clause-free g c = freed g.M.Machine.agrees g.M.Machine.wants g.S.NonBlocking.did c.args.board.now.all
    c.args.board.now.outbound.items c.outbound_of-beside.new.outbound.items c.args.at c.take.new.self.places
    c.in-Empty.ensures.empty c.outbound_of-beside.ensures.idle

pub returns-in-Empty-clause-turns : goal.returns-in-Empty-clause-turns
returns-in-Empty-clause-turns g c = unnumbered c.args.board.now.all.tickets c.take.new.self.tickets
    c.args.board.now.outbound.items c.outbound_of-beside.new.outbound.items c.args.at c.in-Empty.ensures.turns
    c.outbound_of-beside.ensures.idle

pub returns-in-Empty-clause-whole : goal.returns-in-Empty-clause-whole
returns-in-Empty-clause-whole g c = sound_taken g.M.Machine.agrees g.M.Machine.wants g.S.NonBlocking.did c.args.board.now.all
    c.take.new.self c.args.board.now.outbound.items c.outbound_of-beside.new.outbound.items c.args.at c.requires.whole
    c.in-Empty.ensures.empty c.outbound_of-beside.ensures.idle

pub returns-in-Open-clause-free : goal.returns-in-Open-clause-free
returns-in-Open-clause-free g c = freed g.M.Machine.agrees g.M.Machine.wants g.S.NonBlocking.did c.args.board.now.all
    c.args.board.now.outbound.items c.outbound_of-beside.new.outbound.items c.args.at c.take.new.self.places
    c.in-Open.ensures.empty c.outbound_of-beside.ensures.idle

pub returns-in-Open-clause-turns : goal.returns-in-Open-clause-turns
returns-in-Open-clause-turns g c = unnumbered c.args.board.now.all.tickets c.take.new.self.tickets
    c.args.board.now.outbound.items c.outbound_of-beside.new.outbound.items c.args.at c.in-Open.ensures.turns
    c.outbound_of-beside.ensures.idle

pub returns-in-Open-clause-whole : goal.returns-in-Open-clause-whole
returns-in-Open-clause-whole g c = sound_taken g.M.Machine.agrees g.M.Machine.wants g.S.NonBlocking.did c.args.board.now.all
    c.take.new.self c.args.board.now.outbound.items c.outbound_of-beside.new.outbound.items c.args.at c.requires.whole
    c.in-Open.ensures.empty c.outbound_of-beside.ensures.idle

pub returns-in-Broken-clause-free : goal.returns-in-Broken-clause-free
returns-in-Broken-clause-free g c = freed g.M.Machine.agrees g.M.Machine.wants g.S.NonBlocking.did c.args.board.now.all
    c.args.board.now.outbound.items c.outbound_of-beside.new.outbound.items c.args.at c.take.new.self.places
    c.in-Broken.ensures.empty c.outbound_of-beside.ensures.idle

pub returns-in-Broken-clause-turns : goal.returns-in-Broken-clause-turns
returns-in-Broken-clause-turns g c = unnumbered c.args.board.now.all.tickets c.take.new.self.tickets
    c.args.board.now.outbound.items c.outbound_of-beside.new.outbound.items c.args.at c.in-Broken.ensures.turns
    c.outbound_of-beside.ensures.idle

pub returns-in-Broken-clause-whole : goal.returns-in-Broken-clause-whole
returns-in-Broken-clause-whole g c = sound_taken g.M.Machine.agrees g.M.Machine.wants g.S.NonBlocking.did c.args.board.now.all
    c.take.new.self c.args.board.now.outbound.items c.outbound_of-beside.new.outbound.items c.args.at c.requires.whole
    c.in-Broken.ensures.empty c.outbound_of-beside.ensures.idle

pub returns-clause-free : goal.returns-clause-free
returns-clause-free g c = freed g.M.Machine.agrees g.M.Machine.wants g.S.NonBlocking.did c.args.board.now.all
    c.args.board.now.outbound.items c.outbound_of-beside.new.outbound.items c.args.at c.take.new.self.places
    c.in-Pending.ensures.empty c.outbound_of-beside.ensures.idle

pub returns-clause-turns : goal.returns-clause-turns
returns-clause-turns g c = unnumbered c.args.board.now.all.tickets c.take.new.self.tickets
    c.args.board.now.outbound.items c.outbound_of-beside.new.outbound.items c.args.at c.in-Pending.ensures.turns
    c.outbound_of-beside.ensures.idle

pub returns-clause-whole : goal.returns-clause-whole
returns-clause-whole g c = sound_taken g.M.Machine.agrees g.M.Machine.wants g.S.NonBlocking.did c.args.board.now.all
    c.take.new.self c.args.board.now.outbound.items c.outbound_of-beside.new.outbound.items c.args.at c.requires.whole
    c.in-Pending.ensures.empty c.outbound_of-beside.ensures.idle
