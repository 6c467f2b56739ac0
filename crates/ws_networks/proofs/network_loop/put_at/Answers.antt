-- A slot is put there, beside which nothing goes on.
use Rattle.std.proofs.Common.{◌<◌, length, refl, rules}
use Rattle.std.proofs.lemmas.Option.{slice_get_within}
use Rattle.ws_networks.specs.NetworkLoops.Standing.{Free}
use Rattle.ws_networks.specs.declared.network_loop.Outbound.TheVariants.{Idle}
use Rattle.ws_networks.proofs.BoardLemmas.{empty_slotless, free_place, put_there, sound_put, turns_opened, within_beside}
use Rattle.ws_networks.proofs.network_loop.put_at.Goals as goal

pub open-requires-clause-slotless : goal.open-requires-clause-slotless
open-requires-clause-slotless g c = empty_slotless c.args.board.now.all.places c.args.at
    (free_place g.M.Machine.agrees g.M.Machine.wants g.S.NonBlocking.did c.args.board.now.all
    c.args.board.now.outbound.items c.args.at c.requires.whole c.requires.free)

pub index_mut-requires : goal.index_mut-requires
index_mut-requires g c =
    let less : c.args.at < length c.args.board.now.outbound.items = within_beside g.M.Machine.agrees
    g.M.Machine.wants g.S.NonBlocking.did c.args.board.now.all c.args.board.now.outbound.items c.args.at
    c.requires.whole (slice_get_within _ c.args.at Free c.requires.free) in
    search (rules, less)

pub returns-clause-put : goal.returns-clause-put
returns-clause-put g c = put_there g.M.Machine.agrees g.M.Machine.wants g.S.NonBlocking.did c.args.board.now.all
    c.args.board.now.outbound.items _ c.args.at c.open.new.self.places c.args.slot c.open.ensures.put refl

pub returns-clause-turns : goal.returns-clause-turns
returns-clause-turns g c = turns_opened c.args.board.now.all.tickets c.open.new.self.tickets
    c.args.board.now.outbound.items _ c.args.at Idle
    (c.open.ensures.unnumbered (free_place g.M.Machine.agrees g.M.Machine.wants g.S.NonBlocking.did
    c.args.board.now.all c.args.board.now.outbound.items c.args.at c.requires.whole c.requires.free))
    refl c.open.ensures.turns

pub returns-clause-whole : goal.returns-clause-whole
returns-clause-whole g c = sound_put g.M.Machine.agrees g.M.Machine.wants g.S.NonBlocking.did c.args.board.now.all
    c.open.new.self c.args.board.now.outbound.items _ c.args.at c.args.slot c.requires.whole c.open.ensures.put refl
