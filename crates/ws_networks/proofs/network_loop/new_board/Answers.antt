-- Nothing stands in any place, and nothing goes on for any.
use Rattle.std.proofs.Common.{◌∙◌, sym}
use Rattle.ws_networks.specs.NetworkLoops.{standing_of}
use Rattle.ws_networks.proofs.BoardLemmas.{all_free, none_new, sound_new}
use Rattle.ws_networks.proofs.ZipLemmas.{zip_len}
use Rattle.ws_networks.proofs.network_loop.new_board.Goals as goal

pub returns-clause-len : goal.returns-clause-len
returns-clause-len g c = zip_len standing_of c.in_ok-all.all.places c.in_ok-outbound.outbound.items
    (c.in_ok-outbound.ensures.places ∙ sym c.in_ok-all.ensures.len) ∙ c.in_ok-all.ensures.len

pub returns-clause-free : goal.returns-clause-free
returns-clause-free g c = all_free g.M.Machine.agrees g.M.Machine.wants g.S.NonBlocking.did c.in_ok-all.all
    c.in_ok-outbound.outbound.items c.in_ok-all.ensures.empty

pub returns-clause-none : goal.returns-clause-none
returns-clause-none g c = none_new c.in_ok-all.all.tickets c.in_ok-outbound.outbound.items c.in_ok-all.ensures.none

pub returns-clause-whole : goal.returns-clause-whole
returns-clause-whole g c = sound_new g.M.Machine.agrees g.M.Machine.wants g.S.NonBlocking.did c.in_ok-all.all
    c.in_ok-outbound.outbound.items c.args.len c.in_ok-all.ensures.len c.in_ok-all.ensures.empty c.in_ok-outbound.ensures
