-- There are as many as in the loop.
use Rattle.std.proofs.Common.{◌∙◌, sym}
use Rattle.ws_networks.specs.NetworkLoops.{standing_of}
use Rattle.ws_networks.proofs.ZipLemmas.{zip_len}
use Rattle.ws_networks.proofs.network_loop.len_of.Goals as goal

pub returns : goal.returns
returns g c = c.len.ensures
    ∙ sym (zip_len standing_of c.args.board.now.all.places c.args.board.now.outbound.items c.requires.whole.len)
