-- An address with a port of its own is told as it was given.
use Rattle.std.proofs.Common.{rules}
use Rattle.wst_sockets.specs.Listening.{LacksPort0}
use Rattle.wst_sockets.proofs.listening.told_address.Goals as goal

pub returns-in-None : goal.returns-in-None
returns-in-None c =
    let names : LacksPort0 c.args.address.now = c.in-None.ensures in
    search (rules, names)
