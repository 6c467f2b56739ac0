-- The host of an address at the port 0 stands before its last colon.
use Rattle.std.proofs.Common.{rules, All}
use Rattle.wst_sockets.specs.Listening.{IsCutAtPort, LacksPort0, SpellsPort0}
use Rattle.wst_sockets.proofs.PortLemmas.{NoColon, lacks_port_0, lacks_ports}
use Rattle.wst_sockets.proofs.listening.host_at_port_0.Goals as goal

pub returns-in_err-host : goal.returns-in_err-host
returns-in_err-host c =
    let lacks : All NoColon c.args.address.now = search rules in
    let names : LacksPort0 c.args.address.now = lacks_ports c.args.address.now lacks in
    search (rules, names)

pub returns-else-spells_port_0 : goal.returns-else-spells_port_0
returns-else-spells_port_0 c =
    let cut : IsCutAtPort c.args.address.now c.in_ok-host.host.now c.in_ok-host.word.now = search rules in
    let other : SpellsPort0 c.in_ok-host.word.now → ⊥ = λ is. search (rules, is) in
    lacks_port_0 c.args.address.now c.in_ok-host.host.now c.in_ok-host.word.now cut other
