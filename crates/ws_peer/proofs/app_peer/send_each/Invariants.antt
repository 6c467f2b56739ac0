-- Send after send: those so far were sent, but for those that were refused.
use Rattle.std.proofs.Common.{take}
use Rattle.ws_peer.specs.Apps.{SendsOwn}
use Rattle.ws_peer.proofs.app_peer.send_each.Given as goal

-- what was sent so far
abbrev pub invariant-loop-send : goal.invariant-loop-send
invariant-loop-send l = SendsOwn (take l.send-index l.sends) l.fn.session l.session l.fn.out.items l.out.items
