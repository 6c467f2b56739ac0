-- One more is due: the first pong that waits has its match now, or none waits for it.
use Rattle.std.proofs.Common.{◌++◌, ◌∷◌, [], Bool, List, subst, sym}
use Rattle.ws_suite.specs.declared.evidence.InTurn.{InTurn}
use Rattle.ws_suite.specs.declared.evidence.Reply.{Reply}
use Rattle.ws_suite.specs.InnerPairing.{WaitsFor}
use Rattle.ws_suite.specs.Kept.{reply_in}
use Rattle.ws_suite.specs.Pairings.{ArePaired}
use Rattle.ws_suite.proofs.PairingLemmas.{due_meets, due_waits}
use Rattle.ws_suite.proofs.evidence.pairing.add_ping.Goals as goal

pub returns-then-waits_for : goal.returns-then-waits_for
returns-then-waits_for c = λ dues gots h.
    let r = reply_in c.args.due in
    let old = c.args.unmatched.now in
    let waits = subst (λ (b : Bool). WaitsFor old r b) c.if-waits_for.true c.waits_for.ensures in
    subst (λ (l : List (InTurn Reply)). ArePaired (dues ++ r ∷ []) gots l c.drop_first.new.self) (sym c.clear.ensures)
    (subst (λ (l : List (InTurn Reply)). ArePaired (dues ++ r ∷ []) gots [] l) (sym c.drop_first.ensures)
    (due_meets dues gots c.args.pings.now old r waits h))

pub returns-in_ok-push : goal.returns-in_ok-push
returns-in_ok-push c = λ dues gots h.
    let r = reply_in c.args.due in
    let old = c.args.unmatched.now in
    let waits = subst (λ (b : Bool). WaitsFor old r b) c.if-waits_for.false c.waits_for.ensures in
    subst (λ (l : List (InTurn Reply)). ArePaired (dues ++ r ∷ []) gots l old) (sym c.in_ok-push.ensures.ok)
    (due_waits dues gots c.args.pings.now old r waits h)
