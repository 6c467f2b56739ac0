-- One message more was got: it meets the other side's first, or is kept.
use Rattle.std.proofs.Common.{◌++◌, ◌∷◌, [], Bool, subst}
use Rattle.ws_suite.specs.InnerPairing.{LeavesOr}
use Rattle.ws_suite.specs.Kept.{reply_in, what_of}
use Rattle.ws_suite.specs.Matching.{bare, message_replies}
use Rattle.ws_suite.proofs.PairingLemmas.{got_met, got_unlike, swap_left}
use Rattle.ws_suite.proofs.evidence.pairing.Pairing.add_got_message.Goals as goal

pub returns-then-not-branch : goal.returns-then-not-branch
returns-then-not-branch c = λ dues gots h.
    let met = c.in_ok-meet.ensures (bare (message_replies gots)) (bare (message_replies dues))
    (swap_left (bare (message_replies dues)) (bare (message_replies gots)) (bare c.args.self.now.due)
    (bare c.args.self.now.early)
    (h.messages c.requires.alike)) in
    got_unlike dues gots c.args.self.now (reply_in c.args.reply) h c.requires.kind
    (subst (λ (b : Bool). LeavesOr b (bare (message_replies gots) ++ what_of c.args.reply ∷ [])
    (bare (message_replies dues)) (bare c.meet.new.mine) (bare c.meet.new.others))
    c.if-not-branch.true met) c.give_up.new.self c.give_up.ensures

pub returns-else-not-branch : goal.returns-else-not-branch
returns-else-not-branch c = λ dues gots h.
    let met = c.in_ok-meet.ensures (bare (message_replies gots)) (bare (message_replies dues))
    (swap_left (bare (message_replies dues)) (bare (message_replies gots)) (bare c.args.self.now.due)
    (bare c.args.self.now.early)
    (h.messages c.requires.alike)) in
    got_met dues gots c.args.self.now (reply_in c.args.reply) h c.requires.kind c.meet.new.others c.meet.new.mine
    c.requires.alike
    (subst (λ (b : Bool). LeavesOr b (bare (message_replies gots) ++ what_of c.args.reply ∷ [])
    (bare (message_replies dues)) (bare c.meet.new.mine) (bare c.meet.new.others))
    c.if-not-branch.false met)
