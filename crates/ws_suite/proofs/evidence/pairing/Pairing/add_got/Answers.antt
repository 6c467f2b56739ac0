-- One reply more was got: by its kind.
use Rattle.std.proofs.Common.{◌≡◌, true, ap}
use Rattle.ws_suite.specs.declared.evidence.kept.ReplyKind.{ReplyKind}
use Rattle.ws_suite.specs.Kept.{reply_in, reply_of}
use Rattle.ws_suite.specs.Matching.{is_message, is_pong, pong_replies}
use Rattle.ws_suite.proofs.PairingLemmas.{got_differs, got_neither, got_paired, where_ok}
use Rattle.ws_suite.proofs.evidence.pairing.Pairing.add_got.Goals as goal

pub returns-then-self : goal.returns-then-self
returns-then-self c = λ dues gots h. got_differs dues gots c.args.self.now (reply_in c.args.reply) h c.if-self.true

pub returns-in-Pong : goal.returns-in-Pong
returns-in-Pong c =
    let self = c.args.self.now in
    let r = reply_in c.args.reply in
    let is : is_pong r.what ≡ true = ap (λ (k : ReplyKind). is_pong
    (reply_of k c.args.reply.payload.now)) c.in-Pong.is in
    where_ok c.add_pong.result (λ paired. λ dues gots h.
    got_paired dues gots self r h is c.add_pong.new.pings c.add_pong.new.unmatched c.if-self.false
    (paired (pong_replies dues) (pong_replies gots) (h.pongs c.if-self.false)))
    c.add_pong.ensures

pub returns-in-Ping : goal.returns-in-Ping
returns-in-Ping c = λ dues gots h.
    got_neither dues gots c.args.self.now (reply_in c.args.reply) h
    (ap (λ (k : ReplyKind). is_message (reply_of k c.args.reply.payload.now)) c.in-Ping.is)
    (ap (λ (k : ReplyKind). is_pong (reply_of k c.args.reply.payload.now)) c.in-Ping.is)
