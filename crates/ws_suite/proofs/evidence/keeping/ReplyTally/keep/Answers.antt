-- A pong is the last one.
use Rattle.std.proofs.Common.{◌≡◌, ◌∙◌, ◌++◌, ◌∷◌, [], Option, Some, ap, rules, subst, sym}
use Rattle.ws_suite.specs.declared.evidence.InTurn.{InTurn}
use Rattle.ws_suite.specs.declared.evidence.Reply.{Reply}
use Rattle.ws_suite.specs.declared.evidence.kept.ReplyKind.{ReplyKind}
use Rattle.ws_suite.specs.declared.evidence.kept.ReplyKind.TheVariants.{Pong}
use Rattle.ws_suite.specs.Growing.{IsTallyOf}
use Rattle.ws_suite.specs.InnerTally.{pong_of}
use Rattle.ws_suite.specs.Kept.{reply_in, reply_of}
use Rattle.ws_suite.specs.Matching.{is_pong}
use Rattle.ws_suite.proofs.GrowingLemmas.{pong_kept}
use Rattle.ws_suite.proofs.evidence.keeping.ReplyTally.keep.Goals as goal

pub returns-in_ok-keep-in-Pong : goal.returns-in_ok-keep-in-Pong
returns-in_ok-keep-in-Pong c = λ replies h.
    let tally = c.args.self.now in
    let turn = c.args.reply.turn in
    let payload = c.args.reply.payload.now in
    let r = reply_in c.args.reply in
    let is : c.args.reply.kind ≡ Pong = search rules in
    let same : r ≡ pong_of turn payload = ap (λ (k : ReplyKind). record { turn = turn; what = reply_of k payload }) is in
    let kept : c.keep.new.self ≡ Some r = c.in_ok-keep-in-Pong.ensures ∙ ap (λ (x : InTurn Reply). Some x) (sym same) in
    subst (λ (o : Option (InTurn Reply)). IsTallyOf (record { messages = tally.messages; last_pong = o }) (replies ++ r ∷ []))
    (sym kept) (pong_kept tally replies r (ap (λ (k : ReplyKind). is_pong (reply_of k payload)) is) h)
