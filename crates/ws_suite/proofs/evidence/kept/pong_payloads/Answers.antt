-- One reply more: the payload of a pong before the turn goes behind the others.
use Rattle.std.proofs.Common.{◌≡◌, ◌∙◌, ◌&&◌, ◌∷◌, ◌++◌, [], ℕ, List, true, false, filter, ap, sym, rules, append_assoc, append-nil}
use Rattle.ws_suite.specs.declared.evidence.InTurn.{InTurn}
use Rattle.ws_suite.specs.declared.evidence.Reply.{Reply}
use Rattle.ws_suite.specs.InnerMarks.{is_pong_before, is_pong_kind, is_turn_before, joined_payloads}
use Rattle.ws_suite.specs.Kept.{reply_in}
use Rattle.ws_suite.proofs.KeptLemmas.{joined_less, joined_more}
use Rattle.ws_suite.proofs.evidence.kept.pong_payloads.Goals as goal

pub loop-reply-preserved-in-Continue-1 : goal.loop-reply-preserved-in-Continue-1
loop-reply-preserved-in-Continue-1 c =
    let end = c.args.end in
    let reply = c.in-Some.reply in
    let before = c.loop-reply.payloads.items in
    let rest = joined_payloads (filter (is_pong_before end) c.next.new.self) in
    let left : c.loop-reply.left ≡ reply_in reply ∷ c.next.new.self = search rules in
    let is : (is_pong_kind reply.kind && is_turn_before end reply.turn) ≡ true = search rules in
    let grown : c.extend_from_slice.new.self.items ≡ before ++ reply.payload.now = search rules in
    ap (λ (l : List ℕ). l ++ rest) grown
    ∙ (append_assoc before reply.payload.now rest
    ∙ (ap (λ (l : List ℕ). before ++ l) (sym (ap (λ (l : List (InTurn Reply)).
    joined_payloads (filter (is_pong_before end) l)) left ∙ joined_more end reply c.next.new.self is)) ∙ c.loop-reply.invariant))

pub loop-reply-preserved : goal.loop-reply-preserved
loop-reply-preserved c =
    let end = c.args.end in
    let reply = c.in-Some.reply in
    let left : c.loop-reply.left ≡ reply_in reply ∷ c.next.new.self = search rules in
    let is : (is_pong_kind reply.kind && is_turn_before end reply.turn) ≡ false = search rules in
    ap (λ (l : List ℕ). c.loop-reply.payloads.items ++ l) (sym (ap (λ (l : List (InTurn Reply)).
    joined_payloads (filter (is_pong_before end) l)) left ∙ joined_less end reply c.next.new.self is)) ∙ c.loop-reply.invariant

pub returns : goal.returns
returns c =
    let none : c.loop-reply.left ≡ [] = search rules in
    sym (append-nil c.loop-reply.payloads.items)
    ∙ (ap (λ (l : List (InTurn Reply)). c.loop-reply.payloads.items ++ joined_payloads (filter (is_pong_before c.args.end) l))
    (sym none) ∙ c.loop-reply.invariant)
