-- One reply more is kept: its head, and its payload behind the others.
use Rattle.std.proofs.Common.{◌≡◌, ◌∙◌, ◌++◌, ◌∷◌, [], List, ℕ, ap, ap₂, length, sym, rules, arith}
use Rattle.std.proofs.lemmas.List.{length-append}
use Rattle.ws_suite.specs.declared.evidence.InTurn.{InTurn}
use Rattle.ws_suite.specs.declared.evidence.Reply.{Reply}
use Rattle.ws_suite.specs.declared.evidence.kept.Head.{Head}
use Rattle.ws_suite.specs.Kept.{IsHeadOf, kept_replies, payloads_len}
use Rattle.ws_suite.proofs.KeptLemmas.{head_with_payload, kept_more, len_more}
use Rattle.ws_suite.proofs.evidence.kept.Replies.push.Goals as goal

pub invariant_of-self-2 : goal.invariant_of-self-2
invariant_of-self-2 c =
    let payload = c.args.reply.payload.now in
    let head : Head = c.in_ok-head.head in
    let heads : c.push_reserved.new.self.items ≡ c.self.inside.heads.items ++ head ∷ [] = search rules in
    let payloads : c.extend_from_slice.new.self.items ≡ c.self.inside.payloads.items ++ payload = search rules in
    let is_head : IsHeadOf c.args.reply head = search rules in
    ap (λ (l : List Head). payloads_len l) heads
    ∙ (omega (
      arith,
      len_more c.self.inside.heads.items head,
      c.self.invariant,
      is_head.len,
      length-append c.self.inside.payloads.items payload,
    )
    ∙ ap (λ (l : List ℕ). length l) (sym payloads))

pub returns-clause-ok : goal.returns-clause-ok
returns-clause-ok c =
    let payload = c.args.reply.payload.now in
    let head : Head = c.in_ok-head.head in
    let heads : c.push_reserved.new.self.items ≡ c.self.inside.heads.items ++ head ∷ [] = search rules in
    let payloads : c.extend_from_slice.new.self.items ≡ c.self.inside.payloads.items ++ payload = search rules in
    let is_head : IsHeadOf c.args.reply head = search rules in
    ap₂ (λ (a : List Head) (b : List ℕ). kept_replies a b) heads payloads
    ∙ (kept_more c.self.inside.heads.items head c.self.inside.payloads.items payload c.self.invariant is_head.len
    ∙ ap₂ (λ (l : List (InTurn Reply)) (x : InTurn Reply). l ++ x ∷ []) c.self.view_is
    (head_with_payload c.args.reply head is_head))
