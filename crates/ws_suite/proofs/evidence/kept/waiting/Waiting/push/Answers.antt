-- One reply more waits: its head, and its payload behind the others.
use Rattle.std.proofs.Common.{◌≡◌, ◌∙◌, ◌++◌, ◌∷◌, [], List, ℕ, ap₂, sym, subst, rules, drop}
use Rattle.ws_suite.specs.declared.evidence.InTurn.{InTurn}
use Rattle.ws_suite.specs.declared.evidence.Reply.{Reply}
use Rattle.ws_suite.specs.declared.evidence.kept.Head.{Head}
use Rattle.ws_suite.specs.InnerWaiting.{HasPlaces}
use Rattle.ws_suite.specs.Kept.{IsHeadOf, kept_replies}
use Rattle.ws_suite.proofs.KeptLemmas.{head_with_payload}
use Rattle.ws_suite.proofs.WaitLemmas.{places_more, waiting_more}
use Rattle.ws_suite.proofs.evidence.kept.waiting.Waiting.push.Goals as goal

pub invariant_of-self-2 : goal.invariant_of-self-2
invariant_of-self-2 c =
    let old = c.self.inside in
    let payload = c.args.reply.payload.now in
    let head : Head = c.in_ok-head.head in
    let heads : c.push_reserved.new.self.items ≡ old.heads.items ++ head ∷ [] = search rules in
    let payloads : c.extend_from_slice.new.self.items ≡ old.payloads.items ++ payload = search rules in
    let is_head : IsHeadOf c.args.reply head = search rules in
    subst (λ (l : List Head). HasPlaces l c.extend_from_slice.new.self.items old.heads_gone old.bytes_gone) (sym heads)
    (subst (λ (l : List ℕ). HasPlaces (old.heads.items ++ head ∷ []) l old.heads_gone old.bytes_gone) (sym payloads)
    (places_more old.heads.items old.payloads.items old.heads_gone old.bytes_gone c.self.invariant head payload is_head.len))

pub returns-clause-ok : goal.returns-clause-ok
returns-clause-ok c =
    let old = c.self.inside in
    let payload = c.args.reply.payload.now in
    let head : Head = c.in_ok-head.head in
    let heads : c.push_reserved.new.self.items ≡ old.heads.items ++ head ∷ [] = search rules in
    let payloads : c.extend_from_slice.new.self.items ≡ old.payloads.items ++ payload = search rules in
    let is_head : IsHeadOf c.args.reply head = search rules in
    ap₂ (λ (a : List Head) (b : List ℕ). kept_replies (drop old.heads_gone a) (drop old.bytes_gone b)) heads payloads
    ∙ (waiting_more old.heads.items old.payloads.items old.heads_gone old.bytes_gone c.self.invariant head payload is_head.len
    ∙ ap₂ (λ (l : List (InTurn Reply)) (x : InTurn Reply). l ++ x ∷ []) c.self.view_is
    (head_with_payload c.args.reply head is_head))
