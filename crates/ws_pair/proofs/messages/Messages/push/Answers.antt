-- One message more is kept: its head, and its payload behind the others.
use Rattle.std.proofs.Common.{◌≡◌, ◌∙◌, ◌++◌, ◌∷◌, [], List, ℕ, ap, ap₂, length, sym, rules, arith}
use Rattle.std.proofs.lemmas.List.{length-append}
use Rattle.ws_pair.specs.declared.messages.Head.{Head}
use Rattle.ws_pair.specs.KeptMessages.{MessageList, kept_messages, whole_message, kept_len}
use Rattle.ws_pair.proofs.KeptLemmas.{kept_more, len_more}
use Rattle.ws_pair.proofs.messages.Messages.push.Goals as goal

pub invariant_of-self-2 : goal.invariant_of-self-2
invariant_of-self-2 c =
    let payload = c.args.payload.now in
    let head : Head = record { kind = c.args.kind; len = c.in-Ok.len } in
    let heads : c.push_reserved.new.self.items ≡ c.self.inside.heads.items ++ head ∷ [] = search rules in
    let payloads : c.extend_from_slice.new.self.items ≡ c.self.inside.payloads.items ++ payload = search rules in
    let len : c.in-Ok.len ≡ length payload = search rules in
    ap (λ (l : List Head). kept_len l) heads
    ∙ (omega (
      arith,
      len_more c.self.inside.heads.items head,
      c.self.invariant,
      len,
      length-append c.self.inside.payloads.items payload,
    )
    ∙ ap (λ (l : List ℕ). length l) (sym payloads))

pub returns-clause-longer : goal.returns-clause-longer
returns-clause-longer c =
    let payload = c.args.payload.now in
    let head : Head = record { kind = c.args.kind; len = c.in-Ok.len } in
    let heads : c.push_reserved.new.self.items ≡ c.self.inside.heads.items ++ head ∷ [] = search rules in
    let payloads : c.extend_from_slice.new.self.items ≡ c.self.inside.payloads.items ++ payload = search rules in
    let len : c.in-Ok.len ≡ length payload = search rules in
    ap₂ (λ (a : List Head) (b : List ℕ). kept_messages a b) heads payloads
    ∙ (kept_more c.self.inside.heads.items head c.self.inside.payloads.items payload c.self.invariant len
    ∙ ap (λ (l : MessageList). l.items ++ whole_message c.args.kind payload ∷ []) c.self.view_is)
