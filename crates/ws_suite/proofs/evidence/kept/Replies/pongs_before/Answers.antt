-- The heads that are left and the payloads that were copied are those of the pongs before the turn.
use Rattle.std.proofs.Common.{◌≡◌, ◌∙◌, ℕ, List, filter, length, ap, ap₂, subst, sym, rules}
use Rattle.std.proofs.lemmas.Fn.{filter_same}
use Rattle.ws_suite.specs.declared.evidence.InTurn.{InTurn}
use Rattle.ws_suite.specs.declared.evidence.Reply.{Reply}
use Rattle.ws_suite.specs.declared.evidence.kept.Head.{Head}
use Rattle.ws_suite.specs.InnerMarks.{is_head_before, is_pong_before, joined_payloads}
use Rattle.ws_suite.specs.Kept.{kept_replies, payloads_len}
use Rattle.ws_suite.proofs.KeptLemmas.{AreBefore, kept_before}
use Rattle.ws_suite.proofs.evidence.kept.Replies.pongs_before.Goals as goal

pub returns : goal.returns
returns c =
    let end = c.args.end in
    let heads = c.self.inside.heads.items in
    let left : c.retain.new.self.items ≡ filter (is_head_before end) heads =
    filter_same _ _ _ (λ x b f' k. search rules) _ _ c.retain.ensures.filtered in
    let copied : c.in_ok-payloads.payloads.items ≡ joined_payloads (filter (is_pong_before end) c.args.self) =
    c.in_ok-payloads.ensures ∙ ap (λ (l : List (InTurn Reply)). joined_payloads (filter (is_pong_before end) l)) c.iter.ensures in
    let before : AreBefore end heads (filter (is_pong_before end) c.args.self) =
    subst (λ (l : List (InTurn Reply)). AreBefore end heads (filter (is_pong_before end) l)) c.self.view_is
    (kept_before end heads c.self.inside.payloads.items c.self.invariant) in
    ap₂ (λ (a : List Head) (b : List ℕ). kept_replies a b) left copied ∙ before.0

pub invariant_of-result : goal.invariant_of-result
invariant_of-result c =
    let end = c.args.end in
    let heads = c.self.inside.heads.items in
    let left : c.retain.new.self.items ≡ filter (is_head_before end) heads =
    filter_same _ _ _ (λ x b f' k. search rules) _ _ c.retain.ensures.filtered in
    let copied : c.in_ok-payloads.payloads.items ≡ joined_payloads (filter (is_pong_before end) c.args.self) =
    c.in_ok-payloads.ensures ∙ ap (λ (l : List (InTurn Reply)). joined_payloads (filter (is_pong_before end) l)) c.iter.ensures in
    let before : AreBefore end heads (filter (is_pong_before end) c.args.self) =
    subst (λ (l : List (InTurn Reply)). AreBefore end heads (filter (is_pong_before end) l)) c.self.view_is
    (kept_before end heads c.self.inside.payloads.items c.self.invariant) in
    ap (λ (l : List Head). payloads_len l) left ∙ (before.1 ∙ ap (λ (l : List ℕ). length l) (sym copied))
