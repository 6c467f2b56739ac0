-- Fragments are left, or the frame under way begins a message.
use Rattle.std.proofs.Common.{◌≡◌, ◌⊎◌, ◌∙◌, ℕ, Some, inl, sym, true, false}
use Rattle.ws_session.specs.Sends.{most_limits}
use Rattle.ws_suite.specs.InnerMarks.{left_open}
use Rattle.ws_suite.proofs.ToldLemmas.{asked_of_frame, fragments_seen, open_by_frame}
use Rattle.ws_suite.proofs.evidence.marks.Told.is_open.Goals as goal

pub returns-then-is_fragment : goal.returns-then-is_fragment
returns-then-is_fragment c = λ role bytes h.
    let seen = c.args.self.now.seen in
    let one_list = c.frame_laws.ensures.one_list role most_limits bytes in
    let left : left_open seen.frame ≡ Some true = c.is_fragment.ensures.0 c.if-is_fragment.true in
    (λ yes. inl ((fragments_seen role bytes seen h.is_seen one_list).0 left), λ whole. c.if-is_fragment.true)

pub returns-else-is_fragment : goal.returns-else-is_fragment
returns-else-is_fragment c = λ role bytes h.
    let seen = c.args.self.now.seen in
    let one_list = c.frame_laws.ensures.one_list role most_limits bytes in
    let begins = c.begins_message-begins in
    open_by_frame role bytes seen h.is_seen one_list
    (λ left. absurd (let wrong : false ≡ true = sym c.if-is_fragment.false ∙ c.is_fragment.ensures.1 left in cc))
    begins.result
    (asked_of_frame role bytes one_list (λ (n : ℕ). (n ≡ 1) ⊎ (n ≡ 2)) c.frame_under_way.result begins.result
    (c.frame_under_way.ensures role bytes h) begins.ensures.none begins.ensures.some)
