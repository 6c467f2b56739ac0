-- Heads and payloads are those of the due ones, and of no others.
use Rattle.std.proofs.Common.{◌≡◌, ◌∙◌, List, rules, subst, sym}
use Rattle.std.proofs.lemmas.Slice.Eq.{bytes_eq-Decides}
use Rattle.ws_suite.specs.declared.evidence.InTurn.{InTurn}
use Rattle.ws_suite.specs.declared.evidence.Reply.{Reply}
use Rattle.ws_suite.specs.declared.evidence.kept.Head.{Head}
use Rattle.ws_suite.specs.InnerAnswered.{AreAnsweredEach, AreHeadsAnswered}
use Rattle.ws_suite.specs.Kept.{kept_replies}
use Rattle.ws_suite.proofs.AnsweredLemmas.{answered_as_kept, kept_as_answered}
use Rattle.ws_suite.proofs.evidence.kept.Replies.answer_each.Goals as goal

-- what holds of the lists that contracts see holds of what they are seen of
as_kept : (kept_due kept_got due got : List (InTurn Reply)) → kept_due ≡ due → kept_got ≡ got → AreAnsweredEach due got
    → AreAnsweredEach kept_due kept_got
as_kept kept_due kept_got due got is_due is_got each =
    subst (λ (l : List (InTurn Reply)). AreAnsweredEach l kept_got) (sym is_due)
    (subst (λ (l : List (InTurn Reply)). AreAnsweredEach due l) (sym is_got) each)

pub returns-then-are_heads_answered : goal.returns-then-are_heads_answered
returns-then-are_heads_answered c =
    let due = c.due.inside in
    let got = c.self.inside in (
      λ e.
          let dues : c.as_slice.result.now ≡ due.heads.items = search rules in
          let gots : c.as_slice-2.result.now ≡ got.heads.items = search rules in
          let heads = subst (λ (l : List Head). AreHeadsAnswered l got.heads.items) dues
          (subst (λ (l : List Head). AreHeadsAnswered c.as_slice.result.now l) gots (c.are_heads_answered.ensures.0 (search rules))) in
          let same : due.payloads.items ≡ got.payloads.items = search rules in
          subst (λ (l : List (InTurn Reply)). AreAnsweredEach l c.args.self.now) c.due.view_is
          (subst (λ (l : List (InTurn Reply)). AreAnsweredEach (kept_replies due.heads.items due.payloads.items) l) c.self.view_is
          (answered_as_kept due.heads.items got.heads.items due.payloads.items got.payloads.items same heads)),
      λ each.
          let dues : c.as_slice-then-are_heads_answered.result.now ≡ due.payloads.items = search rules in
          let gots : c.as_slice-then-are_heads_answered-2.result.now ≡ got.payloads.items = search rules in
          let inside = as_kept _ _ _ _ c.due.view_is c.self.view_is each in
          let same = (kept_as_answered due.heads.items got.heads.items due.payloads.items got.payloads.items c.due.invariant c.self.invariant inside).1 in
          c.eq.ensures ∙ (bytes_eq-Decides _ _).1 (dues ∙ (same ∙ sym gots)),
    )

pub returns-else-are_heads_answered : goal.returns-else-are_heads_answered
returns-else-are_heads_answered c = (
  λ e. absurd (search rules),
  λ each.
      let due = c.due.inside in
      let got = c.self.inside in
      let dues : c.as_slice.result.now ≡ due.heads.items = search rules in
      let gots : c.as_slice-2.result.now ≡ got.heads.items = search rules in
      let inside = as_kept _ _ _ _ c.due.view_is c.self.view_is each in
      let heads = (kept_as_answered due.heads.items got.heads.items due.payloads.items got.payloads.items c.due.invariant c.self.invariant inside).0 in
      c.are_heads_answered.ensures.1
      (subst (λ (l : List Head). AreHeadsAnswered l c.as_slice-2.result.now) (sym dues)
      (subst (λ (l : List Head). AreHeadsAnswered due.heads.items l) (sym gots) heads)),
)
