-- The evidence of an application's transcript is counted as its events say: so the law that no Fail is its verdict.
use Rattle.std.proofs.Common.{◌≡◌, ◌∙◌, ℕ, false, List, ◌++◌, Option, ap, sym, subst, inl, inr}
use Rattle.std.proofs.lemmas.Bool.{both_ways}
use Rattle.std.specs.List.{concat}
use Rattle.ws_wire.specs.declared.role.Role.{Role}
use Rattle.ws_session.specs.declared.event.Event.{Event}
use Rattle.ws_scripts.specs.declared.transcript.Transcript.{Transcript}
use Rattle.ws_suite.specs.declared.verdict.FailWhy.{FailWhy}
use Rattle.ws_suite.specs.declared.verdict.Verdict.TheVariants.{Fail}
use Rattle.ws_suite.specs.declared.evidence.InTurn.{InTurn}
use Rattle.ws_suite.specs.declared.evidence.Ending.{Ending}
use Rattle.ws_suite.specs.declared.evidence.Reply.{Reply}
use Rattle.ws_suite.specs.declared.evidence.Direction.{Direction}
use Rattle.ws_suite.specs.declared.evidence.Evidence.{Evidence}
use Rattle.ws_suite.specs.declared.evidence.marks.Marks.{Marks}
use Rattle.ws_suite.specs.Evidence.{by_turn, got_in, got_turns, other_role}
use Rattle.ws_suite.specs.AppFairness.{IsAppTranscript}
use Rattle.ws_suite.specs.Doom.{CountsAs}
use Rattle.ws_suite.specs.Marks.{CountsUndefinedCode, HasPongsCounted}
use Rattle.ws_suite.specs.Matching.{ends_with_fault}
use Rattle.ws_suite.specs.Protocol.{IsMarkedEvidenceOf, IsProtocolVerdictOf}
use Rattle.ws_suite.specs.InnerEchoReplyLaws.{EchoReplyLaws}
use Rattle.ws_suite.proofs.AppDirections.{got_direction, got_no_fault, got_shown, told}
use Rattle.ws_suite.proofs.AppVerdicts.{IsCountedOf, fails_nowhere}
use Rattle.ws_suite.proofs.OneVerdict.{one_direction}
use Rattle.ws_suite.proofs.TurnEnds.{last_ending}

-- no fault counts as a close where there is none
code_counts_none : (role : Role) (bytes : List ℕ) (shown counted : Option (InTurn Ending)) → ends_with_fault shown ≡ false → CountsUndefinedCode role bytes shown counted → counted ≡ shown
code_counts_none role bytes shown counted none (inl h) =
    absurd (both_ways (ends_with_fault shown) none (ap (λ (o : Option (InTurn Ending)). ends_with_fault o) h.2))
code_counts_none role bytes shown counted none (inr h) = h.1

module _ (laws : EchoReplyLaws) (tested : Role) (transcript : Transcript) (app : IsAppTranscript tested transcript) where
  module _ (counted : Evidence) (marks : Marks) (m : IsMarkedEvidenceOf tested transcript counted marks) where
    abbrev due : List (List Event)
    due = m.is_shown.due.events

    abbrev got : List (List Event)
    got = told tested transcript app

    shown_got : m.shown.got ≡ got_shown tested transcript app
    shown_got = one_direction laws.session (other_role tested) got_in (got_turns transcript.turns) m.shown.got (got_shown tested transcript app) m.is_shown.got (got_direction tested transcript app laws.frames)

    shown_no_fault : ends_with_fault m.shown.got.ending ≡ false
    shown_no_fault = ap (λ (d : Direction). ends_with_fault d.ending) shown_got ∙ got_no_fault tested transcript app laws

    closed_ending : m.closed.got.ending ≡ last_ending got
    closed_ending =
        code_counts_none (other_role tested) (concat (got_turns transcript.turns)) m.shown.got.ending m.closed.got.ending shown_no_fault m.is_closed.ending ∙ ap (λ (d : Direction). d.ending) shown_got

    abbrev p : HasPongsCounted tested transcript m.doomed counted
    p = m.is_counted

    counted_ending : counted.got.ending ≡ m.closed.got.ending
    counted_ending = ap (λ (y : Evidence). y.got.ending) p.is_counted ∙ ap (λ (d : Direction). d.ending) m.is_doomed.got

    counted_due : counted.due.ending ≡ m.doomed.due.ending
    counted_due = ap (λ (y : Evidence). y.due.ending) p.is_counted

    shown_replies : m.doomed.got.replies ≡ by_turn got_in 0 got
    shown_replies = ap (λ (d : Direction). d.replies) m.is_doomed.got ∙ (m.is_closed.replies ∙ ap (λ (d : Direction). d.replies) shown_got)

    pub is_counted_of : IsCountedOf tested transcript due got counted
    is_counted_of = record {
      dues = ap (λ (y : Evidence). y.due.replies) p.is_counted ∙ (m.is_doomed.replies ∙ (ap (λ (d : Direction). d.replies) m.is_closed.due ∙ m.is_shown.due.replies));
      pongs = p.pongs;
      gots = ap (λ (y : Evidence). y.got.replies) p.is_counted ∙ ap (λ (l : List (InTurn Reply)). l ++ p.pongs) shown_replies;
      ending = counted_ending ∙ closed_ending;
      no_rest = ap (λ (y : Evidence). y.got.has_rest) p.is_counted ∙ (ap (λ (d : Direction). d.has_rest) m.is_doomed.got ∙ (m.is_closed.has_rest ∙ ap (λ (d : Direction). d.has_rest) shown_got));
      counts = subst (λ (o : Option (InTurn Ending)). CountsAs tested transcript o (last_ending due) counted.due.ending) (sym counted_ending)
          (subst (λ (o : Option (InTurn Ending)). CountsAs tested transcript m.closed.got.ending o counted.due.ending) (ap (λ (d : Direction). d.ending) m.is_closed.due ∙ m.is_shown.due.ending)
          (subst (λ (o : Option (InTurn Ending)). CountsAs tested transcript m.closed.got.ending m.closed.due.ending o) (sym counted_due) m.is_doomed.ending));
      turns = ap (λ (y : Evidence). y.turns) p.is_counted ∙ (m.is_doomed.turns ∙ (m.is_closed.turns ∙ m.is_shown.turns));
      ended = ap (λ (y : Evidence). y.ended) p.is_counted ∙ (m.is_doomed.ended ∙ (m.is_closed.ended ∙ m.is_shown.ended));
    }

-- an application that keeps the protocol has no Fail
pub app_fails_nowhere : EchoReplyLaws → (tested : Role) (transcript : Transcript) (why : FailWhy) → IsAppTranscript tested transcript → IsProtocolVerdictOf tested transcript (Fail why) → ⊥
app_fails_nowhere laws tested transcript why app v =
    fails_nowhere laws tested transcript app v.is_evidence.is_shown.due.events v.is_evidence.is_shown.due.are_events v.counted
    (is_counted_of laws tested transcript app v.counted v.marks v.is_evidence) v.marks why v.is_verdict.wrong
