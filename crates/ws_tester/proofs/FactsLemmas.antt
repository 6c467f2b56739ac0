-- What is asked of the turns so far, by the evidence that has grown with them.
use Rattle.std.proofs.Common.{◌≡◌, ◌∙◌, ◌↔◌, Bool, true, false, if◌then◌else◌, List, Option, refl, sym, ap, subst}
use Rattle.std.specs.Prelude.{None, Some}
use Rattle.ws_wire.specs.declared.role.Role.{Role}
use Rattle.ws_wire.specs.Frame.{Frame}
use Rattle.ws_session.specs.declared.event.Event.{Event}
use Rattle.ws_session.specs.declared.event.Event.TheVariants as event
use Rattle.ws_session.specs.declared.status.Status.{Status}
use Rattle.ws_session.specs.declared.status.Status.TheVariants as status
use Rattle.ws_session.specs.Exchange.{is_over, last_event, status_after}
use Rattle.ws_session.specs.Replies.{has_close}
use Rattle.ws_scripts.specs.declared.transcript.Turn.{Turn}
use Rattle.ws_suite.specs.Evidence.{other_role}
use Rattle.ws_suite.specs.Growing.{EndInsideFrame, GrowingValue, HasGrown, CannotComeAfter}
use Rattle.ws_suite.specs.Waiting.{AreTurnsAnsweredBy, AreTurnsSeenAnswered}
use Rattle.ws_tester.specs.Standings.{HearsAll, HasStanding, StandsAs, standing_of_status}
use Rattle.ws_tester.specs.Outcomes.{AreFacts, HasSentEnd, got_in_all, sent_in_all, has_end}
use Rattle.ws_tester.specs.RunStates.{turns_of_run}
use Rattle.ws_tester.specs.Following.{ShowsTurns, TesterValue}
use Rattle.ws_tester.specs.declared.outcome.TurnFacts.{TurnFacts}
use Rattle.ws_tester.specs.declared.standing.Standing.{Standing}
use Rattle.ws_tester.proofs.StandingLemmas.{heard_stands}

-- ---- whether a session that hears a stream to no end is over

before_end : (closing : Bool) → is_over (if closing then status.Closing else status.Open)
    ≡ has_end (standing_of_status (if closing then status.Closing else status.Open))
before_end true = refl
before_end false = refl

over_at : (sent : List Frame) (last : Option Event)
    → is_over (status_after sent false last) ≡ has_end (standing_of_status (status_after sent false last))
over_at sent None = before_end (has_close sent)
over_at sent (Some event.Part) = before_end (has_close sent)
over_at sent (Some (event.Message message)) = before_end (has_close sent)
over_at sent (Some (event.Ping payload)) = before_end (has_close sent)
over_at sent (Some (event.Pong payload)) = before_end (has_close sent)
over_at sent (Some (event.Close close)) = refl
over_at sent (Some (event.Failed reason)) = refl

module _ (tested : Role) (turns : List Turn) (seen : GrowingValue)
    (grown : HasGrown tested turns seen) where
  -- how what was got stands, as it shows
  pub got_shown : HasStanding (other_role tested) (standing_of_status seen.tester.status) (got_in_all turns)
  got_shown = heard_stands (other_role tested) seen.tester (got_in_all turns) (record {
    role = grown.got.same_role;
    limits = grown.got.limits;
    sent = grown.got.sent;
    exchanged = grown.got.exchanged;
  })

  sent_heard : HearsAll tested seen.tested (sent_in_all turns)
  sent_heard = record {
    role = grown.due.same_role;
    limits = grown.due.limits;
    sent = grown.due.sent;
    exchanged = grown.due.exchanged;
  }

  -- whether what was sent has a close or a fault
  pub sent_end : HasSentEnd tested turns (is_over seen.tested.status)
  sent_end = (
    standing_of_status seen.tested.status,
    heard_stands tested seen.tested (sent_in_all turns) sent_heard,
    ap (λ (s : Status). is_over s) grown.due.exchanged.status
        ∙ (over_at grown.due.sent (last_event grown.due.exchanged.events)
        ∙ sym (ap (λ (s : Status). has_end (standing_of_status s)) grown.due.exchanged.status)),
  )

-- what the evidence tells is so
pub facts_are : (x v : TesterValue) → x ≡ v → (facts : TurnFacts) → facts.standing ≡ x.standing
    → facts.has_sent_end ≡ is_over x.seen.tested.status → facts.had_sent_end ≡ x.had_sent_end
    → ((tested : Role) (turns : List Turn) → HasGrown tested turns x.seen
    → facts.is_answered ≡ true → AreTurnsAnsweredBy x.run.plan.expected tested turns)
    → ((tested : Role) (turns : List Turn) → HasGrown tested turns x.seen
    → AreTurnsSeenAnswered x.run.plan.expected tested turns → facts.is_answered ≡ true)
    → ((tested : Role) (turns : List Turn) → HasGrown tested turns x.seen
    → (facts.is_inside ≡ true) ↔ EndInsideFrame tested turns)
    → ((tested : Role) (turns : List Turn) → HasGrown tested turns x.seen
    → (facts.cannot_come ≡ true) ↔ CannotComeAfter tested turns)
    → ShowsTurns v → AreFacts v.run.plan v.run.past (turns_of_run v.run) facts
facts_are x v same facts stands sent before come seen inside cannot shown =
    subst (λ (y : TesterValue). AreFacts y.run.plan y.run.past (turns_of_run y.run) facts) same (record {
      standing = subst (λ (s : Standing). StandsAs x.run.plan.tested x.run.plan.expected s (got_in_all (turns_of_run x.run)))
          (sym stands) h.stands;
      sent_end = subst (λ (b : Bool). HasSentEnd x.run.plan.tested (turns_of_run x.run) b) (sym sent)
          (sent_end x.run.plan.tested (turns_of_run x.run) x.seen h.grown);
      sent_before = subst (λ (b : Bool). HasSentEnd x.run.plan.tested x.run.past b) (sym before) h.before;
      come = come x.run.plan.tested (turns_of_run x.run) h.grown;
      seen = seen x.run.plan.tested (turns_of_run x.run) h.grown;
      inside = inside x.run.plan.tested (turns_of_run x.run) h.grown;
      cannot = cannot x.run.plan.tested (turns_of_run x.run) h.grown;
    })
  where
    h : ShowsTurns x
    h = subst (λ (y : TesterValue). ShowsTurns y) (sym same) shown
