-- A machine that is told an event: what changes, how the run goes on, and that it still wants something.
use Rattle.std.proofs.Common.{◌≡◌, ◌∙◌, ℕ, zero, ◌<◌, ◌&&◌, ◌||◌, not, Bool, true, false, List, [], ◌∷◌, ◌++◌, length}
use Rattle.std.proofs.Common.{take, refl, sym, subst, arith, inl, inr}
use Rattle.std.specs.Prelude.{Some, is_some}
use Rattle.ws_wire.specs.declared.role.Role.{Role}
use Rattle.ws_machines.specs.Told.{Told, told_of}
use Rattle.ws_machines.specs.Machines.{HasNext, IsRunning, MayBeTold, told_at}
use Rattle.ws_machines.specs.declared.stream.StreamEvent.{StreamEvent}
use Rattle.ws_machines.specs.declared.stream.StreamEvent.TheVariants as event
use Rattle.ws_scripts.specs.declared.transcript.Ended.{Ended}
use Rattle.ws_scripts.specs.declared.transcript.Turn.{Turn}
use Rattle.ws_suite.specs.Growing.{HasGrown, turn_with_sent}
use Rattle.ws_tester.specs.Outgoings.{Pieces, after_first, first_piece}
use Rattle.ws_tester.specs.Outcomes.{AreFacts, by_deadline, by_silence, next_or_end, outcome_of, outcome_of_event}
use Rattle.ws_tester.specs.Outcomes.{unless_failed}
use Rattle.ws_tester.specs.RunStates.{RunState, has_more, is_all_sent, run_left, some_turn, turns_of_run, wanted_in}
use Rattle.ws_suite.specs.Progress.{NotesSent}
use Rattle.ws_tester.specs.RunStates.{with_anew, with_run_end, with_next_turn, with_taken, with_unanswered}
use Rattle.ws_tester.specs.Following.{Changes, LeadsOnBy, Happens, HearsTaken, ShowsTurns, Settles, TesterValue}
use Rattle.ws_tester.specs.Following.{WasTold}
use Rattle.ws_tester.specs.declared.outcome.Outcome.{Outcome}
use Rattle.ws_tester.specs.declared.outcome.Outcome.TheVariants.{Rests, Next, Ends}
use Rattle.ws_tester.specs.declared.outcome.TurnFacts.{TurnFacts}
use Rattle.ws_tester.proofs.EventLemmas.{goes, may_happen, piece_of}
use Rattle.ws_tester.proofs.FollowLemmas.{follows_more, settles_next}
use Rattle.ws_tester.proofs.MeasureLemmas.{happens_lowers}
use Rattle.ws_tester.proofs.OutcomeLemmas.{next_more}
use Rattle.ws_tester.proofs.ShownLemmas.{taken_shown}

-- ---- an event that decides that the run rests

rests_by_end : (more : Bool) → next_or_end more ≡ Rests → ⊥
rests_by_end true e = cc
rests_by_end false e = cc

unsent_by_silence : (sent failed more : Bool) → by_silence sent failed more ≡ Rests → sent ≡ false
unsent_by_silence false failed more e = refl
unsent_by_silence true true more e = absurd cc
unsent_by_silence true false more e = absurd (rests_by_end more e)

never_by_failure : (failed : Bool) (how : Ended) → unless_failed failed how ≡ Rests → ⊥
never_by_failure true how e = cc
never_by_failure false how e = cc

never_by_deadline : (waited : Bool) → by_deadline waited ≡ Rests → ⊥
never_by_deadline true e = cc
never_by_deadline false e = cc

some_is : (a b : Outcome) → Some a ≡ Some b → a ≡ b
some_is a b e = cc

-- then the turn isn't all sent
pub rests_unsent : (x : RunState) (bytes lines : List ℕ) (ev : StreamEvent) (outcome : Outcome)
    → Some outcome ≡ outcome_of_event x (told_of bytes lines ev) → outcome ≡ Rests → is_all_sent x ≡ false
rests_unsent x bytes lines (event.Came piece) outcome e r = absurd cc
rests_unsent x bytes lines event.Ended outcome e r = absurd (never_by_failure x.write_failed _
    (sym (some_is outcome _ e) ∙ r))
rests_unsent x bytes lines event.ReadFailed outcome e r = absurd cc
rests_unsent x bytes lines event.NothingCame outcome e r = unsent_by_silence (is_all_sent x) x.write_failed
    (has_more x && not x.closing) (sym (some_is outcome _ e) ∙ r)
rests_unsent x bytes lines (event.Taken count) outcome e r = absurd cc
rests_unsent x bytes lines event.WriteFailed outcome e r = absurd cc
rests_unsent x bytes lines event.DirectionEnded outcome e r = absurd cc
rests_unsent x bytes lines event.Reported outcome e r = absurd cc
rests_unsent x bytes lines (event.DeadlinePassed waited) outcome e r =
    absurd (never_by_deadline (waited || not x.plan.timeouts) (sym (some_is outcome _ e) ∙ r))

-- ---- an event that is told

module _ (old heard new : TesterValue) (ev : StreamEvent) (may : MayBeTold (wanted_in old.run) ev)
    (changes : ShowsTurns old → Changes (told_at (wanted_in old.run) ev) old.run heard.run × ShowsTurns heard)
    (goes_on : ShowsTurns heard → (bytes lines : List ℕ)
    → LeadsOnBy (outcome_of_event heard.run (told_of bytes lines ev)) heard.run new.run × ShowsTurns new) where
  happens : ShowsTurns old → Happens old.run (told_at (wanted_in old.run) ev) new.run × ShowsTurns new
  happens shown =
      let changed = changes shown in
      let on = goes_on changed.1 (wanted_in old.run).write (wanted_in old.run).report in (
        record {
          goes = goes old.run may.0;
          may = may_happen old.run ev may;
          heard = heard.run;
          changes = changed.0;
          goes_on = on.0;
        },
        on.1,
      )

  pub told_more : (start : TesterValue) (told : List Told) → WasTold start old told
      → WasTold start new (told ++ told_at (wanted_in old.run) ev ∷ [])
  told_more start told h =
      let happened = happens h.1 in
      (follows_more start.run old.run new.run told (told_at (wanted_in old.run) ev) h.0 happened.0, happened.1)

  pub told_nears : IsRunning WasTold old → run_left new.run < run_left old.run
  told_nears (start, told, h) = happens_lowers old.run new.run ev may (happens h.1).0

-- ---- bytes that are taken, and the table's outcomes

-- what is taken of what is wanted is taken of the piece that is next
pub taken_changes : (old new : TesterValue) (ev : StreamEvent) (count : ℕ) → ev ≡ event.Taken count
    → is_some old.run.ended ≡ false
    → new.run ≡ with_anew true (with_unanswered new.run.pings
    (with_taken (take count (first_piece old.run.outgoing.rest)) old.run))
    → new.standing ≡ old.standing → new.had_sent_end ≡ old.had_sent_end
    → ((tested : Role) (past : List Turn) (turn : Turn) → HasGrown tested (past ++ turn ∷ []) old.seen
    → HasGrown tested
    (past ++ turn_with_sent turn (take count (first_piece old.run.outgoing.rest)) ∷ []) new.seen)
    → ((tested : Role) (past : List Turn) (turn : Turn) → HasGrown tested (past ++ turn ∷ []) old.seen
    → NotesSent tested (past ++ turn ∷ []) (take count (first_piece old.run.outgoing.rest)) old.run.pings new.run.pings)
    → ShowsTurns old → Changes (told_at (wanted_in old.run) ev) old.run new.run × ShowsTurns new
taken_changes old new ev count e undone taken standing before grown noted shown = (
  subst (λ (x : StreamEvent). Changes (told_at (wanted_in old.run) x) old.run new.run) (sym e)
      (subst (λ (l : List ℕ). HearsTaken (take count l) old.run (with_taken (take count l) old.run) new.run)
      (sym (piece_of old.run (goes old.run undone)))
      (record {
        pings = new.run.pings;
        noted = noted old.run.plan.tested old.run.past old.run.turn shown.grown;
        is = taken;
      })),
  taken_shown old new (take count (first_piece old.run.outgoing.rest)) new.run.pings taken standing before
      (grown old.run.plan.tested old.run.past old.run.turn shown.grown) shown,
)

-- a run that rests has settled
pub rests_settled : (x : TesterValue) (facts : TurnFacts) (outcome : Outcome)
    → (ShowsTurns x → AreFacts x.run.plan x.run.past (turns_of_run x.run) facts) → outcome ≡ outcome_of x.run facts
    → outcome ≡ Rests → ShowsTurns x → Settles x.run x.run
rests_settled x facts outcome are o e shown =
    (zero, inl (record { facts = facts; are_facts = are shown; is = sym o ∙ e }, refl))

-- and so has one that ends
pub ends_settled : (x now : TesterValue) (facts : TurnFacts) (outcome : Outcome) (how : Ended)
    → (ShowsTurns x → AreFacts x.run.plan x.run.past (turns_of_run x.run) facts) → outcome ≡ outcome_of x.run facts
    → outcome ≡ Ends how → now.run ≡ with_run_end how x.run → ShowsTurns x → Settles x.run now.run
ends_settled x now facts outcome how are o e same shown =
    (zero, inr (how, record { facts = facts; are_facts = are shown; is = sym o ∙ e }, same))

-- a run goes on with its next turn
pub next_settled : (x next : TesterValue) (now : RunState) (facts : TurnFacts) (outcome : Outcome)
    → (ShowsTurns x → AreFacts x.run.plan x.run.past (turns_of_run x.run) facts) → outcome ≡ outcome_of x.run facts
    → outcome ≡ Next → next.run ≡ with_next_turn x.run → ShowsTurns x → Settles next.run now → Settles x.run now
next_settled x next now facts outcome are o e same shown rest = settles_next x.run now
    (record { facts = facts; are_facts = are shown; is = sym o ∙ e })
    (subst (λ (y : RunState). Settles y now) same rest)

-- a run that has ended is done
pub ended_next : (now : RunState) (x : RunState) (how : Ended) → now ≡ with_run_end how x → HasNext (wanted_in now)
ended_next now x how same = subst (λ (y : RunState). HasNext (wanted_in y)) (sym same) (inl refl)

-- one turn fewer is left
pub fewer_left : (x : RunState) (facts : TurnFacts) (outcome : Outcome) (next : RunState) → outcome ≡ outcome_of x facts
    → outcome ≡ Next → next ≡ with_next_turn x → length next.outgoing.later < length x.outgoing.later
fewer_left x facts outcome next o e same = subst (λ (y : RunState). length y.outgoing.later < length x.outgoing.later)
    (sym same) (fewer x.outgoing.later (next_more x facts (sym o ∙ e)))
  where
    fewer : (later : List Pieces) → some_turn later ≡ true → length (after_first later) < length later
    fewer [] more = absurd cc
    fewer (pieces ∷ turns) more = omega arith
