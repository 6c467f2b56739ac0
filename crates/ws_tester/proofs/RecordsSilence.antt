-- Where nothing came in time for a turn that is all sent, the next one begins, or the run ends.
use Rattle.std.proofs.Common.{◌≡◌, ◌∙◌, ℕ, ◌⊎◌, ◌&&◌, not, Bool, true, false, List, [], ◌∷◌, ◌++◌, refl, sym, ap, subst}
use Rattle.std.proofs.Common.{inl, inr, append_assoc, append-nil}
use Rattle.std.specs.Prelude.{Option, None, Some, zero, suc}
use Rattle.ws_scripts.specs.declared.transcript.Ended.TheVariants.{Tester, Broken}
use Rattle.ws_scripts.specs.declared.transcript.Turn.{Turn}
use Rattle.ws_suite.specs.Growing.{new_turn}
use Rattle.ws_machines.specs.Told.{Told}
use Rattle.ws_machines.specs.Told.Told.{NothingCame}
use Rattle.ws_tester.specs.Outcomes.{by_silence, outcome_of_event}
use Rattle.ws_tester.specs.RunStates.{RunState, has_more, is_all_sent, turns_of_run, with_next_turn}
use Rattle.ws_tester.specs.Following.{Follows, Happens, LeadsOnBy, Obeys, Settles, SettlesIn}
use Rattle.ws_tester.specs.Records.{AreTurnsSoFar}
use Rattle.ws_tester.specs.declared.outcome.Outcome.{Outcome}
use Rattle.ws_tester.specs.declared.outcome.Outcome.TheVariants.{Rests, Next, Ends}
use Rattle.ws_tester.proofs.RecordsLast.{none_ended}
use Rattle.ws_tester.proofs.RecordsWaiting.{event_goes, so_far_grown, so_far_more, so_far_now}

-- ---- turns only come behind others

abbrev HasMoreTurns : RunState → RunState → Type 0
HasMoreTurns x now = (more : List Turn) × (turns_of_run now ≡ turns_of_run x ++ more)

no_more_turns : (x now : RunState) → turns_of_run now ≡ turns_of_run x → HasMoreTurns x now
no_more_turns x now same = ([], same ∙ sym (append-nil (turns_of_run x)))

settled_turns_in : (n : ℕ) (x now : RunState) → SettlesIn n x now → HasMoreTurns x now
settled_turns_in zero x now (inl (o, same)) = no_more_turns x now (ap (λ (y : RunState). turns_of_run y) same)
settled_turns_in zero x now (inr (how, o, same)) = no_more_turns x now (ap (λ (y : RunState). turns_of_run y) same)
settled_turns_in (suc n) x now (o, rest) =
    let more = settled_turns_in n (with_next_turn x) now rest in
    (new_turn ∷ more.0, more.1 ∙ append_assoc (turns_of_run x) (new_turn ∷ []) more.0)

settled_turns : (x now : RunState) → Settles x now → HasMoreTurns x now
settled_turns x now (n, s) = settled_turns_in n x now s

leads_turns : (by : Option Outcome) (x now : RunState) → LeadsOnBy by x now → HasMoreTurns x now
leads_turns None x now on = settled_turns x now on
leads_turns (Some Rests) x now same = no_more_turns x now (ap (λ (y : RunState). turns_of_run y) same)
leads_turns (Some Next) x now on =
    let more = settled_turns (with_next_turn x) now on in
    (new_turn ∷ more.0, more.1 ∙ append_assoc (turns_of_run x) (new_turn ∷ []) more.0)
leads_turns (Some (Ends how)) x now same = no_more_turns x now (ap (λ (y : RunState). turns_of_run y) same)

module _ (past : List Turn) (turn : Turn) where
  pub so_far_event : (old new : RunState) (event : Told) → Happens old event new
      → AreTurnsSoFar past turn (turns_of_run old) → AreTurnsSoFar past turn (turns_of_run new)
  so_far_event old new event happens far =
      let goes = event_goes event old happens.heard happens.changes in
      let heard : AreTurnsSoFar past turn (turns_of_run happens.heard) =
      subst (λ (l : List Turn). AreTurnsSoFar past turn (l ++ happens.heard.turn ∷ [])) (sym goes.0)
      (so_far_grown past old.past turn old.turn happens.heard.turn goes.1 far) in
      let more = leads_turns (outcome_of_event happens.heard event) happens.heard new happens.goes_on in
      subst (λ (l : List Turn). AreTurnsSoFar past turn l) (sym more.1)
      (so_far_more past (turns_of_run happens.heard) more.0 turn heard)

  pub so_far_follows : (start now : RunState) (told : List Told) → Follows start now told
      → AreTurnsSoFar past turn (turns_of_run start) → AreTurnsSoFar past turn (turns_of_run now)
  so_far_follows start now [] same far =
      subst (λ (y : RunState). AreTurnsSoFar past turn (turns_of_run y)) (sym same) far
  so_far_follows start now (event ∷ told) (next, happens, rest) far =
      so_far_follows next now told rest (so_far_event start next event happens far)

-- ---- one event of all

-- the states before and after it
pub record IsAt (start now : RunState) (before after : List Told) (event : Told) : Type 0 where
  pub old : RunState
  pub new : RunState
  pub told : Follows start old before
  pub happens : Happens old event new
  pub rest : Follows new now after

pub at_event : (start now : RunState) (before after : List Told) (event : Told)
    → Follows start now (before ++ event ∷ after) → IsAt start now before after event
at_event start now [] after event (next, happens, rest) = record {
  old = start;
  new = next;
  told = refl;
  happens = happens;
  rest = rest;
}
at_event start now (first ∷ before) after event (next, happens, rest) =
    let at : IsAt next now before after event = at_event next now before after event rest in record {
      old = at.old;
      new = at.new;
      told = (next, happens, at.told);
      happens = at.happens;
      rest = at.rest;
    }

-- ---- nothing came

abbrev IsOverBy : RunState → RunState → Type 0
IsOverBy x now = AreTurnsSoFar (turns_of_run x) new_turn (turns_of_run now) ⊎ (now.ended ≡ None → ⊥)

over_by : (sent failed more : Bool) (x now : RunState) → sent ≡ true → Obeys (by_silence sent failed more) x now
    → IsOverBy x now
over_by false failed more x now e on = absurd cc
over_by true true more x now e on = inr (λ goes. none_ended Broken x now on goes)
over_by true false false x now e on = inr (λ goes. none_ended Tester x now on goes)
over_by true false true x now e on =
    let more = settled_turns (with_next_turn x) now on in
    inl (subst (λ (l : List Turn). AreTurnsSoFar (turns_of_run x) new_turn l) (sym more.1)
    (so_far_more (turns_of_run x) (turns_of_run (with_next_turn x)) more.0 new_turn
    (so_far_now (turns_of_run x) new_turn)))

pub silence_over : (old new : RunState) → Happens old NothingCame new → is_all_sent old ≡ true
    → AreTurnsSoFar (turns_of_run old) new_turn (turns_of_run new) ⊎ (new.ended ≡ None → ⊥)
silence_over old new happens sent =
    let heard = happens.heard in
    subst (λ (l : List Turn). AreTurnsSoFar l new_turn (turns_of_run new) ⊎ (new.ended ≡ None → ⊥))
    (ap (λ (y : RunState). turns_of_run y) happens.changes)
    (over_by (is_all_sent heard) heard.write_failed (has_more heard && not heard.closing) heard new
    (ap (λ (y : RunState). is_all_sent y) happens.changes ∙ sent) happens.goes_on)
