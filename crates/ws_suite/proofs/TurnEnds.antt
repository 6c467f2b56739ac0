-- How events that came turn by turn end: nowhere, or with the one close or fault, in its turn.
use Rattle.std.proofs.Common.{◌≡◌, ◌∙◌, ℕ, ◌+◌, ◌<◌, ◌≤◌, ◌⊎◌, Bool, true, false, if◌then◌else◌, List, [], ◌∷◌, ◌++◌, length, map, take}
use Rattle.std.proofs.Common.{flat_map, Option, Some, None, ap, ap₂, sym, refl, subst, arith, inl, inr}
use Rattle.std.proofs.lemmas.Grind.{flat_map-append}
use Rattle.std.proofs.lemmas.List.{map-append, take_all}
use Rattle.std.specs.List.{concat, last_or}
use Rattle.ws_wire.specs.declared.role.Role.{Role}
use Rattle.ws_session.specs.declared.event.Event.{Event}
use Rattle.ws_session.specs.Events.{HasEvents}
use Rattle.ws_session.specs.Sends.{most_limits}
use Rattle.ws_suite.specs.declared.evidence.InTurn.{InTurn}
use Rattle.ws_suite.specs.declared.evidence.Ending.{Ending}
use Rattle.ws_suite.specs.Evidence.{AreEventsByTurn, by_turn, ending_in, joined_events}
use Rattle.ws_suite.specs.AppFairness.{go_on}
use Rattle.ws_suite.specs.InnerCollecting.{at_turn}
use Rattle.ws_suite.specs.InnerEchoReplyLaws.{EchoReplyLaws}
use Rattle.ws_suite.proofs.AnsweredEvents.{OnlyLastEnds, has_end, over_by_end}
use Rattle.ws_suite.proofs.AnsweredTurns.{ends_nowhere, ends_somewhere}
use Rattle.ws_suite.proofs.TurnsAdded.{only_by}

-- ---- what is found, without its turn

bare_turn : {X : Type 0} (turn : ℕ) (xs : List X) → map (λ (x : InTurn X). x.what) (at_turn turn xs) ≡ xs
bare_turn turn [] = refl
bare_turn {X} turn (x ∷ xs) = ap (λ (l : List X). x ∷ l) (bare_turn turn xs)

pub bare_turns : {X : Type 0} (found : Event → List X) (turn : ℕ) (turns : List (List Event)) → map (λ (x : InTurn X). x.what) (by_turn found turn turns) ≡ flat_map found (joined_events turns)
bare_turns found turn [] = refl
bare_turns {X} found turn (events ∷ turns) =
    map-append (λ (x : InTurn X). x.what) (at_turn turn (flat_map found events)) (by_turn found (turn + 1) turns)
    ∙ (ap₂ (λ (a b : List X). a ++ b) (bare_turn turn (flat_map found events)) (bare_turns found (turn + 1) turns)
    ∙ sym (flat_map-append found events (joined_events turns)))

-- ---- the end

-- no turn ends them
pub record EndsNowhere (turns : List (List Event)) (ending : Option (InTurn Ending)) : Type 0 where
  pub none : has_end (joined_events turns) ≡ false
  pub is : ending ≡ None

-- this turn does, and none before it
pub record EndsInTurn (turns : List (List Event)) (ending : Option (InTurn Ending)) : Type 0 where
  pub turn : ℕ
  pub what : Ending
  pub is : ending ≡ Some (record { turn = turn; what = what })
  pub there : turn < length turns
  pub before : has_end (joined_events (take turn turns)) ≡ false
  pub by_then : has_end (joined_events (take (turn + 1) turns)) ≡ true
  pub some : has_end (joined_events turns) ≡ true
  pub alone : flat_map ending_in (joined_events turns) ≡ what ∷ []

abbrev pub last_ending : List (List Event) → Option (InTurn Ending)
last_ending turns = last_or None (by_turn ending_in 0 turns)

pub ends_or_not : (turns : List (List Event)) → OnlyLastEnds (joined_events turns) → EndsNowhere turns (last_ending turns) ⊎ EndsInTurn turns (last_ending turns)
ends_or_not turns only = pick (has_end (joined_events turns)) refl
  where
    pick : (b : Bool) → has_end (joined_events turns) ≡ b → EndsNowhere turns (last_ending turns) ⊎ EndsInTurn turns (last_ending turns)
    pick false e = inl (record { none = e; is = ap (λ (l : List (InTurn Ending)). last_or None l) (ends_nowhere 0 turns e) })
    pick true e =
        let at = ends_somewhere 0 turns only e in
        inr (record {
          turn = at.later;
          what = at.ending;
          is = ap (λ (l : List (InTurn Ending)). last_or None l) at.found ∙ ap (λ (n : ℕ). Some (record { turn = n; what = at.ending })) (let e : 0 + at.later ≡ at.later = omega arith in e);
          there = at.there;
          before = at.before;
          by_then = at.by_then;
          some = e;
          alone = sym (bare_turns ending_in 0 turns) ∙ ap (λ (l : List (InTurn Ending)). map (λ (x : InTurn Ending). x.what) l) at.found;
        })

-- ---- a session is over at an end

pub goes_on_by : (events : List Event) (b : Bool) → OnlyLastEnds events → has_end events ≡ b → go_on events ≡ (if b then false else true)
goes_on_by events b only e = ap (λ c. if c then false else true) (over_by_end [] events only ∙ e)

-- ---- all turns

pub all_by_turn : (role : Role) (turns : List (List ℕ)) (events : List (List Event)) → AreEventsByTurn role turns events → HasEvents role most_limits (concat turns) (joined_events events)
all_by_turn role turns events are =
    subst (λ (l : List (List ℕ)). HasEvents role most_limits (concat l) (joined_events events)) (take_all (length turns) turns (omega arith))
    (subst (λ (l : List (List Event)). HasEvents role most_limits (concat (take (length turns) turns)) (joined_events l)) (take_all (length turns) events (omega (arith, are.each)))
    (are.so_far (length turns) (omega arith)))

pub only_last_ends : EchoReplyLaws → (role : Role) (turns : List (List ℕ)) (events : List (List Event)) → AreEventsByTurn role turns events → OnlyLastEnds (joined_events events)
only_last_ends laws role turns events are = only_by laws role (concat turns) [] (joined_events events) (all_by_turn role turns events are)

pub only_last_so_far : EchoReplyLaws → (role : Role) (turns : List (List ℕ)) (events : List (List Event)) (n : ℕ) → n ≤ length turns → AreEventsByTurn role turns events
    → OnlyLastEnds (joined_events (take n events))
only_last_so_far laws role turns events n less are = only_by laws role (concat (take n turns)) [] (joined_events (take n events)) (are.so_far n less)
