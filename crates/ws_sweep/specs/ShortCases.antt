-- The case of a short script: its steps, and a close behind them where what they send has neither a close nor a fault.
use Rattle.std.specs.Prelude.{◌≡◌, ◌⊎◌, ℕ, ⊤, List, [], ◌∷◌, ◌++◌, Option, Some, None, flat_map, map}
use Rattle.ws_wire.specs.declared.role.Role.{Role}
use Rattle.ws_session.specs.declared.event.Event.{Event}
use Rattle.ws_session.specs.declared.event.Event.TheVariants as event
use Rattle.ws_session.specs.Events.{HasEvents}
use Rattle.ws_session.specs.Exchange.{last_event}
use Rattle.ws_session.specs.Sends.{most_limits}
use Rattle.ws_scripts.specs.declared.expectation.Expectation.{Expectation}
use Rattle.ws_scripts.specs.declared.expectation.Expectation.TheVariants.{Echo, Protocol}
use Rattle.ws_scripts.specs.declared.script.Case.{Case}
use Rattle.ws_scripts.specs.declared.script.Chop.TheVariants.{Whole}
use Rattle.ws_scripts.specs.declared.script.Step.{Step}
use Rattle.ws_scripts.specs.declared.script.Step.TheVariants.{Wait}
use Rattle.ws_scripts.specs.Scripts.{turn_bytes, turns_of}
use Rattle.ws_sweep.specs.Alphabet.{step_at, whole}

-- ---- what steps send

-- all that they send, their frames masked with the key if there is one
abbrev pub bytes_sent : List Step → Option (List ℕ) → List ℕ
bytes_sent steps key = flat_map (turn_bytes key) (turns_of steps)

-- a close or a fault
abbrev pub IsCloseOrFault : Option Event → Type 0
IsCloseOrFault None = ⊥
IsCloseOrFault (Some event.Part) = ⊥
IsCloseOrFault (Some (event.Message message)) = ⊥
IsCloseOrFault (Some (event.Ping payload)) = ⊥
IsCloseOrFault (Some (event.Pong payload)) = ⊥
IsCloseOrFault (Some (event.Close close)) = ⊤
IsCloseOrFault (Some (event.Failed reason)) = ⊤

-- The bytes hold a close or a fault for an end of this role that takes the largest messages: it is the last of their
-- events.
pub record HasEnd (tested : Role) (bytes : List ℕ) : Type 0 where
  pub events : List Event
  pub are_events : HasEvents tested most_limits bytes events
  pub ends : IsCloseOrFault (last_event events)

-- ---- the case

-- its steps, in their order
abbrev pub short_steps : Role → List ℕ → List Step
short_steps tested places = map (λ place. (step_at tested place).step) places

-- a close frame with code 1000
abbrev pub close_step : Step
close_step = whole 8 (0x03 ∷ 0xe8 ∷ [])

-- what stands behind steps that send neither a close nor a fault: a close; and of an end that needn't echo a wait
-- before that, since a ping in the turn of the close asks for no pong (section 5.5.2)
abbrev pub end_steps : Expectation → List Step
end_steps Echo = close_step ∷ []
end_steps Protocol = Wait ∷ close_step ∷ []

-- the steps alone, where what they send holds a close or a fault; else with that behind them
abbrev pub AreCaseSteps : Role → Expectation → Option (List ℕ) → List ℕ → List Step → Type 0
AreCaseSteps tested expected key places steps =
    (HasEnd tested (bytes_sent (short_steps tested places) key) × (steps ≡ short_steps tested places))
    ⊎ ((¬ (HasEnd tested (bytes_sent (short_steps tested places) key)))
    × (steps ≡ short_steps tested places ++ end_steps expected))

-- the case of the script for a tested end of this role, under this key or none: its turns are sent whole
pub record IsShortCase (tested : Role) (expected : Expectation) (key : Option (List ℕ)) (places : List ℕ) (case : Case)
    : Type 0 where
  pub steps : AreCaseSteps tested expected key places case.steps
  pub whole : case.chop ≡ Whole

-- ---- one case after the other

-- the role of the tested ends, what is expected of them, and the key for which cases are made
pub record CaseRules : Type 0 where
  pub tested : Role
  pub expected : Expectation
  pub key : Option (List ℕ)
