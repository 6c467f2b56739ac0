-- Inside the crate: pongs that are matched in step with those that are due. A reader may skip this file.
use Rattle.std.specs.Prelude.{◌≡◌, nat_lt, true, List, ◌∷◌}
use Rattle.ws_suite.specs.declared.evidence.InTurn.{InTurn}
use Rattle.ws_suite.specs.declared.evidence.Reply.{Reply}
use Rattle.ws_suite.specs.declared.judging.in_step.InStep.{InStep}
use Rattle.ws_suite.specs.Matching.{has_payload_of}

-- the first pong that was got has the payload of the first that is due, and both are passed
pub record IsStepOf (due got : List (InTurn Reply)) (step : InStep) : Type 0 where
  pub first : InTurn Reply
  pub pong : InTurn Reply
  pub of_due : due ≡ first ∷ step.due
  pub of_got : got ≡ pong ∷ step.got
  pub same : has_payload_of pong first ≡ true
  pub early : step.is_early ≡ nat_lt pong.turn first.turn
