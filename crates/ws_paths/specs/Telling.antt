-- The script of a connection that runs no case (RFC 6455 sections 5.6 and 5.5.1).
use Rattle.std.specs.Prelude.{◌≡◌, true, List, [], ◌∷◌, Option, Some, None, String, string_bytes}
use Rattle.std.specs.declared.alloc.Global.{Global}
use Rattle.ws_scripts.specs.declared.script.Case.{Case}
use Rattle.ws_scripts.specs.declared.script.Chop.TheVariants.{Whole}
use Rattle.ws_scripts.specs.declared.script.Step.{Step}
use Rattle.ws_scripts.specs.declared.script.Step.TheVariants.{Frame}

-- a close frame with code 1000 alone
abbrev pub normal_close : Step
normal_close = Frame true 0 8 (3 ∷ 232 ∷ [])

-- a message with the text, if there is one, and the close frame, in one turn
abbrev pub told_steps : Option (String Global) → List Step
told_steps None = normal_close ∷ []
told_steps (Some text) = Frame true 0 1 (string_bytes text) ∷ normal_close ∷ []

-- the script tells the text so, in one piece
abbrev pub IsToldBy : Option (String Global) → Case → Type 0
IsToldBy text script = (script.steps ≡ told_steps text) × (script.chop ≡ Whole)
