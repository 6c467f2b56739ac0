-- The names, computed.
use Rattle.std.specs.Prelude.{⊤, refl}
use Rattle.std.specs.Fmt.{digits}
use Rattle.ws_scripts.proofs.cases.opcodes.sections.Goals as goal

unfoldable on_numbers : ⊤
unfolding digits
on_numbers = tt

pub returns-clause-names : goal.returns-clause-names
unfolding on_numbers
returns-clause-names c = refl
