-- Both are computed.
use Rattle.std.specs.Prelude.{⊤, refl}
use Rattle.std.specs.Fmt.{digits}
use Rattle.ws_titles.proofs.laws.each_case_has_a_title.Goals as goal

unfoldable on_numbers : ⊤
unfolding digits
on_numbers = tt

pub returns-clause-named : goal.returns-clause-named
unfolding on_numbers
returns-clause-named c = refl

pub returns-clause-short : goal.returns-clause-short
returns-clause-short c = refl
