-- The command `cases`: its arguments, and what they give.
use Rattle.std.specs.Prelude.{List, [], ◌∷◌, codes}
use Rattle.clap.specs.Words.{Row}
use Rattle.wst_words.specs.Arguments.{argument}
use Rattle.wst_words.specs.Commands.{CommandRow}
use Rattle.wst_words.specs.declared.arguments.ArgumentKind.TheVariants.{Flag, FreeWord}
use Rattle.wst_words.specs.Options.{GivesFlag, GivesWord}
use Rattle.wst_words.specs.declared.cases.CasesOptions.{CasesOptions}

-- its arguments
abbrev pub cases_command : CommandRow
cases_command = record {
  name = codes "cases";
  arguments = argument (codes "titles") Flag ∷ argument (codes "id") FreeWord ∷ [];
}

-- the words ask for titles, or not, and give this name, or none
abbrev pub AsksForCases : List Row → CasesOptions → Type 0
AsksForCases rows options = GivesFlag rows (codes "titles") options.titles × GivesWord rows (codes "id") options.id
