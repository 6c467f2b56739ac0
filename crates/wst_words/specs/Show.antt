-- The command `show`: its arguments, and what they give.
use Rattle.std.specs.Prelude.{List, [], ◌∷◌, codes}
use Rattle.clap.specs.Words.{Row}
use Rattle.wst_words.specs.Arguments.{argument, argument_or}
use Rattle.wst_words.specs.Commands.{CommandRow}
use Rattle.wst_words.specs.declared.arguments.ArgumentKind.TheVariants.{End, Flag, Number, Style}
use Rattle.wst_words.specs.Options.{GivesEndIfAny, GivesFlag, GivesNumberIfAny, GivesStyle}
use Rattle.wst_words.specs.declared.show.ShowOptions.{ShowOptions}

-- its arguments
abbrev pub show_command : CommandRow
show_command = record {
  name = codes "show";
  arguments = argument (codes "from") End ∷ argument (codes "budget") Number ∷ argument (codes "capture") Flag
      ∷ argument (codes "role") End ∷ argument_or (codes "data") Style (codes "hex") ∷ [];
}

-- the options give these
abbrev pub AsksToShow : List Row → ShowOptions → Type 0
AsksToShow rows options = GivesEndIfAny rows (codes "from") options.from
    × GivesNumberIfAny rows (codes "budget") options.budget × GivesFlag rows (codes "capture") options.capture
    × GivesEndIfAny rows (codes "role") options.role × GivesStyle rows (codes "data") options.style
