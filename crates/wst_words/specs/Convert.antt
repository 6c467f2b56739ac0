-- The command `convert`: its arguments, and what they give.
use Rattle.std.specs.Prelude.{List, [], ◌∷◌, codes}
use Rattle.clap.specs.Words.{Row}
use Rattle.wst_words.specs.Arguments.{argument}
use Rattle.wst_words.specs.Commands.{CommandRow}
use Rattle.wst_words.specs.declared.arguments.ArgumentKind.TheVariants.{End, Word}
use Rattle.wst_words.specs.Options.{GivesEndIfAny, GivesWord}
use Rattle.wst_words.specs.declared.convert.ConvertOptions.{ConvertOptions}

-- its arguments
abbrev pub convert_command : CommandRow
convert_command = record {
  name = codes "convert";
  arguments = argument (codes "from") Word ∷ argument (codes "role") End ∷ [];
}

-- the options give these
abbrev pub AsksToConvert : List Row → ConvertOptions → Type 0
AsksToConvert rows options = GivesWord rows (codes "from") options.from
    × GivesEndIfAny rows (codes "role") options.role
