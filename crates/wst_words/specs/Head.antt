-- The command `head`: its arguments, and what they give.
use Rattle.std.specs.Prelude.{List, [], ◌∷◌, codes}
use Rattle.clap.specs.Words.{Row}
use Rattle.wst_words.specs.Arguments.{argument}
use Rattle.wst_words.specs.Commands.{CommandRow}
use Rattle.wst_words.specs.declared.arguments.ArgumentKind.TheVariants.{Word}
use Rattle.wst_words.specs.Options.{GivesProtocols}
use Rattle.wst_words.specs.declared.head.HeadOptions.{HeadOptions}

-- its arguments
abbrev pub head_command : CommandRow
head_command = record {
  name = codes "head";
  arguments = argument (codes "protocols") Word ∷ [];
}

-- the words give these
abbrev pub AsksForHead : List Row → HeadOptions → Type 0
AsksForHead rows options = GivesProtocols rows options.protocols
