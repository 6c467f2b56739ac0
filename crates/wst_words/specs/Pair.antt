-- The command `pair`: its arguments, and what they give.
use Rattle.std.specs.Prelude.{List, [], ◌∷◌, codes}
use Rattle.clap.specs.Words.{Row}
use Rattle.wst_words.specs.Arguments.{argument, argument_or}
use Rattle.wst_words.specs.Commands.{CommandRow}
use Rattle.wst_words.specs.declared.arguments.ArgumentKind.TheVariants.{Number}
use Rattle.wst_words.specs.Options.{GivesNumber, GivesNumberOr}
use Rattle.wst_words.specs.declared.pair.PairOptions.{PairOptions}

-- its arguments
abbrev pub pair_command : CommandRow
pair_command = record {
  name = codes "pair";
  arguments = argument_or (codes "limit-client") Number (codes "1048576")
      ∷ argument_or (codes "limit-server") Number (codes "1048576")
      ∷ argument (codes "frame-client") Number
      ∷ argument (codes "frame-server") Number ∷ [];
}

-- the options give these; a limit on frames that is left out is that on messages
abbrev pub AsksToPair : List Row → PairOptions → Type 0
AsksToPair rows options =
    GivesNumber rows (codes "limit-client") options.limit_client
    × GivesNumber rows (codes "limit-server") options.limit_server
    × GivesNumberOr options.limit_client rows (codes "frame-client") options.frame_client
    × GivesNumberOr options.limit_server rows (codes "frame-server") options.frame_server
