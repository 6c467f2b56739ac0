-- The command `send`: its arguments, and what they give.
use Rattle.std.specs.Prelude.{◌≡◌, List, [], ◌∷◌, ◌++◌, Some, codes}
use Rattle.clap.specs.Words.{Row, Text, first_of}
use Rattle.wst_words.specs.Arguments.{argument, argument_or}
use Rattle.wst_words.specs.Commands.{CommandRow}
use Rattle.wst_words.specs.declared.arguments.ArgumentKind.TheVariants.{Flag, Style, Word}
use Rattle.wst_words.specs.Options.{GivesFlag, GivesStyle}
use Rattle.wst_words.specs.RunOptions.{AsksForRun, run_arguments}
use Rattle.wst_words.specs.declared.send.SendOptions.{SendOptions}

-- its arguments
abbrev pub send_command : CommandRow
send_command = record {
  name = codes "send";
  arguments = run_arguments (argument_or (codes "timeout") Word (codes "2")) ++ argument (codes "capture") Flag
      ∷ argument_or (codes "data") Style (codes "hex") ∷ argument (codes "time") Flag
      ∷ argument (codes "heads") Flag ∷ [];
}

-- the words give these, and how long is waited for
abbrev pub AsksToSend : List Row → SendOptions → Type 0
AsksToSend rows options = AsksForRun rows options.run × GivesFlag rows (codes "capture") options.capture
    × GivesStyle rows (codes "data") options.style × GivesFlag rows (codes "time") options.time
    × GivesFlag rows (codes "heads") options.heads
    × ((seconds : Text) × (first_of (codes "timeout") rows ≡ Some seconds))
