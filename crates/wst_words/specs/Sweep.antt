-- The command `sweep`: its arguments, and what they give.
use Rattle.std.specs.Prelude.{List, [], ◌∷◌, ◌++◌, codes}
use Rattle.clap.specs.Words.{Row}
use Rattle.wst_words.specs.Arguments.{argument, argument_or}
use Rattle.wst_words.specs.Commands.{CommandRow}
use Rattle.wst_words.specs.declared.arguments.ArgumentKind.TheVariants.{Flag, Number, Word}
use Rattle.wst_words.specs.Options.{GivesFlag, GivesNumber, GivesWord}
use Rattle.wst_words.specs.RunOptions.{AsksForRun, run_arguments_without_timeout}
use Rattle.wst_words.specs.declared.sweep.SweepOptions.{SweepOptions}

-- its arguments
abbrev pub sweep_command : CommandRow
sweep_command = record {
  name = codes "sweep";
  arguments = run_arguments_without_timeout
      ++ argument (codes "max-fail") Word
      ∷ argument (codes "at-once") Word
      ∷ argument_or (codes "steps") Number (codes "2")
      ∷ argument (codes "all") Flag
      ∷ argument (codes "progress") Flag ∷ [];
}

-- the words give these
pub record AsksToSweep (rows : List Row) (options : SweepOptions) : Type 0 where
  pub run : AsksForRun rows options.run
  pub max_fail : GivesWord rows (codes "max-fail") options.max_fail
  pub at_once : GivesWord rows (codes "at-once") options.at_once
  pub steps : GivesNumber rows (codes "steps") options.steps
  pub all : GivesFlag rows (codes "all") options.all
  pub progress : GivesFlag rows (codes "progress") options.progress
