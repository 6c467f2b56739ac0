-- The command `test`: its arguments, and what they give.
use Rattle.std.specs.Prelude.{◌≡◌, List, [], ◌∷◌, ◌++◌, codes, map}
use Rattle.clap.specs.Words.{Row}
use Rattle.wst_words.specs.Arguments.{argument, argument_or}
use Rattle.wst_words.specs.Commands.{CommandRow}
use Rattle.wst_words.specs.declared.arguments.ArgumentKind.TheVariants.{Flag, Style, Word, Words}
use Rattle.wst_words.specs.Options.{GivesFlag, GivesStyle, GivesWord, given_words}
use Rattle.wst_words.specs.RunOptions.{AsksForRun, run_arguments_without_timeout}
use Rattle.wst_words.specs.declared.test.TestOptions.{TestOptions}

-- its arguments
abbrev pub test_command : CommandRow
test_command = record {
  name = codes "test";
  arguments = run_arguments_without_timeout
      ++ argument (codes "max-fail") Word
      ∷ argument (codes "at-once") Word
      ∷ argument (codes "capture") Flag
      ∷ argument (codes "explain") Flag
      ∷ argument_or (codes "data") Style (codes "hex")
      ∷ argument (codes "progress") Flag
      ∷ argument (codes "summary") Flag
      ∷ argument (codes "known") Flag
      ∷ argument (codes "junit") Flag
      ∷ argument (codes "ids") Words ∷ [];
}

-- the words give these: the names in the order given, as often as given, and none where none is given
pub record AsksToTest (rows : List Row) (options : TestOptions) : Type 0 where
  pub run : AsksForRun rows options.run
  pub max_fail : GivesWord rows (codes "max-fail") options.max_fail
  pub at_once : GivesWord rows (codes "at-once") options.at_once
  pub capture : GivesFlag rows (codes "capture") options.capture
  pub explain : GivesFlag rows (codes "explain") options.explain
  pub style : GivesStyle rows (codes "data") options.style
  pub progress : GivesFlag rows (codes "progress") options.progress
  pub summary : GivesFlag rows (codes "summary") options.summary
  pub known : GivesFlag rows (codes "known") options.known
  pub junit : GivesFlag rows (codes "junit") options.junit
  pub ids : map (λ id. id.now) options.ids.items ≡ given_words (codes "ids") rows
