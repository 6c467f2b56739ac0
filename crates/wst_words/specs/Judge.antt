-- The command `judge`: its arguments, and what they give.
use Rattle.std.specs.Prelude.{List, [], ◌∷◌, codes}
use Rattle.clap.specs.Words.{Row}
use Rattle.wst_words.specs.Arguments.{argument, argument_or}
use Rattle.wst_words.specs.Commands.{CommandRow}
use Rattle.wst_words.specs.declared.arguments.ArgumentKind.TheVariants.{End, Expected, Flag, Style}
use Rattle.wst_words.specs.Options.{GivesEnd, GivesExpectation, GivesFlag, GivesStyle}
use Rattle.wst_words.specs.declared.judge.JudgeOptions.{JudgeOptions}

-- its arguments
abbrev pub judge_command : CommandRow
judge_command = record {
  name = codes "judge";
  arguments = argument_or (codes "role") End (codes "server") ∷ argument_or (codes "expect") Expected (codes "echo")
      ∷ argument (codes "explain") Flag ∷ argument_or (codes "data") Style (codes "hex") ∷ [];
}

-- the options give these
abbrev pub AsksToJudge : List Row → JudgeOptions → Type 0
AsksToJudge rows options = GivesEnd rows (codes "role") options.role
    × GivesExpectation rows (codes "expect") options.expect × GivesFlag rows (codes "explain") options.explain
    × GivesStyle rows (codes "data") options.style
