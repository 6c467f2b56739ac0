-- The command `report`: its arguments, and what they give.
use Rattle.std.specs.Prelude.{List, [], ◌∷◌, codes}
use Rattle.clap.specs.Words.{Row}
use Rattle.wst_words.specs.Arguments.{argument}
use Rattle.wst_words.specs.Commands.{CommandRow}
use Rattle.wst_words.specs.declared.arguments.ArgumentKind.TheVariants.{Flag, Word}
use Rattle.wst_words.specs.Options.{GivesFlag, GivesWord}
use Rattle.wst_words.specs.declared.report.ReportOptions.{ReportOptions}

-- its arguments
abbrev pub report_command : CommandRow
report_command = record {
  name = codes "report";
  arguments = argument (codes "json") Flag ∷ argument (codes "summary") Flag ∷ argument (codes "junit") Flag
      ∷ argument (codes "date") Word ∷ [];
}

-- the options give these; a text for the head of a page, or none
abbrev pub AsksToReport : List Row → ReportOptions → Type 0
AsksToReport rows options = GivesFlag rows (codes "json") options.json
    × GivesFlag rows (codes "summary") options.summary × GivesFlag rows (codes "junit") options.junit
    × GivesWord rows (codes "date") options.date
