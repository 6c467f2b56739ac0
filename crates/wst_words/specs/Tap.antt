-- The command `tap`: its arguments, and what they give.
use Rattle.std.specs.Prelude.{◌≡◌, List, [], ◌∷◌, Some, codes}
use Rattle.clap.specs.Words.{Row, first_of}
use Rattle.wst_words.specs.Arguments.{argument, argument_or}
use Rattle.wst_words.specs.Commands.{CommandRow}
use Rattle.wst_words.specs.declared.arguments.ArgumentKind.TheVariants.{Flag, FreeCount, NeededWord, Style, Word}
use Rattle.wst_words.specs.Options.{GivesCountIfAny, GivesFlag, GivesStyle}
use Rattle.wst_words.specs.declared.tap.TapOptions.{TapOptions}

-- its arguments
abbrev pub tap_command : CommandRow
tap_command = record {
  name = codes "tap";
  arguments = argument_or (codes "at-once") Word (codes "1")
      ∷ argument (codes "listen") NeededWord ∷ argument (codes "target") NeededWord
      ∷ argument (codes "count") FreeCount ∷ argument_or (codes "data") Style (codes "hex")
      ∷ argument (codes "time") Flag ∷ [];
}

-- the words give these
abbrev pub AsksToTap : List Row → TapOptions → Type 0
AsksToTap rows options = (first_of (codes "listen") rows ≡ Some options.listen.now)
    × (first_of (codes "target") rows ≡ Some options.target.now)
    × (first_of (codes "at-once") rows ≡ Some options.at_once.now)
    × GivesCountIfAny rows (codes "count") options.count
    × GivesStyle rows (codes "data") options.style
    × GivesFlag rows (codes "time") options.time
