-- The command `serve`: its arguments, and what they give.
use Rattle.std.specs.Prelude.{◌≡◌, List, [], ◌∷◌, Some, codes}
use Rattle.clap.specs.Words.{Row, first_of}
use Rattle.wst_words.specs.Arguments.{argument, argument_or}
use Rattle.wst_words.specs.Commands.{CommandRow}
use Rattle.wst_words.specs.declared.arguments.ArgumentKind.TheVariants.{FreeCount, NeededWord, Number, Word}
use Rattle.wst_words.specs.Options.{GivesCountIfAny, GivesNumber, GivesNumberOr, GivesProtocols, GivesWord}
use Rattle.wst_words.specs.declared.serve.ServeOptions.{ServeOptions}

-- its arguments
abbrev pub serve_command : CommandRow
serve_command = record {
  name = codes "serve";
  arguments = argument_or (codes "limit") Number (codes "1048576")
      ∷ argument (codes "frame") Number
      ∷ argument_or (codes "budget") Number (codes "1073741824")
      ∷ argument (codes "timeout") Word
      ∷ argument (codes "deadline") Word
      ∷ argument_or (codes "at-once") Word (codes "1")
      ∷ argument (codes "protocols") Word
      ∷ argument (codes "address") NeededWord
      ∷ argument (codes "count") FreeCount ∷ [];
}

-- the words give these; a limit on frames that is left out is that on messages
abbrev pub AsksToServe : List Row → ServeOptions → Type 0
AsksToServe rows options = GivesNumber rows (codes "limit") options.limit
    × GivesNumberOr options.limit rows (codes "frame") options.frame
    × GivesNumber rows (codes "budget") options.budget
    × (first_of (codes "address") rows ≡ Some options.address.now) × GivesCountIfAny rows (codes "count") options.count
    × GivesProtocols rows options.protocols × GivesWord rows (codes "timeout") options.timeout
    × GivesWord rows (codes "deadline") options.deadline
    × (first_of (codes "at-once") rows ≡ Some options.at_once.now)
