-- The arguments that commands share which run scripts over a tested end, and what they give.
use Rattle.std.specs.Prelude.{◌≡◌, List, [], ◌∷◌, Some, codes, map}
use Rattle.clap.specs.Words.{Row, first_of}
use Rattle.wst_words.specs.Arguments.{ArgumentRow, argument, argument_or}
use Rattle.wst_words.specs.declared.arguments.ArgumentKind.TheVariants.{EachWord, End, Expected, NeededWord, Number}
use Rattle.wst_words.specs.declared.arguments.ArgumentKind.TheVariants.{Word}
use Rattle.wst_words.specs.Options.{GivesEnd, GivesExpectation, GivesNumber, GivesProtocols, GivesWord, given_words}
use Rattle.wst_words.specs.declared.run_options.RunOptions.{RunOptions}

-- the arguments, with this one for how long the tested end is waited for
abbrev pub run_arguments : ArgumentRow → List ArgumentRow
run_arguments timeout = argument_or (codes "role") End (codes "server")
    ∷ argument_or (codes "expect") Expected (codes "echo")
    ∷ argument_or (codes "key") Word (codes "37fa213d")
    ∷ timeout
    ∷ argument (codes "deadline") Word
    ∷ argument (codes "wait") Word
    ∷ argument_or (codes "budget") Number (codes "67108864")
    ∷ argument (codes "protocols") Word
    ∷ argument (codes "header") EachWord
    ∷ argument (codes "connect") Word
    ∷ argument (codes "target") NeededWord ∷ []

-- it is waited for without a limit where none is given
abbrev pub run_arguments_without_timeout : List ArgumentRow
run_arguments_without_timeout = run_arguments (argument (codes "timeout") Word)

-- the words give these
pub record AsksForRun (rows : List Row) (options : RunOptions) : Type 0 where
  pub role : GivesEnd rows (codes "role") options.role
  pub expect : GivesExpectation rows (codes "expect") options.expect
  pub key : first_of (codes "key") rows ≡ Some options.key.now
  pub timeout : GivesWord rows (codes "timeout") options.timeout
  pub deadline : GivesWord rows (codes "deadline") options.deadline
  pub wait : GivesWord rows (codes "wait") options.wait
  pub budget : GivesNumber rows (codes "budget") options.budget
  pub protocols : GivesProtocols rows options.protocols
  pub headers : map (λ word. word.now) options.headers.items ≡ given_words (codes "header") rows
  pub connect : GivesWord rows (codes "connect") options.connect
  pub target : first_of (codes "target") rows ≡ Some options.target.now
