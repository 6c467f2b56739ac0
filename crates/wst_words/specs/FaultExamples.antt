-- Worked examples of words that ask for no task, each a theorem.
use Rattle.std.specs.Prelude.{◌≡◌, false, List, [], ◌∷◌, map, codes, refl}
use Rattle.clap.specs.Words.{Text, fault_of, takes}
use Rattle.clap.specs.declared.error.kind.ErrorKind.TheVariants.{DisplayHelp, DisplayVersion, InvalidSubcommand}
use Rattle.clap.specs.declared.error.kind.ErrorKind.TheVariants.{InvalidValue, MissingRequiredArgument}
use Rattle.clap.specs.declared.error.kind.ErrorKind.TheVariants.{MissingSubcommand, UnknownArgument, ValueValidation}
use Rattle.wst_words.specs.Arguments.{Places}
use Rattle.wst_words.specs.Words.{wst_app}
use Rattle.wst_words.specs.Examples.{on_words, words}

-- `wst` alone
pub no_command : (places : Places) → fault_of (wst_app places) (words []) ≡ MissingSubcommand ∷ []
unfolding on_words
no_command places = refl

-- `wst frames`: no such command
pub unknown_command : (places : Places)
    → fault_of (wst_app places) (words (codes "frames" ∷ [])) ≡ UnknownArgument ∷ InvalidSubcommand ∷ []
unfolding on_words
unknown_command places = refl

-- `wst show --budget x`: no number
abbrev no_number : List Text
no_number = words (codes "show" ∷ codes "--budget" ∷ codes "x" ∷ [])

pub budget_no_number : (places : Places) → fault_of (wst_app places) no_number ≡ ValueValidation ∷ []
unfolding on_words
budget_no_number places = refl

-- `wst show --from nobody`: no end
pub from_nobody : (places : Places)
    → fault_of (wst_app places) (words (codes "show" ∷ codes "--from" ∷ codes "nobody" ∷ [])) ≡ InvalidValue ∷ []
unfolding on_words
from_nobody places = refl

-- `wst head --from client`: no such option
pub head_with_an_option : (places : Places)
    → fault_of (wst_app places) (words (codes "head" ∷ codes "--from" ∷ codes "client" ∷ [])) ≡ UnknownArgument ∷ []
unfolding on_words
head_with_an_option places = refl

-- `wst judge capture`: no such argument, since a capture comes by the standard input
pub judge_with_a_file : (places : Places)
    → fault_of (wst_app places) (words (codes "judge" ∷ codes "capture" ∷ [])) ≡ UnknownArgument ∷ []
unfolding on_words
judge_with_a_file places = refl

-- `wst cases 1.1.1 1.1.2`: one word at most
pub cases_of_two_words : (places : Places)
    → fault_of (wst_app places) (words (codes "cases" ∷ codes "1.1.1" ∷ codes "1.1.2" ∷ [])) ≡ UnknownArgument ∷ []
unfolding on_words
cases_of_two_words places = refl

-- `wst test`: no server
pub test_alone : (places : Places)
    → fault_of (wst_app places) (words (codes "test" ∷ [])) ≡ MissingRequiredArgument ∷ []
unfolding on_words
test_alone places = refl

-- `wst test --role echo own`: no end
pub test_of_no_end : (places : Places)
    → fault_of (wst_app places) (words (codes "test" ∷ codes "--role" ∷ codes "echo" ∷ codes "own" ∷ []))
    ≡ InvalidValue ∷ []
unfolding on_words
test_of_no_end places = refl

-- `wst serve --at-once 2`: no address
pub serve_nowhere : (places : Places)
    → fault_of (wst_app places) (words (codes "serve" ∷ codes "--at-once" ∷ codes "2" ∷ []))
    ≡ MissingRequiredArgument ∷ []
unfolding on_words
serve_nowhere places = refl

-- `wst serve localhost:9001 4294967296`: no number of 32 bits
pub serve_too_often : (places : Places)
    → fault_of (wst_app places) (words (codes "serve" ∷ codes "localhost:9001" ∷ codes "4294967296" ∷ []))
    ≡ ValueValidation ∷ []
unfolding on_words
serve_too_often places = refl

-- `wst show --help` is answered with help
pub show_help : (places : Places)
    → fault_of (wst_app places) (words (codes "show" ∷ codes "--help" ∷ [])) ≡ DisplayHelp ∷ []
unfolding on_words
show_help places = refl

-- `wst --version` is answered with the version, and no command has one of its own
pub version : (places : Places) → fault_of (wst_app places) (words (codes "--version" ∷ [])) ≡ DisplayVersion ∷ []
unfolding on_words
version places = refl

pub show_version : (places : Places)
    → fault_of (wst_app places) (words (codes "show" ∷ codes "--version" ∷ [])) ≡ UnknownArgument ∷ []
unfolding on_words
show_version places = refl

-- and none of them is taken
pub faulty_words_are_not_taken : (places : Places)
    → map (takes (wst_app places)) (words [] ∷ words (codes "frames" ∷ []) ∷ no_number ∷ [])
    ≡ false ∷ false ∷ false ∷ []
unfolding on_words
faulty_words_are_not_taken places = refl
