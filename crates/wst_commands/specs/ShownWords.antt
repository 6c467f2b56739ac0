-- A word of the command line, as it is printed again.
use Rattle.std.specs.Prelude.{ℕ, Bool, ◌||◌, if◌then◌else◌, List}
use Rattle.std.specs.List.{list_any}
use Rattle.std.specs.Char.{is_control}
use Rattle.std.specs.Str.{chars}
use Rattle.ws_formats.specs.QuotedText.{is_invisible}
use Rattle.ws_frame.specs.declared.source.DataStyle.TheVariants.{Text}
use Rattle.wst_commands.specs.Explaining.{styled_data}

-- a control character, or one that has no shape of its own: a terminal could obey it
abbrev pub is_unseen : ℕ → Bool
is_unseen c = is_control c || is_invisible c

-- as it is; or between quotation marks and escaped as a payload, where it has such a character
abbrev pub shown_word : List ℕ → List ℕ
shown_word word = if list_any is_unseen (chars word) then styled_data Text word else word
