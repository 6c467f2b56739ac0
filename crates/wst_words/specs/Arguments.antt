-- The arguments of commands: rows of tables, and clap's data of each.
use Rattle.std.specs.Prelude.{ℕ, List, [], ◌∷◌, Option, Some, None, codes, option_map, pos, true}
use Rattle.std.specs.Borrow.{Bor}
use Rattle.clap.specs.Words.{Rule, Text, new_rule}
use Rattle.clap.specs.declared.builder.action.ArgAction.TheVariants.{Append, Set, SetTrue}
use Rattle.clap.specs.declared.builder.value_parser.ValueParser.TheVariants.{Names, Signed, Unsigned}
use Rattle.wst_words.specs.declared.arguments.Argument.{Argument}
use Rattle.wst_words.specs.declared.arguments.ArgumentKind.{ArgumentKind}
use Rattle.wst_words.specs.declared.arguments.ArgumentKind.TheVariants.{EachWord, End, Expected, Flag, FreeCount}
use Rattle.wst_words.specs.declared.arguments.ArgumentKind.TheVariants.{FreeWord, NeededWord, Number}
use Rattle.wst_words.specs.declared.arguments.ArgumentKind.TheVariants.{Style, Word, Words}
use Rattle.wst_words.specs.declared.arguments.NameParsers.{NameParsers}

-- an argument: its name, its kind, and its value where it is left out
pub record ArgumentRow : Type 0 where
  pub name : Text
  pub kind : ArgumentKind
  pub default : Option Text

-- one that has no value where it is left out, or may not be left out
abbrev pub argument : Text → ArgumentKind → ArgumentRow
argument name kind = record { name = name; kind = kind; default = None }

-- one that has this value then
abbrev pub argument_or : Text → ArgumentKind → Text → ArgumentRow
argument_or name kind default = record { name = name; kind = kind; default = Some default }

-- the row of the program's own table, without its texts of help
abbrev pub argument_row : Argument → ArgumentRow
argument_row a = record { name = a.name.now; kind = a.kind; default = option_map (λ d. d.now) a.default }

-- ---- clap's data

-- where the names of the two ends, of what is expected, and of the styles of payloads lie in memory, which clap's data
-- of a list of names holds beside the names
pub record Places : Type 0 where
  pub list : ℕ × ℕ
  pub client : ℕ × ℕ
  pub server : ℕ × ℕ
  pub expectations : ℕ × ℕ
  pub echo : ℕ × ℕ
  pub protocol : ℕ × ℕ
  pub styles : ℕ × ℕ
  pub hex : ℕ × ℕ
  pub text : ℕ × ℕ
  pub all : ℕ × ℕ

-- the names of the ends
abbrev pub end_names : Places → Bor (List (Bor Text))
end_names places = record {
  ref_ptr = places.list;
  now = record { ref_ptr = places.client; now = codes "client" }
      ∷ record { ref_ptr = places.server; now = codes "server" } ∷ [];
}

-- the names of what is expected
abbrev pub expectation_names : Places → Bor (List (Bor Text))
expectation_names places = record {
  ref_ptr = places.expectations;
  now = record { ref_ptr = places.echo; now = codes "echo" }
      ∷ record { ref_ptr = places.protocol; now = codes "protocol" } ∷ [];
}

-- the names of the styles of payloads
abbrev pub style_names : Places → Bor (List (Bor Text))
style_names places = record {
  ref_ptr = places.styles;
  now = record { ref_ptr = places.hex; now = codes "hex" } ∷ record { ref_ptr = places.text; now = codes "text" }
      ∷ record { ref_ptr = places.all; now = codes "all" } ∷ [];
}

-- what takes them alone
abbrev pub name_parsers : Places → NameParsers
name_parsers places = record {
  ends = Names (end_names places);
  expectations = Names (expectation_names places);
  styles = Names (style_names places);
}

-- an option that takes one value
abbrev pub option_rule : Text → Rule
option_rule name = record (new_rule name) { long = Some name; action = Some Set; value_names = 1 }

-- a word, which may be left out
abbrev pub free_rule : Text → Rule
free_rule name = record (new_rule name) { action = Some Set; value_names = 1 }

-- a word that may not be left out
abbrev pub needed_rule : Text → Rule
needed_rule name = record (free_rule name) { required = true }

-- an option that takes one value each time that it is given
abbrev pub each_rule : Text → Rule
each_rule name = record (new_rule name) { long = Some name; action = Some Append; value_names = 1 }

-- an argument of this kind: an end, an expectation or a style as it is parsed, a number of 64 bits, any word, any word
-- each time that it is given, a flag, a word that may not be left out, a word and a number of 32 bits that may, as many
-- words as there are
abbrev pub kind_rule : NameParsers → ArgumentKind → Text → Rule
kind_rule names End name = record (option_rule name) { parser = Some names.ends }
kind_rule names Expected name = record (option_rule name) { parser = Some names.expectations }
kind_rule names Style name = record (option_rule name) { parser = Some names.styles }
kind_rule names Number name = record (option_rule name) { parser = Some (Unsigned 0 18446744073709551615) }
kind_rule names Word name = option_rule name
kind_rule names EachWord name = each_rule name
kind_rule names Flag name = record (new_rule name) { long = Some name; action = Some SetTrue }
kind_rule names NeededWord name = needed_rule name
kind_rule names FreeWord name = free_rule name
kind_rule names FreeCount name = record (free_rule name) { parser = Some (Signed (pos 0) (pos 4294967295)) }
kind_rule names Words name = record (new_rule name) { action = Some Append; value_names = 1 }

-- a rule with this value where the argument is left out
abbrev pub with_default : Option Text → Rule → Rule
with_default None rule = rule
with_default (Some value) rule = record rule { defaults = value ∷ [] }

-- the argument of this row
abbrev pub argument_rule : NameParsers → ArgumentRow → Rule
argument_rule names row = with_default row.default (kind_rule names row.kind row.name)
