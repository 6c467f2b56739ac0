-- The characters of a text are its first and those of the rest.
use Rattle.std.proofs.Common.{◌≡◌, ◌++◌, ap, encode_utf8, rules}
use Rattle.std.proofs.lemmas.Str.{chars_past_char}
use Rattle.ws_scripts.specs.InnerQuoting.{first_character}
use Rattle.ws_scripts.proofs.script_text.quoted.take_first.Goals as goal

pub returns-clause-taken : goal.returns-clause-taken
returns-clause-taken c =
    let front : c.args.text.now ≡ encode_utf8 c.in_ok-first.first ++ c.as_str.result.now = search rules in
    ap first_character (chars_past_char c.args.text.now c.as_str.result.now c.in_ok-first.first c.utf8.text front)
