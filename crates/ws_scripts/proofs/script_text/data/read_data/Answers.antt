-- The first and the third character tell the notation.
use Rattle.std.proofs.Common.{◌≡◌, ◌≢◌, rules, slice_index}
use Rattle.ws_scripts.proofs.ScriptData.{hex_is_data, quoted_is_data, repeated_is_data}
use Rattle.ws_scripts.proofs.script_text.data.read_data.Goals as goal

pub returns-then-begins_with_quote : goal.returns-then-begins_with_quote
returns-then-begins_with_quote c =
    let first : slice_index c.args.word.now 0 ≡ 34 = search rules in
    quoted_is_data c.read_quoted.result c.args.word.now first c.read_quoted.ensures

pub returns-then-has_star : goal.returns-then-has_star
returns-then-has_star c =
    let first : slice_index c.args.word.now 0 ≢ 34 = search rules in
    let third : slice_index c.args.word.now 2 ≡ 42 = search rules in
    repeated_is_data c.read_repeated.result c.args.word.now first third c.read_repeated.ensures

pub returns : goal.returns
returns c =
    let first : slice_index c.args.word.now 0 ≢ 34 = search rules in
    let third : slice_index c.args.word.now 2 ≢ 42 = search rules in
    hex_is_data c.read_hex.result c.args.word.now first third c.read_hex.ensures
