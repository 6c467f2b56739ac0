-- A dash is put where there are no bytes, and else their digits.
use Rattle.std.proofs.Common.{rules, ◌<◌, ◌≤◌, length}
use Rattle.ws_pair.proofs.Putting.{same_put, word_of_none, word_of_some}
use Rattle.ws_pair.proofs.report_lines.put_hex.Goals as goal

pub returns-then-is_empty : goal.returns-then-is_empty
returns-then-is_empty g c =
    let none : length c.args.bytes.now ≤ 0 = search rules in
    same_put g.W.Write.contents _ _ _ _ _ _ (word_of_none c.args.bytes.now none) c.put_more.ensures

pub returns : goal.returns
returns g c =
    let some : 0 < length c.args.bytes.now = search rules in
    same_put g.W.Write.contents _ _ _ _ _ _ (word_of_some c.args.bytes.now some) c.put_blocks.ensures
