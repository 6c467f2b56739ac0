-- Lines that each tell a value are lines that tell all of them.
use Rattle.std.proofs.Common.{◌≡◌, [], rules}
use Rattle.ws_formats.proofs.PartialTexts.{read_each}
use Rattle.ws_formats.proofs.lines.read_lines.Goals as goal

pub returns : goal.returns
returns g c =
    let none : c.new.result ≡ [] = search rules in
    read_each g.T.Line.is_line_of c.read_by_lines.result c.args.text.now c.new.result none c.read_by_lines.ensures
