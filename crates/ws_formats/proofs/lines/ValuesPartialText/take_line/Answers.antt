-- A line that tells a value adds it, and one that tells none ends every text.
use Rattle.std.proofs.Common.{◌≡◌, ◌∷◌, ◌++◌, [], rules}
use Rattle.ws_formats.proofs.PartialTexts.{none_further, taken_further}
use Rattle.ws_formats.proofs.lines.ValuesPartialText.take_line.Goals as goal

pub returns-else-is_err : goal.returns-else-is_err
returns-else-is_err g c =
    let longer : c.from_vec.result ≡ c.args.self.values ++ c.in-Ok.value ∷ [] = search rules in
    taken_further g.T.Line.is_line_of c.args.self.values c.from_vec.result c.in-Ok.value c.args.line.now longer c.in-Ok.ensures

pub returns-in-Err : goal.returns-in-Err
returns-in-Err g c = λ e all more told.
    none_further g.T.Line.is_line_of c.args.self.values all c.args.line.now more (c.in-Err.ensures e) told
