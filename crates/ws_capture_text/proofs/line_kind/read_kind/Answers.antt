-- A line with a mark is of its kind where bytes stand behind it, and of none else; another is of a kind without bytes.
use Rattle.ws_capture_text.proofs.OneKind.{data_is, plain_found}
use Rattle.ws_capture_text.proofs.line_kind.read_kind.Goals as goal

pub returns-then-spells_some : goal.returns-then-spells_some
returns-then-spells_some c =
    data_is c.in-Some.mark c.in-Some.word.now c.args.line.now c.in-Some.ensures
    (c.spells_some.ensures.0 c.if-spells_some.true)

pub returns-in-None : goal.returns-in-None
returns-in-None c = plain_found c.args.line.now c.read_plain_kind.result c.in-None.ensures c.read_plain_kind.ensures
