-- One thing stands in the brackets.
use Rattle.ws_reports.proofs.Parts.{was_read}
use Rattle.ws_reports.proofs.known_line.was_words.Goals as goal

pub returns : goal.returns
returns c = was_read c.args.remark.now c.in-Some.rest.now c.front_of.result c.in-Some.ensures c.front_of.ensures
