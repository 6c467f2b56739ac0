-- The words of a verdict are text.
use Rattle.ws_reports.proofs.Parts.{copied_text}
use Rattle.ws_reports.proofs.known_line.copied_words.Goals as goal

pub returns : goal.returns
returns c = copied_text c.args.words.now c.from_utf8_lossy.result c.requires c.from_utf8_lossy.ensures.ok
