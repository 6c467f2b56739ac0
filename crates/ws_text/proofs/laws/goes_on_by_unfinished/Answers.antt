-- How a text may go on depends on its unfinished character alone.
use Rattle.ws_text.proofs.Texts.{begins_by_unfinished, text_by_unfinished, unfinished_by_unfinished}
use Rattle.ws_text.proofs.laws.goes_on_by_unfinished.Goals as goal

pub returns-clause-begins : goal.returns-clause-begins
returns-clause-begins c = begins_by_unfinished

pub returns-clause-text : goal.returns-clause-text
returns-clause-text c = text_by_unfinished

pub returns-clause-unfinished : goal.returns-clause-unfinished
returns-clause-unfinished c = unfinished_by_unfinished
