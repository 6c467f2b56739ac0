-- Exactly what begins a text has an unfinished last character; it has one, of at most three bytes.
use Rattle.ws_text.proofs.Texts.{some_unfinished, same_unfinished, begins_of_unfinished, unfinished_length}
use Rattle.ws_text.proofs.laws.one_unfinished.Goals as goal

pub returns-clause-some : goal.returns-clause-some
returns-clause-some c = some_unfinished

pub returns-clause-same : goal.returns-clause-same
returns-clause-same c = same_unfinished

pub returns-clause-begins : goal.returns-clause-begins
returns-clause-begins c = begins_of_unfinished

pub returns-clause-short : goal.returns-clause-short
returns-clause-short c = unfinished_length
