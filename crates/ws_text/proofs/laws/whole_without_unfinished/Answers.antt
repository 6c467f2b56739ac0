-- What has an unfinished character is a text exactly where that one has no bytes.
use Rattle.ws_text.proofs.Texts.{text_without_unfinished}
use Rattle.ws_text.proofs.laws.whole_without_unfinished.Goals as goal

pub returns : goal.returns
returns c = text_without_unfinished
