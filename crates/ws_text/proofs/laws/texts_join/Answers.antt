-- A text behind a text is a text.
use Rattle.ws_text.proofs.Texts.{text_append}
use Rattle.ws_text.proofs.laws.texts_join.Goals as goal

pub returns : goal.returns
returns c = text_append
