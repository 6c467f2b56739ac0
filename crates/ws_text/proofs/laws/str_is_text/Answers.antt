-- The bytes of a `str` are a text.
use Rattle.ws_text.proofs.Texts.{text_from_utf8}
use Rattle.ws_text.proofs.laws.str_is_text.Goals as goal

pub returns : goal.returns
returns c = text_from_utf8 c.args.text.now c.utf8.text
