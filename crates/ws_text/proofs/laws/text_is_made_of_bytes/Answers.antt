-- Each item of a text is a byte.
use Rattle.ws_text.proofs.Wanted.{text_bytes}
use Rattle.ws_text.proofs.laws.text_is_made_of_bytes.Goals as goal

pub returns : goal.returns
returns c = text_bytes
