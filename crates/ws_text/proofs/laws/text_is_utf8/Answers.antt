-- What is a text here is what Rust calls UTF-8, and the other way round.
use Rattle.ws_text.proofs.Texts.{text_from_utf8, utf8_from_text}
use Rattle.ws_text.proofs.laws.text_is_utf8.Goals as goal

pub returns : goal.returns
returns c = λ bytes. (utf8_from_text bytes, text_from_utf8 bytes)
