-- Byte by byte.
use Rattle.ws_pages.proofs.Texts.{text_on_page}
use Rattle.ws_pages.proofs.laws.input_ends_nothing_on_a_page.Goals as goal

pub returns : goal.returns
returns c = text_on_page
