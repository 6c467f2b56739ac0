-- A transcript has one text of lines.
use Rattle.ws_lines.proofs.Alone.{text_is_one}
use Rattle.ws_lines.proofs.laws.one_text_of_turn_lines.Goals as goal

pub returns : goal.returns
returns c = text_is_one
