-- What writing a case gives is a text of it.
use Rattle.ws_scripts.proofs.ScriptWriting.{written_is_text}
use Rattle.ws_scripts.proofs.laws.written_scripts_are_texts.Goals as goal

pub returns : goal.returns
returns c = written_is_text
