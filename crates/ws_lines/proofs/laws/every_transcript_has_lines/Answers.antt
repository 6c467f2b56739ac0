-- Every transcript whose turns are of bytes has its lines.
use Rattle.ws_lines.proofs.Wholes.{some_text}
use Rattle.ws_lines.proofs.laws.every_transcript_has_lines.Goals as goal

pub returns : goal.returns
returns c = some_text
