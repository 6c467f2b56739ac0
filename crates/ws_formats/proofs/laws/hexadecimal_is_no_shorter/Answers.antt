-- A word of hexadecimal digits is no shorter than the bytes that it spells.
use Rattle.ws_formats.proofs.HexWords.{no_shorter}
use Rattle.ws_formats.proofs.laws.hexadecimal_is_no_shorter.Goals as goal

pub returns : goal.returns
returns c = λ bytes word h. no_shorter bytes word h
