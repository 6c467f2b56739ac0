-- Where MASK is set and fewer than four bytes follow, the key is cut.
use Rattle.ws_wire.proofs.HeaderLengths.{key_cut}
use Rattle.ws_wire.proofs.reading.key_at.Goals as goal

pub returns-then-bytes-at-lt4 : goal.returns-then-bytes-at-lt4
returns-then-bytes-at-lt4 c = key_cut _ _ c.requires.within c.if-bytes-lt128.false c.if-bytes-at-lt4.true
