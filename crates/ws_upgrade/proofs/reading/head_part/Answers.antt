-- Fewer bytes than are looked at are all looked at.
use Rattle.std.proofs.Common.{sym, arith}
use Rattle.std.proofs.lemmas.List.{take_all}
use Rattle.ws_upgrade.proofs.reading.head_part.Goals as goal

pub returns-then-bytes-lt-MAX_HEAD : goal.returns-then-bytes-lt-MAX_HEAD
returns-then-bytes-lt-MAX_HEAD c = sym (take_all 8192 c.args.bytes.now (omega arith))
