-- A read of this reader for tests takes what it gives from the front of what is left.
use Rattle.std.proofs.Common.{rules, arith}
use Rattle.ws_frame.proofs.TestDeviceLemmas.{one_given}
use Rattle.ws_frame.proofs.byte_devices.ByteReaderRead.read.Goals as goal

pub returns-clause-bytes : goal.returns-clause-bytes
returns-clause-bytes c =
    (one_given c.args.self.now.left.now c.args.buf.now (search rules) (search rules), λ e. absurd (omega (arith, e)))
