-- A text of which no capture can be made leaves the output as it was.
use Rattle.std.proofs.Common.{Err, ap, inr}
use Rattle.std.proofs.KnownBytes.{Keeps-refl}
use Rattle.ws_frame.specs.Watching.{inner_of}
use Rattle.wst_commands.specs.declared.fault.Fault.{Fault}
use Rattle.wst_commands.proofs.convert.convert_followed.Goals as goal

pub returns-in-Err : goal.returns-in-Err
returns-in-Err g c =
    let untouched = Keeps-refl (g.W.Write.contents (inner_of c.args.writer.now)) in
    inr (c.in-Err.fault, c.in-Err.ensures, ap (λ (fault : Fault). Err fault) c.followed_fault.ensures, untouched)
