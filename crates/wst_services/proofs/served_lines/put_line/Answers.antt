-- The line is written, or a call had failed before, or memory ran out for it.
use Rattle.std.proofs.Common.{◌≡◌, ◌∙◌, List, false, rules, subst, sym, true, ℕ}
use Rattle.std.proofs.KnownBytes.{Keeps-refl}
use Rattle.ws_frame.specs.Devices.{watched}
use Rattle.ws_frame.specs.Watching.{has_failed, inner_of}
use Rattle.wst_services.specs.ServedLines.{PutsLine, connection_line}
use Rattle.wst_services.proofs.served_lines.put_line.Goals as goal

pub returns-then-failed : goal.returns-then-failed
returns-then-failed g c = λ worked.
    let bad : true ≡ false = sym c.if-failed.true ∙ (c.failed.ensures ∙ worked) in
    absurd (cc)

pub returns-in-Ok : goal.returns-in-Ok
returns-in-Ok g c =
    let line : c.as_bytes.result.now ≡ connection_line c.args.number c.args.served = search rules in
    subst (λ (l : List ℕ). PutsLine l c.write_line.result
    (watched g.W.Write.contents c.args.writer.now c.write_line.new.writer) (has_failed c.args.writer.now)) line
    c.write_line.ensures

pub returns-in-Err : goal.returns-in-Err
returns-in-Err g c = (Keeps-refl (g.W.Write.contents (inner_of c.args.writer.now)), λ worked. worked)
