-- Behind the key there is the payload, and it is as long without its mask.
use Rattle.std.proofs.Common.{◌∙◌, Some, ap, drop, length, sym, take}
use Rattle.std.proofs.lemmas.List.{length-drop}
use Rattle.ws_wire.specs.declared.role.Role.{Role}
use Rattle.ws_wire.proofs.Masks.{length-masked_payload}
use Rattle.ws_suite.specs.Marks.{payload_so_far}
use Rattle.ws_suite.proofs.evidence.cut_close.came.Goals as goal

pub returns-in-Server : goal.returns-in-Server
returns-in-Server c =
    let more = c.args.more.now in
    c.saturating_sub.ensures ∙ sym (ap (λ (r : Role). length (payload_so_far r more)) c.in-Server.is
    ∙ (length-masked_payload (Some (take 4 more)) (drop 4 more) ∙ length-drop 4 more))
