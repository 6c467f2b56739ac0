-- Behind the key there is the payload, and it is as long without its mask.
use Rattle.std.proofs.Common.{◌≡◌, ◌≤◌, ◌∙◌, ◌-◌, ℕ, List, Some, ap, arith, drop, length, sym, take}
use Rattle.std.proofs.lemmas.List.{length-drop, take_all}
use Rattle.ws_wire.specs.declared.role.Role.{Role}
use Rattle.ws_wire.proofs.Masks.{length-masked_payload}
use Rattle.ws_suite.specs.Marks.{payload_so_far}
use Rattle.ws_suite.proofs.evidence.cut_close.payload_so_far.Goals as goal

pub unmasked-requires : goal.unmasked-requires
unmasked-requires c =
    let more = c.args.more.now in
    let long = length-drop 4 more in
    let whole = ap (λ (l : List ℕ). length l) (take_all (length more - 4) (drop 4 more) (omega (arith, long))) in
    let same : length (payload_so_far c.args.role more) ≡ length (drop 4 more) =
    ap (λ (r : Role). length (payload_so_far r more)) c.in-Server.is
    ∙ length-masked_payload (Some (take 4 more)) (drop 4 more) in
    omega (arith, whole, same, c.requires)
