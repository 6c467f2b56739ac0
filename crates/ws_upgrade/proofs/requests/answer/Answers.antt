-- A request is refused for the fault that is found in its parts, as they stand in its grammar.
use Rattle.std.proofs.Common.{◌≡◌, subst}
use Rattle.ws_upgrade.specs.Heads.{RequestParts, request_parts, IsRequestRefusal}
use Rattle.ws_upgrade.proofs.requests.answer.Goals as goal

pub returns-in-Err : goal.returns-in-Err
returns-in-Err c grammar at =
    let parts : RequestParts = record { method = c.of-method.result.now; target = c.of-target.result.now; minor = c.args.head.version; headers = c.new-headers.result } in
    let same : parts ≡ request_parts grammar = rw (c.of-method.ensures, c.of-target.ensures, c.new-headers.ensures, at.method, at.path, at.version, at.fields) in
    subst (λ (p : RequestParts). IsRequestRefusal p c.in-Err.fault) same c.in-Err.ensures
