-- A head is found as a request or as a response, by which of them is looked for.
use Rattle.std.proofs.Common.{sym, subst}
use Rattle.std.specs.Prelude.{MatchOption}
use Rattle.ws_wire.specs.declared.role.Role.{Role}
use Rattle.ws_tap.specs.Heads.{HasHead, HasNoHead}
use Rattle.ws_tap.proofs.heads.find_head.Goals as goal

pub returns-in-Client : goal.returns-in-Client
returns-in-Client c =
    let bytes = c.args.bytes.now in
    subst (λ (k : Role). MatchOption c.find_request.result (HasNoHead k bytes) (HasHead k bytes))
    (sym c.in-Client.is) c.find_request.ensures

pub returns-in-Server : goal.returns-in-Server
returns-in-Server c =
    let bytes = c.args.bytes.now in
    subst (λ (k : Role). MatchOption c.find_response.result (HasNoHead k bytes) (HasHead k bytes))
    (sym c.in-Server.is) c.find_response.ensures
