-- The head that is found at the front has the status that is answered.
use Rattle.std.proofs.Common.{rules}
use Rattle.httparse.specs.Spans.{IsResponseOf}
use Rattle.ws_upgrade.proofs.HeadCheck.{few_fields}
use Rattle.ws_upgrade.proofs.responses.status_of.Goals as goal

pub returns-in-Ok-Complete-clause-status : goal.returns-in-Ok-Complete-clause-status
returns-in-Ok-Complete-clause-status c =
    let front = c.head_part.result.now in
    let found : IsResponseOf front c.parse_response.new.headers c.in-Ok-Complete.head = search rules in
    let at = found.1 in (
      found.0,
      c.in-Ok-Complete.head.len,
      record { reads = rw (← c.head_part.ensures) at.reads; whole = at.len; headers = few_fields front c.parse_response.new.headers c.in-Ok-Complete.head.headers found.0.fields at.fields c.parse_response.auto.headers },
      at.code,
    )
