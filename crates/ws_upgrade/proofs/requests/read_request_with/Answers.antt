-- What the parser finds at the front is answered as a request there, and where it finds none more bytes may make one.
use Rattle.std.proofs.Common.{rules, arith, inr, map}
use Rattle.httparse.specs.Spans.{IsRequestOf}
use Rattle.httparse.specs.Grammar.{HasNoRequest, MayBecomeRequest}
use Rattle.ws_upgrade.specs.Reading.{request_heads, request_read}
use Rattle.ws_upgrade.proofs.HeadCheck.{few_fields, answered, among, requests_sound}
use Rattle.ws_upgrade.proofs.requests.read_request_with.Goals as goal

pub returns-in-Ok-Complete-clause-read : goal.returns-in-Ok-Complete-clause-read
returns-in-Ok-Complete-clause-read c =
    let known = map (λ name. name.now) c.args.known.now in
    let found : IsRequestOf c.head_part-front.result.now c.parse_request.new.headers c.in-Ok-Complete.head = search rules in
    let at = found.1 in
    answered (request_heads known) (requests_sound known) c.args.bytes.now found.0 c.in-Ok-Complete.head.len (request_read c.answer.result)
    record { reads = rw (← c.head_part-front.ensures) at.reads; whole = at.len; headers = few_fields c.head_part-front.result.now c.parse_request.new.headers c.in-Ok-Complete.head.headers found.0.fields at.fields c.parse_request.auto.headers }
    (c.answer.ensures found.0 at)

pub returns-else-bytes-lt-MAX_HEAD-clause-read : goal.returns-else-bytes-lt-MAX_HEAD-clause-read
returns-else-bytes-lt-MAX_HEAD-clause-read c =
    let front = c.head_part-front.result.now in
    let none : HasNoRequest front = search rules in
    let may : MayBecomeRequest front = search rules in
    inr (omega arith, rw (← c.head_part-front.ensures) (none, may))

pub returns-in-Ok-Complete-clause-within : goal.returns-in-Ok-Complete-clause-within
returns-in-Ok-Complete-clause-within c =
    let known = map (λ name. name.now) c.args.known.now in
    among (request_heads known) (requests_sound known) c.args.bytes.now (request_read c.answer.result) (returns-in-Ok-Complete-clause-read c)
