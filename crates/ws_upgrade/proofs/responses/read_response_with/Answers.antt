-- What the parser finds at the front is answered as a response there, and where it finds none more bytes may make one.
use Rattle.std.proofs.Common.{rules, arith, inr, map}
use Rattle.httparse.specs.Spans.{IsResponseOf}
use Rattle.httparse.specs.Grammar.{HasNoResponse, MayBecomeResponse}
use Rattle.ws_upgrade.specs.Reading.{response_heads, response_read}
use Rattle.ws_upgrade.proofs.HeadCheck.{few_fields, answered, among, responses_sound}
use Rattle.ws_upgrade.proofs.responses.read_response_with.Goals as goal

pub returns-in-Ok-Complete-clause-read : goal.returns-in-Ok-Complete-clause-read
returns-in-Ok-Complete-clause-read c =
    let offers = map (λ name. name.now) c.args.offers.now in
    let found : IsResponseOf c.head_part-front.result.now c.parse_response.new.headers c.in-Ok-Complete.head = search rules in
    let at = found.1 in
    answered (response_heads c.args.nonce offers) (responses_sound c.args.nonce offers) c.args.bytes.now found.0 c.in-Ok-Complete.head.len (response_read c.answer.result)
    record { reads = rw (← c.head_part-front.ensures) at.reads; whole = at.len; headers = few_fields c.head_part-front.result.now c.parse_response.new.headers c.in-Ok-Complete.head.headers found.0.fields at.fields c.parse_response.auto.headers }
    (c.answer.ensures found.0 at)

pub returns-else-bytes-lt-MAX_HEAD-clause-read : goal.returns-else-bytes-lt-MAX_HEAD-clause-read
returns-else-bytes-lt-MAX_HEAD-clause-read c =
    let front = c.head_part-front.result.now in
    let none : HasNoResponse front = search rules in
    let may : MayBecomeResponse front = search rules in
    inr (omega arith, rw (← c.head_part-front.ensures) (none, may))

pub returns-in-Ok-Complete-clause-within : goal.returns-in-Ok-Complete-clause-within
returns-in-Ok-Complete-clause-within c =
    let offers = map (λ name. name.now) c.args.offers.now in
    among (response_heads c.args.nonce offers) (responses_sound c.args.nonce offers) c.args.bytes.now (response_read c.answer.result) (returns-in-Ok-Complete-clause-read c)
