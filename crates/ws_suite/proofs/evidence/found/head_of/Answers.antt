-- The header at the front is the one that is read.
use Rattle.std.proofs.Common.{◌∙◌}
use Rattle.ws_suite.proofs.FoundLemmas.{header_is_read, header_is_there}
use Rattle.ws_suite.proofs.evidence.found.head_of.Goals as goal

pub returns-in-Need : goal.returns-in-Need
returns-in-Need c = λ header more is e. absurd (header_is_there c.args.bytes.now c.in-Need.ensures header more is e)

pub returns-in-Got : goal.returns-in-Got
returns-in-Got c = λ header more is e.
    let read = header_is_read c.args.bytes.now c.in-Got.header c.in-Got.used c.in-Got.ensures.0 header more is e in
    (read.0, c.key.ensures.value ∙ read.1)

pub returns-in-BadLength : goal.returns-in-BadLength
returns-in-BadLength c = λ header more is e.
    let read = header_is_read c.args.bytes.now c.in-BadLength.header c.in-BadLength.used c.in-BadLength.ensures.0
    header more is e in
    (read.0, c.key-in-BadLength.ensures.value ∙ read.1)
