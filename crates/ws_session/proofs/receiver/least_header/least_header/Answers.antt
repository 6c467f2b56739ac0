-- The header read of the first bytes, filled up, has the least payload of all headers that begin with them.
use Rattle.ws_session.proofs.LeastHeaders.{least_of_bytes}
use Rattle.ws_session.proofs.receiver.least_header.least_header.Goals as goal

pub returns-in-Got : goal.returns-in-Got
returns-in-Got c = least_of_bytes c.args.role c.args.start.now c.least_bytes-bytes.result c.args.least c.requires.short
    c.requires.begun c.least_bytes-bytes.ensures c.in-Got.header c.in-Got.used c.in-Got.ensures.0 c.requires.unfinished

pub returns-in-BadLength : goal.returns-in-BadLength
returns-in-BadLength c = least_of_bytes c.args.role c.args.start.now c.least_bytes-bytes.result c.args.least
    c.requires.short c.requires.begun c.least_bytes-bytes.ensures c.in-BadLength.header c.in-BadLength.used
    c.in-BadLength.ensures.0 c.requires.unfinished
