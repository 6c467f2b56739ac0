-- Each word has one header more; one that is not parted stops them.
use Rattle.std.proofs.Common.{arith}
use Rattle.ws_connection.proofs.HeaderLemmas.{all_headers, no_headers, not_all_parted, one_header_more}
use Rattle.ws_connection.proofs.request_headers.headers_in.Goals as goal

pub loop-word-init : goal.loop-word-init
loop-word-init c = no_headers c.args.words.now c.new-headers.result.items c.new-headers.ensures.items

pub returns-in_default : goal.returns-in_default
returns-in_default c = not_all_parted c.args.words.now c.loop-word.word-index _ c.loop-word-test.true c.in_default.ensures

pub loop-word-preserved : goal.loop-word-preserved
loop-word-preserved c =
    let (pair, parted) = c.in-Some.ensures in
    one_header_more c.args.words.now c.loop-word.word-index _ c.loop-word.headers.items c.push.new.self.items c.in-Some.header
    c.loop-word-test.true pair parted c.in_ok-push.ensures.items c.loop-word.invariant

pub returns : goal.returns
returns c = all_headers c.args.words.now c.loop-word.word-index c.loop-word.headers.items (omega (arith, c.loop-word-test.false)) c.loop-word.invariant
