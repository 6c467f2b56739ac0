-- The headers of the words so far are kept, and each of these is parted.
use Rattle.ws_connection.proofs.HeaderLemmas.{AreHeadersSoFar}
use Rattle.ws_connection.proofs.request_headers.headers_in.Given as goal

abbrev pub invariant-loop-word : goal.invariant-loop-word
invariant-loop-word l = AreHeadersSoFar l.words l.word-index l.headers.items
