-- Of sixteen bytes that are copied the first so many count.
use Rattle.ws_frame.proofs.LineLemmas.{front_of_few}
use Rattle.ws_frame.proofs.first_bytes.FirstBytes.of_front.Goals as goal

pub returns-then-bytes-ge-SHOWN : goal.returns-then-bytes-ge-SHOWN
returns-then-bytes-ge-SHOWN c = front_of_few c.min.result c.args.count c.args.bytes.now c.copy_from_slice.new.self c.min.ensures c.copy_from_slice.ensures.after
