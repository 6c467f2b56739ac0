-- A stream that ends while bytes of a frame are kept is cut there, and these bytes have no bad length.
use Rattle.std.proofs.Common.{refl}
use Rattle.ws_frame.proofs.Runs.{some_left_over}
use Rattle.ws_frame.proofs.Partials.{kept_is_no_bad_length}
use Rattle.ws_frame.proofs.showing.Run.end_of_input.Goals as goal

pub returns-else-is_empty : goal.returns-else-is_empty
returns-else-is_empty c = λ rest kept.
    let partial = c.args.self.now.partial in
    (refl, some_left_over rest c.is_empty.result (c.is_empty.ensures rest kept) c.if-is_empty.false, kept_is_no_bad_length rest partial.header partial.first partial.to_come kept)
