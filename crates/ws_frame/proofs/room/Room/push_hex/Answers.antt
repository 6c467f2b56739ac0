-- Of the digits of all bytes a front is put.
use Rattle.std.proofs.Common.{◌∙◌, ◌++◌, List, ℕ, ap}
use Rattle.ws_formats.proofs.DigitLanes.{hex_front}
use Rattle.ws_frame.proofs.room.Room.push_hex.Goals as goal

pub returns-clause-pushed : goal.returns-clause-pushed
returns-clause-pushed c =
    c.push_front.ensures.pushed
    ∙ ap (λ (t : List ℕ). c.args.self.now ++ t) (hex_front c.args.count _ c.args.bytes c.digits_of.ensures.pairs)
