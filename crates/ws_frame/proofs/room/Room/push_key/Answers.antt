-- The key stands at the front of its lanes, and so do its digits.
use Rattle.std.proofs.Common.{◌∙◌, ◌++◌, List, ℕ, ap, length, ◌≡◌, rules}
use Rattle.ws_frame.specs.Lines.{hex}
use Rattle.ws_frame.proofs.LineLemmas.{key_in_front}
use Rattle.ws_formats.proofs.DigitLanes.{hex_front}
use Rattle.ws_frame.proofs.room.Room.push_key.Goals as goal

pub returns-clause-pushed : goal.returns-clause-pushed
returns-clause-pushed c =
    let key = c.args.key in
    let lanes = c.sixteen_lanes.result in
    let long = c.sixteen_lanes.ensures.len in
    let are = c.sixteen_lanes.ensures.lanes in
    let four : length key ≡ 4 = search rules in
    c.push.ensures.pushed
    ∙ ap (λ (t : List ℕ). c.args.self.now ++ t)
    (hex_front 4 _ lanes c.digits_of.ensures.pairs ∙ ap (λ (t : List ℕ). hex t) (key_in_front key lanes four long are))
