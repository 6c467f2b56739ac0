-- A block is copied whole, and its front counts.
use Rattle.std.proofs.Common.{arith, ◌∙◌, ◌+◌, ◌-◌, ◌++◌, List, ℕ, ap, length, take}
use Rattle.ws_frame.proofs.LineLemmas.{front_put}
use Rattle.ws_frame.proofs.room.Room.push_front.Goals as goal

pub returns-clause-pushed : goal.returns-clause-pushed
returns-clause-pushed c =
    let at = c.self.inside.len in
    let bytes = c.self.inside.bytes in
    let block = c.args.block.now in
    front_put at ((at + length block) - at) c.args.len bytes c.copy_from_slice.new.self (omega arith) (omega (arith, c.requires.front, c.copy_from_slice.ensures.len))
    ∙ ap (λ (t : List ℕ). take at bytes ++ take c.args.len t) c.copy_from_slice.ensures.after
    ∙ ap (λ (t : List ℕ). t ++ take c.args.len block) c.self.view_is
