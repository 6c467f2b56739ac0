-- What is pushed stands after the bytes, and zeros after it.
use Rattle.std.proofs.Common.{◌+◌, ◌-◌, length, arith}
use Rattle.ws_base.proofs.Padded.{pushed, pushed_padded}
use Rattle.ws_base.proofs.packed_bytes.PackedBytes.push.Goals as goal

pub invariant_of-self : goal.invariant_of-self
invariant_of-self g c =
    pushed_padded g.row.N c.self.inside.len (c.self.inside.len + length c.args.more.now - c.self.inside.len)
    c.self.inside.bytes c.args.self.now c.copy_from_slice.new.self c.args.more.now c.self.invariant c.self.view_is
    c.copy_from_slice.ensures.after (omega arith) c.requires.room

pub returns : goal.returns
returns g c =
    pushed g.row.N c.self.inside.len (c.self.inside.len + length c.args.more.now - c.self.inside.len)
    c.self.inside.bytes c.args.self.now c.copy_from_slice.new.self c.args.more.now c.self.invariant c.self.view_is
    c.copy_from_slice.ensures.after
