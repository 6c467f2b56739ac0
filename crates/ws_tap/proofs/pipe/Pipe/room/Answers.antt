-- No more may come where something is held.
use Rattle.std.proofs.Common.{◌≡◌, ap, sym, arith, drop}
use Rattle.ws_tap.specs.Piping.{PipeValue}
use Rattle.ws_tap.proofs.PipeLemmas.{no_room_where_held, held_len}
use Rattle.ws_tap.proofs.pipe.Pipe.room.Goals as goal

pub returns-then-self-len : goal.returns-then-self-len
returns-then-self-len c =
    let pipe = c.self.inside in
    let held = c.args.self.now.held in
    let is : drop pipe.taken pipe.came ≡ held = ap (λ (p : PipeValue). p.held) c.self.view_is in
    let len = held_len pipe.taken pipe.came held c.self.invariant.1 (sym is) in
    record {
      room = no_room_where_held held c.args.self.now.stage c.args.self.now.total (omega
          (arith, len, c.len.ensures, c.if-self-len.true));
    }
