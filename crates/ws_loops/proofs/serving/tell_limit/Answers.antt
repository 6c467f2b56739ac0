-- A write that is late has failed; else what is waited for is late, and nothing came.
use Rattle.std.proofs.Common.{◌∙◌, sym}
use Rattle.ws_machines.specs.Told.Told.{NothingCame, WriteFailed}
use Rattle.ws_loops.proofs.StepLemmas.{passed_so, wait_is_late}
use Rattle.ws_loops.proofs.serving.tell_limit.Goals as goal

pub returns-then-is_write_late : goal.returns-then-is_write_late
returns-then-is_write_late g c = record {
  step = passed_so g.M.Machine.agrees g.M.Machine.wants g.S.NonBlocking.did g.M.Machine.left c.args.now c.args.slot.now
      c.tell.new.slot WriteFailed c.in_ok-tell.ensures.told c.in_ok-tell.ensures.kept
      (c.requires.free, (c.requires.read, (c.requires.written, sym c.is_write_late.ensures ∙ c.if-is_write_late.true)));
}

pub returns : goal.returns
returns g c = record {
  step = passed_so g.M.Machine.agrees g.M.Machine.wants g.S.NonBlocking.did g.M.Machine.left c.args.now c.args.slot.now
      c.tell-2.new.slot NothingCame c.in_ok-tell-2.ensures.told c.in_ok-tell-2.ensures.kept (
        c.requires.free,
        (
          c.requires.read,
          (
            c.requires.written,
            wait_is_late (g.M.Machine.wants c.args.slot.now.machine) c.args.slot.now.pace c.args.now
                c.requires.is_due c.requires.free c.requires.read c.requires.written
                (sym c.is_write_late.ensures ∙ c.if-is_write_late.false),
          ),
        ),
      );
}
