-- What is told is told behind all that was told before.
use Rattle.std.proofs.Common.{refl, subst}
use Rattle.ws_frame.specs.Devices.{watched}
use Rattle.ws_frame.specs.Watching.{has_failed}
use Rattle.ws_connection.specs.declared.serving.Served.{Served}
use Rattle.wst_services.specs.ServedLines.{PutsLine, connection_line}
use Rattle.wst_services.proofs.ServedLemmas.{puts_end, puts_full}
use Rattle.wst_services.proofs.served_lines.ServedLinesNewsSink.put.Goals as goal

pub returns-in-Ended : goal.returns-in-Ended
returns-in-Ended g c = puts_end g.W.Write.contents g.F.Write.contents c.args.self.now
    (record {
      alloc = c.args.self.now.alloc;
      writer = record {
        ref_ptr = c.args.self.now.writer.ref_ptr;
        ghost_name = c.args.self.now.writer.ghost_name;
        now = c.put_line.new.writer;
      };
      faults = record {
        ref_ptr = c.args.self.now.faults.ref_ptr;
        ghost_name = c.args.self.now.faults.ghost_name;
        now = c.args.self.now.faults.now;
      };
    }) c.args.news
    c.in-Ended.number c.in-Ended.end c.put_line.result c.in-Ended.is
    (subst (λ (s : Served). PutsLine (connection_line c.in-Ended.number s) c.put_line.result
    (watched g.W.Write.contents c.args.self.now.writer.now c.put_line.new.writer)
    (has_failed c.args.self.now.writer.now)) c.served_as.ensures c.put_line.ensures) refl (refl, refl)

pub returns-in-Full : goal.returns-in-Full
returns-in-Full g c = puts_full g.W.Write.contents g.F.Write.contents c.args.self.now
    (record {
      alloc = c.args.self.now.alloc;
      writer = record {
        ref_ptr = c.args.self.now.writer.ref_ptr;
        ghost_name = c.args.self.now.writer.ghost_name;
        now = c.args.self.now.writer.now;
      };
      faults = record {
        ref_ptr = c.args.self.now.faults.ref_ptr;
        ghost_name = c.args.self.now.faults.ghost_name;
        now = c.tell.new.faults;
      };
    }) c.args.news c.in-Full.is refl
    c.tell.ensures.told (refl, refl)
