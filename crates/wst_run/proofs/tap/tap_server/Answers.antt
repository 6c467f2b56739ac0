-- Connections are tapped as the words ask for it, and how that ended is told behind what was told before.
use Rattle.std.proofs.Common.{inl, refl}
use Rattle.ws_frame.specs.Watching.{has_failed, inner_of}
use Rattle.wst_run.proofs.tap.tap_server.Goals as goal

pub returns : goal.returns
returns g c = inl (
  record {
    listen = c.args.options.now.listen;
    server = c.args.server;
    at_once = c.in-Some.at_once;
    count = c.args.options.now.count;
    style = c.args.options.now.style;
    time = c.args.options.now.time;
  },
  (refl, refl, refl, refl, refl, c.in-Some.ensures),
  (
    c.tap_over-ended.result,
    g.F.Write.contents (inner_of c.tap_over-ended.new.faults),
    has_failed c.tap_over-ended.new.faults,
    c.tap_over-ended.ensures,
    c.end_run.ensures.ends,
  ),
)
