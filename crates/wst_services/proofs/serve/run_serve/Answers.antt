-- How the serving ended is told behind what was told of it.
use Rattle.ws_frame.specs.Watching.{has_failed, inner_of}
use Rattle.wst_services.proofs.serve.run_serve.Goals as goal

pub returns : goal.returns
returns g c = record {
  serves = (
    c.serve_at-ended.result,
    g.F.Write.contents (inner_of c.serve_at-ended.new.faults),
    has_failed c.serve_at-ended.new.faults,
    c.serve_at-ended.ensures,
    c.end_run.ensures.ends,
  );
}
