-- Nothing has passed, and nothing was told.
use Rattle.std.proofs.Common.{[], refl}
use Rattle.ws_tap.proofs.PipeLemmas.{pipe_is_new}
use Rattle.ws_tap.proofs.tap.Tap.new.Goals as goal

pub returns : goal.returns
returns c = record {
  begun = record {
    client = pipe_is_new c.new-2.result c.new-2.ensures;
    server = pipe_is_new c.new-3.result c.new-3.ensures;
    first = refl;
    parts = [];
    lines = c.in_ok-lines.ensures.begun;
    all = refl;
  };
}
