-- None is where none is empty, or it was told that no client can be taken.
use Rattle.std.proofs.Common.{◌∙◌, ap}
use Rattle.ws_loops.specs.Looping.{loop_value}
use Rattle.ws_loops.specs.declared.inside.Door.{Door}
use Rattle.ws_loops.proofs.ListenLemmas.{place_so}
use Rattle.ws_loops.proofs.listening.place_to_ask.Goals as goal

pub returns-clause-place : goal.returns-clause-place
returns-clause-place g c = place_so (loop_value c.free_inside.new.inside) c.free_inside.result c.args.over
    c.free_inside.ensures.free (ap (λ (d : Door). d.deaf) c.free_inside.ensures.deaf ∙ c.if-inside.false)
