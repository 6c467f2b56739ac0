-- Once the loop has passed all events of the piece, the lines of all of them are told.
use Rattle.std.proofs.Common.{◌∙◌, ◌++◌, List, ap, arith, string_bytes}
use Rattle.std.proofs.lemmas.List.{take_all}
use Rattle.ws_session.specs.declared.event.PlacedEvent.{PlacedEvent}
use Rattle.ws_calls.specs.InnerSteps.{told_behind}
use Rattle.ws_calls.proofs.report_lines.tell_events.Goals as goal

pub returns : goal.returns
returns c =
    c.loop-placed.invariant
    ∙ ap (λ (l : List PlacedEvent). string_bytes c.args.lines.now ++ told_behind c.args.start l) (take_all c.loop-placed.placed-index c.args.events.now (omega (arith, c.loop-placed-test.false)))
