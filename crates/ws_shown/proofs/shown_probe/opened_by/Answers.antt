-- A probe comes to a stage by one event.
use Rattle.ws_handshake.specs.Probes.{probe_left, wanted_of}
use Rattle.ws_shown.specs.ShownProbes.{shown_left_at}
use Rattle.ws_shown.proofs.StageShownLemmas.{no_lines, no_report, opens_nearer}
use Rattle.ws_shown.proofs.shown_probe.opened_by.Goals as goal

pub returns-clause-comes : goal.returns-clause-comes
returns-clause-comes c = (
  no_report (wanted_of c.args.machine) c.args.event (no_lines c.args.machine) c.requires.may.1,
  (c.on_event.new.self, (c.in_ok-on_event.ensures.told, c.in_ok-stage.ensures.stage)),
)

pub returns-clause-nears : goal.returns-clause-nears
returns-clause-nears c = λ running. opens_nearer (probe_left c.on_event.new.self) (probe_left c.args.machine)
    (shown_left_at c.in_ok-stage.stage) (c.in_ok-on_event.ensures.nears running) c.in_ok-stage.ensures.left
