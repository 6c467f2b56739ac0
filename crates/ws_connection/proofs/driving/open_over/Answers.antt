-- Each thing that is told is one call more, until the head of the answer is decided.
use Rattle.std.proofs.Common.{◌≡◌, ◌∙◌, ap, arith, sym, true}
use Rattle.ws_handshake.specs.Probes.{is_opening, wanted_at}
use Rattle.ws_handshake.specs.declared.probe_machine.ProbeStage.{ProbeStage}
use Rattle.ws_connection.proofs.OpeningLemmas.{nothing_opened, opens_at, opens_more, opens_running}
use Rattle.ws_connection.proofs.driving.open_over.Goals as goal

pub steps-init : goal.steps-init
steps-init g c = record {
  opens = nothing_opened c.args.machine.now c.args.connection.now c.requires.opening c.requires.told;
  goes_on = c.requires.goes_on;
  room = omega arith;
}

pub serve-requires-clause-undone : goal.serve-requires-clause-undone
serve-requires-clause-undone g c =
    let opening : is_opening c.steps.machine.stage ≡ true = sym c.is_opening.ensures ∙ c.steps-test.true in
    ap (λ (s : ProbeStage). (wanted_at s c.steps.machine.rest c.steps.machine.read).done)
    (opens_at c.steps.machine.stage opening)

pub steps-preserved : goal.steps-preserved
steps-preserved g c =
    let opening : is_opening c.steps.machine.stage ≡ true = sym c.is_opening.ensures ∙ c.steps-test.true in
    record {
      opens = opens_more c.args.machine.now c.steps.machine c.args.connection.now c.steps.connection opening
          c.steps.invariant.opens c.serve.new.machine c.serve.new.stream c.in_ok-serve.ensures.goes_on
          c.in_ok-serve.ensures.served;
      goes_on = c.in_ok-serve.ensures.goes_on;
      room = omega (arith, c.steps.invariant.room, c.in_ok-serve.ensures.len);
    }

pub steps-smaller : goal.steps-smaller
steps-smaller g c =
    let opening : is_opening c.steps.machine.stage ≡ true = sym c.is_opening.ensures ∙ c.steps-test.true in
    c.in_ok-serve.ensures.nears (opens_running c.args.machine.now c.steps.machine c.args.connection.now
    c.steps.connection opening c.steps.invariant.opens)
