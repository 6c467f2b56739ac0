-- The machine begins with the request and the pieces of the script's turns.
use Rattle.std.proofs.Common.{◌∙◌, ℕ, ap}
use Rattle.ws_handshake.specs.Probes.{is_opening}
use Rattle.ws_handshake.specs.declared.probe_machine.ProbeStage.{ProbeStage}
use Rattle.ws_connection.specs.Probing.{asked_over, plan_asked}
use Rattle.ws_connection.specs.UpgradeRequests.{request_value}
use Rattle.ws_connection.proofs.driving.opened_by.Goals as goal

pub returns : goal.returns
returns g c =
    let begins = c.in_ok-machine.ensures.begins in
    record {
      start = c.in_ok-machine.machine;
      now = c.open_over.new.machine;
      stands = c.into_stage.ensures;
      asked = begins.asked ∙ ap (λ (n : ℕ). asked_over (plan_asked c.args.asked.now)
          (request_value c.args.asked.now.request) n) c.allowance.ensures;
      bytes = begins.bytes;
      has_bytes = begins.has_bytes;
      request_is = begins.request_is;
      none_read = begins.none_read;
      over = c.in_ok-open_over.ensures.opens;
      is_decided = ap (λ (s : ProbeStage). is_opening s) c.into_stage.ensures ∙ c.in_ok-open_over.ensures.decided;
    }
