-- The capture of the run is written.
use Rattle.std.proofs.Common.{IsErrAnd, None, Option, Some, ap, inr, refl, rules, subst, ◌≡◌, ◌∙◌}
use Rattle.std.proofs.KnownBytes.{Keeps-refl}
use Rattle.ws_frame.specs.Devices.{watched}
use Rattle.ws_frame.specs.Watching.{inner_of}
use Rattle.ws_scripts.specs.declared.transcript.Transcript.{Transcript}
use Rattle.wst_clients.specs.ClientSends.{ScriptsOver}
use Rattle.wst_sockets.specs.declared.waits.Waits.{Waits}
use Rattle.wst_commands.specs.TimeLimits.{milliseconds_of}
use Rattle.ws_scripts.specs.Captures2.{written_capture2}
use Rattle.wst_commands.proofs.Delivering.{delivers_same}
use Rattle.wst_commands.specs.declared.exit.Exit.TheVariants.{Done}
use Rattle.wst_commands.specs.declared.fault.Fault.TheVariants.{NoMemory}
use Rattle.wst_clients.specs.ClientCaptures.{client_capture}
use Rattle.wst_run.proofs.ClientRunLemmas.{plan_sent, sends_captured, sends_fault, sends_lacks}
use Rattle.wst_run.proofs.clients_at.capture_script.Goals as goal

pub returns-in_default-clause-sends : goal.returns-in_default-clause-sends
returns-in_default-clause-sends g c =
    let plan = c.args.plan.now in
    let case = c.args.case.now in
    let old = c.in_ok-visitors.visitors in
    let known = c.in_ok-visitors.ensures.are.is_known ∙ c.as_slice-known.ensures.names in
    let waits = c.in_ok-visitors.ensures.are.is_wait
    ∙ ap (λ (w : Waits). milliseconds_of w.client) c.waits_of-waits.ensures in
    let new = c.script_client.new.visitors in
    let faults = watched g.F.Write.contents c.args.faults.now c.script_client.new.faults in
    let none : c.in_ok-sent.sent ≡ None = search rules in
    let sent = subst (λ (s : Option Transcript). ScriptsOver g.L.Listener.did g.P.Poller.time c.script_rules-rules.result
    old new s faults) none c.in_ok-sent.ensures.scripts in
    inr (
      plan_sent g.L.Listener.did g.P.Poller.time old new plan case c.script_rules-rules.result
          c.script_rules-rules.ensures known waits None faults sent,
      Keeps-refl (g.W.Write.contents (inner_of c.args.writer.now)),
    )

pub returns-clause-sends : goal.returns-clause-sends
returns-clause-sends g c =
    let plan = c.args.plan.now in
    let case = c.args.case.now in
    let old = c.in_ok-visitors.visitors in
    let known = c.in_ok-visitors.ensures.are.is_known ∙ c.as_slice-known.ensures.names in
    let waits = c.in_ok-visitors.ensures.are.is_wait
    ∙ ap (λ (w : Waits). milliseconds_of w.client) c.waits_of-waits.ensures in
    let new = c.script_client.new.visitors in
    let transcript = c.in-Some.transcript in
    let output = watched g.W.Write.contents c.args.writer.now c.deliver.new.writer in
    let faults = watched g.F.Write.contents c.args.faults.now c.script_client.new.faults in
    let sent = subst (λ (s : Option Transcript). ScriptsOver g.L.Listener.did g.P.Poller.time c.script_rules-rules.result
    old new s faults) c.in-Some.is c.in_ok-sent.ensures.scripts in
    let text : c.as_slice.result.now ≡ written_capture2 (client_capture transcript) = search rules in
    let told = delivers_same Done Done c.as_slice.result.now (written_capture2 (client_capture transcript))
    c.deliver.result output refl text c.deliver.ensures in
    sends_captured plan case transcript c.deliver.result output faults
    (plan_sent g.L.Listener.did g.P.Poller.time old new plan case c.script_rules-rules.result
    c.script_rules-rules.ensures known waits (Some transcript) faults sent) c.requires.captures told

pub returns-in_err-sent-clause-sends : goal.returns-in_err-sent-clause-sends
returns-in_err-sent-clause-sends g c =
    sends_fault c.args.plan.now c.args.case.now c.from_residual-in_err-sent.result c.in_err-sent.field-0.0
    (watched g.W.Write.contents c.args.writer.now c.args.writer.now)
    (watched g.F.Write.contents c.args.faults.now c.script_client.new.faults) c.from_residual-in_err-sent.ensures.1
    c.in_err-sent.ensures.why (Keeps-refl (g.W.Write.contents (inner_of c.args.writer.now)))

pub returns-in_err-text-clause-sends : goal.returns-in_err-text-clause-sends
returns-in_err-text-clause-sends g c =
    let ended = c.from_residual-in_err-text.result in
    let lacks : IsErrAnd ended (λ fault. fault ≡ NoMemory) = search rules in
    sends_lacks c.args.plan.now c.args.case.now ended (watched g.W.Write.contents c.args.writer.now c.args.writer.now)
    (watched g.F.Write.contents c.args.faults.now c.script_client.new.faults) lacks
    (Keeps-refl (g.W.Write.contents (inner_of c.args.writer.now)))
