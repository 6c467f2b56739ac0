-- The lines of the run are written, and behind them it may be told what to type.
use Rattle.std.proofs.Common.{None, Option, Some, ap, inr, refl, rules, subst, sym, ◌≡◌, ◌∙◌}
use Rattle.ws_frame.specs.Devices.{watched}
use Rattle.ws_scripts.specs.declared.transcript.Transcript.{Transcript}
use Rattle.wst_clients.specs.ClientSends.{ScriptsOver}
use Rattle.wst_sockets.specs.declared.waits.Waits.{Waits}
use Rattle.wst_commands.specs.TimeLimits.{milliseconds_of}
use Rattle.ws_lines.specs.declared.transcript_lines.Showing.{Showing}
use Rattle.wst_clients.specs.ClientSends.{ShowsSent}
use Rattle.wst_run.proofs.ClientRunLemmas.{plan_sent, sends_shown, sends_stopped}
use Rattle.wst_run.proofs.clients_at.show_script.Goals as goal

pub returns-in-Err-clause-sends : goal.returns-in-Err-clause-sends
returns-in-Err-clause-sends g c =
    sends_stopped c.args.plan.now c.args.case.now c.end_of_lines.result c.failed.result
    (watched g.W.Write.contents c.args.writer.now c.show_client.new.writer)
    (watched g.F.Write.contents c.args.faults.now c.show_client.new.faults) c.requires.shows (sym c.failed.ensures)
    c.end_of_lines.ensures

pub returns-in_default-clause-sends : goal.returns-in_default-clause-sends
returns-in_default-clause-sends g c =
    let plan = c.args.plan.now in
    let case = c.args.case.now in
    let old = c.in_ok-visitors.visitors in
    let known = c.in_ok-visitors.ensures.are.is_known ∙ c.as_slice-known.ensures.names in
    let waits = c.in_ok-visitors.ensures.are.is_wait
    ∙ ap (λ (w : Waits). milliseconds_of w.client) c.waits_of-waits.ensures in
    let new = c.show_client.new.visitors in
    let faults = watched g.F.Write.contents c.args.faults.now c.show_client.new.faults in
    let none : c.in-Ok.sent ≡ None = search rules in
    let sent = subst (λ (s : Option Transcript). ScriptsOver g.L.Listener.did g.P.Poller.time c.script_rules-rules.result
    old new s faults) none c.in-Ok.ensures.scripts in
    inr (
      plan_sent g.L.Listener.did g.P.Poller.time old new plan case c.script_rules-rules.result
          c.script_rules-rules.ensures known waits None faults sent,
      subst (λ (s : Option Transcript). ShowsSent c.client_showing-showing.result s
          (watched g.W.Write.contents c.args.writer.now c.show_client.new.writer)) none c.in-Ok.ensures.shown,
    )

pub returns-clause-sends : goal.returns-clause-sends
returns-clause-sends g c =
    let plan = c.args.plan.now in
    let case = c.args.case.now in
    let old = c.in_ok-visitors.visitors in
    let known = c.in_ok-visitors.ensures.are.is_known ∙ c.as_slice-known.ensures.names in
    let waits = c.in_ok-visitors.ensures.are.is_wait
    ∙ ap (λ (w : Waits). milliseconds_of w.client) c.waits_of-waits.ensures in
    let new = c.show_client.new.visitors in
    let transcript = c.in-Some.transcript in
    let output = watched g.W.Write.contents c.args.writer.now c.show_client.new.writer in
    let faults = watched g.F.Write.contents c.args.faults.now c.show_client.new.faults in
    let sent = subst (λ (s : Option Transcript). ScriptsOver g.L.Listener.did g.P.Poller.time c.script_rules-rules.result
    old new s faults) c.in-Some.is c.in-Ok.ensures.scripts in
    let shown = subst (λ (s : Showing). ShowsSent s (Some transcript) output) c.client_showing-showing.ensures
    (subst (λ (s : Option Transcript). ShowsSent c.client_showing-showing.result s output) c.in-Some.is
    c.in-Ok.ensures.shown) in
    sends_shown plan case transcript output faults
    (watched g.F.Write.contents c.show_client.new.faults c.hint_echo.new.faults)
    (plan_sent g.L.Listener.did g.P.Poller.time old new plan case c.script_rules-rules.result
    c.script_rules-rules.ensures known waits (Some transcript) faults sent) c.requires.shows shown refl
    c.hint_echo.ensures.still c.hint_echo.ensures.hints
