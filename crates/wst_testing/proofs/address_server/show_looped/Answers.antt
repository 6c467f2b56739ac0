-- What came of a case that is shown is what its machine gives, and its lines are those that were taken and the last.
use Rattle.std.proofs.Common.{◌≡◌, ◌∙◌, ℕ, List, Bool, Some, false, rules, subst, sym}
use Rattle.ws_connection.specs.Probing.{BeginsProbe, bytes_by_turn}
use Rattle.ws_connection.specs.UpgradeRequests.{request_value}
use Rattle.ws_frame.specs.Devices.{watched}
use Rattle.ws_frame.specs.Watching.{has_failed}
use Rattle.ws_frame.specs.declared.watching.Watched.{Watched}
use Rattle.ws_handshake.specs.Probes.{ProbeValue}
use Rattle.ws_networks.specs.Meetings.{HasMetShowing}
use Rattle.ws_networks.specs.declared.bounds.Limits.{Limits}
use Rattle.ws_shown.specs.ShownProbes.{ShownGives, ShownValue, WasShown, shown_wants}
use Rattle.ws_wire.specs.declared.role.Role.TheVariants.{Server}
use Rattle.wst_testing.specs.LineOutputs.{HasWrittenTaken, untaken_lines}
use Rattle.wst_testing.specs.Servers.{asked_within, limits_of_server}
use Rattle.wst_testing.specs.declared.line_output.LineOutput.{LineOutput}
use Rattle.wst_testing.proofs.OutputLemmas.{none_taken, wrote_rest}
use Rattle.wst_testing.proofs.ShownLoopLemmas.{meets_shown_so, shows_because, shows_meeting, took_so}
use Rattle.wst_testing.proofs.address_server.show_looped.Goals as goal

pub returns-clause-meets : goal.returns-clause-meets
returns-clause-meets g c =
    let asked = c.args.job.asked.now in
    let bounds = c.args.job.bounds in
    let server = asked_within asked bounds in
    let start : ShownValue = c.new.result in
    let asking : ProbeValue = c.in_ok-asking.asking in
    let begins = subst (λ (b : Bool). BeginsProbe (record { tested = Server; expected = asked.expected; timeouts = b })
    (bytes_by_turn c.args.job.case.now (Some asked.key)) (request_value asked.request) bounds.budget asking)
    c.requires.timeouts c.in_ok-asking.ensures.begins in
    let heard = λ (first now : LineOutput g.row.W.Denot) (taken : List (ℕ × List ℕ)). HasWrittenTaken first.at now.at taken
    first.writer.ghost_name now.writer.ghost_name (watched g.W.Write.contents first.writer.now now.writer.now) in
    let did = g.N.Stream.NonBlocking.did in
    let does = g.N.Network.did in
    let from = g.P.Poller.time c.args.poller.now in
    let to = g.P.Poller.time c.run_at.new.poller in
    let old = c.args.network.now in
    let new = c.run_at.new.network in
    let name = c.args.job.address.now in
    let met = c.in_ok-met.met in
    let shows = subst (λ (l : Limits). HasMetShowing heard c.new-sink.result c.run_at.new.sink WasShown
    (λ (now : ShownValue). shown_wants now) ShownGives did does l from to old new name start met) c.limits.ensures
    c.in_ok-met.ensures.shows in
    meets_shown_so server asked.key c.args.job.case.now start asking c.new.ensures.stage begins heard c.new-sink.result
    c.run_at.new.sink did does from to old new name met c.in_ok-meeting.meeting shows c.in_ok-meeting.ensures.meeting

pub returns-clause-shown : goal.returns-clause-shown
returns-clause-shown g c =
    let asked = c.args.job.asked.now in
    let bounds = c.args.job.bounds in
    let server = asked_within asked bounds in
    let start : ShownValue = c.new.result in
    let asking : ProbeValue = c.in_ok-asking.asking in
    let begins = subst (λ (b : Bool). BeginsProbe (record { tested = Server; expected = asked.expected; timeouts = b })
    (bytes_by_turn c.args.job.case.now (Some asked.key)) (request_value asked.request) bounds.budget asking)
    c.requires.timeouts c.in_ok-asking.ensures.begins in
    let heard = λ (first now : LineOutput g.row.W.Denot) (taken : List (ℕ × List ℕ)). HasWrittenTaken first.at now.at taken
    first.writer.ghost_name now.writer.ghost_name (watched g.W.Write.contents first.writer.now now.writer.now) in
    let did = g.N.Stream.NonBlocking.did in
    let does = g.N.Network.did in
    let from = g.P.Poller.time c.args.poller.now in
    let to = g.P.Poller.time c.run_at.new.poller in
    let old = c.args.network.now in
    let new = c.run_at.new.network in
    let name = c.args.job.address.now in
    let met = c.in_ok-met.met in
    let shows = subst (λ (l : Limits). HasMetShowing heard c.new-sink.result c.run_at.new.sink WasShown
    (λ (now : ShownValue). shown_wants now) ShownGives did does l from to old new name start met) c.limits.ensures
    c.in_ok-met.ensures.shows in
    let works = subst (λ (w : Watched g.row.W.Denot). has_failed w ≡ false) (sym c.new-sink.ensures.writer) c.requires.works in
    let fresh = none_taken g.W.Write.contents c.new-sink.result.at c.new-sink.result.writer.now
    c.new-sink.result.writer.ghost_name works in
    let took = took_so heard c.new-sink.result c.run_at.new.sink did does (limits_of_server server) from to old new name
    start met fresh shows in
    let same = c.end_shown.ensures.borrow ∙ (took.put.name ∙ c.new-sink.ensures.borrow) in
    let left : c.end_shown.new.sink.writer.now ≡ c.writer-2-1.given.0 = search rules in
    let wrote = wrote_rest g.W.Write.contents c.args.writer.now c.new-sink.result.writer.now
    c.run_at.new.sink.writer.now c.end_shown.new.sink.writer.now c.writer-2-1.given.0 c.new-sink.result.writer.ghost_name
    c.run_at.new.sink.writer.ghost_name c.new-sink.result.at c.run_at.new.sink.at took.taken (untaken_lines met)
    c.new-sink.ensures.at c.new-sink.ensures.writer (sym left) took.put c.in_ok-meeting.ensures.last in
    shows_meeting did does (limits_of_server server) from to old new name start met c.in_ok-meeting.meeting
    (watched g.W.Write.contents c.args.writer.now c.writer-2-1.given.0) took.taken took.shows
    c.in_ok-meeting.ensures.meeting wrote.0 c.args.showing c.new.ensures.showing wrote.1

pub returns-clause-why : goal.returns-clause-why
returns-clause-why g c =
    let asked = c.args.job.asked.now in
    let bounds = c.args.job.bounds in
    let server = asked_within asked bounds in
    let start : ShownValue = c.new.result in
    let asking : ProbeValue = c.in_ok-asking.asking in
    let begins = subst (λ (b : Bool). BeginsProbe (record { tested = Server; expected = asked.expected; timeouts = b })
    (bytes_by_turn c.args.job.case.now (Some asked.key)) (request_value asked.request) bounds.budget asking)
    c.requires.timeouts c.in_ok-asking.ensures.begins in
    let heard = λ (first now : LineOutput g.row.W.Denot) (taken : List (ℕ × List ℕ)). HasWrittenTaken first.at now.at taken
    first.writer.ghost_name now.writer.ghost_name (watched g.W.Write.contents first.writer.now now.writer.now) in
    let did = g.N.Stream.NonBlocking.did in
    let does = g.N.Network.did in
    let from = g.P.Poller.time c.args.poller.now in
    let to = g.P.Poller.time c.run_at.new.poller in
    let old = c.args.network.now in
    let new = c.run_at.new.network in
    let name = c.args.job.address.now in
    let met = c.in_ok-met.met in
    let shows = subst (λ (l : Limits). HasMetShowing heard c.new-sink.result c.run_at.new.sink WasShown
    (λ (now : ShownValue). shown_wants now) ShownGives did does l from to old new name start met) c.limits.ensures
    c.in_ok-met.ensures.shows in
    let works = subst (λ (w : Watched g.row.W.Denot). has_failed w ≡ false) (sym c.new-sink.ensures.writer) c.requires.works in
    let fresh = none_taken g.W.Write.contents c.new-sink.result.at c.new-sink.result.writer.now
    c.new-sink.result.writer.ghost_name works in
    let took = took_so heard c.new-sink.result c.run_at.new.sink did does (limits_of_server server) from to old new name
    start met fresh shows in
    let same = c.end_shown.ensures.borrow ∙ (took.put.name ∙ c.new-sink.ensures.borrow) in
    let left : c.end_shown.new.sink.writer.now ≡ c.writer-2-1.given.0 = search rules in
    let wrote = wrote_rest g.W.Write.contents c.args.writer.now c.new-sink.result.writer.now
    c.run_at.new.sink.writer.now c.end_shown.new.sink.writer.now c.writer-2-1.given.0 c.new-sink.result.writer.ghost_name
    c.run_at.new.sink.writer.ghost_name c.new-sink.result.at c.run_at.new.sink.at took.taken (untaken_lines met)
    c.new-sink.ensures.at c.new-sink.ensures.writer (sym left) took.put c.in_ok-meeting.ensures.last in
    shows_because server asked.key c.args.job.case.now start asking c.new.ensures.stage begins did does from to old new
    name met c.in_ok-meeting.meeting (watched g.W.Write.contents c.args.writer.now c.writer-2-1.given.0) took.taken
    took.shows c.in_ok-meeting.ensures.meeting wrote.0
