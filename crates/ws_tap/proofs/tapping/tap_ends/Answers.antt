-- The tap stands before and after each step, until nothing is left for both directions or something fails.
use Rattle.std.proofs.Common.{◌≡◌, true, Some, Ok, Err, refl, sym, subst}
use Rattle.std.proofs.lemmas.Result.{err_from_is_err_and}
use Rattle.ws_frame.specs.Devices.{watched}
use Rattle.ws_frame.specs.Watching.{has_failed, inner_of}
use Rattle.ws_frame.specs.declared.show_fault.ShowFault.{ShowFault}
use Rattle.ws_tap.specs.Running.{TapsEnds, device_bytes, run_devices}
use Rattle.ws_tap.specs.Tapping.{is_tap_over}
use Rattle.ws_tap.specs.declared.tapping.TapEnd.TheVariants.{Ended, Broken}
use Rattle.ws_tap.proofs.RunLemmas.{client_fails, run_begins, run_begins_not, run_client, run_is_broken}
use Rattle.ws_tap.proofs.RunLemmas.{run_is_over, run_server, run_tells, server_fails}
use Rattle.ws_tap.proofs.tapping.tap_ends.Goals as goal

pub loop-init : goal.loop-init
loop-init g c = (
  c.requires.output_works,
  run_begins c.args.tapped c.in-Ok.tap (g.CR.Read.remaining c.args.client.now.reader)
      (g.SW.Write.contents c.args.server.now.writer) (g.SR.Read.remaining c.args.server.now.reader)
      (g.CW.Write.contents c.args.client.now.writer) (g.W.Write.contents (inner_of c.args.output.now))
      (g.SW.TapWriter.is_ended c.args.server.now.writer) (g.CW.TapWriter.is_ended c.args.client.now.writer)
      c.in-Ok.ensures.begun,
)

pub returns-in_default-clause-taps : goal.returns-in_default-clause-taps
returns-in_default-clause-taps g c =
    run_begins_not c.args.tapped (g.CR.Read.remaining c.args.client.now.reader)
    (g.SW.Write.contents c.args.server.now.writer) (g.SR.Read.remaining c.args.server.now.reader)
    (g.CW.Write.contents c.args.client.now.writer) (g.W.Write.contents (inner_of c.args.output.now))
    (has_failed c.args.output.now) c.requires.output_works

pub returns-in_default-clause-tells : goal.returns-in_default-clause-tells
returns-in_default-clause-tells g c =
    let still = run_devices
    (device_bytes (g.CR.Read.remaining c.args.client.now.reader) (g.CR.Read.remaining c.args.client.now.reader))
    (device_bytes (g.CW.Write.contents c.args.client.now.writer) (g.CW.Write.contents c.args.client.now.writer))
    (device_bytes (g.SR.Read.remaining c.args.server.now.reader) (g.SR.Read.remaining c.args.server.now.reader))
    (device_bytes (g.SW.Write.contents c.args.server.now.writer) (g.SW.Write.contents c.args.server.now.writer))
    (watched g.W.Write.contents c.args.output.now c.args.output.now) in
    run_tells c.args.tapped still (has_failed c.args.output.now) (Ok Broken) (returns-in_default-clause-taps g c)

pub pass-requires-clause-tapping : goal.pass-requires-clause-tapping
pass-requires-clause-tapping g c =
    let (works, r) = c.loop.invariant in
    (c.args.tapped, r.told, r.text, r.stands)

pub returns-in_err-sent-clause-taps : goal.returns-in_err-sent-clause-taps
returns-in_err-sent-clause-taps g c =
    let (works, r) = c.loop.invariant in
    let devices = run_devices
    (device_bytes (g.CR.Read.remaining c.args.client.now.reader) (g.CR.Read.remaining c.loop.client.reader))
    (device_bytes (g.CW.Write.contents c.args.client.now.writer) (g.CW.Write.contents c.loop.client.writer))
    (device_bytes (g.SR.Read.remaining c.args.server.now.reader) (g.SR.Read.remaining c.loop.server.reader))
    (device_bytes (g.SW.Write.contents c.args.server.now.writer) (g.SW.Write.contents c.loop.server.writer))
    (watched g.W.Write.contents c.args.output.now c.loop.output) in
    let reader = device_bytes (g.CR.Read.remaining c.loop.client.reader) (g.CR.Read.remaining c.pass.new.from) in
    let writer = device_bytes (g.SW.Write.contents c.loop.server.writer) (g.SW.Write.contents c.pass.new.to) in
    let out = watched g.W.Write.contents c.loop.output c.pass.new.output in
    let before = g.SW.TapWriter.is_ended c.loop.server.writer in
    let now = g.SW.TapWriter.is_ended c.pass.new.to in
    let at_client = g.CW.TapWriter.is_ended c.loop.client.writer in
    let passed = run_devices
    (device_bytes (g.CR.Read.remaining c.args.client.now.reader) (g.CR.Read.remaining c.pass.new.from))
    (device_bytes (g.CW.Write.contents c.args.client.now.writer) (g.CW.Write.contents c.loop.client.writer))
    (device_bytes (g.SR.Read.remaining c.args.server.now.reader) (g.SR.Read.remaining c.loop.server.reader))
    (device_bytes (g.SW.Write.contents c.args.server.now.writer) (g.SW.Write.contents c.pass.new.to))
    (watched g.W.Write.contents c.args.output.now c.pass.new.output) in
    let fails = client_fails c.args.tapped c.loop.tap c.pass.new.tap devices reader writer before now at_client out
    c.in_err-sent.field-0.0 r c.in_err-sent.ensures.passes refl refl refl in
    let e = err_from_is_err_and c.from_residual.result c.from_residual.ensures.1 in
    rw e.1 (subst (λ (f : ShowFault). TapsEnds c.args.tapped passed (has_failed c.pass.new.output) (Err f)) (sym e.2)
    fails)

pub returns-in_err-sent-clause-tells : goal.returns-in_err-sent-clause-tells
returns-in_err-sent-clause-tells g c =
    let passed = run_devices
    (device_bytes (g.CR.Read.remaining c.args.client.now.reader) (g.CR.Read.remaining c.pass.new.from))
    (device_bytes (g.CW.Write.contents c.args.client.now.writer) (g.CW.Write.contents c.loop.client.writer))
    (device_bytes (g.SR.Read.remaining c.args.server.now.reader) (g.SR.Read.remaining c.loop.server.reader))
    (device_bytes (g.SW.Write.contents c.args.server.now.writer) (g.SW.Write.contents c.pass.new.to))
    (watched g.W.Write.contents c.args.output.now c.pass.new.output) in
    run_tells c.args.tapped passed (has_failed c.pass.new.output) c.from_residual.result
    (returns-in_err-sent-clause-taps g c)

pub pass-requires-in-loop-clause-tapping : goal.pass-requires-in-loop-clause-tapping
pass-requires-in-loop-clause-tapping g c =
    let (works, r) = c.loop.invariant in
    let devices = run_devices
    (device_bytes (g.CR.Read.remaining c.args.client.now.reader) (g.CR.Read.remaining c.loop.client.reader))
    (device_bytes (g.CW.Write.contents c.args.client.now.writer) (g.CW.Write.contents c.loop.client.writer))
    (device_bytes (g.SR.Read.remaining c.args.server.now.reader) (g.SR.Read.remaining c.loop.server.reader))
    (device_bytes (g.SW.Write.contents c.args.server.now.writer) (g.SW.Write.contents c.loop.server.writer))
    (watched g.W.Write.contents c.args.output.now c.loop.output) in
    let reader = device_bytes (g.CR.Read.remaining c.loop.client.reader) (g.CR.Read.remaining c.pass.new.from) in
    let writer = device_bytes (g.SW.Write.contents c.loop.server.writer) (g.SW.Write.contents c.pass.new.to) in
    let out = watched g.W.Write.contents c.loop.output c.pass.new.output in
    let before = g.SW.TapWriter.is_ended c.loop.server.writer in
    let now = g.SW.TapWriter.is_ended c.pass.new.to in
    let at_client = g.CW.TapWriter.is_ended c.loop.client.writer in
    let (still, s) = run_client c.args.tapped c.loop.tap c.pass.new.tap devices reader writer before now at_client out
    c.in_ok-sent.sent r c.in_ok-sent.ensures.passes refl refl refl in
    (c.args.tapped, s.told, s.text, s.stands)

pub pass-requires-in-loop-clause-output_works : goal.pass-requires-in-loop-clause-output_works
pass-requires-in-loop-clause-output_works g c =
    let (works, r) = c.loop.invariant in
    let devices = run_devices
    (device_bytes (g.CR.Read.remaining c.args.client.now.reader) (g.CR.Read.remaining c.loop.client.reader))
    (device_bytes (g.CW.Write.contents c.args.client.now.writer) (g.CW.Write.contents c.loop.client.writer))
    (device_bytes (g.SR.Read.remaining c.args.server.now.reader) (g.SR.Read.remaining c.loop.server.reader))
    (device_bytes (g.SW.Write.contents c.args.server.now.writer) (g.SW.Write.contents c.loop.server.writer))
    (watched g.W.Write.contents c.args.output.now c.loop.output) in
    let reader = device_bytes (g.CR.Read.remaining c.loop.client.reader) (g.CR.Read.remaining c.pass.new.from) in
    let writer = device_bytes (g.SW.Write.contents c.loop.server.writer) (g.SW.Write.contents c.pass.new.to) in
    let out = watched g.W.Write.contents c.loop.output c.pass.new.output in
    let before = g.SW.TapWriter.is_ended c.loop.server.writer in
    let now = g.SW.TapWriter.is_ended c.pass.new.to in
    let at_client = g.CW.TapWriter.is_ended c.loop.client.writer in
    let (still, s) = run_client c.args.tapped c.loop.tap c.pass.new.tap devices reader writer before now at_client out
    c.in_ok-sent.sent r c.in_ok-sent.ensures.passes refl refl refl in
    still

pub returns-in_err-got-clause-taps : goal.returns-in_err-got-clause-taps
returns-in_err-got-clause-taps g c =
    let (works, r) = c.loop.invariant in
    let devices = run_devices
    (device_bytes (g.CR.Read.remaining c.args.client.now.reader) (g.CR.Read.remaining c.loop.client.reader))
    (device_bytes (g.CW.Write.contents c.args.client.now.writer) (g.CW.Write.contents c.loop.client.writer))
    (device_bytes (g.SR.Read.remaining c.args.server.now.reader) (g.SR.Read.remaining c.loop.server.reader))
    (device_bytes (g.SW.Write.contents c.args.server.now.writer) (g.SW.Write.contents c.loop.server.writer))
    (watched g.W.Write.contents c.args.output.now c.loop.output) in
    let reader = device_bytes (g.CR.Read.remaining c.loop.client.reader) (g.CR.Read.remaining c.pass.new.from) in
    let writer = device_bytes (g.SW.Write.contents c.loop.server.writer) (g.SW.Write.contents c.pass.new.to) in
    let out = watched g.W.Write.contents c.loop.output c.pass.new.output in
    let before = g.SW.TapWriter.is_ended c.loop.server.writer in
    let now = g.SW.TapWriter.is_ended c.pass.new.to in
    let at_client = g.CW.TapWriter.is_ended c.loop.client.writer in
    let (still, s) = run_client c.args.tapped c.loop.tap c.pass.new.tap devices reader writer before now at_client out
    c.in_ok-sent.sent r c.in_ok-sent.ensures.passes refl refl refl in
    let passed = run_devices
    (device_bytes (g.CR.Read.remaining c.args.client.now.reader) (g.CR.Read.remaining c.pass.new.from))
    (device_bytes (g.CW.Write.contents c.args.client.now.writer) (g.CW.Write.contents c.loop.client.writer))
    (device_bytes (g.SR.Read.remaining c.args.server.now.reader) (g.SR.Read.remaining c.loop.server.reader))
    (device_bytes (g.SW.Write.contents c.args.server.now.writer) (g.SW.Write.contents c.pass.new.to))
    (watched g.W.Write.contents c.args.output.now c.pass.new.output) in
    let back = device_bytes (g.SR.Read.remaining c.loop.server.reader) (g.SR.Read.remaining c.pass-in-loop.new.from) in
    let forth = device_bytes (g.CW.Write.contents c.loop.client.writer) (g.CW.Write.contents c.pass-in-loop.new.to) in
    let told = watched g.W.Write.contents c.pass.new.output c.pass-in-loop.new.output in
    let later = g.CW.TapWriter.is_ended c.pass-in-loop.new.to in
    let ended = run_devices
    (device_bytes (g.CR.Read.remaining c.args.client.now.reader) (g.CR.Read.remaining c.pass.new.from))
    (device_bytes (g.CW.Write.contents c.args.client.now.writer) (g.CW.Write.contents c.pass-in-loop.new.to))
    (device_bytes (g.SR.Read.remaining c.args.server.now.reader) (g.SR.Read.remaining c.pass-in-loop.new.from))
    (device_bytes (g.SW.Write.contents c.args.server.now.writer) (g.SW.Write.contents c.pass.new.to))
    (watched g.W.Write.contents c.args.output.now c.pass-in-loop.new.output) in
    let fails = server_fails c.args.tapped c.pass.new.tap c.pass-in-loop.new.tap passed back forth at_client later now
    told c.in_err-got.field-0.0 s c.in_err-got.ensures.passes refl refl refl in
    let e = err_from_is_err_and c.from_residual-in_err-got.result c.from_residual-in_err-got.ensures.1 in
    rw e.1 (subst (λ (f : ShowFault). TapsEnds c.args.tapped ended (has_failed c.pass-in-loop.new.output) (Err f))
    (sym e.2) fails)

pub returns-in_err-got-clause-tells : goal.returns-in_err-got-clause-tells
returns-in_err-got-clause-tells g c =
    let ended = run_devices
    (device_bytes (g.CR.Read.remaining c.args.client.now.reader) (g.CR.Read.remaining c.pass.new.from))
    (device_bytes (g.CW.Write.contents c.args.client.now.writer) (g.CW.Write.contents c.pass-in-loop.new.to))
    (device_bytes (g.SR.Read.remaining c.args.server.now.reader) (g.SR.Read.remaining c.pass-in-loop.new.from))
    (device_bytes (g.SW.Write.contents c.args.server.now.writer) (g.SW.Write.contents c.pass.new.to))
    (watched g.W.Write.contents c.args.output.now c.pass-in-loop.new.output) in
    run_tells c.args.tapped ended (has_failed c.pass-in-loop.new.output) c.from_residual-in_err-got.result
    (returns-in_err-got-clause-taps g c)

pub returns-in-Some-true-clause-taps : goal.returns-in-Some-true-clause-taps
returns-in-Some-true-clause-taps g c =
    let (works, r) = c.loop.invariant in
    let devices = run_devices
    (device_bytes (g.CR.Read.remaining c.args.client.now.reader) (g.CR.Read.remaining c.loop.client.reader))
    (device_bytes (g.CW.Write.contents c.args.client.now.writer) (g.CW.Write.contents c.loop.client.writer))
    (device_bytes (g.SR.Read.remaining c.args.server.now.reader) (g.SR.Read.remaining c.loop.server.reader))
    (device_bytes (g.SW.Write.contents c.args.server.now.writer) (g.SW.Write.contents c.loop.server.writer))
    (watched g.W.Write.contents c.args.output.now c.loop.output) in
    let reader = device_bytes (g.CR.Read.remaining c.loop.client.reader) (g.CR.Read.remaining c.pass.new.from) in
    let writer = device_bytes (g.SW.Write.contents c.loop.server.writer) (g.SW.Write.contents c.pass.new.to) in
    let out = watched g.W.Write.contents c.loop.output c.pass.new.output in
    let before = g.SW.TapWriter.is_ended c.loop.server.writer in
    let now = g.SW.TapWriter.is_ended c.pass.new.to in
    let at_client = g.CW.TapWriter.is_ended c.loop.client.writer in
    let (still, s) = run_client c.args.tapped c.loop.tap c.pass.new.tap devices reader writer before now at_client out
    c.in_ok-sent.sent r c.in_ok-sent.ensures.passes refl refl refl in
    let passed = run_devices
    (device_bytes (g.CR.Read.remaining c.args.client.now.reader) (g.CR.Read.remaining c.pass.new.from))
    (device_bytes (g.CW.Write.contents c.args.client.now.writer) (g.CW.Write.contents c.loop.client.writer))
    (device_bytes (g.SR.Read.remaining c.args.server.now.reader) (g.SR.Read.remaining c.loop.server.reader))
    (device_bytes (g.SW.Write.contents c.args.server.now.writer) (g.SW.Write.contents c.pass.new.to))
    (watched g.W.Write.contents c.args.output.now c.pass.new.output) in
    let back = device_bytes (g.SR.Read.remaining c.loop.server.reader) (g.SR.Read.remaining c.pass-in-loop.new.from) in
    let forth = device_bytes (g.CW.Write.contents c.loop.client.writer) (g.CW.Write.contents c.pass-in-loop.new.to) in
    let told = watched g.W.Write.contents c.pass.new.output c.pass-in-loop.new.output in
    let later = g.CW.TapWriter.is_ended c.pass-in-loop.new.to in
    let (again, t) = run_server c.args.tapped c.pass.new.tap c.pass-in-loop.new.tap passed back forth at_client later
    now
    told c.in_ok-got.got s c.in_ok-got.ensures.passes refl refl refl in
    let ended = run_devices
    (device_bytes (g.CR.Read.remaining c.args.client.now.reader) (g.CR.Read.remaining c.pass.new.from))
    (device_bytes (g.CW.Write.contents c.args.client.now.writer) (g.CW.Write.contents c.pass-in-loop.new.to))
    (device_bytes (g.SR.Read.remaining c.args.server.now.reader) (g.SR.Read.remaining c.pass-in-loop.new.from))
    (device_bytes (g.SW.Write.contents c.args.server.now.writer) (g.SW.Write.contents c.pass.new.to))
    (watched g.W.Write.contents c.args.output.now c.pass-in-loop.new.output) in
    let is : c.pass-in-loop.new.tap.first ≡ Some c.in-Some-true.role = sym c.in-Some-true.ensures.first in
    let over : is_tap_over c.pass-in-loop.new.tap ≡ true = sym c.in-Some-true.ensures'.over in
    (run_is_over c.args.tapped c.pass-in-loop.new.tap ended now later (has_failed c.pass-in-loop.new.output)
    c.in-Some-true.role t again is over).0

pub returns-in-Some-true-clause-tells : goal.returns-in-Some-true-clause-tells
returns-in-Some-true-clause-tells g c =
    let ended = run_devices
    (device_bytes (g.CR.Read.remaining c.args.client.now.reader) (g.CR.Read.remaining c.pass.new.from))
    (device_bytes (g.CW.Write.contents c.args.client.now.writer) (g.CW.Write.contents c.pass-in-loop.new.to))
    (device_bytes (g.SR.Read.remaining c.args.server.now.reader) (g.SR.Read.remaining c.pass-in-loop.new.from))
    (device_bytes (g.SW.Write.contents c.args.server.now.writer) (g.SW.Write.contents c.pass.new.to))
    (watched g.W.Write.contents c.args.output.now c.pass-in-loop.new.output) in
    run_tells c.args.tapped ended (has_failed c.pass-in-loop.new.output) (Ok (Ended c.in-Some-true.role))
    (returns-in-Some-true-clause-taps g c)

pub returns-in-Some-true-clause-half_closes : goal.returns-in-Some-true-clause-half_closes
returns-in-Some-true-clause-half_closes g c =
    let (works, r) = c.loop.invariant in
    let devices = run_devices
    (device_bytes (g.CR.Read.remaining c.args.client.now.reader) (g.CR.Read.remaining c.loop.client.reader))
    (device_bytes (g.CW.Write.contents c.args.client.now.writer) (g.CW.Write.contents c.loop.client.writer))
    (device_bytes (g.SR.Read.remaining c.args.server.now.reader) (g.SR.Read.remaining c.loop.server.reader))
    (device_bytes (g.SW.Write.contents c.args.server.now.writer) (g.SW.Write.contents c.loop.server.writer))
    (watched g.W.Write.contents c.args.output.now c.loop.output) in
    let reader = device_bytes (g.CR.Read.remaining c.loop.client.reader) (g.CR.Read.remaining c.pass.new.from) in
    let writer = device_bytes (g.SW.Write.contents c.loop.server.writer) (g.SW.Write.contents c.pass.new.to) in
    let out = watched g.W.Write.contents c.loop.output c.pass.new.output in
    let before = g.SW.TapWriter.is_ended c.loop.server.writer in
    let now = g.SW.TapWriter.is_ended c.pass.new.to in
    let at_client = g.CW.TapWriter.is_ended c.loop.client.writer in
    let (still, s) = run_client c.args.tapped c.loop.tap c.pass.new.tap devices reader writer before now at_client out
    c.in_ok-sent.sent r c.in_ok-sent.ensures.passes refl refl refl in
    let passed = run_devices
    (device_bytes (g.CR.Read.remaining c.args.client.now.reader) (g.CR.Read.remaining c.pass.new.from))
    (device_bytes (g.CW.Write.contents c.args.client.now.writer) (g.CW.Write.contents c.loop.client.writer))
    (device_bytes (g.SR.Read.remaining c.args.server.now.reader) (g.SR.Read.remaining c.loop.server.reader))
    (device_bytes (g.SW.Write.contents c.args.server.now.writer) (g.SW.Write.contents c.pass.new.to))
    (watched g.W.Write.contents c.args.output.now c.pass.new.output) in
    let back = device_bytes (g.SR.Read.remaining c.loop.server.reader) (g.SR.Read.remaining c.pass-in-loop.new.from) in
    let forth = device_bytes (g.CW.Write.contents c.loop.client.writer) (g.CW.Write.contents c.pass-in-loop.new.to) in
    let told = watched g.W.Write.contents c.pass.new.output c.pass-in-loop.new.output in
    let later = g.CW.TapWriter.is_ended c.pass-in-loop.new.to in
    let (again, t) = run_server c.args.tapped c.pass.new.tap c.pass-in-loop.new.tap passed back forth at_client later
    now
    told c.in_ok-got.got s c.in_ok-got.ensures.passes refl refl refl in
    let ended = run_devices
    (device_bytes (g.CR.Read.remaining c.args.client.now.reader) (g.CR.Read.remaining c.pass.new.from))
    (device_bytes (g.CW.Write.contents c.args.client.now.writer) (g.CW.Write.contents c.pass-in-loop.new.to))
    (device_bytes (g.SR.Read.remaining c.args.server.now.reader) (g.SR.Read.remaining c.pass-in-loop.new.from))
    (device_bytes (g.SW.Write.contents c.args.server.now.writer) (g.SW.Write.contents c.pass.new.to))
    (watched g.W.Write.contents c.args.output.now c.pass-in-loop.new.output) in
    let is : c.pass-in-loop.new.tap.first ≡ Some c.in-Some-true.role = sym c.in-Some-true.ensures.first in
    let over : is_tap_over c.pass-in-loop.new.tap ≡ true = sym c.in-Some-true.ensures'.over in
    let all = run_is_over c.args.tapped c.pass-in-loop.new.tap ended now later (has_failed c.pass-in-loop.new.output)
    c.in-Some-true.role t again is over in
    (all.2, all.1)

pub returns-then-not-goes_on-clause-taps : goal.returns-then-not-goes_on-clause-taps
returns-then-not-goes_on-clause-taps g c =
    let (works, r) = c.loop.invariant in
    let devices = run_devices
    (device_bytes (g.CR.Read.remaining c.args.client.now.reader) (g.CR.Read.remaining c.loop.client.reader))
    (device_bytes (g.CW.Write.contents c.args.client.now.writer) (g.CW.Write.contents c.loop.client.writer))
    (device_bytes (g.SR.Read.remaining c.args.server.now.reader) (g.SR.Read.remaining c.loop.server.reader))
    (device_bytes (g.SW.Write.contents c.args.server.now.writer) (g.SW.Write.contents c.loop.server.writer))
    (watched g.W.Write.contents c.args.output.now c.loop.output) in
    let reader = device_bytes (g.CR.Read.remaining c.loop.client.reader) (g.CR.Read.remaining c.pass.new.from) in
    let writer = device_bytes (g.SW.Write.contents c.loop.server.writer) (g.SW.Write.contents c.pass.new.to) in
    let out = watched g.W.Write.contents c.loop.output c.pass.new.output in
    let before = g.SW.TapWriter.is_ended c.loop.server.writer in
    let now = g.SW.TapWriter.is_ended c.pass.new.to in
    let at_client = g.CW.TapWriter.is_ended c.loop.client.writer in
    let (still, s) = run_client c.args.tapped c.loop.tap c.pass.new.tap devices reader writer before now at_client out
    c.in_ok-sent.sent r c.in_ok-sent.ensures.passes refl refl refl in
    let passed = run_devices
    (device_bytes (g.CR.Read.remaining c.args.client.now.reader) (g.CR.Read.remaining c.pass.new.from))
    (device_bytes (g.CW.Write.contents c.args.client.now.writer) (g.CW.Write.contents c.loop.client.writer))
    (device_bytes (g.SR.Read.remaining c.args.server.now.reader) (g.SR.Read.remaining c.loop.server.reader))
    (device_bytes (g.SW.Write.contents c.args.server.now.writer) (g.SW.Write.contents c.pass.new.to))
    (watched g.W.Write.contents c.args.output.now c.pass.new.output) in
    let back = device_bytes (g.SR.Read.remaining c.loop.server.reader) (g.SR.Read.remaining c.pass-in-loop.new.from) in
    let forth = device_bytes (g.CW.Write.contents c.loop.client.writer) (g.CW.Write.contents c.pass-in-loop.new.to) in
    let told = watched g.W.Write.contents c.pass.new.output c.pass-in-loop.new.output in
    let later = g.CW.TapWriter.is_ended c.pass-in-loop.new.to in
    let (again, t) = run_server c.args.tapped c.pass.new.tap c.pass-in-loop.new.tap passed back forth at_client later
    now
    told c.in_ok-got.got s c.in_ok-got.ensures.passes refl refl refl in
    let ended = run_devices
    (device_bytes (g.CR.Read.remaining c.args.client.now.reader) (g.CR.Read.remaining c.pass.new.from))
    (device_bytes (g.CW.Write.contents c.args.client.now.writer) (g.CW.Write.contents c.pass-in-loop.new.to))
    (device_bytes (g.SR.Read.remaining c.args.server.now.reader) (g.SR.Read.remaining c.pass-in-loop.new.from))
    (device_bytes (g.SW.Write.contents c.args.server.now.writer) (g.SW.Write.contents c.pass.new.to))
    (watched g.W.Write.contents c.args.output.now c.pass-in-loop.new.output) in
    run_is_broken c.args.tapped c.pass-in-loop.new.tap ended now later (has_failed c.pass-in-loop.new.output) t again

pub returns-then-not-goes_on-clause-tells : goal.returns-then-not-goes_on-clause-tells
returns-then-not-goes_on-clause-tells g c =
    let ended = run_devices
    (device_bytes (g.CR.Read.remaining c.args.client.now.reader) (g.CR.Read.remaining c.pass.new.from))
    (device_bytes (g.CW.Write.contents c.args.client.now.writer) (g.CW.Write.contents c.pass-in-loop.new.to))
    (device_bytes (g.SR.Read.remaining c.args.server.now.reader) (g.SR.Read.remaining c.pass-in-loop.new.from))
    (device_bytes (g.SW.Write.contents c.args.server.now.writer) (g.SW.Write.contents c.pass.new.to))
    (watched g.W.Write.contents c.args.output.now c.pass-in-loop.new.output) in
    run_tells c.args.tapped ended (has_failed c.pass-in-loop.new.output) (Ok Broken)
    (returns-then-not-goes_on-clause-taps g c)

pub loop-preserved : goal.loop-preserved
loop-preserved g c =
    let (works, r) = c.loop.invariant in
    let devices = run_devices
    (device_bytes (g.CR.Read.remaining c.args.client.now.reader) (g.CR.Read.remaining c.loop.client.reader))
    (device_bytes (g.CW.Write.contents c.args.client.now.writer) (g.CW.Write.contents c.loop.client.writer))
    (device_bytes (g.SR.Read.remaining c.args.server.now.reader) (g.SR.Read.remaining c.loop.server.reader))
    (device_bytes (g.SW.Write.contents c.args.server.now.writer) (g.SW.Write.contents c.loop.server.writer))
    (watched g.W.Write.contents c.args.output.now c.loop.output) in
    let reader = device_bytes (g.CR.Read.remaining c.loop.client.reader) (g.CR.Read.remaining c.pass.new.from) in
    let writer = device_bytes (g.SW.Write.contents c.loop.server.writer) (g.SW.Write.contents c.pass.new.to) in
    let out = watched g.W.Write.contents c.loop.output c.pass.new.output in
    let before = g.SW.TapWriter.is_ended c.loop.server.writer in
    let now = g.SW.TapWriter.is_ended c.pass.new.to in
    let at_client = g.CW.TapWriter.is_ended c.loop.client.writer in
    let (still, s) = run_client c.args.tapped c.loop.tap c.pass.new.tap devices reader writer before now at_client out
    c.in_ok-sent.sent r c.in_ok-sent.ensures.passes refl refl refl in
    let passed = run_devices
    (device_bytes (g.CR.Read.remaining c.args.client.now.reader) (g.CR.Read.remaining c.pass.new.from))
    (device_bytes (g.CW.Write.contents c.args.client.now.writer) (g.CW.Write.contents c.loop.client.writer))
    (device_bytes (g.SR.Read.remaining c.args.server.now.reader) (g.SR.Read.remaining c.loop.server.reader))
    (device_bytes (g.SW.Write.contents c.args.server.now.writer) (g.SW.Write.contents c.pass.new.to))
    (watched g.W.Write.contents c.args.output.now c.pass.new.output) in
    let back = device_bytes (g.SR.Read.remaining c.loop.server.reader) (g.SR.Read.remaining c.pass-in-loop.new.from) in
    let forth = device_bytes (g.CW.Write.contents c.loop.client.writer) (g.CW.Write.contents c.pass-in-loop.new.to) in
    let told = watched g.W.Write.contents c.pass.new.output c.pass-in-loop.new.output in
    let later = g.CW.TapWriter.is_ended c.pass-in-loop.new.to in
    let (again, t) = run_server c.args.tapped c.pass.new.tap c.pass-in-loop.new.tap passed back forth at_client later
    now
    told c.in_ok-got.got s c.in_ok-got.ensures.passes refl refl refl in
    let ended = run_devices
    (device_bytes (g.CR.Read.remaining c.args.client.now.reader) (g.CR.Read.remaining c.pass.new.from))
    (device_bytes (g.CW.Write.contents c.args.client.now.writer) (g.CW.Write.contents c.pass-in-loop.new.to))
    (device_bytes (g.SR.Read.remaining c.args.server.now.reader) (g.SR.Read.remaining c.pass-in-loop.new.from))
    (device_bytes (g.SW.Write.contents c.args.server.now.writer) (g.SW.Write.contents c.pass.new.to))
    (watched g.W.Write.contents c.args.output.now c.pass-in-loop.new.output) in
    (again, t)

pub returns-clause-taps : goal.returns-clause-taps
returns-clause-taps g c =
    let (works, r) = c.loop.invariant in
    let devices = run_devices
    (device_bytes (g.CR.Read.remaining c.args.client.now.reader) (g.CR.Read.remaining c.loop.client.reader))
    (device_bytes (g.CW.Write.contents c.args.client.now.writer) (g.CW.Write.contents c.loop.client.writer))
    (device_bytes (g.SR.Read.remaining c.args.server.now.reader) (g.SR.Read.remaining c.loop.server.reader))
    (device_bytes (g.SW.Write.contents c.args.server.now.writer) (g.SW.Write.contents c.loop.server.writer))
    (watched g.W.Write.contents c.args.output.now c.loop.output) in
    run_is_broken c.args.tapped c.loop.tap devices (g.SW.TapWriter.is_ended c.loop.server.writer)
    (g.CW.TapWriter.is_ended c.loop.client.writer) (has_failed c.loop.output) r works

pub returns-clause-tells : goal.returns-clause-tells
returns-clause-tells g c =
    let devices = run_devices
    (device_bytes (g.CR.Read.remaining c.args.client.now.reader) (g.CR.Read.remaining c.loop.client.reader))
    (device_bytes (g.CW.Write.contents c.args.client.now.writer) (g.CW.Write.contents c.loop.client.writer))
    (device_bytes (g.SR.Read.remaining c.args.server.now.reader) (g.SR.Read.remaining c.loop.server.reader))
    (device_bytes (g.SW.Write.contents c.args.server.now.writer) (g.SW.Write.contents c.loop.server.writer))
    (watched g.W.Write.contents c.args.output.now c.loop.output) in
    run_tells c.args.tapped devices (has_failed c.loop.output) (Ok Broken) (returns-clause-taps g c)
