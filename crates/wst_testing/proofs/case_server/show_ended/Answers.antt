-- All lines of a run that has ended are written at once.
use Rattle.std.proofs.Common.{◌≡◌, List, ℕ, rules, subst}
use Rattle.ws_frame.specs.Devices.{watched}
use Rattle.wst_testing.specs.LineOutputs.{HasWrittenOn}
use Rattle.wst_testing.proofs.OutputLemmas.{wrote_run}
use Rattle.wst_testing.proofs.case_server.show_ended.Goals as goal

pub returns : goal.returns
returns g c =
    let first = c.args.writer.now in
    let last = c.write_lines.new.writer in
    let same : c.as_slice.result.now ≡ c.in_ok-text.text.items = search rules in
    let wrote = subst (λ (l : List ℕ). HasWrittenOn g.W.Write.contents first last l) same
    c.in_ok-write_lines.ensures in
    wrote_run c.args.showing c.args.transcript.now c.in_ok-text.text.items (watched g.W.Write.contents first last)
    c.in_ok-text.ensures wrote.0 wrote.1
