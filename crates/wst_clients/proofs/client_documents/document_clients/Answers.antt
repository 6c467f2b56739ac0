-- What a report has before and behind all cases, round the clients.
use Rattle.std.proofs.Common.{rules, ◌≡◌, ◌∙◌, IsErrAnd, false, true, inl, inr, refl, sym}
use Rattle.std.proofs.KnownBytes.{Keeps-refl}
use Rattle.ws_frame.specs.Devices.{watched}
use Rattle.ws_frame.specs.Watching.{has_failed, inner_of}
use Rattle.ws_reports.specs.Reports.{start_text}
use Rattle.wst_commands.proofs.Delivering.{delivers_same}
use Rattle.wst_commands.specs.declared.exit.Exit.TheVariants.{Done}
use Rattle.wst_commands.specs.declared.fault.Fault.TheVariants.{NoMemory}
use Rattle.wst_testing.proofs.ReportLemmas.{stops_failed, stops_lacking}
use Rattle.wst_sockets.proofs.WrittenLemmas.{was_begun, was_written}
use Rattle.wst_clients.proofs.client_documents.document_clients.Goals as goal

pub returns-in_err-start-clause-documents : goal.returns-in_err-start-clause-documents
returns-in_err-start-clause-documents g c =
    let lacks : IsErrAnd c.from_residual.result (λ fault. fault ≡ NoMemory) = search rules in
    let output = watched g.W.Write.contents c.args.writer.now c.args.writer.now in
    inr (
      stops_lacking c.args.document.target.now c.args.document.report.now c.from_residual.result output lacks (Keeps-refl output.old),
      Keeps-refl (g.F.Write.contents (inner_of c.args.faults.now)),
    )

pub returns-then-failed-clause-documents : goal.returns-then-failed-clause-documents
returns-then-failed-clause-documents g c =
    let start = start_text c.args.document.report.now c.args.document.target.now in
    let text : c.as_bytes.result.now ≡ start = search rules in
    let output = watched g.W.Write.contents c.args.writer.now c.deliver-begun.new.writer in
    let given = delivers_same Done Done c.as_bytes.result.now start c.deliver-begun.result output refl text
    c.deliver-begun.ensures in
    let broken : has_failed c.deliver-begun.new.writer ≡ true = sym c.failed.ensures ∙ c.if-failed.true in
    let (fails, begun) = was_begun Done c.deliver-begun.result start output given broken in
    inr (
      stops_failed c.args.document.target.now c.args.document.report.now c.deliver-begun.result output fails begun broken,
      Keeps-refl (g.F.Write.contents (inner_of c.args.faults.now)),
    )

pub returns-clause-documents : goal.returns-clause-documents
returns-clause-documents g c =
    let report = c.args.document.report.now in
    let start = start_text report c.args.document.target.now in
    let text : c.as_bytes.result.now ≡ start = search rules in
    let first = watched g.W.Write.contents c.args.writer.now c.deliver-begun.new.writer in
    let given = delivers_same Done Done c.as_bytes.result.now start c.deliver-begun.result first refl text
    c.deliver-begun.ensures in
    let works : has_failed c.deliver-begun.new.writer ≡ false = sym c.failed.ensures ∙ c.if-failed.false in
    let tested = watched g.W.Write.contents c.deliver-begun.new.writer c.test_clients-ended.new.writer in
    inl (record {
      begun = first.new;
      started = was_written Done c.deliver-begun.result start first given works;
      failed = tested.failed;
      behind = tested.new;
      tests = c.test_clients-ended.ensures.tests;
      closes = c.close_report.ensures;
    })
