-- Clients are captured, told of in a document, or tested line by line.
use Rattle.std.proofs.Common.{List, [], ◌∷◌, Ok, ap, inl, inr, length, refl, slice_index_or, subst, sym, true, false, ◌≡◌, ◌∙◌}
use Rattle.std.proofs.KnownBytes.{Keeps-refl}
use Rattle.ws_frame.specs.Devices.{watched}
use Rattle.ws_frame.specs.Watching.{has_failed, inner_of}
use Rattle.ws_scripts.specs.declared.script.Case.{Case}
use Rattle.wst_clients.specs.Turns.{unmet_as}
use Rattle.wst_commands.proofs.CaseLemmas.{only_one}
use Rattle.wst_commands.specs.declared.exit.Exit.TheVariants.{Done}
use Rattle.wst_run.specs.ClientRuns.{IsJobFor}
use Rattle.wst_run.specs.declared.clients_at.ClientJob.{ClientJob}
use Rattle.wst_run.specs.declared.clients_at.ClientJob.TheVariants.{Capture, Document, Lines}
use Rattle.wst_run.proofs.ClientRunLemmas.{told_as}
use Rattle.wst_sockets.proofs.WrittenLemmas.{was_begun, was_written}
use Rattle.wst_services.specs.Serve.{listening_line}
use Rattle.wst_run.proofs.clients_at.test_told.Goals as goal

pub capture_client-requires-clause-one : goal.capture_client-requires-clause-one
capture_client-requires-clause-one g c =
    let given = c.args.visits.rules.now in
    let (case, is) = subst (λ (j : ClientJob). IsJobFor j given) c.in-Capture.is c.requires.one in
    only_one given.cases.now c.index-rules-0.result (ap (λ (l : List Case). length l) is) c.index-rules-0.is
    ∙ ap (λ (x : Case). x ∷ []) c.index-rules-0.is

pub returns-in_ok-note_listening-in-Capture-clause-tests : goal.returns-in_ok-note_listening-in-Capture-clause-tests
returns-in_ok-note_listening-in-Capture-clause-tests g c =
    let given = c.args.visits.rules.now in
    let (case, is) = subst (λ (j : ClientJob). IsJobFor j given) c.in-Capture.is c.requires.one in
    let n = unmet_as g.L.Listener.did g.P.Poller.time c.args.visitors.now in
    let output = watched g.W.Write.contents c.args.writer.now c.capture_client.new.writer in
    let faults = watched g.F.Write.contents c.args.faults.now c.capture_client.new.faults in
    told_as n c.args.address.now c.args.visits.job Capture given c.capture_client.result output faults c.in-Capture.is
    (inl (
      slice_index_or given.cases.now 0 c.index-rules-0.result,
      only_one given.cases.now c.index-rules-0.result (ap (λ (l : List Case). length l) is) c.index-rules-0.is
          ∙ ap (λ (x : Case). x ∷ []) c.index-rules-0.is,
      (
        watched g.F.Write.contents c.args.faults.now c.note_listening.new.faults,
        (refl, c.capture_client.ensures.still),
        c.in_ok-note_listening-in-Capture.ensures.told,
        c.capture_client.ensures.captures,
      ),
    ))

pub returns-in_ok-note_listening-in-Document-clause-tests : goal.returns-in_ok-note_listening-in-Document-clause-tests
returns-in_ok-note_listening-in-Document-clause-tests g c =
    let given = c.args.visits.rules.now in
    let n = unmet_as g.L.Listener.did g.P.Poller.time c.args.visitors.now in
    let output = watched g.W.Write.contents c.args.writer.now c.document_clients.new.writer in
    let faults = watched g.F.Write.contents c.args.faults.now c.document_clients.new.faults in
    told_as n c.args.address.now c.args.visits.job (Document c.in-Document.document) given c.document_clients.result
    output faults c.in-Document.is (inl (
      watched g.F.Write.contents c.args.faults.now c.note_listening-in-Document.new.faults,
      (refl, c.document_clients.ensures.still),
      c.in_ok-note_listening-in-Document.ensures.told,
      c.document_clients.ensures.documents,
    ))

pub returns-then-failed-clause-tests : goal.returns-then-failed-clause-tests
returns-then-failed-clause-tests g c =
    let n = unmet_as g.L.Listener.did g.P.Poller.time c.args.visitors.now in
    let output = watched g.W.Write.contents c.args.writer.now c.tell_listening.new.writer in
    let broken : has_failed c.tell_listening.new.writer ≡ true = sym c.failed.ensures ∙ c.if-failed.true in
    let (failure, begun) = was_begun Done c.in_ok-told-in-Lines.told (listening_line c.args.address.now) output
    c.in_ok-told-in-Lines.ensures broken in
    told_as n c.args.address.now c.args.visits.job Lines c.args.visits.rules.now (Ok c.in_ok-told-in-Lines.told) output
    (watched g.F.Write.contents c.args.faults.now c.args.faults.now) c.in-Lines.is
    (inr (inl (ap (λ e. Ok e) failure, broken, begun, Keeps-refl (g.F.Write.contents (inner_of c.args.faults.now)))))

pub returns-else-failed-clause-tests : goal.returns-else-failed-clause-tests
returns-else-failed-clause-tests g c =
    let n = unmet_as g.L.Listener.did g.P.Poller.time c.args.visitors.now in
    let still : has_failed c.tell_listening.new.writer ≡ false = sym c.failed.ensures ∙ c.if-failed.false in
    let line = was_written Done c.in_ok-told-in-Lines.told (listening_line c.args.address.now)
    (watched g.W.Write.contents c.args.writer.now c.tell_listening.new.writer) c.in_ok-told-in-Lines.ensures still in
    told_as n c.args.address.now c.args.visits.job Lines c.args.visits.rules.now c.test_clients.result
    (watched g.W.Write.contents c.args.writer.now c.test_clients.new.writer)
    (watched g.F.Write.contents c.args.faults.now c.test_clients.new.faults) c.in-Lines.is
    (inl (g.W.Write.contents (inner_of c.tell_listening.new.writer), line, c.test_clients.ensures.tests))
