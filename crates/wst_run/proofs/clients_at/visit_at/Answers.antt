-- What is told of the address is told, and clients are tested.
use Rattle.std.proofs.Common.{IsErrAnd, List, ap, inl, inr, rules, subst, sym, ◌≡◌, ◌∙◌, ℕ}
use Rattle.std.proofs.KnownBytes.{Keeps-refl}
use Rattle.ws_frame.specs.Devices.{watched}
use Rattle.ws_frame.specs.Watching.{inner_of}
use Rattle.wst_commands.specs.declared.fault.Fault.TheVariants.{NoMemory}
use Rattle.wst_commands.specs.declared.time_limit.TimeLimit.{TimeLimit}
use Rattle.wst_sockets.specs.Listening.{IsToldFor}
use Rattle.wst_sockets.specs.declared.waits.Waits.{Waits}
use Rattle.wst_commands.specs.TimeLimits.{milliseconds_of}
use Rattle.wst_sockets.specs.Listening.{CanNotListen}
use Rattle.wst_run.proofs.ClientRunLemmas.{limited_so, none_heard, none_lacks, visits_by, waits_as}
use Rattle.wst_run.proofs.clients_at.visit_at.Goals as goal

pub returns-in_err-heard-clause-tests : goal.returns-in_err-heard-clause-tests
returns-in_err-heard-clause-tests g c =
    let is : IsErrAnd c.from_residual.result CanNotListen = search rules in
    inr (none_heard c.from_residual.result (watched g.W.Write.contents c.args.writer.now c.args.writer.now)
    (watched g.F.Write.contents c.args.faults.now c.args.faults.now) is
    (Keeps-refl (g.W.Write.contents (inner_of c.args.writer.now)))
    (Keeps-refl (g.F.Write.contents (inner_of c.args.faults.now))))

pub returns-in_err-visitors-clause-tests : goal.returns-in_err-visitors-clause-tests
returns-in_err-visitors-clause-tests g c =
    let ended = c.from_residual-in_err-visitors.result in
    let lacks : IsErrAnd ended (λ fault. fault ≡ NoMemory) = search rules in
    inr (none_lacks ended (watched g.W.Write.contents c.args.writer.now c.args.writer.now)
    (watched g.F.Write.contents c.args.faults.now c.args.faults.now) lacks
    (Keeps-refl (g.W.Write.contents (inner_of c.args.writer.now)))
    (Keeps-refl (g.F.Write.contents (inner_of c.args.faults.now))))

pub test_told-requires-clause-are : goal.test_told-requires-clause-are
test_told-requires-clause-are g c = waits_as c.in_ok-visitors.visitors _ _ _ _
    (c.as_slice.ensures.names ∙ sym c.requires.protocols)
    (ap (λ (w : Waits). milliseconds_of w.client) c.waits_of.ensures
    ∙ ap (λ (limit : TimeLimit). milliseconds_of limit) (sym c.requires.wait)) c.in_ok-visitors.ensures.are

pub test_told-requires-clause-limited : goal.test_told-requires-clause-limited
test_told-requires-clause-limited g c = limited_so c.in_ok-visitors.visitors.clients.limits c.waits_of.result
    c.args.run.now.timeout c.in_ok-visitors.ensures.limits (ap (λ (w : Waits). w.byte) c.waits_of.ensures)
    ∙ sym c.requires.limited

pub returns-clause-tests : goal.returns-clause-tests
returns-clause-tests g c =
    let told : IsToldFor c.args.address.now c.as_slice-told.result.now = subst
    (λ (l : List ℕ). IsToldFor c.args.address.now l) (sym c.as_slice-told.ensures.value)
    c.in_ok-heard.ensures in
    inl (
      c.as_slice-told.result.now,
      told,
      visits_by _ _ c.in_ok-visitors.visitors c.args.visits.rules.now c.as_slice-told.result.now c.args.visits.job
          c.test_told.result (watched g.W.Write.contents c.args.writer.now c.test_told.new.writer)
          (watched g.F.Write.contents c.args.faults.now c.test_told.new.faults) c.test_told.ensures.tests,
    )
