-- The address is told, and the script is sent behind it.
use Rattle.std.proofs.Common.{IsErrAnd, List, inl, inr, refl, rules, subst, sym, ◌≡◌, ℕ}
use Rattle.std.proofs.KnownBytes.{Keeps-refl}
use Rattle.ws_frame.specs.Devices.{IsUntouched, watched}
use Rattle.ws_frame.specs.Watching.{inner_of}
use Rattle.wst_commands.specs.declared.fault.Fault.TheVariants.{NoMemory}
use Rattle.wst_sockets.specs.Listening.{CanNotListen}
use Rattle.wst_run.proofs.ClientRunLemmas.{none_heard, none_lacks}
use Rattle.wst_sockets.specs.Listening.{IsToldFor}
use Rattle.wst_run.proofs.clients_at.send_at.Goals as goal

pub returns-in_err-heard-clause-sends : goal.returns-in_err-heard-clause-sends
returns-in_err-heard-clause-sends g c =
    let is : IsErrAnd c.from_residual.result CanNotListen = search rules in
    inr (none_heard c.from_residual.result (watched g.W.Write.contents c.args.writer.now c.args.writer.now)
    (watched g.F.Write.contents c.args.faults.now c.args.faults.now) is
    (Keeps-refl (g.W.Write.contents (inner_of c.args.writer.now)))
    (Keeps-refl (g.F.Write.contents (inner_of c.args.faults.now))))

pub returns-in_err-note_listening-clause-sends : goal.returns-in_err-note_listening-clause-sends
returns-in_err-note_listening-clause-sends g c =
    let ended = c.from_residual-in_err-note_listening.result in
    let lacks : IsErrAnd ended (λ fault. fault ≡ NoMemory) = search rules in
    let kept = subst (λ w. IsUntouched (watched g.F.Write.contents c.args.faults.now w))
    (sym c.in_err-note_listening.ensures.kept) (Keeps-refl (g.F.Write.contents (inner_of c.args.faults.now))) in
    inr (none_lacks ended (watched g.W.Write.contents c.args.writer.now c.args.writer.now)
    (watched g.F.Write.contents c.args.faults.now c.note_listening.new.faults) lacks
    (Keeps-refl (g.W.Write.contents (inner_of c.args.writer.now))) kept)

pub returns-then-plan-clause-sends : goal.returns-then-plan-clause-sends
returns-then-plan-clause-sends g c =
    let told : IsToldFor c.args.address.now c.as_slice.result.now = subst
    (λ (l : List ℕ). IsToldFor c.args.address.now l) (sym c.as_slice.ensures.value) c.in_ok-heard.ensures in
    inl (
      c.as_slice.result.now,
      told,
      (
        watched g.F.Write.contents c.args.faults.now c.note_listening.new.faults,
        (refl, c.capture_script.ensures.still),
        c.in_ok-note_listening.ensures.told,
        c.capture_script.ensures.sends,
      ),
    )

pub returns-clause-sends : goal.returns-clause-sends
returns-clause-sends g c =
    let told : IsToldFor c.args.address.now c.as_slice.result.now = subst
    (λ (l : List ℕ). IsToldFor c.args.address.now l) (sym c.as_slice.ensures.value) c.in_ok-heard.ensures in
    inl (
      c.as_slice.result.now,
      told,
      (
        watched g.F.Write.contents c.args.faults.now c.note_listening.new.faults,
        (refl, c.show_script.ensures.still),
        c.in_ok-note_listening.ensures.told,
        c.show_script.ensures.sends,
      ),
    )
