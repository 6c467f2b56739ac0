-- It is told that a tap listens, and then of each connection; a line that failed ends it.
use Rattle.std.proofs.Common.{◌≡◌, ◌∙◌, IsErrAnd, List, ℕ, Ok, ap, false, true, inl, inr, rules, subst, sym}
use Rattle.std.proofs.KnownBytes.{Keeps-refl}
use Rattle.ws_frame.specs.Devices.{IsUntouched, watched}
use Rattle.ws_frame.specs.Watching.{has_failed, inner_of}
use Rattle.wst_sockets.specs.Listening.{CanNotListen, IsToldFor}
use Rattle.wst_sockets.proofs.WrittenLemmas.{was_begun, was_written}
use Rattle.wst_commands.specs.declared.exit.Exit.TheVariants.{Done}
use Rattle.wst_commands.specs.declared.fault.Fault.TheVariants.{NoMemory}
use Rattle.wst_services.specs.Serve.{listening_line}
use Rattle.wst_services.proofs.ServedLemmas.{lacks_unheard, unheard_none}
use Rattle.wst_services.proofs.TapLemmas.{taps_behind}
use Rattle.wst_services.proofs.tapping.tap_at.Goals as goal

pub returns-then-failed : goal.returns-then-failed
returns-then-failed g c =
    let told : IsToldFor c.args.plan.now.listen.now c.as_slice.result.now = subst
    (λ (l : List ℕ). IsToldFor c.args.plan.now.listen.now l) (sym c.as_slice.ensures.value) c.in_ok-network.ensures in
    let broken : has_failed c.tell_listening.new.writer ≡ true = sym c.failed.ensures ∙ c.if-failed.true in
    let (failure, begun) = was_begun Done c.in_ok-told.told (listening_line c.as_slice.result.now)
    (watched g.W.Write.contents c.args.writer.now c.tell_listening.new.writer) c.in_ok-told.ensures broken in
    inl (
      c.as_slice.result.now,
      told,
      inr (
        (ap (λ e. Ok e) failure, broken, begun),
        Keeps-refl (g.F.Write.contents (inner_of c.args.faults.now)),
      ),
    )

pub returns : goal.returns
returns g c =
    let told : IsToldFor c.args.plan.now.listen.now c.as_slice.result.now = subst
    (λ (l : List ℕ). IsToldFor c.args.plan.now.listen.now l) (sym c.as_slice.ensures.value) c.in_ok-network.ensures in
    let still : has_failed c.tell_listening.new.writer ≡ false = sym c.failed.ensures ∙ c.if-failed.false in
    let line = was_written Done c.in_ok-told.told (listening_line c.as_slice.result.now)
    (watched g.W.Write.contents c.args.writer.now c.tell_listening.new.writer) c.in_ok-told.ensures still in
    inl (
      c.as_slice.result.now,
      told,
      inl (taps_behind c.args.plan.now (listening_line c.as_slice.result.now) c.tap_plan.result
          (g.W.Write.contents (inner_of c.args.writer.now))
          (g.W.Write.contents (inner_of c.tell_listening.new.writer))
          (g.W.Write.contents (inner_of c.tap_plan.new.writer)) (has_failed c.tap_plan.new.writer)
          (watched g.F.Write.contents c.args.faults.now c.tap_plan.new.faults) line c.tap_plan.ensures),
    )

pub returns-in_err-network : goal.returns-in_err-network
returns-in_err-network g c =
    let is : IsErrAnd c.from_residual.result CanNotListen = search rules in
    inr (unheard_none c.from_residual.result (watched g.W.Write.contents c.args.writer.now c.args.writer.now)
    (watched g.F.Write.contents c.args.faults.now c.args.faults.now) is c.requires
    (Keeps-refl (g.W.Write.contents (inner_of c.args.writer.now)))
    (Keeps-refl (g.F.Write.contents (inner_of c.args.faults.now))))

pub returns-in_err-told : goal.returns-in_err-told
returns-in_err-told g c =
    let (lacks, same) = c.in_err-told.ensures in
    let none : IsErrAnd c.from_residual-in_err-told.result (λ fault. fault ≡ NoMemory) = search rules in
    let contents = g.W.Write.contents in
    inr (unheard_none c.from_residual-in_err-told.result
    (watched contents c.args.writer.now c.tell_listening.new.writer)
    (watched g.F.Write.contents c.args.faults.now c.args.faults.now)
    (lacks_unheard c.from_residual-in_err-told.result none) (ap (λ w. has_failed w) same ∙ c.requires)
    (subst (λ w. IsUntouched (watched contents c.args.writer.now w)) (sym same)
    (Keeps-refl (contents (inner_of c.args.writer.now))))
    (Keeps-refl (g.F.Write.contents (inner_of c.args.faults.now))))
