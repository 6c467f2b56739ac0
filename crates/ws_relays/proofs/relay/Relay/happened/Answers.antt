-- What its tap told.
use Rattle.std.proofs.Common.{◌∙◌, ap, sym, subst, Ok, Err}
use Rattle.std.proofs.lemmas.Result.{err_from_is_err_and}
use Rattle.ws_frame.specs.declared.show_fault.ShowFault.{ShowFault}
use Rattle.ws_frame.specs.Devices.{watched}
use Rattle.ws_tap.specs.declared.tap.Tap.{Tap}
use Rattle.ws_relays.specs.Relayed.{TellsHappened}
use Rattle.ws_relays.proofs.relay.Relay.happened.Goals as goal

pub returns-in_err-tell-clause-told : goal.returns-in_err-tell-clause-told
returns-in_err-tell-clause-told g c =
    let out = watched g.W.Write.contents c.args.output.now c.tell.new.output in
    let p = err_from_is_err_and c.from_residual.result c.from_residual.ensures.1 in
    let told = subst (λ (t : Tap). TellsHappened {T = Unit {0}} c.args.role t c.tell.new.tap c.args.happened out
    (Err c.in_err-tell.field-0.0)) (c.deref_mut.ensures.value ∙ ap (λ b. b.value) c.set_last.ensures.tap)
    c.in_err-tell.ensures.told in
    rw p.1 (subst (λ (f : ShowFault). TellsHappened {T = Unit {0}} c.args.role c.args.self.now.tap.value c.tell.new.tap
    c.args.happened out (Err f)) (sym p.2) told)

pub returns-then-failed-clause-told : goal.returns-then-failed-clause-told
returns-then-failed-clause-told g c =
    subst (λ (t : Tap). TellsHappened {T = Unit {0}} c.args.role t c.tell.new.tap c.args.happened
    (watched g.W.Write.contents c.args.output.now c.tell.new.output) (Ok (tt {0})))
    (c.deref_mut.ensures.value ∙ ap (λ b. b.value) c.set_last.ensures.tap) c.in_ok-tell.ensures.told

pub returns-clause-told : goal.returns-clause-told
returns-clause-told g c =
    subst (λ (t : Tap). TellsHappened {T = Unit {0}} c.args.role t c.tell.new.tap c.args.happened
    (watched g.W.Write.contents c.args.output.now c.tell.new.output) (Ok (tt {0})))
    (c.deref_mut.ensures.value ∙ ap (λ b. b.value) c.set_last.ensures.tap) c.in_ok-tell.ensures.told
