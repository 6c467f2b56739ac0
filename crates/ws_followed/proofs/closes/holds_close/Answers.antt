-- A close is found; where no frame is left there was none.
use Rattle.std.proofs.Common.{◌≡◌, ◌∙◌, refl, rules, sym}
use Rattle.ws_followed.proofs.ClosingFrames.{close_here, close_step, no_close}
use Rattle.ws_followed.proofs.closes.holds_close.Goals as goal

pub loop-header-init : goal.loop-header-init
loop-header-init c = (λ h. h, λ h. h)

pub returns-then-opcode-eq-CLOSE : goal.returns-then-opcode-eq-CLOSE
returns-then-opcode-eq-CLOSE c =
    let f = c.in-Some.ensures in
    let told : c.opcode.result ≡ c.in-Some.header.opcode = search rules in
    let here = close_here c.loop-header.rest.now c.in-Some.after.now c.in-Some.header f
    (sym told ∙ c.if-opcode-eq-CLOSE.true) in
    (λ _. c.loop-header.invariant.0 here, λ _. refl)

pub loop-header-preserved : goal.loop-header-preserved
loop-header-preserved c =
    let told : c.opcode.result ≡ c.in-Some.header.opcode = search rules in
    let other : (c.in-Some.header.opcode ≡ 8 → ⊥) = λ e. c.if-opcode-eq-CLOSE.false (told ∙ e) in
    close_step c.loop-header.rest.now c.in-Some.after.now _ c.args.bytes.now c.in-Some.header c.in-Some.ensures other
    c.loop-header.invariant (search rules)

pub returns : goal.returns
returns c = (λ e. absurd cc, λ h. absurd (no_close c.loop-header.rest.now c.in_default.ensures (c.loop-header.invariant.1 h)))
