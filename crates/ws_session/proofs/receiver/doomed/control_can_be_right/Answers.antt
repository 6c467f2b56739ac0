-- A ping or pong under way can always become right, and a close where more bytes can make a close payload of it.
use Rattle.std.proofs.Common.{◌≡◌, ◌-◌, length, refl, sym, ap, subst}
use Rattle.ws_session.specs.InnerDoomed.{CanEndClose}
use Rattle.ws_session.proofs.RightFronts.{ping_can, close_can, close_ends}
use Rattle.ws_session.proofs.receiver.doomed.control_can_be_right.Goals as goal

pub returns-then-not-is_close : goal.returns-then-not-is_close
returns-then-not-is_close c = λ role limits a u. (
  λ _. ping_can role limits a c.args.header.now c.args.payload.now u
      (λ e. let t = c.if-not-is_close.ensures.1 e in cc),
  λ _. refl,
)

pub returns : goal.returns
returns c = λ role limits a u.
    let opcode = c.if-not-is_close.ensures.0 refl in
    let left : c.payload_len.result - length c.args.payload.now ≡ c.args.header.now.len - length c.args.payload.now = ap
    (λ n. n - length c.args.payload.now) c.payload_len.ensures.value in (
      λ t. close_can role limits a c.args.header.now c.args.payload.now u opcode
          (subst (λ n. CanEndClose c.args.payload.now n) left (c.close_can_end.ensures.0 t)),
      λ h. c.close_can_end.ensures.1 (subst (λ n. CanEndClose c.args.payload.now n) (sym left)
          (close_ends role limits a c.args.header.now c.args.payload.now u opcode c.requires.short h)),
    )
