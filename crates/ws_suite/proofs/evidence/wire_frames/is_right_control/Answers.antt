-- A frame whose header is in order is right where it is a ping or a pong, or says what a close may say.
use Rattle.std.proofs.Common.{◌≡◌, ◌∙◌, ◌≤◌, ◌⊎◌, ℕ, ap, arith, inl, inr, refl, subst}
use Rattle.ws_wire.specs.declared.opcode.Opcode.{Opcode}
use Rattle.ws_wire.specs.declared.opcode.Opcode.TheVariants.{Ping, Pong}
use Rattle.ws_wire.specs.Header.{HeaderFields}
use Rattle.ws_wire.specs.Opcode.{IsOpcode}
use Rattle.ws_suite.proofs.RightControls.{close_of_right, found_plain, plain_found, plain_of_right, right_control}
use Rattle.ws_suite.proofs.evidence.wire_frames.is_right_control.Goals as goal

ping_or_pong : (kind : Opcode) (number : ℕ) → IsOpcode kind number → (kind ≡ Ping) ⊎ (kind ≡ Pong)
    → (9 ≤ number) × (number ≤ 10)
ping_or_pong kind number is (inl e) =
    let nine : number ≡ 9 = subst (λ (k : Opcode). IsOpcode k number) e is in
    (omega arith, omega arith)
ping_or_pong kind number is (inr e) =
    let ten : number ≡ 10 = subst (λ (k : Opcode). IsOpcode k number) e is in
    (omega arith, omega arith)

pub returns-then-not-is_plain : goal.returns-then-not-is_plain
returns-then-not-is_plain c = λ x is found. (
  λ e. absurd cc,
  λ right.
      let plain = c.is_plain.ensures.1 (found_plain c.args.role x c.args.frame.now.header c.args.frame.now.payload.now
      found.0 found.1 (plain_of_right c.args.role x is right)) in
      absurd cc,
)

pub returns-in-Close : goal.returns-in-Close
returns-in-Close c = λ x is found.
    let role = c.args.role in
    let plain = plain_found role x c.args.frame.now.header c.args.frame.now.payload.now found.0 found.1
    (c.is_plain.ensures.0 c.if-not-is_plain.false) in
    let opcode = ap (λ (h : HeaderFields). h.opcode) found.0 in
    let eight : x.header.opcode ≡ 8 = opcode ∙ c.in-Close.ensures in (
      λ e. right_control role x is plain (omega arith, omega arith)
          (λ _. (c.is_right_close.ensures x is found).0 e),
      λ right. (c.is_right_close.ensures x is found).1 (close_of_right role x is right eight),
    )

pub returns-in-Ping : goal.returns-in-Ping
returns-in-Ping c = λ x is found.
    let role = c.args.role in
    let plain = plain_found role x c.args.frame.now.header c.args.frame.now.payload.now found.0 found.1
    (c.is_plain.ensures.0 c.if-not-is_plain.false) in
    let opcode = ap (λ (h : HeaderFields). h.opcode) found.0 in
    let (low, high) = ping_or_pong c.kind.result c.args.frame.now.header.opcode c.kind.ensures c.in-Ping.is in (
      λ e. right_control role x is plain (omega arith, omega arith) (λ eight. absurd (omega arith)),
      λ right. refl,
    )
