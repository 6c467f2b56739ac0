-- A second byte begins a character with the first exactly where it is in the range that the first allows.
use Rattle.std.proofs.Common.{arith}
use Rattle.std.proofs.lemmas.Bool.Decides.{nat_tests}
use Rattle.ws_text.proofs.unfinished.may_be_second.Goals as goal

pub returns-then-least-byte : goal.returns-then-least-byte
returns-then-least-byte c =
    let range = c.second_bytes-least.ensures c.args.byte in
    (λ t. range.1 (c.if-least-byte.true, grind (arith, nat_tests)), λ h. let r = range.0 h in grind (arith, nat_tests))

pub returns-else-least-byte : goal.returns-else-least-byte
returns-else-least-byte c =
    let range = c.second_bytes-least.ensures c.args.byte in
    (λ t. absurd (grind (arith, nat_tests)), λ h. let r = range.0 h in absurd (omega arith))
