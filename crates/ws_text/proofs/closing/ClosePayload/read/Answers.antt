-- A payload has a bad code where its code isn't allowed, and a bad reason, and says no close, where that is no text.
use Rattle.std.proofs.Common.{◌≡◌, Bool, true, false, refl, arith}
use Rattle.ws_text.proofs.Texts.{utf8_from_text}
use Rattle.ws_text.proofs.Closes.{holds_code, says_nothing}
use Rattle.ws_text.proofs.closing.ClosePayload.read.Goals as goal

false_not_true : ◌≡◌ {A = Bool} false true → ⊥
false_not_true e = cc

pub returns-then-not-code_allowed-clause-bad_code :
    goal.returns-then-not-code_allowed-clause-bad_code
returns-then-not-code_allowed-clause-bad_code c = (
  λ _. (_, holds_code c.args.payload.now c.from_be_bytes-code.result c.in-len2-up.len_at_least (omega (arith, c.type_inv.payload 0)) (omega (arith, c.type_inv.payload 1)) c.from_be_bytes-code.ensures, λ allowed. false_not_true (c.if-not-code_allowed.ensures.1 allowed)),
  λ _. refl,
)

pub returns-in-Err-clause-read : goal.returns-in-Err-clause-read
returns-in-Err-clause-read c = λ close. (
  λ e. absurd cc,
  λ p. absurd (says_nothing c.args.payload.now close c.in-len2-up.len_at_least (λ t. c.in-Err.ensures.cases.0 (utf8_from_text _ t)) p),
)

pub returns-in-Err-clause-reason_not_text : goal.returns-in-Err-clause-reason_not_text
returns-in-Err-clause-reason_not_text c = (
  λ _. (_, holds_code c.args.payload.now c.from_be_bytes-code.result c.in-len2-up.len_at_least (omega (arith, c.type_inv.payload 0)) (omega (arith, c.type_inv.payload 1)) c.from_be_bytes-code.ensures, c.if-not-code_allowed.ensures.0 refl, λ t. c.in-Err.ensures.cases.0 (utf8_from_text _ t)),
  λ _. refl,
)
