-- The higher byte 3, and each of 11 to 19, begins some code that may be sent.
use Rattle.std.proofs.Common.{refl, arith}
use Rattle.ws_text.proofs.Closes.{three_begins, eleven_begin}
use Rattle.ws_text.proofs.closing.code_may_begin.Goals as goal

pub returns-in-3 : goal.returns-in-3
returns-in-3 c = (λ _. three_begins c.args.high (omega arith), λ _. refl)

pub returns-in-3-2 : goal.returns-in-3-2
returns-in-3-2 c = (λ _. eleven_begin c.args.high (omega arith) (omega arith), λ _. refl)
