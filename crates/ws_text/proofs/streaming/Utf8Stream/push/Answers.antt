-- A piece is taken exactly where the text so far and the piece begin a text.
use Rattle.std.proofs.Common.{refl}
use Rattle.ws_text.proofs.Texts.{begins_of_unfinished}
use Rattle.ws_text.proofs.Pieces.{read_of, broken}
use Rattle.ws_text.proofs.streaming.Utf8Stream.push.Goals as goal

pub returns-in-Ok-clause-fits : goal.returns-in-Ok-clause-fits
returns-in-Ok-clause-fits c = λ text h. (λ _. begins_of_unfinished _ _ (c.in-Ok.ensures.text text (read_of _ _ _ text c.if-self.false c.self.view_is h)), λ _. refl)

pub returns-in-Err-clause-fits : goal.returns-in-Err-clause-fits
returns-in-Err-clause-fits c = λ text h. (λ e. absurd cc, λ b. absurd (broken text _ _ (c.in-Err.ensures.text text (read_of _ _ _ text c.if-self.false c.self.view_is h)) b))
