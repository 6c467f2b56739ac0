-- What a stream has read is a text exactly where nothing is unfinished.
use Rattle.ws_text.proofs.Texts.{text_without_unfinished}
use Rattle.ws_text.proofs.Pieces.{read_of}
use Rattle.ws_text.proofs.streaming.Utf8Stream.is_whole.Goals as goal

pub returns-clause-whole : goal.returns-clause-whole
returns-clause-whole c = λ text h.
    let whole = text_without_unfinished text _ (read_of _ _ _ text c.if-self.false c.self.view_is h) in
    (λ e. whole.1 (c.is_nothing.ensures.0 e), λ t. c.is_nothing.ensures.1 (whole.0 t))
