-- The text is written as its characters, or as its bytes.
use Rattle.std.proofs.Common.{ℕ, List, subst}
use Rattle.std.specs.Fmt.{HasWritten}
use Rattle.ws_pages.proofs.PageLemmas.{bytes_on_page_are, text_on_page_is}
use Rattle.ws_pages.proofs.escaping.EscapedDisplay.fmt.Goals as goal

pub returns-in-Ok-clause-writes : goal.returns-in-Ok-clause-writes
returns-in-Ok-clause-writes g c = λ plain ok.
    subst (λ (l : List ℕ). HasWritten g.W.Write.write_str_gives c.args.f.now l c.write.new.self)
    (text_on_page_is c.args.self.now.0.now c.in-Ok.text.now c.in-Ok.ensures.cases.1 c.in-Ok.ensures.cases.0)
    (c.write.ensures.writes plain ok)

pub returns-in-Err-clause-writes : goal.returns-in-Err-clause-writes
returns-in-Err-clause-writes g c = λ plain ok.
    subst (λ (l : List ℕ). HasWritten g.W.Write.write_str_gives c.args.f.now l c.write-in-Err.new.self)
    (bytes_on_page_are c.args.self.now.0.now c.in-Err.ensures.cases.0) (c.write-in-Err.ensures.writes plain ok)
