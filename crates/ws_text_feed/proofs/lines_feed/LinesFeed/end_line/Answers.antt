-- The line is taken; or the text is damaged at it.
use Rattle.std.proofs.Common.{List, ℕ, ◌∷◌, ◌++◌, [], sym, subst}
use Rattle.ws_formats.specs.Lines.{line_feed}
use Rattle.ws_text_feed.specs.FeedingLines.{HasFedLines}
use Rattle.ws_text_feed.proofs.FedLines.{damaged_line, line_taken}
use Rattle.ws_text_feed.proofs.lines_feed.LinesFeed.end_line.Goals as goal

pub returns-in-Err-Damaged : goal.returns-in-Err-Damaged
returns-in-Err-Damaged g c = λ start text h more.
    let feed = c.args.self in
    damaged_line g.P.PartialText.tells start g.met.P.PartialText.goes_on text c.args.end.now more feed.part
    feed.partial.items feed.number h c.requires (c.in-Err-Damaged.ensures.taken c.in-Err-Damaged.field-0-is)

pub returns : goal.returns
returns g c = λ start text h.
    let feed = c.args.self in
    let tells = g.P.PartialText.tells in
    subst (λ (l : List ℕ). HasFedLines tells start (text ++ (c.args.end.now ++ line_feed ∷ [])) c.in-Ok.longer l c.in-Some.number)
    (sym c.in-Ok.ensures.emptied)
    (line_taken tells start text c.args.end.now feed.part c.in-Ok.longer feed.partial.items feed.number c.in-Some.number h
    c.requires c.in-Ok.ensures.taken c.in-Some.ensures.1)
