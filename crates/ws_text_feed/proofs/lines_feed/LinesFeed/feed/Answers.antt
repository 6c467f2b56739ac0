-- Line after line is taken, until none ends in the piece.
use Rattle.std.proofs.Common.{◌≡◌, ◌∙◌, List, ℕ, [], ◌∷◌, ◌++◌, ap, sym, subst, append_assoc}
use Rattle.ws_formats.specs.Lines.{Damages, IsTextOfLines, line_feed}
use Rattle.ws_text_feed.specs.FeedingLines.{AreFedLines}
use Rattle.ws_text_feed.proofs.Fed.{before_line, through}
use Rattle.ws_text_feed.proofs.FedLines.{kept_open}
use Rattle.ws_text_feed.proofs.lines_feed.LinesFeed.feed.Goals as goal

pub loop-line-preserved : goal.loop-line-preserved
loop-line-preserved g c =
    let (done, parts, fed) = c.loop-line.invariant in
    let line = c.in-Some.line.now in (
      done ++ (line ++ line_feed ∷ []),
      parts ∙ through done c.loop-line.rest.now line c.in-Some.after.now c.in-Some.ensures.0,
      λ start text h.
          subst (λ (t : List ℕ). AreFedLines g.P.PartialText.tells start t c.in-Ok.longer)
          (append_assoc text done (line ++ line_feed ∷ [])) (c.in-Ok.ensures start (text ++ done) (fed start text h)),
    )

pub returns-in-Err : goal.returns-in-Err
returns-in-Err g c = λ start text h more.
    let (done, parts, fed) = c.loop-line.invariant in
    let line = c.in-Some.line.now in
    subst (λ (t : List ℕ). Damages (IsTextOfLines (g.P.PartialText.tells start)) c.in-Err.fault t)
    (before_line text done c.args.piece.now c.loop-line.rest.now line c.in-Some.after.now more parts c.in-Some.ensures.0)
    (c.in-Err.ensures start (text ++ done) (fed start text h) (c.in-Some.after.now ++ more))

pub returns : goal.returns
returns g c = λ start text h.
    let (done, parts, fed) = c.loop-line.invariant in
    let whole : (text ++ done) ++ c.loop-line.rest.now ≡ text ++ c.args.piece.now =
    append_assoc text done c.loop-line.rest.now ∙ ap (λ (l : List ℕ). text ++ l) (sym parts) in
    kept_open (IsTextOfLines (g.P.PartialText.tells start))
    (λ t. AreFedLines g.P.PartialText.tells start t) c.with_open.result ((text ++ done) ++ c.loop-line.rest.now)
    (text ++ c.args.piece.now) (λ more. text ++ (c.args.piece.now ++ more)) whole
    (c.with_open.ensures start (text ++ done) (fed start text h))
