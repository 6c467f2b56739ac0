-- Line after line is taken, until none ends in the piece.
use Rattle.std.proofs.Common.{◌≡◌, ◌∙◌, List, ℕ, [], ◌∷◌, ◌++◌, ap, sym, subst, append_assoc}
use Rattle.ws_formats.specs.Lines.{Damages, HasLineForEach, line_feed}
use Rattle.ws_text_feed.specs.Feeding.{HasFed}
use Rattle.ws_text_feed.proofs.Fed.{before_line, longer, through}
use Rattle.ws_text_feed.proofs.feeding.TextFeed.feed.Goals as goal

pub loop-line-preserved : goal.loop-line-preserved
loop-line-preserved g c =
    let (done, parts, fed) = c.loop-line.invariant in
    let line = c.in-Some.line.now in
    let new = c.end_line.new.self in (
      done ++ (line ++ line_feed ∷ []),
      parts ∙ through done c.loop-line.rest.now line c.in-Some.after.now c.in-Some.ensures.0,
      λ first text h.
          subst (λ (t : List ℕ). HasFed g.T.TakeValues.is_line_of g.T.TakeValues.has_taken first t new.taker new.partial.items new.number)
          (append_assoc text done (line ++ line_feed ∷ [])) (c.in-Ok.ensures first (text ++ done) (fed first text h)),
    )

pub returns-in-Err : goal.returns-in-Err
returns-in-Err g c = λ first text h more.
    let (done, parts, fed) = c.loop-line.invariant in
    let line = c.in-Some.line.now in
    subst (λ (t : List ℕ). Damages (HasLineForEach g.T.TakeValues.is_line_of) c.in-Err.fault t)
    (before_line text done c.args.piece.now c.loop-line.rest.now line c.in-Some.after.now more parts c.in-Some.ensures.0)
    (c.in-Err.ensures first (text ++ done) (fed first text h) (c.in-Some.after.now ++ more))

pub returns-in-Ok-extend_from_slice : goal.returns-in-Ok-extend_from_slice
returns-in-Ok-extend_from_slice g c = λ first text h.
    let (done, parts, fed) = c.loop-line.invariant in
    let line_of = g.T.TakeValues.is_line_of in
    let taken = g.T.TakeValues.has_taken in
    let self = c.loop-line.self in
    let whole : (text ++ done) ++ c.loop-line.rest.now ≡ text ++ c.args.piece.now =
    append_assoc text done c.loop-line.rest.now ∙ ap (λ (l : List ℕ). text ++ l) (sym parts) in
    subst (λ (l : List ℕ). HasFed line_of taken first (text ++ c.args.piece.now) self.taker l self.number)
    (sym c.in-Ok-extend_from_slice.ensures.items)
    (subst (λ (t : List ℕ). HasFed line_of taken first t self.taker (self.partial.items ++ c.loop-line.rest.now) self.number) whole
    (longer line_of taken first (text ++ done) c.loop-line.rest.now self.taker self.partial.items self.number (fed first text h)
    c.in_default.ensures))

pub end_line-requires-clause-fed : goal.end_line-requires-clause-fed
end_line-requires-clause-fed g c =
    let (first, text, h) = c.requires in
    let (done, parts, fed) = c.loop-line.invariant in
    (first, text ++ done, fed first text h)
