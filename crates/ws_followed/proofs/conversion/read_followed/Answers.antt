-- What the segments of a whole text give is what the text gives.
use Rattle.std.proofs.Common.{List, subst, sym}
use Rattle.ws_followed.specs.declared.segment.Segment.{Segment}
use Rattle.ws_followed.specs.Conversion.{IsWholeText}
use Rattle.ws_followed.proofs.HeadsOfEnds.{told_whole}
use Rattle.ws_followed.proofs.conversion.read_followed.Goals as goal

pub returns : goal.returns
returns c =
    let text = c.args.text.now in
    told_whole c.args.judged c.as_slice.result.now text
    (subst (λ (l : List Segment). IsWholeText l text) (sym c.as_slice.ensures) c.in_ok-segments.ensures)
    c.capture_of.result c.capture_of.ensures
