-- The line of the first gap is counted behind those before the segments; without a gap the text is whole.
use Rattle.std.proofs.Common.{◌≡◌, ◌∙◌, ◌+◌, ℕ, List, All, ap, subst}
use Rattle.ws_followed.specs.declared.segment.Segment.{Segment}
use Rattle.ws_followed.specs.Gaps.{IsFirstGap, IsNoGap}
use Rattle.ws_followed.specs.InnerConversion.{front_lines}
use Rattle.ws_followed.proofs.GapPlaces.{front_is}
use Rattle.ws_followed.proofs.conversion.whole_segments.Goals as goal

pub returns-in-Some : goal.returns-in-Some
returns-in-Some c =
    let (lines, are_lines, told, is_text) = c.in-Ok.ensures in
    let at = c.in-Some.at in
    record {
      segments = c.in-Ok.segments;
      lines = lines;
      are_lines = are_lines;
      told = told;
      is_text = is_text;
      at = at;
      first = subst (λ (l : List Segment). IsFirstGap l at) c.as_slice.ensures c.in-Some.ensures;
      number_is = c.line_of.ensures ∙ ap (λ (n : ℕ). n + at + 1)
          (ap (λ (l : List ℕ). front_lines l) is_text ∙ front_is lines are_lines);
    }

pub returns-in-None : goal.returns-in-None
returns-in-None c =
    (c.in-Ok.ensures, subst (λ (l : List Segment). All IsNoGap l) c.as_slice.ensures c.in-None.ensures)
