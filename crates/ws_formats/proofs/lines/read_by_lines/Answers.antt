-- Where the loop stops, the line that it has come to is the damaged one.
use Rattle.std.proofs.Common.{◌≡◌, ◌∙◌, ◌<◌, ◌∷◌, [], ◌++◌, ap, arith, length, List, ℕ, rules, subst, sym}
use Rattle.std.proofs.lemmas.List.{length-append}
use Rattle.ws_formats.specs.Lines.{IsLine}
use Rattle.ws_formats.proofs.DamagedLines.{lines_added, no_feed_in_line, one_line, text_added}
use Rattle.ws_formats.proofs.PartialTexts.{damaged_part, one_more}
use Rattle.ws_formats.proofs.lines.read_by_lines.Goals as goal

pub returns-in_default : goal.returns-in_default
returns-in_default g c =
    let i = c.loop-rest.invariant in
    let part = c.loop-rest.part in
    let some : 0 < length c.loop-rest.rest.now = search rules in
    damaged_part (g.P.PartialText.tells c.args.start)
    (g.P.PartialText.tells part) i.0 c.loop-rest.rest.now c.args.text.now c.loop-rest.number
    i.1 i.2 i.3 i.5 (g.met.P.PartialText.goes_on part)
    (λ v line left after told e is. no_feed_in_line line after (subst IsLine e c.in_default.ensures))
    (λ v told e. omega (arith, some, ap (λ (l : List ℕ). length l) e))

pub returns-in-Err-Damaged : goal.returns-in-Err-Damaged
returns-in-Err-Damaged g c =
    let i = c.loop-rest.invariant in
    let part = c.loop-rest.part in
    let some : 0 < length c.loop-rest.rest.now = search rules in
    damaged_part (g.P.PartialText.tells c.args.start)
    (g.P.PartialText.tells part) i.0 c.loop-rest.rest.now c.args.text.now c.loop-rest.number
    i.1 i.2 i.3 i.5 (g.met.P.PartialText.goes_on part)
    (λ v line left after told e is.
    let same = one_line line c.in-Some.line.now after c.in-Some.after.now is c.in-Some.ensures.1
    (sym e ∙ c.in-Some.ensures.0) in
    c.in-Err-Damaged.ensures c.in-Err-Damaged.field-0-is v left
    (subst (λ (l : List ℕ). g.P.PartialText.tells part v (l ∷ left)) same.0 told))
    (λ v told e. omega (arith, some, ap (λ (l : List ℕ). length l) e))

pub returns-in-None : goal.returns-in-None
returns-in-None g c =
    let i = c.loop-rest.invariant in
    let part = c.loop-rest.part in
    let none : length c.loop-rest.rest.now ≡ 0 = search rules in
    damaged_part (g.P.PartialText.tells c.args.start)
    (g.P.PartialText.tells part) i.0 c.loop-rest.rest.now c.args.text.now c.loop-rest.number
    i.1 i.2 i.3 i.5 (g.met.P.PartialText.goes_on part)
    (λ v line left after told e is. omega
    (arith, none, ap (λ (l : List ℕ). length l) e, length-append line (10 ∷ after)))
    (λ v told e. c.in-None.ensures v told)

pub loop-rest-preserved : goal.loop-rest-preserved
loop-rest-preserved g c =
    let i = c.loop-rest.invariant in
    let line = c.in-Some.line.now in
    let after = c.in-Some.after.now in (
      i.0 ++ line ∷ [],
      lines_added i.0 line i.1 c.in-Some.ensures.1,
      text_added c.args.text.now c.loop-rest.rest.now line after i.0 i.2 c.in-Some.ensures.0,
      omega (arith, i.3, length-append i.0 (line ∷ [])),
      omega (arith, i.4, ap (λ (l : List ℕ). length l) c.in-Some.ensures.0, length-append line (10 ∷ after)),
      one_more (g.P.PartialText.tells c.args.start) (g.P.PartialText.tells c.loop-rest.part)
          (g.P.PartialText.tells c.in-Ok.longer) i.0 line i.5 c.in-Ok.ensures,
    )
