-- What is said of all headers is said of those after the first.
use Rattle.std.proofs.Common.{rules, ◌≡◌, ◌∷◌, ◌∙◌, sym, length, false}
use Rattle.std.specs.Str.{str_eq_ignore_ascii_case}
use Rattle.httparse.specs.Spans.{IsHeaderWithin}
use Rattle.ws_upgrade.proofs.MemberLemmas.{All-after, values_of-other}
use Rattle.ws_upgrade.proofs.members.ValuesIterator.next.Goals as goal

pub invariant_of-self : goal.invariant_of-self
invariant_of-self c =
    let inside = c.loop-span.self-inside in
    let first = c.in-Some.span.now in
    let others = c.in-Some.others.now in
    let parts : inside.spans.now ≡ first ∷ others = search rules in
    All-after (IsHeaderWithin (length inside.bytes.now)) inside.spans.now first others parts c.loop-span.invariant.0

pub loop-span-preserved : goal.loop-span-preserved
loop-span-preserved c =
    let inside = c.loop-span.self-inside in
    let bytes = inside.bytes.now in
    let spans = inside.spans.now in
    let first = c.in-Some.span.now in
    let others = c.in-Some.others.now in
    let parts : spans ≡ first ∷ others = search rules in
    let other : str_eq_ignore_ascii_case c.of.result.now inside.name.now ≡ false =
    sym c.is_same_word.ensures ∙ c.if-is_same_word.false in (
      All-after (IsHeaderWithin (length bytes)) spans first others parts c.loop-span.invariant.0,
      c.loop-span.invariant.1
          ∙ values_of-other inside.name.now bytes spans first others parts (rw c.of.ensures at other),
    )
