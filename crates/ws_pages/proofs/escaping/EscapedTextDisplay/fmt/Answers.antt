-- One character more is written.
use Rattle.std.proofs.Common.{List, ℕ, ap, refl}
use Rattle.std.proofs.lemmas.Str.{IsUtf8-past_char, chars_past_char}
use Rattle.std.specs.List.{flat_map}
use Rattle.std.specs.Str.{chars}
use Rattle.std.specs.Str.Iter.{chars_rest}
use Rattle.ws_pages.specs.PageText.{character_on_page}
use Rattle.ws_pages.proofs.Marked.{text_end, text_step}
use Rattle.ws_pages.proofs.PageLemmas.{no_characters}
use Rattle.ws_pages.proofs.escaping.EscapedTextDisplay.fmt.Goals as goal

pub loop-character-preserved : goal.loop-character-preserved
loop-character-preserved g c =
    let held = c.loop-character.invariant in
    let parts = c.in-Some.ensures.steps.0 in
    let shown = λ (l : List ℕ). flat_map character_on_page (chars l) in
    let rest = chars_rest c.loop-character.character-iterator in
    let left = chars_rest c.next.new.self in (
      IsUtf8-past_char _ _ c.in-Some.character held.0 parts,
      λ plain.
          let so_far = held.1 plain in
          text_step g.W.Write.write_str_gives c.args.f.now c.loop-character.f c.write.new.self (shown rest)
          (character_on_page c.in-Some.character) (shown left) _ so_far
          (ap (flat_map character_on_page) (chars_past_char _ _ c.in-Some.character held.0 parts))
          (c.in_ok-write.ensures.writes so_far.2.plain refl),
    )

pub returns-clause-writes : goal.returns-clause-writes
returns-clause-writes g c = λ plain ok.
    text_end g.W.Write.write_str_gives c.args.f.now c.loop-character.f _ _ (c.loop-character.invariant.1 plain)
    (ap (flat_map character_on_page) (no_characters _ c.in-None.ensures.steps.0.0))
