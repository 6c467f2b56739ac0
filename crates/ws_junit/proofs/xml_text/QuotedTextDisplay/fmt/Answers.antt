-- One character more of a string is written.
use Rattle.std.proofs.Common.{◌≡◌, ◌∙◌, ◌∷◌, ◌++◌, [], ℕ, List, length, ap, refl, rules, arith}
use Rattle.std.proofs.lemmas.Str.{IsUtf8-past_char, chars-nil, chars_past_char}
use Rattle.std.specs.Char.{encode_utf8}
use Rattle.std.specs.List.{flat_map}
use Rattle.std.specs.Str.{chars}
use Rattle.std.specs.Str.Iter.{chars_rest}
use Rattle.ws_junit.specs.XmlTexts.{character_in_attribute}
use Rattle.ws_junit.proofs.Written.{no_characters, text_end, text_step}
use Rattle.ws_junit.proofs.xml_text.QuotedTextDisplay.fmt.Goals as goal

nothing_of : (l : List ℕ) → length l ≡ 0 → l ≡ []
nothing_of [] e = refl
nothing_of (x ∷ l) e = absurd (omega (arith, e))

pub loop-character-preserved : goal.loop-character-preserved
loop-character-preserved g c =
    let i = c.loop-character.invariant in
    let rest = chars_rest c.loop-character.character-iterator in
    let after = chars_rest c.next.new.self in
    let character = c.in-Some.character in
    let cut : rest ≡ encode_utf8 character ++ after = c.in-Some.ensures.steps.0 in (
      IsUtf8-past_char rest after character i.0 cut,
      λ plain.
          let so_far = i.1 plain in
          text_step g.W.Write.write_str_gives c.args.f.now c.loop-character.f c.write.new.self
          (flat_map character_in_attribute (chars rest)) (character_in_attribute character)
          (flat_map character_in_attribute (chars after)) _ so_far
          (ap (λ (l : List ℕ). flat_map character_in_attribute l) (chars_past_char rest after character i.0 cut))
          (c.in_ok-write.ensures.writes so_far.2.plain refl),
    )

pub returns-clause-writes : goal.returns-clause-writes
returns-clause-writes g c = λ plain ok.
    let rest = chars_rest c.loop-character.character-iterator in
    let none : rest ≡ [] = nothing_of rest c.in-None.ensures.steps.0.0 in
    text_end g.W.Write.write_str_gives c.args.f.now c.loop-character.f _ _ (c.loop-character.invariant.1 plain)
    (ap (λ (l : List ℕ). flat_map character_in_attribute (chars l)) none
    ∙ ap (λ (l : List ℕ). flat_map character_in_attribute l) chars-nil)
