-- The characters so far are written, and what is left follows.
use Rattle.std.specs.Fmt.{IsPlainFormatter}
use Rattle.std.specs.List.{flat_map}
use Rattle.std.specs.Str.{IsUtf8, chars}
use Rattle.std.specs.Str.Iter.{chars_rest}
use Rattle.ws_junit.specs.XmlTexts.{character_in_attribute}
use Rattle.ws_junit.proofs.Written.{Goes}
use Rattle.ws_junit.proofs.xml_text.QuotedTextDisplay.fmt.Given as goal

abbrev pub invariant-loop-character : goal.invariant-loop-character
invariant-loop-character g l = IsUtf8 (chars_rest l.character-iterator) × (IsPlainFormatter l.initial.f
    → Goes g.W.Write.write_str_gives l.initial.f l.f
    (flat_map character_in_attribute (chars (chars_rest l.character-iterator)))
    (flat_map character_in_attribute (chars l.self.0.now)))
