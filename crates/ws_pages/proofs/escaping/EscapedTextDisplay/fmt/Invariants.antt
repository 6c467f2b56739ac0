-- The characters so far are written, and what is left follows.
use Rattle.std.specs.Fmt.{IsPlainFormatter}
use Rattle.std.specs.List.{flat_map}
use Rattle.std.specs.Str.{IsUtf8, chars}
use Rattle.std.specs.Str.Iter.{chars_rest}
use Rattle.ws_pages.specs.PageText.{character_on_page}
use Rattle.ws_pages.proofs.Marked.{Goes}
use Rattle.ws_pages.proofs.escaping.EscapedTextDisplay.fmt.Given as goal

abbrev pub invariant-loop-character : goal.invariant-loop-character
invariant-loop-character g l = IsUtf8 (chars_rest l.character-iterator) × (IsPlainFormatter l.initial.f
    → Goes g.W.Write.write_str_gives l.initial.f l.f
    (flat_map character_on_page (chars (chars_rest l.character-iterator)))
    (flat_map character_on_page (chars l.self.0.now)))
