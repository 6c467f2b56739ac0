-- The characters so far are written, and what is left follows.
use Rattle.std.specs.Fmt.{IsPlainFormatter}
use Rattle.std.specs.List.{flat_map}
use Rattle.std.specs.Str.{IsUtf8, chars}
use Rattle.std.specs.Str.Iter.{chars_rest}
use Rattle.ws_runs.specs.Shown.{character_in_string}
use Rattle.ws_runs.proofs.Marked.{Goes}
use Rattle.ws_runs.proofs.shown.QuotedTextDisplay.fmt.Given as goal

abbrev pub invariant-loop-character : goal.invariant-loop-character
invariant-loop-character g l = IsUtf8 (chars_rest l.character-iterator) × (IsPlainFormatter l.initial.f
    → Goes g.W.Write.write_str_gives l.initial.f l.f
    (flat_map character_in_string (chars (chars_rest l.character-iterator)))
    (flat_map character_in_string (chars l.self.0.now)))
