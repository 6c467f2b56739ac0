-- Run after run, and character after character: those so far were put.
use Rattle.std.proofs.Common.{◌≤◌, ◌-◌}
use denote.Shadow.{shadow}
use denote.Text.{Utf8}
use Rattle.ws_formats.proofs.QuotedTexts.{AreShown}
use Rattle.ws_formats.proofs.quoting.put_characters.Given as goal

abbrev pub invariant-loop-count : goal.invariant-loop-count
invariant-loop-count l = shadow (Utf8 l.left) × (l.count ≤ 64)
    × AreShown l.initial.text l.left l.initial.line.items l.line.items l.count

abbrev pub decreases-loop-count : goal.decreases-loop-count
decreases-loop-count l = 64 - l.count
