-- The characters read so far are those of the payload so far, and what is left of the text stands for the others.
use denote.Shadow.{shadow}
use denote.Text.{Utf8}
use Rattle.std.proofs.Common.{◌≡◌, ℕ, List, chars, encode_utf8_all, length, string_bytes}
use Rattle.ws_scripts.proofs.QuotedLemmas.{HasReadText}
use Rattle.ws_scripts.proofs.script_text.quoted.unescape.Given as goal

abbrev pub invariant-loop-rest : goal.invariant-loop-rest
invariant-loop-rest l = shadow (Utf8 l.rest) × (done : List ℕ) × (string_bytes l.payload ≡ encode_utf8_all done)
    × HasReadText done (chars l.fn.text) (chars l.rest)

abbrev pub decreases-loop-rest : goal.decreases-loop-rest
decreases-loop-rest l = length l.rest
