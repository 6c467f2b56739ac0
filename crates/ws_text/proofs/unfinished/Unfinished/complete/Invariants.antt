-- Byte after byte: what is kept is the unfinished character of the text with the bytes so far.
use Rattle.std.proofs.Common.{ℕ, List, ◌++◌, take}
use Rattle.ws_text.specs.Text.{IsUnfinished, HasUnfinished}
use Rattle.ws_text.specs.InnerStep.{kept_bytes}
use Rattle.ws_text.proofs.unfinished.Unfinished.complete.Given as goal

abbrev pub invariant-loop-place : goal.invariant-loop-place
invariant-loop-place l = IsUnfinished (kept_bytes l.unfinished) × ((text : List ℕ) → HasUnfinished text (kept_bytes l.fn.self) → HasUnfinished (text ++ take l.place l.piece) (kept_bytes l.unfinished))
