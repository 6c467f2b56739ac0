-- Byte after byte: what is kept is the unfinished character of the text with the bytes so far.
use Rattle.std.proofs.Common.{ℕ, List, ◌++◌, take}
use Rattle.ws_text.specs.Text.{IsUnfinished, HasUnfinished}
use Rattle.ws_text.specs.InnerStep.{kept_bytes}
use Rattle.ws_text.proofs.unfinished.Unfinished.push_bytes.Given as goal

abbrev pub invariant-loop-i : goal.invariant-loop-i
invariant-loop-i l = IsUnfinished (kept_bytes l.unfinished) × ((text : List ℕ) → HasUnfinished text (kept_bytes l.fn.self) → HasUnfinished (text ++ take l.i l.piece) (kept_bytes l.unfinished))
