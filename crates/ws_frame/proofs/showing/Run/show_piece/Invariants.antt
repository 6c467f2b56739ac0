-- Frame after frame: the lines of the frames in the bytes up to `at` were written or wait.
use Rattle.std.proofs.Common.{◌≡◌, ◌≤◌, ◌+◌, ◌-◌, ◌++◌, false, List, ℕ, length, take}
use Rattle.std.specs.Io.KnownBytes.{Appends}
use Rattle.ws_frame.specs.Watching.{has_failed, inner_of}
use Rattle.ws_frame.specs.InnerShowing.{HasTold}
use Rattle.ws_frame.proofs.showing.Run.show_piece.Given as goal

-- the lines of the frames up to `at` were written or wait
abbrev pub invariant-loop-at : goal.invariant-loop-at
invariant-loop-at g l = record {
  works : has_failed l.writer ≡ false;
  within : l.at ≤ length l.piece;
  source : l.self.source ≡ l.initial.self.source;
  count : l.self.taken ≡ l.initial.self.taken + l.at;
  told : (taken written : List ℕ) → HasTold l.initial.self taken written
      → (more : List ℕ) × Appends (g.W.Write.contents (inner_of l.initial.writer)) (g.W.Write.contents (inner_of l.writer)) more × HasTold l.self (taken ++ take l.at l.piece) (written ++ more);
}

abbrev pub decreases-loop-at : goal.decreases-loop-at
decreases-loop-at g l = length l.piece - l.at
