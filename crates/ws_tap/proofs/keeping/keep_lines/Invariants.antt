-- The lines of the bytes so far are shown, and kept as far as they fit.
use Rattle.std.proofs.Common.{◌≡◌, ◌++◌, List, ℕ, take}
use Rattle.ws_frame.specs.FrameStreaming.{HasTakenFrames, frames_source, keeps_frames}
use Rattle.ws_tap.specs.Telling.{IsKeeping}
use Rattle.ws_tap.proofs.keeping.keep_lines.Given as goal

abbrev pub invariant-loop-byte : goal.invariant-loop-byte
invariant-loop-byte l = record {
  source : frames_source l.lines ≡ frames_source l.initial.lines;
  keeps : keeps_frames l.lines ≡ keeps_frames l.initial.lines;
  kept : (bytes : List ℕ) (shown : List ℕ) → HasTakenFrames l.initial.lines bytes shown
      → (more : List ℕ) × HasTakenFrames l.lines (bytes ++ take l.byte-index l.piece) (shown ++ more)
      × (IsKeeping (frames_source l.initial.lines) bytes shown l.initial.kept
      → IsKeeping (frames_source l.initial.lines) (bytes ++ take l.byte-index l.piece) (shown ++ more) l.kept);
}
