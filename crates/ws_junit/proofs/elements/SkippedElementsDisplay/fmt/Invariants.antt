-- Those so far are written.
use Rattle.std.proofs.Common.{map, take}
use Rattle.std.specs.Fmt.{HasWritten, IsPlainFormatter}
use Rattle.std.specs.List.{flat_map}
use Rattle.ws_junit.specs.Documents.{skipped_element}
use Rattle.ws_junit.proofs.elements.SkippedElementsDisplay.fmt.Given as goal

abbrev pub invariant-loop-id : goal.invariant-loop-id
invariant-loop-id g l = IsPlainFormatter l.initial.f
    → HasWritten g.W.Write.write_str_gives l.initial.f
    (flat_map (skipped_element l.self.peer.now) (take l.id-index l.id-items)) l.f
