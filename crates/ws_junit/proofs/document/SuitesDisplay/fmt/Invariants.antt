-- Those so far are written.
use Rattle.std.proofs.Common.{map, take}
use Rattle.std.specs.Fmt.{HasWritten, IsPlainFormatter}
use Rattle.std.specs.List.{flat_map}
use Rattle.ws_junit.specs.Documents.{suite_of}
use Rattle.ws_junit.proofs.document.SuitesDisplay.fmt.Given as goal

abbrev pub invariant-loop-peer : goal.invariant-loop-peer
invariant-loop-peer g l = IsPlainFormatter l.initial.f
    → HasWritten g.W.Write.write_str_gives l.initial.f
    (flat_map (suite_of l.self.listed.now) (take l.peer-index l.peer-items)) l.f
