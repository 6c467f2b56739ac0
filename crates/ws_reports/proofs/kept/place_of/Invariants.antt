-- A verdict of the case stands behind those so far, and what is left decides its place.
use Rattle.std.proofs.Common.{◌≡◌, ◌++◌, drop, take}
use Rattle.ws_reports.specs.Kept.{verdict_after}
use Rattle.ws_reports.specs.declared.kept.KeptVerdict.{KeptVerdict}
use Rattle.ws_reports.proofs.kept.place_of.Given as goal

abbrev pub invariant-loop-place : goal.invariant-loop-place
invariant-loop-place l = (verdict : KeptVerdict) → verdict.id ≡ l.id
    → take l.place l.kept ++ verdict_after (drop l.place l.kept) verdict ≡ verdict_after l.kept verdict
