-- The front begins with the bytes so far, and what is left decides where it ends.
use Rattle.std.proofs.Common.{◌≡◌, ◌≤◌, ◌++◌, drop, take}
use Rattle.ws_pages.specs.ShortNames.{front_after, short_front}
use Rattle.ws_pages.proofs.short_name.short_front.Given as goal

abbrev pub invariant-loop-place : goal.invariant-loop-place
invariant-loop-place l = (take l.place l.name ++ front_after l.begun (drop l.place l.name) ≡ short_front l.name)
    × (l.begun ≤ 24)
