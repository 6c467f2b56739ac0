-- The group begins with the bytes so far, and what is left decides where it ends.
use Rattle.std.proofs.Common.{◌≡◌, ◌++◌, drop, take}
use Rattle.ws_pages.specs.Page.{group_of}
use Rattle.ws_pages.proofs.row_html.group_of.Given as goal

abbrev pub invariant-loop-place : goal.invariant-loop-place
invariant-loop-place l = take l.place l.id ++ group_of (drop l.place l.id) ≡ group_of l.id
