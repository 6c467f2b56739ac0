-- The peers so far have the mark.
use Rattle.std.proofs.Common.{◌≡◌, true, take}
use Rattle.ws_pages.specs.Page.{have_mark}
use Rattle.ws_pages.proofs.marks.have_mark.Given as goal

abbrev pub invariant-loop-peer : goal.invariant-loop-peer
invariant-loop-peer l = have_mark (take l.peer-index l.peers) l.id l.mark ≡ true
