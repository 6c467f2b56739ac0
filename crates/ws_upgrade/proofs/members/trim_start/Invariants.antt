-- Byte after byte from the start: only spaces and tabs were left out so far.
use Rattle.std.proofs.Common.{◌≡◌, length}
use Rattle.httparse.specs.Grammar.{skip_ows}
use Rattle.ws_upgrade.proofs.members.trim_start.Given as goal

abbrev pub invariant-loop-rest : goal.invariant-loop-rest
invariant-loop-rest l = skip_ows l.fn.bytes ≡ skip_ows l.rest

abbrev pub decreases-loop-rest : goal.decreases-loop-rest
decreases-loop-rest l = length l.rest
