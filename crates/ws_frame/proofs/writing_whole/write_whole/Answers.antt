-- Write after write a longer front of the bytes is written, and a front of them is left where a write fails.
use Rattle.std.proofs.Common.{rules, ◌+◌, sym, take, drop, take-append-drop}
use Rattle.std.proofs.KnownBytes.{Appends-kept}
use Rattle.ws_frame.proofs.Written.{wrote_more, rest_length}
use Rattle.ws_frame.proofs.writing_whole.write_whole.Goals as goal

pub returns-in-Ok-eq0-clause-begun : goal.returns-in-Ok-eq0-clause-begun
returns-in-Ok-eq0-clause-begun g c =
    let bytes = c.args.bytes.now in
    let at = c.loop-at.at + c.in-Ok-eq0.field-0 in
    (take at bytes, drop at bytes, sym (take-append-drop at bytes), wrote_more c.loop-at.at c.in-Ok-eq0.field-0 bytes _ _ _ c.loop-at.invariant.2 c.in-Ok-eq0.ensures.bytes)

pub loop-at-preserved : goal.loop-at-preserved
loop-at-preserved g c = (
  rest_length c.loop-at.at c.in-Ok.taken _ c.loop-at.invariant.0 c.in-Ok.ensures.bound,
  search rules,
  wrote_more c.loop-at.at c.in-Ok.taken _ _ _ _ c.loop-at.invariant.2 c.in-Ok.ensures.bytes,
)

pub returns-in-Err-clause-begun : goal.returns-in-Err-clause-begun
returns-in-Err-clause-begun g c =
    let bytes = c.args.bytes.now in
    let at = c.loop-at.at in
    (take at bytes, drop at bytes, sym (take-append-drop at bytes), Appends-kept _ _ _ _ c.loop-at.invariant.2 c.in-Err.ensures.bytes)
