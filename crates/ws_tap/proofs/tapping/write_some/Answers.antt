-- What was written was taken, which the tap is told.
use Rattle.std.proofs.Common.{◌≡◌, List, [], ℕ, take, refl, subst}
use Rattle.std.proofs.KnownBytes.{Appends-kept, Appends-nil}
use Rattle.std.specs.Io.KnownBytes.{Appends}
use Rattle.ws_tap.specs.Running.{device_bytes}
use Rattle.ws_tap.specs.Tapping.{waits_for}
use Rattle.ws_tap.proofs.RunLemmas.{writes_none}
use Rattle.ws_tap.proofs.tapping.write_some.Goals as goal

pub returns-in-Ok-eq0 : goal.returns-in-Ok-eq0
returns-in-Ok-eq0 g c = (
  subst (λ n. Appends (g.W.Write.contents c.args.to.now) (g.W.Write.contents c.write.new.self)
      (take n c.to_write.result.now)) c.in-Ok-eq0.field-0-test c.in-Ok-eq0.ensures.bytes,
  refl,
)

pub returns-in-Ok : goal.returns-in-Ok
returns-in-Ok g c =
    let waits = waits_for c.args.role c.args.tap.now in
    let count = c.in-Ok.count in
    let old = g.W.Write.contents c.args.to.now in
    let new = g.W.Write.contents c.write.new.self in
    let same : c.to_write.result.now ≡ waits = c.to_write.ensures.waits in (
      take count waits,
      subst (λ (t : List ℕ). Appends old new (take count t)) same c.in-Ok.ensures.bytes,
      c.taken.ensures.told,
    )

pub returns-in-Err : goal.returns-in-Err
returns-in-Err g c =
    let old = g.W.Write.contents c.args.to.now in
    let new = g.W.Write.contents c.write.new.self in
    writes_none c.args.role c.args.tap.now (device_bytes old new) c.after_error.result c.after_error.ensures
    (Appends-kept old old new [] (Appends-nil old) c.in-Err.ensures.bytes)
