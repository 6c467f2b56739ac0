-- What is to be written is written, before the direction is ended, and before more is read.
use Rattle.std.proofs.Common.{◌≡◌, ◌∙◌, ◌<◌, true, List, ℕ, length, refl, rules, subst, sym}
use Rattle.std.proofs.KnownBytes.{Appends-nil}
use Rattle.ws_wire.specs.declared.role.Role.{Role}
use Rattle.ws_frame.specs.Devices.{watched}
use Rattle.ws_tap.specs.Told.{other_end}
use Rattle.ws_tap.specs.Running.{EndsDirection, WritesToEnd, device_bytes}
use Rattle.ws_tap.specs.Tapping.{ends_wanted, room_from, waits_for}
use Rattle.ws_tap.proofs.RunLemmas.{not_none, passes_end, passes_nothing, passes_read, passes_write}
use Rattle.ws_tap.proofs.tapping.pass.Goals as goal

pub returns-then-not-is_empty : goal.returns-then-not-is_empty
returns-then-not-is_empty g c =
    let role = c.args.role in
    let tap = c.args.tap.now in
    let after = c.write_some.new.tap in
    let left = g.R.Read.remaining c.args.from.now in
    let writer = device_bytes (g.W.Write.contents c.args.to.now) (g.W.Write.contents c.write_some.new.to) in
    let some : 0 < length (waits_for (other_end role) tap) = subst (λ (r : Role). 0 < length (waits_for r tap))
    c.other_end-other.ensures
    (subst (λ (t : List ℕ). 0 < length t) c.to_write.ensures.waits
    (not_none (length c.to_write.result.now) (sym c.if-not-is_empty.true ∙ c.is_empty.ensures))) in record {
      passes = passes_write role tap after (device_bytes left left) writer (g.W.TapWriter.is_ended c.args.to.now)
          (g.W.TapWriter.is_ended c.write_some.new.to)
          (watched g.O.Write.contents c.args.output.now c.args.output.now) c.write_some.result some refl
          c.requires.output_works (Appends-nil _)
          (subst (λ (r : Role). WritesToEnd r tap after writer c.write_some.result) c.other_end-other.ensures
          c.write_some.ensures);
    }

pub end_direction-requires : goal.end_direction-requires
end_direction-requires g c = sym c.wants_end.ensures.wanted ∙ c.if-wants_end.true

pub returns-then-wants_end : goal.returns-then-wants_end
returns-then-wants_end g c =
    let role = c.args.role in
    let tap = c.args.tap.now in
    let after = c.end_direction.new.tap in
    let left = g.R.Read.remaining c.args.from.now in
    let writer = device_bytes (g.W.Write.contents c.args.to.now) (g.W.Write.contents c.end_direction.new.to) in
    let wanted : ends_wanted (other_end role) tap ≡ true = subst (λ (r : Role). ends_wanted r tap ≡ true)
    c.other_end-other.ensures (sym c.wants_end.ensures.wanted ∙ c.if-wants_end.true) in record {
      passes = passes_end role tap after (device_bytes left left) writer (g.W.TapWriter.is_ended c.args.to.now)
          (g.W.TapWriter.is_ended c.end_direction.new.to)
          (watched g.O.Write.contents c.args.output.now c.args.output.now) c.end_direction.result wanted refl
          c.requires.output_works (Appends-nil _)
          (subst (λ (r : Role). EndsDirection r tap after writer (g.W.TapWriter.is_ended c.end_direction.new.to)
          c.end_direction.result) c.other_end-other.ensures c.end_direction.ensures);
    }

pub returns-then-room-eq0 : goal.returns-then-room-eq0
returns-then-room-eq0 g c =
    let left = g.R.Read.remaining c.args.from.now in
    let held = g.W.Write.contents c.args.to.now in record {
      passes = passes_nothing c.args.role c.args.tap.now (device_bytes left left) (device_bytes held held)
          (g.W.TapWriter.is_ended c.args.to.now) (watched g.O.Write.contents c.args.output.now c.args.output.now) refl
          refl c.requires.output_works (Appends-nil _);
    }

pub returns : goal.returns
returns g c =
    let role = c.args.role in
    let tap = c.args.tap.now in
    let held = g.W.Write.contents c.args.to.now in
    let some : 0 < room_from role tap = search rules in record {
      passes = passes_read role tap c.read_some.new.tap
          (device_bytes (g.R.Read.remaining c.args.from.now) (g.R.Read.remaining c.read_some.new.from))
          (device_bytes held held) (g.W.TapWriter.is_ended c.args.to.now)
          (watched g.O.Write.contents c.args.output.now c.read_some.new.output) c.read_some.result some refl
          c.read_some.ensures;
    }
