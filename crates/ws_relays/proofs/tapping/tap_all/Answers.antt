-- Connections are tapped, event by event, until they have ended or something fails.
use Rattle.std.proofs.Common.{◌≡◌, ◌<◌, ℕ, IsErrAnd, List, Some, arith, length, refl, rules, subst, sym}
use Rattle.ws_clients.specs.Counting.{HasCounted}
use Rattle.ws_frame.specs.Devices.{watched}
use Rattle.ws_frame.specs.Watching.{has_failed, inner_of}
use Rattle.ws_relays.specs.InnerRelays.{RelayOn}
use Rattle.ws_relays.specs.Tappings.{last_tap_number}
use Rattle.ws_relays.specs.declared.relays.RelayEvent.{RelayEvent}
use Rattle.ws_relays.specs.declared.relays.RelayEvent.TheVariants as event
use Rattle.ws_relays.specs.declared.relays.RelayFault.TheVariants.{NoMemory}
use Rattle.ws_relays.proofs.TappingLemmas.{all_deaf, all_done, all_stopped, begins_tapping, event_told, lacks_memory}
use Rattle.ws_relays.proofs.TappingLemmas.{line_stopped, line_told, none_done, none_told, relays_stopped, told_once}
use Rattle.ws_relays.proofs.TappingLemmas.{room_stays, told_then}
use Rattle.ws_relays.proofs.tapping.tap_all.Goals as goal

pub returns-then-last-eq0-clause-taps : goal.returns-then-last-eq0-clause-taps
returns-then-last-eq0-clause-taps g c =
    let last : 0 ≡ last_tap_number c.args.tapping.now.count = search rules in
    none_done g.N.Stream.NonBlocking.did g.L.Listener.did g.N.Network.did c.args.tapping.now c.args.over.listener
    c.args.over.network (has_failed c.args.output.now) (g.O.Write.contents (inner_of c.args.output.now))
    c.requires.works last

pub returns-in_err-room-clause-taps : goal.returns-in_err-room-clause-taps
returns-in_err-room-clause-taps g c =
    let is : IsErrAnd c.from_residual.result (λ why. why ≡ NoMemory) = search rules in
    let more : 0 < last_tap_number c.args.tapping.now.count = search rules in
    lacks_memory g.N.Stream.NonBlocking.did g.L.Listener.did g.N.Network.did c.args.tapping.now c.args.over.listener
    c.args.over.network (has_failed c.args.output.now) (g.O.Write.contents (inner_of c.args.output.now))
    c.from_residual.result c.requires.works more is

pub returns-in_err-relays-clause-taps : goal.returns-in_err-relays-clause-taps
returns-in_err-relays-clause-taps g c =
    let is : IsErrAnd c.from_residual-in_err-relays.result (λ why. why ≡ NoMemory) = search rules in
    let more : 0 < last_tap_number c.args.tapping.now.count = search rules in
    lacks_memory g.N.Stream.NonBlocking.did g.L.Listener.did g.N.Network.did c.args.tapping.now c.args.over.listener
    c.args.over.network (has_failed c.args.output.now) (g.O.Write.contents (inner_of c.args.output.now))
    c.from_residual-in_err-relays.result c.requires.works more is

pub loop-left-init : goal.loop-left-init
loop-left-init g c =
    let left : c.new-listener.result.left ≡ Some (last_tap_number c.args.tapping.now.count) = search rules in record {
      room = c.in_ok-room.ensures;
      works = c.requires.works;
      tapping = begins_tapping g.N.Stream.NonBlocking.did g.L.Listener.did g.N.Network.did c.args.tapping.now
          c.args.over.listener c.args.over.network c.new-listener.result c.in_ok-relays.relays
          (g.O.Write.contents (inner_of c.args.output.now)) c.new-listener.ensures.listener left
          c.in_ok-relays.ensures.nobody c.in_ok-relays.ensures.taken;
      short = refl;
      few = omega arith;
    }

pub next-requires-clause-room : goal.next-requires-clause-room
next-requires-clause-room g c = subst (λ (l : List ℕ). 0 < length l) (sym c.as_mut_slice.ensures.value)
    c.loop-left.invariant.room

pub next-requires-clause-standing : goal.next-requires-clause-standing
next-requires-clause-standing g c =
    let h = c.loop-left.invariant.tapping in (c.args.tapping.now, h.all, h.are)

pub returns-in_err-event-clause-taps : goal.returns-in_err-event-clause-taps
returns-in_err-event-clause-taps g c =
    let at = c.loop-left in
    relays_stopped g.N.Stream.NonBlocking.did g.L.Listener.did g.N.Network.did c.args.tapping.now
    c.args.over.listener c.args.over.network at.listener at.network at.relays
    (g.O.Write.contents (inner_of c.args.output.now)) (g.O.Write.contents (inner_of at.output))
    (g.O.Write.contents (inner_of c.next.new.output)) at.told (has_failed c.next.new.output)
    c.from_residual-in_err-event.result c.in_err-event.field-0.0 c.from_residual-in_err-event.ensures.1
    at.invariant.tapping (omega (arith, c.if-told-last.true, c.last_of-last.ensures)) c.in_err-event.ensures.goes

pub returns-in_err-event-clause-short : goal.returns-in_err-event-clause-short
returns-in_err-event-clause-short g c = told_once g.K.ShortageSink.told c.loop-left.is_short c.args.shortage.now
    c.loop-left.shortage c.loop-left.invariant.short

pub returns-in_err-put_end-in-Ended-clause-taps : goal.returns-in_err-put_end-in-Ended-clause-taps
returns-in_err-put_end-in-Ended-clause-taps g c =
    let at = c.loop-left in
    let on = subst (λ (e : RelayEvent). RelayOn g.N.Stream.NonBlocking.did
    (λ start now told. HasCounted g.L.Listener.did start now told) g.N.Network.did at.listener c.next.new.listener
    at.network c.next.new.network at.relays c.next.new.self
    (watched g.O.Write.contents at.output c.next.new.output) (Some e)) c.in-Ended.is c.in_ok-event.ensures.goes in
    let came = event_told g.N.Stream.NonBlocking.did g.L.Listener.did g.N.Network.did c.args.tapping.now
    c.args.over.listener c.args.over.network at.listener c.next.new.listener at.network c.next.new.network at.relays
    c.next.new.self (g.O.Write.contents (inner_of c.args.output.now)) (g.O.Write.contents (inner_of at.output))
    (g.O.Write.contents (inner_of c.next.new.output)) at.told (has_failed c.next.new.output)
    (Some (event.Ended c.in-Ended.number c.in-Ended.end))
    at.invariant.tapping on in
    line_stopped g.N.Stream.NonBlocking.did g.L.Listener.did g.N.Network.did c.args.tapping.now
    c.args.over.listener c.args.over.network c.next.new.listener c.next.new.network c.next.new.self
    (g.O.Write.contents (inner_of c.args.output.now)) (g.O.Write.contents (inner_of c.next.new.output))
    (g.O.Write.contents (inner_of c.put_end.new.output)) at.told c.in-Ended.number c.in-Ended.end
    (has_failed c.put_end.new.output) c.from_residual-in_err-put_end-in-Ended.result
    c.in_err-put_end-in-Ended.field-0.0 c.from_residual-in_err-put_end-in-Ended.ensures.1 came
    (omega (arith, c.if-told-last.true, c.last_of-last.ensures)) c.in_err-put_end-in-Ended.ensures

pub returns-in_err-put_end-in-Ended-clause-short : goal.returns-in_err-put_end-in-Ended-clause-short
returns-in_err-put_end-in-Ended-clause-short g c = told_once g.K.ShortageSink.told c.loop-left.is_short
    c.args.shortage.now c.loop-left.shortage c.loop-left.invariant.short

pub loop-left-preserved-in-Ended : goal.loop-left-preserved-in-Ended
loop-left-preserved-in-Ended g c =
    let at = c.loop-left in
    let on = subst (λ (e : RelayEvent). RelayOn g.N.Stream.NonBlocking.did
    (λ start now told. HasCounted g.L.Listener.did start now told) g.N.Network.did at.listener c.next.new.listener
    at.network c.next.new.network at.relays c.next.new.self
    (watched g.O.Write.contents at.output c.next.new.output) (Some e)) c.in-Ended.is c.in_ok-event.ensures.goes in
    let came = event_told g.N.Stream.NonBlocking.did g.L.Listener.did g.N.Network.did c.args.tapping.now
    c.args.over.listener c.args.over.network at.listener c.next.new.listener at.network c.next.new.network at.relays
    c.next.new.self (g.O.Write.contents (inner_of c.args.output.now)) (g.O.Write.contents (inner_of at.output))
    (g.O.Write.contents (inner_of c.next.new.output)) at.told (has_failed c.next.new.output)
    (Some (event.Ended c.in-Ended.number c.in-Ended.end))
    at.invariant.tapping on in
    let puts = c.in_ok-put_end-in-Ended.ensures in
    let is : at.room.len ≡ length at.room.items = search rules in
    let same : length c.next.new.room ≡ length at.room.items = search rules in
    record {
      room = room_stays at.room.len c.next.new.room at.room.items is same at.invariant.room;
      works = puts.0;
      tapping = line_told g.N.Stream.NonBlocking.did g.L.Listener.did g.N.Network.did c.args.tapping.now
          c.args.over.listener c.args.over.network c.next.new.listener c.next.new.network c.next.new.self
          (g.O.Write.contents (inner_of c.args.output.now)) (g.O.Write.contents (inner_of c.next.new.output))
          (g.O.Write.contents (inner_of c.put_end.new.output)) at.told c.in-Ended.number c.in-Ended.end came puts.1;
      short = at.invariant.short;
      few = omega (arith, c.if-told-last.true, c.last_of-last.ensures);
    }

pub loop-left-preserved : goal.loop-left-preserved
loop-left-preserved g c =
    let at = c.loop-left in
    let on = subst (λ (e : RelayEvent). RelayOn g.N.Stream.NonBlocking.did
    (λ start now told. HasCounted g.L.Listener.did start now told) g.N.Network.did at.listener c.next.new.listener
    at.network c.next.new.network at.relays c.next.new.self
    (watched g.O.Write.contents at.output c.next.new.output) (Some e)) c.in-Full.is c.in_ok-event.ensures.goes in
    let came = event_told g.N.Stream.NonBlocking.did g.L.Listener.did g.N.Network.did c.args.tapping.now
    c.args.over.listener c.args.over.network at.listener c.next.new.listener at.network c.next.new.network at.relays
    c.next.new.self (g.O.Write.contents (inner_of c.args.output.now)) (g.O.Write.contents (inner_of at.output))
    (g.O.Write.contents (inner_of c.next.new.output)) at.told (has_failed c.next.new.output) (Some event.Full)
    at.invariant.tapping on in
    let is : at.room.len ≡ length at.room.items = search rules in
    let same : length c.next.new.room ≡ length at.room.items = search rules in
    record {
      room = room_stays at.room.len c.next.new.room at.room.items is same at.invariant.room;
      works = on.works;
      tapping = none_told g.N.Stream.NonBlocking.did g.L.Listener.did g.N.Network.did c.args.tapping.now
          c.args.over.listener c.args.over.network c.next.new.listener c.next.new.network c.next.new.self
          (g.O.Write.contents (inner_of c.args.output.now)) (g.O.Write.contents (inner_of c.next.new.output)) at.told
          (Some event.Full) refl came;
      short = told_then g.K.ShortageSink.told at.is_short c.args.shortage.now at.shortage c.tell_short.new.shortage
          at.invariant.short c.tell_short.ensures;
      few = at.invariant.few;
    }

pub returns-in-Deaf-clause-taps : goal.returns-in-Deaf-clause-taps
returns-in-Deaf-clause-taps g c =
    let at = c.loop-left in
    let on = subst (λ (e : RelayEvent). RelayOn g.N.Stream.NonBlocking.did
    (λ start now told. HasCounted g.L.Listener.did start now told) g.N.Network.did at.listener c.next.new.listener
    at.network c.next.new.network at.relays c.next.new.self
    (watched g.O.Write.contents at.output c.next.new.output) (Some e)) c.in-Deaf.is c.in_ok-event.ensures.goes in
    let came = event_told g.N.Stream.NonBlocking.did g.L.Listener.did g.N.Network.did c.args.tapping.now
    c.args.over.listener c.args.over.network at.listener c.next.new.listener at.network c.next.new.network at.relays
    c.next.new.self (g.O.Write.contents (inner_of c.args.output.now)) (g.O.Write.contents (inner_of at.output))
    (g.O.Write.contents (inner_of c.next.new.output)) at.told (has_failed c.next.new.output) (Some event.Deaf)
    at.invariant.tapping on in
    all_deaf g.N.Stream.NonBlocking.did g.L.Listener.did g.N.Network.did c.args.tapping.now c.args.over.listener
    c.args.over.network c.next.new.listener c.next.new.network c.next.new.self
    (g.O.Write.contents (inner_of c.args.output.now)) (g.O.Write.contents (inner_of c.next.new.output)) at.told
    (has_failed c.next.new.output) came on.works (omega (arith, c.if-told-last.true, c.last_of-last.ensures))

pub returns-in-Deaf-clause-short : goal.returns-in-Deaf-clause-short
returns-in-Deaf-clause-short g c = told_once g.K.ShortageSink.told c.loop-left.is_short c.args.shortage.now
    c.loop-left.shortage c.loop-left.invariant.short

pub returns-then-told-last-2-clause-taps : goal.returns-then-told-last-2-clause-taps
returns-then-told-last-2-clause-taps g c =
    let at = c.loop-left in
    let more : at.told < last_tap_number c.args.tapping.now.count = search rules in
    all_stopped g.N.Stream.NonBlocking.did g.L.Listener.did g.N.Network.did c.args.tapping.now c.args.over.listener
    c.args.over.network at.listener at.network at.relays (g.O.Write.contents (inner_of c.args.output.now))
    (g.O.Write.contents (inner_of at.output)) at.told (has_failed at.output) at.invariant.tapping at.invariant.works
    more

pub returns-then-told-last-2-clause-short : goal.returns-then-told-last-2-clause-short
returns-then-told-last-2-clause-short g c = told_once g.K.ShortageSink.told c.loop-left.is_short c.args.shortage.now
    c.loop-left.shortage c.loop-left.invariant.short

pub returns-clause-taps : goal.returns-clause-taps
returns-clause-taps g c =
    let at = c.loop-left in
    let all : at.told ≡ last_tap_number c.args.tapping.now.count = omega (
      arith,
      at.invariant.few,
      c.if-told-last-2.false,
      c.last_of-last.ensures,
    ) in
    all_done g.N.Stream.NonBlocking.did g.L.Listener.did g.N.Network.did c.args.tapping.now c.args.over.listener
    c.args.over.network at.listener at.network at.relays (g.O.Write.contents (inner_of c.args.output.now))
    (g.O.Write.contents (inner_of at.output)) at.told (has_failed at.output) at.invariant.tapping at.invariant.works
    all

pub returns-clause-short : goal.returns-clause-short
returns-clause-short g c = told_once g.K.ShortageSink.told c.loop-left.is_short c.args.shortage.now
    c.loop-left.shortage c.loop-left.invariant.short
