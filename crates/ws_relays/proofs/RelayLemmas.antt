-- One tapped connection: what has happened at an end is told of it, both ends stand by that, and so does what is told
-- of the connection.
use Rattle.std.proofs.Common.{◌≡◌, ◌⊎◌, ℕ, ◌<◌, ◌≤◌, Bool, true, false, List, [], ◌∷◌, ◌++◌, length, take, refl, Option}
use Rattle.std.proofs.Common.{Some, None, sym, ap, ◌∙◌, append-nil, arith, inl, inr, subst, ◌&&◌}
use Rattle.std.specs.Prelude.{if◌then◌else◌}
use Rattle.std.specs.List.{flat_map}
use Rattle.std.proofs.lemmas.Grind.{flat_map-append}
use Rattle.std.proofs.lemmas.List.{length-take-le}
use Rattle.ws_wire.specs.declared.role.Role.{Role}
use Rattle.ws_wire.specs.declared.role.Role.TheVariants.{Client, Server}
use Rattle.ws_machines.specs.Told.{Told}
use Rattle.ws_machines.specs.Told.Told.{Came, DeadlinePassed, DirectionEnded, Ended, NothingCame, ReadFailed, Reported}
use Rattle.ws_machines.specs.Told.Told.{Taken, WriteFailed}
use Rattle.ws_loops.specs.Deeds.{Deed}
use Rattle.ws_loops.specs.Deeds.Deed.{Did, Emptied, HadNone, Passed, Showed, TookNone, Woken}
use Rattle.ws_loops.specs.declared.slot.Slot.{Slot}
use Rattle.ws_tap.specs.Piping.{is_passed, room_at, wants_end_at}
use Rattle.ws_tap.specs.Told.{TapTold, CameFrom, TakenBy, other_end}
use Rattle.ws_tap.specs.Tapping.{HasTapped, ends_wanted, is_tap_over, room_from, waits_for}
use Rattle.ws_tap.specs.declared.pipe.PipeStage.{PipeStage}
use Rattle.ws_tap.specs.declared.pipe.PipeStage.TheVariants as stage
use Rattle.ws_tap.specs.declared.tap.Tap.{Tap}
use Rattle.ws_tap.specs.declared.tapped.Tapped.{Tapped}
use Rattle.ws_tap.specs.declared.tapping.TapEnd.{TapEnd}
use Rattle.ws_tap.specs.declared.tapping.TapEnd.TheVariants as tap_end
use Rattle.ws_tap.proofs.TapStands.{over_is, passed_on, tap_tells}
use Rattle.ws_relays.specs.Connections.{DidAtEnd, HasFailedLast, IsTappedSoFar, IsTappedTo}
use Rattle.ws_relays.specs.Connections.{is_at_end, is_same_end, told_at_end, told_of_deeds, told_of_stream}
use Rattle.ws_relays.specs.EndPlaces.{AskedEnd, AsksAlike, AsksSo, EndThere, GoesOnAs, HappensNext, HeldEnd}
use Rattle.ws_relays.specs.EndPlaces.{IsAskedFrom, IsAskedOf, IsAskedUnless, IsDoneByStream, LostEnd, StreamDid}
use Rattle.ws_relays.specs.EndPlaces.{WasToldOf, stream_told}
use Rattle.ws_relays.specs.Onces.{HappenedSo, IsOnce, OnceValue, WasAskedFor}
use Rattle.ws_relays.specs.Relayed.{IsAskFor, MayHappenAt, fate_behind, fate_by, fate_of, happened_told}
use Rattle.ws_relays.specs.TappedEnds.{AsksFitly, FitsTap, IsTappedAs, IsTappedEnd}
use Rattle.ws_relays.specs.declared.ends.Ask.{Ask}
use Rattle.ws_relays.specs.declared.once.Happened.{Happened}
use Rattle.ws_relays.specs.declared.once.Happened.TheVariants as happened
use Rattle.ws_relays.specs.declared.once.Once.{Once}
use Rattle.ws_relays.specs.declared.relay.Fate.TheVariants as fate
use Rattle.ws_relays.specs.declared.relay.Relay.{Relay}
use Rattle.ws_relays.proofs.TapFits.{other_fits}

-- ---- what was told at an end

told_first : (here : Bool) (x : TapTold) (whole front more : List TapTold) → whole ≡ front ++ more
    → (if here then x ∷ whole else whole) ≡ (if here then x ∷ front else front) ++ more
told_first true x whole front more e = ap (λ (t : List TapTold). x ∷ t) e
told_first false x whole front more e = e

pub told_with : (role : Role) (told more : List TapTold)
    → told_at_end role (told ++ more) ≡ told_at_end role told ++ told_at_end role more
told_with role [] more = refl
told_with role (x ∷ told) more = told_first (is_at_end role x) x _ _ _ (told_with role told more)

-- what has happened at an end is told of that alone
told_here : (role : Role) (waits : List ℕ) (what : Happened)
    → told_at_end role (happened_told role waits what) ≡ happened_told role waits what
told_here Client waits (happened.Came bytes) = refl
told_here Client waits happened.Ended = refl
told_here Client waits (happened.Taken count) = refl
told_here Client waits happened.DirectionEnded = refl
told_here Client waits happened.Failed = refl
told_here Server waits (happened.Came bytes) = refl
told_here Server waits happened.Ended = refl
told_here Server waits (happened.Taken count) = refl
told_here Server waits happened.DirectionEnded = refl
told_here Server waits happened.Failed = refl

told_elsewhere : (role : Role) (waits : List ℕ) (what : Happened)
    → told_at_end (other_end role) (happened_told role waits what) ≡ []
told_elsewhere Client waits (happened.Came bytes) = refl
told_elsewhere Client waits happened.Ended = refl
told_elsewhere Client waits (happened.Taken count) = refl
told_elsewhere Client waits happened.DirectionEnded = refl
told_elsewhere Client waits happened.Failed = refl
told_elsewhere Server waits (happened.Came bytes) = refl
told_elsewhere Server waits happened.Ended = refl
told_elsewhere Server waits (happened.Taken count) = refl
told_elsewhere Server waits happened.DirectionEnded = refl
told_elsewhere Server waits happened.Failed = refl

-- ---- what a stream did, as its end is told

told_by_stream : (role : Role) (deeds : List Deed)
    → flat_map (told_of_stream role) (flat_map stream_told deeds) ≡ told_of_deeds role deeds
told_by_stream role [] = refl
told_by_stream role (Did told ∷ deeds) =
    ap (λ (t : List TapTold). told_of_stream role told ++ t) (told_by_stream role deeds)
told_by_stream role (Emptied bytes ∷ deeds) =
    ap (λ (t : List TapTold). told_of_stream role (Came bytes) ++ t) (told_by_stream role deeds)
told_by_stream role (HadNone ∷ deeds) = told_by_stream role deeds
told_by_stream role (TookNone ∷ deeds) = told_by_stream role deeds
told_by_stream role (Showed lines ∷ deeds) = told_by_stream role deeds
told_by_stream role (Passed told ∷ deeds) = told_by_stream role deeds
told_by_stream role (Woken readable writable ∷ deeds) = told_by_stream role deeds

-- the stream did what its end was told, and what is not told yet besides
pub did_at_end : {S : Type 0} (did : S → S → List Deed → Type 0) (role : Role) (told : List TapTold) (now : S)
    (stream untold : List Told) → StreamDid did now stream untold
    → flat_map (told_of_stream role) stream ≡ told_at_end role told
    → DidAtEnd did role told (flat_map (told_of_stream role) untold) now
did_at_end did role told now stream untold s same = record {
  first = s.first;
  deeds = s.deeds;
  fresh = s.fresh;
  did_all = s.did_all;
  all = sym (told_by_stream role s.deeds)
      ∙ (ap (λ (t : List Told). flat_map (told_of_stream role) t) s.all
      ∙ (flat_map-append (told_of_stream role) stream untold
      ∙ ap (λ (t : List TapTold). t ++ flat_map (told_of_stream role) untold) same));
}

-- of what was not told yet there is one thing at most
few_told : (role : Role) (told : Told) → length (told_of_stream role told ++ []) ≤ 1
few_told role (Came bytes) = omega arith
few_told role Ended = omega arith
few_told role ReadFailed = omega arith
few_told role NothingCame = omega arith
few_told role (Taken bytes) = omega arith
few_told role WriteFailed = omega arith
few_told role DirectionEnded = omega arith
few_told role (Reported lines) = omega arith
few_told role (DeadlinePassed waited) = omega arith

few_untold : (role : Role) (begun now : OnceValue) (untold : List Told) → IsOnce begun now untold
    → length (flat_map (told_of_stream role) untold) ≤ 1
few_untold role begun now [] once = omega arith
few_untold role begun now (told ∷ []) once = few_told role told
few_untold role begun now (told ∷ next ∷ more) once = absurd once

-- nothing of it where nothing was asked
none_asked : (role : Role) (x : OnceValue) (told : Told) → x.bytes ≡ [] → x.room ≡ 0 → x.ends ≡ false
    → WasAskedFor x told → told_of_stream role told ++ [] ≡ []
none_asked role x (Came bytes) no_bytes no_room no_end asked = absurd (omega (arith, asked.0, asked.1, no_room))
none_asked role x Ended no_bytes no_room no_end asked = absurd (omega (arith, asked, no_room))
none_asked role x ReadFailed no_bytes no_room no_end asked = refl
none_asked role x NothingCame no_bytes no_room no_end asked = refl
none_asked role x (Taken bytes) no_bytes no_room no_end asked =
    absurd (omega (arith, asked.1, asked.2, ap (λ (t : List ℕ). length t) no_bytes))
none_asked role x WriteFailed no_bytes no_room no_end asked = refl
none_asked role x DirectionEnded no_bytes no_room no_end asked =
    absurd (let e : true ≡ false = sym asked ∙ no_end in cc)
none_asked role x (Reported lines) no_bytes no_room no_end asked = refl
none_asked role x (DeadlinePassed waited) no_bytes no_room no_end asked = refl

none_untold : (role : Role) (begun now : OnceValue) (untold : List Told) → IsOnce begun now untold → now.bytes ≡ []
    → now.room ≡ 0 → now.ends ≡ false → flat_map (told_of_stream role) untold ≡ []
none_untold role begun now [] once no_bytes no_room no_end = refl
none_untold role begun now (told ∷ []) once no_bytes no_room no_end =
    none_asked role begun told (sym once.bytes ∙ no_bytes) (sym once.room ∙ no_room) (sym once.ends ∙ no_end) once.asked
none_untold role begun now (told ∷ next ∷ more) once no_bytes no_room no_end = absurd once

-- ---- what has happened, as the tap is told it

-- it was asked for, so it may have
fits_room : (role : Role) (tap : Tap) (x : OnceValue) (count : ℕ) → FitsTap role tap x → 0 < count → count ≤ x.room
    → count ≤ room_from role tap
fits_room role tap x count (waits, inl none, wanted) some few = absurd (omega (arith, some, few, none))
fits_room role tap x count (waits, inr is, wanted) some few = omega (arith, few, is)

fits_bytes : (role : Role) (tap : Tap) (x : OnceValue) (count : ℕ) → FitsTap role tap x → 0 < count
    → count ≤ length x.bytes → (x.bytes ≡ waits_for role tap) × (count ≤ length (waits_for role tap))
fits_bytes role tap x count (inl none, room, wanted) some few =
    absurd (omega (arith, some, few, ap (λ (t : List ℕ). length t) none))
fits_bytes role tap x count (inr is, room, wanted) some few =
    (is, omega (arith, few, ap (λ (t : List ℕ). length t) is))

fits_end : (role : Role) (tap : Tap) (x : OnceValue) → FitsTap role tap x → x.ends ≡ true
    → ends_wanted role tap ≡ true
fits_end role tap x (waits, room, inl none) ends = absurd (let e : true ≡ false = sym ends ∙ none in cc)
fits_end role tap x (waits, room, inr wanted) ends = wanted

pub may_happen : (role : Role) (tap : Tap) (x : OnceValue) (told : Told) (what : Happened) → FitsTap role tap x
    → WasAskedFor x told → HappenedSo told what → MayHappenAt role tap what
may_happen role tap x (Came bytes) (happened.Came got) fits asked so =
    let len : length got.items ≡ length bytes = ap (λ (t : List ℕ). length t) so in (
      omega (arith, asked.0, len),
      omega (arith, len, fits_room role tap x (length bytes) fits asked.0 asked.1),
    )
may_happen role tap x Ended happened.Ended fits asked so = fits_room role tap x 1 fits (omega arith) asked
may_happen role tap x (Taken bytes) (happened.Taken count) fits asked so =
    let (len, some, few, front) = asked in
    let (is, fit) = fits_bytes role tap x len fits some few in
    omega (arith, so, ap (λ (t : List ℕ). length t) front, length-take-le len x.bytes few, fit)
may_happen role tap x DirectionEnded happened.DirectionEnded fits asked so = fits_end role tap x fits asked
may_happen role tap x told happened.Failed fits asked so = tt
may_happen role tap x told what fits asked so = absurd so

-- and the tap is told just that
told_so : (role : Role) (tap : Tap) (x : OnceValue) (told : Told) (what : Happened) → FitsTap role tap x
    → WasAskedFor x told → HappenedSo told what
    → told_of_stream role told ≡ happened_told role (waits_for role tap) what
told_so role tap x (Came bytes) (happened.Came got) fits asked so =
    ap (λ (t : List ℕ). CameFrom role t ∷ []) (sym so)
told_so role tap x Ended happened.Ended fits asked so = refl
told_so role tap x (Taken bytes) (happened.Taken count) fits asked so =
    let (len, some, few, front) = asked in
    let (is, fit) = fits_bytes role tap x len fits some few in
    let same : count ≡ len = omega (arith, so, ap (λ (t : List ℕ). length t) front, length-take-le len x.bytes few) in
    ap (λ (t : List ℕ). TakenBy role t ∷ []) (front ∙ (ap (λ (t : List ℕ). take len t) is
    ∙ ap (λ (n : ℕ). take n (waits_for role tap)) (sym same)))
told_so role tap x DirectionEnded happened.DirectionEnded fits asked so = refl
told_so role tap x ReadFailed happened.Failed fits asked so = refl
told_so role tap x WriteFailed happened.Failed fits asked so = refl
told_so role tap x NothingCame happened.Failed fits asked so = refl
told_so role tap x (Reported lines) happened.Failed fits asked so = refl
told_so role tap x (DeadlinePassed waited) happened.Failed fits asked so = refl
told_so role tap x told what fits asked so = absurd so

-- the end at which it happened, behind that
same_with : (role : Role) (tap : Tap) (x : OnceValue) (stream : List Told) (told : List TapTold) (last : Told)
    (what : Happened) → FitsTap role tap x → WasAskedFor x last → HappenedSo last what
    → flat_map (told_of_stream role) stream ≡ told_at_end role told
    → flat_map (told_of_stream role) (stream ++ last ∷ [])
    ≡ told_at_end role (told ++ happened_told role (waits_for role tap) what)
same_with role tap x stream told last what fits asked so same =
    flat_map-append (told_of_stream role) stream (last ∷ [])
    ∙ (ap (λ (t : List TapTold). t ++ (told_of_stream role last ++ [])) same
    ∙ (ap (λ (t : List TapTold). told_at_end role told ++ t) (append-nil (told_of_stream role last)
    ∙ (told_so role tap x last what fits asked so ∙ sym (told_here role (waits_for role tap) what)))
    ∙ sym (told_with role told (happened_told role (waits_for role tap) what))))

-- the other end
same_without : (role : Role) (waits : List ℕ) (stream : List Told) (told : List TapTold) (what : Happened)
    → flat_map (told_of_stream (other_end role)) stream ≡ told_at_end (other_end role) told
    → flat_map (told_of_stream (other_end role)) stream
    ≡ told_at_end (other_end role) (told ++ happened_told role waits what)
same_without role waits stream told what same = same ∙ (sym (append-nil (told_at_end (other_end role) told))
    ∙ (ap (λ (t : List TapTold). told_at_end (other_end role) told ++ t) (sym (told_elsewhere role waits what))
    ∙ sym (told_with (other_end role) told (happened_told role waits what))))

-- ---- the ends of a tapped connection

-- something has happened at an end of which it was asked: nothing is asked of it then
pub end_told : {S : Type 0} (did : S → S → List Deed → Type 0) (role : Role) (old new : Tap) (told : List TapTold)
    (before : Slot Once S) (after : S) (what : Happened) (e : IsTappedEnd did role old told (AskedEnd before))
    → HappensNext did before after what e.stream
    → IsTappedAs did role new (told ++ happened_told role (waits_for role old) what) (HeldEnd after)
end_told did role old new told before after what e n = record {
  stream = e.stream ++ n.told ∷ [];
  was_told = n.was_told;
  same = same_with role old before.machine e.stream told n.told what e.fits n.asked n.so e.same;
  fits = tt;
}

-- the other end stands by that
other_fitly : {S : Type 0} (role : Role) (old new : Tap) (what : Happened) (there : EndThere S) (tapped : Tapped)
    (told : List TapTold) (text after : List ℕ) → HasTapped tapped told old text
    → HasTapped tapped (told ++ happened_told role (waits_for role old) what) new after → MayHappenAt role old what
    → AsksFitly (other_end role) old there → AsksFitly (other_end role) new there
other_fitly role old new what (AskedEnd slot) tapped told text after h now may fits =
    other_fits role old new what slot.machine tapped told text after h now may fits
other_fitly role old new what there tapped told text after h now may fits = tt

other_stays : {S : Type 0} (did : S → S → List Deed → Type 0) (role : Role) (old new : Tap) (what : Happened)
    (there : EndThere S) (tapped : Tapped) (told : List TapTold) (text after : List ℕ) → HasTapped tapped told old text
    → HasTapped tapped (told ++ happened_told role (waits_for role old) what) new after → MayHappenAt role old what
    → IsTappedEnd did (other_end role) old told there
    → IsTappedEnd did (other_end role) new (told ++ happened_told role (waits_for role old) what) there
other_stays did role old new what there tapped told text after h now may e = record {
  stream = e.stream;
  was_told = e.was_told;
  same = same_without role (waits_for role old) e.stream told what e.same;
  fits = other_fitly role old new what there tapped told text after h now may e.fits;
}

pub other_told : {S : Type 0} (did : S → S → List Deed → Type 0) (role : Role) (old new : Tap) (what : Happened)
    (there : EndThere S) (tapped : Tapped) (told : List TapTold) (text after : List ℕ) → HasTapped tapped told old text
    → HasTapped tapped (told ++ happened_told role (waits_for role old) what) new after → MayHappenAt role old what
    → IsTappedAs did (other_end role) old told there
    → IsTappedAs did (other_end role) new (told ++ happened_told role (waits_for role old) what) there
other_told did role old new what (AskedEnd slot) tapped told text after h now may e =
    other_stays did role old new what (AskedEnd slot) tapped told text after h now may e
other_told did role old new what (HeldEnd stream) tapped told text after h now may e =
    other_stays did role old new what (HeldEnd stream) tapped told text after h now may e
other_told did role old new what LostEnd tapped told text after h now may (slot, e) =
    (slot, other_stays did role old new what (AskedEnd slot) tapped told text after h now may e)
other_told did role old new what there tapped told text after h now may e = absurd e

-- an end goes on, perhaps until memory runs out for it
fits_alike : (role : Role) (tap : Tap) (old new : OnceValue) → AsksAlike old new → FitsTap role tap old
    → FitsTap role tap new
fits_alike role tap old new like fits = (
  subst (λ (t : List ℕ). (t ≡ []) ⊎ (t ≡ waits_for role tap)) (sym like.bytes) fits.0,
  subst (λ (n : ℕ). (n ≡ 0) ⊎ (n ≡ room_from role tap)) (sym like.room) fits.1,
  subst (λ (b : Bool). (b ≡ false) ⊎ (ends_wanted role tap ≡ true)) (sym like.ends) fits.2,
)

pub end_goes_on : {S : Type 0} (did : S → S → List Deed → Type 0) (role : Role) (tap : Tap) (told : List TapTold)
    (old new : EndThere S) → GoesOnAs did old new → IsTappedAs did role tap told old → IsTappedAs did role tap told new
end_goes_on did role tap told (AskedEnd old) (AskedEnd new) on e =
    let next = on e.stream e.was_told in record {
      stream = e.stream;
      was_told = next.1;
      same = e.same;
      fits = fits_alike role tap old.machine new.machine next.0 e.fits;
    }
end_goes_on did role tap told (AskedEnd old) LostEnd on e = (old, e)
end_goes_on did role tap told (AskedEnd old) new on e = absurd on
end_goes_on did role tap told (HeldEnd stream) new on e =
    subst (λ (x : EndThere _). IsTappedAs did role tap told x) (sym on) e
end_goes_on did role tap told LostEnd new on e =
    subst (λ (x : EndThere _). IsTappedAs did role tap told x) (sym on) e
end_goes_on did role tap told old new on e = absurd e

-- what its tap asks for now is asked of it
ends_or : (ends wanted : Bool) → ends ≡ wanted → (ends ≡ false) ⊎ (wanted ≡ true)
ends_or false wanted e = inl refl
ends_or true wanted e = inr (sym e)

fits_ask : (role : Role) (relay : Relay) (ask : Ask) (x : OnceValue) → IsAskFor role relay (Some ask) → AsksSo x ask
    → FitsTap role relay.tap.value x
fits_ask role relay ask x is so =
    (inr (so.bytes ∙ is.0), inr (so.room ∙ is.1), ends_or x.ends _ (so.ends ∙ is.2))

asked_unless : {S : Type 0} (happened : Option Happened) (ask : Ask) (slot : Slot Once S) (after : EndThere S)
    → IsAskedUnless happened ask slot after → (after ≡ AskedEnd slot) ⊎ IsAskedFrom ask slot.stream after
asked_unless None ask slot after is = inr is
asked_unless (Some what) ask slot after is = inl is

asked_from : {S : Type 0} (did : S → S → List Deed → Type 0) (role : Role) (relay : Relay) (told : List TapTold)
    (ask : Ask) (stream : S) (before after : EndThere S) → IsAskFor role relay (Some ask)
    → IsAskedFrom ask stream after → ((told : List Told) → WasToldOf did before told → WasToldOf did after told)
    → IsTappedEnd did role relay.tap.value told before → IsTappedAs did role relay.tap.value told after
asked_from did role relay told ask stream before (AskedEnd slot) is asked keeps e = record {
  stream = e.stream;
  was_told = keeps e.stream e.was_told;
  same = e.same;
  fits = fits_ask role relay ask slot.machine is asked.1;
}
asked_from did role relay told ask stream before (HeldEnd now) is asked keeps e = record {
  stream = e.stream;
  was_told = keeps e.stream e.was_told;
  same = e.same;
  fits = tt;
}
asked_from did role relay told ask stream before after is asked keeps e = absurd asked

pub end_asked : {S : Type 0} (did : S → S → List Deed → Type 0) (role : Role) (relay : Relay) (told : List TapTold)
    (ask : Ask) (before after : EndThere S) → IsAskFor role relay (Some ask) → IsAskedOf ask before after
    → ((told : List Told) → WasToldOf did before told → WasToldOf did after told)
    → IsTappedAs did role relay.tap.value told before → IsTappedAs did role relay.tap.value told after
end_asked {S} did role relay told ask (AskedEnd slot) after is asked keeps e =
    by (asked_unless slot.machine.happened ask slot after asked)
  where
    by : (after ≡ AskedEnd slot) ⊎ IsAskedFrom ask slot.stream after → IsTappedAs did role relay.tap.value told after
    by (inl same) = subst (λ (x : EndThere S). IsTappedAs did role relay.tap.value told x) (sym same) e
    by (inr now) = asked_from did role relay told ask slot.stream (AskedEnd slot) after is now keeps e
end_asked did role relay told ask (HeldEnd stream) after is asked keeps e =
    asked_from did role relay told ask stream (HeldEnd stream) after is asked keeps e
end_asked did role relay told ask before after is asked keeps e = absurd asked

-- an end of which nothing was asked yet, and over which nothing has passed
pub end_begun : {S : Type 0} (did : S → S → List Deed → Type 0) (role : Role) (tap : Tap) (stream : S)
    → did stream stream [] → IsTappedAs did role tap [] (HeldEnd stream)
end_begun did role tap stream fresh = record {
  stream = [];
  was_told = record {
    first = stream;
    deeds = [];
    fresh = fresh;
    did_all = fresh;
    all = refl;
    few = omega arith;
    by_stream = tt;
  };
  same = refl;
  fits = tt;
}

-- ---- the connection

-- what an end's stream did is what was told of it, but for one thing at most
record SoFar {S : Type 0} (did : S → S → List Deed → Type 0) (role : Role) (told : List TapTold) : Type 0 where
  pub now : S
  pub rest : List TapTold
  pub few : length rest ≤ 1
  pub end : DidAtEnd did role told rest now

asked_so_far : {S : Type 0} (did : S → S → List Deed → Type 0) (role : Role) (tap : Tap) (told : List TapTold)
    (slot : Slot Once S) → IsTappedEnd did role tap told (AskedEnd slot) → SoFar did role told
asked_so_far did role tap told slot e =
    let w = e.was_told in record {
      now = slot.stream;
      rest = flat_map (told_of_stream role) w.1;
      few = few_untold role w.0 slot.machine w.1 w.2;
      end = did_at_end did role told slot.stream e.stream w.1 w.3 e.same;
    }

so_far : {S : Type 0} (did : S → S → List Deed → Type 0) (role : Role) (tap : Tap) (told : List TapTold)
    (there : EndThere S) → IsTappedAs did role tap told there → SoFar did role told
so_far did role tap told (AskedEnd slot) e = asked_so_far did role tap told slot e
so_far did role tap told (HeldEnd stream) e = record {
  now = stream;
  rest = [];
  few = omega arith;
  end = did_at_end did role told stream e.stream [] e.was_told e.same;
}
so_far did role tap told LostEnd (slot, e) = asked_so_far did role tap told slot e
so_far did role tap told there e = absurd e

-- while it goes on
pub tapped_so_far : {S : Type 0} (did : S → S → List Deed → Type 0) (tapped : Tapped) (told : List TapTold)
    (tap : Tap) (text : List ℕ) (client server : EndThere S) → HasTapped tapped told tap text
    → IsTappedAs did Client tap told client → IsTappedAs did Server tap told server → IsTappedSoFar did tapped text
tapped_so_far did tapped told tap text client server h c s =
    let at_client = so_far did Client tap told client c in
    let at_server = so_far did Server tap told server s in record {
      told = told;
      passed = passed_on tapped told tap text h;
      tells = tap_tells tapped told tap text h;
      client = at_client.now;
      server = at_server.now;
      client_rest = at_client.rest;
      server_rest = at_server.rest;
      client_few = at_client.few;
      server_few = at_server.few;
      did_client = at_client.end;
      did_server = at_server.end;
    }

-- where both directions were ended, nothing is asked of an end
passed_at : (at : PipeStage) → is_passed at ≡ true → at ≡ stage.Passed
passed_at stage.Open is = absurd cc
passed_at stage.Ended is = absurd cc
passed_at stage.Passed is = refl

none_may_come : (held : List ℕ) (at : PipeStage) (total : ℕ) → at ≡ stage.Passed → room_at held at total ≡ 0
none_may_come [] at total is = ap (λ (s : PipeStage). room_at [] s total) is
none_may_come (byte ∷ held) at total is = refl

none_is_due : (held : List ℕ) (at : PipeStage) → at ≡ stage.Passed → wants_end_at held at ≡ false
none_is_due [] at is = ap (λ (s : PipeStage). wants_end_at [] s) is
none_is_due (byte ∷ held) at is = refl

-- what is asked of an end is nothing
record AsksNone (role : Role) (tap : Tap) : Type 0 where
  pub bytes : waits_for role tap ≡ []
  pub room : room_from role tap ≡ 0
  pub ends : ends_wanted role tap ≡ false

asks_none_at : (role : Role) (tap : Tap) → tap.client.stage ≡ stage.Passed → tap.server.stage ≡ stage.Passed
    → tap.client.held ≡ [] → tap.server.held ≡ [] → AsksNone role tap
asks_none_at Client tap client server to_server to_client = record {
  bytes = to_client;
  room = none_may_come tap.client.held tap.client.stage tap.client.total client;
  ends = none_is_due tap.server.held tap.server.stage server;
}
asks_none_at Server tap client server to_server to_client = record {
  bytes = to_server;
  room = none_may_come tap.server.held tap.server.stage tap.server.total server;
  ends = none_is_due tap.client.held tap.client.stage client;
}

both_true : (a b : Bool) → (a && b) ≡ true → (a ≡ true) × (b ≡ true)
both_true true true e = (refl, refl)
both_true true false e = absurd cc
both_true false b e = absurd cc

over_asks_none : (role : Role) (tapped : Tapped) (told : List TapTold) (tap : Tap) (text : List ℕ)
    → HasTapped tapped told tap text → is_tap_over tap ≡ true → AsksNone role tap
over_asks_none role tapped told tap text h over =
    let (client, server) = over_is tapped told tap text h over in
    let (at_client, at_server) = both_true (is_passed tap.client.stage) (is_passed tap.server.stage) over in
    asks_none_at role tap (passed_at tap.client.stage at_client) (passed_at tap.server.stage at_server)
    (h.client.over client).1 (h.server.over server).1

or_none : {A : Type 0} {x other none : A} → (x ≡ none) ⊎ (x ≡ other) → other ≡ none → x ≡ none
or_none (inl is) gone = is
or_none (inr is) gone = is ∙ gone

never : (x wanted : Bool) → (x ≡ false) ⊎ (wanted ≡ true) → wanted ≡ false → x ≡ false
never x wanted (inl is) gone = is
never x wanted (inr is) gone = absurd (let e : true ≡ false = sym is ∙ gone in cc)

nothing_of : (role : Role) (tap : Tap) (x : OnceValue) → FitsTap role tap x → AsksNone role tap
    → (x.bytes ≡ []) × (x.room ≡ 0) × (x.ends ≡ false)
nothing_of role tap x (bytes, room, ends) none =
    (or_none bytes none.bytes, or_none room none.room, never (x.ends) (ends_wanted role tap) ends none.ends)

-- so all that its stream did was told
record AllDid {S : Type 0} (did : S → S → List Deed → Type 0) (role : Role) (told : List TapTold) : Type 0 where
  pub now : S
  pub end : DidAtEnd did role told [] now

asked_all_did : {S : Type 0} (did : S → S → List Deed → Type 0) (role : Role) (tap : Tap) (told : List TapTold)
    (slot : Slot Once S) → AsksNone role tap → IsTappedEnd did role tap told (AskedEnd slot) → AllDid did role told
asked_all_did did role tap told slot none e =
    let w = e.was_told in
    let (no_bytes, no_room, no_end) = nothing_of role tap slot.machine e.fits none in record {
      now = slot.stream;
      end = subst (λ (t : List TapTold). DidAtEnd did role told t slot.stream)
          (none_untold role w.0 slot.machine w.1 w.2 no_bytes no_room no_end)
          (did_at_end did role told slot.stream e.stream w.1 w.3 e.same);
    }

all_did : {S : Type 0} (did : S → S → List Deed → Type 0) (role : Role) (tap : Tap) (told : List TapTold)
    (there : EndThere S) → AsksNone role tap → IsTappedAs did role tap told there → AllDid did role told
all_did did role tap told (AskedEnd slot) none e = asked_all_did did role tap told slot none e
all_did did role tap told (HeldEnd stream) none e = record {
  now = stream;
  end = did_at_end did role told stream e.stream [] e.was_told e.same;
}
all_did did role tap told LostEnd none (slot, e) = asked_all_did did role tap told slot none e
all_did did role tap told there none e = absurd e

-- both directions were ended
over_by : (over : Bool) (first : Option Role) (end : TapEnd) → fate_by over first ≡ fate.Over end
    → (over ≡ true) × ((role : Role) × (first ≡ Some role) × (tap_end.Ended role ≡ end))
over_by true (Some first) end e = (refl, (first, refl, cc))
over_by true None end e = absurd cc
over_by false first end e = absurd cc

ended_to : {S : Type 0} (did : S → S → List Deed → Type 0) (tapped : Tapped) (told : List TapTold) (tap : Tap)
    (text : List ℕ) (end : TapEnd) (client server : EndThere S) → HasTapped tapped told tap text
    → IsTappedAs did Client tap told client → IsTappedAs did Server tap told server → fate_of tap ≡ fate.Over end
    → IsTappedTo did tapped text end
ended_to did tapped told tap text end client server h c s e =
    let (over, (first, is_first, is)) = over_by (is_tap_over tap) tap.first end e in
    let (client_passed, server_passed) = over_is tapped told tap text h over in
    let at_client = all_did did Client tap told client (over_asks_none Client tapped told tap text h over) c in
    let at_server = all_did did Server tap told server (over_asks_none Server tapped told tap text h over) s in
    subst (λ (x : TapEnd). IsTappedTo did tapped text x) is (record {
      told = told;
      passed = passed_on tapped told tap text h;
      tells = tap_tells tapped told tap text h;
      over = (
        (client_passed, server_passed, sym h.first ∙ is_first),
        (at_client.now, at_server.now, at_client.end, at_server.end),
      );
    })

both_to : {S : Type 0} (did : S → S → List Deed → Type 0) (role : Role) (tapped : Tapped) (told : List TapTold)
    (tap : Tap) (text : List ℕ) (end : TapEnd) (there other : EndThere S) → HasTapped tapped told tap text
    → IsTappedAs did role tap told there → IsTappedAs did (other_end role) tap told other
    → fate_of tap ≡ fate.Over end → IsTappedTo did tapped text end
both_to did Client tapped told tap text end there other h e o over =
    ended_to did tapped told tap text end there other h e o over
both_to did Server tapped told tap text end there other h e o over =
    ended_to did tapped told tap text end other there h o e over

-- something has failed at an end
failed_last : (last : Told) (stream : List Told) (deeds : List Deed) → HappenedSo last happened.Failed
    → IsDoneByStream last → flat_map stream_told deeds ≡ (stream ++ last ∷ []) ++ [] → HasFailedLast deeds
failed_last ReadFailed stream deeds so own e = (stream, inl (e ∙ append-nil (stream ++ ReadFailed ∷ [])))
failed_last WriteFailed stream deeds so own e = (stream, inr (e ∙ append-nil (stream ++ WriteFailed ∷ [])))
failed_last NothingCame stream deeds so own e = absurd own
failed_last (Reported lines) stream deeds so own e = absurd own
failed_last (DeadlinePassed waited) stream deeds so own e = absurd own
failed_last last stream deeds so own e = absurd so

not_same : (role : Role) → is_same_end role (other_end role) ≡ false
not_same Client = refl
not_same Server = refl

broken_to : {S : Type 0} (did : S → S → List Deed → Type 0) (role : Role) (tapped : Tapped) (told : List TapTold)
    (tap : Tap) (text : List ℕ) (stream : List Told) (last : Told) (now : S) (other : EndThere S)
    → HasTapped tapped told tap text → HappenedSo last happened.Failed → IsDoneByStream last
    → StreamDid did now (stream ++ last ∷ []) []
    → flat_map (told_of_stream role) (stream ++ last ∷ []) ≡ told_at_end role told
    → IsTappedAs did (other_end role) tap told other → IsTappedTo did tapped text tap_end.Broken
unfolding did_at_end
broken_to did role tapped told tap text stream last now other h so own s same e =
    let at_other = so_far did (other_end role) tap told other e in record {
      told = told;
      passed = passed_on tapped told tap text h;
      tells = tap_tells tapped told tap text h;
      over = (
        role,
        other_end role,
        not_same role,
        record {
          now = now;
          end = did_at_end did role told now (stream ++ last ∷ []) [] s same;
          failed = failed_last last stream s.deeds so own s.all;
        },
        (at_other.rest, at_other.now, at_other.few, at_other.end),
      );
    }

-- It is over behind one thing that has happened at an end, of which it was asked; the other end stood by its tap then.
pub tapped_to : {S : Type 0} (did : S → S → List Deed → Type 0) (role : Role) (tapped : Tapped) (old new : Tap)
    (told : List TapTold) (text : List ℕ) (what : Happened) (end : TapEnd) (before : Slot Once S) (after : S)
    (other : EndThere S) (e : IsTappedEnd did role old told (AskedEnd before))
    → HappensNext did before after what e.stream
    → HasTapped tapped (told ++ happened_told role (waits_for role old) what) new text
    → IsTappedAs did (other_end role) new (told ++ happened_told role (waits_for role old) what) other
    → fate_behind what new ≡ fate.Over end → IsTappedTo did tapped text end
tapped_to did role tapped old new told text happened.Failed end before after other e n h o over =
    let is : tap_end.Broken ≡ end = cc in
    subst (λ (x : TapEnd). IsTappedTo did tapped text x) is
    (broken_to did role tapped (told ++ []) new text e.stream n.told after other h n.so n.by_stream n.was_told
    (same_with role old before.machine e.stream told n.told happened.Failed e.fits n.asked n.so e.same) o)
tapped_to did role tapped old new told text what end before after other e n h o over =
    both_to did role tapped (told ++ happened_told role (waits_for role old) what) new text end (HeldEnd after) other h
    (end_told did role old new told before after what e n) o over
