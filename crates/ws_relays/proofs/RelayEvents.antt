-- What has happened among the ends of tapped connections: of which pair it is, and how all stand behind it.
use Rattle.std.proofs.Common.{◌≡◌, ◌∙◌, ◌+◌, ◌-◌, ◌≤◌, ◌<◌, ◌⊎◌, ℕ, Bool, true, false, List, [], ◌∷◌, ◌++◌, length}
use Rattle.std.proofs.Common.{Option, None, Some, ap, sym, refl, subst, arith, inl, inr, nat_lt, slice_get, slice_set}
use Rattle.std.proofs.Common.{◌^◌, append_assoc, append-nil, if◌then◌else◌}
use Rattle.std.specs.Prelude.{Err, MatchResult, Ok, Result}
use Rattle.std.specs.Io.KnownBytes.{Appends}
use Rattle.std.proofs.lemmas.Bool.Decides.{nat_tests}
use Rattle.std.proofs.lemmas.Option.{same_Some, slice_get_within}
use Rattle.ws_wire.specs.declared.role.Role.{Role}
use Rattle.ws_wire.specs.declared.role.Role.TheVariants.{Client, Server}
use Rattle.ws_frame.specs.Devices.{Device, HasWritten}
use Rattle.ws_frame.specs.FrameStreaming.{is_of_a_write}
use Rattle.ws_frame.specs.declared.show_fault.ShowFault.{ShowFault}
use Rattle.ws_frame.specs.declared.show_fault.ShowFault.TheVariants as shown
use Rattle.ws_loops.specs.Deeds.{Deed}
use Rattle.ws_loops.specs.declared.slot.Slot.{Slot}
use Rattle.ws_loops.proofs.PlaceLemmas.{get_set_other, get_set_same, place_of}
use Rattle.ws_networks.specs.Networks.{NetworkDeed}
use Rattle.ws_networks.specs.declared.dialing.Dial.{Dial}
use Rattle.ws_networks.specs.declared.dialing.Dialled.TheVariants as dialled
use Rattle.ws_tap.specs.Tapping.{HasTapped, IsTapping, StandsOn, waits_for}
use Rattle.ws_tap.specs.Told.{TapTold, other_end}
use Rattle.ws_tap.specs.declared.tap.Tap.{Tap}
use Rattle.ws_tap.specs.declared.tapping.TapEnd.{TapEnd}
use Rattle.ws_relays.specs.EndPlaces.{AskedEnd, AwaitedPlace, EndThere, FreePlace, HasComeAmong, HeldEnd}
use Rattle.ws_relays.specs.EndPlaces.{KeptPlace, LostEnd}
use Rattle.ws_relays.specs.Connections.{IsTappedTo}
use Rattle.ws_relays.specs.InnerRelays.{AreRelayNumbers, AreRelays, ComesIn, IsOpenAt, IsPairIn, IsRelayIn}
use Rattle.ws_relays.specs.InnerRelays.{IsTappedIn, PassesIn, RelayEndsIn, RelaysTold, SettlesAt, StoodUntil, end_at}
use Rattle.ws_relays.specs.InnerRelays.{OfSome, StandsSo, StandsTelling, StopsTelling, end_place, fault_shown}
use Rattle.ws_relays.specs.InnerRelays.{parts_next, told_more}
use Rattle.ws_relays.specs.declared.relays.RelayEvent.{RelayEvent}
use Rattle.ws_relays.specs.declared.relays.RelayEvent.TheVariants as event
use Rattle.ws_relays.specs.declared.relays.RelayFault.TheVariants as fault
use Rattle.ws_relays.specs.Relayed.{KeepsBut, MayHappenAt, TellsHappened, fate_behind, happened_told}
use Rattle.ws_relays.specs.TappedEnds.{IsTappedAs, IsTappedEndIn}
use Rattle.ws_relays.specs.Tappings.{EndOf, LinesOf, TapPart, lines_of_number, tapped_in}
use Rattle.ws_relays.specs.declared.ends.EndEvent.TheVariants as came
use Rattle.ws_relays.specs.declared.once.Happened.{Happened}
use Rattle.ws_relays.specs.declared.once.Once.{Once}
use Rattle.ws_relays.specs.declared.relay.Fate.{Fate}
use Rattle.ws_relays.specs.declared.relay.Fate.TheVariants as fate
use Rattle.ws_relays.specs.declared.relay.Relay.{Relay}
use Rattle.ws_relays.specs.declared.relays.Pair.{Pair}
use Rattle.ws_relays.specs.declared.relays.Pair.TheVariants as pair
use Rattle.ws_relays.specs.declared.relays.RelayEnd.TheVariants as relay_end
use Rattle.ws_relays.specs.declared.relays.Relays.{Relays}
use Rattle.ws_relays.specs.declared.tapping.Tapping.{Tapping}
use Rattle.ws_relays.proofs.PairLemmas.{done_more, pair_on, pairs_but, pairs_on, pairs_out, pairs_set}
use Rattle.ws_relays.proofs.RelayNumbers.{count_below, lines_none, lines_own, numbers_come}
use Rattle.ws_relays.proofs.RelaySteps.{step_here, step_may, step_over, step_there}
use Rattle.ws_relays.proofs.RelayWork.{Becomes, become, open_lines, open_within, relays_as}

-- ---- the places of a pair

-- that of a client, or of a server
abbrev found_at : Bool → ℕ → ℕ → ℕ × Role
found_at is len place = if is then (place, Client) else (place - len, Server)

-- an end stands in the place of it
pub place_back : (len place : ℕ) → place < len + len
    → (end_place len (end_at len place).0 (end_at len place).1 ≡ place) × ((end_at len place).0 < len)
place_back len place lt = by (nat_lt place len) refl
  where
    by : (b : Bool) → nat_lt place len ≡ b
        → (end_place len (found_at (nat_lt place len) len place).0 (found_at (nat_lt place len) len place).1 ≡ place)
        × ((found_at (nat_lt place len) len place).0 < len)
    by true is = subst (λ (b : Bool). (end_place len (found_at b len place).0 (found_at b len place).1 ≡ place)
        × ((found_at b len place).0 < len)) (sym is) (refl, grind (arith, nat_tests, is))
    by false is =
        let le : len ≤ place = grind (arith, nat_tests, is) in
        subst (λ (b : Bool). (end_place len (found_at b len place).0 (found_at b len place).1 ≡ place)
        × ((found_at b len place).0 < len)) (sym is) (omega (arith, le), omega (arith, le, lt))

-- both places of a pair are apart
pub places_apart : (len i : ℕ) (role : Role) → i < len → end_place len i (other_end role) ≡ end_place len i role → ⊥
places_apart len i Client lt same = omega (arith, lt, same)
places_apart len i Server lt same = omega (arith, lt, same)

pub place_own : (len i : ℕ) (role : Role) → (end_place len i role ≡ i) ⊎ (end_place len i role ≡ len + i)
place_own len i Client = inl refl
place_own len i Server = inr refl

-- different things that stand in a place
abbrev kind_there : {S : Type 0} → EndThere S → ℕ
kind_there FreePlace = 0
kind_there KeptPlace = 1
kind_there AwaitedPlace = 2
kind_there (AskedEnd slot) = 3
kind_there (HeldEnd stream) = 4
kind_there LostEnd = 5

unlike : {S : Type 0} (ends : List (EndThere S)) (p : ℕ) (x y : EndThere S) → (kind_there x ≡ kind_there y → ⊥)
    → slice_get ends p ≡ Some x → slice_get ends p ≡ Some y → ⊥
unlike ends p x y far is also = far (ap (λ (e : EndThere _). kind_there e) (same_Some x y (sym is ∙ also)))

module _ {S : Type 0} (did : S → S → List Deed → Type 0) where
  -- what stands in a place of a tapped connection is an end
  tapped_at : (role : Role) (tap : Tap) (told : List TapTold) (ends : List (EndThere S)) (p : ℕ) (x : EndThere S)
      → (IsTappedAs did role tap told x → ⊥) → slice_get ends p ≡ Some x
      → IsTappedEndIn did role tap told ends p → ⊥
  tapped_at role tap told ends p x none is (there, get, so) =
      none (subst (λ (y : EndThere S). IsTappedAs did role tap told y) (same_Some there x (sym get ∙ is)) so)

  -- both ends, by their roles
  client_of : (len : ℕ) (role : Role) (tap : Tap) (told : List TapTold) (ends : List (EndThere S)) (i : ℕ)
      → IsTappedEndIn did role tap told ends (end_place len i role)
      → IsTappedEndIn did (other_end role) tap told ends (end_place len i (other_end role))
      → IsTappedEndIn did Client tap told ends i × IsTappedEndIn did Server tap told ends (len + i)
  client_of len Client tap told ends i here there = (here, there)
  client_of len Server tap told ends i here there = (there, here)

-- different pairs
abbrev kind_of_pair : {A S W : Type 0} → Pair A S W → ℕ
kind_of_pair pair.Free = 0
kind_of_pair (pair.Joining number dial) = 1
kind_of_pair (pair.Joined relay) = 2

pub other_pair : {A S W : Type 0} (x y z : Pair A S W) → (kind_of_pair y ≡ kind_of_pair z → ⊥) → x ≡ y → x ≡ z → ⊥
other_pair x y z far is also = far (ap (λ (p : Pair _ _ _). kind_of_pair p) (sym is ∙ also))

module _ {A S W : Type 0} (did : S → S → List Deed → Type 0) (tapping : Tapping) where
  -- ---- of which pair it is

  -- something has happened at an end of which something was asked: of one that is tapped
  pub happened_joined : (ends : List (EndThere S)) (i now : ℕ) (parts : List TapPart) (done : List (NetworkDeed A W))
      (role : Role) (slot : Slot Once S) (x : Pair A S W)
      → slice_get ends (end_place tapping.at_once i role) ≡ Some (AskedEnd slot)
      → IsPairIn did tapping ends i now parts done x → (relay : Relay) × (x ≡ pair.Joined relay)
  happened_joined ends i now parts done Client slot pair.Free is h =
      absurd (unlike ends i FreePlace (AskedEnd slot) (λ e. omega (arith, e)) h.0 is)
  happened_joined ends i now parts done Server slot pair.Free is h =
      absurd (unlike ends (tapping.at_once + i) KeptPlace (AskedEnd slot) (λ e. omega (arith, e)) h.1 is)
  happened_joined ends i now parts done Client slot (pair.Joining number dial) is h =
      absurd (unlike ends i (HeldEnd h.1.client) (AskedEnd slot) (λ e. omega (arith, e)) h.1.waits is)
  happened_joined ends i now parts done Server slot (pair.Joining number dial) is h =
      absurd (unlike ends (tapping.at_once + i) AwaitedPlace (AskedEnd slot) (λ e. omega (arith, e)) h.0 is)
  happened_joined ends i now parts done role slot (pair.Joined relay) is h = (relay, refl)

  -- a connection that was stirred: of a client for whom one is to be made
  pub stirred_joining : (ends : List (EndThere S)) (i now : ℕ) (parts : List TapPart) (done : List (NetworkDeed A W))
      (role : Role) (x : Pair A S W) → slice_get ends (end_place tapping.at_once i role) ≡ Some AwaitedPlace
      → IsPairIn did tapping ends i now parts done x
      → (role ≡ Server) × ((number : ℕ) × (dial : Dial A S W) × (x ≡ pair.Joining number dial))
  stirred_joining ends i now parts done Client pair.Free is h =
      absurd (unlike ends i FreePlace AwaitedPlace (λ e. omega (arith, e)) h.0 is)
  stirred_joining ends i now parts done Server pair.Free is h =
      absurd (unlike ends (tapping.at_once + i) KeptPlace AwaitedPlace (λ e. omega (arith, e)) h.1 is)
  stirred_joining ends i now parts done Client (pair.Joining number dial) is h =
      absurd (unlike ends i (HeldEnd h.1.client) AwaitedPlace (λ e. omega (arith, e)) h.1.waits is)
  stirred_joining ends i now parts done Server (pair.Joining number dial) is h = (refl, (number, dial, refl))
  stirred_joining ends i now parts done Client (pair.Joined relay) is h =
      absurd (tapped_at did Client relay.tap.value h.told ends i AwaitedPlace (λ e. e) is h.client)
  stirred_joining ends i now parts done Server (pair.Joined relay) is h =
      absurd (tapped_at did Server relay.tap.value h.told ends (tapping.at_once + i) AwaitedPlace (λ e. e) is h.served)

  -- a place that was free for a client: that of a client, where none is
  pub free_pair : (ends : List (EndThere S)) (i now : ℕ) (parts : List TapPart) (done : List (NetworkDeed A W))
      (role : Role) (x : Pair A S W) → slice_get ends (end_place tapping.at_once i role) ≡ Some FreePlace
      → IsPairIn did tapping ends i now parts done x → (role ≡ Client) × (x ≡ pair.Free)
  free_pair ends i now parts done Client pair.Free is h = (refl, refl)
  free_pair ends i now parts done Server pair.Free is h =
      absurd (unlike ends (tapping.at_once + i) KeptPlace FreePlace (λ e. omega (arith, e)) h.1 is)
  free_pair ends i now parts done Client (pair.Joining number dial) is h =
      absurd (unlike ends i (HeldEnd h.1.client) FreePlace (λ e. omega (arith, e)) h.1.waits is)
  free_pair ends i now parts done Server (pair.Joining number dial) is h =
      absurd (unlike ends (tapping.at_once + i) AwaitedPlace FreePlace (λ e. omega (arith, e)) h.0 is)
  free_pair ends i now parts done Client (pair.Joined relay) is h =
      absurd (tapped_at did Client relay.tap.value h.told ends i FreePlace (λ e. e) is h.client)
  free_pair ends i now parts done Server (pair.Joined relay) is h =
      absurd (tapped_at did Server relay.tap.value h.told ends (tapping.at_once + i) FreePlace (λ e. e) is h.served)

  -- ---- how all stand behind it

  -- no client can be taken
  pub full_stands : (old : Relays A S W) (why : W) (all : RelaysTold A W)
      → StoodUntil did old (came.Full why) tapping all → AreRelays did tapping old all
  full_stands old why all (before, (numbers, b), on) = (
    numbers,
    record {
      style = b.style;
      server = b.server;
      pairs = pairs_on did tapping before old.ends old.time old.time old.pairs.items tapping.at_once numbers all.parts
          all.done on (omega arith) b.pairs;
      numbered = b.numbered;
      ends_so = b.ends_so;
    },
  )

  -- something has happened at an end of a tapped connection, which is taken out of its place
  pub go_on_passes : (old mid : Relays A S W) (i : ℕ) (role : Role) (relay : Relay) (what : Happened)
      (all : RelaysTold A W) → slice_get old.pairs.items i ≡ Some (pair.Joined relay)
      → Becomes old mid old.ends (slice_set old.pairs.items i pair.Free) old.taken old.there
      → StoodUntil did old (came.Happened (end_place tapping.at_once i role) what) tapping all
      → PassesIn did mid i role relay what tapping all
  go_on_passes old mid i role relay what all get c (before, (numbers, b), come) =
      let len = tapping.at_once in
      let place = end_place len i role in
      let lt : i < len = omega (arith, slice_get_within old.pairs.items i (pair.Joined relay) get, b.pairs.many) in
      let own = b.pairs.each i (pair.Joined relay) (λ same. omega (arith, lt, same)) get in
      let but = pairs_but did tapping before old.time old.pairs.items i numbers all.parts all.done b.pairs in
      let set = pairs_set did tapping before place (HeldEnd come.1) old.time old.pairs.items i numbers all.parts
      all.done lt (place_own len i role) but in
      let on = pairs_on did tapping (slice_set before place (HeldEnd come.1)) old.ends old.time old.time
      old.pairs.items i numbers all.parts all.done come.3 (omega arith) set in (
        (
          numbers,
          become did tapping old mid old.ends (slice_set old.pairs.items i pair.Free) old.taken old.there i numbers
              all c b.style b.server (pairs_out did tapping old.ends old.time old.pairs.items i numbers numbers
              all.parts all.done pair.Free (λ j far. refl) on) b.numbered b.ends_so,
          own.0,
        ),
        (
          before,
          own.1,
          subst (λ (e : List (EndThere S)). HasComeAmong {S = S} {W = W} did before e (came.Happened place what))
              (sym c.ends) come,
        ),
      )

  -- a connection that is under way was stirred, and is taken out of its place
  pub stir_settles : (old mid : Relays A S W) (i n : ℕ) (dial : Dial A S W) (all : RelaysTold A W)
      → slice_get old.pairs.items i ≡ Some (pair.Joining n dial)
      → Becomes old mid old.ends (slice_set old.pairs.items i pair.Free) old.taken old.there
      → StoodUntil did old (came.Stirred (tapping.at_once + i)) tapping all
      → SettlesAt did mid i n (dialled.Waits dial) tapping all
  stir_settles old mid i n dial all get c (before, (numbers, b), come) =
      let len = tapping.at_once in
      let lt : i < len = omega (arith, slice_get_within old.pairs.items i (pair.Joining n dial) get, b.pairs.many) in
      let own = b.pairs.each i (pair.Joining n dial) (λ same. omega (arith, lt, same)) get in
      let on = pairs_on did tapping before old.ends old.time old.time old.pairs.items i numbers all.parts all.done
      come.1 (omega arith) (pairs_but did tapping before old.time old.pairs.items i numbers all.parts all.done
      b.pairs) in
      let stays = pair_on did tapping before old.ends i old.time old.time all.parts all.done (pair.Joining n dial)
      come.1 (omega arith) own.1 in (
        (
          numbers,
          become did tapping old mid old.ends (slice_set old.pairs.items i pair.Free) old.taken old.there i numbers
              all c b.style b.server (pairs_out did tapping old.ends old.time old.pairs.items i numbers numbers
              all.parts all.done pair.Free (λ j far. refl) on) b.numbered b.ends_so,
          own.0,
        ),
        (subst (λ (e : List (EndThere S)). IsPairIn did tapping e i mid.time all.parts all.done (pair.Joining n dial))
            (sym c.ends) (subst (λ (t : ℕ). IsPairIn did tapping old.ends i t all.parts all.done
            (pair.Joining n dial)) (sym c.time) stays)).1,
      )

  -- a client has come for this place, in which none was
  client_pair : (old : Relays A S W) (i : ℕ) (client : S) (all : RelaysTold A W)
      → StoodUntil did old (came.Client i client) tapping all
      → (i < tapping.at_once) × (slice_get old.pairs.items i ≡ Some pair.Free)
  client_pair old i client all (before, (numbers, b), come) =
      let len = tapping.at_once in
      let inside : i < len + len = omega (arith, slice_get_within before i FreePlace come.0, b.pairs.places) in
      let back = place_back len i inside in
      let at = (end_at len i).0 in
      let there = place_of old.pairs.items at (omega (arith, back.1, b.pairs.many)) in
      let own = b.pairs.each at there.0 (λ same. omega (arith, back.1, same)) there.1 in
      let free = free_pair before at old.time all.parts all.done (end_at len i).1 there.0
      (ap (λ (p : ℕ). slice_get before p) back.0 ∙ come.0) own.1 in
      let same : at ≡ i = ap (λ (r : Role). end_place len at r) (sym free.0) ∙ back.0 in (
        omega (arith, back.1, same),
        ap (λ (k : ℕ). slice_get old.pairs.items k) (sym same) ∙ (there.1
            ∙ ap (λ (x : Pair A S W). Some x) free.1),
      )

  -- its place is kept for it, and that of its server
  pub client_kept : (old : Relays A S W) (i : ℕ) (client : S) (all : RelaysTold A W)
      → StoodUntil did old (came.Client i client) tapping all → slice_get old.ends i ≡ Some KeptPlace
  client_kept old i client all (before, (numbers, b), come) =
      let (y, get, so) = come.1.1 i KeptPlace (get_set_same before i KeptPlace
      (slice_get_within before i FreePlace come.0)) in get ∙ ap (λ (x : EndThere S). Some x) so

  -- one more can be counted
  pub there_fits : (old : Relays A S W) (i : ℕ) (client : S) (all : RelaysTold A W)
      → StoodUntil did old (came.Client i client) tapping all → old.there + 1 < 2 ^ 64
  there_fits old i client all (before, (numbers, b), come) =
      let (lt, get) = client_pair old i client all (before, (numbers, b), come) in
      let free = (b.pairs.each i pair.Free (λ same. omega (arith, lt, same)) get).0 in
      omega (arith, count_below numbers i free, b.numbered.count, b.numbered.len, b.pairs.room, lt)

  pub client_comes : (old new : Relays A S W) (i n : ℕ) (client : S) (all : RelaysTold A W) → n ≡ old.taken + 1
      → Becomes old new (slice_set old.ends i (HeldEnd client)) old.pairs.items n (old.there + 1)
      → StoodUntil did old (came.Client i client) tapping all → ComesIn did new i n tapping all
  client_comes old new i n client all next c (before, (numbers, b), come) =
      let len = tapping.at_once in
      let (lt, get) = client_pair old i client all (before, (numbers, b), come) in
      let own = b.pairs.each i pair.Free (λ same. omega (arith, lt, same)) get in
      let after = slice_set numbers i (Some n) in
      let ends = slice_set old.ends i (HeldEnd client) in
      let but = pairs_but did tapping before old.time old.pairs.items i numbers all.parts all.done b.pairs in
      let kept = pairs_set did tapping before i KeptPlace old.time old.pairs.items i numbers all.parts all.done lt
      (inl refl) but in
      let on = pairs_on did tapping (slice_set before i KeptPlace) old.ends old.time old.time old.pairs.items i numbers
      all.parts all.done come.1 (omega arith) kept in
      let held = pairs_set did tapping old.ends i (HeldEnd client) old.time old.pairs.items i numbers all.parts all.done
      lt (inl refl) on in
      let (y, there, so) = come.1.1 (len + i) KeptPlace (get_set_other before i (len + i) KeptPlace
      (λ same. omega (arith, lt, same)) ∙ own.1.1) in
      let server : slice_get ends (len + i) ≡ Some KeptPlace =
      get_set_other old.ends i (len + i) (HeldEnd client) (λ same. omega (arith, lt, same))
      ∙ (there ∙ ap (λ (x : EndThere S). Some x) so) in
      let places : slice_get ends i ≡ Some (HeldEnd client) =
      get_set_same old.ends i (HeldEnd client) (omega (arith, on.places, lt)) in record {
        others = (
          after,
          become did tapping old new ends old.pairs.items n (old.there + 1) i after all c b.style b.server
              (record {
                many = held.many;
                places = held.places;
                room = held.room;
                each = λ j x far was. (
                  get_set_other numbers i j (Some n) far ∙ (held.each j x far was).0,
                  (held.each j x far was).1,
                );
              }) (subst (λ (k : ℕ). AreRelayNumbers len k (old.there + 1) (slice_set numbers i (Some k)) all.parts)
              (sym next)
              (numbers_come len old.taken old.there numbers all.parts b.numbered i own.0)) b.ends_so,
          get_set_same numbers i (Some n) (slice_get_within numbers i None own.0),
        );
        client = client;
        waits = ap (λ (e : List (EndThere S)). slice_get e i) c.ends ∙ places;
        new = come.2;
        kept = (KeptPlace, ap (λ (e : List (EndThere S)). slice_get e (len + i)) c.ends ∙ server, refl);
        silent = ap (λ (k : ℕ). lines_of_number k all.parts) next ∙ lines_none old.taken all.parts b.numbered.came;
      }

  -- ---- in which place

  -- the end at which something has happened has a place
  pub happened_within : (old : Relays A S W) (place : ℕ) (what : Happened) (all : RelaysTold A W)
      → StoodUntil did old (came.Happened place what) tapping all
      → place < length old.pairs.items + length old.pairs.items
  happened_within old place what all (before, (numbers, b), come) =
      omega (arith, slice_get_within before place (AskedEnd come.0) come.2, b.pairs.places, b.pairs.many)

  -- that of a pair, in which a connection is tapped
  pub happened_at : (old : Relays A S W) (place : ℕ) (what : Happened) (e : ℕ × Role) (all : RelaysTold A W)
      → e ≡ end_at (length old.pairs.items) place → StoodUntil did old (came.Happened place what) tapping all
      → (end_place tapping.at_once e.0 e.1 ≡ place) × (e.0 < length old.pairs.items)
  happened_at old place what e all is (before, (numbers, b), come) =
      subst (λ (x : ℕ × Role). (end_place tapping.at_once x.0 x.1 ≡ place) × (x.0 < length old.pairs.items)) (sym is)
      (subst (λ (k : ℕ). (end_place k (end_at (length old.pairs.items) place).0
      (end_at (length old.pairs.items) place).1 ≡ place)
      × ((end_at (length old.pairs.items) place).0 < length old.pairs.items)) b.pairs.many
      (place_back (length old.pairs.items) place
      (happened_within old place what all (before, (numbers, b), come))))

  pub happened_is : (old : Relays A S W) (place : ℕ) (what : Happened) (e : ℕ × Role) (x : Pair A S W)
      (all : RelaysTold A W) → e ≡ end_at (length old.pairs.items) place
      → slice_get old.pairs.items e.0 ≡ Some x → StoodUntil did old (came.Happened place what) tapping all
      → (relay : Relay) × (x ≡ pair.Joined relay)
  happened_is old place what e x all is get (before, (numbers, b), come) =
      let at = happened_at old place what e all is (before, (numbers, b), come) in
      happened_joined before e.0 old.time all.parts all.done e.1 come.0 x
      (ap (λ (p : ℕ). slice_get before p) at.0 ∙ come.2)
      (b.pairs.each e.0 x (λ same. omega (arith, at.1, b.pairs.many, same)) get).1

  -- of a pair that is free, or for which a connection is under way, nothing has
  pub never_other : (old : Relays A S W) (place : ℕ) (what : Happened) (e : ℕ × Role) (x : Pair A S W)
      (all : RelaysTold A W) → e ≡ end_at (length old.pairs.items) place
      → slice_get old.pairs.items e.0 ≡ Some x → StoodUntil did old (came.Happened place what) tapping all
      → (x ≡ pair.Free) ⊎ ((n : ℕ) × (dial : Dial A S W) × (x ≡ pair.Joining n dial)) → ⊥
  never_other old place what e x all is get stood (inl free) =
      let joined = happened_is old place what e x all is get stood in
      other_pair x pair.Free (pair.Joined joined.0) (λ same. omega (arith, same)) free joined.1
  never_other old place what e x all is get stood (inr (n, dial, joining)) =
      let joined = happened_is old place what e x all is get stood in
      other_pair x (pair.Joining n dial) (pair.Joined joined.0) (λ same. omega (arith, same)) joining joined.1

  pub happened_passes : (old mid : Relays A S W) (place : ℕ) (what : Happened) (e : ℕ × Role) (relay : Relay)
      (all : RelaysTold A W) → e ≡ end_at (length old.pairs.items) place
      → slice_get old.pairs.items e.0 ≡ Some (pair.Joined relay)
      → Becomes old mid old.ends (slice_set old.pairs.items e.0 pair.Free) old.taken old.there
      → StoodUntil did old (came.Happened place what) tapping all → PassesIn did mid e.0 e.1 relay what tapping all
  happened_passes old mid place what e relay all is get c stood = go_on_passes old mid e.0 e.1 relay what all get c
      (subst (λ (p : ℕ). StoodUntil did old (came.Happened p what) tapping all)
      (sym (happened_at old place what e all is stood).0) stood)

  -- ---- what has happened at an end is told

  -- an end of it, by its role
  end_of : (ends : List (EndThere S)) (i : ℕ) (relay : Relay) (parts : List TapPart) (done : List (NetworkDeed A W))
      (role : Role) (r : IsRelayIn did tapping ends i relay parts done)
      → IsTappedEndIn did role relay.tap.value r.told ends (end_place tapping.at_once i role)
  end_of ends i relay parts done Client r = r.client
  end_of ends i relay parts done Server r = r.served

  module _ (old : Relays A S W) (i : ℕ) (role : Role) (relay : Relay) (what : Happened) (all : RelaysTold A W)
      (h : PassesIn did old i role relay what tapping all) where
    pub passes_tapped : HasTapped (tapped_in tapping.style relay.number) h.1.1.told relay.tap.value
        (lines_of_number relay.number all.parts)
    passes_tapped = h.1.1.stands

    pub passes_may : MayHappenAt role relay.tap.value what
    passes_may = step_may did role relay.tap.value h.1.1.told h.1.0 old.ends
        (end_place tapping.at_once i role) what h.1.2 (end_of h.1.0 i relay all.parts all.done role h.1.1)

    module _ (after : Relay) (number : after.number ≡ relay.number) (more : List ℕ)
        (now : HasTapped (tapped_in tapping.style relay.number)
        (h.1.1.told ++ happened_told role (waits_for role relay.tap.value) what) after.tap.value
        (lines_of_number relay.number all.parts ++ more)) where
      -- it is over
      pub passed_over : (end : TapEnd) → fate_behind what after.tap.value ≡ fate.Over end
          → RelayEndsIn did old i relay.number (relay_end.Tapped end) tapping
          (told_more all (LinesOf relay.number more ∷ []) [])
      passed_over end over =
          let r = h.1.1 in
          let len = tapping.at_once in
          let lt : i < len = open_within did tapping old i relay.number all h.0 in (
            open_lines did tapping old i relay.number more all h.0,
            record {
              at = len + i;
              mine = r.mine;
              among = done_more (len + i) r.mine all.done [] r.among;
              relayed = (
                r.made,
                subst (λ (l : List ℕ). IsTappedTo did (tapped_in tapping.style relay.number) l end)
                    (sym (lines_own relay.number all.parts more))
                    (step_over did role relay.tap.value after.tap.value (tapped_in tapping.style relay.number)
                    r.told (lines_of_number relay.number all.parts) (lines_of_number relay.number all.parts ++ more)
                    h.1.0 old.ends (end_place len i role) (end_place len i (other_end role)) what end h.1.2
                    passes_may r.stands now (end_of h.1.0 i relay all.parts all.done role r)
                    (end_of h.1.0 i relay all.parts all.done (other_end role) r) over),
              );
            },
          )

      -- it goes on
      pub passed_on : IsTappedIn did old i after tapping (told_more all (LinesOf relay.number more ∷ []) [])
      passed_on =
          let r = h.1.1 in
          let len = tapping.at_once in
          let lt : i < len = open_within did tapping old i relay.number all h.0 in
          let place = end_place len i role in
          let other = end_place len i (other_end role) in
          let told = r.told ++ happened_told role (waits_for role relay.tap.value) what in
          let both = client_of did len role after.tap.value told old.ends i
          (step_here did role relay.tap.value after.tap.value r.told h.1.0 old.ends place what h.1.2
          (end_of h.1.0 i relay all.parts all.done role r))
          (step_there did role relay.tap.value after.tap.value (tapped_in tapping.style relay.number) r.told
          (lines_of_number relay.number all.parts) (lines_of_number relay.number all.parts ++ more) h.1.0 old.ends
          place other what h.1.2 (places_apart len i role lt) passes_may r.stands now
          (end_of h.1.0 i relay all.parts all.done (other_end role) r)) in (
            subst (λ (k : ℕ). IsOpenAt did tapping old i k (told_more all (LinesOf relay.number more ∷ []) []))
                (sym number) (open_lines did tapping old i relay.number more all h.0),
            record {
              told = told;
              stands = subst (λ (k : ℕ). HasTapped (tapped_in tapping.style k) told after.tap.value
                  (lines_of_number k (all.parts ++ LinesOf relay.number more ∷ []))) (sym number)
                  (subst (λ (l : List ℕ). HasTapped (tapped_in tapping.style relay.number) told after.tap.value l)
                  (sym (lines_own relay.number all.parts more)) now);
              client = both.0;
              served = both.1;
              mine = r.mine;
              among = done_more (len + i) r.mine all.done [] r.among;
              made = r.made;
            },
          )

-- ---- all stands by what stood before

module _ {A S W : Type 0} (did : S → S → List Deed → Type 0) where
  pub telling_by : (one other : Tapping → RelaysTold A W → Type 0) (new : Relays A S W) (output : Device)
      (told : Option RelayEvent) → ((tapping : Tapping) (all : RelaysTold A W) → one tapping all → other tapping all)
      → StandsTelling did other new output told → StandsTelling did one new output told
  telling_by one other new output told by (works, stands) =
      (works, λ tapping all h. stands tapping all (by tapping all h))

  pub telling_all : {E : Type 0} (one other : Tapping → RelaysTold A W → Type 0) (new : Relays A S W)
      (output : Device) (stops : E → Type 0) (told : Result (Option RelayEvent) E)
      → ((tapping : Tapping) (all : RelaysTold A W) → one tapping all → other tapping all)
      → MatchResult told (StandsTelling did other new output) stops
      → MatchResult told (StandsTelling did one new output) stops
  telling_all one other new output stops (Ok event) by h = telling_by one other new output event by h
  telling_all one other new output stops (Err why) by h = h

-- a fault of what is told is one of all
pub shown_stops : (shown : ShowFault) (failed : Bool) (old new : Option (List ℕ)) (more : List ℕ)
    → failed ≡ is_of_a_write shown → Appends old new more
    → StopsTelling (record { failed = failed; old = old; new = new }) (fault_shown shown)
shown_stops shown.Write failed old new more is wrote = is
shown_stops shown.NoMemory failed old new more is wrote = (is, (more, wrote))

-- ---- what was told of it

kept_number : (role : Role) (old new : Relay) → KeepsBut role old new → new.number ≡ old.number
kept_number Client old new kept = kept.0
kept_number Server old new kept = kept.0

module _ {A S W : Type 0} (did : S → S → List Deed → Type 0) (old : Relays A S W) (i : ℕ) (role : Role)
    (relay after : Relay) (what : Happened) (failed : Bool) (held now : Option (List ℕ)) (f : Fate)
    (tells : TellsHappened role relay.tap.value after.tap.value what
    (record { failed = failed; old = held; new = now }) (Ok f)) (kept : KeepsBut role relay after) where
  module _ (tapping : Tapping) (all : RelaysTold A W) (h : PassesIn did old i role relay what tapping all) where
    told_so : (more : List ℕ) × HasWritten more (record { failed = failed; old = held; new = now })
        × StandsOn (tapped_in tapping.style relay.number)
        (h.1.1.told ++ happened_told role (waits_for role relay.tap.value) what) after.tap.value
        (lines_of_number relay.number all.parts ++ more) failed (Ok f)
    told_so = tells (tapped_in tapping.style relay.number) h.1.1.told (lines_of_number relay.number all.parts)
        (passes_tapped did tapping old i role relay what all h)

    over_so : (end : TapEnd) → fate_behind what after.tap.value ≡ fate.Over end
        → RelayEndsIn did old i after.number (relay_end.Tapped end) tapping
        (told_more all (LinesOf relay.number told_so.0 ∷ []) [])
    over_so end over = subst (λ (n : ℕ). RelayEndsIn did old i n (relay_end.Tapped end) tapping
        (told_more all (LinesOf relay.number told_so.0 ∷ []) [])) (sym (kept_number role relay after kept))
        (passed_over did tapping old i role relay what all h after (kept_number role relay after kept) told_so.0
        told_so.2.1 end over)

    on_so : IsTappedIn did old i after tapping (told_more all (LinesOf relay.number told_so.0 ∷ []) [])
    on_so = passed_on did tapping old i role relay what all h after (kept_number role relay after kept) told_so.0
        told_so.2.1

  pub some_over : (end : TapEnd) → fate_behind what after.tap.value ≡ fate.Over end
      → OfSome (PassesIn did old i role relay what)
      → OfSome (RelayEndsIn did old i after.number (relay_end.Tapped end))
  some_over end over (tapping, all, h) =
      (tapping, told_more all (LinesOf relay.number (told_so tapping all h).0 ∷ []) [], over_so tapping all h end over)

  pub some_on : OfSome (PassesIn did old i role relay what) → OfSome (IsTappedIn did old i after)
  some_on (tapping, all, h) =
      (tapping, told_more all (LinesOf relay.number (told_so tapping all h).0 ∷ []) [], on_so tapping all h)

  -- its end is told behind its last lines
  pub telling_over : (new : Relays A S W) (end : TapEnd) (told : RelayEvent)
      → fate_behind what after.tap.value ≡ fate.Over end → told ≡ event.Ended after.number (relay_end.Tapped end)
      → OfSome (PassesIn did old i role relay what)
      → StandsSo did (RelayEndsIn did old i after.number (relay_end.Tapped end)) new
      (Some (event.Ended after.number (relay_end.Tapped end)))
      → StandsTelling did (PassesIn did old i role relay what) new
      (record { failed = failed; old = held; new = now }) (Some told)
  telling_over new end told over is (any, some, stood) stands = (
    (told_so any some stood).2.0,
    λ tapping all h.
        let more = (told_so tapping all h).0 in
        let lines = LinesOf relay.number more ∷ [] in (
          lines,
          subst (λ (l : List ℕ). Appends held now l) (sym (append-nil more)) (told_so tapping all h).1,
          refl,
          relays_as did tapping new (told_more (told_more all lines [])
              (EndOf after.number (relay_end.Tapped end) ∷ []) []) (told_more all (lines ++ parts_next (Some told)) [])
              (ap (λ (e : RelayEvent). all.parts ++ (lines ++ parts_next (Some e))) is
              ∙ sym (append_assoc all.parts lines (EndOf after.number (relay_end.Tapped end) ∷ [])))
              (sym (append-nil (all.done ++ []))) (stands tapping (told_more all lines []) (over_so tapping all h end
              over)),
        ),
  )

  -- it goes on, and its lines are told
  pub telling_on : (new : Relays A S W) → OfSome (PassesIn did old i role relay what)
      → StandsSo did (IsTappedIn did old i after) new None
      → StandsTelling did (PassesIn did old i role relay what) new
      (record { failed = failed; old = held; new = now }) None
  telling_on new (any, some, stood) stands = (
    (told_so any some stood).2.0,
    λ tapping all h.
        let more = (told_so tapping all h).0 in
        let lines = LinesOf relay.number more ∷ [] in (
          lines,
          subst (λ (l : List ℕ). Appends held now l) (sym (append-nil more)) (told_so tapping all h).1,
          refl,
          relays_as did tapping new (told_more (told_more all lines []) [] []) (told_more all (lines ++ []) [])
              (sym (append_assoc all.parts lines [])) (sym (append-nil (all.done ++ []))) (stands tapping
              (told_more all lines []) (on_so tapping all h)),
        ),
  )

  -- memory runs out then
  pub telling_stops : OfSome (PassesIn did old i role relay what)
      → StopsTelling (record { failed = failed; old = held; new = now }) fault.NoMemory
  telling_stops (any, some, stood) =
      ((told_so any some stood).2.0, ((told_so any some stood).0, (told_so any some stood).1))

-- a line was not told
pub telling_failed : {A S W : Type 0} (did : S → S → List Deed → Type 0) (old : Relays A S W) (i : ℕ) (role : Role)
    (relay after : Relay) (what : Happened) (failed : Bool) (held now : Option (List ℕ)) (why : ShowFault)
    → TellsHappened {T = Fate} role relay.tap.value after.tap.value what
    (record { failed = failed; old = held; new = now }) (Err why)
    → OfSome (PassesIn did old i role relay what)
    → StopsTelling (record { failed = failed; old = held; new = now }) (fault_shown why)
telling_failed did old i role relay after what failed held now why tells (tapping, all, h) =
    let (more, wrote, stands) = tells (tapped_in tapping.style relay.number) h.1.1.told
    (lines_of_number relay.number all.parts) (passes_tapped did tapping old i role relay what all h) in
    shown_stops why failed held now more stands.0 wrote

pub some_tapping : {A S W : Type 0} (did : S → S → List Deed → Type 0) (old : Relays A S W) (i : ℕ) (role : Role)
    (relay : Relay) (what : Happened) → OfSome (PassesIn did old i role relay what) → IsTapping relay.tap.value
some_tapping did old i role relay what (tapping, all, h) = (
  tapped_in tapping.style relay.number,
  h.1.1.told,
  lines_of_number relay.number all.parts,
  passes_tapped did tapping old i role relay what all h,
)

pub some_may : {A S W : Type 0} (did : S → S → List Deed → Type 0) (old : Relays A S W) (i : ℕ) (role : Role)
    (relay : Relay) (what : Happened) → OfSome (PassesIn did old i role relay what)
    → MayHappenAt role relay.tap.value what
some_may did old i role relay what (tapping, all, h) = passes_may did tapping old i role relay what all h
