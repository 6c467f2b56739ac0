-- What has happened among the ends of tapped connections was seen to.
use Rattle.std.proofs.Common.{◌≡◌, ◌+◌, ◌≤◌, ℕ, Bool, false, List, [], ◌++◌, Option, Some, refl, arith, Result}
use Rattle.std.proofs.Common.{◌∙◌, Ok, Err, IfErr, IfOk, MatchResult, ap, append-nil, suc, zero}
use Rattle.std.proofs.Common.{◌∷◌, ◌<◌, ◌⊎◌, inl, inr, length, slice_get, slice_set, subst}
use Rattle.std.proofs.Common.{sym}
use Rattle.std.proofs.KnownBytes.{Appends-nil}
use Rattle.std.proofs.lemmas.Option.{slice_get_within}
use Rattle.ws_wire.specs.declared.role.Role.{Role}
use Rattle.ws_frame.specs.Devices.{Device}
use Rattle.ws_loops.specs.Deeds.{Deed}
use Rattle.ws_loops.specs.Listeners.{AcceptDeed}
use Rattle.ws_networks.specs.Connecting.{HasDialled, HasNextAddress, IfDialled, IsDialled, IsDialling}
use Rattle.ws_networks.specs.Networks.{AreDeedsOf, HasAdded, NetworkDeed}
use Rattle.ws_networks.specs.Networks.NetworkDeed.{Found, NotFound}
use Rattle.ws_networks.specs.declared.dialing.Dial.{Dial}
use Rattle.ws_networks.specs.declared.dialing.Dialled.{Dialled}
use Rattle.ws_networks.specs.declared.dialing.Dialled.TheVariants as dialled
use Rattle.ws_relays.specs.Connections.{unbound}
use Rattle.ws_relays.specs.EndPlaces.{AwaitedPlace, HasComeAmong, HasHeardThen, heard_by}
use Rattle.ws_relays.specs.InnerRelays.{AreRelays, ComesIn, RelayEndsIn, SettlesAt, StandsSo, end_at, end_place}
use Rattle.ws_relays.specs.InnerRelays.{IsNoShortage, IsSilentFault, RelaysTold, SeesToEnds, StandByDeeds}
use Rattle.ws_relays.specs.InnerRelays.{RelayOn, StandsTelling, StoodUntil}
use Rattle.ws_relays.specs.InnerRelays.{StopsTelling, TellsOfEnds, clients_in, parts_next, shortage_told, told_more}
use Rattle.ws_relays.specs.Tappings.{EndOf, TapPart}
use Rattle.ws_relays.specs.declared.ends.EndEvent.{EndEvent}
use Rattle.ws_relays.specs.declared.ends.EndEvent.TheVariants as came
use Rattle.ws_relays.specs.declared.once.Happened.{Happened}
use Rattle.ws_relays.specs.declared.relay.Relay.{Relay}
use Rattle.ws_relays.specs.declared.relays.Pair.{Pair}
use Rattle.ws_relays.specs.declared.relays.Pair.TheVariants as pair
use Rattle.ws_relays.specs.declared.relays.RelayEnd.TheVariants as relay_end
use Rattle.ws_relays.specs.declared.relays.RelayEvent.{RelayEvent}
use Rattle.ws_relays.specs.declared.relays.RelayEvent.TheVariants as event
use Rattle.ws_relays.specs.declared.relays.RelayFault.{RelayFault}
use Rattle.ws_relays.specs.declared.relays.Relays.{Relays}
use Rattle.ws_relays.specs.declared.tapping.Tapping.{Tapping}
use Rattle.ws_relays.proofs.RelayEvents.{full_stands, other_pair, place_back, stir_settles, stirred_joining}
use Rattle.ws_relays.proofs.RelayRuns.{did_nothing, did_then, silent_stops, step_on}
use Rattle.ws_relays.proofs.RelayWork.{Becomes, asked_settles, join_missed, join_settles, relays_as}

-- a shortage is no line
shortage_parts : (there : ℕ) → parts_next (Some (shortage_told there)) ≡ []
shortage_parts zero = refl
shortage_parts (suc n) = refl

module _ {A S N W : Type 0} (did : S → S → List Deed → Type 0) (ndid : N → N → List (NetworkDeed A W) → Type 0) where
  -- the network did something for it, and nothing was written
  pub sees_by_deeds : (stood : Tapping → RelaysTold A W → Type 0) (event : EndEvent S W) (network after : N)
      (old new : Relays A S W) (held : Option (List ℕ)) (failed : Bool) (told : Option RelayEvent) → failed ≡ false
      → new.taken ≡ old.taken + clients_in event → TellsOfEnds event new.there told
      → StandByDeeds did ndid stood network after new told
      → SeesToEnds did ndid stood event network after old new
      (record { failed = failed; old = held; new = held }) told
  sees_by_deeds stood event network after old new held failed told works taken tells h = record {
    works = works;
    taken = taken;
    tells = tells;
    done = h.done;
    added = h.added;
    stands = λ tapping all s. ([], Appends-nil held, refl, h.stands tapping all s);
  }

  -- something has happened at an end, and lines of it were written
  pub sees_happened : (old new : Relays A S W) (network : N) (place : ℕ) (what : Happened) (output : Device)
      (result : Result (Option RelayEvent) RelayFault)
      → MatchResult result (StandsTelling did (StoodUntil did old (came.Happened place what)) new output)
      (StopsTelling output) → new.taken ≡ old.taken → IfOk result IsNoShortage
      → MatchResult result (SeesToEnds did ndid (StoodUntil did old (came.Happened place what))
      (came.Happened place what) network network old new output) (StopsTelling output)
  sees_happened old new network place what output (Ok told) (works, stands) taken quiet = record {
    works = works;
    taken = omega (arith, taken);
    tells = quiet;
    done = [];
    added = did_nothing ndid network;
    stands = stands;
  }
  sees_happened old new network place what output (Err why) stops taken quiet = stops

  -- a client has come
  pub sees_client : (old new : Relays A S W) (network after : N) (at : ℕ) (client : S) (held : Option (List ℕ))
      (failed : Bool) (result : Result (Option RelayEvent) RelayFault) → failed ≡ false
      → IfOk result (StandByDeeds did ndid (StoodUntil did old (came.Client at client)) network after new)
      → IfOk result (λ told. new.taken ≡ old.taken + 1) → IfOk result IsNoShortage → IfErr result IsSilentFault
      → MatchResult result (SeesToEnds did ndid (StoodUntil did old (came.Client at client)) (came.Client at client)
      network after old new (record { failed = failed; old = held; new = held }))
      (StopsTelling (record { failed = failed; old = held; new = held }))
  sees_client old new network after at client held failed (Ok told) works stands taken quiet silent =
      sees_by_deeds (StoodUntil did old (came.Client at client)) (came.Client at client) network after old new held
      failed told works taken quiet stands
  sees_client old new network after at client held failed (Err why) works stands taken quiet silent =
      silent_stops held failed why silent works

  -- no client can be taken
  pub sees_full : (old : Relays A S W) (network : N) (why : W) (held : Option (List ℕ)) (failed : Bool)
      → failed ≡ false
      → SeesToEnds did ndid (StoodUntil did old (came.Full why)) (came.Full why) network network old old
      (record { failed = failed; old = held; new = held }) (Some (shortage_told old.there))
  sees_full old network why held failed works = record {
    works = works;
    taken = omega arith;
    tells = refl;
    done = [];
    added = did_nothing ndid network;
    stands = λ tapping all s. (
      [],
      Appends-nil held,
      refl,
      relays_as did tapping old all (told_more all (parts_next (Some (shortage_told old.there))) [])
          (ap (λ (l : List TapPart). all.parts ++ l) (shortage_parts old.there) ∙ append-nil all.parts)
          (append-nil all.done) (full_stands did tapping old why all s),
    );
  }

-- a client who has come is joined to the server
module _ {A S N W : Type 0} (did : S → S → List Deed → Type 0) (ndid : N → N → List (NetworkDeed A W) → Type 0)
    (relays : Relays A S W) (i n : ℕ) (network mid after : N) where
  -- no address was found
  pub joins_none : (new : Relays A S W) (why : W) (told : RelayEvent)
      → HasAdded ndid network after (NotFound relays.server.now why ∷ [])
      → told ≡ event.Ended n relay_end.NoConnection
      → StandsSo did (RelayEndsIn did relays i n relay_end.NoConnection) new
      (Some (event.Ended n relay_end.NoConnection))
      → StandByDeeds did ndid (ComesIn did relays i n) network after new (Some told)
  joins_none new why told added is stands = record {
    done = NotFound relays.server.now why ∷ [];
    added = added;
    stands = λ tapping all h.
        let look : List (NetworkDeed A W) = NotFound relays.server.now why ∷ [] in
        let other : RelaysTold A W = record {
          parts = all.parts;
          done = all.done ++ NotFound tapping.server.now why ∷ [];
        } in
        subst (λ (e : RelayEvent). AreRelays did tapping new (told_more all (parts_next (Some e)) look)) (sym is)
        (relays_as did tapping new (told_more other (EndOf n relay_end.NoConnection ∷ []) [])
        (told_more all (EndOf n relay_end.NoConnection ∷ []) look) refl
        (ap (λ (name : List ℕ). all.done ++ NotFound name why ∷ []) h.others.1.server
        ∙ sym (append-nil (all.done ++ NotFound tapping.server.now why ∷ [])))
        (stands tapping other (join_missed did tapping relays i n why all h)));
  }

  module _ (place : ℕ) (addresses : List A) (got : Dialled A S W)
      (d : HasDialled ndid place relays.time (λ from before. (before ≡ []) × (from ≤ relays.time)) unbound addresses got
      mid after) (within : HasNextAddress got) (fresh : IfDialled got (λ stream. did stream stream [])) where
    -- some were, which are tried
    pub dial_settles : (tapping : Tapping) (all : RelaysTold A W) → place ≡ tapping.at_once + i
        → ComesIn did relays i n tapping all
        → SettlesAt did relays i n got tapping
        (record { parts = all.parts; done = all.done ++ Found tapping.server.now addresses ∷ d.deeds })
    dial_settles tapping all is h = join_settles did tapping relays i n addresses got d.deeds all
        (subst (λ (p : ℕ). AreDeedsOf p d.deeds) is d.own) d.kept within fresh
        (subst (λ (p : ℕ). IsDialled p relays.time relays.time unbound addresses got d.deeds) is
        (d.dialled relays.time [] (refl, omega arith))) h

    pub joins_some : (new : Relays A S W) {E : Type 0} (told : Result (Option RelayEvent) E)
        → HasAdded ndid network mid (Found relays.server.now addresses ∷ [])
        → place ≡ length relays.pairs.items + i
        → IfOk told (λ event. StandsSo did (SettlesAt did relays i n got) new event)
        → IfOk told (StandByDeeds did ndid (ComesIn did relays i n) network after new)
    joins_some new (Err why) found is stands = tt
    joins_some new (Ok event) found is stands = record {
      done = Found relays.server.now addresses ∷ d.deeds;
      added = did_then ndid network mid after (Found relays.server.now addresses ∷ []) d.deeds found d.added;
      stands = λ tapping all h.
          let other : RelaysTold A W = record {
            parts = all.parts;
            done = all.done ++ Found tapping.server.now addresses ∷ d.deeds;
          } in
          relays_as did tapping new (told_more other (parts_next event) [])
          (told_more all (parts_next event) (Found relays.server.now addresses ∷ d.deeds)) refl
          (ap (λ (name : List ℕ). all.done ++ Found name addresses ∷ d.deeds) h.others.1.server
          ∙ sym (append-nil (all.done ++ Found tapping.server.now addresses ∷ d.deeds)))
          (stands tapping other (dial_settles tapping all
          (is ∙ ap (λ (k : ℕ). k + i) h.others.1.pairs.many) h));
    }

-- a connection that is under way was stirred
module _ {A S W : Type 0} (did : S → S → List Deed → Type 0) (tapping : Tapping) where
  pub stirred_within : (old : Relays A S W) (place : ℕ) (all : RelaysTold A W)
      → StoodUntil did old (came.Stirred place) tapping all
      → place < length old.pairs.items + length old.pairs.items
  stirred_within old place all (before, (numbers, b), come) =
      omega (arith, slice_get_within before place AwaitedPlace come.0, b.pairs.places, b.pairs.many)

  pub stirred_at : (old : Relays A S W) (place : ℕ) (e : ℕ × Role) (all : RelaysTold A W)
      → e ≡ end_at (length old.pairs.items) place → StoodUntil did old (came.Stirred place) tapping all
      → (end_place tapping.at_once e.0 e.1 ≡ place) × (e.0 < length old.pairs.items)
  stirred_at old place e all is (before, (numbers, b), come) =
      subst (λ (x : ℕ × Role). (end_place tapping.at_once x.0 x.1 ≡ place) × (x.0 < length old.pairs.items)) (sym is)
      (subst (λ (k : ℕ). (end_place k (end_at (length old.pairs.items) place).0
      (end_at (length old.pairs.items) place).1 ≡ place)
      × ((end_at (length old.pairs.items) place).0 < length old.pairs.items)) b.pairs.many
      (place_back (length old.pairs.items) place
      (stirred_within old place all (before, (numbers, b), come))))

  -- it is that of a client for whom one is to be made
  pub stirred_is : (old : Relays A S W) (place : ℕ) (e : ℕ × Role) (x : Pair A S W) (all : RelaysTold A W)
      → e ≡ end_at (length old.pairs.items) place → slice_get old.pairs.items e.0 ≡ Some x
      → StoodUntil did old (came.Stirred place) tapping all
      → (place ≡ tapping.at_once + e.0) × ((number : ℕ) × (dial : Dial A S W) × (x ≡ pair.Joining number dial))
  stirred_is old place e x all is get (before, (numbers, b), come) =
      let at = stirred_at old place e all is (before, (numbers, b), come) in
      let joining = stirred_joining did tapping before e.0 old.time all.parts all.done e.1 x
      (ap (λ (p : ℕ). slice_get before p) at.0 ∙ come.0)
      (b.pairs.each e.0 x (λ same. omega (arith, at.1, b.pairs.many, same)) get).1 in
      (sym at.0 ∙ ap (λ (r : Role). end_place tapping.at_once e.0 r) joining.0, joining.1)

  pub never_besides : (old : Relays A S W) (place : ℕ) (e : ℕ × Role) (x : Pair A S W) (all : RelaysTold A W)
      → e ≡ end_at (length old.pairs.items) place → slice_get old.pairs.items e.0 ≡ Some x
      → StoodUntil did old (came.Stirred place) tapping all
      → (x ≡ pair.Free) ⊎ ((relay : Relay) × (x ≡ pair.Joined relay)) → ⊥
  never_besides old place e x all is get stood (inl free) =
      let (at, (n, dial, joining)) = stirred_is old place e x all is get stood in
      other_pair x pair.Free (pair.Joining n dial) (λ same. omega (arith, same)) free joining
  never_besides old place e x all is get stood (inr (relay, joined)) =
      let (at, (n, dial, joining)) = stirred_is old place e x all is get stood in
      other_pair x (pair.Joined relay) (pair.Joining n dial) (λ same. omega (arith, same)) joined joining

  pub stirred_settles : (old mid : Relays A S W) (place : ℕ) (e : ℕ × Role) (n : ℕ) (dial : Dial A S W)
      (all : RelaysTold A W) → e ≡ end_at (length old.pairs.items) place
      → slice_get old.pairs.items e.0 ≡ Some (pair.Joining n dial)
      → Becomes old mid old.ends (slice_set old.pairs.items e.0 pair.Free) old.taken old.there
      → StoodUntil did old (came.Stirred place) tapping all → SettlesAt did mid e.0 n (dialled.Waits dial) tapping all
  stirred_settles old mid place e n dial all is get c stood = stir_settles did tapping old mid e.0 n dial all get c
      (subst (λ (p : ℕ). StoodUntil did old (came.Stirred p) tapping all)
      (stirred_is old place e (pair.Joining n dial) all is get stood).0 stood)

-- what has come of it
module _ {A S N W : Type 0} (did : S → S → List Deed → Type 0) (ndid : N → N → List (NetworkDeed A W) → Type 0)
    (old mid : Relays A S W) (place : ℕ) (e : ℕ × Role) (n : ℕ) (dial : Dial A S W) (got : Dialled A S W)
    (network after : N) (d : HasDialled ndid place mid.time (λ from before. IsDialling place from mid.time dial before)
    dial.tries.bounds dial.tries.addresses.items got network after) (within : HasNextAddress got)
    (fresh : IfDialled got (λ stream. did stream stream [])) (is : e ≡ end_at (length old.pairs.items) place)
    (get : slice_get old.pairs.items e.0 ≡ Some (pair.Joining n dial))
    (c : Becomes old mid old.ends (slice_set old.pairs.items e.0 pair.Free) old.taken old.there) where
  pub ask_settles : (tapping : Tapping) (all : RelaysTold A W) → StoodUntil did old (came.Stirred place) tapping all
      → SettlesAt did mid e.0 n got tapping (record { parts = all.parts; done = all.done ++ d.deeds })
  ask_settles tapping all stood =
      let at = (stirred_is did tapping old place e (pair.Joining n dial) all is get stood).0 in
      asked_settles did tapping mid e.0 n dial got d.deeds all (subst (λ (p : ℕ). AreDeedsOf p d.deeds) at d.own)
      d.kept within fresh (λ from before under. subst (λ (p : ℕ). IsDialled p from mid.time dial.tries.bounds
      dial.tries.addresses.items got (before ++ d.deeds)) at (d.dialled from before
      (subst (λ (p : ℕ). IsDialling p from mid.time dial before) (sym at) under)))
      (stirred_settles did tapping old mid place e n dial all is get c stood)

  pub looks_after : (new : Relays A S W) {E : Type 0} (told : Result (Option RelayEvent) E)
      → IfOk told (λ event. StandsSo did (SettlesAt did mid e.0 n got) new event)
      → IfOk told (StandByDeeds did ndid (StoodUntil did old (came.Stirred place)) network after new)
  looks_after new (Err why) stands = tt
  looks_after new (Ok event) stands = record {
    done = d.deeds;
    added = d.added;
    stands = λ tapping all stood.
        let other : RelaysTold A W = record { parts = all.parts; done = all.done ++ d.deeds } in
        relays_as did tapping new (told_more other (parts_next event) []) (told_more all (parts_next event) d.deeds)
        refl (sym (append-nil (all.done ++ d.deeds))) (stands tapping other (ask_settles tapping all stood));
  }

-- a step: what has happened was waited for, and seen to
module _ {A S L N W : Type 0} (did : S → S → List Deed → Type 0) (ldid : L → L → List (AcceptDeed W) → Type 0)
    (ndid : N → N → List (NetworkDeed A W) → Type 0) where
  pub step_goes : (listener later : L) (network after : N) (old mid new : Relays A S W) (event : EndEvent S W)
      (output : Device) (result : Result (Option RelayEvent) RelayFault) → old.time ≤ mid.time
      → mid.style ≡ old.style → mid.server.now ≡ old.server.now → mid.pairs.items ≡ old.pairs.items
      → mid.taken ≡ old.taken → mid.there ≡ old.there → HasComeAmong did old.ends mid.ends event
      → HasHeardThen ldid listener later (heard_by event)
      → MatchResult result (SeesToEnds did ndid (StoodUntil did mid event) event network after mid new output)
      (StopsTelling output)
      → MatchResult result (RelayOn did ldid ndid listener later network after old new output) (StopsTelling output)
  step_goes listener later network after old mid new event output (Ok told) le style server pairs taken there come heard
      sees = step_on did ldid ndid listener later network after old mid new event output told le style server pairs
      taken there come heard sees
  step_goes listener later network after old mid new event output (Err why) le style server pairs taken there come heard
      stops = stops
