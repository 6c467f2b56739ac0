-- Pairs of places of tapped connections: each but one stands as before where something has happened at an end of that,
-- was done for it, or was told of it.
use Rattle.std.proofs.Common.{◌≡◌, ◌∙◌, ◌+◌, ◌≤◌, ◌<◌, ◌⊎◌, ℕ, List, [], ◌∷◌, ◌++◌, Option, Some, ap, sym, refl}
use Rattle.std.proofs.Common.{subst, arith, inl, inr, slice_get, slice_set, append_assoc, append-nil}
use Rattle.std.specs.List.{All}
use Rattle.std.proofs.lemmas.List.Elements.{All-cons, All-head, All-nil, All-tail}
use Rattle.std.proofs.lemmas.Option.{slice_get_within}
use Rattle.ws_wire.specs.declared.role.Role.TheVariants.{Client, Server}
use Rattle.ws_loops.specs.Deeds.{Deed}
use Rattle.ws_loops.proofs.PlaceLemmas.{get_set_other, length_set, set_cases}
use Rattle.ws_networks.specs.Connecting.{IsDialled, IsDialling}
use Rattle.ws_networks.specs.Networks.{NetworkDeed, deeds_at}
use Rattle.ws_networks.specs.Networks.NetworkDeed.{Found}
use Rattle.ws_networks.specs.declared.dialing.Dial.{Dial}
use Rattle.ws_networks.specs.declared.dialing.Dialled.TheVariants as dialled
use Rattle.ws_networks.proofs.ComeLemmas.{deeds_then}
use Rattle.ws_tap.specs.Tapping.{HasTapped}
use Rattle.ws_relays.specs.Connections.{IsRelayedTo, unbound}
use Rattle.ws_relays.specs.EndPlaces.{AwaitedPlace, EndThere, FreePlace, GoOn, GoesOnAs, HeldEnd, KeptPlace}
use Rattle.ws_relays.specs.InnerRelays.{ArePairsStanding, IsPairIn, IsRelayIn, number_of_pair}
use Rattle.ws_relays.specs.Tappings.{HasRelayEnded, TapPart, WasDoneFor, lines_of_number, numbers_of_ends, tapped_in}
use Rattle.ws_relays.specs.declared.relay.Relay.{Relay}
use Rattle.ws_relays.specs.declared.relays.Pair.{Pair}
use Rattle.ws_relays.specs.declared.relays.Pair.TheVariants as pair
use Rattle.ws_relays.specs.declared.relays.RelayEnd.{RelayEnd}
use Rattle.ws_relays.specs.declared.tapping.Tapping.{Tapping}
use Rattle.ws_relays.proofs.RelayNumbers.{IsOther}
use Rattle.ws_relays.proofs.RelaySteps.{goes_on_in, other_in}

-- ---- what the network did, and more

module _ {A W : Type 0} where
  -- what was done for a connection was so, whatever is done behind that
  pub done_more : (at : ℕ) (mine all more : List (NetworkDeed A W)) → WasDoneFor at mine all
      → WasDoneFor at mine (all ++ more)
  done_more at mine all more h = record {
    look = h.look;
    tries = h.tries;
    is = h.is;
    before = h.before;
    after = h.after ++ more;
    parts = ap (λ (l : List (NetworkDeed A W)). l ++ more) h.parts ∙ append_assoc h.before (h.look ∷ h.after) more;
    later = h.later ++ deeds_at at more;
    own = deeds_then at h.after more ∙ (ap (λ (l : List (NetworkDeed A W)). l ++ deeds_at at more) h.own
        ∙ append_assoc h.tries h.later (deeds_at at more));
  }

  -- nothing is done for a place behind this
  pub nothing_more : (at : ℕ) (after more : List (NetworkDeed A W)) → deeds_at at more ≡ []
      → deeds_at at (after ++ more) ≡ deeds_at at after
  nothing_more at after more none = deeds_then at after more
      ∙ (ap (λ (l : List (NetworkDeed A W)). deeds_at at after ++ l) none ∙ append-nil (deeds_at at after))

module _ {A S W : Type 0} where
  later_dial : (at from now later : ℕ) (dial : Dial A S W) (deeds : List (NetworkDeed A W)) → now ≤ later
      → IsDialling at from now dial deeds → IsDialling at from later dial deeds
  later_dial at from now later dial deeds le h = record {
    mid = h.mid;
    tried = h.tried;
    address = h.address;
    asked = h.asked;
    missed = h.missed;
    is = h.is;
    after = h.after;
    before = omega (arith, le, h.before);
    all = h.all;
  }

module _ {S : Type 0} (did : S → S → List Deed → Type 0) where
  -- what stands in a place stays there, where it can't go on
  still : (old new : List (EndThere S)) (at : ℕ) (x : EndThere S) → ((y : EndThere S) → GoesOnAs did x y → y ≡ x)
      → GoOn did old new → slice_get old at ≡ Some x → slice_get new at ≡ Some x
  still old new at x stays on is =
      let (y, get, so) = on.1 at x is in get ∙ ap (λ (z : EndThere S). Some z) (stays y so)

module _ {A S W : Type 0} (did : S → S → List Deed → Type 0) (tapping : Tapping) where
  -- ---- one pair

  -- the ends go on, and so does a pair
  pub pair_on : (old new : List (EndThere S)) (i now later : ℕ) (parts : List TapPart) (done : List (NetworkDeed A W))
      (x : Pair A S W) → GoOn did old new → now ≤ later → IsPairIn did tapping old i now parts done x
      → IsPairIn did tapping new i later parts done x
  pair_on old new i now later parts done pair.Free on le h = (
    still did old new i FreePlace (λ y so. so) on h.0,
    still did old new (tapping.at_once + i) KeptPlace (λ y so. so) on h.1,
  )
  pair_on old new i now later parts done (pair.Joining number dial) on le h =
      let awaited = still did old new (tapping.at_once + i) AwaitedPlace (λ y so. so) on h.0 in
      let s = h.1 in (
        awaited,
        record {
          client = s.client;
          waits = still did old new i (HeldEnd s.client) (λ y so. so) on s.waits;
          new = s.new;
          kept = (AwaitedPlace, awaited, refl);
          silent = s.silent;
          addresses = s.addresses;
          before = s.before;
          after = s.after;
          looked = s.looked;
          from = s.from;
          dialled = later_dial (tapping.at_once + i) s.from now later dial _ le s.dialled;
          tries = s.tries;
          next = s.next;
          fresh = s.fresh;
        },
      )
  pair_on old new i now later parts done (pair.Joined relay) on le h = record {
    told = h.told;
    stands = h.stands;
    client = goes_on_in did Client relay.tap.value h.told old new i on h.client;
    served = goes_on_in did Server relay.tap.value h.told old new (tapping.at_once + i) on h.served;
    mine = h.mine;
    among = h.among;
    made = h.made;
  }

  -- another place is changed
  pub pair_beside : (ends : List (EndThere S)) (p : ℕ) (there : EndThere S) (i now : ℕ) (parts : List TapPart)
      (done : List (NetworkDeed A W)) (x : Pair A S W) → (i ≡ p → ⊥) → (tapping.at_once + i ≡ p → ⊥)
      → IsPairIn did tapping ends i now parts done x → IsPairIn did tapping (slice_set ends p there) i now parts done x
  pair_beside ends p there i now parts done pair.Free far also h = (
    get_set_other ends p i there far ∙ h.0,
    get_set_other ends p (tapping.at_once + i) there also ∙ h.1,
  )
  pair_beside ends p there i now parts done (pair.Joining number dial) far also h =
      let awaited = get_set_other ends p (tapping.at_once + i) there also ∙ h.0 in
      let s = h.1 in (
        awaited,
        record {
          client = s.client;
          waits = get_set_other ends p i there far ∙ s.waits;
          new = s.new;
          kept = (AwaitedPlace, awaited, refl);
          silent = s.silent;
          addresses = s.addresses;
          before = s.before;
          after = s.after;
          looked = s.looked;
          from = s.from;
          dialled = s.dialled;
          tries = s.tries;
          next = s.next;
          fresh = s.fresh;
        },
      )
  pair_beside ends p there i now parts done (pair.Joined relay) far also h = record {
    told = h.told;
    stands = h.stands;
    client = other_in did Client relay.tap.value h.told ends p i there far h.client;
    served = other_in did Server relay.tap.value h.told ends p (tapping.at_once + i) there also h.served;
    mine = h.mine;
    among = h.among;
    made = h.made;
  }

  -- of another one something is told, or done for another place
  pub relay_told : (ends : List (EndThere S)) (i : ℕ) (relay : Relay) (parts after : List TapPart)
      (done more : List (NetworkDeed A W)) → lines_of_number relay.number after ≡ lines_of_number relay.number parts
      → IsRelayIn did tapping ends i relay parts done → IsRelayIn did tapping ends i relay after (done ++ more)
  relay_told ends i relay parts after done more lines h = record {
    told = h.told;
    stands = subst (λ (l : List ℕ). HasTapped (tapped_in tapping.style relay.number) h.told relay.tap.value l)
        (sym lines) h.stands;
    client = h.client;
    served = h.served;
    mine = h.mine;
    among = done_more (tapping.at_once + i) h.mine done more h.among;
    made = h.made;
  }

  pub pair_told : (ends : List (EndThere S)) (i now : ℕ) (parts after : List TapPart)
      (done more : List (NetworkDeed A W)) (x : Pair A S W)
      → ((n : ℕ) → number_of_pair x ≡ Some n → lines_of_number n after ≡ lines_of_number n parts)
      → deeds_at (tapping.at_once + i) more ≡ [] → IsPairIn did tapping ends i now parts done x
      → IsPairIn did tapping ends i now after (done ++ more) x
  pair_told ends i now parts after done more pair.Free lines none h = h
  pair_told ends i now parts after done more (pair.Joining number dial) lines none h =
      let s = h.1 in (
        h.0,
        record {
          client = s.client;
          waits = s.waits;
          new = s.new;
          kept = s.kept;
          silent = lines number refl ∙ s.silent;
          addresses = s.addresses;
          before = s.before;
          after = s.after ++ more;
          looked = ap (λ (l : List (NetworkDeed A W)). l ++ more) s.looked
              ∙ append_assoc s.before (Found tapping.server.now s.addresses ∷ s.after) more;
          from = s.from;
          dialled = subst (λ (l : List (NetworkDeed A W)). IsDialled (tapping.at_once + i) s.from now unbound
              s.addresses (dialled.Waits dial) l) (sym (nothing_more (tapping.at_once + i) s.after more none))
              s.dialled;
          tries = s.tries;
          next = s.next;
          fresh = s.fresh;
        },
      )
  pair_told ends i now parts after done more (pair.Joined relay) lines none h =
      relay_told ends i relay parts after done more (lines relay.number refl) h

  -- ---- all of them, but one

  -- all go on
  pub pairs_on : (old new : List (EndThere S)) (now later : ℕ) (pairs : List (Pair A S W)) (but : ℕ)
      (numbers : List (Option ℕ)) (parts : List TapPart) (done : List (NetworkDeed A W)) → GoOn did old new
      → now ≤ later → ArePairsStanding did tapping old now pairs but numbers parts done
      → ArePairsStanding did tapping new later pairs but numbers parts done
  pairs_on old new now later pairs but numbers parts done on le h = record {
    many = h.many;
    places = on.0 ∙ h.places;
    room = h.room;
    each = λ j x far get. (
      (h.each j x far get).0,
      pair_on old new j now later parts done x on le (h.each j x far get).1,
    );
  }

  -- where all stand, all but one do
  pub pairs_but : (ends : List (EndThere S)) (now : ℕ) (pairs : List (Pair A S W)) (i : ℕ)
      (numbers : List (Option ℕ)) (parts : List TapPart) (done : List (NetworkDeed A W))
      → ArePairsStanding did tapping ends now pairs tapping.at_once numbers parts done
      → ArePairsStanding did tapping ends now pairs i numbers parts done
  pairs_but ends now pairs i numbers parts done h = record {
    many = h.many;
    places = h.places;
    room = h.room;
    each = λ j x far get. h.each j x (λ same. omega (arith, slice_get_within pairs j x get, h.many, same)) get;
  }

  -- a place of this one is changed
  pub pairs_set : (ends : List (EndThere S)) (p : ℕ) (there : EndThere S) (now : ℕ) (pairs : List (Pair A S W))
      (i : ℕ) (numbers : List (Option ℕ)) (parts : List TapPart) (done : List (NetworkDeed A W))
      → i < tapping.at_once → (p ≡ i) ⊎ (p ≡ tapping.at_once + i)
      → ArePairsStanding did tapping ends now pairs i numbers parts done
      → ArePairsStanding did tapping (slice_set ends p there) now pairs i numbers parts done
  pairs_set ends p there now pairs i numbers parts done lt own h = record {
    many = h.many;
    places = length_set ends p there ∙ h.places;
    room = h.room;
    each = λ j x far get. (
      (h.each j x far get).0,
      pair_beside ends p there j now parts done x
          (client_apart own j far (omega (arith, slice_get_within pairs j x get, h.many)))
          (server_apart own j far (omega (arith, slice_get_within pairs j x get, h.many))) (h.each j x far get).1,
    );
  }
    where
      client_apart : (p ≡ i) ⊎ (p ≡ tapping.at_once + i) → (j : ℕ) → (j ≡ i → ⊥) → j < tapping.at_once → j ≡ p → ⊥
      client_apart (inl is) j far below same = far (same ∙ is)
      client_apart (inr is) j far below same = omega (arith, below, same, is)

      server_apart : (p ≡ i) ⊎ (p ≡ tapping.at_once + i) → (j : ℕ) → (j ≡ i → ⊥) → j < tapping.at_once
          → tapping.at_once + j ≡ p → ⊥
      server_apart (inl is) j far below same = omega (arith, lt, same, is)
      server_apart (inr is) j far below same = far (omega (arith, same, is))

  -- something is told of this one, or done for it
  pub pairs_told : (ends : List (EndThere S)) (now : ℕ) (pairs : List (Pair A S W)) (i : ℕ)
      (numbers : List (Option ℕ)) (parts after : List TapPart) (done more : List (NetworkDeed A W))
      → ((j n : ℕ) → (j ≡ i → ⊥) → slice_get numbers j ≡ Some (Some n)
      → lines_of_number n after ≡ lines_of_number n parts)
      → ((j : ℕ) → (j ≡ i → ⊥) → deeds_at (tapping.at_once + j) more ≡ [])
      → ArePairsStanding did tapping ends now pairs i numbers parts done
      → ArePairsStanding did tapping ends now pairs i numbers after (done ++ more)
  pairs_told ends now pairs i numbers parts after done more lines none h = record {
    many = h.many;
    places = h.places;
    room = h.room;
    each = λ j x far get. (
      (h.each j x far get).0,
      pair_told ends j now parts after done more x (λ n is. lines j n far ((h.each j x far get).0
          ∙ ap (λ (o : Option ℕ). Some o) is)) (none j far) (h.each j x far get).1,
    );
  }

  -- whatever it is
  pub pairs_out : (ends : List (EndThere S)) (now : ℕ) (pairs : List (Pair A S W)) (i : ℕ)
      (numbers after : List (Option ℕ)) (parts : List TapPart) (done : List (NetworkDeed A W)) (x : Pair A S W)
      → ((j : ℕ) → (j ≡ i → ⊥) → slice_get after j ≡ slice_get numbers j)
      → ArePairsStanding did tapping ends now pairs i numbers parts done
      → ArePairsStanding did tapping ends now (slice_set pairs i x) i after parts done
  pairs_out ends now pairs i numbers after parts done x others h = record {
    many = length_set pairs i x ∙ h.many;
    places = h.places;
    room = h.room;
    each = λ j y far get. by j y far (h.each j y far (sym (get_set_other pairs i j x far) ∙ get));
  }
    where
      by : (j : ℕ) (y : Pair A S W) → (j ≡ i → ⊥) → (slice_get numbers j ≡ Some (number_of_pair y))
          × IsPairIn did tapping ends j now parts done y → (slice_get after j ≡ Some (number_of_pair y))
          × IsPairIn did tapping ends j now parts done y
      by j y far stood = (others j far ∙ stood.0, stood.1)

  -- this one stands too
  pub pairs_back : (ends : List (EndThere S)) (now : ℕ) (pairs : List (Pair A S W)) (i : ℕ)
      (numbers after : List (Option ℕ)) (parts : List TapPart) (done : List (NetworkDeed A W)) (x : Pair A S W)
      → ((j : ℕ) → (j ≡ i → ⊥) → slice_get after j ≡ slice_get numbers j)
      → slice_get after i ≡ Some (number_of_pair x) → IsPairIn did tapping ends i now parts done x
      → ArePairsStanding did tapping ends now pairs i numbers parts done
      → ArePairsStanding did tapping ends now (slice_set pairs i x) tapping.at_once after parts done
  pairs_back ends now pairs i numbers after parts done x others own stands h = record {
    many = length_set pairs i x ∙ h.many;
    places = h.places;
    room = h.room;
    each = λ j y far get. by j y (set_cases pairs i x j y get);
  }
    where
      by : (j : ℕ) (y : Pair A S W) → ((j ≡ i) × (y ≡ x)) ⊎ ((j ≡ i → ⊥) × (slice_get pairs j ≡ Some y))
          → (slice_get after j ≡ Some (number_of_pair y)) × IsPairIn did tapping ends j now parts done y
      by j y (inl (here, same)) =
          subst (λ (z : Pair A S W). (slice_get after j ≡ Some (number_of_pair z))
          × IsPairIn did tapping ends j now parts done z) (sym same)
          (subst (λ (k : ℕ). (slice_get after k ≡ Some (number_of_pair x))
          × IsPairIn did tapping ends k now parts done x) (sym here) (own, stands))
      by j y (inr (far, get)) = (others j far ∙ (h.each j y far get).0, (h.each j y far get).1)

  -- ---- the ends that were told

  pub relay_ended_on : (parts after : List TapPart) (done more : List (NetworkDeed A W)) (n : ℕ) (end : RelayEnd)
      → lines_of_number n after ≡ lines_of_number n parts → HasRelayEnded did tapping done parts n end
      → HasRelayEnded did tapping (done ++ more) after n end
  relay_ended_on parts after done more n end lines h = record {
    at = h.at;
    mine = h.mine;
    among = done_more h.at h.mine done more h.among;
    relayed = subst (λ (l : List ℕ). IsRelayedTo did tapping.server.now (tapped_in tapping.style n) h.at h.mine l end)
        (sym lines) h.relayed;
  }

  pub ends_on : (n : ℕ) (parts after : List TapPart) (done more : List (NetworkDeed A W))
      (ends : List (ℕ × RelayEnd)) → ((m : ℕ) → (m ≡ n → ⊥) → lines_of_number m after ≡ lines_of_number m parts)
      → All (IsOther n) (numbers_of_ends ends) → All (λ end. HasRelayEnded did tapping done parts end.0 end.1) ends
      → All (λ end. HasRelayEnded did tapping (done ++ more) after end.0 end.1) ends
  ends_on n parts after done more [] lines far all =
      All-nil (λ (end : ℕ × RelayEnd). HasRelayEnded did tapping (done ++ more) after end.0 end.1)
  ends_on n parts after done more (end ∷ ends) lines far all =
      All-cons (λ (e : ℕ × RelayEnd). HasRelayEnded did tapping (done ++ more) after e.0 e.1) end ends
      (relay_ended_on parts after done more end.0 end.1
      (lines end.0 (All-head (IsOther n) end.0 (numbers_of_ends ends) far))
      (All-head (λ (e : ℕ × RelayEnd). HasRelayEnded did tapping done parts e.0 e.1) end ends all))
      (ends_on n parts after done more ends lines (All-tail (IsOther n) end.0 (numbers_of_ends ends) far)
      (All-tail (λ (e : ℕ × RelayEnd). HasRelayEnded did tapping done parts e.0 e.1) end ends all))
