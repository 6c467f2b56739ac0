-- What is done with a pair of places: whatever stood before, all stands behind that.
use Rattle.std.proofs.Common.{◌≡◌, ◌∙◌, ◌+◌, ◌-◌, ◌<◌, ◌⊎◌, ℕ, true, List, [], ◌∷◌, ◌++◌, length}
use Rattle.std.proofs.Common.{Option, None, Some, ap, sym, refl, subst, arith, inl, inr, slice_set}
use Rattle.std.proofs.Common.{◌^◌, append_assoc, append-nil}
use Rattle.std.specs.List.{All}
use Rattle.std.proofs.lemmas.List.Elements.{All-push, All-weaker}
use Rattle.std.proofs.lemmas.Option.{slice_get_within}
use Rattle.ws_wire.specs.declared.role.Role.{Role}
use Rattle.ws_wire.specs.declared.role.Role.TheVariants.{Client, Server}
use Rattle.ws_loops.specs.Deeds.{Deed}
use Rattle.ws_loops.proofs.PlaceLemmas.{get_set_other, get_set_same, length_set, set_same}
use Rattle.ws_networks.specs.Connecting.{HasNextAddress, IfDialled, IsDialled, IsDialling}
use Rattle.ws_networks.specs.Connecting.{KeepsTries}
use Rattle.ws_networks.specs.Networks.{AreDeedsOf, NetworkDeed, deeds_at}
use Rattle.ws_networks.specs.Networks.NetworkDeed.{Found, NotFound}
use Rattle.ws_networks.specs.declared.dialing.Dial.{Dial}
use Rattle.ws_networks.specs.declared.dialing.Dialled.{Dialled}
use Rattle.ws_networks.specs.declared.dialing.Dialled.TheVariants as dialled
use Rattle.ws_networks.specs.declared.dialing.Missed.{Missed}
use Rattle.ws_networks.specs.declared.dialing.Missed.TheVariants as miss
use Rattle.ws_networks.proofs.ComeLemmas.{deeds_other, deeds_own, deeds_then}
use Rattle.ws_tap.specs.Tapping.{HasTapped}
use Rattle.ws_tap.specs.declared.tap.Tap.{Tap}
use Rattle.ws_tap.specs.declared.tapped.Tapped.{Tapped}
use Rattle.ws_tap.specs.Told.{TapTold}
use Rattle.ws_relays.specs.Connections.{unbound}
use Rattle.ws_relays.specs.EndPlaces.{AskedEnd, AwaitedPlace, EndThere, FreePlace, HasEndAt, HeldEnd, IsAskedNow}
use Rattle.ws_relays.specs.EndPlaces.{KeptPlace, LostEnd, is_end_there}
use Rattle.ws_relays.specs.InnerRelays.{AsksEnd, AreRelays, AreRelaysBut, ArePairsStanding, AreRelayNumbers, ComesIn}
use Rattle.ws_relays.specs.InnerRelays.{IsOpenAt}
use Rattle.ws_relays.specs.InnerRelays.{IsPairIn, IsRelayIn, IsSettlingIn, IsTappedIn, RelayEndsIn, RelaysTold}
use Rattle.ws_relays.specs.InnerRelays.{SettlesAt, number_of_pair, told_more}
use Rattle.ws_relays.specs.Relayed.{IsAskFor}
use Rattle.ws_relays.specs.TappedEnds.{IsTappedAs, IsTappedEndIn}
use Rattle.ws_relays.specs.Tappings.{EndOf, HasRelayEnded, LinesOf, TapPart, WasDoneFor, ends_of_parts, lines_of_number}
use Rattle.ws_relays.specs.Tappings.{tapped_in}
use Rattle.ws_relays.specs.declared.ends.Ask.{Ask}
use Rattle.ws_relays.specs.declared.relay.Relay.{Relay}
use Rattle.ws_relays.specs.declared.relays.Pair.{Pair}
use Rattle.ws_relays.specs.declared.relays.Pair.TheVariants as pair
use Rattle.ws_relays.specs.declared.relays.RelayEnd.{RelayEnd}
use Rattle.ws_relays.specs.declared.relays.RelayEnd.TheVariants as relay_end
use Rattle.ws_relays.specs.declared.relays.Relays.{Relays}
use Rattle.ws_relays.specs.declared.tapping.Tapping.{Tapping}
use Rattle.ws_relays.proofs.PairLemmas.{ends_on, pairs_back, pairs_set, pairs_told, relay_ended_on}
use Rattle.ws_relays.proofs.RelayLemmas.{end_begun}
use Rattle.ws_relays.proofs.RelayNumbers.{ends_lines, ends_then, lines_end, lines_other}
use Rattle.ws_relays.proofs.RelayNumbers.{numbers_ended, numbers_lines}
use Rattle.ws_relays.proofs.RelaySteps.{asked_in, other_in}

-- ---- how relays change

-- these are what they were, but for this
pub record Becomes {A S W : Type 0} (old new : Relays A S W) (e : List (EndThere S)) (p : List (Pair A S W))
    (t u : ℕ) : Type 0 where
  pub style : new.style ≡ old.style
  pub server : new.server.now ≡ old.server.now
  pub time : new.time ≡ old.time
  pub ends : new.ends ≡ e
  pub pairs : new.pairs.items ≡ p
  pub taken : new.taken ≡ t
  pub there : new.there ≡ u

module _ {S : Type 0} (did : S → S → List Deed → Type 0) where
  -- ---- what is asked of the ends of one that is tapped

  pub asks_some : (relay : Relay) (role : Role) (old new : List (EndThere S)) (place : ℕ) (ask : Ask)
      → IsAskFor role relay (Some ask) → IsAskedNow did old new place ask → AsksEnd did old new place role relay
  asks_some relay role old new place ask asked now = record {
    there = now.after;
    is = now.is;
    own = λ told e. asked_in did role relay told old new place ask asked now e;
  }

  pub asks_none : (relay : Relay) (role : Role) (ends : List (EndThere S)) (place : ℕ)
      → HasEndAt ends place true → AsksEnd did ends ends place role relay
  asks_none relay role ends place (there, get, is) = record {
    there = there;
    is = sym (set_same ends place there get);
    own = λ told e. e;
  }

  end_there_is : (role : Role) (tap : Tap) (told : List TapTold) (x : EndThere S) → IsTappedAs did role tap told x
      → is_end_there x ≡ true
  end_there_is role tap told FreePlace h = absurd h
  end_there_is role tap told KeptPlace h = absurd h
  end_there_is role tap told AwaitedPlace h = absurd h
  end_there_is role tap told (AskedEnd slot) h = refl
  end_there_is role tap told (HeldEnd stream) h = refl
  end_there_is role tap told LostEnd h = refl

  pub end_in : (role : Role) (tap : Tap) (told : List TapTold) (ends : List (EndThere S)) (p : ℕ)
      → IsTappedEndIn did role tap told ends p → HasEndAt ends p true
  end_in role tap told ends p (there, get, h) = (there, get, end_there_is role tap told there h)

module _ {A S W : Type 0} (did : S → S → List Deed → Type 0) (tapping : Tapping) where
  pub become : (old new : Relays A S W) (ends : List (EndThere S)) (pairs : List (Pair A S W)) (taken there : ℕ)
      (but : ℕ) (numbers : List (Option ℕ)) (all : RelaysTold A W) → Becomes old new ends pairs taken there
      → old.style ≡ tapping.style → old.server.now ≡ tapping.server.now
      → ArePairsStanding did tapping ends old.time pairs but numbers all.parts all.done
      → AreRelayNumbers tapping.at_once taken there numbers all.parts
      → All (λ end. HasRelayEnded did tapping all.done all.parts end.0 end.1) (ends_of_parts all.parts)
      → AreRelaysBut did tapping new but numbers all
  become old new ends pairs taken there but numbers all c style server stand numbered ends_so = record {
    style = c.style ∙ style;
    server = c.server ∙ server;
    pairs = subst (λ (e : List (EndThere S)). ArePairsStanding did tapping e new.time new.pairs.items but numbers
        all.parts all.done) (sym c.ends) (subst (λ (n : ℕ). ArePairsStanding did tapping ends n new.pairs.items but
        numbers all.parts all.done) (sym c.time) (subst (λ (p : List (Pair A S W)). ArePairsStanding did tapping ends
        old.time p but numbers all.parts all.done) (sym c.pairs) stand));
    numbered = subst (λ (t : ℕ). AreRelayNumbers tapping.at_once t new.there numbers all.parts) (sym c.taken)
        (subst (λ (t : ℕ). AreRelayNumbers tapping.at_once taken t numbers all.parts) (sym c.there) numbered);
    ends_so = ends_so;
  }

  -- the same was told
  but_as : (relays : Relays A S W) (but : ℕ) (numbers : List (Option ℕ)) (all other : RelaysTold A W)
      → other.parts ≡ all.parts → other.done ≡ all.done → AreRelaysBut did tapping relays but numbers all
      → AreRelaysBut did tapping relays but numbers other
  but_as relays but numbers all other parts done h = record {
    style = h.style;
    server = h.server;
    pairs = subst (λ (p : List TapPart). ArePairsStanding did tapping relays.ends relays.time relays.pairs.items but
        numbers p other.done) (sym parts) (subst (λ (d : List (NetworkDeed A W)). ArePairsStanding did tapping
        relays.ends relays.time relays.pairs.items but numbers all.parts d) (sym done) h.pairs);
    numbered = subst (λ (p : List TapPart). AreRelayNumbers tapping.at_once relays.taken relays.there numbers p)
        (sym parts) h.numbered;
    ends_so = subst (λ (p : List TapPart). All (λ end. HasRelayEnded did tapping other.done p end.0 end.1)
        (ends_of_parts p)) (sym parts) (subst (λ (d : List (NetworkDeed A W)). All (λ end.
        HasRelayEnded did tapping d all.parts end.0 end.1) (ends_of_parts all.parts)) (sym done) h.ends_so);
  }

  pub relays_as : (relays : Relays A S W) (all other : RelaysTold A W) → other.parts ≡ all.parts
      → other.done ≡ all.done → AreRelays did tapping relays all → AreRelays did tapping relays other
  relays_as relays all other parts done (numbers, h) =
      (numbers, but_as relays tapping.at_once numbers all other parts done h)

  -- a place in which something goes on for somebody is one of them
  pub open_within : (relays : Relays A S W) (i n : ℕ) (all : RelaysTold A W)
      → IsOpenAt did tapping relays i n all → i < tapping.at_once
  open_within relays i n all (numbers, b, is) = omega (arith, slice_get_within numbers i (Some n) is, b.numbered.len)

  -- lines of the client in this place are told
  pub open_lines : (relays : Relays A S W) (i n : ℕ) (text : List ℕ) (all : RelaysTold A W)
      → IsOpenAt did tapping relays i n all → IsOpenAt did tapping relays i n (told_more all (LinesOf n text ∷ []) [])
  open_lines relays i n text all (numbers, b, is) =
      let after = all.parts ++ LinesOf n text ∷ [] in
      let given = b.numbered.given i n is in (
        numbers,
        record {
          style = b.style;
          server = b.server;
          pairs = pairs_told did tapping relays.ends relays.time relays.pairs.items i numbers all.parts after all.done
              []
              (λ j m far get. lines_other m n all.parts text (λ same. far (b.numbered.apart j i m get
              (is ∙ ap (λ (k : ℕ). Some (Some k)) same)))) (λ j far. refl) b.pairs;
          numbered = numbers_lines tapping.at_once relays.taken relays.there numbers all.parts b.numbered i n text is;
          ends_so = subst (λ (l : List (ℕ × RelayEnd)). All (λ end. HasRelayEnded did tapping (all.done ++ []) after
              end.0 end.1) l) (sym (ends_lines all.parts n text)) (ends_on did tapping n all.parts after all.done []
              (ends_of_parts all.parts) (λ m far. lines_other m n all.parts text (λ same. far (sym same))) given.2
              b.ends_so);
        },
        is,
      )

  -- the network did something for the client in this place, or looked a name up
  pub open_done : (relays : Relays A S W) (i n : ℕ) (more : List (NetworkDeed A W)) (all : RelaysTold A W)
      → ((j : ℕ) → (j ≡ i → ⊥) → deeds_at (tapping.at_once + j) more ≡ []) → IsOpenAt did tapping relays i n all
      → IsOpenAt did tapping relays i n (record { parts = all.parts; done = all.done ++ more })
  open_done relays i n more all none (numbers, b, is) = (
    numbers,
    record {
      style = b.style;
      server = b.server;
      pairs = pairs_told did tapping relays.ends relays.time relays.pairs.items i numbers all.parts all.parts all.done
          more (λ j m far get. refl) none b.pairs;
      numbered = b.numbered;
      ends_so = All-weaker (λ (end : ℕ × RelayEnd). HasRelayEnded did tapping all.done all.parts end.0 end.1)
          (λ (end : ℕ × RelayEnd). HasRelayEnded did tapping (all.done ++ more) all.parts end.0 end.1)
          (λ end h. relay_ended_on did tapping all.parts all.parts all.done more end.0 end.1 refl h)
          (ends_of_parts all.parts) b.ends_so;
    },
    is,
  )

  -- a place of it is changed
  pub open_set : (old new : Relays A S W) (i n p : ℕ) (there : EndThere S) (all : RelaysTold A W)
      → (p ≡ i) ⊎ (p ≡ tapping.at_once + i)
      → Becomes old new (slice_set old.ends p there) old.pairs.items old.taken old.there
      → IsOpenAt did tapping old i n all → IsOpenAt did tapping new i n all
  open_set old new i n p there all own c (numbers, b, is) = (
    numbers,
    become old new (slice_set old.ends p there) old.pairs.items old.taken old.there i numbers all c b.style b.server
        (pairs_set did tapping old.ends p there old.time old.pairs.items i numbers all.parts all.done
        (open_within old i n all (numbers, b, is)) own b.pairs) b.numbered b.ends_so,
    is,
  )

  -- its pair stands too
  pub open_back : (old new : Relays A S W) (i n : ℕ) (x : Pair A S W) (all : RelaysTold A W)
      → number_of_pair x ≡ Some n
      → Becomes old new old.ends (slice_set old.pairs.items i x) old.taken old.there
      → IsPairIn did tapping old.ends i old.time all.parts all.done x → IsOpenAt did tapping old i n all
      → AreRelays did tapping new (told_more all [] [])
  open_back old new i n x all number c stands (numbers, b, is) = relays_as new all (told_more all [] [])
      (append-nil all.parts) (append-nil all.done) (
        numbers,
        become old new old.ends (slice_set old.pairs.items i x) old.taken old.there tapping.at_once numbers all c
            b.style b.server (pairs_back did tapping old.ends old.time old.pairs.items i numbers numbers all.parts
            all.done x (λ j far. refl) (is ∙ ap (λ (o : Option ℕ). Some o) (sym number)) stands b.pairs) b.numbered
            b.ends_so,
      )

  -- ---- the end of a connection

  pub end_stands : (old new : Relays A S W) (i n : ℕ) (end : RelayEnd) (all : RelaysTold A W)
      → Becomes old new (slice_set (slice_set old.ends (tapping.at_once + i) KeptPlace) i FreePlace)
      (slice_set old.pairs.items i pair.Free) old.taken (old.there - 1) → RelayEndsIn did old i n end tapping all
      → AreRelays did tapping new (told_more all (EndOf n end ∷ []) [])
  end_stands old new i n end all c ((numbers, b, is), e) =
      let len = tapping.at_once in
      let lt : i < len = open_within old i n all (numbers, b, is) in
      let kept = slice_set old.ends (len + i) KeptPlace in
      let ends = slice_set kept i FreePlace in
      let after = all.parts ++ EndOf n end ∷ [] in
      let given = b.numbered.given i n is in
      let one = pairs_set did tapping old.ends (len + i) KeptPlace old.time old.pairs.items i numbers all.parts all.done
      lt (inr refl) b.pairs in
      let two = pairs_set did tapping kept i FreePlace old.time old.pairs.items i numbers all.parts all.done lt (inl refl)
      one in
      let told = pairs_told did tapping ends old.time old.pairs.items i numbers all.parts after all.done []
      (λ j m far get. lines_end m n all.parts end) (λ j far. refl) two in (
        slice_set numbers i None,
        become old new ends (slice_set old.pairs.items i pair.Free) old.taken (old.there - 1) len
            (slice_set numbers i None) (told_more all (EndOf n end ∷ []) []) c b.style b.server
            (pairs_back did tapping ends old.time old.pairs.items i numbers (slice_set numbers i None) after
            (all.done ++ []) pair.Free (λ j far. get_set_other numbers i j None far)
            (get_set_same numbers i None (slice_get_within numbers i (Some n) is)) (
              get_set_same kept i FreePlace (omega (arith, one.places, lt)),
              get_set_other kept i (len + i) FreePlace (λ same. omega (arith, lt, same))
                  ∙ get_set_same old.ends (len + i) KeptPlace (omega (arith, b.pairs.places, lt)),
            ) told)
            (numbers_ended len old.taken old.there numbers all.parts b.numbered i n end is)
            (subst (λ (l : List (ℕ × RelayEnd)). All (λ x. HasRelayEnded did tapping (all.done ++ []) after x.0 x.1) l)
            (sym (ends_then all.parts (EndOf n end ∷ []))) (All-push (λ (x : ℕ × RelayEnd).
            HasRelayEnded did tapping (all.done ++ []) after x.0 x.1) (ends_of_parts all.parts) (n, end)
            (ends_on did tapping n all.parts after all.done [] (ends_of_parts all.parts)
            (λ m far. lines_end m n all.parts end) given.2 b.ends_so)
            (relay_ended_on did tapping all.parts after all.done [] n end (lines_end n n all.parts end) e))),
      )

  -- ---- what came of a connection to the server

  -- what was done for it
  settled_for : (ends : List (EndThere S)) (i now n : ℕ) (came : Dialled A S W) (parts : List TapPart)
      (done : List (NetworkDeed A W)) (s : IsSettlingIn did tapping ends i now n came parts done)
      → WasDoneFor (tapping.at_once + i) (Found tapping.server.now s.addresses
      ∷ deeds_at (tapping.at_once + i) s.after) done
  settled_for ends i now n came parts done s = record {
    look = Found tapping.server.now s.addresses;
    tries = deeds_at (tapping.at_once + i) s.after;
    is = refl;
    before = s.before;
    after = s.after;
    parts = s.looked;
    later = [];
    own = sym (append-nil (deeds_at (tapping.at_once + i) s.after));
  }

  -- none was made
  pub settle_missed : (relays : Relays A S W) (i n : ℕ) (why : Missed W) (all : RelaysTold A W)
      → SettlesAt did relays i n (dialled.Missed why) tapping all
      → RelayEndsIn did relays i n relay_end.NoConnection tapping all
  settle_missed relays i n why all (others, s) = (
    others,
    record {
      at = tapping.at_once + i;
      mine = Found tapping.server.now s.addresses ∷ deeds_at (tapping.at_once + i) s.after;
      among = settled_for relays.ends i relays.time n (dialled.Missed why) all.parts all.done s;
      relayed = (
        (s.from, relays.time, why, inr (s.addresses, deeds_at (tapping.at_once + i) s.after, refl, s.dialled)),
        s.silent,
      );
    },
  )

  -- one is under way
  pub settle_waits : (old new : Relays A S W) (i n : ℕ) (dial : Dial A S W) (all : RelaysTold A W)
      → Becomes old new (slice_set old.ends (tapping.at_once + i) AwaitedPlace)
      (slice_set old.pairs.items i (pair.Joining n dial)) old.taken old.there
      → SettlesAt did old i n (dialled.Waits dial) tapping all → AreRelays did tapping new (told_more all [] [])
  settle_waits old new i n dial all c ((numbers, b, is), s) =
      let len = tapping.at_once in
      let lt : i < len = open_within old i n all (numbers, b, is) in
      let ends = slice_set old.ends (len + i) AwaitedPlace in
      let awaited = get_set_same old.ends (len + i) AwaitedPlace (omega (arith, b.pairs.places, lt)) in
      relays_as new all (told_more all [] []) (append-nil all.parts) (append-nil all.done) (
        numbers,
        become old new ends (slice_set old.pairs.items i (pair.Joining n dial)) old.taken old.there len numbers all c
            b.style b.server (pairs_back did tapping ends old.time old.pairs.items i numbers numbers all.parts all.done
            (pair.Joining n dial) (λ j far. refl) is (
              awaited,
              record {
                client = s.client;
                waits = get_set_other old.ends (len + i) i AwaitedPlace (λ same. omega (arith, lt, same)) ∙ s.waits;
                new = s.new;
                kept = (AwaitedPlace, awaited, refl);
                silent = s.silent;
                addresses = s.addresses;
                before = s.before;
                after = s.after;
                looked = s.looked;
                from = s.from;
                dialled = s.dialled;
                tries = s.tries;
                next = s.next;
                fresh = s.fresh;
              },
            ) (pairs_set did tapping old.ends (len + i) AwaitedPlace old.time old.pairs.items i numbers all.parts
            all.done lt (inr refl) b.pairs)) b.numbered b.ends_so,
      )

  -- one was made: it is tapped
  pub settle_made : (old mid : Relays A S W) (i n : ℕ) (server : S) (relay : Relay) (tapped : Tapped)
      (all : RelaysTold A W)
      → Becomes old mid (slice_set old.ends (tapping.at_once + i) (HeldEnd server)) old.pairs.items old.taken old.there
      → tapped ≡ tapped_in old.style n → relay.number ≡ n → HasTapped tapped [] relay.tap.value []
      → SettlesAt did old i n (dialled.Made server) tapping all → IsTappedIn did mid i relay tapping all
  settle_made old mid i n server relay tapped all c is number begun (others, s) =
      let len = tapping.at_once in
      let lt : i < len = open_within old i n all others in
      let b = others.1 in
      let ends = slice_set old.ends (len + i) (HeldEnd server) in (
        subst (λ (k : ℕ). IsOpenAt did tapping mid i k all) (sym number)
            (open_set old mid i n (len + i) (HeldEnd server) all (inr refl) c others),
        subst (λ (e : List (EndThere S)). IsRelayIn did tapping e i relay all.parts all.done) (sym c.ends) (record {
          told = [];
          stands = subst (λ (t : Tapped). HasTapped t [] relay.tap.value (lines_of_number relay.number all.parts))
              (is ∙ (ap (λ (style : _). tapped_in style n) b.style ∙ ap (λ (k : ℕ). tapped_in tapping.style k)
              (sym number))) (subst (λ (l : List ℕ). HasTapped tapped [] relay.tap.value l)
              (sym (ap (λ (k : ℕ). lines_of_number k all.parts) number ∙ s.silent)) begun);
          client = (
            HeldEnd s.client,
            get_set_other old.ends (len + i) i (HeldEnd server) (λ same. omega (arith, lt, same)) ∙ s.waits,
            end_begun did Client relay.tap.value s.client s.new,
          );
          served = (
            HeldEnd server,
            get_set_same old.ends (len + i) (HeldEnd server) (omega (arith, b.pairs.places, lt)),
            end_begun did Server relay.tap.value server s.fresh,
          );
          mine = Found tapping.server.now s.addresses ∷ deeds_at (len + i) s.after;
          among = settled_for old.ends i old.time n (dialled.Made server) all.parts all.done s;
          made = (s.from, old.time, inr (s.addresses, deeds_at (len + i) s.after, refl, s.dialled));
        }),
      )

  -- ---- a client who has come is joined to the server

  -- nothing is done for other places
  none_beside : (i : ℕ) (deeds : List (NetworkDeed A W)) → AreDeedsOf (tapping.at_once + i) deeds → (j : ℕ)
      → (j ≡ i → ⊥) → deeds_at (tapping.at_once + j) deeds ≡ []
  none_beside i deeds own j far =
      deeds_other (tapping.at_once + i) (tapping.at_once + j) deeds own (λ same. far (omega (arith, same)))

  -- its name has no address
  pub join_missed : (relays : Relays A S W) (i n : ℕ) (why : W) (all : RelaysTold A W)
      → ComesIn did relays i n tapping all
      → RelayEndsIn did relays i n relay_end.NoConnection tapping
      (record { parts = all.parts; done = all.done ++ NotFound tapping.server.now why ∷ [] })
  join_missed relays i n why all h = (
    open_done relays i n (NotFound tapping.server.now why ∷ []) all (λ j far. refl) h.others,
    record {
      at = tapping.at_once + i;
      mine = NotFound tapping.server.now why ∷ [];
      among = record {
        look = NotFound tapping.server.now why;
        tries = [];
        is = refl;
        before = all.done;
        after = [];
        parts = refl;
        later = [];
        own = refl;
      };
      relayed = ((0, 0, miss.Failed why, inl (why, refl, refl)), h.silent);
    },
  )

  -- it has some, which are tried
  pub join_settles : (relays : Relays A S W) (i n : ℕ) (addresses : List A) (came : Dialled A S W)
      (deeds : List (NetworkDeed A W)) (all : RelaysTold A W) → AreDeedsOf (tapping.at_once + i) deeds
      → KeepsTries unbound addresses came → HasNextAddress came → IfDialled came (λ stream. did stream stream [])
      → IsDialled (tapping.at_once + i) relays.time relays.time unbound addresses came deeds
      → ComesIn did relays i n tapping all
      → SettlesAt did relays i n came tapping
      (record { parts = all.parts; done = all.done ++ Found tapping.server.now addresses ∷ deeds })
  join_settles relays i n addresses came deeds all own tries next fresh dialled h = (
    open_done relays i n (Found tapping.server.now addresses ∷ deeds) all (none_beside i deeds own) h.others,
    record {
      client = h.client;
      waits = h.waits;
      new = h.new;
      kept = h.kept;
      silent = h.silent;
      addresses = addresses;
      before = all.done;
      after = deeds;
      looked = refl;
      from = relays.time;
      dialled = subst (λ (l : List (NetworkDeed A W)). IsDialled (tapping.at_once + i) relays.time relays.time unbound
          addresses came l) (sym (deeds_own (tapping.at_once + i) deeds own)) dialled;
      tries = tries;
      next = next;
      fresh = fresh;
    },
  )

  -- ---- a connection that is under way is asked for

  pub asked_settles : (relays : Relays A S W) (i n : ℕ) (dial : Dial A S W) (came : Dialled A S W)
      (deeds : List (NetworkDeed A W)) (all : RelaysTold A W) → AreDeedsOf (tapping.at_once + i) deeds
      → KeepsTries dial.tries.bounds dial.tries.addresses.items came → HasNextAddress came
      → IfDialled came (λ stream. did stream stream [])
      → ((from : ℕ) (before : List (NetworkDeed A W)) → IsDialling (tapping.at_once + i) from relays.time dial before
      → IsDialled (tapping.at_once + i) from relays.time dial.tries.bounds dial.tries.addresses.items came
      (before ++ deeds)) → SettlesAt did relays i n (dialled.Waits dial) tapping all
      → SettlesAt did relays i n came tapping (record { parts = all.parts; done = all.done ++ deeds })
  asked_settles relays i n dial came deeds all own tries next fresh dialled (others, s) =
      let at = tapping.at_once + i in (
        open_done relays i n deeds all (none_beside i deeds own) others,
        record {
          client = s.client;
          waits = s.waits;
          new = s.new;
          kept = s.kept;
          silent = s.silent;
          addresses = s.addresses;
          before = s.before;
          after = s.after ++ deeds;
          looked = ap (λ (l : List (NetworkDeed A W)). l ++ deeds) s.looked
              ∙ append_assoc s.before (Found tapping.server.now s.addresses ∷ s.after) deeds;
          from = s.from;
          dialled = subst (λ (l : List (NetworkDeed A W)). IsDialled at s.from relays.time unbound s.addresses came l)
              (sym (deeds_then at s.after deeds ∙ ap (λ (l : List (NetworkDeed A W)). deeds_at at s.after ++ l)
              (deeds_own at deeds own)))
              (subst (λ (l : List A). IsDialled at s.from relays.time unbound l came (deeds_at at s.after ++ deeds))
              s.tries.0 (subst (λ (u : _). IsDialled at s.from relays.time u dial.tries.addresses.items came
              (deeds_at at s.after ++ deeds)) s.tries.1 (dialled s.from (deeds_at at s.after) s.dialled)));
          tries = subst (λ (l : List A). KeepsTries unbound l came) s.tries.0
              (subst (λ (u : _). KeepsTries u dial.tries.addresses.items came) s.tries.1 tries);
          next = next;
          fresh = fresh;
        },
      )

  -- the place of a client is one of them
  pub within_pairs : (relays : Relays A S W) (i n : ℕ) (all : RelaysTold A W) → IsOpenAt did tapping relays i n all
      → i < length relays.pairs.items
  within_pairs relays i n all h = omega (arith, open_within relays i n all h, h.1.pairs.many)

  -- and the place of its server can be counted
  pub server_fits : (relays : Relays A S W) (i n : ℕ) (all : RelaysTold A W) → IsOpenAt did tapping relays i n all
      → length relays.pairs.items + i < 2 ^ 64
  server_fits relays i n all h =
      omega (arith, open_within relays i n all h, h.1.pairs.many, h.1.pairs.room)

  -- and is one of the ends
  pub server_within : (relays : Relays A S W) (i n : ℕ) (all : RelaysTold A W) → IsOpenAt did tapping relays i n all
      → length relays.pairs.items + i < length relays.ends
  server_within relays i n all h =
      omega (arith, open_within relays i n all h, h.1.pairs.many, h.1.pairs.places)

  -- as the place of the client still is
  pub client_within : (relays : Relays A S W) (i n p : ℕ) (x : EndThere S) (ends : List (EndThere S))
      (all : RelaysTold A W) → ends ≡ slice_set relays.ends p x → IsOpenAt did tapping relays i n all
      → i < length ends
  client_within relays i n p x ends all is h = omega (
    arith,
    open_within relays i n all h,
    h.1.pairs.places,
    ap (λ (l : List (EndThere S)). length l) is,
    length_set relays.ends p x,
  )

  -- an end stands there still where something is asked of the client's
  pub server_asked : (old : Relays A S W) (i : ℕ) (relay : Relay) (one : List (EndThere S)) (all : RelaysTold A W)
      → AsksEnd did old.ends one i Client relay → IsTappedIn did old i relay tapping all
      → HasEndAt one (length old.pairs.items + i) true
  server_asked old i relay one all asks (h, r) =
      let len = tapping.at_once in
      let lt : i < len = open_within old i relay.number all h in
      subst (λ (k : ℕ). HasEndAt one (k + i) true) (sym h.1.pairs.many)
      (subst (λ (l : List (EndThere S)). HasEndAt l (len + i) true) (sym asks.is) (end_in did Server relay.tap.value
      r.told (slice_set old.ends i asks.there) (len + i) (other_in did Server relay.tap.value r.told old.ends i
      (len + i) asks.there (λ same. omega (arith, lt, same)) r.served)))

  pub asked_stands : (old new : Relays A S W) (i : ℕ) (relay first second : Relay) (one two : List (EndThere S))
      (all : RelaysTold A W) → first.tap ≡ relay.tap → first.number ≡ relay.number → second.tap ≡ first.tap
      → second.number ≡ first.number → AsksEnd did old.ends one i Client relay
      → AsksEnd did one two (length old.pairs.items + i) Server first
      → Becomes old new two (slice_set old.pairs.items i (pair.Joined second)) old.taken old.there
      → IsTappedIn did old i relay tapping all → AreRelays did tapping new (told_more all [] [])
  asked_stands old new i relay first second one two all tap number tap_too number_too asks asks_too c
      ((numbers, b, given), r) =
      let len = tapping.at_once in
      let lt : i < len = open_within old i relay.number all (numbers, b, given) in
      let later = subst (λ (k : ℕ). AsksEnd did one two (k + i) Server first) b.pairs.many asks_too in
      let set_one = pairs_set did tapping old.ends i asks.there old.time old.pairs.items i numbers all.parts all.done lt
      (inl refl) b.pairs in
      let set_two = pairs_set did tapping (slice_set old.ends i asks.there) (len + i) later.there old.time
      old.pairs.items i numbers all.parts all.done lt (inr refl) set_one in
      let ends_two : two ≡ slice_set (slice_set old.ends i asks.there) (len + i) later.there =
      later.is ∙ ap (λ (l : List (EndThere S)). slice_set l (len + i) later.there) asks.is in
      let served_one : IsTappedEndIn did Server relay.tap.value r.told one (len + i) =
      subst (λ (l : List (EndThere S)). IsTappedEndIn did Server relay.tap.value r.told l (len + i)) (sym asks.is)
      (other_in did Server relay.tap.value r.told old.ends i (len + i) asks.there
      (λ same. omega (arith, lt, same)) r.served) in
      let client_two : IsTappedEndIn did Client relay.tap.value r.told two i =
      subst (λ (l : List (EndThere S)). IsTappedEndIn did Client relay.tap.value r.told l i) (sym later.is)
      (other_in did Client relay.tap.value r.told one (len + i) i later.there (λ same. omega (arith, lt, same))
      (asks.own r.told r.client)) in
      let first_tap : first.tap.value ≡ relay.tap.value = ap (λ (t : _). t.value) tap in
      let after_tap : second.tap.value ≡ first.tap.value = ap (λ (t : _). t.value) tap_too in
      let number_all : second.number ≡ relay.number = number_too ∙ number in
      let tap_all : second.tap.value ≡ relay.tap.value = after_tap ∙ first_tap in
      relays_as new all (told_more all [] []) (append-nil all.parts) (append-nil all.done) (
        numbers,
        become old new two (slice_set old.pairs.items i (pair.Joined second)) old.taken old.there len numbers all c
            b.style b.server (pairs_back did tapping two old.time old.pairs.items i numbers numbers all.parts all.done
            (pair.Joined second) (λ j far. refl)
            (given ∙ ap (λ (k : ℕ). Some (Some k)) (sym number_all)) (record {
              told = r.told;
              stands = subst (λ (k : ℕ). HasTapped (tapped_in tapping.style k) r.told second.tap.value
                  (lines_of_number k all.parts)) (sym number_all)
                  (subst (λ (t : Tap). HasTapped (tapped_in tapping.style relay.number) r.told t
                  (lines_of_number relay.number all.parts)) (sym tap_all) r.stands);
              client = subst (λ (t : Tap). IsTappedEndIn did Client t r.told two i) (sym tap_all) client_two;
              served = subst (λ (t : Tap). IsTappedEndIn did Server t r.told two (len + i)) (sym after_tap)
                  (later.own r.told (subst (λ (t : Tap). IsTappedEndIn did Server t r.told one (len + i))
                  (sym first_tap) served_one));
              mine = r.mine;
              among = r.among;
              made = r.made;
            }) (subst (λ (l : List (EndThere S)). ArePairsStanding did tapping l old.time old.pairs.items i numbers
            all.parts all.done) (sym ends_two) set_two)) b.numbered b.ends_so,
      )
