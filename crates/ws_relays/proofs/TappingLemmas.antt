-- Connections that are tapped, one event after the other: what was told of them follows from what was done.
use Rattle.std.proofs.Common.{◌≡◌, ◌∙◌, ◌+◌, ◌++◌, ◌≤◌, ◌<◌, ◌⊎◌, ℕ, Bool, true, false, List, [], ◌∷◌, length, suc}
use Rattle.std.proofs.Common.{zero}
use Rattle.std.proofs.Common.{Option, None, Some, Result, Ok, Err, ap, append-nil, append_assoc, arith, inl, inr, refl}
use Rattle.std.proofs.Common.{IsErrAnd, drop, get_or, not, replicate, subst, sym, take}
use Rattle.std.proofs.KnownBytes.{Appends-kept, Appends-nil, Appends-trans}
use Rattle.std.specs.Io.KnownBytes.{Appends}
use Rattle.std.specs.List.{All, slice_get}
use Rattle.std.proofs.lemmas.Bool.{false≢true}
use Rattle.std.proofs.lemmas.List.{length-append, length-take-le}
use Rattle.std.proofs.lemmas.List.Elements.{All-nil}
use Rattle.std.proofs.lemmas.Option.{none-some, same_Some, slice_get_cases, slice_get_within}
use Rattle.ws_loops.specs.Deeds.{Deed}
use Rattle.ws_loops.specs.Listeners.{AcceptDeed, HasHeard}
use Rattle.ws_loops.specs.Listeners.AcceptDeed.{CouldNotGive, GaveClient, HadNoClient, LostClient}
use Rattle.ws_networks.specs.Networks.{HasAdded, NetworkDeed}
use Rattle.ws_clients.specs.Counting.{CountedValue, HasCounted}
use Rattle.ws_clients.specs.Numbers.{clients_given, clients_numbered}
use Rattle.ws_clients.proofs.NumberLemmas.{given_idle, given_then, heard_then}
use Rattle.ws_relays.specs.EndPlaces.{EndThere}
use Rattle.ws_relays.specs.InnerRelays.{AreRelays, IsPairIn, IsShortage, RelayOn, RelaysTold, no_parts}
use Rattle.ws_relays.specs.InnerRelays.{RelaysStop, number_of_pair, parts_next, told_more}
use Rattle.ws_relays.specs.InnerTapping.{IsToldIf, PutsEnd, tapping_end_of}
use Rattle.ws_relays.specs.Tappings.{EndOf, GoesOnSoFar, HasRelayEnded, HasTappedAll, IsTapPartOf, TapPart}
use Rattle.ws_relays.specs.Tappings.{TapsAll, ToldOnce}
use Rattle.ws_relays.specs.Tappings.{ends_of_parts, last_tap_number, lines_of_number, numbers_of_ends, parts_text}
use Rattle.ws_relays.specs.Tappings.{relay_end_line, tapped_in}
use Rattle.ws_relays.specs.declared.relays.Pair.{Pair}
use Rattle.ws_relays.specs.declared.relays.Pair.TheVariants as pair
use Rattle.ws_relays.specs.declared.relays.RelayEnd.{RelayEnd}
use Rattle.ws_relays.specs.declared.relays.RelayEvent.{RelayEvent}
use Rattle.ws_relays.specs.declared.relays.RelayEvent.TheVariants as event
use Rattle.ws_relays.specs.declared.relays.RelayFault.{RelayFault}
use Rattle.ws_relays.specs.declared.relays.RelayFault.TheVariants as fault
use Rattle.ws_relays.specs.declared.relays.Relays.{Relays}
use Rattle.ws_relays.specs.declared.tapping.Tapping.{Tapping}
use Rattle.ws_relays.specs.declared.tapping.TappingEnd.{TappingEnd}
use Rattle.ws_relays.specs.declared.tapping.TappingEnd.TheVariants as end
use Rattle.ws_relays.proofs.RelayLemmas.{tapped_so_far}
use Rattle.ws_relays.proofs.RelayNumbers.{count_end, ends_then, text_then}

-- ---- parts

-- with lines alone behind them as many ends as before
ends_same : (one lines : List TapPart) → ends_of_parts lines ≡ []
    → length (ends_of_parts (one ++ lines)) ≡ length (ends_of_parts one)
ends_same one lines none = ap (λ (l : List (ℕ × RelayEnd)). length l) (ends_then one lines
    ∙ (ap (λ (l : List (ℕ × RelayEnd)). ends_of_parts one ++ l) none ∙ append-nil (ends_of_parts one)))

-- ---- numbers in places

numbered_few : (numbers : List (Option ℕ)) → clients_numbered numbers ≤ length numbers
numbered_few [] = omega arith
numbered_few (None ∷ numbers) = omega (arith, numbered_few numbers)
numbered_few (Some n ∷ numbers) = omega (arith, numbered_few numbers)

there_within : {X : Type 0} (xs : List X) (i : ℕ) → i < length xs → (x : X) × (slice_get xs i ≡ Some x)
there_within {X} xs i below = by (slice_get_cases xs i).1
  where
    by : ((x : X) × (i < length xs) × (slice_get xs i ≡ Some x) × (get_or xs i x ≡ x))
        ⊎ ((length xs ≤ i) × (slice_get xs i ≡ None)) → (x : X) × (slice_get xs i ≡ Some x)
    by (inl (x, within, is, same)) = (x, is)
    by (inr (past, none)) = absurd (omega (arith, past, below))

-- ---- what the listener did

given_all : {W : Type 0} (deeds : List (AcceptDeed W)) (n : ℕ)
    → clients_given (deeds ++ replicate n HadNoClient) ≡ clients_given deeds
given_all {W} deeds n = omega (
  arith,
  given_then deeds (replicate n HadNoClient),
  given_idle {W = W} n [],
  ap (λ (l : List (AcceptDeed W)). clients_given l) (append-nil (replicate n HadNoClient)),
)

abbrev is_reason : {W : Type 0} → AcceptDeed W → Bool
is_reason (GaveClient at) = false
is_reason (LostClient why) = false
is_reason (CouldNotGive why) = true
is_reason HadNoClient = false

-- whether the last of these is a reason, or so it was before them
abbrev ends_so : {W : Type 0} → Bool → List (AcceptDeed W) → Bool
ends_so so [] = so
ends_so so (deed ∷ deeds) = ends_so (is_reason deed) deeds

ends_then_so : {W : Type 0} (so : Bool) (one other : List (AcceptDeed W))
    → ends_so so (one ++ other) ≡ ends_so (ends_so so one) other
ends_then_so so [] other = refl
ends_then_so so (deed ∷ one) other = ends_then_so (is_reason deed) one other

ends_idle : (W : Type 0) (n : ℕ) → ends_so {W = W} false (replicate n HadNoClient) ≡ false
ends_idle W zero = refl
ends_idle W (suc n) = ends_idle W n

-- where a reason was told last, the listener itself said it last
said_last : {W : Type 0} (deeds before : List (AcceptDeed W)) (n : ℕ) (why : W)
    → before ++ CouldNotGive why ∷ [] ≡ deeds ++ replicate n HadNoClient
    → deeds ≡ before ++ CouldNotGive why ∷ []
said_last deeds before zero why is = sym (is ∙ append-nil deeds)
said_last {W} deeds before (suc n) why is = absurd (false≢true (sym (ends_idle W n)
    ∙ (sym (ends_then_so false deeds (replicate (suc n) HadNoClient))
    ∙ (ap (λ (l : List (AcceptDeed W)). ends_so false l) (sym is)
    ∙ ends_then_so false before (CouldNotGive why ∷ [])))))

-- ---- the room

-- what was lent of a list is written back, and it has as many elements as before
pub room_stays : (len : ℕ) (new old : List ℕ) → len ≡ length old → length new ≡ length old → 0 < length old
    → 0 < length (take len (new ++ drop (length new) old))
room_stays len new old is same some =
    let all = length-append new (drop (length new) old) in
    let taken = length-take-le len (new ++ drop (length new) old) (omega (arith, all, is, same)) in
    omega (arith, taken, is, some)

-- ---- that no client can be taken

pub told_once : {K : Type 0} (told : K → K → Type 0) (is : Bool) (old new : K) → IsToldIf told is old new
    → ToldOnce told old new
told_once told true old new h = inr h
told_once told false old new h = inl h

pub told_then : {K : Type 0} (told : K → K → Type 0) (is : Bool) (old mid new : K) → IsToldIf told is old mid
    → IsToldIf told (not is) mid new → told old new
told_then {K} told true old mid new h k = subst (λ (x : K). told old x) (sym k) h
told_then {K} told false old mid new h k = subst (λ (x : K). told x new) h k

module _ {A S L N W : Type 0} (did : S → S → List Deed → Type 0) (ldid : L → L → List (AcceptDeed W) → Type 0)
    (ndid : N → N → List (NetworkDeed A W) → Type 0) (tapping : Tapping) (listener : L) (network : N) where
  abbrev counted_did : CountedValue L → CountedValue L → List (AcceptDeed W) → Type 0
  counted_did start now told = HasCounted ldid start now told

  abbrev begun : CountedValue L
  begun = record { listener = listener; left = Some (last_tap_number tapping.count) }

  asked_nothing : HasHeard counted_did begun begun []
  asked_nothing start deeds h =
      subst (λ (d : List (AcceptDeed W)). counted_did start begun d) (sym (append-nil deeds)) h

  added_nothing : HasAdded ndid network network []
  added_nothing start deeds h =
      subst (λ (d : List (NetworkDeed A W)). ndid start network d) (sym (append-nil deeds)) h

  added_then : (b c : N) (one other : List (NetworkDeed A W)) → HasAdded ndid network b one
      → HasAdded ndid b c other → HasAdded ndid network c (one ++ other)
  added_then b c one other h k start deeds x =
      subst (λ (d : List (NetworkDeed A W)). ndid start c d) (append_assoc deeds one other)
      (k start (deeds ++ one) (h start deeds x))

  -- So far connections were tapped: all stands by what was told of them, of which just this was written, so many ends
  -- among it; the line of an end that came last is to be written.
  pub record IsTappingOn (now : CountedValue L) (later : N) (relays : Relays A S W) (old new : Option (List ℕ))
      (told : ℕ) (came : Option RelayEvent) : Type 0 where
    pub all : RelaysTold A W
    pub are : AreRelays did tapping relays all
    pub deeds : List (AcceptDeed W)
    pub heard : HasHeard counted_did begun now deeds
    pub taken : relays.taken ≡ clients_given deeds
    pub added : HasAdded ndid network later all.done
    pub front : List TapPart
    pub parts : all.parts ≡ front ++ parts_next came
    pub written : Appends old new (parts_text front)
    pub count : told ≡ length (ends_of_parts front)
    pub shortage : IsShortage relays.there deeds came

  -- nothing was told yet
  begins : (relays : Relays A S W) (old : Option (List ℕ)) → AreRelays did tapping relays no_parts
      → relays.taken ≡ 0 → IsTappingOn begun network relays old old 0 None
  begins relays old are taken = record {
    all = no_parts;
    are = are;
    deeds = [];
    heard = asked_nothing;
    taken = taken;
    added = added_nothing;
    front = [];
    parts = refl;
    written = Appends-nil old;
    count = refl;
    shortage = tt;
  }

  pub begins_tapping : (now : CountedValue L) (relays : Relays A S W) (old : Option (List ℕ)) → now.listener ≡ listener
      → now.left ≡ Some (last_tap_number tapping.count) → AreRelays did tapping relays no_parts → relays.taken ≡ 0
      → IsTappingOn now network relays old old 0 None
  begins_tapping now relays old is left are taken =
      subst (λ (l : L). IsTappingOn (record { listener = l; left = now.left }) network relays old old 0 None) (sym is)
      (subst (λ (o : Option ℕ). IsTappingOn (record { listener = listener; left = o }) network relays old old 0 None)
      (sym left) (begins relays old are taken))

  -- ---- one event more

  shortage_then : (there : ℕ) (one other : List (AcceptDeed W)) (came : Option RelayEvent)
      → IsShortage there other came → IsShortage there (one ++ other) came
  shortage_then there one other None h = tt
  shortage_then there one other (Some (event.Ended number ended)) h = tt
  shortage_then there one other (Some event.Full) (before, why, is) = (
    one ++ before,
    why,
    ap (λ (l : List (AcceptDeed W)). one ++ l) is ∙ sym (append_assoc one before (CouldNotGive why ∷ [])),
  )
  shortage_then there one other (Some event.Deaf) (none, (before, why, is)) = (
    none,
    (
      one ++ before,
      why,
      ap (λ (l : List (AcceptDeed W)). one ++ l) is ∙ sym (append_assoc one before (CouldNotGive why ∷ [])),
    ),
  )

  pub event_told : (now then : CountedValue L) (later after : N) (relays next : Relays A S W)
      (old mid new : Option (List ℕ)) (told : ℕ) (failed : Bool) (came : Option RelayEvent)
      → IsTappingOn now later relays old mid told None
      → RelayOn did counted_did ndid now then later after relays next
      (record { failed = failed; old = mid; new = new }) came
      → IsTappingOn then after next old new told came
  event_told now then later after relays next old mid new told failed came h k =
      let (more, wrote, none, are) = k.parts tapping h.all h.are in
      let same : h.all.parts ≡ h.front = h.parts ∙ append-nil h.front in
      let text : parts_text h.front ++ parts_text more ≡ parts_text (h.all.parts ++ more) =
      ap (λ (l : List TapPart). parts_text l ++ parts_text more) (sym same) ∙ sym (text_then h.all.parts more) in
      record {
        all = told_more h.all (more ++ parts_next came) k.done;
        are = are;
        deeds = h.deeds ++ k.deeds;
        heard = heard_then counted_did begun now then h.deeds k.deeds h.heard k.heard;
        taken = omega (arith, k.taken, h.taken, given_then h.deeds k.deeds);
        added = added_then later after h.all.done k.done h.added k.added;
        front = h.all.parts ++ more;
        parts = sym (append_assoc h.all.parts more (parts_next came));
        written = subst (λ (l : List ℕ). Appends old new l) text
            (Appends-trans old mid new (parts_text h.front) (parts_text more) h.written wrote);
        count = h.count ∙ ap (λ (l : List TapPart). length (ends_of_parts l)) (sym same)
            ∙ sym (ends_same h.all.parts more none);
        shortage = shortage_then next.there h.deeds k.deeds came k.shortage;
      }

  -- its line was written, if it has one
  pub line_told : (now : CountedValue L) (later : N) (relays : Relays A S W) (old mid new : Option (List ℕ))
      (told number : ℕ) (ended : RelayEnd) → IsTappingOn now later relays old mid told (Some (event.Ended number ended))
      → Appends mid new (relay_end_line number ended) → IsTappingOn now later relays old new (told + 1) None
  line_told now later relays old mid new told number ended h wrote =
      let line = relay_end_line number ended in
      let text : parts_text h.front ++ line ≡ parts_text h.all.parts =
      ap (λ (l : List ℕ). parts_text h.front ++ l) (sym (append-nil line))
      ∙ (sym (text_then h.front (EndOf number ended ∷ [])) ∙ ap (λ (l : List TapPart). parts_text l) (sym h.parts))
      in record {
        all = h.all;
        are = h.are;
        deeds = h.deeds;
        heard = h.heard;
        taken = h.taken;
        added = h.added;
        front = h.all.parts;
        parts = sym (append-nil h.all.parts);
        written = subst (λ (l : List ℕ). Appends old new l) text
            (Appends-trans old mid new (parts_text h.front) line h.written wrote);
        count = omega (
          arith,
          h.count,
          count_end h.front number ended,
          ap (λ (l : List TapPart). length (ends_of_parts l)) h.parts,
        );
        shortage = tt;
      }

  abbrev pub none_told : (now : CountedValue L) (later : N) (relays : Relays A S W) (old new : Option (List ℕ))
      (told : ℕ) (came : Option RelayEvent) → parts_next came ≡ [] → IsTappingOn now later relays old new told came
      → IsTappingOn now later relays old new told None
  none_told now later relays old new told came none h = record {
    all = h.all;
    are = h.are;
    deeds = h.deeds;
    heard = h.heard;
    taken = h.taken;
    added = h.added;
    front = h.front;
    parts = h.parts ∙ ap (λ (l : List TapPart). h.front ++ l) none;
    written = h.written;
    count = h.count;
    shortage = tt;
  }

  -- ---- all that was told

  abbrev counts : (now : CountedValue L) (deeds : List (AcceptDeed W)) → HasHeard counted_did begun now deeds
      → HasCounted ldid begun now deeds
  counts now deeds heard = heard begun [] (record {
    deeds = [];
    heard = λ start told h. subst (λ (d : List (AcceptDeed W)). ldid start listener d) (sym (append-nil told)) h;
    left = (last_tap_number tapping.count, refl, omega arith);
    unasked = 0;
    all = refl;
    closed = inl refl;
  })

  -- as many clients as the listener itself gave
  given_by : (now : CountedValue L) (deeds : List (AcceptDeed W)) (heard : HasHeard counted_did begun now deeds)
      → clients_given deeds ≡ clients_given (counts now deeds heard).deeds
  given_by now deeds heard =
      let c = counts now deeds heard in
      ap (λ (d : List (AcceptDeed W)). clients_given d) c.all ∙ given_all c.deeds c.unasked

  -- what goes on for a client: nothing was told of it yet, or what is certain so far
  pair_goes_on : (ends : List (EndThere S)) (at time number : ℕ) (parts : List TapPart)
      (done : List (NetworkDeed A W)) (p : Pair A S W) → IsPairIn did tapping ends at time parts done p
      → number_of_pair p ≡ Some number → GoesOnSoFar did tapping parts number
  pair_goes_on ends at time number parts done pair.Free is of = absurd (none-some number of)
  pair_goes_on ends at time number parts done (pair.Joining n dial) is of =
      subst (λ (k : ℕ). GoesOnSoFar did tapping parts k) (same_Some n number of) (inl is.1.silent)
  pair_goes_on ends at time number parts done (pair.Joined relay) is of =
      subst (λ (k : ℕ). GoesOnSoFar did tapping parts k) (same_Some relay.number number of)
      (inr (tapped_so_far did (tapped_in tapping.style relay.number) is.told relay.tap.value
      (lines_of_number relay.number parts) is.client.0 is.served.0 is.stands is.client.2 is.served.2))

  -- all that was told of those who came, of whom so many go on
  abbrev told_of_all : (now : CountedValue L) (later : N) (relays : Relays A S W) (old new : Option (List ℕ))
      (told there : ℕ) (h : IsTappingOn now later relays old new told None) → relays.there ≡ there
      → HasTappedAll did ldid ndid tapping listener network there h.all.parts
  told_of_all now later relays old new told there h so_many =
      let c = counts now h.deeds h.heard in
      let given : relays.taken ≡ clients_given c.deeds = h.taken ∙ given_by now h.deeds h.heard in
      let (numbers, are) = h.are in
      let (left, is, sum) = c.left in record {
        last = now.listener;
        deeds = c.deeds;
        asked = c.heard;
        within = omega (arith, sum);
        last_network = later;
        done = h.all.done;
        added = h.added;
        turns = are.numbered.turns;
        came_all = subst (λ (n : ℕ). All (IsTapPartOf n) h.all.parts) given are.numbered.came;
        ends = are.ends_so;
        goes_on = λ number one most far. goes number one (omega (arith, most, given)) far;
        came = omega (arith, given, are.numbered.sum, so_many);
        few = omega (arith, so_many, are.numbered.count, numbered_few numbers, are.numbered.len);
      }
    where
      goes : (number : ℕ) → 1 ≤ number → number ≤ relays.taken
          → All (λ other. other ≡ number → ⊥) (numbers_of_ends (ends_of_parts h.all.parts))
          → GoesOnSoFar did tapping h.all.parts number
      goes number one most far =
          let (numbers, are) = h.are in
          let (at, has) = are.numbered.stays number one most far in
          let below : at < length relays.pairs.items = omega (
            arith,
            slice_get_within numbers at (Some number) has,
            are.numbered.len,
            are.pairs.many,
          ) in
          let (pair, is) = there_within relays.pairs.items at below in
          let (same, stands) = are.pairs.each at pair (λ last. omega (arith, last, below, are.pairs.many)) is in
          pair_goes_on relays.ends at relays.time number h.all.parts h.all.done pair stands
          (same_Some (number_of_pair pair) (Some number) (sym same ∙ has))

  -- ---- how it ends

  -- nobody has come
  told_of_none : HasTappedAll did ldid ndid tapping listener network 0 []
  told_of_none = record {
    last = listener;
    deeds = [];
    asked = λ start told h. subst (λ (d : List (AcceptDeed W)). ldid start listener d) (sym (append-nil told)) h;
    within = omega arith;
    last_network = network;
    done = [];
    added = added_nothing;
    turns = tt;
    came_all = All-nil (IsTapPartOf 0);
    ends = All-nil (λ end. HasRelayEnded did tapping [] [] end.0 end.1);
    goes_on = λ number one most far. absurd (omega (arith, one, most));
    came = refl;
    few = omega arith;
  }

  abbrev Taps : Bool → Option (List ℕ) → Option (List ℕ) → TappingEnd → Type 0
  Taps failed old new ended =
      TapsAll did ldid ndid tapping listener network (record { failed = failed; old = old; new = new }) ended

  pub none_done : (failed : Bool) (held : Option (List ℕ)) → failed ≡ false → 0 ≡ last_tap_number tapping.count
      → Taps failed held held end.Done
  none_done failed held works last = (works, ([], told_of_none, Appends-nil held, last))

  pub none_for_memory : (failed : Bool) (old new : Option (List ℕ)) → failed ≡ false → 0 < last_tap_number tapping.count
      → (some : List ℕ) → Appends old new some → Taps failed old new end.NoMemory
  none_for_memory failed old new works more some wrote = (works, (0, [], some, told_of_none, wrote, more))

  -- all lines of those who came were written
  written_all : (now : CountedValue L) (later : N) (relays : Relays A S W) (old new : Option (List ℕ)) (told : ℕ)
      (h : IsTappingOn now later relays old new told None)
      → Appends old new (parts_text h.all.parts) × (told ≡ length (ends_of_parts h.all.parts))
  written_all now later relays old new told h =
      let same : h.front ≡ h.all.parts = sym (h.parts ∙ append-nil h.front) in (
        subst (λ (l : List TapPart). Appends old new (parts_text l)) same h.written,
        h.count ∙ ap (λ (l : List TapPart). length (ends_of_parts l)) same,
      )

  pub all_done : (now : CountedValue L) (later : N) (relays : Relays A S W) (old new : Option (List ℕ)) (told : ℕ)
      (failed : Bool) → IsTappingOn now later relays old new told None → failed ≡ false
      → told ≡ last_tap_number tapping.count → Taps failed old new end.Done
  all_done now later relays old new told failed h works all =
      let (wrote, count) = written_all now later relays old new told h in
      let t = told_of_all now later relays old new told relays.there h refl in
      let none : relays.there ≡ 0 = omega (arith, t.came, t.within, count, all) in (
        works,
        (
          h.all.parts,
          told_of_all now later relays old new told 0 h none,
          wrote,
          omega (arith, count, all),
        ),
      )

  pub all_deaf : (now : CountedValue L) (later : N) (relays : Relays A S W) (old new : Option (List ℕ)) (told : ℕ)
      (failed : Bool) → IsTappingOn now later relays old new told (Some event.Deaf) → failed ≡ false
      → told < last_tap_number tapping.count → Taps failed old new end.Deaf
  all_deaf now later relays old new told failed h works more =
      let g = none_told now later relays old new told (Some event.Deaf) refl h in
      let (wrote, count) = written_all now later relays old new told g in
      let (none, (before, why, is)) = h.shortage in
      let c = counts now h.deeds h.heard in (
        works,
        (
          h.all.parts,
          told_of_all now later relays old new told 0 g none,
          wrote,
          omega (arith, count, more),
          (before, why, said_last c.deeds before c.unasked why (sym is ∙ c.all)),
        ),
      )

  pub all_stopped : (now : CountedValue L) (later : N) (relays : Relays A S W) (old new : Option (List ℕ)) (told : ℕ)
      (failed : Bool) → IsTappingOn now later relays old new told None → failed ≡ false
      → told < last_tap_number tapping.count → Taps failed old new end.WaitFailed
  all_stopped now later relays old new told failed h works more =
      let (wrote, count) = written_all now later relays old new told h in (
        works,
        (
          relays.there,
          h.all.parts,
          told_of_all now later relays old new told relays.there h refl,
          wrote,
          omega (arith, count, more),
        ),
      )

  pub all_for_memory : (now : CountedValue L) (later : N) (relays : Relays A S W) (old mid new : Option (List ℕ))
      (told : ℕ) (failed : Bool) → IsTappingOn now later relays old mid told None → failed ≡ false
      → told < last_tap_number tapping.count → (some : List ℕ) → Appends mid new some
      → Taps failed old new end.NoMemory
  all_for_memory now later relays old mid new told failed h works more some rest =
      let (wrote, count) = written_all now later relays old mid told h in (
        works,
        (
          relays.there,
          h.all.parts,
          some,
          told_of_all now later relays old mid told relays.there h refl,
          Appends-trans old mid new (parts_text h.all.parts) some wrote rest,
          omega (arith, count, more),
        ),
      )

  -- nothing goes on any more among the relays
  relays_stop : (now : CountedValue L) (later : N) (relays : Relays A S W) (old mid new : Option (List ℕ))
      (told : ℕ) (failed : Bool) (why : RelayFault) → IsTappingOn now later relays old mid told None
      → told < last_tap_number tapping.count
      → RelaysStop did counted_did ndid now later relays (record { failed = failed; old = mid; new = new }) why
      → Taps failed old new (tapping_end_of (Err why))
  relays_stop now later relays old mid new told failed fault.NoMemory h more (works, (some, rest)) =
      all_for_memory now later relays old mid new told failed h works more some rest
  relays_stop now later relays old mid new told failed fault.Output h more fails =
      (fails, omega (arith, more))
  relays_stop now later relays old mid new told failed fault.WaitFailed h more (then, after, next, on) =
      all_stopped then after next old new told failed
      (event_told now then later after relays next old mid new told failed None h on) on.works more

  pub relays_stopped : (now : CountedValue L) (later : N) (relays : Relays A S W) (old mid new : Option (List ℕ))
      (told : ℕ) (failed : Bool) (result : Result TappingEnd RelayFault) (why : RelayFault)
      → IsErrAnd result (λ other. other ≡ why) → IsTappingOn now later relays old mid told None
      → told < last_tap_number tapping.count
      → RelaysStop did counted_did ndid now later relays (record { failed = failed; old = mid; new = new }) why
      → Taps failed old new (tapping_end_of result)
  relays_stopped now later relays old mid new told failed (Ok how) why bad h more stops = absurd bad
  relays_stopped now later relays old mid new told failed (Err other) why is h more stops =
      subst (λ (f : RelayFault). Taps failed old new (tapping_end_of (Err f))) (sym is)
      (relays_stop now later relays old mid new told failed why h more stops)

  -- the line of an end is not written
  line_stops : (now : CountedValue L) (later : N) (relays : Relays A S W) (old mid new : Option (List ℕ))
      (told number : ℕ) (ended : RelayEnd) (failed : Bool) (why : RelayFault)
      → IsTappingOn now later relays old mid told (Some (event.Ended number ended))
      → told < last_tap_number tapping.count
      → PutsEnd (relay_end_line number ended) (Err why) (record { failed = failed; old = mid; new = new })
      → Taps failed old new (tapping_end_of (Err why))
  line_stops now later relays old mid new told number ended failed fault.NoMemory h more (works, kept) =
      none_for_memory failed old new works (omega (arith, more)) (parts_text h.front)
      (Appends-kept old mid new (parts_text h.front) h.written kept)
  line_stops now later relays old mid new told number ended failed fault.Output h more fails =
      (fails, omega (arith, more))
  line_stops now later relays old mid new told number ended failed fault.WaitFailed h more bad = absurd bad

  pub line_stopped : (now : CountedValue L) (later : N) (relays : Relays A S W) (old mid new : Option (List ℕ))
      (told number : ℕ) (ended : RelayEnd) (failed : Bool) (result : Result TappingEnd RelayFault) (why : RelayFault)
      → IsErrAnd result (λ other. other ≡ why)
      → IsTappingOn now later relays old mid told (Some (event.Ended number ended))
      → told < last_tap_number tapping.count
      → PutsEnd (relay_end_line number ended) (Err why) (record { failed = failed; old = mid; new = new })
      → Taps failed old new (tapping_end_of result)
  line_stopped now later relays old mid new told number ended failed (Ok how) why bad h more stops = absurd bad
  line_stopped now later relays old mid new told number ended failed (Err other) why is h more stops =
      subst (λ (f : RelayFault). Taps failed old new (tapping_end_of (Err f))) (sym is)
      (line_stops now later relays old mid new told number ended failed why h more stops)

  -- memory ran out before anything was told
  pub lacks_memory : (failed : Bool) (held : Option (List ℕ)) (result : Result TappingEnd RelayFault) → failed ≡ false
      → 0 < last_tap_number tapping.count → IsErrAnd result (λ why. why ≡ fault.NoMemory)
      → Taps failed held held (tapping_end_of result)
  lacks_memory failed held (Ok ended) works more bad = absurd bad
  lacks_memory failed held (Err why) works more is =
      subst (λ (f : RelayFault). Taps failed held held (tapping_end_of (Err f))) (sym is)
      (none_for_memory failed held held works more [] (Appends-nil held))
