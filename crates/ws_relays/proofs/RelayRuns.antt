-- Tapped connections go on, step after step: whatever stood before, all stands by what was told since.
use Rattle.std.proofs.Common.{◌≡◌, ◌∙◌, ◌+◌, ◌≤◌, ℕ, Bool, false, List, [], ◌∷◌, ◌++◌, Option, None, Some, ap, sym}
use Rattle.std.proofs.Common.{refl, subst, arith, append_assoc, append-nil, suc, zero}
use Rattle.std.proofs.KnownBytes.{Appends-nil, Appends-trans}
use Rattle.std.specs.Io.KnownBytes.{Appends}
use Rattle.ws_frame.specs.Devices.{Device}
use Rattle.ws_loops.specs.Deeds.{Deed}
use Rattle.ws_loops.specs.Listeners.{AcceptDeed}
use Rattle.ws_loops.specs.Listeners.AcceptDeed.{CouldNotGive, GaveClient, HadNoClient, LostClient}
use Rattle.ws_networks.specs.Networks.{HasAdded, NetworkDeed}
use Rattle.ws_clients.specs.Numbers.{clients_given}
use Rattle.ws_relays.specs.EndPlaces.{AreInVain, AskedEnd, AwaitedPlace, EndThere, FreePlace, GoOn, GoesOnAs}
use Rattle.ws_relays.specs.EndPlaces.{HasComeAmong, HasHeardThen, HeldEnd, KeptPlace, LostEnd, heard_by}
use Rattle.ws_relays.specs.InnerRelays.{AreRelays, AreStanding, IsNoShortage, IsShortage, IsSilentFault, RelayOn}
use Rattle.ws_relays.specs.InnerRelays.{RelaysStop, RelaysTold, SeesToEnds, StoodUntil, StopsTelling, TellsOfEnds}
use Rattle.ws_relays.specs.InnerRelays.{clients_in, parts_next, shortage_told, told_more, with_ends}
use Rattle.ws_relays.specs.Tappings.{TapPart, ends_of_parts, parts_text}
use Rattle.ws_relays.specs.declared.ends.EndEvent.{EndEvent}
use Rattle.ws_relays.specs.declared.ends.EndEvent.TheVariants as came
use Rattle.ws_relays.specs.declared.relays.RelayEnd.{RelayEnd}
use Rattle.ws_relays.specs.declared.relays.RelayEvent.{RelayEvent}
use Rattle.ws_relays.specs.declared.relays.RelayEvent.TheVariants as event
use Rattle.ws_relays.specs.declared.relays.RelayFault.{RelayFault}
use Rattle.ws_relays.specs.declared.relays.RelayFault.TheVariants as fault
use Rattle.ws_relays.specs.declared.relays.Relays.{Relays}
use Rattle.ws_relays.specs.declared.tapping.Tapping.{Tapping}
use Rattle.ws_relays.proofs.PairLemmas.{pairs_on}
use Rattle.ws_relays.proofs.RelayNumbers.{ends_then, text_then}
use Rattle.ws_relays.proofs.RelayWork.{become, relays_as}

-- ---- what a listener or a network did

module _ {X D : Type 0} (did : X → X → List D → Type 0) where
  pub did_then : (x y z : X) (a b : List D) → HasAdded did x y a → HasAdded did y z b → HasAdded did x z (a ++ b)
  did_then x y z a b h k start deeds d =
      subst (λ (l : List D). did start z l) (append_assoc deeds a b) (k start (deeds ++ a) (h start deeds d))

  pub did_nothing : (x : X) → HasAdded did x x []
  did_nothing x start deeds d = subst (λ (l : List D). did start x l) (sym (append-nil deeds)) d

module _ {W : Type 0} where
  given_then : (a b : List (AcceptDeed W)) → clients_given (a ++ b) ≡ clients_given a + clients_given b
  given_then [] b = omega arith
  given_then (GaveClient at ∷ a) b = omega (arith, given_then a b)
  given_then (LostClient why ∷ a) b = given_then a b
  given_then (CouldNotGive why ∷ a) b = given_then a b
  given_then (HadNoClient ∷ a) b = given_then a b

  given_in_vain : (deeds : List (AcceptDeed W)) → AreInVain deeds → clients_given deeds ≡ 0
  given_in_vain [] vain = refl
  given_in_vain (GaveClient at ∷ deeds) vain = absurd vain
  given_in_vain (LostClient why ∷ deeds) vain = given_in_vain deeds vain
  given_in_vain (CouldNotGive why ∷ deeds) vain = absurd vain
  given_in_vain (HadNoClient ∷ deeds) vain = given_in_vain deeds vain

  given_by : {S : Type 0} (event : EndEvent S W) → clients_given (heard_by event) ≡ clients_in event
  given_by (came.Happened at what) = refl
  given_by (came.Stirred at) = refl
  given_by (came.Client at stream) = refl
  given_by (came.Full why) = refl

  -- why nobody comes any more
  quiet_shortage : (there : ℕ) (told : Option RelayEvent) (deeds : List (AcceptDeed W)) → IsNoShortage told
      → IsShortage there deeds told
  quiet_shortage there None deeds quiet = tt
  quiet_shortage there (Some (event.Ended number end)) deeds quiet = tt
  quiet_shortage there (Some event.Full) deeds quiet = absurd quiet
  quiet_shortage there (Some event.Deaf) deeds quiet = absurd quiet

  full_shortage : (there : ℕ) (why : W) (deeds : List (AcceptDeed W))
      → IsShortage there (deeds ++ CouldNotGive why ∷ []) (Some (shortage_told there))
  full_shortage zero why deeds = (refl, (deeds, why, refl))
  full_shortage (suc n) why deeds = (deeds, why, refl)

  shortage_of : {S : Type 0} (event : EndEvent S W) (there : ℕ) (told : Option RelayEvent)
      (deeds : List (AcceptDeed W)) → TellsOfEnds event there told → IsShortage there (deeds ++ heard_by event) told
  shortage_of (came.Happened at what) there told deeds tells =
      quiet_shortage there told (deeds ++ []) tells
  shortage_of (came.Stirred at) there told deeds tells = quiet_shortage there told (deeds ++ []) tells
  shortage_of (came.Client at stream) there told deeds tells =
      quiet_shortage there told (deeds ++ GaveClient at ∷ []) tells
  shortage_of (came.Full why) there told deeds tells =
      subst (λ (t : Option RelayEvent). IsShortage there (deeds ++ CouldNotGive why ∷ []) t) (sym tells)
      (full_shortage there why deeds)

  shortage_then : (there : ℕ) (told : Option RelayEvent) (a b : List (AcceptDeed W)) → IsShortage there b told
      → IsShortage there (a ++ b) told
  shortage_then there None a b h = tt
  shortage_then there (Some (event.Ended number end)) a b h = tt
  shortage_then there (Some event.Full) a b (before, why, is) = (
    a ++ before,
    why,
    ap (λ (l : List (AcceptDeed W)). a ++ l) is ∙ sym (append_assoc a before (CouldNotGive why ∷ [])),
  )
  shortage_then there (Some event.Deaf) a b (none, (before, why, is)) = (
    none,
    (
      a ++ before,
      why,
      ap (λ (l : List (AcceptDeed W)). a ++ l) is ∙ sym (append_assoc a before (CouldNotGive why ∷ [])),
    ),
  )

-- ---- nothing has happened

module _ {S : Type 0} (did : S → S → List Deed → Type 0) where
  as_itself : (x : EndThere S) → GoesOnAs did x x
  as_itself FreePlace = refl
  as_itself KeptPlace = refl
  as_itself AwaitedPlace = refl
  as_itself (AskedEnd slot) = λ told was. (record { bytes = refl; room = refl; ends = refl }, was)
  as_itself (HeldEnd stream) = refl
  as_itself LostEnd = refl

  all_stay : (ends : List (EndThere S)) → GoOn did ends ends
  all_stay ends = (refl, λ at x is. (x, is, as_itself x))

-- ---- a device that is left as it is

-- nothing was written, and nothing has failed
pub silent_stops : (held : Option (List ℕ)) (failed : Bool) (why : RelayFault) → IsSilentFault why → failed ≡ false
    → StopsTelling (record { failed = failed; old = held; new = held }) why
silent_stops held failed fault.NoMemory silent works = (works, ([], Appends-nil held))
silent_stops held failed fault.Output silent works = absurd silent
silent_stops held failed fault.WaitFailed silent works = (works, Appends-nil held)

-- parts that are put together
parts_apart : (all one two next : List TapPart)
    → all ++ ((one ++ two) ++ next) ≡ (all ++ (one ++ [])) ++ (two ++ next)
parts_apart all one two next = ap (λ (l : List TapPart). all ++ l) (append_assoc one two next)
    ∙ (sym (append_assoc all one (two ++ next))
    ∙ ap (λ (l : List TapPart). (all ++ l) ++ (two ++ next)) (sym (append-nil one)))

module _ {A S L N W : Type 0} (did : S → S → List Deed → Type 0) (ldid : L → L → List (AcceptDeed W) → Type 0)
    (ndid : N → N → List (NetworkDeed A W) → Type 0) where
  -- no time has come that is earlier
  later_relays : (tapping : Tapping) (old new : Relays A S W) (all : RelaysTold A W) → old.time ≤ new.time
      → new.style ≡ old.style → new.server.now ≡ old.server.now → new.ends ≡ old.ends
      → new.pairs.items ≡ old.pairs.items → new.taken ≡ old.taken → new.there ≡ old.there
      → AreRelays did tapping old all → AreRelays did tapping new all
  later_relays tapping old new all le style server ends pairs taken there (numbers, b) = (
    numbers,
    become did tapping (record old { time = new.time }) new old.ends old.pairs.items old.taken old.there
        tapping.at_once numbers all (record {
          style = style;
          server = server;
          time = refl;
          ends = ends;
          pairs = pairs;
          taken = taken;
          there = there;
        }) b.style b.server (pairs_on did tapping old.ends old.ends old.time new.time old.pairs.items tapping.at_once
        numbers all.parts all.done (all_stay did old.ends) le b.pairs) b.numbered b.ends_so,
  )

  -- something has happened among the ends, and was seen to
  pub stood_then : (old mid : Relays A S W) (event : EndEvent S W) (tapping : Tapping) (all : RelaysTold A W)
      → old.time ≤ mid.time → mid.style ≡ old.style → mid.server.now ≡ old.server.now
      → mid.pairs.items ≡ old.pairs.items → mid.taken ≡ old.taken → mid.there ≡ old.there
      → HasComeAmong did old.ends mid.ends event → AreRelays did tapping old all
      → StoodUntil did mid event tapping all
  stood_then old mid event tapping all le style server pairs taken there come h = (
    old.ends,
    later_relays tapping old (with_ends mid old.ends) all le style server refl pairs taken there h,
    come,
  )

  pub step_on : (listener later : L) (network after : N) (old mid new : Relays A S W) (event : EndEvent S W)
      (output : Device) (told : Option RelayEvent) → old.time ≤ mid.time → mid.style ≡ old.style
      → mid.server.now ≡ old.server.now → mid.pairs.items ≡ old.pairs.items → mid.taken ≡ old.taken
      → mid.there ≡ old.there → HasComeAmong did old.ends mid.ends event
      → HasHeardThen ldid listener later (heard_by event)
      → SeesToEnds did ndid (StoodUntil did mid event) event network after mid new output told
      → RelayOn did ldid ndid listener later network after old new output told
  step_on listener later network after old mid new event output told le style server pairs taken there come
      (deeds, vain, heard) sees = record {
        deeds = deeds ++ heard_by event;
        heard = heard;
        taken = omega (
          arith,
          sees.taken,
          taken,
          given_then deeds (heard_by event),
          given_in_vain deeds vain,
          given_by event,
        );
        done = sees.done;
        added = sees.added;
        shortage = shortage_of event new.there told deeds sees.tells;
        works = sees.works;
        parts = λ tapping all h. sees.stands tapping all
            (stood_then old mid event tapping all le style server pairs taken there come h);
      }

  -- ---- step after step

  pub standing_on : (listener later : L) (network after : N) (old new : Relays A S W) (output : Device)
      (told : Option RelayEvent) → RelayOn did ldid ndid listener later network after old new output told
      → AreStanding did old → AreStanding did new
  standing_on listener later network after old new output told on (tapping, all, h) =
      let (more, wrote, none, stands) = on.parts tapping all h in
      (tapping, told_more all (more ++ parts_next told) on.done, stands)

  pub on_nothing : (listener : L) (network : N) (old : Relays A S W) (held : Option (List ℕ)) (failed : Bool)
      → failed ≡ false
      → RelayOn did ldid ndid listener listener network network old old
      (record { failed = failed; old = held; new = held }) None
  on_nothing listener network old held failed works = record {
    deeds = [];
    heard = did_nothing ldid listener;
    taken = omega arith;
    done = [];
    added = did_nothing ndid network;
    shortage = tt;
    works = works;
    parts = λ tapping all h. (
      [],
      Appends-nil held,
      refl,
      relays_as did tapping old all (told_more all [] []) (append-nil all.parts) (append-nil all.done) h,
    );
  }

  pub on_then : (x y z : L) (m n p : N) (a b c : Relays A S W) (first second last : Option (List ℕ))
      (before failed : Bool) (told : Option RelayEvent)
      → RelayOn did ldid ndid x y m n a b (record { failed = before; old = first; new = second }) None
      → RelayOn did ldid ndid y z n p b c (record { failed = failed; old = second; new = last }) told
      → RelayOn did ldid ndid x z m p a c (record { failed = failed; old = first; new = last }) told
  on_then x y z m n p a b c first second last before failed told h k = record {
    deeds = h.deeds ++ k.deeds;
    heard = did_then ldid x y z h.deeds k.deeds h.heard k.heard;
    taken = omega (arith, h.taken, k.taken, given_then h.deeds k.deeds);
    done = h.done ++ k.done;
    added = did_then ndid m n p h.done k.done h.added k.added;
    shortage = shortage_then c.there told h.deeds k.deeds k.shortage;
    works = k.works;
    parts = λ tapping all stood.
        let (one, wrote, none, stands) = h.parts tapping all stood in
        let (two, also, nor, now) = k.parts tapping (told_more all (one ++ []) h.done) stands in (
          one ++ two,
          subst (λ (l : List ℕ). Appends first last l) (sym (text_then one two))
              (Appends-trans first second last (parts_text one) (parts_text two) wrote also),
          ends_then one two ∙ (ap (λ (l : List (ℕ × RelayEnd)). l ++ ends_of_parts two) none ∙ nor),
          relays_as did tapping c (told_more (told_more all (one ++ []) h.done) (two ++ parts_next told) k.done)
              (told_more all ((one ++ two) ++ parts_next told) (h.done ++ k.done))
              (parts_apart all.parts one two (parts_next told)) (sym (append_assoc all.done h.done k.done)) now,
        );
  }

  -- and then nothing goes on any more
  pub on_stops : (x y : L) (m n : N) (a b : Relays A S W) (first second last : Option (List ℕ))
      (before failed : Bool) (why : RelayFault) → AreStanding did a
      → RelayOn did ldid ndid x y m n a b (record { failed = before; old = first; new = second }) None
      → StopsTelling (record { failed = failed; old = second; new = last }) why
      → RelaysStop did ldid ndid x m a (record { failed = failed; old = first; new = last }) why
  on_stops x y m n a b first second last before failed fault.NoMemory (tapping, all, stood) h (works, (some, wrote)) =
      let (one, written, none, stands) = h.parts tapping all stood in
      (works, (parts_text one ++ some, Appends-trans first second last (parts_text one) some written wrote))
  on_stops x y m n a b first second last before failed fault.Output standing h stops = stops
  on_stops x y m n a b first second last before failed fault.WaitFailed standing h (works, none) = (
    y,
    n,
    b,
    record {
      deeds = h.deeds;
      heard = h.heard;
      taken = h.taken;
      done = h.done;
      added = h.added;
      shortage = tt;
      works = works;
      parts = λ tapping all stood.
          let (one, wrote, nor, stands) = h.parts tapping all stood in (
            one,
            subst (λ (l : List ℕ). Appends first last l) (append-nil (parts_text one))
                (Appends-trans first second last (parts_text one) [] wrote none),
            nor,
            stands,
          );
    },
  )

  pub on_ends : (x y : L) (m n : N) (a b : Relays A S W) (output : Device)
      → RelayOn did ldid ndid x y m n a b output None → RelaysStop did ldid ndid x m a output fault.WaitFailed
  on_ends x y m n a b output h = (y, n, b, h)
