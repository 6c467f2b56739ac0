-- What goes on in a place stays of its kind, and so does its number.
use Rattle.std.proofs.Common.{◌≡◌, ◌∙◌, ℕ, ◌<◌, ◌⊎◌, Bool, true, false, List, [], ◌∷◌, ◌++◌, length, refl, Option, Some, None}
use Rattle.std.proofs.Common.{slice_set, sym, ap, subst, arith, inl, inr, replicate, suc, zero, ◌+◌}
use Rattle.std.specs.Bool.{⊤}
use Rattle.std.specs.List.{slice_get}
use Rattle.std.proofs.lemmas.Bool.{false≢true}
use Rattle.std.proofs.lemmas.Option.{none-some, same_Some, slice_get_within}
use Rattle.ws_machines.specs.Told.{Told}
use Rattle.ws_machines.specs.Machines.{Wants}
use Rattle.ws_loops.specs.Deeds.{Deed, Happened, all_told}
use Rattle.ws_loops.specs.Loops.{HasGoneOn, HaveRun}
use Rattle.ws_loops.specs.Places.{AreEmpty, Kind, StayOfKind, place_kind}
use Rattle.ws_loops.specs.Places.Kind.{Nothing, Slotted, UnderWay}
use Rattle.ws_loops.specs.Sinks.{lines_at}
use Rattle.ws_loops.specs.declared.places.Place.{Place}
use Rattle.ws_loops.specs.declared.places.Place.TheVariants.{Broken, Empty, Open, Pending}
use Rattle.ws_loops.specs.declared.slot.Slot.{Slot}
use Rattle.ws_loops.specs.declared.watch.Watch.{Watch}
use Rattle.ws_loops.proofs.PlaceLemmas.{get_set_other, get_set_same, length_set, place_of, set_cases, set_same, set_twice}
use Rattle.ws_clients.specs.Clients.{IsOfPlayer, IsPlayer, PlayNoMore, PlayNothing, PlayedOnly, PlaysAt, WasNoneHeld}
use Rattle.ws_clients.specs.Clients.{IsOfPlace, held_stream, held_streams}
use Rattle.ws_clients.specs.declared.clients.Held.{Held}
use Rattle.ws_clients.specs.declared.clients.Event.{Event}
use Rattle.ws_clients.specs.declared.clients.Event.TheVariants.{Deaf, Decided, Full, Gone, Played, TooLate}
use Rattle.std.proofs.Common.{IfSome}
use Rattle.ws_clients.specs.Numbers.{AreNumbers, AreNumbersBut, AreNumbersSound, AreUnnumbered, IsNumberOf, IsNumberOn, client_number}
use Rattle.ws_clients.specs.Numbers.{numbers_left, stream_at}
use Rattle.ws_clients.specs.Talks.{IsTalkOf, agrees_talk}
use Rattle.ws_clients.specs.declared.talking.Talk.{Talk}
use Rattle.ws_clients.specs.declared.talking.Talk.TheVariants.{Admits, Leaves, Plays}
use Rattle.ws_clients.proofs.NumberLemmas.{are_put, are_taken, none_there, number_other, number_same}

-- one is of the kind of the other
abbrev pub SameTalk : {M : Type 0} → Talk M → Talk M → Type 0
SameTalk (Admits old) (Admits new) = ⊤
SameTalk (Plays old) (Plays new) = ⊤
SameTalk (Leaves old) (Leaves new) = ⊤
SameTalk _ _ = ⊥

module _ {M : Type 0} where
  same_start : (agrees : M → M → List Told → Type 0) (start now : Talk M) (told : List Told)
      → agrees_talk agrees start now told → SameTalk start now
  same_start agrees (Admits start) (Admits now) told h = tt
  same_start agrees (Admits start) (Plays now) told h = absurd h
  same_start agrees (Admits start) (Leaves now) told h = absurd h
  same_start agrees (Plays start) (Admits now) told h = absurd h
  same_start agrees (Plays start) (Plays now) told h = tt
  same_start agrees (Plays start) (Leaves now) told h = absurd h
  same_start agrees (Leaves start) (Admits now) told h = absurd h
  same_start agrees (Leaves start) (Plays now) told h = absurd h
  same_start agrees (Leaves start) (Leaves now) told h = tt

  same_both : (start old new : Talk M) → SameTalk start old → SameTalk start new → SameTalk old new
  same_both (Admits start) (Admits old) (Admits new) h k = tt
  same_both (Plays start) (Plays old) (Plays new) h k = tt
  same_both (Leaves start) (Leaves old) (Leaves new) h k = tt
  same_both (Admits start) (Admits old) (Plays new) h k = absurd k
  same_both (Admits start) (Admits old) (Leaves new) h k = absurd k
  same_both (Plays start) (Plays old) (Admits new) h k = absurd k
  same_both (Plays start) (Plays old) (Leaves new) h k = absurd k
  same_both (Leaves start) (Leaves old) (Admits new) h k = absurd k
  same_both (Leaves start) (Leaves old) (Plays new) h k = absurd k
  same_both (Admits start) (Plays old) new h k = absurd h
  same_both (Admits start) (Leaves old) new h k = absurd h
  same_both (Plays start) (Admits old) new h k = absurd h
  same_both (Plays start) (Leaves old) new h k = absurd h
  same_both (Leaves start) (Admits old) new h k = absurd h
  same_both (Leaves start) (Plays old) new h k = absurd h

  player_before : (old new : Talk M) → SameTalk old new → IsPlayer new → IsPlayer old
  player_before (Plays old) (Plays new) h is = tt
  player_before (Admits old) (Plays new) h is = absurd h
  player_before (Leaves old) (Plays new) h is = absurd h
  player_before old (Admits new) h is = absurd is
  player_before old (Leaves new) h is = absurd is

  number_after : (old new : Talk M) (number : Option ℕ) → SameTalk old new → IsNumberOf old number
      → IsNumberOf new number
  number_after (Admits old) (Admits new) number h is = is
  number_after (Plays old) (Plays new) number h is = is
  number_after (Leaves old) (Leaves new) number h is = is
  number_after (Admits old) (Plays new) number h is = absurd h
  number_after (Admits old) (Leaves new) number h is = absurd h
  number_after (Plays old) (Admits new) number h is = absurd h
  number_after (Plays old) (Leaves new) number h is = absurd h
  number_after (Leaves old) (Admits new) number h is = absurd h
  number_after (Leaves old) (Plays new) number h is = absurd h

-- a place where something is played
abbrev pub PlaysIn : {M S : Type 0} → Place (Talk M) S → Type 0
PlaysIn Empty = ⊥
PlaysIn (Open slot) = IsPlayer slot.machine
PlaysIn (Pending watch) = ⊥
PlaysIn Broken = ⊥

abbrev is_under : Kind → Type 0
is_under Nothing = ⊥
is_under Slotted = ⊥
is_under (UnderWay until) = ⊤

abbrev is_nothing_kind : Kind → Type 0
is_nothing_kind Nothing = ⊤
is_nothing_kind Slotted = ⊥
is_nothing_kind (UnderWay until) = ⊥

module _ {M S : Type 0} (agrees : M → M → List Told → Type 0) (did : S → S → List Deed → Type 0) where
  -- a slot that stands there stood there before, with what is of the same kind
  pub talked_on : (wants : Talk M → Wants) (from to : ℕ) (known : List (List ℕ)) (x : Place (Talk M) S)
      (slot : Slot (Talk M) S) (lines : List (List ℕ))
      → HasGoneOn (agrees_talk agrees) wants did from to x (Open slot) lines
      → ((old : Slot (Talk M) S) → x ≡ Open old → IsTalkOf agrees did known old)
      → (old : Slot (Talk M) S) × (x ≡ Open old) × SameTalk old.machine slot.machine
  talked_on wants from to known Empty slot lines h before = absurd h
  talked_on wants from to known (Pending watch) slot lines h before = absurd h
  talked_on wants from to known Broken slot lines h before = absurd h
  talked_on wants from to known (Open old) slot lines (more, run, shown) before =
      let talk = before old refl in (
        old,
        refl,
        same_both talk.start old.machine slot.machine
            (same_start agrees talk.start old.machine (all_told talk.happened) talk.told)
            (same_start agrees talk.start slot.machine (all_told talk.happened ++ all_told more)
            (run.told talk.start (all_told talk.happened) talk.told)),
      )

  module _ {K : Type 0} (wants : Talk M → Wants) (heard : K → K → List (ℕ × List ℕ) → Type 0) (from to : ℕ)
      (known : List (List ℕ)) (old new : List (Place (Talk M) S)) (s t : K) (kinds : StayOfKind old new)
      (h : HaveRun (agrees_talk agrees) wants did heard from to old new s t)
      (talks : (i : ℕ) (slot : Slot (Talk M) S) → slice_get old i ≡ Some (Open slot) → IsTalkOf agrees did known slot)
    where
      -- each slot was one of the same kind
      slot_before : (i : ℕ) (slot : Slot (Talk M) S) → slice_get new i ≡ Some (Open slot)
          → (before : Slot (Talk M) S) × (slice_get old i ≡ Some (Open before))
          × SameTalk before.machine slot.machine
      slot_before i slot is =
          let (x, x_is) = place_of old i (omega (arith, kinds.len, slice_get_within new i (Open slot) is)) in
          let (before, same, kind) = talked_on wants from to known x slot (lines_at i h.all)
          (h.each i x (Open slot) x_is is)
          (λ z same. talks i z (x_is ∙ ap (λ (p : Place (Talk M) S). Some p) same)) in
          (before, x_is ∙ ap (λ (p : Place (Talk M) S). Some p) same, kind)

      -- nothing is played where nothing was
      pub runs_only : PlayNoMore old new
      runs_only at (slot, is, player) =
          let (before, was, kind) = slot_before at slot is in
          (before, was, player_before before.machine slot.machine kind player)

      place_number : (numbers : List (Option ℕ)) → ((i : ℕ) (place : Place (Talk M) S) → slice_get old i ≡ Some place
          → IsNumberOn place (client_number numbers i)) → (i : ℕ) (place : Place (Talk M) S)
          → slice_get new i ≡ Some place → IsNumberOn place (client_number numbers i)
      place_number numbers each i (Open slot) is =
          let (before, was, kind) = slot_before i slot is in
          number_after before.machine slot.machine (client_number numbers i) kind (each i (Open before) was)
      place_number numbers each i Empty is =
          let (x, x_is) = place_of old i (omega (arith, kinds.len, slice_get_within new i Empty is)) in
          by x (kinds.each i x Empty x_is is) (each i x x_is)
        where
          by : (x : Place (Talk M) S) → place_kind {M = Talk M} {S = S} Empty ≡ place_kind x
              → IsNumberOn x (client_number numbers i) → client_number numbers i ≡ None
          by Empty e number = number
          by (Open slot) e number = absurd (subst (λ k. is_nothing_kind k) e tt)
          by (Pending watch) e number = absurd (subst (λ k. is_nothing_kind k) e tt)
          by Broken e number = absurd (subst (λ k. is_nothing_kind k) e tt)
      place_number numbers each i (Pending watch) is =
          let (x, x_is) = place_of old i (omega (arith, kinds.len, slice_get_within new i (Pending watch) is)) in
          by x (kinds.each i x (Pending watch) x_is is) (each i x x_is)
        where
          by : (x : Place (Talk M) S) → place_kind {M = Talk M} {S = S} (Pending watch) ≡ place_kind x
              → IsNumberOn x (client_number numbers i) → (n : ℕ) × (client_number numbers i ≡ Some n)
          by (Pending other) e number = number
          by Empty e number = absurd (subst (λ k. is_under k) e tt)
          by (Open slot) e number = absurd (subst (λ k. is_under k) e tt)
          by Broken e number = absurd (subst (λ k. is_under k) e tt)
      place_number numbers each i Broken is = tt

      -- the numbers stay right
      pub numbers_run : (taken : ℕ) (numbers : List (Option ℕ)) → AreNumbersSound old taken numbers false
          → AreNumbersSound new taken numbers false
      numbers_run taken numbers sound = record {
        len = sound.len ∙ sym kinds.len;
        are = sound.are;
        each = λ runs. place_number numbers (sound.each refl);
      }

-- ---- a change of one place

module _ {M S : Type 0} where
  -- nothing of it is known where the loop was stopped
  pub numbers_stopped : (old new : List (Place (Talk M) S)) (taken : ℕ) (numbers : List (Option ℕ)) (broken : Bool)
      → StayOfKind old new → AreNumbersSound old taken numbers broken → AreNumbersSound new taken numbers true
  numbers_stopped old new taken numbers broken kinds sound = record {
    len = sound.len ∙ sym kinds.len;
    are = sound.are;
    each = λ runs. absurd (false≢true (sym runs));
  }

  -- so it is also but for this place
  pub numbers_but : (at : ℕ) (places : List (Place (Talk M) S)) (taken : ℕ) (numbers : List (Option ℕ))
      (broken : Bool) → AreNumbersSound places taken numbers broken → AreNumbersBut at places taken numbers broken
  numbers_but at places taken numbers broken sound = record {
    len = sound.len ∙ sym (length_set places at Broken);
    are = sound.are;
    each = λ runs i place is. by runs i place (set_cases places at Broken i place is);
  }
    where
      by : broken ≡ false → (i : ℕ) (place : Place (Talk M) S)
          → ((i ≡ at) × (place ≡ Broken)) ⊎ ((i ≡ at → ⊥) × (slice_get places i ≡ Some place))
          → IsNumberOn place (client_number numbers i)
      by runs i place (inl same) = subst (λ (p : Place (Talk M) S). IsNumberOn p (client_number numbers i)) (sym same.1) tt
      by runs i place (inr far) = sound.each runs i place far.1

  -- where something else stands there, it is no other of the rest
  pub but_set : (at : ℕ) (places : List (Place (Talk M) S)) (x : Place (Talk M) S) (taken : ℕ)
      (numbers : List (Option ℕ)) (broken : Bool) → AreNumbersBut at (slice_set places at x) taken numbers broken
      → AreNumbersBut at places taken numbers broken
  but_set at places x taken numbers broken = subst (λ (l : List (Place (Talk M) S)).
      AreNumbersSound l taken numbers broken) (set_twice places at x Broken)

  -- with this in the place, for which its number is right
  pub numbers_put : (at : ℕ) (old new : List (Place (Talk M) S)) (y : Place (Talk M) S) (taken : ℕ)
      (numbers : List (Option ℕ)) (broken : Bool) → new ≡ slice_set old at y
      → (broken ≡ false → IsNumberOn y (client_number numbers at)) → AreNumbersBut at old taken numbers broken
      → AreNumbersSound new taken numbers broken
  numbers_put at old new y taken numbers broken set right but = record {
    len = but.len ∙ (length_set old at Broken
        ∙ sym (ap (λ (l : List (Place (Talk M) S)). length l) set ∙ length_set old at y));
    are = but.are;
    each = λ runs i place is. by runs i place (set_cases old at y i place
        (sym (ap (λ (l : List (Place (Talk M) S)). slice_get l i) set) ∙ is));
  }
    where
      by : broken ≡ false → (i : ℕ) (place : Place (Talk M) S)
          → ((i ≡ at) × (place ≡ y)) ⊎ ((i ≡ at → ⊥) × (slice_get old i ≡ Some place))
          → IsNumberOn place (client_number numbers i)
      by runs i place (inl same) = subst (λ (p : Place (Talk M) S). IsNumberOn p (client_number numbers i)) (sym same.1)
          (subst (λ (j : ℕ). IsNumberOn y (client_number numbers j)) (sym same.0) (right runs))
      by runs i place (inr far) = but.each runs i place (get_set_other old at i Broken far.0 ∙ far.1)

  -- with another number there
  but_numbered : (at : ℕ) (old : List (Place (Talk M) S)) (v : Option ℕ) (taken now : ℕ) (numbers : List (Option ℕ))
      (broken : Bool) → AreNumbers now (slice_set numbers at v) → AreNumbersBut at old taken numbers broken
      → AreNumbersBut at old now (slice_set numbers at v) broken
  but_numbered at old v taken now numbers broken are but = record {
    len = length_set numbers at v ∙ but.len;
    are = are;
    each = λ runs i place is. by runs i place is (set_cases old at Broken i place is);
  }
    where
      by : broken ≡ false → (i : ℕ) (place : Place (Talk M) S) → slice_get (slice_set old at Broken) i ≡ Some place
          → ((i ≡ at) × (place ≡ Broken)) ⊎ ((i ≡ at → ⊥) × (slice_get old i ≡ Some place))
          → IsNumberOn place (client_number (slice_set numbers at v) i)
      by runs i place is (inl same) = subst (λ (p : Place (Talk M) S).
          IsNumberOn p (client_number (slice_set numbers at v) i)) (sym same.1) tt
      by runs i place is (inr far) = subst (λ (o : Option ℕ). IsNumberOn place o)
          (sym (number_other numbers at v i far.0)) (but.each runs i place is)

  -- one has come to this place, and has the next number
  pub numbers_came : (at : ℕ) (old new : List (Place (Talk M) S)) (slot : Slot (Talk M) S) (taken now : ℕ)
      (numbers after : List (Option ℕ)) (broken : Bool) → at < length old → new ≡ slice_set old at (Open slot)
      → now ≡ taken + 1 → after ≡ slice_set numbers at (Some (taken + 1))
      → ((n : ℕ) → IsNumberOf slot.machine (Some n)) → slice_get numbers at ≡ Some None
      → AreNumbersSound old taken numbers broken → AreNumbersSound new now after broken
  numbers_came at old new slot taken now numbers after broken within set next put right none sound =
      subst (λ (n : ℕ). AreNumbersSound new n after broken) (sym next)
      (subst (λ (l : List (Option ℕ)). AreNumbersSound new (taken + 1) l broken) (sym put)
      (numbers_put at old new (Open slot) (taken + 1) (slice_set numbers at (Some (taken + 1))) broken set
      (λ runs. subst (λ (o : Option ℕ). IsNumberOf slot.machine o)
      (sym (number_same numbers at (Some (taken + 1)) (slice_get_within numbers at None none))) (right (taken + 1)))
      (but_numbered at old (Some (taken + 1)) taken (taken + 1) numbers broken (are_put taken numbers at none sound.are)
      (numbers_but at old taken numbers broken sound))))

  -- the one that was there has none any more
  pub numbers_lost : (at : ℕ) (old new : List (Place (Talk M) S)) (y : Place (Talk M) S) (taken : ℕ)
      (numbers after : List (Option ℕ)) (broken : Bool) → at < length old → new ≡ slice_set old at y
      → after ≡ slice_set numbers at None → IsNumberOn y None → AreNumbersBut at old taken numbers broken
      → AreNumbersSound new taken after broken
  numbers_lost at old new y taken numbers after broken within set put right but =
      subst (λ (l : List (Option ℕ)). AreNumbersSound new taken l broken) (sym put)
      (numbers_put at old new y taken (slice_set numbers at None) broken set
      (λ runs. subst (λ (o : Option ℕ). IsNumberOn y o) (sym (number_same numbers at None
      (omega (arith, but.len, length_set old at Broken, within)))) right)
      (but_numbered at old None taken taken numbers broken (are_taken taken numbers at but.are) but))

  -- it is taken out of its place, where it can stand again
  pub stands_again : (old new : List (Place (Talk M) S)) (at : ℕ) (x y : Place (Talk M) S)
      → slice_get old at ≡ Some x → new ≡ slice_set old at y → slice_set new at x ≡ old
  stands_again old new at x y is set = ap (λ (l : List (Place (Talk M) S)). slice_set l at x) set
      ∙ (set_twice old at y x ∙ set_same old at x is)

  -- nothing stands in the place of a list that has no number
  pub none_waits_there : (places : List (Place (Talk M) S)) (taken : ℕ) (numbers : List (Option ℕ)) (broken : Bool)
      (at : ℕ) → broken ≡ false → slice_get places at ≡ Some Empty → AreNumbersSound places taken numbers broken
      → slice_get numbers at ≡ Some None
  none_waits_there places taken numbers broken at runs is sound =
      none_there numbers at (omega (arith, sound.len, slice_get_within places at Empty is)) (sound.each runs at Empty is)

  -- nothing is played there
  pub only_set : (old new : List (Place (Talk M) S)) (at : ℕ) (y : Place (Talk M) S) → new ≡ slice_set old at y
      → (PlaysIn y → ⊥) → PlayNoMore old new
  only_set old new at y set none i (slot, is, player) = by (set_cases old at y i (Open slot)
      (sym (ap (λ (l : List (Place (Talk M) S)). slice_get l i) set) ∙ is))
    where
      by : ((i ≡ at) × (Open slot ≡ y)) ⊎ ((i ≡ at → ⊥) × (slice_get old i ≡ Some (Open slot))) → PlaysAt old i
      by (inl same) = absurd (none (subst (λ (p : Place (Talk M) S). PlaysIn p) same.1 player))
      by (inr far) = (slot, far.1, player)

  -- it is played there, and else only where something was
  pub only_there : (old new : List (Place (Talk M) S)) (at : ℕ) (y : Place (Talk M) S) → new ≡ slice_set old at y
      → (other : ℕ) → PlaysAt new other → (other ≡ at) ⊎ PlaysAt old other
  only_there old new at y set i (slot, is, player) = by (set_cases old at y i (Open slot)
      (sym (ap (λ (l : List (Place (Talk M) S)). slice_get l i) set) ∙ is))
    where
      by : ((i ≡ at) × (Open slot ≡ y)) ⊎ ((i ≡ at → ⊥) × (slice_get old i ≡ Some (Open slot)))
          → (i ≡ at) ⊎ PlaysAt old i
      by (inl same) = inl same.0
      by (inr far) = inr (slot, far.1, player)

  -- all the rest stays where something else stands in this place
  pub but_moved : (at : ℕ) (old new : List (Place (Talk M) S)) (y : Place (Talk M) S) (taken : ℕ)
      (numbers : List (Option ℕ)) (broken : Bool) → new ≡ slice_set old at y
      → AreNumbersBut at old taken numbers broken → AreNumbersBut at new taken numbers broken
  but_moved at old new y taken numbers broken set = subst (λ (l : List (Place (Talk M) S)).
      AreNumbersSound l taken numbers broken)
      (sym (ap (λ (l : List (Place (Talk M) S)). slice_set l at Broken) set ∙ set_twice old at y Broken))

  -- the number of what stood in this place
  pub number_there : (at : ℕ) (places : List (Place (Talk M) S)) (slot : Slot (Talk M) S) (taken : ℕ)
      (numbers : List (Option ℕ)) (broken : Bool) → broken ≡ false → slice_get places at ≡ Some Empty
      → AreNumbersSound (slice_set places at (Open slot)) taken numbers broken
      → IsNumberOf slot.machine (client_number numbers at)
  number_there at places slot taken numbers broken runs empty sound = sound.each runs at (Open slot)
      (get_set_same places at (Open slot) (slice_get_within places at Empty empty))

  -- the place of one that was left is empty
  pub numbers_empty : (at : ℕ) (places : List (Place (Talk M) S)) (slot : Slot (Talk M) S) (taken : ℕ)
      (numbers : List (Option ℕ)) (broken : Bool) → broken ≡ false → slice_get places at ≡ Some Empty
      → (IsNumberOf slot.machine (client_number numbers at) → client_number numbers at ≡ None)
      → AreNumbersSound (slice_set places at (Open slot)) taken numbers broken
      → AreNumbersSound places taken numbers broken
  numbers_empty at places slot taken numbers broken runs empty none sound =
      numbers_put at places places Empty taken numbers broken (sym (set_same places at Empty empty))
      (λ goes. none (number_there at places slot taken numbers broken runs empty sound))
      (but_set at places (Open slot) taken numbers broken
      (numbers_but at (slice_set places at (Open slot)) taken numbers broken sound))

  -- it is told only of what was played there
  pub played_only : {E W : Type 0} (old new : List (Place (Talk M) S)) (at : ℕ) (slot : Slot (Talk M) S)
      (came : Option (Event E W)) → slice_get old at ≡ Some (Open slot) → PlayNoMore old new
      → IfSome came (IsOfPlayer slot.machine)
      → ((place : ℕ) (end : E) → came ≡ Some (Played place end) → place ≡ at) → PlayedOnly old new came
  played_only old new at slot None is only player of = only
  played_only old new at slot (Some (Played place end)) is only player of =
      (only, subst (λ (j : ℕ). PlaysAt old j) (sym (of place end refl)) (slot, is, player))
  played_only old new at slot (Some (Decided place admission)) is only player of = (only, tt)
  played_only old new at slot (Some (Gone place number)) is only player of = (only, tt)
  played_only old new at slot (Some TooLate) is only player of = (only, tt)
  played_only old new at slot (Some (Full why)) is only player of = (only, tt)
  played_only old new at slot (Some (Deaf why)) is only player of = (only, tt)

  -- and where nothing was
  pub only_so : {E W : Type 0} (a b c : List (Place (Talk M) S)) (came : Option (Event E W)) → PlayNoMore a b
      → PlayedOnly b c came → PlayedOnly a c came
  only_so a b c None h k = λ at plays. h at (k at plays)
  only_so a b c (Some (Played place end)) h k = (λ at plays. h at (k.0 at plays), h place k.1)
  only_so a b c (Some (Decided place admission)) h k = (λ at plays. h at (k.0 at plays), tt)
  only_so a b c (Some (Gone place number)) h k = (λ at plays. h at (k.0 at plays), tt)
  only_so a b c (Some TooLate) h k = (λ at plays. h at (k.0 at plays), tt)
  only_so a b c (Some (Full why)) h k = (λ at plays. h at (k.0 at plays), tt)
  only_so a b c (Some (Deaf why)) h k = (λ at plays. h at (k.0 at plays), tt)

  pub only_none : {E W : Type 0} (a b : List (Place (Talk M) S)) (came : Option (Event E W)) → came ≡ None
      → PlayedOnly a b came → PlayNoMore a b
  only_none {E} {W} a b came none h = subst (λ (o : Option (Event E W)). PlayedOnly a b o) none h

  pub only_then : (a b c : List (Place (Talk M) S)) → PlayNoMore a b → PlayNoMore b c → PlayNoMore a c
  only_then a b c h k at plays = h at (k at plays)

  pub only_same : (a b : List (Place (Talk M) S)) → b ≡ a → PlayNoMore a b
  only_same a b same at plays = subst (λ (l : List (Place (Talk M) S)). PlaysAt l at) same plays

  pub plays_nothing : (places : List (Place (Talk M) S)) → AreEmpty places → PlayNothing places
  plays_nothing places empty at (slot, is, player) =
      subst (λ (p : Place (Talk M) S). PlaysIn p) (empty at (Open slot) is) player

  -- nobody has come
  pub numbers_new : (places : List (Place (Talk M) S)) (len : ℕ) (numbers : List (Option ℕ)) → length places ≡ len
      → AreEmpty places → length numbers ≡ len → AreUnnumbered numbers → AreNumbersSound places 0 numbers false
  numbers_new places len numbers places_len empty numbers_len none = record {
    len = numbers_len ∙ sym places_len;
    are = record {
      given = λ at n there. absurd (none-some n (sym (none at) ∙ there));
      apart = λ at other n there also. absurd (none-some n (sym (none at) ∙ there));
    };
    each = λ runs i place there. subst (λ (p : Place (Talk M) S). IsNumberOn p (client_number numbers i))
        (sym (empty i place there)) (none i);
  }

-- the place that is told is the one that it is told of
pub of_place : {S E W : Type 0} (did : S → S → List Deed → Type 0) (at : ℕ) (known : List (List ℕ))
    (came : Option (Event E W)) → IfSome came (λ event. IsOfPlace did at known event) → (place : ℕ) (end : E)
    → came ≡ Some (Played place end) → place ≡ at
of_place {S} {E} {W} did at known came h place end is =
    subst (λ (o : Option (Event E W)). IfSome o (λ event. IsOfPlace did at known event)) is h

-- ---- the numbers of those that are left

module _ {S : Type 0} where
  stream_there : (held : List (Option (Held S))) (at : ℕ) (x : Option (Held S)) → slice_get held at ≡ Some x
      → stream_at (held_streams held) at ≡ held_stream x
  stream_there [] at x is = absurd (none-some x is)
  stream_there (y ∷ held) zero x is = ap (λ (o : Option (Held S)). held_stream o) (same_Some y x is)
  stream_there (y ∷ held) (suc at) x is = stream_there held at x is

  no_stream_there : (held : List (Option (Held S))) (at : ℕ) → WasNoneHeld at held None
      → stream_at (held_streams held) at ≡ None
  no_stream_there [] at none = refl
  no_stream_there (None ∷ held) zero none = refl
  no_stream_there (Some h ∷ held) zero none = absurd (none h refl)
  no_stream_there (y ∷ held) (suc at) none = no_stream_there held at none

  pub left_held : (held : List (Option (Held S))) (at : ℕ) (h : Held S) (numbers after : List (Option ℕ))
      → slice_get held at ≡ Some (Some h) → after ≡ slice_set numbers at None
      → after ≡ numbers_left (stream_at (held_streams held) at) at numbers
  left_held held at h numbers after is set = set ∙ sym (ap (λ (o : Option S). numbers_left o at numbers)
      (stream_there held at (Some h) is))

  pub left_none : (held : List (Option (Held S))) (at : ℕ) (numbers : List (Option ℕ)) → WasNoneHeld at held None
      → numbers ≡ numbers_left (stream_at (held_streams held) at) at numbers
  left_none held at numbers none = sym (ap (λ (o : Option S). numbers_left o at numbers) (no_stream_there held at none))
