-- Clients in one loop: what goes on in their places is kept by a run, and by a change of one of them.
use Rattle.std.proofs.Common.{◌≡◌, ◌∙◌, ℕ, ◌<◌, ◌≤◌, ◌⊎◌, Bool, true, false, List, [], ◌∷◌, ◌++◌, length, refl, Option, Some, None}
use Rattle.std.proofs.Common.{Bor, map, suc, zero, slice_set, sym, ap, subst, arith, inl, inr, nat_eq, ◌≢◌, append_assoc, append-nil}
use Rattle.std.specs.Bool.{⊤}
use Rattle.std.specs.List.{slice_get}
use Rattle.std.proofs.lemmas.Bool.{false≢true, le-leb, leb-true}
use Rattle.std.proofs.lemmas.Bool.Decides.{eqb_tells}
use Rattle.std.proofs.lemmas.Grind.{flat_map-append}
use Rattle.std.proofs.lemmas.Option.{none-some, same_Some, slice_get_within}
use Rattle.std.proofs.Common.{IfOk, IfSome, OnOk}
use Rattle.std.specs.Prelude.{Result, Ok, Err}
use Rattle.std.specs.List.{concat}
use Rattle.std.proofs.lemmas.List.Folds.{concat-append}
use Rattle.ws_machines.specs.Told.{Told}
use Rattle.ws_machines.specs.Told.Told.{Came, DeadlinePassed, DirectionEnded, Ended, NothingCame, ReadFailed, Reported}
use Rattle.ws_machines.specs.Told.Told.{Taken, WriteFailed}
use Rattle.ws_machines.specs.Machines.{Extends, HasNext, Wants, told_at}
use Rattle.ws_machines.specs.declared.stream.StreamEvent.{StreamEvent}
use Rattle.ws_loops.specs.Deeds.{Deed, Happened, HasDone, all_done, all_shown, all_told, done_by, shown_by}
use Rattle.ws_loops.specs.Deeds.{told_by}
use Rattle.ws_loops.specs.Deeds.Deed.{Did, Emptied, HadNone, Passed, Showed, TookNone, Woken}
use Rattle.ws_loops.specs.Listeners.{AcceptDeed, HasArrived, HasHeardFor}
use Rattle.ws_loops.specs.Loops.{HasGoneOn, HaveRun}
use Rattle.ws_loops.specs.Looping.{LoopValue}
use Rattle.ws_loops.specs.Paces.{has_ended_by}
use Rattle.ws_loops.specs.Places.{AreEmpty, IsOverAt, IsPlaceOver, Kind, StayOfKind, place_kind}
use Rattle.ws_loops.specs.Places.Kind.{Nothing, Slotted, UnderWay}
use Rattle.ws_loops.specs.Sinks.{lines_at}
use Rattle.ws_loops.specs.Slots.{AreSteps, HasRunBy, IsNextDeed}
use Rattle.ws_loops.specs.declared.listening.Arrival.{Arrival}
use Rattle.ws_loops.specs.declared.listening.Arrival.TheVariants as arrival
use Rattle.ws_loops.specs.declared.pace.Pace.{Pace}
use Rattle.ws_loops.specs.declared.places.Place.{Place}
use Rattle.ws_loops.specs.declared.places.Place.TheVariants.{Broken, Empty, Open, Pending}
use Rattle.ws_loops.specs.declared.slot.Slot.{Slot}
use Rattle.ws_loops.specs.declared.watch.Watch.{Watch}
use Rattle.ws_loops.proofs.PlaceLemmas.{get_set_other, get_set_same, length_set, place_of, set_cases, set_same}
use Rattle.ws_loops.proofs.PlaceLemmas.{set_twice}
use Rattle.ws_loops.proofs.RunLemmas.{shown_then}
use Rattle.ws_loops.proofs.SinkLemmas.{lines_then, put_nothing, put_then}
use Rattle.ws_upgrade.specs.Protocols.{AreOffers}
use Rattle.ws_handshake.specs.Admissions.{AdmitGives, AdmitValue, WasAdmitted}
use Rattle.ws_handshake.specs.declared.admission.Admission.{Admission}
use Rattle.ws_clients.specs.Clients.{AreClientsSound, AreNoneHeld, ClientsValue, EndsAtOnce, EndsSlot, HasBecome, HasCome}
use Rattle.ws_clients.specs.Clients.{HasGoneOnTo, HasLines, HoldsBehind, IsAwaitedAt, IsHeldAt, IsLeaver, IsLeftAt}
use Rattle.ws_clients.specs.Clients.{IsLimitAt, IsOfPlace, LingersAt}
use Rattle.ws_clients.specs.Clients.{IsDeaf, IsPlayEnd, IsPlaying, IsTakenOut, KeepsPlays, PlaysOn, PlaysThere}
use Rattle.ws_clients.specs.Clients.{IsNewlyHeld, StandsWhere, StayHeld, WasInVain, WasNoneHeld, held_stream, held_streams}
use Rattle.ws_clients.specs.Clients.{IsPlayedOut, PlayNoMore, PlayedOnly, PlaysAt, TellsPlayed, line_told, lines_told}
use Rattle.ws_clients.specs.Numbers.{IsNoMore, TakesIn, numbers_left, stream_at}
use Rattle.ws_clients.specs.Leaving.{LeaveValue, WasLeft, wanted_to_leave}
use Rattle.ws_clients.specs.Talks.{BeginsTalk, IsAdmission, IsTalkOf, agrees_talk, wants_talk}
use Rattle.ws_clients.specs.declared.clients.Event.{Event}
use Rattle.ws_clients.specs.declared.clients.Event.TheVariants.{Deaf, Decided, Full, Gone, Played, TooLate}
use Rattle.ws_clients.specs.declared.clients.Held.{Held}
use Rattle.ws_clients.specs.declared.talking.Talk.{Talk}
use Rattle.ws_clients.specs.declared.talking.Talk.TheVariants.{Admits, Leaves, Plays}

abbrev is_under : Kind → Type 0
is_under Nothing = ⊥
is_under Slotted = ⊥
is_under (UnderWay until) = ⊤

-- no slot stands in it, and memory ran out for none
abbrev pub NoneThere : {M S : Type 0} → Place M S → Type 0
NoneThere Empty = ⊤
NoneThere (Open slot) = ⊥
NoneThere (Pending watch) = ⊤
NoneThere Broken = ⊥

-- it is not kept for a client
abbrev pub NotAwaited : {M S : Type 0} → Place M S → Type 0
NotAwaited Empty = ⊤
NotAwaited (Open slot) = ⊤
NotAwaited (Pending watch) = ⊥
NotAwaited Broken = ⊤

-- ---- what is held, and who is left

-- what was held beside a place is taken out
taken_out : {S : Type 0} (at : ℕ) (held : List (Option (Held S))) (x : Option (Held S))
    → slice_get held at ≡ Some x → IsTakenOut at held (slice_set held at None) x
taken_out at held None is = set_same held at None is
taken_out at held (Some h) is = (is, refl)

pub taken_so : {S : Type 0} (at : ℕ) (held : List (Option (Held S))) (x y : Option (Held S))
    → slice_get held at ≡ Some x → y ≡ None → IsTakenOut at held (slice_set held at y) x
taken_so {S} at held x y is none = subst (λ (z : Option (Held S)). IsTakenOut at held (slice_set held at z) x) (sym none)
    (taken_out at held x is)

pub none_so : {S : Type 0} (at : ℕ) (held : List (Option (Held S))) (x : Option (Held S)) → slice_get held at ≡ Some x
    → WasNoneHeld at held x
none_so at held None is = λ h h_is. none-some h (same_Some None (Some h) (sym is ∙ h_is))
none_so at held (Some h) is = tt

-- ---- the streams that are held

module _ {S : Type 0} where
  pub held_get : (held : List (Option (Held S))) (i : ℕ) (h : Held S) → slice_get held i ≡ Some (Some h)
      → IsHeldAt (held_streams held) i h.stream
  held_get [] i h is = absurd (none-some (Some h) is)
  held_get (x ∷ held) zero h is = ap (λ (o : Option (Held S)). Some (held_stream o)) (same_Some x (Some h) is)
  held_get (x ∷ held) (suc i) h is = held_get held i h is

  held_here : (x : Option (Held S)) (stream : S) → held_stream x ≡ Some stream
      → (h : Held S) × (Some x ≡ Some (Some h)) × (h.stream ≡ stream)
  held_here None stream e = absurd (none-some stream e)
  held_here (Some h) stream e = (h, refl, same_Some h.stream stream e)

  held_of : (held : List (Option (Held S))) (i : ℕ) (stream : S) → IsHeldAt (held_streams held) i stream
      → (h : Held S) × (slice_get held i ≡ Some (Some h)) × (h.stream ≡ stream)
  held_of [] i stream is = absurd (none-some (Some stream) is)
  held_of (x ∷ held) zero stream is = held_here x stream (same_Some (held_stream x) (Some stream) is)
  held_of (x ∷ held) (suc i) stream is = held_of held i stream is

  -- it is the stream of what is held there
  pub held_same : (held : List (Option (Held S))) (i : ℕ) (h : Held S) (stream : S) → slice_get held i ≡ Some (Some h)
      → IsHeldAt (held_streams held) i stream → h.stream ≡ stream
  held_same held i h stream is held_is =
      same_Some h.stream stream (same_Some (Some h.stream) (Some stream) (sym (held_get held i h is) ∙ held_is))

  streams_set : (held : List (Option (Held S))) (i : ℕ) (x : Option (Held S))
      → held_streams (slice_set held i x) ≡ slice_set (held_streams held) i (held_stream x)
  streams_set [] i x = refl
  streams_set (y ∷ held) zero x = refl
  streams_set (y ∷ held) (suc i) x = ap (λ (l : List (Option S)). held_stream y ∷ l) (streams_set held i x)

  set_none : (held : List (Option S)) (at : ℕ) → ((stream : S) → IsHeldAt held at stream → ⊥)
      → slice_set held at None ≡ held
  set_none [] at none = refl
  set_none (None ∷ held) zero none = refl
  set_none (Some stream ∷ held) zero none = absurd (none stream refl)
  set_none (x ∷ held) (suc at) none = ap (λ (l : List (Option S)). x ∷ l) (set_none held at none)

  -- where nothing is held there is no stream
  pub no_stream : (held : List (Option (Held S))) (at : ℕ) → WasNoneHeld at held None → (stream : S)
      → IsHeldAt (held_streams held) at stream → ⊥
  no_stream held at none stream is = let (h, h_is, same) = held_of held at stream is in none h h_is

  -- the streams without what was taken out
  pub streams_taken : (held after : List (Option (Held S))) (at : ℕ) → after ≡ slice_set held at None
      → held_streams after ≡ slice_set (held_streams held) at None
  streams_taken held after at set =
      ap (λ (l : List (Option (Held S))). held_streams l) set ∙ streams_set held at None

  pub streams_none : (held after : List (Option (Held S))) (at : ℕ) → after ≡ held → WasNoneHeld at held None
      → held_streams after ≡ slice_set (held_streams held) at None
  streams_none held after at same none = ap (λ (l : List (Option (Held S))). held_streams l) same
      ∙ sym (set_none (held_streams held) at (no_stream held at none))

  -- what is put beside a place is held there, and where nothing was held before the others stay
  pub holds_set : (held : List (Option (Held S))) (at : ℕ) (h : Held S) → at < length held
      → IsHeldAt (held_streams (slice_set held at (Some h))) at h.stream
  holds_set held at h within = held_get (slice_set held at (Some h)) at h (get_set_same held at (Some h) within)

  pub stay_set : (held : List (Option (Held S))) (at : ℕ) (x : Option (Held S)) → WasNoneHeld at held None
      → StayHeld (held_streams held) (held_streams (slice_set held at x))
  stay_set held at x none k stream is =
      let (h, h_is, same) = held_of held k stream is in
      subst (λ (s : S). IsHeldAt (held_streams (slice_set held at x)) k s) same
      (held_get (slice_set held at x) k h
      (get_set_other held at k x (λ e. none h (subst (λ (j : ℕ). slice_get held j ≡ Some (Some h)) e h_is)) ∙ h_is))

  pub stay_same : (held : List (Option S)) → StayHeld held held
  stay_same held at stream is = is

  pub stay_kept : (held after : List (Option (Held S))) → after ≡ held
      → StayHeld (held_streams held) (held_streams after)
  stay_kept held after same at stream is =
      subst (λ (l : List (Option (Held S))). IsHeldAt (held_streams l) at stream) (sym same) is

  pub stay_then : (a b c : List (Option S)) → StayHeld a b → StayHeld b c → StayHeld a c
  stay_then a b c h k at stream is = k at stream (h at stream is)

-- one who is left was told more
leaves_told : {M : Type 0} (agrees : M → M → List Told → Type 0) (old new : LeaveValue) (more : List Told)
    → Extends WasLeft old new more → Extends (agrees_talk agrees) (Leaves old) (Leaves new) more
leaves_told agrees old new more h (Leaves start) told was = h start told was
leaves_told agrees old new more h (Plays start) told was = absurd was
leaves_told agrees old new more h (Admits start) told was = absurd was

pub leaves_on : {M : Type 0} (agrees : M → M → List Told → Type 0) (wants : M → Wants) (now : Talk M)
    (old new : LeaveValue) (event : StreamEvent) → now ≡ Leaves old
    → Extends WasLeft old new (told_at (wanted_to_leave old) event ∷ [])
    → Extends (agrees_talk agrees) now (Leaves new) (told_at (wants_talk wants now) event ∷ [])
leaves_on {M} agrees wants now old new event is h = subst (λ (t : Talk M). Extends (agrees_talk agrees) t (Leaves new)
    (told_at (wants_talk wants t) event ∷ [])) (sym is)
    (leaves_told agrees old new (told_at (wanted_to_leave old) event ∷ []) h)

-- it reads until so much was dropped
pub leaver_goes_on : (x : LeaveValue) → x.left ≡ 16777216 → HasNext (wanted_to_leave x)
leaver_goes_on x left = inr (inr (inr (inr (omega (arith, left)))))

-- ---- lists of what happened

told_then : (one other : List Happened) → all_told (one ++ other) ≡ all_told one ++ all_told other
told_then one other = flat_map-append (λ (e : Happened). told_by e.deed) one other

done_then : (one other : List Happened) → all_done (one ++ other) ≡ all_done one ++ all_done other
done_then one other = flat_map-append (λ (e : Happened). done_by e.deed) one other

-- these lines were taken, and nothing else happened
abbrev as_shown : List (List ℕ) → List Happened
as_shown [] = []
as_shown (l ∷ lines) = record { at = 0; deed = Showed l } ∷ as_shown lines

shown_as : (lines : List (List ℕ)) → all_shown (as_shown lines) ≡ lines
shown_as [] = refl
shown_as (l ∷ lines) = ap (λ (r : List (List ℕ)). l ∷ r) (shown_as lines)

told_as : (lines : List (List ℕ)) → lines_told (all_told (as_shown lines)) ≡ concat lines
told_as [] = refl
told_as (l ∷ lines) = ap (λ (r : List ℕ). l ++ r) (told_as lines)

-- lines that were taken, and then others
lines_after : (one other : List Happened) (a b : List (List ℕ)) → HasLines one a → HasLines other b
    → HasLines (one ++ other) (a ++ b)
lines_after one other a b (shown, told) (others, after) = (
  shown_then one other ∙ (ap (λ (l : List (List ℕ)). l ++ all_shown other) shown
      ∙ ap (λ (l : List (List ℕ)). a ++ l) others),
  ap (λ (l : List Told). lines_told l) (told_then one other)
      ∙ (flat_map-append line_told (all_told one) (all_told other)
      ∙ (ap (λ (l : List ℕ). l ++ lines_told (all_told other)) told
      ∙ (ap (λ (l : List ℕ). concat a ++ l) after ∙ sym (concat-append a b)))),
)

-- of one place
lines_after_at : (at : ℕ) (one other : List Happened) (first second : List (ℕ × List ℕ))
    → HasLines one (lines_at at first) → HasLines other (lines_at at second)
    → HasLines (one ++ other) (lines_at at (first ++ second))
lines_after_at at one other first second h k = subst (λ (l : List (List ℕ)). HasLines (one ++ other) l)
    (sym (lines_then at first second)) (lines_after one other (lines_at at first) (lines_at at second) h k)

-- a machine is told of no lines but those that were taken
deed_lines : (wants : Wants) (pace : Pace) (now : ℕ) (deed : Deed) → IsNextDeed wants pace now deed
    → lines_told (told_by deed) ≡ concat (shown_by deed)
deed_lines wants pace now (Did (Came bytes)) next = refl
deed_lines wants pace now (Did Ended) next = refl
deed_lines wants pace now (Did ReadFailed) next = refl
deed_lines wants pace now (Did NothingCame) next = refl
deed_lines wants pace now (Did (Taken bytes)) next = refl
deed_lines wants pace now (Did WriteFailed) next = refl
deed_lines wants pace now (Did DirectionEnded) next = refl
deed_lines wants pace now (Did (Reported lines)) next = absurd next
deed_lines wants pace now (Did (DeadlinePassed waited)) next = refl
deed_lines wants pace now (Emptied bytes) next = refl
deed_lines wants pace now HadNone next = refl
deed_lines wants pace now TookNone next = refl
deed_lines wants pace now (Showed lines) next = refl
deed_lines wants pace now (Passed (Came bytes)) next = refl
deed_lines wants pace now (Passed Ended) next = refl
deed_lines wants pace now (Passed ReadFailed) next = refl
deed_lines wants pace now (Passed NothingCame) next = refl
deed_lines wants pace now (Passed (Taken bytes)) next = refl
deed_lines wants pace now (Passed WriteFailed) next = refl
deed_lines wants pace now (Passed DirectionEnded) next = refl
deed_lines wants pace now (Passed (Reported lines)) next = absurd next
deed_lines wants pace now (Passed (DeadlinePassed waited)) next = refl
deed_lines wants pace now (Woken readable writable) next = refl

steps_lines : {M S : Type 0} (agrees : M → M → List Told → Type 0) (wants : M → Wants) (did : S → S → List Deed → Type 0)
    (from : ℕ) (old : Slot M S) (happened : List Happened) (to : ℕ) (new : Slot M S)
    → AreSteps agrees wants did from old happened to new
    → lines_told (all_told happened) ≡ concat (all_shown happened)
steps_lines agrees wants did from old [] to new steps = refl
steps_lines agrees wants did from old (x ∷ happened) to new (later, (next, step, rest)) =
    flat_map-append line_told (told_by x.deed) (all_told happened)
    ∙ (ap (λ (l : List ℕ). l ++ lines_told (all_told happened))
    (deed_lines (wants old.machine) old.pace x.at x.deed step.order)
    ∙ (ap (λ (l : List ℕ). concat (shown_by x.deed) ++ l)
    (steps_lines agrees wants did x.at next happened to new rest)
    ∙ sym (concat-append (shown_by x.deed) (all_shown happened))))

module _ {M S : Type 0} (agrees : M → M → List Told → Type 0) (did : S → S → List Deed → Type 0) where
  done_more : (a b c : S) (one other : List Happened) → HasDone did a b (all_done one) → HasDone did b c (all_done other)
      → HasDone did a c (all_done (one ++ other))
  done_more a b c one other h k start deeds x = subst (λ (l : List Deed). did start c l)
      (append_assoc deeds (all_done one) (all_done other) ∙ ap (λ (l : List Deed). deeds ++ l) (sym (done_then one other)))
      (k start (deeds ++ all_done one) (h start deeds x))

  -- ---- a run

  -- more happened in a slot of these clients
  talk_on : (wants : Talk M → Wants) (from to : ℕ) (known : List (List ℕ)) (old new : Slot (Talk M) S)
      (more : List Happened) → HasRunBy (agrees_talk agrees) wants did from old more to new
      → IsTalkOf agrees did known old → IsTalkOf agrees did known new
  talk_on wants from to known old new more run talk = record {
    start = talk.start;
    stream = talk.stream;
    begins = talk.begins;
    happened = talk.happened ++ more;
    told = subst (λ (l : List Told). agrees_talk agrees talk.start new.machine l) (sym (told_then talk.happened more))
        (run.told talk.start (all_told talk.happened) talk.told);
    done = done_more talk.stream old.stream new.stream talk.happened more talk.done run.done;
  }

  -- so much more has happened where this is played, and its lines are these
  abbrev Goes : M → S → List Happened → List (List ℕ) → Place (Talk M) S → Type 0
  Goes start stream happened lines y = (more : List Happened) × HasLines more lines
      × PlaysThere agrees did start stream (happened ++ more) y

  play_on : (wants : Talk M → Wants) (from to : ℕ) (start : M) (stream : S) (happened : List Happened)
      (x y : Place (Talk M) S) (lines : List (List ℕ)) → HasGoneOn (agrees_talk agrees) wants did from to x y lines
      → PlaysThere agrees did start stream happened x → Goes start stream happened lines y
  play_on wants from to start stream happened Empty y lines h plays = absurd plays
  play_on wants from to start stream happened (Pending watch) y lines h plays = absurd plays
  play_on wants from to start stream happened (Open slot) Empty lines h plays = absurd h
  play_on wants from to start stream happened (Open slot) (Open next) lines (more, run, shown) (told, done) = (
    more,
    (
      shown,
      steps_lines (agrees_talk agrees) wants did from slot more to next run.steps
          ∙ ap (λ (l : List (List ℕ)). concat l) shown,
    ),
    (
      subst (λ (l : List Told). agrees_talk agrees (Plays start) next.machine l)
          (sym (told_then happened more)) (run.told (Plays start) (all_told happened) told),
      done_more stream slot.stream next.stream happened more done run.done,
    ),
  )
  play_on wants from to start stream happened (Open slot) (Pending watch) lines h plays = absurd h
  play_on wants from to start stream happened (Open slot) Broken lines h plays =
      (as_shown lines, (shown_as lines, told_as lines), tt)
  play_on wants from to start stream happened Broken Empty lines h plays = absurd h
  play_on wants from to start stream happened Broken (Open next) lines h plays = absurd h
  play_on wants from to start stream happened Broken (Pending watch) lines h plays = absurd h
  play_on wants from to start stream happened Broken Broken lines h plays =
      (as_shown lines, (shown_as lines, told_as lines), tt)

  -- a slot that stands there stood there before
  slot_on : (wants : Talk M → Wants) (from to : ℕ) (known : List (List ℕ)) (x : Place (Talk M) S)
      (slot : Slot (Talk M) S) (lines : List (List ℕ))
      → HasGoneOn (agrees_talk agrees) wants did from to x (Open slot) lines
      → ((old : Slot (Talk M) S) → x ≡ Open old → IsTalkOf agrees did known old) → IsTalkOf agrees did known slot
  slot_on wants from to known Empty slot lines h before = absurd h
  slot_on wants from to known (Pending watch) slot lines h before = absurd h
  slot_on wants from to known Broken slot lines h before = absurd h
  slot_on wants from to known (Open old) slot lines (more, run, shown) before =
      talk_on wants from to known old slot more run (before old refl)

  -- all that is played goes on so far
  module _ {K : Type 0} (heard : K → K → List (ℕ × List ℕ) → Type 0) where
    pub goes_run : (wants : Talk M → Wants) (from to : ℕ) (old new : List (Place (Talk M) S)) (s t : K)
        → HaveRun (agrees_talk agrees) wants did heard from to old new s t → HasGoneOnTo heard agrees did old new s t
    goes_run wants from to old new s t h = (h.all, h.put, on_one)
      where
        on_one : (at : ℕ) (start : M) (stream : S) (happened : List Happened)
            → IsPlaying agrees did start stream happened old at → (more : List Happened)
            × HasLines more (lines_at at h.all) × IsPlaying agrees did start stream (happened ++ more) new at
        on_one at start stream happened (x, is, plays) =
            let (y, y_is) = place_of new at (omega (arith, h.len, slice_get_within old at x is)) in
            let (more, shown, goes) = play_on wants from to start stream happened x y (lines_at at h.all)
            (h.each at x y is y_is) plays in
            (more, shown, (y, y_is, goes))

    pub goes_still : (places : List (Place (Talk M) S)) (s : K) → HasGoneOnTo heard agrees did places places s s
    goes_still places s = (
      [],
      put_nothing heard s,
      λ at start stream happened plays. (
        [],
        (refl, refl),
        subst (λ (l : List Happened). IsPlaying agrees did start stream l places at)
            (sym (append-nil happened)) plays,
      ),
    )

    module _ {E W : Type 0} (gives : M → List Told → E → Type 0) where
      -- what is played in this place goes on by these lines, or has ended so
      abbrev Went : List (Place (Talk M) S) → Option (Event E W) → ℕ → M → S → List Happened → List (ℕ × List ℕ)
          → Type 0
      Went new told at start stream happened lines = (more : List Happened) × HasLines more (lines_at at lines)
          × (IsPlaying agrees did start stream (happened ++ more) new at
          ⊎ ((event : Event E W) × (told ≡ Some event) × IsPlayEnd did gives start stream at (happened ++ more) event))

      went_then : (c : List (Place (Talk M) S)) (told : Option (Event E W)) (at : ℕ) (start : M) (stream : S)
          (happened one : List Happened) (first second : List (ℕ × List ℕ)) → HasLines one (lines_at at first)
          → Went c told at start stream (happened ++ one) second → Went c told at start stream happened (first ++ second)
      went_then c told at start stream happened one first second shown (other, after, end) = (
        one ++ other,
        lines_after_at at one other first second shown after,
        subst (λ (l : List Happened). IsPlaying agrees did start stream l c at
            ⊎ ((event : Event E W) × (told ≡ Some event) × IsPlayEnd did gives start stream at l event))
            (append_assoc happened one other) end,
      )

      -- it goes on so far, and then this has come of one
      pub goes_then : (a b c : List (Place (Talk M) S)) (s t u : K) (told : Option (Event E W))
          → HasGoneOnTo heard agrees did a b s t → PlaysOn heard agrees did gives b c t u told
          → PlaysOn heard agrees did gives a c s u told
      goes_then a b c s t u told (lines, put, each) k = record {
        lines = lines ++ k.lines;
        put = put_then heard s t u lines k.lines put k.put;
        each = λ at start stream happened plays.
            let (one, shown, goes) = each at start stream happened plays in
            went_then c told at start stream happened one lines k.lines shown
            (k.each at start stream (happened ++ one) goes);
      }

      -- what happens at once
      pub ends_on : (a b : List (Place (Talk M) S)) (s : K) (told : Option (Event E W))
          → EndsAtOnce agrees did gives a b told → PlaysOn heard agrees did gives a b s s told
      ends_on a b s told h = record {
        lines = [];
        put = put_nothing heard s;
        each = λ at start stream happened plays. (
          [],
          (refl, refl),
          subst (λ (l : List Happened).
              IsPlaying agrees did start stream l b at
              ⊎ ((event : Event E W) × (told ≡ Some event) × IsPlayEnd did gives start stream at l event))
              (sym (append-nil happened)) (h at start stream happened plays),
        );
      }

      pub keeps_on : (a b : List (Place (Talk M) S)) (s : K) (told : Option (Event E W)) → KeepsPlays agrees did a b
          → PlaysOn heard agrees did gives a b s s told
      keeps_on a b s told h = ends_on a b s told (λ at start stream happened plays. inl (h at start stream happened plays))

      -- where nothing is told it goes on so far
      pub goes_none : (a b : List (Place (Talk M) S)) (s t : K) (told : Option (Event E W)) → told ≡ None
          → PlaysOn heard agrees did gives a b s t told → HasGoneOnTo heard agrees did a b s t
      goes_none a b s t told none h = (
        h.lines,
        h.put,
        λ at start stream happened plays.
            by at start stream happened (h.each at start stream happened plays),
      )
        where
          by : (at : ℕ) (start : M) (stream : S) (happened : List Happened)
              → Went b told at start stream happened h.lines → (more : List Happened)
              × HasLines more (lines_at at h.lines) × IsPlaying agrees did start stream (happened ++ more) b at
          by at start stream happened (more, shown, inl goes) = (more, shown, goes)
          by at start stream happened (more, shown, inr (event, is, end)) = absurd (none-some event (sym none ∙ is))

    -- so far, and then further
    pub goes_on : (a b c : List (Place (Talk M) S)) (s t u : K) → HasGoneOnTo heard agrees did a b s t
        → HasGoneOnTo heard agrees did b c t u → HasGoneOnTo heard agrees did a c s u
    goes_on a b c s t u (lines, put, each) (later, taken, after) = (
      lines ++ later,
      put_then heard s t u lines later put taken,
      λ at start stream happened plays.
          let (one, shown, goes) = each at start stream happened plays in
          let (other, last, on) = after at start stream (happened ++ one) goes in (
            one ++ other,
            lines_after_at at one other lines later shown last,
            subst (λ (l : List Happened). IsPlaying agrees did start stream l c at) (append_assoc happened one other) on,
          ),
    )

  -- a place that is kept for a client stays so
  awaited_kind : (x y : Place (Talk M) S) → is_under (place_kind x) → place_kind y ≡ place_kind x
      → (watch : Watch) × (y ≡ Pending watch)
  awaited_kind x Empty under e = absurd (subst (λ k. is_under k) (sym e) under)
  awaited_kind x (Open slot) under e = absurd (subst (λ k. is_under k) (sym e) under)
  awaited_kind x (Pending watch) under e = (watch, refl)
  awaited_kind x Broken under e = absurd (subst (λ k. is_under k) (sym e) under)

  awaited_run : (old new : List (Place (Talk M) S)) → StayOfKind old new → (i : ℕ) → IsAwaitedAt old i
      → IsAwaitedAt new i
  awaited_run old new kinds i (watch, is) =
      let (y, y_is) = place_of new i (omega (arith, kinds.len, slice_get_within old i (Pending watch) is)) in
      let (other, same) = awaited_kind (Pending watch) y tt (kinds.each i (Pending watch) y is y_is) in
      (other, y_is ∙ ap (λ (z : Place (Talk M) S). Some z) same)

  -- what is kept stays so in a run
  pub sound_run : {K : Type 0} (wants : Talk M → Wants) (heard : K → K → List (ℕ × List ℕ) → Type 0) (from to : ℕ)
      (known : List (List ℕ)) (old new : LoopValue (Talk M) S) (held : List (Option (Held S))) (broken : Bool) (s t : K)
      → StayOfKind old.places new.places
      → HaveRun (agrees_talk agrees) wants did heard from to old.places new.places s t
      → AreClientsSound agrees did known old held broken → AreClientsSound agrees did known new held broken
  sound_run wants heard from to known old new held broken s t kinds h sound = record {
    offers = sound.offers;
    len = sound.len ∙ sym kinds.len;
    waits = λ i x is. awaited_run old.places new.places kinds i (sound.waits i x is);
    talks = λ runs i slot is.
        let (x, x_is) = place_of old.places i (omega (arith, kinds.len, slice_get_within new.places i (Open slot) is)) in
        slot_on wants from to known x slot (lines_at i h.all) (h.each i x (Open slot) x_is is)
        (λ before same. sound.talks runs i before (x_is ∙ ap (λ (z : Place (Talk M) S). Some z) same));
  }

  -- and where the loop was stopped
  pub sound_stopped : (known : List (List ℕ)) (old new : LoopValue (Talk M) S) (held : List (Option (Held S)))
      (broken : Bool) → StayOfKind old.places new.places → AreClientsSound agrees did known old held broken
      → AreClientsSound agrees did known new held true
  sound_stopped known old new held broken kinds sound = record {
    offers = sound.offers;
    len = sound.len ∙ sym kinds.len;
    waits = λ i x is. awaited_run old.places new.places kinds i (sound.waits i x is);
    talks = λ runs. absurd (false≢true (sym runs));
  }

  -- ---- a change of one place

  not_played : (start : M) (stream : S) (happened : List Happened) (x : Place (Talk M) S) → NoneThere x
      → PlaysThere agrees did start stream happened x → ⊥
  not_played start stream happened Empty none plays = plays
  not_played start stream happened (Open slot) none plays = none
  not_played start stream happened (Pending watch) none plays = plays
  not_played start stream happened Broken none plays = none

  -- what is played in this place is what stands there
  pub plays_at : (places : List (Place (Talk M) S)) (at : ℕ) (x : Place (Talk M) S) (start : M) (stream : S)
      (happened : List Happened) → slice_get places at ≡ Some x
      → IsPlaying agrees did start stream happened places at → PlaysThere agrees did start stream happened x
  plays_at places at x start stream happened x_is (z, is, plays) =
      subst (λ (w : Place (Talk M) S). PlaysThere agrees did start stream happened w)
      (same_Some z x (sym is ∙ x_is)) plays

  -- what is played elsewhere still is
  pub plays_other : (places : List (Place (Talk M) S)) (at : ℕ) (y : Place (Talk M) S) (k : ℕ) (start : M) (stream : S)
      (happened : List Happened) → (k ≡ at → ⊥) → IsPlaying agrees did start stream happened places k
      → IsPlaying agrees did start stream happened (slice_set places at y) k
  plays_other places at y k start stream happened other (z, is, plays) =
      (z, get_set_other places at k y other ∙ is, plays)

  -- where nothing stood in it, all that is played anywhere still is
  plays_set : (places : List (Place (Talk M) S)) (at : ℕ) (x y : Place (Talk M) S) → slice_get places at ≡ Some x
      → NoneThere x → KeepsPlays agrees did places (slice_set places at y)
  plays_set places at x y x_is none k start stream happened plays =
      plays_other places at y k start stream happened other plays
    where
      other : k ≡ at → ⊥
      other same = not_played start stream happened x none (plays_at places at x start stream happened x_is
          (subst (λ (j : ℕ). IsPlaying agrees did start stream happened places j) same plays))

  pub keeps_set : (old new : List (Place (Talk M) S)) (at : ℕ) (x y : Place (Talk M) S) → slice_get old at ≡ Some x
      → NoneThere x → new ≡ slice_set old at y → KeepsPlays agrees did old new
  keeps_set old new at x y is none set = subst (λ (l : List (Place (Talk M) S)). KeepsPlays agrees did old l) (sym set)
      (plays_set old at x y is none)

  pub keeps_same : (old new : List (Place (Talk M) S)) → new ≡ old → KeepsPlays agrees did old new
  keeps_same old new same at start stream happened plays = subst (λ (l : List (Place (Talk M) S)).
      IsPlaying agrees did start stream happened l at) (sym same) plays

  none_done : (stream : S) → HasDone did stream stream []
  none_done stream = λ start deeds x. subst (λ (l : List Deed). did start stream l) (sym (append-nil deeds)) x

  -- nothing has happened in a slot that begins so
  pub talk_begins : (known : List (List ℕ)) (slot : Slot (Talk M) S) → BeginsTalk did known slot.machine slot.stream
      → agrees_talk agrees slot.machine slot.machine [] → IsTalkOf agrees did known slot
  talk_begins known slot begins told = record {
    start = slot.machine;
    stream = slot.stream;
    begins = begins;
    happened = [];
    told = told;
    done = none_done slot.stream;
  }

  -- this is played from now on
  pub plays_now : (old new : List (Place (Talk M) S)) (at : ℕ) (machine : M) (slot : Slot (Talk M) S)
      → at < length old → new ≡ slice_set old at (Open slot) → slot.machine ≡ Plays machine → agrees machine machine []
      → IsPlaying agrees did machine slot.stream [] new at
  plays_now old new at machine slot within set is told = subst (λ (l : List (Place (Talk M) S)).
      IsPlaying agrees did machine slot.stream [] l at) (sym set) (
        Open slot,
        get_set_same old at (Open slot) within,
        (subst (λ (t : Talk M). agrees_talk agrees (Plays machine) t []) (sym is) told, none_done slot.stream),
      )

  -- it is left from now on
  pub left_now : (old new : List (Place (Talk M) S)) (at : ℕ) (machine : LeaveValue) (first stream : S)
      (slot : Slot (Talk M) S) → at < length old → new ≡ slice_set old at (Open slot) → slot.machine ≡ Leaves machine
      → first ≡ stream → HasDone did first slot.stream (Did DirectionEnded ∷ []) → IsLeftAt did stream new at
  left_now old new at machine first stream slot within set is same done = (
    slot,
    ap (λ (l : List (Place (Talk M) S)). slice_get l at) set ∙ get_set_same old at (Open slot) within,
    subst (λ (t : Talk M). IsLeaver t) (sym is) tt,
    subst (λ (s : S). HasDone did s slot.stream (Did DirectionEnded ∷ [])) same done,
  )

  -- beside a place that is not kept for a client nothing is held
  pub none_waits : (known : List (List ℕ)) (l : LoopValue (Talk M) S) (held : List (Option (Held S))) (broken : Bool)
      (at : ℕ) (x : Place (Talk M) S) → slice_get l.places at ≡ Some x → NotAwaited x
      → AreClientsSound agrees did known l held broken → (h : Held S) → slice_get held at ≡ Some (Some h) → ⊥
  none_waits known l held broken at x is apart sound h h_is =
      let (watch, w_is) = sound.waits at h h_is in
      subst (λ (y : Place (Talk M) S). NotAwaited y) (same_Some x (Pending watch) (sym is ∙ w_is)) apart

  -- nothing is held beside a place any more out of which it was taken
  pub none_left : (held : List (Option (Held S))) (at : ℕ) → at < length held → (h : Held S)
      → slice_get (slice_set held at None) at ≡ Some (Some h) → ⊥
  none_left held at within h is = none-some h (same_Some None (Some h) (sym (get_set_same held at None within) ∙ is))

  -- what is held without that
  pub sound_taken : (known : List (List ℕ)) (l : LoopValue (Talk M) S) (held : List (Option (Held S))) (broken : Bool)
      (at : ℕ) → AreClientsSound agrees did known l held broken
      → AreClientsSound agrees did known l (slice_set held at None) broken
  sound_taken known l held broken at sound = record {
    offers = sound.offers;
    len = length_set held at None ∙ sound.len;
    waits = λ i h is. by i h (set_cases held at None i (Some h) is);
    talks = sound.talks;
  }
    where
      by : (i : ℕ) (h : Held S) → ((i ≡ at) × (Some h ≡ None)) ⊎ ((i ≡ at → ⊥) × (slice_get held i ≡ Some (Some h)))
          → IsAwaitedAt l.places i
      by i h (inl (same, e)) = absurd (none-some h (sym e))
      by i h (inr (far, is)) = sound.waits i h is

  -- and where nothing was held
  pub sound_unheld : (known : List (List ℕ)) (l : LoopValue (Talk M) S) (held after : List (Option (Held S)))
      (broken : Bool) (at : ℕ) (x : Option (Held S)) → IsTakenOut at held after x
      → AreClientsSound agrees did known l held broken → AreClientsSound agrees did known l after broken
  sound_unheld known l held after broken at None same sound =
      subst (λ (h : List (Option (Held S))). AreClientsSound agrees did known l h broken) (sym same) sound
  sound_unheld known l held after broken at (Some h) taken sound =
      subst (λ (h : List (Option (Held S))). AreClientsSound agrees did known l h broken) (sym taken.1)
      (sound_taken known l held broken at sound)

  pub none_unheld : (held after : List (Option (Held S))) (at : ℕ) (x : Option (Held S)) → IsTakenOut at held after x
      → WasNoneHeld at held x → (h : Held S) → slice_get after at ≡ Some (Some h) → ⊥
  none_unheld held after at None same none h is =
      none h (subst (λ (l : List (Option (Held S))). slice_get l at ≡ Some (Some h)) same is)
  none_unheld held after at (Some was) taken none h is = none_left held at
      (slice_get_within held at (Some was) taken.0) h
      (subst (λ (l : List (Option (Held S))). slice_get l at ≡ Some (Some h)) taken.1 is)

  -- a slot is put into a place beside which nothing is held
  pub sound_open : (known : List (List ℕ)) (old new : LoopValue (Talk M) S) (held : List (Option (Held S)))
      (broken : Bool) (at : ℕ) (slot : Slot (Talk M) S) → new.places ≡ slice_set old.places at (Open slot)
      → IsTalkOf agrees did known slot → ((h : Held S) → slice_get held at ≡ Some (Some h) → ⊥)
      → AreClientsSound agrees did known old held broken → AreClientsSound agrees did known new held broken
  sound_open known old new held broken at slot set talks none sound = record {
    offers = sound.offers;
    len = sound.len ∙ sym (ap (λ (l : List (Place (Talk M) S)). length l) set ∙ length_set old.places at (Open slot));
    waits = λ i h is.
        let (watch, w_is) = sound.waits i h is in (
          watch,
          ap (λ (l : List (Place (Talk M) S)). slice_get l i) set
              ∙ (get_set_other old.places at i (Open slot)
              (λ same. none h (subst (λ (j : ℕ). slice_get held j ≡ Some (Some h)) same is)) ∙ w_is),
        );
    talks = λ runs i other is. by runs i other (set_cases old.places at (Open slot) i (Open other)
        (sym (ap (λ (l : List (Place (Talk M) S)). slice_get l i) set) ∙ is));
  }
    where
      SlotTalks : Place (Talk M) S → Type 0
      SlotTalks Empty = ⊤
      SlotTalks (Open x) = IsTalkOf agrees did known x
      SlotTalks (Pending watch) = ⊤
      SlotTalks Broken = ⊤

      by : broken ≡ false → (i : ℕ) (other : Slot (Talk M) S)
          → ((i ≡ at) × (Open other ≡ Open slot)) ⊎ ((i ≡ at → ⊥) × (slice_get old.places i ≡ Some (Open other)))
          → IsTalkOf agrees did known other
      by runs i other (inl (same, e)) = subst (λ (x : Place (Talk M) S). SlotTalks x) (sym e) talks
      by runs i other (inr (far, is)) = sound.talks runs i other is

  -- what was held beside a place is what begins there
  pub sound_begin : (known : List (List ℕ)) (old new : LoopValue (Talk M) S) (held after : List (Option (Held S)))
      (broken : Bool) (at : ℕ) (slot : Slot (Talk M) S) (h : Held S) → slice_get held at ≡ Some (Some h)
      → after ≡ slice_set held at None → new.places ≡ slice_set old.places at (Open slot) → IsTalkOf agrees did known slot
      → AreClientsSound agrees did known old held broken → AreClientsSound agrees did known new after broken
  sound_begin known old new held after broken at slot h is taken set talks sound =
      subst (λ (l : List (Option (Held S))). AreClientsSound agrees did known new l broken) (sym taken)
      (sound_open known old new (slice_set held at None) broken at slot set talks
      (none_left held at (slice_get_within held at (Some h) is)) (sound_taken known old held broken at sound))

  -- a place is emptied, or kept for a client
  sound_clear : (known : List (List ℕ)) (old new : LoopValue (Talk M) S) (held : List (Option (Held S)))
      (broken : Bool) (at : ℕ) (y : Place (Talk M) S) → new.places ≡ slice_set old.places at y → NoneThere y
      → ((h : Held S) → slice_get held at ≡ Some (Some h) → (watch : Watch) × (y ≡ Pending watch))
      → (at < length old.places) → AreClientsSound agrees did known old held broken
      → AreClientsSound agrees did known new held broken
  sound_clear known old new held broken at y set none waits within sound = record {
    offers = sound.offers;
    len = sound.len ∙ sym (ap (λ (l : List (Place (Talk M) S)). length l) set ∙ length_set old.places at y);
    waits = λ i h is. awaited i h is (eqb_tells i at);
    talks = λ runs i other is. by runs i other (set_cases old.places at y i (Open other)
        (sym (ap (λ (l : List (Place (Talk M) S)). slice_get l i) set) ∙ is));
  }
    where
      at_i : (i : ℕ) → slice_get new.places i ≡ slice_get (slice_set old.places at y) i
      at_i i = ap (λ (l : List (Place (Talk M) S)). slice_get l i) set

      awaited : (i : ℕ) (h : Held S) → slice_get held i ≡ Some (Some h)
          → ((nat_eq i at ≡ true) × (i ≡ at)) ⊎ ((nat_eq i at ≡ false) × (i ≢ at)) → IsAwaitedAt new.places i
      awaited i h is (inl same) =
          let (watch, e) = waits h (subst (λ (j : ℕ). slice_get held j ≡ Some (Some h)) same.1 is) in (
            watch,
            at_i i ∙ (ap (λ (j : ℕ). slice_get (slice_set old.places at y) j) same.1
                ∙ (get_set_same old.places at y within ∙ ap (λ (z : Place (Talk M) S). Some z) e)),
          )
      awaited i h is (inr far) =
          let (watch, w_is) = sound.waits i h is in
          (watch, at_i i ∙ (get_set_other old.places at i y far.1 ∙ w_is))

      not_open : (other : Slot (Talk M) S) → y ≡ Open other → ⊥
      not_open other e = subst (λ (z : Place (Talk M) S). NoneThere z) e none

      by : broken ≡ false → (i : ℕ) (other : Slot (Talk M) S)
          → ((i ≡ at) × (Open other ≡ y)) ⊎ ((i ≡ at → ⊥) × (slice_get old.places i ≡ Some (Open other)))
          → IsTalkOf agrees did known other
      by runs i other (inl same) = absurd (not_open other (sym same.1))
      by runs i other (inr far) = sound.talks runs i other far.1

  -- a place beside which nothing is held is emptied
  pub sound_empty : (known : List (List ℕ)) (old new : LoopValue (Talk M) S) (held : List (Option (Held S)))
      (broken : Bool) (at : ℕ) (x : Place (Talk M) S) → slice_get old.places at ≡ Some x → NotAwaited x
      → new.places ≡ slice_set old.places at Empty → AreClientsSound agrees did known old held broken
      → AreClientsSound agrees did known new held broken
  sound_empty known old new held broken at x is apart set sound = sound_clear known old new held broken at Empty set tt
      (λ h h_is. absurd (none_waits known old held broken at x is apart sound h h_is))
      (slice_get_within old.places at x is) sound

  -- a place beside which nothing is held any more
  pub sound_dropped : (known : List (List ℕ)) (old new : LoopValue (Talk M) S) (held : List (Option (Held S)))
      (broken : Bool) (at : ℕ) → at < length old.places → ((h : Held S) → slice_get held at ≡ Some (Some h) → ⊥)
      → new.places ≡ slice_set old.places at Empty → AreClientsSound agrees did known old held broken
      → AreClientsSound agrees did known new held broken
  sound_dropped known old new held broken at within none set sound =
      sound_clear known old new held broken at Empty set tt (λ h is. absurd (none h is)) within sound

  -- the same stands in each place
  pub sound_same : (known : List (List ℕ)) (old new : LoopValue (Talk M) S) (held : List (Option (Held S)))
      (broken : Bool) → new.places ≡ old.places → AreClientsSound agrees did known old held broken
      → AreClientsSound agrees did known new held broken
  sound_same known old new held broken same sound = record {
    offers = sound.offers;
    len = sound.len ∙ sym (ap (λ (l : List (Place (Talk M) S)). length l) same);
    waits = λ i h is. subst (λ (l : List (Place (Talk M) S)). IsAwaitedAt l i) (sym same) (sound.waits i h is);
    talks = λ runs i slot is. sound.talks runs i slot
        (subst (λ (l : List (Place (Talk M) S)). slice_get l i ≡ Some (Open slot)) same is);
  }

  pub emptied_at : (old new : List (Place (Talk M) S)) (at : ℕ) (x : Place (Talk M) S) → slice_get old at ≡ Some x
      → new ≡ slice_set old at Empty → slice_get new at ≡ Some Empty
  emptied_at old new at x is set = ap (λ (l : List (Place (Talk M) S)). slice_get l at) set
      ∙ get_set_same old at Empty (slice_get_within old at x is)

  pub awaits_at : (old new : List (Place (Talk M) S)) (at : ℕ) (watch : Watch) → at < length old
      → new ≡ slice_set old at (Pending watch) → IsAwaitedAt new at
  awaits_at old new at watch within set = (
    watch,
    ap (λ (l : List (Place (Talk M) S)). slice_get l at) set
        ∙ get_set_same old at (Pending watch) within,
  )

  -- a place is kept for a client
  pub sound_kept : (known : List (List ℕ)) (old new : LoopValue (Talk M) S) (held : List (Option (Held S)))
      (broken : Bool) (at : ℕ) (watch : Watch) → at < length old.places
      → new.places ≡ slice_set old.places at (Pending watch) → AreClientsSound agrees did known old held broken
      → AreClientsSound agrees did known new held broken
  sound_kept known old new held broken at watch within set sound = sound_clear known old new held broken at
      (Pending watch) set tt (λ h h_is. (watch, refl)) within sound

  -- it is taken out of its place, and kept for a client again
  pub sound_kept_anew : (known : List (List ℕ)) (old mid new : LoopValue (Talk M) S) (held : List (Option (Held S)))
      (broken : Bool) (at : ℕ) (x : Place (Talk M) S) (watch : Watch) → slice_get old.places at ≡ Some x
      → mid.places ≡ slice_set old.places at Empty → new.places ≡ slice_set mid.places at (Pending watch)
      → AreClientsSound agrees did known old held broken → AreClientsSound agrees did known new held broken
  sound_kept_anew known old mid new held broken at x watch is emptied set sound =
      sound_kept known old new held broken at watch (slice_get_within old.places at x is)
      (set ∙ (ap (λ (l : List (Place (Talk M) S)). slice_set l at (Pending watch)) emptied
      ∙ set_twice old.places at Empty (Pending watch))) sound

  -- and so it is where this is held beside it
  pub sound_hold : (known : List (List ℕ)) (old new : LoopValue (Talk M) S) (held : List (Option (Held S)))
      (broken : Bool) (at : ℕ) (watch : Watch) (h : Held S) → at < length old.places
      → new.places ≡ slice_set old.places at (Pending watch) → AreClientsSound agrees did known old held broken
      → AreClientsSound agrees did known new (slice_set held at (Some h)) broken
  sound_hold known old new held broken at watch h within set sound =
      let kept = sound_kept known old new held broken at watch within set sound in
      record {
        offers = kept.offers;
        len = length_set held at (Some h) ∙ kept.len;
        waits = λ i x is. by kept i x (set_cases held at (Some h) i (Some x) is);
        talks = kept.talks;
      }
    where
      by : AreClientsSound agrees did known new held broken → (i : ℕ) (x : Held S)
          → ((i ≡ at) × (Some x ≡ Some h)) ⊎ ((i ≡ at → ⊥) × (slice_get held i ≡ Some (Some x)))
          → IsAwaitedAt new.places i
      by kept i x (inl same) = (
        watch,
        ap (λ (l : List (Place (Talk M) S)). slice_get l i) set
            ∙ (ap (λ (j : ℕ). slice_get (slice_set old.places at (Pending watch)) j) same.0
            ∙ get_set_same old.places at (Pending watch) within),
      )
      by kept i x (inr far) = kept.waits i x far.1

  -- nobody has come
  pub sound_new : (known : List (List ℕ)) (l : LoopValue (Talk M) S) (len : ℕ) (held : List (Option (Held S)))
      → AreOffers known → length l.places ≡ len → AreEmpty l.places → AreNoneHeld len held
      → AreClientsSound agrees did known l held false
  sound_new known l len held offers places empty none = record {
    offers = offers;
    len = none.places ∙ sym places;
    waits = λ i h is. absurd (none-some h (sym (none.none i (Some h) is)));
    talks = λ runs i slot is. absurd (subst (λ (z : Place (Talk M) S). NoneThere z) (sym (empty i (Open slot) is)) tt);
  }

  -- ---- what has ended

  -- what stood in this place was taken out of it, and this has come of it
  pub ends_place : {E W : Type 0} (gives : M → List Told → E → Type 0) (a b c : List (Place (Talk M) S)) (at : ℕ)
      (x : Place (Talk M) S) (told : Option (Event E W)) → slice_get a at ≡ Some x → b ≡ slice_set a at Empty
      → KeepsPlays agrees did b c
      → ((start : M) (stream : S) (happened : List Happened) → PlaysThere agrees did start stream happened x
      → (event : Event E W) × (told ≡ Some event) × IsPlayEnd did gives start stream at happened event)
      → EndsAtOnce agrees did gives a c told
  ends_place {E} {W} gives a b c at x told is set keeps ends k start stream happened plays = by (eqb_tells k at)
    where
      Result : Type 0
      Result = IsPlaying agrees did start stream happened c k
          ⊎ ((event : Event E W) × (told ≡ Some event) × IsPlayEnd did gives start stream k happened event)

      by : ((nat_eq k at ≡ true) × (k ≡ at)) ⊎ ((nat_eq k at ≡ false) × (k ≢ at)) → Result
      by (inl same) = subst (λ (j : ℕ). IsPlaying agrees did start stream happened c j
          ⊎ ((event : Event E W) × (told ≡ Some event) × IsPlayEnd did gives start stream j happened event)) (sym same.1)
          (inr (ends start stream happened (plays_at a at x start stream happened is
          (subst (λ (j : ℕ). IsPlaying agrees did start stream happened a j) same.1 plays))))
      by (inr far) = inl (keeps k start stream happened (subst (λ (l : List (Place (Talk M) S)).
          IsPlaying agrees did start stream happened l k) (sym set)
          (plays_other a at Empty k start stream happened far.1 plays)))

  -- in a slot that was done this has come of what was played there
  pub ends_slot : {E W : Type 0} (gives : M → List Told → E → Type 0) (at : ℕ) (machine : M) (slot : Slot (Talk M) S)
      (end : E) (told : Option (Event E W)) → slot.machine ≡ Plays machine → told ≡ Some (Played at end)
      → ((start : M) (told : List Told) → agrees start machine told → gives start told end)
      → EndsSlot agrees did gives at slot told
  ends_slot gives at machine slot end told is came h start stream happened (played, done) = (
    Played at end,
    came,
    (
      refl,
      h start (all_told happened)
          (subst (λ (t : Talk M). agrees_talk agrees (Plays start) t (all_told happened)) is played),
      (slot.stream, done),
    ),
  )

  -- nothing was played in a slot in which a request was read, or a client left
  pub nothing_admitted : {E W : Type 0} (gives : M → List Told → E → Type 0) (at : ℕ) (machine : AdmitValue)
      (slot : Slot (Talk M) S) (told : Option (Event E W)) → slot.machine ≡ Admits machine
      → EndsSlot agrees did gives at slot told
  nothing_admitted gives at machine slot told is start stream happened (played, done) =
      absurd (subst (λ (t : Talk M). agrees_talk agrees (Plays start) t (all_told happened)) is played)

  pub nothing_left : {E W : Type 0} (gives : M → List Told → E → Type 0) (at : ℕ) (machine : LeaveValue)
      (slot : Slot (Talk M) S) (told : Option (Event E W)) → slot.machine ≡ Leaves machine
      → EndsSlot agrees did gives at slot told
  nothing_left gives at machine slot told is start stream happened (played, done) =
      absurd (subst (λ (t : Talk M). agrees_talk agrees (Plays start) t (all_told happened)) is played)

  -- what came of a request in such a slot, over its stream
  pub admitted : (known : List (List ℕ)) (slot : Slot (Talk M) S) (machine : AdmitValue) (admission : Admission)
      → slot.machine ≡ Admits machine
      → ((start : AdmitValue) (told : List Told) → WasAdmitted start machine told → AdmitGives start told admission)
      → IsTalkOf agrees did known slot → (is : IsAdmission did known admission) × (is.last ≡ slot.stream)
  admitted known slot machine admission is gives talk = by talk.start talk.begins
      (subst (λ (t : Talk M). agrees_talk agrees talk.start t (all_told talk.happened)) is talk.told)
    where
      by : (start : Talk M) → BeginsTalk did known start talk.stream
          → agrees_talk agrees start (Admits machine) (all_told talk.happened)
          → (is : IsAdmission did known admission) × (is.last ≡ slot.stream)
      by (Admits start) begins told = (
        record {
          start = start;
          is_known = begins.0;
          happened = talk.happened;
          gives = gives start (all_told talk.happened) told;
          first = talk.stream;
          fresh = begins.1;
          last = slot.stream;
          done = talk.done;
        },
        refl,
      )
      by (Plays start) begins told = absurd told
      by (Leaves start) begins told = absurd told

  -- what came of what was played in such a slot, whose stream is held
  pub played_held : {E : Type 0} (gives : M → List Told → E → Type 0) (known : List (List ℕ)) (slot : Slot (Talk M) S)
      (machine : M) (end : E) (held : List (Option S)) (at : ℕ) → slot.machine ≡ Plays machine
      → ((start : M) (told : List Told) → agrees start machine told → gives start told end)
      → IsTalkOf agrees did known slot → IsHeldAt held at slot.stream
      → (is : IsPlayedOut did gives end) × IsHeldAt held at is.last
  played_held {E} gives known slot machine end held at is gave talk holds = by talk.start
      (subst (λ (t : Talk M). agrees_talk agrees talk.start t (all_told talk.happened)) is talk.told)
    where
      by : (start : Talk M) → agrees_talk agrees start (Plays machine) (all_told talk.happened)
          → (is : IsPlayedOut did gives end) × IsHeldAt held at is.last
      by (Plays start) told = (
        record {
          start = start;
          happened = talk.happened;
          gave = gave start (all_told talk.happened) told;
          first = talk.stream;
          last = slot.stream;
          done = talk.done;
        },
        holds,
      )
      by (Admits start) told = absurd told
      by (Leaves start) told = absurd told

  -- it is held
  pub admitted_held : (known : List (List ℕ)) (slot : Slot (Talk M) S) (machine : AdmitValue) (admission : Admission)
      (held : List (Option S)) (at : ℕ) → slot.machine ≡ Admits machine
      → ((start : AdmitValue) (told : List Told) → WasAdmitted start machine told → AdmitGives start told admission)
      → IsTalkOf agrees did known slot → IsHeldAt held at slot.stream
      → (is : IsAdmission did known admission) × IsHeldAt held at is.last
  admitted_held known slot machine admission held at is gives talk holds =
      let (came, last) = admitted known slot machine admission is gives talk in
      (came, subst (λ (s : S). IsHeldAt held at s) (sym last) holds)

-- a slot was put there, of which this holds
pub slot_now : {M S : Type 0} (Is : Slot M S → Type 0) (old new : List (Place M S)) (at : ℕ) (slot : Slot M S)
    → at < length old → new ≡ slice_set old at (Open slot) → Is slot
    → (there : Slot M S) × (slice_get new at ≡ Some (Open there)) × Is there
slot_now {M} {S} Is old new at slot within set is = (
  slot,
  ap (λ (l : List (Place M S)). slice_get l at) set ∙ get_set_same old at (Open slot) within,
  is,
)

-- the same, as it is seen from outside
module _ {M S : Type 0} (at : ℕ) (seen value : ClientsValue M S) (places : List (Place (Talk M) S)) (same : seen ≡ value)
  where
    pub left_seen : (did : S → S → List Deed → Type 0)
        → ((stream : S) → IsHeldAt seen.held at stream → IsLeftAt did stream places at)
        → (stream : S) → IsHeldAt value.held at stream → IsLeftAt did stream places at
    left_seen did h stream held =
        h stream (subst (λ (v : ClientsValue M S). IsHeldAt v.held at stream) (sym same) held)

    pub lingers_seen : (now : ℕ) → ((stream : S) → IsHeldAt seen.held at stream → LingersAt now places at)
        → (stream : S) → IsHeldAt value.held at stream → LingersAt now places at
    lingers_seen now h stream held =
        h stream (subst (λ (v : ClientsValue M S). IsHeldAt v.held at stream) (sym same) held)

    pub fresh_seen : {E W F : Type 0} (result : Result (Event E W) F)
        → IfOk result (λ event. IsNewlyHeld seen.held event) → IfOk result (λ event. IsNewlyHeld value.held event)
    fresh_seen {E} {W} {F} result h = subst (λ (v : ClientsValue M S).
        IfOk result (λ (event : Event E W). IsNewlyHeld v.held event)) same h

    pub held_seen : {V F : Type 0} (result : Result V F) (held : List (Option S)) → OnOk result (StayHeld seen.held held)
        → OnOk result (StayHeld value.held held)
    held_seen result held h = subst (λ (v : ClientsValue M S). OnOk result (StayHeld v.held held)) same h

    pub takes_seen : {L E W F : Type 0} (did : L → L → List (AcceptDeed W) → Type 0) (old new : L)
        (after : ClientsValue M S) (result : Result (Event E W) F)
        → IfOk result (λ event. TakesIn did old new seen after event)
        → IfOk result (λ event. TakesIn did old new value after event)
    takes_seen {L} {E} {W} did old new after result h = subst (λ (v : ClientsValue M S).
        IfOk result (λ (event : Event E W). TakesIn did old new v after event)) same h

    pub only_seen : {E W F : Type 0} (result : Result (Event E W) F)
        → IfOk result (λ event. PlayedOnly seen.places places (Some event))
        → IfOk result (λ event. PlayedOnly value.places places (Some event))
    only_seen {E} {W} result h = subst (λ (v : ClientsValue M S).
        IfOk result (λ (event : Event E W). PlayedOnly v.places places (Some event))) same h

    pub no_more_seen : PlayNoMore seen.places places → PlayNoMore value.places places
    no_more_seen h = subst (λ (v : ClientsValue M S). PlayNoMore v.places places) same h

    pub there_seen : ((other : ℕ) → PlaysAt places other → (other ≡ at) ⊎ PlaysAt seen.places other) → (other : ℕ)
        → PlaysAt places other → (other ≡ at) ⊎ PlaysAt value.places other
    there_seen h other plays =
        subst (λ (v : ClientsValue M S). (other ≡ at) ⊎ PlaysAt v.places other) same (h other plays)

    pub numbers_seen : (numbers : List (Option ℕ)) → numbers ≡ numbers_left (stream_at seen.held at) at seen.numbers
        → numbers ≡ numbers_left (stream_at value.held at) at value.numbers
    numbers_seen numbers h = subst (λ (v : ClientsValue M S).
        numbers ≡ numbers_left (stream_at v.held at) at v.numbers) same h

    pub limit_seen : (result : Bool) → (result ≡ true → IsLimitAt seen.limits.limit places at) → result ≡ true
        → IsLimitAt value.limits.limit places at
    limit_seen result h is = subst (λ (v : ClientsValue M S). IsLimitAt v.limits.limit places at) same (h is)

-- the slot in a place that is over is done
pub slot_over : {M S : Type 0} (wants : M → Wants) (places : List (Place M S)) (at : ℕ) (slot : Slot M S)
    → slice_get places at ≡ Some (Open slot) → IsOverAt wants places at → (wants slot.machine).done ≡ true
slot_over {M} {S} wants places at slot is (place, there, over) =
    subst (λ (x : Place M S). IsPlaceOver wants x) (same_Some place (Open slot) (sym there ∙ is)) over

pub over_within : {M S : Type 0} (wants : M → Wants) (places : List (Place M S)) (at : ℕ) → IsOverAt wants places at
    → at < length places
over_within wants places at (place, there, over) = slice_get_within places at place there

-- ---- what has arrived

module _ {M S L W : Type 0} (wants : Talk M → Wants) (did : S → S → List Deed → Type 0)
    (heard : L → L → List (AcceptDeed W) → Type 0) where
  pub come_so : (until : Option ℕ) (now : ℕ) (first listener : L) (l : LoopValue (Talk M) S) (a : Arrival S W)
      → HasArrived wants did until now l a → HasHeardFor heard first listener l a
      → HasCome wants did heard now until listener l a
  come_so until now first listener l (arrival.Ended at) a h = a.0
  come_so until now first listener l (arrival.Client at stream) a h = (a.1, a.2)
  come_so until now first listener l (arrival.Lost why) a h = tt
  come_so until now first listener l (arrival.NotAccepted why) a h = (first, h)
  come_so until now first listener l arrival.TooLate a (none, inl cannot) = (a.0, inr cannot)
  come_so until now first listener l arrival.TooLate a (none, inr asked) = (a.0, inl (first, asked))

  pub over_came : (until : Option ℕ) (now : ℕ) (listener : L) (l : LoopValue (Talk M) S) (a : Arrival S W) (at : ℕ)
      → a ≡ arrival.Ended at → HasCome wants did heard now until listener l a → IsOverAt wants l.places at
  over_came until now listener l a at is h =
      subst (λ (x : Arrival S W). HasCome wants did heard now until listener l x) is h

  pub client_came : (until : Option ℕ) (now : ℕ) (listener : L) (l : LoopValue (Talk M) S) (a : Arrival S W) (at : ℕ)
      (stream : S) → a ≡ arrival.Client at stream → HasCome wants did heard now until listener l a
      → (slice_get l.places at ≡ Some Empty) × did stream stream []
  client_came until now listener l a at stream is h =
      subst (λ (x : Arrival S W). HasCome wants did heard now until listener l x) is h

  pub deaf_came : (until : Option ℕ) (now : ℕ) (listener : L) (l : LoopValue (Talk M) S) (a : Arrival S W) (why : W)
      → a ≡ arrival.NotAccepted why → HasCome wants did heard now until listener l a → IsDeaf heard listener why
  deaf_came until now listener l a why is h =
      subst (λ (x : Arrival S W). HasCome wants did heard now until listener l x) is h

  pub late_came : (until : Option ℕ) (now : ℕ) (listener : L) (l : LoopValue (Talk M) S) (a : Arrival S W)
      → a ≡ arrival.TooLate → HasCome wants did heard now until listener l a
      → (has_ended_by until now ≡ true) × WasInVain heard listener l.places l.deaf
  late_came until now listener l a is h =
      subst (λ (x : Arrival S W). HasCome wants did heard now until listener l x) is h

-- what was told of one place holds
module _ {M S L E W : Type 0} (did : S → S → List Deed → Type 0) (heard : L → L → List (AcceptDeed W) → Type 0)
    (now : ℕ) (until : Option ℕ) (listener : L) (x : ClientsValue M S) (at : ℕ) where
  became_of : (event : Event E W) → IsOfPlace did at x.known event → HasBecome did heard now until listener x event
  became_of (Decided other admission) h = h.1
  became_of (Played other end) h = tt
  became_of (Gone other number) h = tt
  became_of TooLate h = absurd h
  became_of (Full why) h = absurd h
  became_of (Deaf why) h = absurd h

  pub became_so : (known : List (List ℕ)) (came : Option (Event E W)) → x.known ≡ known
      → IfSome came (λ event. IsOfPlace did at known event)
      → IfSome came (λ event. HasBecome did heard now until listener x event)
  became_so known None same h = tt
  became_so known (Some event) same h =
      became_of event (subst (λ (k : List (List ℕ)). IsOfPlace did at k event) (sym same) h)

  -- no client can be taken
  pub became_no_more : (numbers : List (Option ℕ)) (why : W) (event : Event E W) → IsDeaf heard listener why
      → IsNoMore numbers why event → HasBecome did heard now until listener x event
  became_no_more numbers why (Deaf reason) deaf h = subst (λ (r : W). IsDeaf heard listener r) (sym h.0) deaf
  became_no_more numbers why (Full reason) deaf h = subst (λ (r : W). IsDeaf heard listener r) (sym h) deaf
  became_no_more numbers why (Decided other admission) deaf h = absurd h
  became_no_more numbers why (Played other end) deaf h = absurd h
  became_no_more numbers why (Gone other number) deaf h = absurd h
  became_no_more numbers why TooLate deaf h = absurd h

-- where that is told nothing is told of a place
module _ {S E W : Type 0} (numbers : List (Option ℕ)) (why : W) where
  pub no_more_stands : {M : Type 0} (places : List (Place (Talk M) S)) (event : Event E W) → IsNoMore numbers why event
      → StandsWhere places event
  no_more_stands places (Deaf reason) h = tt
  no_more_stands places (Full reason) h = tt
  no_more_stands places (Decided other admission) h = absurd h
  no_more_stands places (Played other end) h = absurd h
  no_more_stands places (Gone other number) h = absurd h
  no_more_stands places TooLate h = absurd h

  pub no_more_holds : (did : S → S → List Deed → Type 0) (known : List (List ℕ)) (held : List (Option S))
      (event : Event E W) → IsNoMore numbers why event → HoldsBehind did known held event
  no_more_holds did known held (Deaf reason) h = tt
  no_more_holds did known held (Full reason) h = tt
  no_more_holds did known held (Decided other admission) h = absurd h
  no_more_holds did known held (Played other end) h = absurd h
  no_more_holds did known held (Gone other number) h = absurd h
  no_more_holds did known held TooLate h = absurd h

  pub no_more_fresh : (held : List (Option S)) (event : Event E W) → IsNoMore numbers why event
      → IsNewlyHeld held event
  no_more_fresh held (Deaf reason) h = tt
  no_more_fresh held (Full reason) h = tt
  no_more_fresh held (Decided other admission) h = absurd h
  no_more_fresh held (Played other end) h = absurd h
  no_more_fresh held (Gone other number) h = absurd h
  no_more_fresh held TooLate h = absurd h

  pub no_more_played : {M : Type 0} (did : S → S → List Deed → Type 0) (gives : M → List Told → E → Type 0)
      (held : List (Option S)) (event : Event E W) → IsNoMore numbers why event → TellsPlayed did gives held event
  no_more_played did gives held (Deaf reason) h = tt
  no_more_played did gives held (Full reason) h = tt
  no_more_played did gives held (Decided other admission) h = absurd h
  no_more_played did gives held (Played other end) h = absurd h
  no_more_played did gives held (Gone other number) h = absurd h
  no_more_played did gives held TooLate h = absurd h

  pub no_more_only : {M : Type 0} (old new : List (Place (Talk M) S)) (event : Event E W) → IsNoMore numbers why event
      → PlayNoMore old new → PlayedOnly old new (Some event)
  no_more_only old new (Deaf reason) h only = (only, tt)
  no_more_only old new (Full reason) h only = (only, tt)
  no_more_only old new (Decided other admission) h only = absurd h
  no_more_only old new (Played other end) h only = absurd h
  no_more_only old new (Gone other number) h only = absurd h
  no_more_only old new TooLate h only = absurd h

-- the same names are known
pub same_known : (a b : Bor (List (Bor (List ℕ)))) → a ≡ b
    → map {A = Bor (List ℕ)} {B = List ℕ} (λ name. name.now) a.now
    ≡ map {A = Bor (List ℕ)} {B = List ℕ} (λ name. name.now) b.now
same_known a b same = ap (λ (k : Bor (List (Bor (List ℕ)))). map {A = Bor (List ℕ)} {B = List ℕ} (λ name. name.now) k.now)
    same

-- it is held also where these are known
pub holds_so : {S E W : Type 0} (did : S → S → List Deed → Type 0) (known other : List (List ℕ)) (held : List (Option S))
    (came : Option (Event E W)) → other ≡ known → IfSome came (λ event. HoldsBehind did known held event)
    → IfSome came (λ event. HoldsBehind did other held event)
holds_so {S} {E} {W} did known other held came same h = subst (λ (k : List (List ℕ)).
    IfSome came (λ (event : Event E W). HoldsBehind did k held event)) (sym same) h

-- where nothing was held before in a place, nothing was earlier
pub newly_since : {S E W : Type 0} (old now : List (Option S)) (event : Event E W) → StayHeld old now
    → IsNewlyHeld now event → IsNewlyHeld old event
newly_since old now (Decided at admission) stay h = λ stream held. h stream (stay at stream held)
newly_since old now (Played at end) stay h = λ stream held. h stream (stay at stream held)
newly_since old now (Gone at number) stay h = λ stream held. h stream (stay at stream held)
newly_since old now TooLate stay h = tt
newly_since old now (Full why) stay h = tt
newly_since old now (Deaf why) stay h = tt

pub newly_told : {S E W : Type 0} (old now : List (Option S)) (came : Option (Event E W)) (event : Event E W)
    → came ≡ Some event → StayHeld old now → IfSome came (λ e. IsNewlyHeld now e) → IsNewlyHeld old event
newly_told {S} {E} {W} old now came event is stay h = newly_since old now event stay
    (subst (λ (o : Option (Event E W)). IfSome o (λ e. IsNewlyHeld now e)) is h)

pub newly_so : {S E W : Type 0} (held after : List (Option (Held S))) (came : Option (Event E W)) → after ≡ held
    → IfSome came (λ event. IsNewlyHeld (held_streams after) event)
    → IfSome came (λ event. IsNewlyHeld (held_streams held) event)
newly_so {S} {E} {W} held after came same h = subst (λ (l : List (Option (Held S))).
    IfSome came (λ (event : Event E W). IsNewlyHeld (held_streams l) event)) same h

-- a time that has come has come later
pub ended_later : (until : Option ℕ) (a b : ℕ) → a ≤ b → has_ended_by until a ≡ true → has_ended_by until b ≡ true
ended_later None a b le h = absurd (false≢true h)
ended_later (Some t) a b le h = le-leb t b (omega (arith, le, leb-true t a h))

-- what holds of all holds of what came
pub always_so : {V F : Type 0} (result : Result V F) (P : Type 0) → P → IfOk result (λ value. P)
always_so (Ok value) P p = p
always_so (Err fault) P p = tt
