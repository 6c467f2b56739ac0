-- A connection that is under way: one address more, one that takes it, and none that does.
use Rattle.std.proofs.Common.{◌≡◌, ◌∙◌, ℕ, suc, ◌+◌, ◌<◌, ◌≤◌, true, false, Bool, List, [], ◌∷◌, ◌++◌, length, take}
use Rattle.std.proofs.Common.{drop}
use Rattle.std.proofs.Common.{refl, sym, ap, subst, append_assoc, append-nil, arith, if◌then◌else◌, nat_eq, Some, inr}
use Rattle.std.specs.List.{slice_get}
use Rattle.std.specs.Bool.{⊤}
use Rattle.std.proofs.lemmas.Option.{slice_get_within}
use Rattle.ws_networks.specs.Networks.{AreDeedsOf, HasAdded, NetworkDeed}
use Rattle.ws_networks.specs.Networks.NetworkDeed.{Asked, Begun}
use Rattle.ws_networks.specs.Bounds.{is_given_up}
use Rattle.ws_networks.specs.Connecting.{AllMissed, AreMissed, HasDialled, HaveMissed, IsDialled, IsMissed, KeepsTries}
use Rattle.ws_networks.specs.Connecting.{HasTriedOne, IsMissedBetween, IsTried, IsDialling, OneMade, WasBegun}
use Rattle.ws_networks.specs.Connecting.{AreBegunBy, asked_often}
use Rattle.ws_networks.specs.Connecting.{tried_by, tries_past}
use Rattle.ws_networks.specs.declared.bounds.Bounds.{Bounds}
use Rattle.ws_networks.specs.declared.network.Progress.{Progress}
use Rattle.ws_networks.specs.declared.network.Progress.TheVariants as progress
use Rattle.ws_networks.specs.declared.dialing.Dial.{Dial}
use Rattle.ws_networks.specs.declared.dialing.Dialled.{Dialled}
use Rattle.ws_networks.specs.declared.dialing.Dialled.TheVariants as dialled
use Rattle.ws_networks.specs.declared.dialing.Missed.{Missed}
use Rattle.ws_networks.specs.declared.dialing.Missed.TheVariants as miss
use Rattle.ws_networks.specs.declared.dialing.Tried.{Tried}
use Rattle.ws_networks.specs.declared.dialing.Tried.TheVariants as tried
use Rattle.ws_networks.specs.declared.dialing.Tries.{Tries}
use Rattle.ws_networks.proofs.AddLemmas.{added_none, added_then}
use Rattle.ws_networks.proofs.EachLemmas.{first_so, missed_more, one_behind, parts_at, take_each, take_one}
use Rattle.ws_networks.proofs.TryLemmas.{begun_then, many_more, own_then, same_number}

-- ---- the addresses that were missed

module _ {A W : Type 0} (at from : ℕ) where
  -- one address more has taken no connection
  pub missed_past : (mid to : ℕ) (tries : Tries A W) (address : A) (why : Missed W) (deeds one : List (NetworkDeed A W))
      → HaveMissed at from mid tries deeds → slice_get tries.addresses.items tries.missed ≡ Some address
      → IsMissedBetween at tries.bounds mid to address why one
      → HaveMissed at from to (tries_past why tries) (deeds ++ one)
  missed_past mid to tries address why deeds one h is m = record {
    misses = h.misses ++ why ∷ [];
    tried = subst (λ (l : List A). AreMissed at tries.bounds from to l (h.misses ++ why ∷ []) (deeds ++ one))
        (sym (subst (λ (n : ℕ). take n tries.addresses.items ≡ take tries.missed tries.addresses.items ++ address ∷ [])
        (one_behind tries.missed) (take_one tries.addresses.items tries.missed address is)))
        (missed_more at tries.bounds from mid to (take tries.missed tries.addresses.items) address h.misses why deeds one
        h.tried m);
    first = first_so at tries.bounds from mid tries.addresses.items tries.missed h.misses deeds why tries.first
        (slice_get_within tries.addresses.items tries.missed address is) h.tried h.first;
  }

  -- the next one has taken it
  pub made_next : (mid since to : ℕ) (tries : Tries A W) (address : A) (deeds one : List (NetworkDeed A W))
      → HaveMissed at from mid tries deeds → slice_get tries.addresses.items tries.missed ≡ Some address → mid ≤ since
      → since ≤ to → WasBegun at address since progress.Made one
      → OneMade at tries.bounds from to tries.addresses.items (deeds ++ one)
  made_next mid since to tries address deeds one h is behind le made = record {
    before = take tries.missed tries.addresses.items;
    address = address;
    after = drop (suc tries.missed) tries.addresses.items;
    parts = parts_at tries.addresses.items tries.missed address is;
    mid = mid;
    misses = h.misses;
    tried = deeds;
    made = one;
    all = refl;
    are_missed = h.tried;
    since = since;
    behind = behind;
    was_made = made;
    later = le;
  }

  -- none has
  pub none_left : (to : ℕ) (tries : Tries A W) (deeds : List (NetworkDeed A W)) → HaveMissed at from to tries deeds
      → length tries.addresses.items ≤ tries.missed
      → AllMissed at tries.bounds from to tries.addresses.items tries.first deeds
  none_left to tries deeds h past = record {
    misses = h.misses;
    tried = subst (λ (l : List A). AreMissed at tries.bounds from to l h.misses deeds)
        (take_each tries.addresses.items tries.missed past) h.tried;
    first = h.first;
  }

  -- one to the next one is under way
  pub waits_next : {S : Type 0} (now : ℕ) (tries : Tries A W) (stream : S) (address : A)
      (deeds one : List (NetworkDeed A W)) → HaveMissed at from now tries deeds
      → slice_get tries.addresses.items tries.missed ≡ Some address → WasBegun at address now progress.Pending one
      → IsDialling at from now (record { tries = tries; stream = stream; since = now }) (deeds ++ one)
  waits_next now tries stream address deeds one h is (asked, parts, (n, often)) = record {
    mid = now;
    tried = deeds;
    address = address;
    asked = suc n;
    missed = h;
    is = is;
    after = omega arith;
    before = omega arith;
    all = ap (λ (l : List (NetworkDeed A W)). deeds ++ l) (parts ∙ ap (λ (l : List (NetworkDeed A W)). Begun at address now ∷ l)
        (often ∙ many_more n (Asked at progress.Pending)));
  }

-- ---- it is asked for once more

module _ {A S W : Type 0} (at from now : ℕ) (dial : Dial A S W) (before : List (NetworkDeed A W))
    (h : IsDialling at from now dial before) where
  -- what was done for its address, with one answer more
  abbrev asked_all : (p : Progress W) → List (NetworkDeed A W)
  asked_all p = Begun at h.address dial.since ∷ (asked_often at h.asked ++ Asked at p ∷ [])

  asked_parts : (p : Progress W) → before ++ Asked at p ∷ [] ≡ h.tried ++ asked_all p
  asked_parts p = ap (λ (l : List (NetworkDeed A W)). l ++ Asked at p ∷ []) h.all
      ∙ append_assoc h.tried (Begun at h.address dial.since ∷ asked_often at h.asked) (Asked at p ∷ [])

  was_begun : (p : Progress W) → WasBegun at h.address dial.since p (asked_all p)
  was_begun p = (asked_often at h.asked ++ Asked at p ∷ [], refl, (h.asked, refl))

  pub way_made : OneMade at dial.tries.bounds from now dial.tries.addresses.items
      (before ++ Asked at progress.Made ∷ [])
  way_made = subst (λ (l : List (NetworkDeed A W)). OneMade at dial.tries.bounds from now dial.tries.addresses.items l)
      (sym (asked_parts progress.Made)) (made_next at from h.mid dial.since now dial.tries h.address h.tried
      (asked_all progress.Made) h.missed h.is h.after h.before (was_begun progress.Made))

  pub way_pending : IsDialling at from now dial (before ++ Asked at progress.Pending ∷ [])
  way_pending = record {
    mid = h.mid;
    tried = h.tried;
    address = h.address;
    asked = suc h.asked;
    missed = h.missed;
    is = h.is;
    after = h.after;
    before = h.before;
    all = asked_parts progress.Pending ∙ ap (λ (l : List (NetworkDeed A W)). h.tried ++ Begun at h.address dial.since ∷ l)
        (many_more h.asked (Asked at progress.Pending));
  }

  way_past : (p : Progress W) (why : Missed W)
      → IsMissed at dial.tries.bounds dial.since now h.address why (asked_all p)
      → HaveMissed at from now (tries_past why dial.tries) (before ++ Asked at p ∷ [])
  way_past p why m = subst (λ (l : List (NetworkDeed A W)). HaveMissed at from now (tries_past why dial.tries) l)
      (sym (asked_parts p)) (missed_past at from h.mid now dial.tries h.address why h.tried (asked_all p) h.missed h.is
      (dial.since, now, h.after, h.before, omega arith, m))

  pub way_late : is_given_up dial.tries.bounds dial.since now ≡ true
      → HaveMissed at from now (tries_past miss.TimedOut dial.tries) (before ++ Asked at progress.Pending ∷ [])
  way_late late = way_past progress.Pending miss.TimedOut (was_begun progress.Pending, late)

  pub way_failed : (why : W) → HaveMissed at from now (tries_past (miss.Failed why) dial.tries)
      (before ++ Asked at (progress.Failed why) ∷ [])
  way_failed why = way_past (progress.Failed why) (miss.Failed why) (inr (was_begun (progress.Failed why)))

-- ---- one address after the other

module _ {A W : Type 0} (at now : ℕ) where
  abbrev pub Missing : Tries A W → ℕ → List (NetworkDeed A W) → Type 0
  Missing tries from before = HaveMissed at from now tries before

module _ {A W N : Type 0} (does : N → N → List (NetworkDeed A W) → Type 0) (at now : ℕ) where
  -- the addresses that were tried since the first state
  pub record HaveTried (first tries : Tries A W) (old new : N) : Type 0 where
    pub addresses : tries.addresses.items ≡ first.addresses.items
    pub bounds : tries.bounds ≡ first.bounds
    pub deeds : List (NetworkDeed A W)
    pub added : HasAdded does old new deeds
    pub own : AreDeedsOf at deeds
    pub begun : AreBegunBy now deeds
    pub missed : (from : ℕ) (before : List (NetworkDeed A W)) → Missing at now first from before
        → Missing at now tries from (before ++ deeds)

  pub none_tried : (tries : Tries A W) (old : N) → HaveTried tries tries old old
  none_tried tries old = record {
    addresses = refl;
    bounds = refl;
    deeds = [];
    added = added_none does old;
    own = tt;
    begun = tt;
    missed = λ from before h. subst (λ (l : List (NetworkDeed A W)). HaveMissed at from now tries l)
        (sym (append-nil before)) h;
  }

  -- it has taken none
  pub next_missed : (S : Type 0) (first tries past : Tries A W) (address : A) (why : Missed W) (old mid new : N)
      → HaveTried first tries old mid → slice_get tries.addresses.items tries.missed ≡ Some address
      → HasTriedOne {A = A} {S = S} {W = W} does at tries.bounds now mid new address (tried.Missed why) → past ≡ tries_past why tries
      → HaveTried first past old new
  next_missed S first tries past address why old mid new h is (one, added, own, begun, missed) same =
      subst (λ (t : Tries A W). HaveTried first t old new) (sym same) (record {
        addresses = h.addresses;
        bounds = h.bounds;
        deeds = h.deeds ++ one;
        added = added_then does old mid new h.deeds one h.added added;
        own = own_then at h.deeds one h.own own;
        begun = begun_then now h.deeds one h.begun begun;
        missed = λ from before m. subst (λ (l : List (NetworkDeed A W)). HaveMissed at from now (tries_past why tries) l)
            (append_assoc before h.deeds one) (missed_past at from now now tries address why (before ++ h.deeds) one
            (h.missed from before m) is (now, now, omega arith, omega arith, omega arith, missed));
      })

-- ---- what comes of it

module _ {A S W N : Type 0} (does : N → N → List (NetworkDeed A W) → Type 0) (at now : ℕ) where
  abbrev pub Came : Tries A W → (ℕ → List (NetworkDeed A W) → Type 0) → Dialled A S W → N → N → Type 0
  Came tries stood came old new = HasDialled does at now stood tries.bounds tries.addresses.items came old new

  abbrev pub UnderWay : Dial A S W → ℕ → List (NetworkDeed A W) → Type 0
  UnderWay dial from before = IsDialling at from now dial before

  -- what is known by one answer more, where this has come of the address
  abbrev pub AskedSo : Dial A S W → Progress W → Tried S W → Type 0
  AskedSo dial p (tried.Made stream) = (from : ℕ) (before : List (NetworkDeed A W)) → UnderWay dial from before
      → OneMade at dial.tries.bounds from now dial.tries.addresses.items (before ++ Asked at p ∷ [])
  AskedSo dial p (tried.Waits stream) = (stream ≡ dial.stream) × ((from : ℕ) (before : List (NetworkDeed A W))
      → UnderWay dial from before → UnderWay dial from (before ++ Asked at p ∷ []))
  AskedSo dial p (tried.Missed why) = (from : ℕ) (before : List (NetworkDeed A W)) → UnderWay dial from before
      → HaveMissed at from now (tries_past why dial.tries) (before ++ Asked at p ∷ [])

  pub asked_so : (dial : Dial A S W) (p : Progress W) (late : Bool) → late ≡ is_given_up dial.tries.bounds dial.since now
      → AskedSo dial p (tried_by dial.stream p late)
  asked_so dial progress.Made late is = λ from before h. way_made at from now dial before h
  asked_so dial progress.Pending true is = λ from before h. way_late at from now dial before h (sym is)
  asked_so dial progress.Pending false is = (refl, λ from before h. way_pending at from now dial before h)
  asked_so dial (progress.Failed why) late is = λ from before h. way_failed at from now dial before h why

  -- it is made
  pub ask_made : (dial : Dial A S W) (p : Progress W) (stream : S) (old new : N)
      → HasAdded does old new (Asked at p ∷ []) → AskedSo dial p (tried.Made stream)
      → Came dial.tries (UnderWay dial) (dialled.Made stream) old new
  ask_made dial p stream old new added h = record {
    deeds = Asked at p ∷ [];
    added = added;
    own = (same_number at, tt);
    begun = (tt, tt);
    kept = tt;
    dialled = h;
  }

  -- it is under way still
  pub ask_waits : (dial : Dial A S W) (p : Progress W) (stream : S) (old new : N)
      → HasAdded does old new (Asked at p ∷ []) → AskedSo dial p (tried.Waits stream)
      → Came dial.tries (UnderWay dial)
      (dialled.Waits (record { tries = dial.tries; stream = stream; since = dial.since })) old new
  ask_waits dial p stream old new added (same, h) = record {
    deeds = Asked at p ∷ [];
    added = added;
    own = (same_number at, tt);
    begun = (tt, tt);
    kept = (refl, refl);
    dialled = λ from before way. subst (λ (x : S). IsDialling at from now
        (record { tries = dial.tries; stream = x; since = dial.since }) (before ++ Asked at p ∷ [])) (sym same)
        (h from before way);
  }

  -- its address has taken none, and the next ones were tried
  pub ask_next : (dial : Dial A S W) (p : Progress W) (why : Missed W) (past : Tries A W) (came : Dialled A S W)
      (old mid new : N) → HasAdded does old mid (Asked at p ∷ []) → AskedSo dial p (tried.Missed why)
      → past ≡ tries_past why dial.tries → Came past (Missing at now past) came mid new
      → Came dial.tries (UnderWay dial) came old new
  ask_next dial p why past came old mid new added h is next = record {
    deeds = Asked at p ∷ next.deeds;
    added = added_then does old mid new (Asked at p ∷ []) next.deeds added next.added;
    own = (same_number at, next.own);
    begun = (tt, next.begun);
    kept = subst (λ (t : Tries A W). KeepsTries t.bounds t.addresses.items came) is next.kept;
    dialled = λ from before way. subst (λ (t : Tries A W). IsDialled at from now t.bounds t.addresses.items came
        (before ++ Asked at p ∷ next.deeds)) is
        (subst (λ (l : List (NetworkDeed A W)). IsDialled at from now past.bounds past.addresses.items came l)
        (append_assoc before (Asked at p ∷ []) next.deeds)
        (next.dialled from (before ++ Asked at p ∷ [])
        (subst (λ (t : Tries A W). HaveMissed at from now t (before ++ Asked at p ∷ [])) (sym is) (h from before way))));
  }

  -- what came of it by the addresses before and one thing more
  tries_then : (first tries : Tries A W) (came : Dialled A S W) (old mid new : N) (h : HaveTried does at now first tries old mid)
      (one : List (NetworkDeed A W)) → HasAdded does mid new one → AreDeedsOf at one → AreBegunBy now one
      → KeepsTries tries.bounds tries.addresses.items came
      → ((from : ℕ) (before : List (NetworkDeed A W)) → Missing at now tries from before
      → IsDialled at from now tries.bounds tries.addresses.items came (before ++ one))
      → Came first (Missing at now first) came old new
  tries_then first tries came old mid new h one added own begun kept f = record {
    deeds = h.deeds ++ one;
    added = added_then does old mid new h.deeds one h.added added;
    own = own_then at h.deeds one h.own own;
    begun = begun_then now h.deeds one h.begun begun;
    kept = subst (λ (b : Bounds). KeepsTries b first.addresses.items came) h.bounds
        (subst (λ (a : List A). KeepsTries tries.bounds a came) h.addresses kept);
    dialled = λ from before m. subst (λ (b : Bounds). IsDialled at from now b first.addresses.items came
        (before ++ (h.deeds ++ one))) h.bounds
        (subst (λ (a : List A). IsDialled at from now tries.bounds a came (before ++ (h.deeds ++ one))) h.addresses
        (subst (λ (l : List (NetworkDeed A W)). IsDialled at from now tries.bounds tries.addresses.items came l)
        (append_assoc before h.deeds one) (f from (before ++ h.deeds) (h.missed from before m))));
  }

  -- the next one has taken it
  pub next_made : (first tries : Tries A W) (address : A) (stream : S) (old mid new : N) → HaveTried does at now first tries old mid
      → slice_get tries.addresses.items tries.missed ≡ Some address
      → HasTriedOne does at tries.bounds now mid new address (tried.Made stream)
      → Came first (Missing at now first) (dialled.Made stream) old new
  next_made first tries address stream old mid new h is (one, added, own, begun, made) =
      tries_then first tries (dialled.Made stream) old mid new h one added own begun tt
      (λ from before m. made_next at from now now now tries address before one m is (omega arith) (omega arith) made)

  -- it is waited for
  pub next_waits : (first tries : Tries A W) (address : A) (stream : S) (old mid new : N) → HaveTried does at now first tries old mid
      → slice_get tries.addresses.items tries.missed ≡ Some address
      → HasTriedOne does at tries.bounds now mid new address (tried.Waits stream)
      → Came first (Missing at now first) (dialled.Waits (record { tries = tries; stream = stream; since = now })) old new
  next_waits first tries address stream old mid new h is (one, added, own, by_now, begun) =
      tries_then first tries (dialled.Waits (record { tries = tries; stream = stream; since = now })) old mid new h one
      added own by_now (refl, refl) (λ from before m. waits_next at from now tries stream address before one m is begun)

  -- no address is left
  pub next_none : (first tries : Tries A W) (old new : N) → HaveTried does at now first tries old new
      → length tries.addresses.items ≤ tries.missed
      → Came first (Missing at now first) (dialled.Missed tries.first) old new
  next_none first tries old new h past = tries_then first tries (dialled.Missed tries.first) old new new h []
      (added_none does new) tt tt tt (λ from before m. subst (λ (l : List (NetworkDeed A W)). AllMissed at tries.bounds from now
      tries.addresses.items tries.first l) (sym (append-nil before)) (none_left at from now tries before m past))

  -- none was tried before
  pub untried_so : (tries : Tries A W) (addresses : List A) (bounds : Bounds) (came : Dialled A S W) (old new : N)
      → tries.addresses.items ≡ addresses → tries.bounds ≡ bounds → tries.missed ≡ 0
      → tries.first ≡ miss.NoAddress → Came tries (Missing at now tries) came old new
      → HasDialled does at now (λ from before. (from ≤ now) × (before ≡ [])) bounds addresses came old new
  untried_so tries addresses bounds came old new same alike none first h = record {
    deeds = h.deeds;
    added = h.added;
    own = h.own;
    begun = h.begun;
    kept = subst (λ (b : Bounds). KeepsTries b addresses came) alike
        (subst (λ (a : List A). KeepsTries tries.bounds a came) same h.kept);
    dialled = λ from before (le, nothing). subst (λ (b : Bounds). IsDialled at from now b addresses came
        (before ++ h.deeds)) alike
        (subst (λ (a : List A). IsDialled at from now tries.bounds a came (before ++ h.deeds)) same
        (h.dialled from before (record {
          misses = [];
          tried = subst (λ (n : ℕ). AreMissed at tries.bounds from now (take n tries.addresses.items) [] before)
              (sym none) (le, nothing);
          first = first;
        })));
  }
