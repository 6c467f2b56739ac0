-- A step of a slot: what is due is done, its machine is told of it, and less can happen from then on.
use Rattle.std.proofs.Common.{◌≡◌, ◌∙◌, ℕ, zero, suc, ◌+◌, ◌*◌, ◌<◌, ◌≤◌, ◌&&◌, ◌||◌, not, Bool, true, false}
use Rattle.std.proofs.Common.{if◌then◌else◌, nat_eq, nat_lt, List, [], ◌∷◌, length, take, Option, Some, None, is_some}
use Rattle.std.proofs.Common.{refl, sym, ap, subst, arith, append-nil}
use Rattle.std.proofs.lemmas.List.{length-take}
use Rattle.std.proofs.lemmas.Option.{none-some, same_Some}
use Rattle.std.proofs.lemmas.Bool.{eq-eqb}
use Rattle.ws_machines.specs.Told.{Told}
use Rattle.ws_machines.specs.Told.Told.{Came, Ended, ReadFailed, Reported, Taken, WriteFailed}
use Rattle.ws_machines.specs.Machines.{Extends, Wants, told_at}
use Rattle.ws_machines.specs.declared.stream.StreamEvent.{StreamEvent}
use Rattle.ws_machines.specs.declared.stream.StreamEvent.TheVariants as event
use Rattle.ws_loops.specs.Deeds.{Deed, FitsTryWrite, HasDone, came_deed, done_by, moved_by, read_deed}
use Rattle.ws_loops.specs.Deeds.{shown_by, told_by, try_write_event, write_deed}
use Rattle.ws_loops.specs.declared.non_blocking.TryRead.{TryRead}
use Rattle.ws_loops.specs.declared.non_blocking.TryRead.TheVariants as read
use Rattle.ws_loops.specs.declared.non_blocking.TryWrite.{TryWrite}
use Rattle.ws_loops.specs.declared.non_blocking.TryWrite.TheVariants as write
use Rattle.ws_loops.specs.Deeds.Deed.{Did, Emptied, HadNone, Passed, Showed, TookNone}
use Rattle.ws_loops.specs.Paces.{emptied_by, emptied_pace, told_pace}
use Rattle.ws_loops.specs.Paces.{full_pace, has_any_bytes, idle_pace, is_at, is_due, has_ended_by, is_read_due}
use Rattle.ws_loops.specs.Paces.{is_wait_late, is_write_due, is_write_late, pace_after}
use Rattle.ws_loops.specs.Slots.{HasStepped, HasToldOne, IsAble, IsFree, IsNextDeed, in_vain, slot_left}
use Rattle.ws_loops.specs.declared.pace.Pace.{Pace}
use Rattle.ws_loops.specs.declared.slot.Slot.{Slot}

-- ---- what is asked wasn't by now

not_asked : (r x l a : Bool) → (r && ((false && x) || (l && not a))) ≡ true → a ≡ false
not_asked true x true false e = refl
not_asked true x true true e = absurd cc
not_asked true x false a e = absurd cc
not_asked false x l a e = absurd cc

not_given : (b l a : Bool) → (b && (false || (l && not a))) ≡ true → a ≡ false
not_given true true false e = refl
not_given true true true e = absurd cc
not_given true false a e = absurd cc
not_given false l a e = absurd cc

pub read_asks : (o : Option ℕ) (now : ℕ) (r t w l : Bool)
    → (r && ((not (is_some o) && (t || not w)) || (l && not (is_at o now)))) ≡ true → in_vain o now ≡ 1
read_asks None now r t w l e = refl
read_asks (Some time) now r t w l e =
    ap (λ (b : Bool). if b then 0 else 1) (not_asked r (t || not w) l (nat_eq time now) e)

pub write_asks : (o : Option ℕ) (now : ℕ) (b l : Bool)
    → (b && (not (is_some o) || (l && not (is_at o now)))) ≡ true → in_vain o now ≡ 1
write_asks None now b l e = refl
write_asks (Some time) now b l e = ap (λ (b : Bool). if b then 0 else 1) (not_given b l (nat_eq time now) e)

at_most_one : (b : Bool) → (if b then 0 else 1) ≤ 1
at_most_one true = omega arith
at_most_one false = omega arith

in_vain_le : (o : Option ℕ) (now : ℕ) → in_vain o now ≤ 1
in_vain_le o now = at_most_one (is_at o now)

in_vain_now : (now : ℕ) → in_vain (Some now) now ≡ 0
in_vain_now now = ap (λ (b : Bool). if b then 0 else 1) (eq-eqb now now refl)

take_front : (i j : ℕ) (l : List ℕ) → i ≤ j → take i (take j l) ≡ take i l
take_front zero j l h = refl
take_front (suc i) zero l h = absurd (omega (arith, h))
take_front (suc i) (suc j) [] h = refl
take_front (suc i) (suc j) (x ∷ l) h = ap (λ (t : List ℕ). x ∷ t) (take_front i j l (omega (arith, h)))

falls : (a b c d m n : ℕ) → m < n → a ≤ 1 → b ≤ 1 → m * 3 + (a + b) < n * 3 + (c + d)
falls a b c d m n h k l = omega (arith, h, k, l)

falls_first : (a b m : ℕ) → a ≡ 1 → m * 3 + (0 + b) < m * 3 + (a + b)
falls_first a b m e = omega (arith, e)

falls_second : (a b m : ℕ) → b ≡ 1 → m * 3 + (a + 0) < m * 3 + (a + b)
falls_second a b m e = omega (arith, e)

-- ---- what is due

only_other : (a b : Bool) → (a || b) ≡ true → a ≡ false → b ≡ true
only_other true b h e = absurd cc
only_other false b h e = h

second_true : (a b : Bool) → (a && b) ≡ true → b ≡ true
second_true true b h = h
second_true false b h = absurd cc

-- where something is due, and nothing else, what is waited for is late
pub wait_is_late : (wants : Wants) (p : Pace) (now : ℕ) → is_due wants p now ≡ true → IsFree wants p now
    → is_read_due wants p now ≡ false → is_write_due wants p now ≡ false → is_write_late wants p now ≡ false
    → is_wait_late wants p now ≡ true
wait_is_late wants p now due free r w l =
    let all = second_true (not wants.done) (has_any_bytes wants.report || (wants.end || (has_ended_by p.deadline now
    || (is_read_due wants p now || (is_write_due wants p now || (is_write_late wants p now
    || is_wait_late wants p now)))))) due in
    let no_lines : has_any_bytes wants.report ≡ false = ap has_any_bytes free.reported in
    only_other (is_write_late wants p now) (is_wait_late wants p now)
    (only_other (is_write_due wants p now) (is_write_late wants p now || is_wait_late wants p now)
    (only_other (is_read_due wants p now) (is_write_due wants p now || (is_write_late wants p now
    || is_wait_late wants p now))
    (only_other (has_ended_by p.deadline now) (is_read_due wants p now || (is_write_due wants p now
    || (is_write_late wants p now || is_wait_late wants p now)))
    (only_other wants.end (has_ended_by p.deadline now || (is_read_due wants p now || (is_write_due wants p now
    || (is_write_late wants p now || is_wait_late wants p now))))
    (only_other (has_any_bytes wants.report) (wants.end || (has_ended_by p.deadline now || (is_read_due wants p now
    || (is_write_due wants p now || (is_write_late wants p now || is_wait_late wants p now))))) all no_lines)
    free.ended) free.early) r) w) l

-- ---- what was done

-- of what came the machine is told just the bytes
came_told : (short : Bool) (bytes : List ℕ) (said : Told) → told_by (came_deed short bytes) ≡ said ∷ []
    → Came bytes ≡ said
came_told true bytes said e = cc
came_told false bytes said e = cc

came_moved : (short : Bool) (bytes : List ℕ) (moved : ℕ) → moved_by (came_deed short bytes) ≡ moved
    → length bytes ≡ moved
came_moved true bytes moved e = e
came_moved false bytes moved e = e

module _ {M S : Type 0} (agrees : M → M → List Told → Type 0) (wants : M → Wants) (did : S → S → List Deed → Type 0)
    (left : M → ℕ) where
  -- the stream did this, and the machine was told so
  pub did_so : (now : ℕ) (old : Slot M S) (t : S) (new : Slot M S) (deed : Deed) (said : Told) (moved : ℕ)
      → deed ≡ Did said → moved_by deed ≡ moved
      → HasToldOne agrees wants left now said (record { machine = old.machine; stream = t; pace = old.pace }) new
      → new.stream ≡ t → HasDone did old.stream t (deed ∷ []) → IsNextDeed (wants old.machine) old.pace now deed
      → HasStepped agrees wants did left now old new moved []
  did_so now old t new deed said moved e m h same done next = record {
    deed = deed;
    step = record {
      told = subst (λ (d : Deed). Extends agrees old.machine new.machine (told_by d)) (sym e) h.told;
      done = subst (λ (s : S). HasDone did old.stream s (done_by deed)) (sym same)
          (subst (λ (d : Deed). HasDone did old.stream t (done_by d)) (sym e)
          (subst (λ (d : Deed). HasDone did old.stream t (d ∷ [])) e done));
      paced = h.paced
          ∙ ap (λ (d : Deed). pace_after (wants old.machine) (wants new.machine) now d old.pace) (sym e);
      order = next;
    };
    moved_by = m;
    shown = ap shown_by e;
    able = h.able;
    nears = falls (in_vain new.pace.idle now) (in_vain new.pace.full now) (in_vain old.pace.idle now)
        (in_vain old.pace.full now) (left new.machine) (left old.machine) h.nears (in_vain_le new.pace.idle now)
        (in_vain_le new.pace.full now);
  }

  -- the stream gave all that it had, and the machine was told so
  emptied_so : (now : ℕ) (old : Slot M S) (t : S) (new : Slot M S) (bytes : List ℕ)
      → HasToldOne agrees wants left now (Came bytes) (record { machine = old.machine; stream = t; pace = old.pace })
      new → new.stream ≡ t → HasDone did old.stream t (Emptied bytes ∷ [])
      → IsNextDeed (wants old.machine) old.pace now (Emptied bytes)
      → HasStepped agrees wants did left now old
      (record { machine = new.machine; stream = new.stream; pace = emptied_pace true new.pace }) (length bytes) []
  emptied_so now old t new bytes h same done next = record {
    deed = Emptied bytes;
    step = record {
      told = h.told;
      done = subst (λ (s : S). HasDone did old.stream s (Emptied bytes ∷ [])) (sym same) done;
      paced = ap (emptied_pace true) h.paced;
      order = next;
    };
    moved_by = refl;
    shown = refl;
    able = h.able;
    nears = falls (in_vain new.pace.idle now) (in_vain new.pace.full now) (in_vain old.pace.idle now)
        (in_vain old.pace.full now) (left new.machine) (left old.machine) h.nears (in_vain_le new.pace.idle now)
        (in_vain_le new.pace.full now);
  }

  -- a read has brought this, and the machine was told so
  came_so : (now : ℕ) (old : Slot M S) (t : S) (new : Slot M S) (bytes : List ℕ) (said : Told) (moved : ℕ)
      (short : Bool) → Came bytes ≡ said → length bytes ≡ moved
      → HasToldOne agrees wants left now said (record { machine = old.machine; stream = t; pace = old.pace }) new
      → new.stream ≡ t → HasDone did old.stream t (came_deed short bytes ∷ [])
      → IsNextDeed (wants old.machine) old.pace now (came_deed short bytes)
      → HasStepped agrees wants did left now old
      (record { machine = new.machine; stream = new.stream; pace = emptied_pace short new.pace }) moved []
  came_so now old t new bytes said moved true e m h same done next =
      subst (λ (n : ℕ). HasStepped agrees wants did left now old
      (record { machine = new.machine; stream = new.stream; pace = emptied_pace true new.pace }) n []) m
      (emptied_so now old t new bytes (subst (λ (x : Told). HasToldOne agrees wants left now x
      (record { machine = old.machine; stream = t; pace = old.pace }) new) (sym e) h) same done next)
  came_so now old t new bytes said moved false e m h same done next =
      subst (λ (p : Pace). HasStepped agrees wants did left now old
      (record { machine = new.machine; stream = new.stream; pace = p }) moved [])
      (not_emptied now old t new bytes said e h)
      (did_so now old t new (Did (Came bytes)) said moved (ap (λ (x : Told). Did x) e) m h same done next)
    where
      not_emptied : (now : ℕ) (old : Slot M S) (t : S) (new : Slot M S) (bytes : List ℕ) (said : Told)
          → Came bytes ≡ said → HasToldOne agrees wants left now said
          (record { machine = old.machine; stream = t; pace = old.pace }) new → new.pace ≡ emptied_pace false new.pace
      not_emptied now old t new bytes said e h =
          let now_paced : new.pace ≡ told_pace (has_any_bytes (wants old.machine).write) (wants new.machine).waits_anew
          now (Came bytes) old.pace = h.paced ∙ ap (λ (x : Told). told_pace (has_any_bytes (wants old.machine).write)
          (wants new.machine).waits_anew now x old.pace) (sym e) in
          now_paced ∙ ap (emptied_pace false) (sym now_paced)

  pub read_so : (now : ℕ) (old : Slot M S) (t : S) (new slot : Slot M S) (p : Pace) (room : List ℕ) (outcome : TryRead)
      (len : ℕ) (said : Told) (moved : ℕ) → told_by (read_deed room outcome) ≡ said ∷ []
      → moved_by (read_deed room outcome) ≡ moved → len ≡ length room
      → HasToldOne agrees wants left now said (record { machine = old.machine; stream = t; pace = old.pace }) new
      → new.stream ≡ t → HasDone did old.stream t (read_deed room outcome ∷ [])
      → IsNextDeed (wants old.machine) old.pace now (read_deed room outcome)
      → slot ≡ record { machine = new.machine; stream = new.stream; pace = p } → p ≡ emptied_by outcome len new.pace
      → HasStepped agrees wants did left now old slot moved []
  read_so now old t new slot p room outcome len said moved e m l h same done next is paced =
      let all : slot ≡ record {
        machine = new.machine;
        stream = new.stream;
        pace = emptied_by outcome (length room)
            new.pace;
      } = is ∙ ap (λ (q : Pace). record { machine = new.machine; stream = new.stream; pace = q })
      (paced ∙ ap (λ (n : ℕ). emptied_by outcome n new.pace) l) in
      subst (λ (x : Slot M S). HasStepped agrees wants did left now old x moved []) (sym all)
      (by outcome e m done next)
    where
      by : (outcome : TryRead) → told_by (read_deed room outcome) ≡ said ∷ []
          → moved_by (read_deed room outcome) ≡ moved → HasDone did old.stream t (read_deed room outcome ∷ [])
          → IsNextDeed (wants old.machine) old.pace now (read_deed room outcome)
          → HasStepped agrees wants did left now old
          (record { machine = new.machine; stream = new.stream; pace = emptied_by outcome (length room) new.pace })
          moved []
      by (read.Came count) e m done next = came_so now old t new (take count room) said moved
          (nat_lt count (length room)) (came_told (nat_lt count (length room)) (take count room) said e)
          (came_moved (nat_lt count (length room)) (take count room) moved m) h same done next
      by read.Ended e m done next = did_so now old t new (Did Ended) said moved (ap (λ (x : Told). Did x) cc) m h
          same done next
      by read.Failed e m done next = did_so now old t new (Did ReadFailed) said moved (ap (λ (x : Told). Did x) cc) m h
          same done next
      by read.NotReady e m done next = absurd cc

  -- its lines were taken, and the machine was told so
  pub showed_so : (now : ℕ) (old new : Slot M S) (lines : List ℕ)
      → HasToldOne agrees wants left now (Reported lines) old new → new.stream ≡ old.stream
      → IsNextDeed (wants old.machine) old.pace now (Showed lines)
      → HasStepped agrees wants did left now old new 0 (lines ∷ [])
  showed_so now old new lines h same next = record {
    deed = Showed lines;
    step = record {
      told = h.told;
      done = λ start deeds x. subst (λ (l : List Deed). did start new.stream l) (sym (append-nil deeds))
          (subst (λ (s : S). did start s deeds) (sym same) x);
      paced = h.paced;
      order = next;
    };
    moved_by = refl;
    shown = refl;
    able = h.able;
    nears = falls (in_vain new.pace.idle now) (in_vain new.pace.full now) (in_vain old.pace.idle now)
        (in_vain old.pace.full now) (left new.machine) (left old.machine) h.nears (in_vain_le new.pace.idle now)
        (in_vain_le new.pace.full now);
  }

  -- the clock says this, and the machine was told so
  pub passed_so : (now : ℕ) (old new : Slot M S) (said : Told)
      → HasToldOne agrees wants left now said old new → new.stream ≡ old.stream
      → IsNextDeed (wants old.machine) old.pace now (Passed said) → HasStepped agrees wants did left now old new 0 []
  passed_so now old new said h same next = record {
    deed = Passed said;
    step = record {
      told = h.told;
      done = λ start deeds x. subst (λ (l : List Deed). did start new.stream l) (sym (append-nil deeds))
          (subst (λ (s : S). did start s deeds) (sym same) x);
      paced = h.paced;
      order = next;
    };
    moved_by = refl;
    shown = refl;
    able = h.able;
    nears = falls (in_vain new.pace.idle now) (in_vain new.pace.full now) (in_vain old.pace.idle now)
        (in_vain old.pace.full now) (left new.machine) (left old.machine) h.nears (in_vain_le new.pace.idle now)
        (in_vain_le new.pace.full now);
  }

  told_nothing : (m : M) → Extends agrees m m []
  told_nothing m = λ start told x. subst (λ (l : List Told). agrees start m l) (sym (append-nil told)) x

  -- the stream had no bytes
  idle_base : (now : ℕ) (old : Slot M S) (t : S) (deed : Deed) (moved : ℕ) → deed ≡ HadNone → moved_by deed ≡ moved
      → IsAble agrees wants old.machine → in_vain old.pace.idle now ≡ 1 → HasDone did old.stream t (deed ∷ [])
      → IsNextDeed (wants old.machine) old.pace now deed
      → HasStepped agrees wants did left now old
      (record { machine = old.machine; stream = t; pace = idle_pace now old.pace }) moved []
  idle_base now old t deed moved e m able was done next = record {
    deed = deed;
    step = record {
      told = subst (λ (d : Deed). Extends agrees old.machine old.machine (told_by d)) (sym e)
          (told_nothing old.machine);
      done = subst (λ (d : Deed). HasDone did old.stream t (done_by d)) (sym e)
          (subst (λ (d : Deed). HasDone did old.stream t (d ∷ [])) e done);
      paced = ap (λ (d : Deed). pace_after (wants old.machine) (wants old.machine) now d old.pace) (sym e);
      order = next;
    };
    moved_by = m;
    shown = ap shown_by e;
    able = able;
    nears = subst (λ (n : ℕ). left old.machine * 3 + (n + in_vain old.pace.full now) < slot_left left old now)
        (sym (in_vain_now now)) (falls_first (in_vain old.pace.idle now) (in_vain old.pace.full now)
        (left old.machine) was);
  }

  pub idle_so : (now : ℕ) (old new : Slot M S) (t : S) (p : Pace) (deed : Deed) (moved : ℕ) → deed ≡ HadNone
      → moved_by deed ≡ moved → IsAble agrees wants old.machine → in_vain old.pace.idle now ≡ 1
      → HasDone did old.stream t (deed ∷ []) → IsNextDeed (wants old.machine) old.pace now deed
      → new ≡ record { machine = old.machine; stream = t; pace = p } → p ≡ idle_pace now old.pace
      → HasStepped agrees wants did left now old new moved []
  idle_so now old new t p deed moved e m able was done next is paced =
      let all : new ≡ record { machine = old.machine; stream = t; pace = idle_pace now old.pace } =
      is ∙ ap (λ (q : Pace). record { machine = old.machine; stream = t; pace = q }) paced in
      subst (λ (x : Slot M S). HasStepped agrees wants did left now old x moved []) (sym all)
      (idle_base now old t deed moved e m able was done next)

  -- the stream took no bytes
  full_base : (now : ℕ) (old : Slot M S) (t : S) (deed : Deed) (moved : ℕ) → deed ≡ TookNone → moved_by deed ≡ moved
      → IsAble agrees wants old.machine → in_vain old.pace.full now ≡ 1 → HasDone did old.stream t (deed ∷ [])
      → IsNextDeed (wants old.machine) old.pace now deed
      → HasStepped agrees wants did left now old
      (record { machine = old.machine; stream = t; pace = full_pace now old.pace }) moved []
  full_base now old t deed moved e m able was done next = record {
    deed = deed;
    step = record {
      told = subst (λ (d : Deed). Extends agrees old.machine old.machine (told_by d)) (sym e)
          (told_nothing old.machine);
      done = subst (λ (d : Deed). HasDone did old.stream t (done_by d)) (sym e)
          (subst (λ (d : Deed). HasDone did old.stream t (d ∷ [])) e done);
      paced = ap (λ (d : Deed). pace_after (wants old.machine) (wants old.machine) now d old.pace) (sym e);
      order = next;
    };
    moved_by = m;
    shown = ap shown_by e;
    able = able;
    nears = subst (λ (n : ℕ). left old.machine * 3 + (in_vain old.pace.idle now + n) < slot_left left old now)
        (sym (in_vain_now now)) (falls_second (in_vain old.pace.idle now) (in_vain old.pace.full now)
        (left old.machine) was);
  }

  pub full_so : (now : ℕ) (old new : Slot M S) (t : S) (p : Pace) (deed : Deed) (moved : ℕ) → deed ≡ TookNone
      → moved_by deed ≡ moved → IsAble agrees wants old.machine → in_vain old.pace.full now ≡ 1
      → HasDone did old.stream t (deed ∷ []) → IsNextDeed (wants old.machine) old.pace now deed
      → new ≡ record { machine = old.machine; stream = t; pace = p } → p ≡ full_pace now old.pace
      → HasStepped agrees wants did left now old new moved []
  full_so now old new t p deed moved e m able was done next is paced =
      let all : new ≡ record { machine = old.machine; stream = t; pace = full_pace now old.pace } =
      is ∙ ap (λ (q : Pace). record { machine = old.machine; stream = t; pace = q }) paced in
      subst (λ (x : Slot M S). HasStepped agrees wants did left now old x moved []) (sym all)
      (full_base now old t deed moved e m able was done next)

-- ---- calls

-- a read that is due is next, whatever comes of it, and so is a write
pub read_next : (wants : Wants) (p : Pace) (now : ℕ) (room : List ℕ) (outcome : TryRead) → IsFree wants p now
    → is_read_due wants p now ≡ true → IsNextDeed wants p now (read_deed room outcome)
read_next wants p now room (read.Came count) f e = came_next (nat_lt count (length room)) (take count room)
  where
    came_next : (short : Bool) (bytes : List ℕ) → IsNextDeed wants p now (came_deed short bytes)
    came_next true bytes = (f, e)
    came_next false bytes = (f, e)
read_next wants p now room read.Ended f e = (f, e)
read_next wants p now room read.Failed f e = (f, e)
read_next wants p now room read.NotReady f e = (f, e)

pub write_next : (wants : Wants) (p : Pace) (now : ℕ) (bytes : List ℕ) (outcome : TryWrite) → IsFree wants p now
    → is_read_due wants p now ≡ false → is_write_due wants p now ≡ true
    → IsNextDeed wants p now (write_deed bytes outcome)
write_next wants p now bytes (write.Taken count) f r e = (f, (r, e))
write_next wants p now bytes write.Failed f r e = (f, (r, e))
write_next wants p now bytes write.NotReady f r e = (f, (r, e))

-- what came of a write of the front of what is wanted, as the machine is told of it, and that it may be
pub write_told : (wants : Wants) (len : ℕ) (outcome : TryWrite) (x : StreamEvent) → try_write_event outcome ≡ Some x
    → FitsTryWrite (length (take len wants.write)) outcome
    → write_deed (take len wants.write) outcome ≡ Did (told_at wants x)
write_told wants len (write.Taken count) x e fits =
    subst (λ (y : StreamEvent). Did (Taken (take count (take len wants.write))) ≡ Did (told_at wants y))
    (same_Some (event.Taken count) x e)
    (ap (λ (l : List ℕ). Did (Taken l)) (take_front count len wants.write
    (omega (arith, fits.1, length-take len wants.write))))
write_told wants len write.Failed x e fits =
    subst (λ (y : StreamEvent). Did WriteFailed ≡ Did (told_at wants y)) (same_Some event.WriteFailed x e) refl
write_told wants len write.NotReady x e fits = absurd (none-some x e)

pub write_told_none : (wants : Wants) (len : ℕ) (outcome : TryWrite) → try_write_event outcome ≡ None
    → write_deed (take len wants.write) outcome ≡ TookNone
write_told_none wants len (write.Taken count) e = absurd (none-some (event.Taken count) (sym e))
write_told_none wants len write.Failed e = absurd (none-some event.WriteFailed (sym e))
write_told_none wants len write.NotReady e = refl

-- it has moved no more than the piece of which it is
pub moved_within : (len share : ℕ) (bytes : List ℕ) (outcome : TryWrite) → len ≤ share
    → FitsTryWrite (length (take len bytes)) outcome → moved_by (write_deed (take len bytes) outcome) ≤ share
moved_within len share bytes (write.Taken count) h fits =
    omega (arith, h, length-take count (take len bytes), length-take len bytes)
moved_within len share bytes write.Failed h fits = omega arith
moved_within len share bytes write.NotReady h fits = omega arith
