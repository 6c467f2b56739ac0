-- What is told by the clock was asked by that time, and what is written was read before.
use Rattle.std.proofs.Common.{◌≡◌, ℕ, ◌⊎◌, ◌&&◌, ◌||◌, not, Bool, true, false, nat_eq, nat_lt, List, Option, Some}
use Rattle.std.proofs.Common.{◌+◌, ◌-◌, ◌<◌, if◌then◌else◌, nat_le, None, is_some, refl, sym, ap, subst, inl, inr}
use Rattle.std.proofs.Common.{arith}
use Rattle.std.proofs.lemmas.Bool.{eqb-true, leb-false, leb-true, ltb-false}
use Rattle.ws_machines.specs.Machines.{Wants}
use Rattle.ws_machines.specs.Told.Told.{NothingCame, Taken, WriteFailed}
use Rattle.ws_loops.specs.Deeds.Deed.{Did, Passed}
use Rattle.ws_loops.specs.Paces.{IsBefore, due_time, has_any_bytes, has_ended_by, has_passed, is_at, is_due}
use Rattle.ws_loops.specs.Paces.{is_read_due, reads_first}
use Rattle.ws_loops.specs.Paces.{is_wait_late, is_write_due, is_write_late, limit_at, passes_at, sooner}
use Rattle.ws_loops.specs.Slots.{IsNextDeed}
use Rattle.ws_loops.specs.declared.pace.Pace.{Pace}

is_now : (time now : ℕ) (b : Bool) → b ≡ nat_eq time now → not b ≡ false → Some time ≡ Some now
is_now time now true e h = ap (λ (n : ℕ). Some n) (eqb-true time now (sym e))
is_now time now false e h = absurd cc

idle_is : (o : Option ℕ) (now : ℕ) (r t w l : Bool)
    → (r && ((not (is_some o) && (t || not w)) || (l && not (is_at o now)))) ≡ false → r ≡ true → w ≡ false
    → l ≡ true → o ≡ Some now
idle_is None now true true false true e f g h = absurd cc
idle_is None now true false false true e f g h = absurd cc
idle_is (Some time) now true t false true e f g h = is_now time now (nat_eq time now) refl e
idle_is o now false t w l e f g h = absurd cc
idle_is o now true t true l e f g h = absurd cc
idle_is o now true t false false e f g h = absurd cc

full_is : (o : Option ℕ) (now : ℕ) (b l : Bool)
    → (b && (not (is_some o) || (l && not (is_at o now)))) ≡ false → b ≡ true → l ≡ true → o ≡ Some now
full_is None now true true e f h = absurd cc
full_is (Some time) now true true e f h = is_now time now (nat_eq time now) refl e
full_is o now false l e f h = absurd cc
full_is o now true false e f h = absurd cc

first_of : (a b : Bool) → (a && b) ≡ true → a ≡ true
first_of true b h = refl
first_of false b h = absurd cc

second_of : (a b : Bool) → (a && b) ≡ true → b ≡ true
second_of true b h = h
second_of false b h = absurd cc

pub vain_so : (wants : Wants) (p : Pace) (now : ℕ) → IsNextDeed wants p now (Passed NothingCame)
    → (p.idle ≡ Some now) × (has_passed p.limit p.waits_since now ≡ true)
vain_so wants p now h =
    let late = h.1.1.1 in
    let rest = second_of (not (has_any_bytes wants.write)) (nat_lt 0 wants.room
    && has_passed p.limit p.waits_since now) late in (
      idle_is p.idle now (nat_lt 0 wants.room) (reads_first p) (is_write_due wants p now) (is_wait_late wants p now)
          h.1.0 (first_of (nat_lt 0 wants.room) (has_passed p.limit p.waits_since now) rest) h.1.1.0 late,
      second_of (nat_lt 0 wants.room) (has_passed p.limit p.waits_since now) rest,
    )

pub tried_so : (wants : Wants) (p : Pace) (now : ℕ) → IsNextDeed wants p now (Passed WriteFailed)
    → (p.full ≡ Some now) × (has_passed p.limit p.writes_since now ≡ true)
tried_so wants p now h =
    let late = h.1.1.1 in
    let passed = second_of (has_any_bytes wants.write) (has_passed p.limit p.writes_since now) late in (
      full_is p.full now (has_any_bytes wants.write) (has_passed p.limit p.writes_since now) h.1.1.0
          (first_of (has_any_bytes wants.write) (has_passed p.limit p.writes_since now) late) passed,
      passed,
    )

none_left : (n : ℕ) → nat_lt 0 n ≡ false → n ≡ 0
none_left n e = omega (arith, ltb-false 0 n e)

not_first : (turn : ℕ) (emptied : Bool) → (nat_lt 0 turn && not emptied) ≡ false → (emptied ≡ true) ⊎ (turn ≡ 0)
not_first turn true e = inl refl
not_first turn false e = inr (by (nat_lt 0 turn) refl e)
  where
    by : (b : Bool) → nat_lt 0 turn ≡ b → (b && true) ≡ false → turn ≡ 0
    by true f h = absurd cc
    by false f h = none_left turn f

read_first : (o : Option ℕ) (now room : ℕ) (first w l : Bool)
    → (nat_lt 0 room && ((not (is_some o) && (first || not w)) || (l && not (is_at o now)))) ≡ false
    → w ≡ true → (room ≡ 0) ⊎ (((time : ℕ) × (o ≡ Some time)) ⊎ (first ≡ false))
read_first (Some time) now room first w l e f = inr (inl (time, refl))
read_first None now room first true l e f = by (nat_lt 0 room) first refl refl e
  where
    by : (r t : Bool) → nat_lt 0 room ≡ r → first ≡ t → (r && ((true && (t || false)) || (l && true))) ≡ false
        → (room ≡ 0) ⊎ (((time : ℕ) × (None ≡ Some time)) ⊎ (first ≡ false))
    by false t e f h = inl (none_left room e)
    by true false e f h = inr (inr f)
    by true true e f h = absurd cc
read_first None now room first false l e f = absurd cc

pub written_so : (wants : Wants) (p : Pace) (now : ℕ) (bytes : List ℕ) → IsNextDeed wants p now (Did (Taken bytes))
    → (wants.room ≡ 0) ⊎ (((time : ℕ) × (p.idle ≡ Some time)) ⊎ ((p.emptied ≡ true) ⊎ (p.turn ≡ 0)))
written_so wants p now bytes h = by (read_first p.idle now wants.room (reads_first p) (is_write_due wants p now)
    (is_wait_late wants p now) h.1.0 h.1.1)
  where
    by : (wants.room ≡ 0) ⊎ (((time : ℕ) × (p.idle ≡ Some time)) ⊎ (reads_first p ≡ false))
        → (wants.room ≡ 0) ⊎ (((time : ℕ) × (p.idle ≡ Some time)) ⊎ ((p.emptied ≡ true) ⊎ (p.turn ≡ 0)))
    by (inl none) = inl none
    by (inr (inl idle)) = inr (inl idle)
    by (inr (inr e)) = inr (inr (not_first p.turn p.emptied e))

-- ---- nothing is due before

late_not : (limit since now t : ℕ) (b : Bool) → nat_le limit (now - since) ≡ false → t < since + limit
    → b ≡ nat_le limit (t - since) → b ≡ false
late_not limit since now t false was lt e = refl
late_not limit since now t true was lt e =
    absurd (omega (arith, leb-false limit (now - since) was, leb-true limit (t - since) (sym e), lt))

passed_not : (limit : Option ℕ) (since now t : ℕ) → has_passed limit since now ≡ false
    → IsBefore t (passes_at limit since) → has_passed limit since t ≡ false
passed_not None since now t was h = refl
passed_not (Some limit) since now t was h =
    late_not limit since now t (nat_le limit (t - since)) was (omega (arith, h)) refl

pub over_not : (deadline : Option ℕ) (t : ℕ) → IsBefore t deadline → has_ended_by deadline t ≡ false
over_not None t h = refl
over_not (Some deadline) t h = by (nat_le deadline t) refl
  where
    by : (b : Bool) → b ≡ nat_le deadline t → b ≡ false
    by false e = refl
    by true e = absurd (omega (arith, h, leb-true deadline t (sym e)))

before_first : (one other : Option ℕ) (t : ℕ) → IsBefore t (sooner one other) → IsBefore t one
before_first None other t h = tt
before_first (Some one) None t h = h
before_first (Some one) (Some other) t h = omega (arith, h)

before_other : (one other : Option ℕ) (t : ℕ) → IsBefore t (sooner one other) → IsBefore t other
before_other None other t h = h
before_other (Some one) None t h = tt
before_other (Some one) (Some other) t h = omega (arith, h)

none_of : (a b : Bool) → (a || b) ≡ false → (a ≡ false) × (b ≡ false)
none_of true b e = absurd cc
none_of false b e = (refl, e)

or_false : (a b : Bool) → a ≡ false → b ≡ false → (a || b) ≡ false
or_false true b e f = absurd cc
or_false false b e f = f

pub and_false : (a b : Bool) → b ≡ false → (a && b) ≡ false
and_false true b e = e
and_false false b e = refl

goes_on_so : (done x : Bool) → (not done && x) ≡ false → done ≡ false → x ≡ false
goes_on_so true x e f = absurd cc
goes_on_so false x e f = e

write_late_then : (any room : Bool) (limit : Option ℕ) (writes waits now t : ℕ)
    → (any && has_passed limit writes now) ≡ false
    → IsBefore t (if any then passes_at limit writes else (if room then passes_at limit waits else None))
    → any ≡ true → has_passed limit writes t ≡ false
write_late_then true room limit writes waits now t e h f = passed_not limit writes now t e h
write_late_then false room limit writes waits now t e h f = absurd cc

wait_late_then : (any room : Bool) (limit : Option ℕ) (writes waits now t : ℕ)
    → (not any && (room && has_passed limit waits now)) ≡ false
    → IsBefore t (if any then passes_at limit writes else (if room then passes_at limit waits else None))
    → (not any && (room && has_passed limit waits t)) ≡ false
wait_late_then true room limit writes waits now t e h = refl
wait_late_then false false limit writes waits now t e h = refl
wait_late_then false true limit writes waits now t e h = passed_not limit waits now t e h

write_then : (any some late at late_then at_then : Bool) → (any && (not some || (late && not at))) ≡ false
    → (any ≡ true → late_then ≡ false) → (any && (not some || (late_then && not at_then))) ≡ false
write_then false some late at late_then at_then e f = refl
write_then true false late at late_then at_then e f = absurd cc
write_then true true late at false at_then e f = refl
write_then true true late at true at_then e f = absurd (no_true (f refl))
  where
    no_true : true ≡ false → ⊥
    no_true e = cc

read_then : (r some turn write late at write_then late_then at_then : Bool)
    → (r && ((not some && (turn || not write)) || (late && not at))) ≡ false → write ≡ false → late_then ≡ false
    → (r && ((not some && (turn || not write_then)) || (late_then && not at_then))) ≡ false
read_then false some turn write late at write_then late_then at_then e f g = refl
read_then true true turn write late at write_then false at_then e f g = refl
read_then true true turn write late at write_then true at_then e f g = absurd cc
read_then true false true write late at write_then late_then at_then e f g = absurd cc
read_then true false false false late at write_then late_then at_then e f g = absurd cc
read_then true false false true late at write_then late_then at_then e f g = absurd cc

chosen_last : (d i : Bool) (x y : Option ℕ) → d ≡ false → i ≡ false → (if d then None else (if i then x else y)) ≡ y
chosen_last false false x y e f = refl
chosen_last false true x y e f = absurd cc
chosen_last true i x y e f = absurd cc

pub not_due_before : (wants : Wants) (p : Pace) (now t : ℕ) → wants.done ≡ false → is_due wants p now ≡ false
    → IsBefore t (due_time wants p now) → is_due wants p t ≡ false
not_due_before wants p now t undone rests before =
    let any = has_any_bytes wants.write in
    let room = nat_lt 0 wants.room in
    let soon : IsBefore t (sooner p.deadline (limit_at wants p)) = subst (λ (o : Option ℕ). IsBefore t o)
    (chosen_last wants.done (is_due wants p now) (Some now) (sooner p.deadline
    (limit_at wants p)) undone rests) before in
    let limit = before_other p.deadline (limit_at wants p) t soon in
    let all = goes_on_so wants.done (has_any_bytes wants.report || (wants.end || (has_ended_by p.deadline now
    || (is_read_due wants p now || (is_write_due wants p now || (is_write_late wants p now
    || is_wait_late wants p now)))))) rests undone in
    let lines = none_of (has_any_bytes wants.report) (wants.end || (has_ended_by p.deadline now
    || (is_read_due wants p now || (is_write_due wants p now || (is_write_late wants p now
    || is_wait_late wants p now))))) all in
    let ends = none_of wants.end (has_ended_by p.deadline now || (is_read_due wants p now || (is_write_due wants p now
    || (is_write_late wants p now || is_wait_late wants p now)))) lines.1 in
    let over = none_of (has_ended_by p.deadline now) (is_read_due wants p now || (is_write_due wants p now
    || (is_write_late wants p now || is_wait_late wants p now))) ends.1 in
    let reads = none_of (is_read_due wants p now) (is_write_due wants p now || (is_write_late wants p now
    || is_wait_late wants p now)) over.1 in
    let writes = none_of (is_write_due wants p now) (is_write_late wants p now || is_wait_late wants p now) reads.1 in
    let lates = none_of (is_write_late wants p now) (is_wait_late wants p now) writes.1 in
    let write_late_no = write_late_then any room p.limit p.writes_since p.waits_since now t lates.0 limit in
    let wait_late_no : is_wait_late wants p t ≡ false =
    wait_late_then any room p.limit p.writes_since p.waits_since now t lates.1 limit in
    let write_no : is_write_due wants p t ≡ false = write_then any (is_some p.full)
    (has_passed p.limit p.writes_since now) (is_at p.full now) (has_passed p.limit p.writes_since t) (is_at p.full t)
    writes.0 write_late_no in
    let read_no : is_read_due wants p t ≡ false = read_then room (is_some p.idle) (reads_first p)
    (is_write_due wants p now) (is_wait_late wants p now) (is_at p.idle now) (is_write_due wants p t)
    (is_wait_late wants p t) (is_at p.idle t) reads.0 writes.0 wait_late_no in
    let late_no : is_write_late wants p t ≡ false = late_so any (has_passed p.limit p.writes_since t) write_late_no in
    and_false (not wants.done) (has_any_bytes wants.report || (wants.end || (has_ended_by p.deadline t
    || (is_read_due wants p t || (is_write_due wants p t || (is_write_late wants p t || is_wait_late wants p t))))))
    (or_false (has_any_bytes wants.report) (wants.end || (has_ended_by p.deadline t
    || (is_read_due wants p t || (is_write_due wants p t || (is_write_late wants p t || is_wait_late wants p t)))))
    lines.0
    (or_false wants.end (has_ended_by p.deadline t || (is_read_due wants p t || (is_write_due wants p t
    || (is_write_late wants p t || is_wait_late wants p t)))) ends.0
    (or_false (has_ended_by p.deadline t) (is_read_due wants p t || (is_write_due wants p t
    || (is_write_late wants p t || is_wait_late wants p t)))
    (over_not p.deadline t (before_first p.deadline (limit_at wants p) t soon))
    (or_false (is_read_due wants p t) (is_write_due wants p t || (is_write_late wants p t || is_wait_late wants p t))
    read_no
    (or_false (is_write_due wants p t) (is_write_late wants p t || is_wait_late wants p t) write_no
    (or_false (is_write_late wants p t) (is_wait_late wants p t) late_no wait_late_no))))))
  where
    late_so : (any late : Bool) → (any ≡ true → late ≡ false) → (any && late) ≡ false
    late_so false late f = refl
    late_so true late f = f refl
