-- The time limits of a stream, when it was last asked in vain, and what is due.
use Rattle.std.specs.Prelude.{ℕ, ◌+◌, ◌-◌, ◌<◌, ◌^◌, ⊤, ◌||◌, ◌&&◌, not, min, nat_lt, nat_le, nat_eq, Bool, true, false}
use Rattle.std.specs.Prelude.{if◌then◌else◌, List, length, Option, Some, None, is_some}
use Rattle.ws_machines.specs.Told.{Told}
use Rattle.ws_machines.specs.Told.Told.{Came, DeadlinePassed, DirectionEnded, Ended, NothingCame, ReadFailed, Reported}
use Rattle.ws_machines.specs.Told.Told.{Taken, WriteFailed}
use Rattle.ws_machines.specs.Machines.{Wants}
use Rattle.ws_loops.specs.Deeds.{Deed}
use Rattle.ws_loops.specs.Deeds.Deed.{Did, Emptied, HadNone, Passed, Showed, TookNone, Woken}
use Rattle.ws_loops.specs.declared.non_blocking.TryRead.{TryRead}
use Rattle.ws_loops.specs.declared.non_blocking.TryRead.TheVariants as read
use Rattle.ws_loops.specs.declared.pace.Pace.{Pace}

-- so many bytes may be read before what is to be written is tried again
abbrev pub turn_len : ℕ
turn_len = 32768

-- a connection that begins now
abbrev pub begun_pace : ℕ → Option ℕ → Option ℕ → Pace
begun_pace now limit deadline = record {
  limit = limit;
  deadline = deadline;
  waits_since = now;
  writes_since = now;
  taken_at = now;
  idle = None;
  full = None;
  turn = turn_len;
  emptied = false;
}

-- ---- what each thing that happens changes

-- The limit of what a machine waits for begins where it waits anew, and that of what it writes where it wanted nothing
-- to be written.
abbrev pub anew_pace : Bool → Bool → ℕ → Pace → Pace
anew_pace writes anew now p = record {
  limit = p.limit;
  deadline = p.deadline;
  waits_since = if anew then now else p.waits_since;
  writes_since = if writes then p.writes_since else now;
  taken_at = p.taken_at;
  idle = p.idle;
  full = p.full;
  turn = p.turn;
  emptied = p.emptied;
}

-- these bytes came: more may have
abbrev pub came_pace : ℕ → Pace → Pace
came_pace len p = record {
  limit = p.limit;
  deadline = p.deadline;
  waits_since = p.waits_since;
  writes_since = p.writes_since;
  taken_at = p.taken_at;
  idle = None;
  full = p.full;
  turn = p.turn - len;
  emptied = false;
}

-- the last read has brought all that the stream had, and what is to be written goes first then; or it has not
abbrev pub emptied_pace : Bool → Pace → Pace
emptied_pace emptied p = record {
  limit = p.limit;
  deadline = p.deadline;
  waits_since = p.waits_since;
  writes_since = p.writes_since;
  taken_at = p.taken_at;
  idle = p.idle;
  full = p.full;
  turn = p.turn;
  emptied = emptied;
}

-- a read of so many bytes has brought all that there was if it brought fewer
abbrev pub emptied_by : TryRead → ℕ → Pace → Pace
emptied_by (read.Came count) len p = emptied_pace (nat_lt count len) p
emptied_by _ len p = p

-- bytes were taken: both limits begin with them, and what comes is read before more is written
abbrev pub taken_pace : ℕ → Pace → Pace
taken_pace now p = record {
  limit = p.limit;
  deadline = p.deadline;
  waits_since = now;
  writes_since = now;
  taken_at = now;
  idle = None;
  full = None;
  turn = turn_len;
  emptied = false;
}

-- the machine was told this, while it wanted bytes to be written or not, and it waits anew then or not
abbrev pub told_pace : Bool → Bool → ℕ → Told → Pace → Pace
told_pace writes anew now (Came bytes) p = came_pace (length bytes) (anew_pace writes anew now p)
told_pace writes anew now (Taken bytes) p = taken_pace now p
told_pace writes anew now Ended p = anew_pace writes anew now p
told_pace writes anew now ReadFailed p = anew_pace writes anew now p
told_pace writes anew now NothingCame p = anew_pace writes anew now p
told_pace writes anew now WriteFailed p = anew_pace writes anew now p
told_pace writes anew now DirectionEnded p = anew_pace writes anew now p
told_pace writes anew now (Reported lines) p = anew_pace writes anew now p
told_pace writes anew now (DeadlinePassed waited) p = anew_pace writes anew now p

-- the stream had no bytes
abbrev pub idle_pace : ℕ → Pace → Pace
idle_pace now p = record {
  limit = p.limit;
  deadline = p.deadline;
  waits_since = p.waits_since;
  writes_since = p.writes_since;
  taken_at = p.taken_at;
  idle = Some now;
  full = p.full;
  turn = p.turn;
  emptied = p.emptied;
}

-- the stream took no bytes: what comes is read before it is given them again
abbrev pub full_pace : ℕ → Pace → Pace
full_pace now p = record {
  limit = p.limit;
  deadline = p.deadline;
  waits_since = p.waits_since;
  writes_since = p.writes_since;
  taken_at = p.taken_at;
  idle = p.idle;
  full = Some now;
  turn = turn_len;
  emptied = false;
}

-- the stream was found ready
abbrev pub woken_pace : Bool → Bool → Pace → Pace
woken_pace readable writable p = record {
  limit = p.limit;
  deadline = p.deadline;
  waits_since = p.waits_since;
  writes_since = p.writes_since;
  taken_at = p.taken_at;
  idle = if readable then None else p.idle;
  full = if writable then None else p.full;
  turn = p.turn;
  emptied = if readable then false else p.emptied;
}

abbrev pub has_any_bytes : List ℕ → Bool
has_any_bytes bytes = nat_lt 0 (length bytes)

-- what this changes, of a machine that wanted the first and wants the second then
abbrev pub pace_after : Wants → Wants → ℕ → Deed → Pace → Pace
pace_after old new now (Did told) p = told_pace (has_any_bytes old.write) new.waits_anew now told p
pace_after old new now (Emptied bytes) p =
    emptied_pace true (told_pace (has_any_bytes old.write) new.waits_anew now (Came bytes) p)
pace_after old new now HadNone p = idle_pace now p
pace_after old new now TookNone p = full_pace now p
pace_after old new now (Showed lines) p = told_pace (has_any_bytes old.write) new.waits_anew now (Reported lines) p
pace_after old new now (Passed told) p = told_pace (has_any_bytes old.write) new.waits_anew now told p
pace_after old new now (Woken readable writable) p = woken_pace readable writable p

-- ---- what is due

abbrev pub is_at : Option ℕ → ℕ → Bool
is_at None now = false
is_at (Some time) now = nat_eq time now

-- the limit, if there is one, has passed since then
abbrev pub has_passed : Option ℕ → ℕ → ℕ → Bool
has_passed None since now = false
has_passed (Some limit) since now = nat_le limit (now - since)

-- the deadline has passed
abbrev pub has_ended_by : Option ℕ → ℕ → Bool
has_ended_by None now = false
has_ended_by (Some deadline) now = nat_le deadline now

-- by the deadline it has waited where no byte was taken for the time limit, or there is none
abbrev pub has_waited : Pace → ℕ → Bool
has_waited p now = not (is_some p.limit) || has_passed p.limit p.taken_at now

-- what is to be written wasn't taken for the time limit
abbrev pub is_write_late : Wants → Pace → ℕ → Bool
is_write_late wants p now = has_any_bytes wants.write && has_passed p.limit p.writes_since now

-- nothing is to be written, and what is waited for has not come for the time limit
abbrev pub is_wait_late : Wants → Pace → ℕ → Bool
is_wait_late wants p now = not (has_any_bytes wants.write) && (nat_lt 0 wants.room
    && has_passed p.limit p.waits_since now)

-- it is to be written: it may take bytes, or its time is up and it wasn't tried by now
abbrev pub is_write_due : Wants → Pace → ℕ → Bool
is_write_due wants p now = has_any_bytes wants.write && (not (is_some p.full)
    || (has_passed p.limit p.writes_since now && not (is_at p.full now)))

-- a read goes before a write: the turn has room, and the last read didn't bring all that the stream had
abbrev pub reads_first : Pace → Bool
reads_first p = nat_lt 0 p.turn && not p.emptied

-- it is to be read: it may have bytes, and a read goes first or nothing is to be written; or its time is up and it
-- wasn't asked by now
abbrev pub is_read_due : Wants → Pace → ℕ → Bool
is_read_due wants p now = nat_lt 0 wants.room && ((not (is_some p.idle) && (reads_first p
    || not (is_write_due wants p now))) || (is_wait_late wants p now && not (is_at p.idle now)))

-- something is due by now: it isn't done, and has lines, or an end of its direction, a deadline, something to read or
-- to write, or a limit that has passed
abbrev pub is_due : Wants → Pace → ℕ → Bool
is_due wants p now = not wants.done && (has_any_bytes wants.report || (wants.end || (has_ended_by p.deadline now
    || (is_read_due wants p now || (is_write_due wants p now || (is_write_late wants p now
    || is_wait_late wants p now))))))

-- ---- when something is due

-- the earlier of both times
abbrev pub sooner : Option ℕ → Option ℕ → Option ℕ
sooner None other = other
sooner (Some one) None = Some one
sooner (Some one) (Some other) = Some (min one other)

-- when the limit, if there is one, passes that began then; later than all times there is none
abbrev pub passes_at : Option ℕ → ℕ → Option ℕ
passes_at None since = None
passes_at (Some limit) since = Some (min (since + limit) (2 ^ 64 - 1))

-- when the limit of what is to be written passes, or of what is waited for
abbrev pub limit_at : Wants → Pace → Option ℕ
limit_at wants p = if has_any_bytes wants.write then passes_at p.limit p.writes_since
    else (if nat_lt 0 wants.room then passes_at p.limit p.waits_since else None)

-- when something is due, if the stream isn't found ready before: by now, or when the deadline or a limit passes
abbrev pub due_time : Wants → Pace → ℕ → Option ℕ
due_time wants p now = if wants.done then None
    else (if is_due wants p now then Some now else sooner p.deadline (limit_at wants p))

-- before this time, if there is one
abbrev pub IsBefore : ℕ → Option ℕ → Type 0
IsBefore t None = ⊤
IsBefore t (Some time) = t < time
