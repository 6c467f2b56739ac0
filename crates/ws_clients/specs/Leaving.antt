-- A client that is left: what it still sends is read and dropped.
use Rattle.std.specs.Prelude.{◌≡◌, ℕ, ◌+◌, ◌||◌, Bool, false, if◌then◌else◌, nat_eq, List, [], length}
use Rattle.ws_machines.specs.Told.{Told, all_came}
use Rattle.ws_machines.specs.Machines.{Wants}

-- how many bytes may still be dropped, and whether the stream has ended or failed, or its time is over
pub record LeaveValue : Type 0 where
  pub left : ℕ
  pub over : Bool

-- it is read as long as that may be, and nothing else; its time doesn't begin anew with what comes
abbrev pub wanted_to_leave : LeaveValue → Wants
wanted_to_leave x = record {
  write = [];
  report = [];
  room = x.left;
  end = false;
  waits_anew = false;
  done = x.over || nat_eq x.left 0;
}

-- each byte that is read lowers it, and so does its end
abbrev pub leave_left : LeaveValue → ℕ
leave_left x = x.left + (if x.over then 0 else 1)

-- all that came was dropped
abbrev pub WasLeft : LeaveValue → LeaveValue → List Told → Type 0
WasLeft start now told = start.left ≡ length (all_came told) + now.left
