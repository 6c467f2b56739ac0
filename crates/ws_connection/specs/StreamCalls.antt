-- What a connection does as a stream: each thing that it tells is one call of one of its devices, and what that has
-- answered.
use Rattle.std.specs.Prelude.{◌≡◌, ℕ, ◌<◌, ◌||◌, ◌⊎◌, Bool, true, false, List, [], ◌∷◌, length}
use Rattle.std.specs.Io.KnownBytes.{IsAtEnd}
use Rattle.ws_machines.specs.Told.{Told}
use Rattle.ws_machines.specs.Told.Told.{Came, Ended, ReadFailed, NothingCame, Taken, WriteFailed, DirectionEnded}
use Rattle.ws_machines.specs.Told.Told.{Reported, DeadlinePassed}
use Rattle.ws_connection.specs.ConnectionValues.{ConnectionRun, ConnectionValue}
use Rattle.ws_connection.specs.Connections.{ReadsBytes, WritesBytes, waited_in_vain}
use Rattle.ws_connection.specs.DeviceCalls.{one_call_more}
use Rattle.ws_connection.specs.declared.incoming.Incoming.{Incoming}
use Rattle.ws_connection.specs.declared.incoming.Incoming.TheVariants as state

-- The reader got one call, which brought these bytes, and left the reads so. The writer got none.
pub record MakesRead (bytes : List ℕ) (state : Incoming) (run : ConnectionRun) : Type 0 where
  pub calls : run.new.input.calls ≡ one_call_more run.old.input.calls
  pub stands : run.new.input.state ≡ state
  pub has_got : ReadsBytes bytes run
  pub allowance : run.new.input.allowance ≡ run.old.input.allowance
  pub waited : run.new.input.waited ≡ (run.old.input.waited || waited_in_vain state)
  pub output : run.new.output ≡ run.old.output

-- The writer got one call, which took these bytes. By then a write has failed, or not, and the direction was ended, or
-- not. The reader got no call.
pub record MakesWrite (bytes : List ℕ) (failed ended : Bool) (run : ConnectionRun) : Type 0 where
  pub calls : run.new.output.calls ≡ one_call_more run.old.output.calls
  pub has_failed : run.new.output.failed ≡ failed
  pub is_ended : run.new.output.ended ≡ ended
  pub has_put : WritesBytes bytes run
  pub input : run.new.input ≡ run.old.input

-- By a read, or by a write, the deadline had passed: of the writes one has failed then. Whether it was waited long
-- enough is what the timer has said. The other device got no call.
pub record IsLateRead (waited : Bool) (run : ConnectionRun) : Type 0 where
  pub makes : MakesRead [] state.Late run
  pub enough : run.new.input.enough ≡ waited

pub record IsLateWrite (waited : Bool) (run : ConnectionRun) : Type 0 where
  pub calls : run.new.output.calls ≡ one_call_more run.old.output.calls
  pub has_failed : run.new.output.failed ≡ true
  pub is_late : run.new.output.late ≡ true
  pub is_ended : run.new.output.ended ≡ run.old.output.ended
  pub has_put : WritesBytes [] run
  pub input : run.new.input ≡ record run.old.input { enough = waited }

-- This is told of just that call. The stream has ended where its reader is at its end; a read that has waited in vain
-- is no failed one; a write fails where its writer answers an error or takes nothing. A read or a write by which the
-- deadline had passed is neither. Lines are reported to nobody: no device is called.
abbrev pub IsCallOf : Told → ConnectionRun → Type 0
IsCallOf (Came bytes) run = (0 < length bytes) × MakesRead bytes state.Open run
IsCallOf Ended run = MakesRead [] state.AtEnd run × IsAtEnd run.new.input.left
IsCallOf ReadFailed run = MakesRead [] state.Failed run
IsCallOf NothingCame run = MakesRead [] state.Waited run
IsCallOf (Taken bytes) run = (0 < length bytes) × MakesWrite bytes run.old.output.failed run.old.output.ended run
IsCallOf WriteFailed run = MakesWrite [] true run.old.output.ended run × (run.new.output.late ≡ false)
IsCallOf DirectionEnded run = MakesWrite [] run.old.output.failed true run
IsCallOf (Reported lines) run = run.new ≡ run.old
IsCallOf (DeadlinePassed waited) run = IsLateRead waited run ⊎ IsLateWrite waited run

-- From the first state to the second one it did just this: one call after the other, each with what is told of it.
abbrev pub DidCalls : ConnectionValue → ConnectionValue → List Told → Type 0
DidCalls start now [] = now ≡ start
DidCalls start now (event ∷ told) = (next : ConnectionValue)
    × IsCallOf event (record { old = start; new = next }) × DidCalls next now told
