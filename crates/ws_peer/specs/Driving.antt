-- An echo driven over devices: what it reads, what is due for that, and how it ends (RFC 6455 sections 5.5, 5.6 and
-- 7.1).
use Rattle.std.specs.Prelude.{◌≡◌, ℕ, ◌<◌, ◌≤◌, Bool, true, false, List, ◌++◌, length, Option}
use Rattle.std.specs.Io.KnownBytes.{IsAtEnd}
use Rattle.ws_frame.specs.Devices.{Device, HasRead, HasWritten}
use Rattle.ws_session.specs.declared.status.Status.{Status}
use Rattle.ws_session.specs.Exchange.{SessionValue, is_over}
use Rattle.ws_echo.specs.Echoes.{BeginsAnswers, DriveCall, Echoes, HasAnsweredAll, IsEchoAfter}
use Rattle.ws_peer.specs.declared.driving.DriveEnd.{DriveEnd}
use Rattle.ws_peer.specs.declared.driving.DriveEnd.TheVariants.{Done, ReadFault, WriteFault, Budget, NoMemory}

-- the session is over before its stream has ended; or it is not, and the stream has, before the budget was used up
abbrev pub EndsDriving : DriveCall → Bool → Status → List ℕ → Option (List ℕ) → Type 0
EndsDriving call false status read unread = is_over status ≡ true
EndsDriving call true status read unread = IsAtEnd unread × (length read < call.budget)

-- what was written for what was read, by how the run ended, and what the reader had left
abbrev pub IsDrivenTo : DriveCall → DriveEnd → Option (List ℕ) → List ℕ → List ℕ → Type 0
IsDrivenTo call (Done status) unread read written = (ended : Bool)
    × Echoes call (call.first ++ read) ended written status × EndsDriving call ended status read unread
IsDrivenTo call Budget unread read written = HasAnsweredAll call read written × (length read ≡ call.budget)
IsDrivenTo call ReadFault unread read written = HasAnsweredAll call read written × (length read < call.budget)
IsDrivenTo call WriteFault unread read written = BeginsAnswers call read written
IsDrivenTo call NoMemory unread read written = BeginsAnswers call read written

-- What was read has a last part of at most 4096 bytes: before it, all that was due had been written, and the
-- session went on. Nothing is asked of how many reads brought this part.
pub record ReadsInTurn (call : DriveCall) (read written : List ℕ) : Type 0 where
  pub before : List ℕ
  pub last : List ℕ
  pub parts : read ≡ before ++ last
  pub bound : length last ≤ 4096
  pub put : List ℕ
  pub later : List ℕ
  pub begins : written ≡ put ++ later
  pub answered : 0 < length read → HasAnsweredAll call before put

-- the echo's session at the end: it took `first` and all that was read; where memory ran out, a beginning of that
abbrev pub LeavesEcho : DriveCall → DriveEnd → List ℕ → List ℕ → SessionValue → Type 0
LeavesEcho call (Done status) read written session = (session.status ≡ status)
    × (ended : Bool) × IsEchoAfter call.role call.limits call.key (call.first ++ read) ended written session
LeavesEcho call Budget read written session =
    IsEchoAfter call.role call.limits call.key (call.first ++ read) false written session
LeavesEcho call ReadFault read written session =
    IsEchoAfter call.role call.limits call.key (call.first ++ read) false written session
LeavesEcho call WriteFault read written session = (more : List ℕ)
    × IsEchoAfter call.role call.limits call.key (call.first ++ read) false (written ++ more) session
LeavesEcho call NoMemory read written session = (front : List ℕ) × (more : List ℕ) × (later : List ℕ)
    × (call.first ++ read ≡ front ++ later)
    × IsEchoAfter call.role call.limits call.key front false (written ++ more) session

-- A run of `drive` over a reader and a writer: some bytes were read, at most as many as the budget, the answers to all
-- but at most the last 4096 of them are written, and what is due was written
pub record Drives (call : DriveCall) (end : DriveEnd) (session : SessionValue) (input output : Device) : Type 0 where
  pub read : List ℕ
  pub written : List ℕ
  pub has_read : HasRead read input
  pub has_written : HasWritten written output
  pub within : length read ≤ call.budget
  pub in_turn : ReadsInTurn call read written
  pub driven : IsDrivenTo call end input.new read written
  pub left : LeavesEcho call end read written session

-- which device has failed
abbrev pub IsFairDriveEnd : DriveEnd → Device → Device → Type 0
IsFairDriveEnd (Done _) input output = (input.failed ≡ false) × (output.failed ≡ false)
IsFairDriveEnd Budget input output = (input.failed ≡ false) × (output.failed ≡ false)
IsFairDriveEnd ReadFault input output = (input.failed ≡ true) × (output.failed ≡ false)
IsFairDriveEnd WriteFault input output = (input.failed ≡ false) × (output.failed ≡ true)
IsFairDriveEnd NoMemory input output = (input.failed ≡ false) × (output.failed ≡ false)
