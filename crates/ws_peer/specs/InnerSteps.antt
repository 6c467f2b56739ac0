-- The steps of `drive`, for the contracts of its private functions. A reader may skip this file: no public contract
-- speaks of it.
use Rattle.std.specs.Prelude.{◌≡◌, ℕ, true, false, List, [], ◌++◌, Result, Ok, Err}
use Rattle.ws_frame.specs.Devices.{Device, HasWritten}
use Rattle.ws_session.specs.Exchange.{SessionValue}
use Rattle.ws_echo.specs.Echoes.{DriveCall, IsEchoAfter}
use Rattle.ws_peer.specs.declared.driving.DriveEnd.{DriveEnd}
use Rattle.ws_peer.specs.declared.driving.DriveEnd.TheVariants as end
use Rattle.ws_peer.specs.declared.driving.Stop.{Stop}
use Rattle.ws_peer.specs.declared.driving.Stop.TheVariants as stop

-- the session of the call's echo, after these bytes, for which it put this
abbrev pub IsEchoOfCall : DriveCall → List ℕ → List ℕ → SessionValue → Type 0
IsEchoOfCall call bytes put session = IsEchoAfter call.role call.limits call.key bytes false put session

-- an echo that took these bytes and put this is fed a piece, and what it puts for that is written
abbrev pub AnswersPiece : DriveCall → List ℕ → List ℕ → List ℕ → SessionValue → Device → Result (Unit {0}) Stop
    → Type 0
AnswersPiece call bytes put piece session output (Ok _) = (output.failed ≡ false)
    × (more : List ℕ) × HasWritten more output × IsEchoOfCall call (bytes ++ piece) (put ++ more) session
AnswersPiece call bytes put piece session output (Err stop.WriteFault) = (output.failed ≡ true)
    × (front : List ℕ) × (more : List ℕ) × HasWritten front output
    × IsEchoOfCall call (bytes ++ piece) (put ++ (front ++ more)) session
AnswersPiece call bytes put piece session output (Err stop.NoMemory) = (output.failed ≡ false)
    × HasWritten [] output
    × (front : List ℕ) × (later : List ℕ) × (more : List ℕ) × (piece ≡ front ++ later)
    × IsEchoOfCall call (bytes ++ front) (put ++ more) session

abbrev pub end_of_stop : Stop → DriveEnd
end_of_stop stop.WriteFault = end.WriteFault
end_of_stop stop.NoMemory = end.NoMemory
