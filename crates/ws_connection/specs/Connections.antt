-- A connection as a tester holds it: what may be called when, and what a run does to it.
use Rattle.std.specs.Prelude.{◌≡◌, ℕ, Bool, true, false, List}
use Rattle.ws_frame.specs.Devices.{Device, HasRead, HasWritten}
use Rattle.ws_connection.specs.ConnectionValues.{ConnectionRun, ConnectionValue}
use Rattle.ws_connection.specs.declared.incoming.Incoming.{Incoming}
use Rattle.ws_connection.specs.declared.incoming.Incoming.TheVariants.{Unread, Open, Waited, Failed}

-- ---- how a connection stands

abbrev pub read_failed : Incoming → Bool
read_failed Failed = true
read_failed _ = false

-- no read has failed, and no write
abbrev pub HasWorked : ConnectionValue → Type 0
HasWorked connection = (read_failed connection.input.state ≡ false) × (connection.output.failed ≡ false)

-- bytes can come behind the head: the stream has not ended, and no read has failed
abbrev pub is_open : Incoming → Bool
is_open Open = true
is_open Waited = true
is_open _ = false

-- a turn can be sent, and more can be read: the handshake is done
abbrev pub IsReady : ConnectionValue → Type 0
IsReady connection = (is_open connection.input.state ≡ true) × (connection.output.failed ≡ false)
    × (connection.output.ended ≡ false)

-- nothing has gone over the connection
abbrev pub IsNewConnection : ConnectionValue → Type 0
IsNewConnection connection = (connection.input.state ≡ Unread) × (connection.output.failed ≡ false)
    × (connection.output.ended ≡ false)

-- the last read has waited in vain
abbrev pub waited_in_vain : Incoming → Bool
waited_in_vain Waited = true
waited_in_vain _ = false

-- ---- what a run does to a connection

abbrev pub input_of : ConnectionRun → Device
input_of run = record {
  failed = read_failed run.new.input.state;
  old = run.old.input.left;
  new = run.new.input.left;
}

abbrev pub output_of : ConnectionRun → Device
output_of run = record { failed = run.new.output.failed; old = run.old.output.held; new = run.new.output.held }

-- these bytes were got
abbrev pub ReadsBytes : List ℕ → ConnectionRun → Type 0
ReadsBytes bytes run = HasRead bytes (input_of run)

-- these bytes were put
abbrev pub WritesBytes : List ℕ → ConnectionRun → Type 0
WritesBytes bytes run = HasWritten bytes (output_of run)
