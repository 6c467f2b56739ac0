-- What is told of clients that are served: a line of each that has ended, and once that no client can be taken.
use Rattle.std.specs.Prelude.{◌≡◌, ℕ, zero, suc, ⊤, true, false, Bool, List, [], ◌∷◌, ◌++◌, Result, Ok, Err, codes, map}
use Rattle.std.specs.List.{concat}
use Rattle.std.specs.Borrow.{GName}
use Rattle.std.specs.Fmt.{decimal}
use Rattle.ws_frame.specs.Devices.{Device, HasBegun, HasWritten, IsUntouched}
use Rattle.ws_connection.specs.Serving.{served_words}
use Rattle.ws_connection.specs.declared.serving.Served.{Served}
use Rattle.ws_connection.specs.declared.serving.Served.TheVariants as served
use Rattle.ws_echo.specs.declared.echo_machine.EchoEnd.TheVariants as echo
use Rattle.ws_serving.specs.News.{ends_in, fulls_in}
use Rattle.ws_serving.specs.declared.client_end.ClientEnd.{ClientEnd}
use Rattle.ws_serving.specs.declared.client_end.ClientEnd.TheVariants.{Echoed, Lost, NoMemory, Refused}
use Rattle.ws_serving.specs.declared.news_sink.News.{News}
use Rattle.ws_serving.specs.declared.news_sink.News.TheVariants.{Ended, Full}
use Rattle.wst_commands.specs.Devices.{Tells}
use Rattle.wst_services.specs.declared.served_lines.LineFault.{LineFault}
use Rattle.wst_services.specs.declared.served_lines.LineFault.TheVariants as why

-- how the connection of a client ended, as a line tells it
abbrev pub served_as : ClientEnd → Served
served_as (Refused fault) = served.Refused fault
served_as (Echoed (echo.Done status)) = served.Ended status
served_as (Echoed echo.Budget) = served.Stopped
served_as (Echoed (echo.Stopped stop)) = served.Stopped
served_as Lost = served.Stopped
served_as NoMemory = served.Stopped

-- the line of the connection of this number
abbrev pub connection_line : ℕ → Served → List ℕ
connection_line number served = concat (decimal number ∷ codes " " ∷ served_words served ∷ codes "\n" ∷ [])

-- the lines of connections that ended so, each with its number, in their order
abbrev pub connection_lines : List (ℕ × Served) → List ℕ
connection_lines [] = []
connection_lines (served ∷ more) = connection_line served.0 served.1 ++ connection_lines more

-- these ends, as lines tell them
abbrev pub told_ends : List (ℕ × ClientEnd) → List (ℕ × Served)
told_ends ends = map (λ end. (end.0, served_as end.1)) ends

-- that no connection can be taken for now
abbrev pub full_text : List ℕ
full_text =
    codes "cannot accept another connection until one ends\n  raise the limit of open files: ulimit -n 4096\n"

-- it is told so often; where it is told more than once nothing is said of it
abbrev pub TellsFull : ℕ → Device → Type 0
TellsFull zero faults = IsUntouched faults
TellsFull (suc zero) faults = Tells full_text faults
TellsFull (suc (suc n)) faults = ⊤

-- The lines of the ends among this were written, and that no connection can be taken was told. An output that worked
-- works.
pub record HasToldNews (news : List News) (output : Device) (failed : Bool) (faults : Device) : Type 0 where
  pub written : HasWritten (connection_lines (told_ends (ends_in news))) output
  pub works : failed ≡ false → output.failed ≡ false
  pub full : TellsFull (fulls_in news) faults

-- what comes of it where the line of an end is to be written: it was, or it could not be written, or not flushed, and
-- nothing was written behind it, or memory ran out for it; where a call had failed before, nothing is said
abbrev pub PutsLine : List ℕ → Result ⊤ LineFault → Device → Bool → Type 0
PutsLine line (Ok done) output failed = HasWritten line output × (output.failed ≡ false)
PutsLine line (Err why.Output) output failed = failed ≡ false → (output.failed ≡ true) × HasBegun line output
PutsLine line (Err why.NoMemory) output failed = IsUntouched output × (failed ≡ false → output.failed ≡ false)

-- these are the same devices
abbrev pub AreSameDevices : GName → GName → GName → GName → Type 0
AreSameDevices old_output new_output old_faults new_faults = (new_output ≡ old_output) × (new_faults ≡ old_faults)

-- This was not told, where the output worked: the line of an end could not be written, or not flushed, and nothing was
-- written behind it; or memory ran out for it.
abbrev pub HasRefusedNews : News → LineFault → Device → Bool → Type 0
HasRefusedNews (Ended number end) fault output failed =
    PutsLine (connection_line number (served_as end)) (Err fault) output failed
HasRefusedNews Full fault output failed = ⊥
