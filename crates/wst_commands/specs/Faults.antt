-- What is told on the fault output in place of an answer, and the exit that it stands for.
use Rattle.std.specs.Prelude.{◌≡◌, ℕ, ◌⊎◌, ◌==◌, List, [], ◌∷◌, Result, Ok, Err, codes, if◌then◌else◌}
use Rattle.std.specs.List.{concat}
use Rattle.std.specs.Fmt.{decimal}
use Rattle.ws_frame.specs.Devices.{Device, IsUntouched}
use Rattle.ws_upgrade.specs.Words.{head_fault_name}
use Rattle.ws_upgrade.specs.declared.faults.HeadFault.{HeadFault}
use Rattle.wst_commands.specs.Devices.{Tells}
use Rattle.wst_commands.specs.RunDamages.{known_damage_words, run_damage_words}
use Rattle.wst_commands.specs.StepDamages.{damage_words}
use Rattle.wst_commands.specs.declared.exit.Exit.{Exit}
use Rattle.wst_commands.specs.declared.exit.Exit.TheVariants.{Damaged, Done, Failed, WrongWords}
use Rattle.wst_commands.specs.declared.fault.Fault.{Fault}
use Rattle.wst_commands.specs.declared.fault.Fault.TheVariants.{BadLimits, BadProtocols, BadTimeout, CaptureOfClient}
use Rattle.wst_commands.specs.declared.fault.Fault.TheVariants.{NotACall, NotACapture, NotAMove, NotAStep, NotAVerdict}
use Rattle.wst_commands.specs.declared.fault.Fault.TheVariants.{NotAResult, NotListening, StreamWithCapture}
use Rattle.wst_commands.specs.declared.fault.Fault.TheVariants.{NoText, NoTask, NoMemory, RoleWithoutCapture}
use Rattle.wst_commands.specs.declared.fault.Fault.TheVariants.{JunitWithJson, JunitWithSummary, NoCaseLine, NotAName}
use Rattle.wst_commands.specs.declared.fault.Fault.TheVariants.{CaptureOfServer, HeadIsCut, SummaryWithJson}
use Rattle.wst_commands.specs.declared.fault.Fault.TheVariants.{BadAtOnce, BadDeadline, DeadlineWithUnit}
use Rattle.wst_commands.specs.declared.fault.Fault.TheVariants.{TimeoutWithUnit}
use Rattle.wst_commands.specs.declared.fault.Fault.TheVariants.{BadFrom, MissingBytes, NoOpening, NotFollowed}
use Rattle.wst_commands.specs.declared.fault.Fault.TheVariants.{RefusedResponse, RoleWithoutFrom}
use Rattle.wst_commands.specs.declared.fault.ListenFault.{ListenFault}
use Rattle.wst_commands.specs.declared.fault.ListenFault.TheVariants as why

-- memory ran out, and that is told
abbrev pub LacksMemory : Exit → Device → Type 0
LacksMemory exit faults = (exit ≡ Failed) × Tells (codes "no memory\n") faults

-- the line that tells which line of a script or a capture is damaged, and what it is not
abbrev pub damage_line : ℕ → List ℕ → List ℕ
damage_line number what = concat (codes "line " ∷ decimal number ∷ codes ": " ∷ what ∷ codes "\n" ∷ [])

-- the line is told, or memory ran out for it
abbrev pub TellsLine : ℕ → List ℕ → Exit → Device → Type 0
TellsLine number what exit faults =
    ((exit ≡ Damaged) × Tells (damage_line number what) faults) ⊎ LacksMemory exit faults

-- the line that tells why the head of a response is refused is told, or memory ran out for it
abbrev pub TellsRefusedResponse : HeadFault → Exit → Device → Type 0
TellsRefusedResponse fault exit faults =
    ((exit ≡ Damaged) × Tells (concat (codes "FAIL Head " ∷ head_fault_name fault ∷ codes "\n" ∷ [])) faults)
    ⊎ LacksMemory exit faults

-- what is told of the first damaged line of a capture: of line 1 also which it is
abbrev pub no_capture_words : ℕ → List ℕ
no_capture_words number =
    if number == 1 then codes "not a capture\n  line 1 is wst-capture 1 or wst-capture 2, with LF alone at its end"
    else codes "not a capture"

-- the line that tells why nothing can be listened at, and below it which address is wanted where it is none
abbrev pub not_listening_line : ListenFault → List ℕ
not_listening_line why.NoSuchHost =
    codes "not listening: no such host\n  HOST:PORT to listen at, up to 65535: localhost:9001\n"
not_listening_line why.AddressInUse = codes "not listening: address in use\n"
not_listening_line why.NotPermitted = codes "not listening: not permitted\n"
not_listening_line why.Failed = codes "not listening: failed\n"

abbrev pub TellsFault : Fault → Exit → Device → Type 0
TellsFault BadLimits exit faults = (exit ≡ WrongWords) × Tells (codes "bad limits\n") faults
TellsFault BadProtocols exit faults = (exit ≡ WrongWords)
    × Tells (codes "bad protocol list\n  up to 16 different names, joined by commas: --protocols chat,echo\n") faults
TellsFault BadTimeout exit faults = (exit ≡ WrongWords)
    × Tells (codes "bad timeout\n  a whole number of seconds, 1 to 3600: --timeout 5\n") faults
TellsFault TimeoutWithUnit exit faults =
    (exit ≡ WrongWords) × Tells (codes "bad timeout\n  seconds without a unit: --timeout 5\n") faults
TellsFault BadDeadline exit faults = (exit ≡ WrongWords)
    × Tells (codes "bad timeout\n  a whole number of seconds, 1 to 86400: --deadline 60\n") faults
TellsFault DeadlineWithUnit exit faults =
    (exit ≡ WrongWords) × Tells (codes "bad timeout\n  seconds without a unit: --deadline 60\n") faults
TellsFault BadAtOnce exit faults = (exit ≡ WrongWords)
    × Tells (codes "bad at-once\n  a whole number, 1 to 1000: --at-once 16\n") faults
TellsFault StreamWithCapture exit faults =
    (exit ≡ WrongWords) × Tells (codes "--capture takes no --from or --budget\n") faults
TellsFault RoleWithoutCapture exit faults = (exit ≡ WrongWords) × Tells (codes "--role takes --capture\n") faults
TellsFault BadFrom exit faults = (exit ≡ WrongWords)
    × Tells (codes "bad from\n  the program whose output is read: --from tshark\n") faults
TellsFault RoleWithoutFrom exit faults = (exit ≡ WrongWords) × Tells (codes "--role takes --from\n") faults
TellsFault SummaryWithJson exit faults = (exit ≡ WrongWords) × Tells (codes "--summary takes no --json\n") faults
TellsFault JunitWithJson exit faults = (exit ≡ WrongWords) × Tells (codes "--junit takes no --json\n") faults
TellsFault JunitWithSummary exit faults = (exit ≡ WrongWords) × Tells (codes "--junit takes no --summary\n") faults
TellsFault HeadIsCut exit faults = (exit ≡ Damaged) × Tells (codes "head is cut\n") faults
TellsFault (NotAMove number) exit faults = TellsLine number (codes "not a move") exit faults
TellsFault (NotACall number) exit faults = TellsLine number (codes "not a call") exit faults
TellsFault (NotACapture number) exit faults = TellsLine number (no_capture_words number) exit faults
TellsFault (NotFollowed number) exit faults = TellsLine number (codes "not a followed stream") exit faults
TellsFault (MissingBytes number) exit faults = TellsLine number (codes "bytes are missing") exit faults
TellsFault NoOpening exit faults = (exit ≡ Damaged)
    × Tells (codes "no request of an opening handshake\n  of another connection: follow,tcp,raw,1\n")
    faults
TellsFault (RefusedResponse fault) exit faults = TellsRefusedResponse fault exit faults
TellsFault (NotAStep number damage) exit faults = TellsLine number (damage_words damage) exit faults
TellsFault (NotAVerdict number damage) exit faults = TellsLine number (known_damage_words damage) exit faults
TellsFault (NotAResult number damage) exit faults = TellsLine number (run_damage_words damage) exit faults
TellsFault (NotAName number) exit faults = TellsLine number (codes "not a name") exit faults
TellsFault NoCaseLine exit faults =
    (exit ≡ Done) × Tells (codes "no line of a case: report reads what wst test printed\n") faults
TellsFault CaptureOfClient exit faults = (exit ≡ Damaged)
    × Tells (codes "the received frames are masked as a client's: to judge a client, add --role client\n") faults
TellsFault CaptureOfServer exit faults = (exit ≡ Damaged)
    × Tells (codes "the received frames have no mask, as a server's: to judge a server, leave out --role client\n")
    faults
TellsFault NoText exit faults = (exit ≡ WrongWords) × Tells (codes "error: the arguments are not UTF-8\n") faults
TellsFault NoTask exit faults = (exit ≡ WrongWords) × Tells (codes "error: the arguments ask for nothing\n") faults
TellsFault (NotListening why) exit faults = (exit ≡ Failed) × Tells (not_listening_line why) faults
TellsFault NoMemory exit faults = LacksMemory exit faults

-- what is told of how a run ended, and the exit: nothing, or its fault
abbrev pub Ends : Result Exit Fault → Exit → Device → Type 0
Ends (Ok ended) exit faults = (exit ≡ ended) × IsUntouched faults
Ends (Err fault) exit faults = TellsFault fault exit faults
