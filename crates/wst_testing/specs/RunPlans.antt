-- What the options that commands share ask for: over which end scripts are run, and how.
use Rattle.std.specs.Prelude.{◌≡◌, ◌≢◌, ◌⊎◌, ◌||◌, ⊤, ℕ, Bool, true, false, not, List, Option, None, Some, codes}
use Rattle.std.specs.Prelude.{map}
use Rattle.std.specs.Prelude.{IsTrue}
use Rattle.std.specs.Borrow.{Bor}
use Rattle.std.specs.Str.{bytes_eq}
use Rattle.std.specs.Str.Iter.{HasSubslice}
use Rattle.ws_wire.specs.declared.role.Role.{Role}
use Rattle.ws_wire.specs.declared.role.Role.TheVariants as role
use Rattle.ws_connection.specs.Protocols.{protocols_given}
use Rattle.ws_connection.specs.RequestHeaders.{AreHeaderWords, headers_in}
use Rattle.ws_formats.specs.Words.{IsKeyWord}
use Rattle.ws_frame.specs.Devices.{Device}
use Rattle.ws_targets.specs.Places.{IsAddress}
use Rattle.ws_targets.specs.Advice.{Advises}
use Rattle.ws_targets.specs.Targets.{IsTargetText, TargetValue, begins_with_wss, connected_at}
use Rattle.ws_targets.specs.declared.advice.Advice.{Advice}
use Rattle.ws_targets.specs.declared.advice.Advice.TheVariants as advice
use Rattle.ws_upgrade.specs.Protocols.{AreOffers}
use Rattle.ws_upgrade.specs.Texts.{IsHost}
use Rattle.wst_words.specs.declared.run_options.RunOptions.{RunOptions}
use Rattle.wst_commands.specs.Devices.{Tells}
use Rattle.wst_commands.specs.GivenCases.{TellsNoCases}
use Rattle.wst_commands.specs.TimeLimits.{GivesDeadline, GivesRunTimeout, GivesWait, HasDeadline, HasRunTimeout}
use Rattle.wst_commands.specs.TimeLimits.{HasUnit, HasWait, IsCountWord, is_limited, ten_times}
use Rattle.wst_commands.specs.declared.time_limit.TimeLimit.{TimeLimit}
use Rattle.wst_commands.specs.declared.time_limit.TimeLimit.TheVariants.{Seconds, Unlimited}
use Rattle.wst_commands.specs.declared.exit.Exit.{Exit}
use Rattle.wst_commands.specs.declared.exit.Exit.TheVariants.{WrongWords}
use Rattle.wst_commands.specs.declared.given_cases.NoCases.TheVariants.{NoMemory, NoSuchCase}
use Rattle.wst_testing.specs.declared.case_server.MemoryPeer.{MemoryPeer}
use Rattle.wst_testing.specs.declared.case_server.MemoryPeer.TheVariants.{Own, Tung}
use Rattle.wst_testing.specs.declared.run_plans.Refusal.{Refusal}
use Rattle.wst_testing.specs.declared.run_plans.Refusal.TheVariants as refusal
use Rattle.wst_testing.specs.declared.run_plans.RunPlan.{RunPlan}
use Rattle.wst_testing.specs.declared.run_plans.TestedEnd.{TestedEnd}
use Rattle.wst_testing.specs.declared.run_plans.TestedEnd.TheVariants.{Clients, Memory, Server}
use Rattle.wst_testing.specs.declared.run_plans.UsualTimes.{UsualTimes}
use Rattle.wst_testing.specs.declared.run_plans.UsualTimes.TheVariants.{OfCases, OfScript}

-- ---- the tested end

abbrev pub tested_role : TestedEnd → Role
tested_role (Memory end) = end.role
tested_role (Server target) = role.Server
tested_role (Clients address) = role.Client

-- whether an end stands in memory
abbrev pub is_in_memory : TestedEnd → Bool
is_in_memory (Memory end) = true
is_in_memory _ = false

-- the word for one in memory
abbrev pub memory_word : MemoryPeer → List ℕ
memory_word Own = codes "own"
memory_word Tung = codes "tung"

-- the word is of none in memory
abbrev pub IsNoMemoryWord : List ℕ → Type 0
IsNoMemoryWord word = (word ≢ codes "own") × (word ≢ codes "tung")

-- a word with :// is a URL
abbrev pub IsUrl : List ℕ → Type 0
IsUrl word = HasSubslice word (codes "://")

-- the word names this target, and the connection to it is made at the other address, where one is given
abbrev pub IsTargetBy : List ℕ → Option (Bor (List ℕ)) → TargetValue → Type 0
IsTargetBy word None target = IsTargetText word target
IsTargetBy word (Some address) target =
    (asked : TargetValue) × IsTargetText word asked × (target ≡ connected_at address.now asked)

-- clients can come to the word: it is the host of a request, and no URL
abbrev pub IsClientsAddress : List ℕ → Type 0
IsClientsAddress word = IsHost word × ¬ (IsUrl word)

-- The word names this end of this role: one in memory, which has no connection; a server at a target; or the clients
-- that come to an address.
abbrev pub IsEndOf : Role → List ℕ → Option (Bor (List ℕ)) → TestedEnd → Type 0
IsEndOf tested word connect (Memory end) = (end.role ≡ tested) × (word ≡ memory_word end.peer)
IsEndOf tested word connect (Server target) =
    (tested ≡ role.Server) × IsNoMemoryWord word × IsTargetBy word connect target
IsEndOf tested word connect (Clients address) =
    (tested ≡ role.Client) × IsNoMemoryWord word × IsClientsAddress word × (address.now ≡ word)

abbrev pub NamesEnd : Role → List ℕ → Type 0
NamesEnd tested word = (end : TestedEnd) × IsEndOf tested word None end

-- a connection can be made at the word: it is a host and a port, and no URL
abbrev pub IsConnectAddress : List ℕ → Type 0
IsConnectAddress word = IsAddress word × ¬ (IsUrl word)

-- and so it can at the address, where one is given
abbrev pub CanConnect : Option (Bor (List ℕ)) → Type 0
CanConnect None = ⊤
CanConnect (Some address) = IsConnectAddress address.now

-- ---- what the words ask for

-- the names that are given can be offered
abbrev pub HasOffers : RunOptions → Type 0
HasOffers options = AreOffers (protocols_given options.protocols)

abbrev pub header_words : RunOptions → List (List ℕ)
header_words options = map (λ word. word.now) options.headers.items

-- the headers that are given can be added to a request
abbrev pub HasHeaders : RunOptions → Type 0
HasHeaders options = AreHeaderWords (header_words options)

abbrev pub HasKey : RunOptions → Type 0
HasKey options = (key : List ℕ) × IsKeyWord key options.key.now

-- a limit of time for a client to come is given, and a server is tested
abbrev pub WaitsForServer : Role → Option (Bor (List ℕ)) → Type 0
WaitsForServer role.Server None = ⊥
WaitsForServer role.Server (Some word) = ⊤
WaitsForServer role.Client word = ⊥

-- a client alone is waited for
abbrev pub FitsRole : RunOptions → Type 0
FitsRole options = ¬ (WaitsForServer options.role options.wait)

-- how long a tested end is waited for, where that isn't given: ten seconds by cases
abbrev pub usual_timeout : UsualTimes → TimeLimit
usual_timeout OfScript = Unlimited
usual_timeout OfCases = Seconds 10

-- how long a connection lasts whose end is waited for so long, where that isn't given
abbrev pub usual_deadline : UsualTimes → TimeLimit → TimeLimit
usual_deadline OfScript timeout = Unlimited
usual_deadline OfCases timeout = ten_times timeout

-- this limit of time was asked for: one that is only usual wasn't
abbrev pub gives_limit : Option (Bor (List ℕ)) → TimeLimit → Bool
gives_limit None limit = false
gives_limit (Some word) limit = is_limited limit

-- the words ask for this, with these times where none of them says it
pub record IsRunPlan (usual : UsualTimes) (options : RunOptions) (plan : RunPlan) : Type 0 where
  pub fits_role : FitsRole options
  pub has_offers : HasOffers options
  pub protocols : plan.protocols ≡ protocols_given options.protocols
  pub has_headers : HasHeaders options
  pub headers : plan.headers ≡ headers_in (header_words options)
  pub timeout : GivesRunTimeout (usual_timeout usual) options.timeout plan.timeout
  pub gives_limit : plan.gives_limit ≡ gives_limit options.timeout plan.timeout
  pub wait : GivesWait options.wait plan.wait
  pub deadline : GivesDeadline (usual_deadline usual plan.timeout) options.deadline plan.deadline
  pub key : IsKeyWord plan.key options.key.now
  pub named : NamesEnd options.role options.target.now
  pub can_connect : CanConnect options.connect
  pub tested : IsEndOf options.role options.target.now options.connect plan.tested
  pub expected : plan.expected ≡ options.expect
  pub budget : plan.budget ≡ options.budget

-- the option gives that so many failures end a run, 1 to 1000, and none do where it is left out
abbrev pub GivesMaxFail : Option (Bor (List ℕ)) → Option ℕ → Type 0
GivesMaxFail None most = most ≡ None
GivesMaxFail (Some word) None = ⊥
GivesMaxFail (Some word) (Some count) = IsCountWord 1000 count word.now

-- it gives such a number, or is left out
abbrev pub HasMaxFail : Option (Bor (List ℕ)) → Type 0
HasMaxFail word = (most : Option ℕ) × GivesMaxFail word most

-- the option gives that so many cases run at a time, 1 to 100, and 1 where it is left out
abbrev pub GivesAtOnce : Option (Bor (List ℕ)) → ℕ → Type 0
GivesAtOnce None count = count ≡ 1
GivesAtOnce (Some word) count = IsCountWord 100 count word.now

-- it gives such a number, or is left out
abbrev pub HasTestsAtOnce : Option (Bor (List ℕ)) → Type 0
HasTestsAtOnce word = (count : ℕ) × GivesAtOnce word count

-- the word names an end in memory
abbrev pub is_memory_word : List ℕ → Bool
is_memory_word word = bytes_eq word (codes "own") || bytes_eq word (codes "tung")

-- The option says how many cases run at a time, and an end that this word names is tested in one after the other: a
-- client, or one in memory.
abbrev pub asks_in_turn : Option (Bor (List ℕ)) → Role → List ℕ → Bool
asks_in_turn None tested word = false
asks_in_turn (Some count) role.Client word = true
asks_in_turn (Some count) role.Server word = is_memory_word word

-- it is told that a run of a plan waits for its end: a server that is met over a network, without a limit of time
abbrev pub tells_waits_for : TestedEnd → TimeLimit → Bool
tells_waits_for (Server target) limit = not (is_limited limit)
tells_waits_for (Memory end) limit = false
tells_waits_for (Clients address) limit = false

abbrev pub tells_waits : RunPlan → Bool
tells_waits plan = tells_waits_for plan.tested plan.timeout

-- ---- what they can't ask for

-- What is wrong with a word to which no clients can come: it begins with wss:, or else it is a URL, or none of both.
abbrev pub AdvisesClients : List ℕ → Advice → Type 0
AdvisesClients word advice.Encrypted = IsTrue (begins_with_wss word)
AdvisesClients word advice.Url = ¬ (IsTrue (begins_with_wss word)) × IsUrl word
AdvisesClients word advice.Nothing = ¬ (IsTrue (begins_with_wss word)) × ¬ (IsUrl word)
AdvisesClients word _ = ⊥

-- what is wrong with a word that names no end of this role
abbrev pub AdvisesEnd : Role → List ℕ → Advice → Type 0
AdvisesEnd role.Server word given = Advises word given
AdvisesEnd role.Client word given = AdvisesClients word given

-- why a word names no end of this role
abbrev pub RefusesTarget : Role → List ℕ → Refusal → Type 0
RefusesTarget tested word (refusal.BadAddress given) = ¬ (NamesEnd tested word) × AdvisesEnd tested word given
RefusesTarget tested word (refusal.NoCases NoMemory) = ⊤
RefusesTarget tested word _ = ⊥

-- nothing is wrong with what stands before the limits of time
abbrev pub HasRequestWords : RunOptions → Type 0
HasRequestWords options = FitsRole options × HasOffers options × HasHeaders options

-- nor with these
abbrev pub HasTimes : RunOptions → Type 0
HasTimes options = HasRequestWords options × HasRunTimeout options.timeout × HasWait options.wait
    × HasDeadline options.deadline

-- nor with anything that stands before the target
abbrev pub HasAllButEnd : RunOptions → Type 0
HasAllButEnd options = HasTimes options × HasKey options

-- what is told of a word that is no limit of time: the one where it is digits with a unit, else the other
abbrev pub IsLimitRefusal : Option (Bor (List ℕ)) → Refusal → Refusal → Refusal → Type 0
IsLimitRefusal word with_unit bad why = (HasUnit word × (why ≡ with_unit)) ⊎ (¬ (HasUnit word) × (why ≡ bad))

-- The first of these that applies: a client is to be waited for, and a server is tested; the names that are given
-- can't be offered; the headers can't be added; the seconds are no limit of time for the tested end, or for a client
-- to come, or for a connection, and have a unit or not; the key is none; the target names no end of the role, or no
-- connection can be made at the address that is given for it. Memory may run out at any of them.
abbrev pub CanNotRun : RunOptions → Refusal → Type 0
CanNotRun options refusal.WaitForServer = WaitsForServer options.role options.wait
CanNotRun options refusal.BadProtocols = FitsRole options × ¬ (HasOffers options)
CanNotRun options refusal.BadHeader = FitsRole options × HasOffers options × ¬ (HasHeaders options)
CanNotRun options refusal.BadTimeout =
    HasRequestWords options × ¬ (HasRunTimeout options.timeout) × ¬ (HasUnit options.timeout)
CanNotRun options refusal.TimeoutWithUnit =
    HasRequestWords options × ¬ (HasRunTimeout options.timeout) × HasUnit options.timeout
CanNotRun options refusal.BadWait =
    HasRequestWords options × HasRunTimeout options.timeout × ¬ (HasWait options.wait) × ¬ (HasUnit options.wait)
CanNotRun options refusal.WaitWithUnit =
    HasRequestWords options × HasRunTimeout options.timeout × ¬ (HasWait options.wait) × HasUnit options.wait
CanNotRun options refusal.BadDeadline = HasRequestWords options × HasRunTimeout options.timeout × HasWait options.wait
    × ¬ (HasDeadline options.deadline) × ¬ (HasUnit options.deadline)
CanNotRun options refusal.DeadlineWithUnit = HasRequestWords options × HasRunTimeout options.timeout
    × HasWait options.wait × ¬ (HasDeadline options.deadline) × HasUnit options.deadline
CanNotRun options refusal.BadKey = HasTimes options × ((key : List ℕ) → ¬ (IsKeyWord key options.key.now))
CanNotRun options (refusal.BadAddress given) =
    HasAllButEnd options × RefusesTarget options.role options.target.now (refusal.BadAddress given)
CanNotRun options refusal.BadConnect =
    HasAllButEnd options × NamesEnd options.role options.target.now × ¬ (CanConnect options.connect)
CanNotRun options refusal.CaptureInReport = ⊥
CanNotRun options refusal.TimeInMemory = ⊥
CanNotRun options refusal.NotOneCase = ⊥
CanNotRun options refusal.BadMaxFail = ⊥
CanNotRun options refusal.AtOnceInTurn = ⊥
CanNotRun options refusal.BadAtOnce = ⊥
CanNotRun options (refusal.NoCases (NoSuchCase id)) = ⊥
CanNotRun options (refusal.NoCases NoMemory) = ⊤

-- ---- what is told

-- what is told of a bad address: the second line says what to type, where that is known
abbrev pub address_text : Advice → List ℕ
address_text advice.Encrypted =
    codes "bad address\nwss:// is not supported; run socat or stunnel and pass its address to --connect\n"
address_text advice.Web = codes "bad address\n  expected ws://HOST:PORT/PATH\n"
address_text advice.User = codes "bad address\n  no user before the host: ws://HOST:PORT/PATH, see --header\n"
address_text advice.Port =
    codes "bad address\n  a port is at most 65535, and 80 without one: ws://HOST:PORT/PATH\n"
address_text advice.Unencoded =
    codes "bad address\n  a URL is visible ASCII: a space is %20, and an umlaut such as %C3%BC\n"
address_text advice.Fragment = codes "bad address\n  no fragment: a # of a path or a query is %23\n"
address_text advice.Url = codes "bad address\n  an address to listen at is wanted: HOST:PORT\n"
address_text advice.Nothing = codes "bad address\n"

-- what is told of a refusal, and the exit
abbrev pub TellsRefusal : Refusal → Exit → Device → Type 0
TellsRefusal refusal.WaitForServer exit faults =
    (exit ≡ WrongWords) × Tells (codes "--wait takes --role client\n") faults
TellsRefusal refusal.BadProtocols exit faults = (exit ≡ WrongWords)
    × Tells (codes "bad protocol list\n  up to 16 different names, joined by commas: --protocols chat,echo\n") faults
TellsRefusal refusal.BadHeader exit faults = (exit ≡ WrongWords)
    × Tells (codes "bad header\n  NAME: VALUE, up to 32, none wst sends itself: --header 'Origin: http://localhost'\n")
    faults
TellsRefusal refusal.BadTimeout exit faults = (exit ≡ WrongWords)
    × Tells (codes "bad timeout\n  a whole number of seconds, 1 to 3600: --timeout 5\n") faults
TellsRefusal refusal.TimeoutWithUnit exit faults =
    (exit ≡ WrongWords) × Tells (codes "bad timeout\n  seconds without a unit: --timeout 5\n") faults
TellsRefusal refusal.BadWait exit faults = (exit ≡ WrongWords)
    × Tells (codes "bad wait\n  a whole number of seconds, 1 to 86400: --wait 60\n") faults
TellsRefusal refusal.WaitWithUnit exit faults =
    (exit ≡ WrongWords) × Tells (codes "bad wait\n  seconds without a unit: --wait 60\n") faults
TellsRefusal refusal.BadDeadline exit faults = (exit ≡ WrongWords)
    × Tells (codes "bad timeout\n  a whole number of seconds, 1 to 86400: --deadline 60\n") faults
TellsRefusal refusal.DeadlineWithUnit exit faults =
    (exit ≡ WrongWords) × Tells (codes "bad timeout\n  seconds without a unit: --deadline 60\n") faults
TellsRefusal refusal.BadKey exit faults =
    (exit ≡ WrongWords) × Tells (codes "bad key\n  eight lower-case hexadecimal digits: --key 37fa213d\n") faults
TellsRefusal (refusal.BadAddress given) exit faults = (exit ≡ WrongWords) × Tells (address_text given) faults
TellsRefusal refusal.BadConnect exit faults =
    (exit ≡ WrongWords) × Tells (codes "bad address\n  --connect takes HOST:PORT\n") faults
TellsRefusal refusal.CaptureInReport exit faults =
    (exit ≡ WrongWords) × Tells (codes "--capture does not go with --known or --junit\n") faults
TellsRefusal refusal.TimeInMemory exit faults =
    (exit ≡ WrongWords) × Tells (codes "--time does not go with own or tung\n") faults
TellsRefusal refusal.NotOneCase exit faults = (exit ≡ WrongWords) × Tells (codes "--capture takes one case\n") faults
TellsRefusal refusal.BadMaxFail exit faults =
    (exit ≡ WrongWords) × Tells (codes "bad max-fail\n  a whole number, 1 to 1000: --max-fail 10\n") faults
TellsRefusal refusal.AtOnceInTurn exit faults = (exit ≡ WrongWords)
    × Tells (codes "--at-once does not go with own, tung, --role client or --capture\n") faults
TellsRefusal refusal.BadAtOnce exit faults =
    (exit ≡ WrongWords) × Tells (codes "bad at-once\n  a whole number, 1 to 100: --at-once 16\n") faults
TellsRefusal (refusal.NoCases why) exit faults = TellsNoCases why exit faults
