-- What `tap` is asked for, and its run.
use Rattle.std.specs.Prelude.{◌≡◌, ◌⊎◌, ⊤, false, Bool, List, ℕ, Option, Result, codes}
use Rattle.ws_frame.specs.Devices.{Device, IsUntouched}
use Rattle.ws_targets.specs.Places.{IsAddress}
use Rattle.ws_targets.specs.Targets.{IsTargetText, TargetValue}
use Rattle.wst_words.specs.declared.tap.TapOptions.{TapOptions}
use Rattle.wst_commands.specs.Devices.{Tells}
use Rattle.wst_commands.specs.Faults.{Ends, LacksMemory, TellsFault}
use Rattle.wst_commands.specs.TimeLimits.{IsCountWord}
use Rattle.wst_commands.specs.declared.exit.Exit.{Exit}
use Rattle.wst_commands.specs.declared.exit.Exit.TheVariants.{WrongWords}
use Rattle.wst_commands.specs.declared.fault.Fault.{Fault}
use Rattle.wst_commands.specs.declared.fault.Fault.TheVariants.{BadAtOnce}
use Rattle.wst_services.specs.Tapping.{TapsOver}
use Rattle.wst_services.specs.declared.tapping.TapPlan.{TapPlan}
use Rattle.wst_testing.specs.RunPlans.{IsUrl}
use Rattle.ws_targets.specs.Advice.{Advises}
use Rattle.ws_targets.specs.declared.advice.Advice.{Advice}
use Rattle.ws_targets.specs.declared.advice.Advice.TheVariants.{Encrypted, Fragment, Nothing, Port}
use Rattle.ws_targets.specs.declared.advice.Advice.TheVariants.{Unencoded, Url, User, Web}
use Rattle.wst_run.specs.declared.tap.TapRefusal.{TapRefusal}
use Rattle.wst_run.specs.declared.tap.TapRefusal.TheVariants.{BadListen, BadTarget, NoMemory}

-- the word names the server: as a `ws` URL, of which the host and the port count; or as a host and a port
abbrev pub IsServer : List ℕ → TargetValue → Type 0
IsServer word target = (IsUrl word ⊎ IsAddress word) × IsTargetText word target

abbrev pub NamesServer : List ℕ → Type 0
NamesServer word = (target : TargetValue) × IsServer word target

-- the ends are named, and this is the server
abbrev pub IsServerOf : TapOptions → TargetValue → Type 0
IsServerOf options target = IsAddress options.listen.now × IsServer options.target.now target

-- the word names no server, and this is wrong with it; or memory ran out
abbrev pub RefusesServer : List ℕ → TapRefusal → Type 0
RefusesServer word BadListen = ⊥
RefusesServer word (BadTarget advice) = ¬ (NamesServer word) × Advises word advice
RefusesServer word NoMemory = ⊤

-- nothing can be listened at the first address; or else the target names no server
abbrev pub RefusesEnds : TapOptions → TapRefusal → Type 0
RefusesEnds options BadListen = ¬ (IsAddress options.listen.now)
RefusesEnds options (BadTarget advice) =
    IsAddress options.listen.now × RefusesServer options.target.now (BadTarget advice)
RefusesEnds options NoMemory = ⊤

-- what is told of a target, and below it what to type
abbrev pub tap_target_text : Advice → List ℕ
tap_target_text Encrypted =
    codes "bad address\n  wss:// is not supported; run socat or stunnel and give its address as TARGET\n"
tap_target_text User = codes "bad address\n  no user before the host: ws://HOST:PORT/PATH\n"
tap_target_text Port =
    codes "bad address\n  a port is at most 65535, and 80 without one: ws://HOST:PORT/PATH\n"
tap_target_text Web = codes "bad address\n  TARGET is HOST:PORT or ws://HOST:PORT/PATH\n"
tap_target_text Unencoded = codes "bad address\n  TARGET is HOST:PORT or ws://HOST:PORT/PATH\n"
tap_target_text Fragment = codes "bad address\n  TARGET is HOST:PORT or ws://HOST:PORT/PATH\n"
tap_target_text Url = codes "bad address\n  TARGET is HOST:PORT or ws://HOST:PORT/PATH\n"
tap_target_text Nothing = codes "bad address\n  TARGET is HOST:PORT or ws://HOST:PORT/PATH\n"

-- what is told of a refusal, and the exit
abbrev pub TellsTapRefusal : TapRefusal → Exit → Device → Type 0
TellsTapRefusal BadListen exit faults = (exit ≡ WrongWords)
    × Tells (codes "bad address\n  LISTEN is an address to listen at: HOST:PORT\n") faults
TellsTapRefusal (BadTarget advice) exit faults = (exit ≡ WrongWords) × Tells (tap_target_text advice) faults
TellsTapRefusal NoMemory exit faults = LacksMemory exit faults

-- what the words ask for, of the server at this address
abbrev pub IsTapPlan : TapOptions → List ℕ → TapPlan → Type 0
IsTapPlan options server plan = (plan.server.now ≡ server) × (plan.listen ≡ options.listen)
    × (plan.count ≡ options.count) × (plan.style ≡ options.style) × (plan.time ≡ options.time)
    × IsCountWord 1000 plan.at_once options.at_once.now

-- connections are tapped as is asked for, and how that ended is told behind what was told before
abbrev pub RunsTapPlan : TapPlan → Exit → Device → Device → Type 0
RunsTapPlan plan exit output faults = (ended : Result Exit Fault) × (mid : Option (List ℕ)) × (failed : Bool)
    × TapsOver plan ended output (record { failed = failed; old = faults.old; new = mid })
    × Ends ended exit (record { failed = faults.failed; old = mid; new = faults.new })

-- those to the server at this address are; or the word gives no number of them that can go on at a time, which is told,
-- and nothing was written
abbrev pub TapsServer : TapOptions → List ℕ → Exit → Device → Device → Type 0
TapsServer options server exit output faults =
    ((plan : TapPlan) × IsTapPlan options server plan × RunsTapPlan plan exit output faults)
    ⊎ (((count : ℕ) → IsCountWord 1000 count options.at_once.now → ⊥) × IsUntouched output
    × (output.failed ≡ false) × TellsFault BadAtOnce exit faults)

-- those to the server that the words name are; or it is told why not, and nothing was written
abbrev pub RunsTap : TapOptions → Exit → Device → Device → Type 0
RunsTap options exit output faults =
    ((server : TargetValue) × IsServerOf options server × TapsServer options server.address exit output faults)
    ⊎ ((reason : TapRefusal) × RefusesEnds options reason × IsUntouched output × (output.failed ≡ false)
    × TellsTapRefusal reason exit faults)
