-- A tapped connection whose ends are asked for one thing at a time: what its tap is told, and how it stands.
use Rattle.std.specs.Prelude.{◌≡◌, ℕ, ◌<◌, ◌≤◌, ⊤, Bool, true, false, List, [], ◌∷◌, ◌++◌, length}
use Rattle.std.specs.Prelude.{take, Option, Some, None, Result}
use Rattle.ws_wire.specs.declared.role.Role.{Role}
use Rattle.ws_wire.specs.declared.role.Role.TheVariants.{Client, Server}
use Rattle.ws_frame.specs.declared.show_fault.ShowFault.{ShowFault}
use Rattle.ws_frame.specs.Devices.{Device, HasWritten}
use Rattle.ws_tap.specs.Told.{TapTold, CameFrom, EndedBy, EndedTo, TakenBy}
use Rattle.ws_tap.specs.Tapping.{HasTapped, StandsOn, ends_wanted, is_tap_over, room_from, waits_for}
use Rattle.ws_tap.specs.declared.tap.Tap.{Tap}
use Rattle.ws_tap.specs.declared.tapped.Tapped.{Tapped}
use Rattle.ws_tap.specs.declared.tapping.TapEnd.TheVariants as tap_end
use Rattle.ws_relays.specs.declared.ends.Ask.{Ask}
use Rattle.ws_relays.specs.declared.once.Happened.{Happened}
use Rattle.ws_relays.specs.declared.once.Happened.TheVariants as happened
use Rattle.ws_relays.specs.declared.relay.Asked.{Asked}
use Rattle.ws_relays.specs.declared.relay.Fate.{Fate}
use Rattle.ws_relays.specs.declared.relay.Fate.TheVariants as fate
use Rattle.ws_relays.specs.declared.relay.Relay.{Relay}

-- ---- one thing that has happened at an end

-- what the tap is told of it, of an end to which these bytes were to be written
abbrev pub happened_told : Role → List ℕ → Happened → List TapTold
happened_told role waits (happened.Came bytes) = CameFrom role bytes.items ∷ []
happened_told role waits happened.Ended = EndedBy role ∷ []
happened_told role waits (happened.Taken count) = TakenBy role (take count waits) ∷ []
happened_told role waits happened.DirectionEnded = EndedTo role ∷ []
happened_told role waits happened.Failed = []

-- it may have: its tap asks for that
abbrev pub MayHappenAt : Role → Tap → Happened → Type 0
MayHappenAt role tap (happened.Came bytes) = (0 < length bytes.items) × (length bytes.items ≤ room_from role tap)
MayHappenAt role tap happened.Ended = 0 < room_from role tap
MayHappenAt role tap (happened.Taken count) = count ≤ length (waits_for role tap)
MayHappenAt role tap happened.DirectionEnded = ends_wanted role tap ≡ true
MayHappenAt role tap happened.Failed = ⊤

-- behind each list of what the tap was told, and this, it stands again, and what that makes certain was told
abbrev pub TellsHappened : {T : Type 0} → Role → Tap → Tap → Happened → Device → Result T ShowFault → Type 0
TellsHappened role old new happened output result = (tapped : Tapped) (told : List TapTold) (text : List ℕ)
    → HasTapped tapped told old text → (more : List ℕ) × HasWritten more output
    × StandsOn tapped (told ++ happened_told role (waits_for role old) happened) new (text ++ more) output.failed result

-- ---- how it stands

-- it is over once both directions were ended; the first to end its own is known then
abbrev pub fate_by : Bool → Option Role → Fate
fate_by true (Some first) = fate.Over (tap_end.Ended first)
fate_by true None = fate.On
fate_by false first = fate.On

abbrev pub fate_of : Tap → Fate
fate_of tap = fate_by (is_tap_over tap) tap.first

-- where something has failed it is broken
abbrev pub fate_behind : Happened → Tap → Fate
fate_behind (happened.Came bytes) tap = fate_of tap
fate_behind happened.Ended tap = fate_of tap
fate_behind (happened.Taken count) tap = fate_of tap
fate_behind happened.DirectionEnded tap = fate_of tap
fate_behind happened.Failed tap = fate.Over tap_end.Broken

-- ---- what is asked

-- what is to be asked of an end of it
abbrev pub asked_at_end : Role → Tap → Asked
asked_at_end role tap = record {
  bytes = length (waits_for role tap);
  room = room_from role tap;
  ends = ends_wanted role tap;
}

-- of an end of which nothing was asked
abbrev pub nothing_asked : Asked
nothing_asked = record { bytes = 0; room = 0; ends = false }

-- what was asked of an end last, where nothing has happened at it since
abbrev pub asked_last : Role → Relay → Asked
asked_last Client relay = relay.client
asked_last Server relay = relay.server

-- just this is to be asked of it; or nothing has changed
abbrev pub IsAskFor : Role → Relay → Option Ask → Type 0
IsAskFor role relay None = asked_last role relay ≡ asked_at_end role relay.tap.value
IsAskFor role relay (Some ask) = (ask.bytes.items ≡ waits_for role relay.tap.value)
    × (ask.room ≡ room_from role relay.tap.value) × (ask.ends ≡ ends_wanted role relay.tap.value)

-- what was asked of the other end stays
abbrev pub KeepsBut : Role → Relay → Relay → Type 0
KeepsBut Client old new = (new.number ≡ old.number) × (new.server ≡ old.server)
KeepsBut Server old new = (new.number ≡ old.number) × (new.client ≡ old.client)
