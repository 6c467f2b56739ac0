-- What a tap between a client and a server has passed on, and told (RFC 6455 sections 4 and 5.2), behind all that it
-- was told of them.
use Rattle.std.specs.Prelude.{◌≡◌, ℕ, ◌&&◌, Bool, true, false, List, [], ◌∷◌, ◌++◌, Option, Some, None, Result, Ok}
use Rattle.std.specs.Prelude.{Err}
use Rattle.ws_wire.specs.declared.role.Role.{Role}
use Rattle.ws_wire.specs.declared.role.Role.TheVariants.{Client, Server}
use Rattle.ws_frame.specs.declared.show_fault.ShowFault.{ShowFault}
use Rattle.ws_frame.specs.declared.writing_whole.WriteFault.{WriteFault}
use Rattle.ws_frame.specs.Devices.{Device, HasWritten}
use Rattle.ws_frame.specs.FrameStreaming.{MayEndBy, is_of_a_write}
use Rattle.ws_tap.specs.declared.tapped.Tapped.{Tapped}
use Rattle.ws_tap.specs.declared.tap.Tap.{Tap}
use Rattle.ws_tap.specs.Told.{TapTold, EndedBy, ArePassedOn, first_ended, other_end, passage}
use Rattle.ws_tap.specs.Texts.{Part, all_text, BeginsDue}
use Rattle.ws_tap.specs.Piping.{PipeValue, IsPipeOf, is_passed, room_in, wants_end_of, with_end_come}
use Rattle.ws_tap.specs.Standing.{HasToldLines}

-- ---- what it wants

-- the pipe from an end to the other
abbrev pub pipe_from : Role → Tap → PipeValue
pipe_from Client tap = tap.client
pipe_from Server tap = tap.server

-- how many bytes may be read from an end now
abbrev pub room_from : Role → Tap → ℕ
room_from role tap = room_in (pipe_from role tap)

-- the bytes that are to be written to an end, and whether its direction is to be ended
abbrev pub waits_for : Role → Tap → List ℕ
waits_for role tap = (pipe_from (other_end role) tap).held

abbrev pub ends_wanted : Role → Tap → Bool
ends_wanted role tap = wants_end_of (pipe_from (other_end role) tap)

-- both directions were ended
abbrev pub is_tap_over : Tap → Bool
is_tap_over tap = is_passed tap.client.stage && is_passed tap.server.stage

-- ---- what it holds

-- with another pipe from an end
abbrev pub with_pipe : Role → Tap → PipeValue → Tap
with_pipe Client tap pipe = record tap { client = pipe }
with_pipe Server tap pipe = record tap { server = pipe }

-- the end that was first: the one that is known, or else this one
abbrev pub first_end_of : Option Role → Role → Option Role
first_end_of (Some known) role = Some known
first_end_of None role = Some role

-- an end has ended its direction
abbrev pub with_end_by : Role → Tap → Tap
with_end_by role tap =
    record (with_pipe role tap (with_end_come (pipe_from role tap))) { first = first_end_of tap.first role }

-- ---- what it was told

-- A tap stands behind what it was told where both directions were passed on so far, and this text was told: all that is
-- certain of what came, and nothing else.
pub record HasTapped (tapped : Tapped) (told : List TapTold) (tap : Tap) (text : List ℕ) : Type 0 where
  pub client : IsPipeOf tap.client (passage Client told)
  pub server : IsPipeOf tap.server (passage Server told)
  pub first : tap.first ≡ first_ended told
  pub parts : List Part
  pub lines : HasToldLines tapped told tap.lines parts
  pub all : text ≡ all_text parts

-- it stands behind something
abbrev pub IsTapping : Tap → Type 0
IsTapping tap = (tapped : Tapped) × (told : List TapTold) × (text : List ℕ) × HasTapped tapped told tap text

-- ---- one event more

-- behind each list of what it was told, and this, it stands again, and nothing more was told
abbrev pub ExtendsTap : Tap → Tap → TapTold → Type 0
ExtendsTap old new event = (tapped : Tapped) (told : List TapTold) (text : List ℕ) → HasTapped tapped told old text
    → HasTapped tapped (told ++ event ∷ []) new text

-- It stands again; or the output has failed, or memory ran out, which with first bytes alone it never does: then both
-- directions were passed on still, and a beginning of what is due was told.
abbrev pub StandsOn : {T : Type 0} → Tapped → List TapTold → Tap → List ℕ → Bool → Result T ShowFault → Type 0
StandsOn tapped told new text failed (Ok _) = (failed ≡ false) × HasTapped tapped told new text
StandsOn tapped told new text failed (Err fault) = (failed ≡ is_of_a_write fault) × MayEndBy tapped.style fault
    × ArePassedOn told × BeginsDue tapped told text

-- behind each list of what it was told, and this, it stands again, and what that makes certain was told
abbrev pub TellsNext : TapTold → Tap → Tap → Device → Result (Unit {0}) ShowFault → Type 0
TellsNext event old new output result = (tapped : Tapped) (told : List TapTold) (text : List ℕ)
    → HasTapped tapped told old text → (more : List ℕ) × HasWritten more output
    × StandsOn tapped (told ++ event ∷ []) new (text ++ more) output.failed result

-- the same of the end of a direction, for which memory never runs out
abbrev pub StandsEnded : Tapped → List TapTold → Tap → List ℕ → Bool → Result (Unit {0}) WriteFault → Type 0
StandsEnded tapped told new text failed (Ok _) = (failed ≡ false) × HasTapped tapped told new text
StandsEnded tapped told new text failed (Err _) = (failed ≡ true) × ArePassedOn told × BeginsDue tapped told text

abbrev pub EndsNext : Role → Tap → Tap → Device → Result (Unit {0}) WriteFault → Type 0
EndsNext role old new output result = (tapped : Tapped) (told : List TapTold) (text : List ℕ)
    → HasTapped tapped told old text → (more : List ℕ) × HasWritten more output
    × StandsEnded tapped (told ++ EndedBy role ∷ []) new (text ++ more) output.failed result
