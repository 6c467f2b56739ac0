-- What a call tells of an end, by where it stood.
use Rattle.std.proofs.Common.{◌≡◌, ℕ, true, false, List, [], ◌++◌, refl, sym, ap, ◌∙◌, append_assoc}
use Rattle.std.proofs.Common.{subst, Ok, Err, IsErrOf, Option, Result}
use Rattle.std.proofs.KnownBytes.{Appends-trans}
use Rattle.std.specs.Io.KnownBytes.{Appends}
use Rattle.ws_wire.specs.declared.role.Role.{Role}
use Rattle.ws_frame.specs.declared.show_fault.ShowFault.{ShowFault}
use Rattle.ws_frame.specs.declared.show_fault.ShowFault.TheVariants.{Write, NoMemory}
use Rattle.ws_frame.specs.declared.writing_whole.WriteFault.{WriteFault}
use Rattle.ws_frame.specs.declared.frame_lines.FrameLines.{FrameLines}
use Rattle.ws_frame.specs.FrameStreaming.{keeps_frames}
use Rattle.ws_frame.specs.Devices.{Device, HasBegun}
use Rattle.ws_tap.specs.declared.tapped.Tapped.{Tapped}
use Rattle.ws_tap.specs.declared.release.Release.{Release}
use Rattle.ws_tap.specs.declared.telling.SideStage.{SideStage}
use Rattle.ws_tap.specs.declared.telling.SideStage.TheVariants as side
use Rattle.ws_tap.specs.Telling.{CanEndSide, CanTell, EndsBy, EndsSide, LacksFairly, ReleaseStep, TellsFramesBy}
use Rattle.ws_tap.specs.Telling.{TellsSome}

-- by what the stage was, and whether lines waited
pub tells_at : (role : Role) (tapped : Tapped) (was at new : SideStage) (step : ReleaseStep) (piece : List ℕ)
    (output : Device) (result : Result ℕ ShowFault) → at ≡ was
    → TellsSome role tapped was new step piece output result → TellsSome role tapped at new step piece output result
tells_at role tapped was at new step piece output result is t =
    subst (λ (x : SideStage). TellsSome role tapped x new step piece output result) (sym is) t

pub can_tell_at : (role : Role) (count : ℕ) (was at : SideStage) (release : Release) → at ≡ was
    → CanTell role count at release → CanTell role count was release
can_tell_at role count was at release is t = subst (λ (x : SideStage). CanTell role count x release) is t

pub can_end_at : (was at : SideStage) (release : Release) → at ≡ was → CanEndSide at release → CanEndSide was release
can_end_at was at release is t = subst (λ (x : SideStage). CanEndSide x release) is t

pub tells_by : (old new : FrameLines) (was at after : Release) (piece : List ℕ) (output : Device)
    (result : Result (Unit {0}) ShowFault) → at ≡ was → TellsFramesBy old new was after piece output result
    → TellsFramesBy old new at after piece output result
tells_by old new was at after piece output result is t =
    subst (λ (r : Release). TellsFramesBy old new r after piece output result) (sym is) t

pub ends_at : (was at new : SideStage) (step : ReleaseStep) (output : Device) (result : Result (Unit {0}) WriteFault)
    → at ≡ was → EndsSide was new step output result → EndsSide at new step output result
ends_at was at new step output result is t =
    subst (λ (x : SideStage). EndsSide x new step output result) (sym is) t

pub ends_by : (lines : FrameLines) (was at after : Release) (output : Device)
    (result : Result (Unit {0}) WriteFault) → at ≡ was → EndsBy lines was after output result
    → EndsBy lines at after output result
ends_by lines was at after output result is t = subst (λ (r : Release). EndsBy lines r after output result) (sym is) t

-- an end that doesn't stand behind its head
pub ends_in_default : (at : SideStage) (release : Release) (output : Device)
    → ((lines : FrameLines) → at ≡ side.Frames lines → ⊥) → output.failed ≡ false → Appends output.old output.new []
    → EndsSide at at (record { old = release; new = release }) output (Ok tt)
ends_in_default (side.Head room) release output other works wrote = (works, wrote, refl, refl)
ends_in_default (side.Frames lines) release output other works wrote = absurd (other lines refl)

-- a beginning of the first of two texts is one of both
pub begins_both : (output : Device) (first second : List ℕ) → HasBegun first output → HasBegun (first ++ second) output
begins_both output first second (front, rest, all, wrote) =
    (front, rest ++ second, ap (λ (t : List ℕ). t ++ second) all ∙ append_assoc front rest second, wrote)

-- and so is the first with a beginning of the second
pub begins_second : (output : Device) (old : Option (List ℕ)) (first second : List ℕ) → Appends old output.old first
    → HasBegun second output
    → HasBegun (first ++ second) (record { failed = output.failed; old = old; new = output.new })
begins_second output old first second before (front, rest, all, wrote) = (
  first ++ front,
  rest,
  ap (λ (t : List ℕ). first ++ t) all ∙ sym (append_assoc first front rest),
  Appends-trans old output.old output.new first front before wrote,
)

-- memory runs out only where frames are kept
pub lacks_fairly : (lines : FrameLines) (fault : ShowFault)
    → (IsErrOf {T = Unit {0}} {E = ShowFault} (Err fault) NoMemory → keeps_frames lines ≡ true)
    → LacksFairly lines (Err fault)
lacks_fairly lines Write fair = tt
lacks_fairly lines NoMemory fair = fair refl
