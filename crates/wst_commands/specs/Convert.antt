-- A run of `convert`: a capture in either format, or what `tshark` printed of a stream that it followed, is read whole
-- and written in format 2.
use Rattle.std.specs.Prelude.{◌≡◌, ◌⊎◌, ℕ, List, Result, Ok, Err, MatchResult, Option, Some, None, codes, option_map}
use Rattle.std.specs.Prelude.{if◌then◌else◌}
use Rattle.std.specs.Str.{bytes_eq}
use Rattle.ws_wire.specs.declared.role.Role.{Role}
use Rattle.ws_frame.specs.Devices.{Device, IsUntouched}
use Rattle.ws_scripts.specs.Captures.{DamagesCapture}
use Rattle.ws_scripts.specs.Captures2.{IsAnyCaptureOf, written_capture2}
use Rattle.ws_scripts.specs.declared.capture.Capture.{Capture}
use Rattle.ws_scripts.specs.declared.capture.CaptureFault.{CaptureFault}
use Rattle.ws_followed.specs.Conversion.{HasFollowedFault, IsFollowedCapture, IsWholeText}
use Rattle.ws_followed.specs.declared.conversion.FollowedFault.{FollowedFault}
use Rattle.ws_followed.specs.declared.conversion.FollowedFault.TheVariants as followed
use Rattle.ws_followed.specs.declared.segment.Segment.{Segment}
use Rattle.wst_words.specs.declared.convert.ConvertOptions.{ConvertOptions}
use Rattle.wst_commands.specs.Devices.{Delivers}
use Rattle.wst_commands.specs.Judge.{capture_fault}
use Rattle.wst_commands.specs.ReadingWhole.{AnswersInput}
use Rattle.wst_commands.specs.Show.{shown_role}
use Rattle.wst_commands.specs.declared.convert.ConvertPlan.{ConvertPlan}
use Rattle.wst_commands.specs.declared.convert.ConvertPlan.TheVariants.{Followed}
use Rattle.wst_commands.specs.declared.convert.ConvertPlan.TheVariants.{Capture as OfEither}
use Rattle.wst_commands.specs.declared.exit.Exit.{Exit}
use Rattle.wst_commands.specs.declared.exit.Exit.TheVariants.{Done}
use Rattle.wst_commands.specs.declared.fault.Fault.{Fault}
use Rattle.wst_commands.specs.declared.fault.Fault.TheVariants.{BadFrom, HeadIsCut, MissingBytes, NoMemory, NoOpening}
use Rattle.wst_commands.specs.declared.fault.Fault.TheVariants.{NotFollowed, RefusedResponse, RoleWithoutFrom}

-- the lines of the capture were written; or memory ran out, and nothing was written
abbrev pub WritesInFormat2 : Capture → Result Exit Fault → Device → Type 0
WritesInFormat2 capture ended output = MatchResult ended
    (λ exit. Delivers Done (written_capture2 capture) exit output)
    (λ fault. (fault ≡ NoMemory) × IsUntouched output)

-- what is done with a text: as a capture, in either format, it is written in format 2; else nothing is written, and
-- what is wrong is told
abbrev pub ConvertsCapture : List ℕ → Result Exit Fault → Device → Type 0
ConvertsCapture text ended output =
    ((capture : Capture) × IsAnyCaptureOf capture text × WritesInFormat2 capture ended output)
    ⊎ ((fault : CaptureFault) × DamagesCapture IsAnyCaptureOf fault text × (ended ≡ Err (capture_fault fault))
    × IsUntouched output)

-- ---- followed streams

-- what is told of each fault
abbrev pub followed_fault : FollowedFault → Fault
followed_fault (followed.Damaged number) = NotFollowed number
followed_fault (followed.Missing number) = MissingBytes number
followed_fault followed.NoRequest = NoOpening
followed_fault followed.CutResponse = HeadIsCut
followed_fault (followed.Response refusal) = RefusedResponse refusal
followed_fault followed.NoMemory = NoMemory

-- what is done with a text: as a followed stream in which no bytes are missing, the capture of its connection is
-- written, in which this end is judged; else nothing is written, and what is wrong is told
abbrev pub ConvertsFollowed : Role → List ℕ → Result Exit Fault → Device → Type 0
ConvertsFollowed judged text ended output =
    ((capture : Capture) × (segments : List Segment) × IsWholeText segments text
    × IsFollowedCapture judged segments capture × WritesInFormat2 capture ended output)
    ⊎ ((fault : FollowedFault) × HasFollowedFault text fault × (ended ≡ Err (followed_fault fault))
    × IsUntouched output)

-- ---- a run

-- what the options ask for: an end is judged only of what a program followed, and one program is known
abbrev pub plan_from : Option (List ℕ) → Option Role → Result ConvertPlan Fault
plan_from None None = Ok OfEither
plan_from None (Some role) = Err RoleWithoutFrom
plan_from (Some program) role =
    if bytes_eq program (codes "tshark") then Ok (Followed (shown_role role)) else Err BadFrom

abbrev pub convert_plan : ConvertOptions → Result ConvertPlan Fault
convert_plan options = plan_from (option_map (λ word. word.now) options.from) options.role

-- what is done with a text by a plan
abbrev pub ConvertsAs : ConvertPlan → List ℕ → Result Exit Fault → Device → Type 0
ConvertsAs OfEither text ended output = ConvertsCapture text ended output
ConvertsAs (Followed judged) text ended output = ConvertsFollowed judged text ended output

-- what is planned is read whole and converted; or nothing is read or written, and what is wrong with the words is told
abbrev pub CarriesOutConvert : Result ConvertPlan Fault → Result Exit Fault → Device → Device → Type 0
CarriesOutConvert (Ok plan) ended input output = AnswersInput (ConvertsAs plan) ended input output
CarriesOutConvert (Err fault) ended input output = (ended ≡ Err fault) × IsUntouched input × IsUntouched output

-- a run of `convert`
abbrev pub RunsConvert : ConvertOptions → Result Exit Fault → Device → Device → Type 0
RunsConvert options ended input output = CarriesOutConvert (convert_plan options) ended input output
