-- The lines of `show`: one for each frame of a stream (RFC 6455 section 5.2), in any form, and a last one where the
-- stream stops inside a frame. A line ends with LF. Where the streams of both ends are shown, each line begins with the
-- mark of its stream.
use Rattle.std.specs.Prelude.{◌⊎◌, ◌≡◌, ℕ, ◌+◌, ◌*◌, ◌<◌, ◌≤◌, Bool, true, false, nat_lt, ◌==◌}
use Rattle.std.specs.Prelude.{if◌then◌else◌}
use Rattle.std.specs.Prelude.{List, [], ◌∷◌, ◌++◌, length, take, Option, Some, None, codes}
use Rattle.std.specs.List.{flat_map, concat}
use Rattle.std.specs.Fmt.{decimal}
use Rattle.std.specs.Str.{chars, is_utf8}
use Rattle.std.specs.Io.KnownBytes.{IsAtEnd}
use Rattle.ws_wire.specs.declared.role.Role.{Role}
use Rattle.ws_wire.specs.declared.role.Role.TheVariants.{Client, Server}
use Rattle.ws_frame.specs.declared.source.Source.{Source}
use Rattle.ws_frame.specs.declared.source.DataStyle.{DataStyle}
use Rattle.ws_frame.specs.declared.source.DataStyle.TheVariants.{Hex, Text, All}
use Rattle.ws_frame.specs.declared.source.Mark.{Mark}
use Rattle.ws_frame.specs.declared.source.Mark.TheVariants.{Plain, Sent, Got, ClientOf, ServerOf}
use Rattle.ws_wire.specs.declared.header.Form.{Form}
use Rattle.ws_frame.specs.declared.showing.StreamEnd.{StreamEnd}
use Rattle.ws_frame.specs.declared.showing.StreamEnd.TheVariants.{Whole, CutAt, BadLengthAt}
use Rattle.ws_frame.specs.declared.showing.ShowEnd.{ShowEnd}
use Rattle.ws_frame.specs.declared.showing.ShowEnd.TheVariants as show_end
use Rattle.ws_wire.specs.Header.{HeaderFields, form_word, is_longer_than_needed}
use Rattle.ws_wire.specs.Frame.{WireFrame, wire_bytes}
use Rattle.ws_wire.specs.Stream.{SplitsIntoAnyForm}
use Rattle.ws_wire.specs.Reading.{BeginsBadLength}
use Rattle.ws_frame.specs.Devices.{Device, HasRead, HasWritten}
use Rattle.ws_formats.specs.Words.{bit_word, hex_word, opcode_word}
use Rattle.ws_formats.specs.QuotedText.{quoted_word}
pub use Rattle.ws_formats.specs.Words.{hex}

-- ---- the words of a line

-- the masking key as eight digits, or a dash
abbrev pub key_word : Option (List ℕ) → List ℕ
key_word None = codes "-"
key_word (Some key) = hex key

-- of a payload of this length the first bytes, at most sixteen: a dash where there are none, and two dots after them
-- where there are more
abbrev pub data_word : ℕ → List ℕ → List ℕ
data_word len first = if len == 0 then codes "-" else hex first ++ (if nat_lt 16 len then codes ".." else [])

-- the first bytes of a payload
abbrev pub first_word : List ℕ → List ℕ
first_word payload = data_word (length payload) (take 16 payload)

-- a payload as text, between quotation marks, where it is UTF-8; else its first bytes as digits
abbrev pub text_word : List ℕ → List ℕ
text_word payload = if is_utf8 payload then quoted_word (chars payload) else first_word payload

-- that of a close frame (section 5.5.1): of at least two bytes the code as a number, a colon, and the reason as text
abbrev pub close_word : List ℕ → List ℕ
close_word (high ∷ low ∷ reason) = decimal (256 * high + low) ++ (codes ":" ++ text_word reason)
close_word payload = text_word payload

-- as text, by the opcode
abbrev pub readable_word : ℕ → List ℕ → List ℕ
readable_word opcode payload = if opcode == 8 then close_word payload else text_word payload

-- the payload of a frame with this opcode as it is shown: its first bytes as digits, as text, or all of it as digits
abbrev pub payload_word : DataStyle → ℕ → List ℕ → List ℕ
payload_word Hex opcode payload = first_word payload
payload_word Text opcode payload = readable_word opcode payload
payload_word All opcode payload = hex_word payload

-- whether lines in this style take memory: those of first bytes take none, the others are made of whole frames
abbrev pub takes_memory : DataStyle → Bool
takes_memory Hex = false
takes_memory Text = true
takes_memory All = true

-- a client masks each frame and a server none (section 5.1); the other way round is marked
abbrev pub mask_mark : Role → Option (List ℕ) → List ℕ
mask_mark Client None = codes " !mask"
mask_mark Client (Some _) = []
mask_mark Server None = []
mask_mark Server (Some _) = codes " !mask"

-- a form longer than the shortest that holds the length is marked
abbrev pub form_mark : Form → ℕ → List ℕ
form_mark form len = if is_longer_than_needed form len then codes " !form" else []

-- the frame whose payload is the stream's first violation is marked, where that is known: a close, or one of a text
abbrev pub fault_mark : Option ℕ → ℕ → ℕ → List ℕ
fault_mark None offset opcode = []
fault_mark (Some place) offset opcode =
    if place == offset then (if opcode == 8 then codes " !close" else codes " !text") else []

-- what stands before each line of a stream
abbrev pub mark_word : Mark → List ℕ
mark_word Plain = []
mark_word Sent = codes "> "
mark_word Got = codes "< "
mark_word (ClientOf number) = decimal number ++ codes " > "
mark_word (ServerOf number) = decimal number ++ codes " < "

-- the stream of this end, shown alone, with its payloads in this style
abbrev pub alone : Role → DataStyle → Source
alone from style = record { from = from; mark = Plain; style = style; fault = None }

-- the same stream, with the violation in the payload of the frame at this place
abbrev pub marked_at : Source → ℕ → Source
marked_at source place = record source { fault = Some place }

-- the first bytes of each payload as digits
abbrev pub plain : Role → Source
plain from = alone from Hex

-- ---- the lines

-- the line of a frame that begins at this place of the stream, by its header and the word for its payload
abbrev pub line_with : Source → ℕ → HeaderFields → List ℕ → List ℕ
line_with source offset header word = concat (
    mark_word source.mark ∷ decimal offset ∷ codes " " ∷ opcode_word header.opcode
    ∷ codes " fin=" ∷ bit_word header.fin ∷ codes " rsv=" ∷ decimal header.rsv
    ∷ codes " key=" ∷ key_word header.key ∷ codes " len=" ∷ decimal header.len
    ∷ codes " " ∷ form_word header.form ∷ codes " " ∷ word
    ∷ mask_mark source.from header.key ∷ form_mark header.form header.len
    ∷ fault_mark source.fault offset header.opcode ∷ codes "\n" ∷ [])

-- the line of a frame: its payload is shown unmasked
abbrev pub line_of : Source → ℕ → WireFrame → List ℕ
line_of source offset x = line_with source offset x.header (payload_word source.style x.header.opcode x.payload)

-- the lines of frames that stand one after the other, the first at this place
abbrev pub frame_lines : Source → ℕ → List WireFrame → List ℕ
frame_lines source offset [] = []
frame_lines source offset (x ∷ frames) =
    line_of source offset x ++ frame_lines source (offset + length (wire_bytes x)) frames

-- what is left after the whole frames, at this place, of a stream that ends so: nothing; or part of a frame; or a
-- header at the front whose length has the top bit set
abbrev pub Leaves : StreamEnd → ℕ → List ℕ → Type 0
Leaves Whole at rest = rest ≡ []
Leaves (CutAt place) at rest = (place ≡ at) × (0 < length rest) × (BeginsBadLength rest → ⊥)
Leaves (BadLengthAt place) at rest = (place ≡ at) × BeginsBadLength rest

-- the line for what is left: none after whole frames
abbrev pub last_line : Source → StreamEnd → List ℕ
last_line source Whole = []
last_line source (CutAt place) = mark_word source.mark ++ (codes "cut at " ++ (decimal place ++ codes "\n"))
last_line source (BadLengthAt place) =
    mark_word source.mark ++ (codes "bad length at " ++ (decimal place ++ codes "\n"))

-- the lines of a stream that has ended so: one for each whole frame, and that for what is left
pub record AreLinesOf (source : Source) (bytes : List ℕ) (end : StreamEnd) (lines : List ℕ) : Type 0 where
  pub frames : List WireFrame
  pub rest : List ℕ
  pub split : SplitsIntoAnyForm bytes frames rest
  pub leaves : Leaves end (length (flat_map wire_bytes frames)) rest
  pub all : lines ≡ frame_lines source 0 frames ++ last_line source end

-- the lines of the whole frames of a stream that may go on
pub record AreFrameLinesOf (source : Source) (bytes : List ℕ) (lines : List ℕ) : Type 0 where
  pub frames : List WireFrame
  pub rest : List ℕ
  pub split : SplitsIntoAnyForm bytes frames rest
  pub goes_on : BeginsBadLength rest → ⊥
  pub all : lines ≡ frame_lines source 0 frames

-- the lines that are certain once these bytes of a stream have come, and more may: those of its whole frames, and that
-- of a bad length
abbrev pub AreCertainLines : Source → List ℕ → List ℕ → Type 0
AreCertainLines source bytes lines =
    AreFrameLinesOf source bytes lines ⊎ ((place : ℕ) × AreLinesOf source bytes (BadLengthAt place) lines)

-- ---- a run of `show`

-- one read asks for at most so many bytes
abbrev pub read_size : ℕ
read_size = 65536

-- what a run was asked and did
pub record ShowRun : Type 0 where
  -- whose stream is shown
  pub source : Source
  -- how many bytes may be read
  pub budget : ℕ
  -- what was read
  pub read : List ℕ
  -- what the reader has left, where that is known
  pub unread : Option (List ℕ)
  -- what was written
  pub written : List ℕ

-- The lines that are due. While more may come they are those of the whole frames, and that of a bad length; once the
-- reader is at its end, before the budget is used up, they are all lines.
abbrev pub AreDue : ShowRun → List ℕ → Type 0
AreDue run lines =
    AreFrameLinesOf run.source run.read lines
    ⊎ (((place : ℕ) × AreLinesOf run.source run.read (BadLengthAt place) lines)
    ⊎ ((length run.read < run.budget) × IsAtEnd run.unread
    × ((end : StreamEnd) × AreLinesOf run.source run.read end lines)))

-- a beginning of the lines that are due was written
pub record BeginsDueLines (run : ShowRun) : Type 0 where
  pub lines : List ℕ
  pub more : List ℕ
  pub due : AreDue run lines
  pub begins : lines ≡ run.written ++ more

-- the lines of the frames that all but at most the last 65536 bytes complete were written, before anything more
pub record HasEarlierLines (run : ShowRun) : Type 0 where
  pub before : List ℕ
  pub last : List ℕ
  pub parts : run.read ≡ before ++ last
  pub one_read : length last ≤ read_size
  pub lines : List ℕ
  pub are : AreFrameLinesOf run.source before lines
  pub more : List ℕ
  pub begins : run.written ≡ lines ++ more

-- what was written for what was read, by how the run ended: only lines that take memory can lack it
abbrev pub IsShownAt : ShowEnd → ShowRun → Type 0
IsShownAt show_end.Done run = AreLinesOf run.source run.read Whole run.written × (length run.read < run.budget)
IsShownAt (show_end.CutAt place) run =
    AreLinesOf run.source run.read (CutAt place) run.written × (length run.read < run.budget)
IsShownAt (show_end.BadLengthAt place) run = AreLinesOf run.source run.read (BadLengthAt place) run.written
IsShownAt show_end.Budget run = AreFrameLinesOf run.source run.read run.written × (length run.read ≡ run.budget)
IsShownAt show_end.ReadFault run = AreFrameLinesOf run.source run.read run.written × (length run.read < run.budget)
IsShownAt show_end.WriteFault run = BeginsDueLines run × HasEarlierLines run
IsShownAt show_end.NoMemory run =
    BeginsDueLines run × HasEarlierLines run × (takes_memory run.source.style ≡ true)

-- a run of `show` over a reader and a writer: some bytes were read, at most as many as the budget, and what is due for
-- them was written
pub record Shows (source : Source) (budget : ℕ) (end : ShowEnd) (input output : Device) : Type 0 where
  pub read : List ℕ
  pub written : List ℕ
  pub has_read : HasRead read input
  pub has_written : HasWritten written output
  pub within : length read ≤ budget
  pub shown : IsShownAt end
      (record { source = source; budget = budget; read = read; unread = input.new; written = written })

-- which device has failed, and that the reader is at its end where the run says so
abbrev pub IsFairEnd : ShowEnd → Device → Device → Type 0
IsFairEnd show_end.Done input output = (input.failed ≡ false) × (output.failed ≡ false) × IsAtEnd input.new
IsFairEnd (show_end.CutAt _) input output = (input.failed ≡ false) × (output.failed ≡ false) × IsAtEnd input.new
IsFairEnd (show_end.BadLengthAt _) input output = output.failed ≡ false
IsFairEnd show_end.Budget input output = (input.failed ≡ false) × (output.failed ≡ false)
IsFairEnd show_end.ReadFault input output = (input.failed ≡ true) × (output.failed ≡ false)
IsFairEnd show_end.WriteFault input output = output.failed ≡ true
IsFairEnd show_end.NoMemory input output = (input.failed ≡ false) × (output.failed ≡ false)
