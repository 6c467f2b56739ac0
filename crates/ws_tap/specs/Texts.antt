-- The lines that a tap tells of its two ends: the first line of each head, and those of `show` for what stands behind
-- it (RFC 6455 section 5.2).
use Rattle.std.specs.Prelude.{◌≡◌, ◌⊎◌, ℕ, ◌<◌, ◌≤◌, ◌==◌, ◌||◌, Bool, true, false, not, List, [], ◌∷◌, ◌++◌}
use Rattle.std.specs.Prelude.{length, drop, take, None, Some, codes, map, nat_le, ◌&&◌, if◌then◌else◌}
use Rattle.std.specs.List.{position_or_len}
use Rattle.ws_wire.specs.declared.role.Role.{Role}
use Rattle.ws_wire.specs.declared.role.Role.TheVariants.{Client, Server}
use Rattle.ws_frame.specs.declared.source.Source.{Source}
use Rattle.ws_frame.specs.declared.source.Mark.TheVariants.{ClientOf, ServerOf}
use Rattle.ws_frame.specs.declared.showing.StreamEnd.{StreamEnd}
use Rattle.ws_frame.specs.Lines.{mark_word, AreCertainLines, AreLinesOf}
use Rattle.ws_tap.specs.declared.heads.Head.{Head}
use Rattle.ws_tap.specs.declared.tapped.Tapped.{Tapped}
use Rattle.ws_tap.specs.Told.{TapTold, CameFrom, IsCutFrom, passage}
use Rattle.ws_tap.specs.Heads.{HasHead, HasNoHead}

-- ---- the line of a head

-- a byte ends a line, or is part of its end: CR or LF
abbrev pub is_line_end : ℕ → Bool
is_line_end byte = (byte == 10) || (byte == 13)

-- what stands behind the empty lines at the front
abbrev pub after_empty_lines : List ℕ → List ℕ
after_empty_lines bytes = drop (position_or_len (λ byte. not (is_line_end byte)) bytes) bytes

-- the first line that is not empty, without its line end
abbrev pub first_line : List ℕ → List ℕ
first_line bytes = take (position_or_len is_line_end (after_empty_lines bytes)) (after_empty_lines bytes)

-- the mark of an end
abbrev pub side_mark : Role → List ℕ
side_mark Client = codes " > "
side_mark Server = codes " < "

-- an end of the connection that is tapped, as the lines of its frames have it
abbrev pub source_at : Role → Tapped → Source
source_at Client tapped = record { from = Client; mark = ClientOf tapped.number; style = tapped.style; fault = None }
source_at Server tapped = record { from = Server; mark = ServerOf tapped.number; style = tapped.style; fault = None }

-- a byte of it as it is shown: one outside 0x20 to 0x7e is a question mark, since a terminal may obey it
abbrev pub shown_byte : ℕ → ℕ
shown_byte byte = if nat_le 32 byte && nat_le byte 126 then byte else 63

-- the line that tells of a head
abbrev pub head_line : Source → List ℕ → List ℕ
head_line source head = mark_word source.mark ++ (map shown_byte (first_line head) ++ codes "\n")

-- ---- the lines of frames

-- the lines of a direction that has ended, or not: all of them, or those that are certain
abbrev pub AreLinesTo : Bool → Source → List ℕ → List ℕ → Type 0
AreLinesTo false source bytes lines = AreCertainLines source bytes lines
AreLinesTo true source bytes lines = (end : StreamEnd) × AreLinesOf source bytes end lines

-- so many bytes of lines are kept while they wait
abbrev pub max_kept : ℕ
max_kept = 65536

-- what is kept are the lines of a beginning of the bytes, the most that have at most so many bytes
pub record IsMost (source : Source) (bytes kept : List ℕ) : Type 0 where
  pub front : List ℕ
  pub behind : List ℕ
  pub parts : bytes ≡ front ++ behind
  pub lines : AreCertainLines source front kept
  pub fits : length kept ≤ max_kept
  pub most : (other : List ℕ) (more : List ℕ) (lines : List ℕ) → bytes ≡ other ++ more
      → AreCertainLines source other lines → length lines ≤ max_kept → length lines ≤ length kept

-- of these lines all are kept; or, where they are too long, the most
abbrev pub IsKeptOf : Source → List ℕ → List ℕ → List ℕ → Type 0
IsKeptOf source bytes lines kept =
    ((length lines ≤ max_kept) × (kept ≡ lines)) ⊎ ((max_kept < length lines) × IsMost source bytes kept)

-- ---- the lines of an end

-- what an end did: what it sent, and whether it has ended its direction
pub record Sent : Type 0 where
  pub bytes : List ℕ
  pub ended : Bool

-- as a tap was told it
abbrev pub sent_by : Role → List TapTold → Sent
sent_by role told = record { bytes = (passage role told).came; ended = (passage role told).ended }

-- what both did
pub record BothSent : Type 0 where
  pub client : Sent
  pub server : Sent

abbrev pub both_sent : List TapTold → BothSent
both_sent told = record { client = sent_by Client told; server = sent_by Server told }

abbrev pub sent_of : Role → BothSent → Sent
sent_of Client both = both.client
sent_of Server both = both.server

-- What the server has answered so far: nothing yet; or its response was whole when both had sent this, and it switches
-- to frames, or it does not.
pub data Answered : Type 0 where
  NotYet : Answered
  After : BothSent → Bool → Answered

-- the lines of the frames of an end whose server switches: those that waited, as far as they were kept, and those that
-- came later
pub record AreReleased (source : Source) (len : ℕ) (early sent : Sent) (lines : List ℕ) : Type 0 where
  pub waited : List ℕ
  pub kept : List ℕ
  pub later : List ℕ
  pub are_waited : AreLinesTo early.ended source (drop len early.bytes) waited
  pub is_kept : IsKeptOf source (drop len early.bytes) waited kept
  pub all : AreLinesTo sent.ended source (drop len sent.bytes) (waited ++ later)
  pub told : lines ≡ kept ++ later

-- the frames of an end are told once the server switches
abbrev pub AreToldLines : Role → Source → ℕ → Answered → Sent → List ℕ → Type 0
AreToldLines role source len NotYet sent lines = lines ≡ []
AreToldLines role source len (After early false) sent lines = lines ≡ []
AreToldLines role source len (After early true) sent lines = AreReleased source len (sent_of role early) sent lines

-- behind its head an end has sent this, and its text is the line of that and these lines
pub record IsTextBehind (role : Role) (tapped : Tapped) (answered : Answered) (sent : Sent) (text : List ℕ) : Type 0
  where
    pub head : Head
    pub lines : List ℕ
    pub has : HasHead role sent.bytes head
    pub is : text ≡ head_line (source_at role tapped) (take head.len sent.bytes) ++ lines
    pub are : AreToldLines role (source_at role tapped) head.len answered sent lines

-- the text that is told of an end: nothing without a head
abbrev pub IsEndText : Role → Tapped → Answered → Sent → List ℕ → Type 0
IsEndText role tapped answered sent text =
    (HasNoHead role sent.bytes × (text ≡ [])) ⊎ IsTextBehind role tapped answered sent text

-- ---- the answer

-- a response of the status 101 switches: frames follow on both sides (RFC 6455 section 4.1)
abbrev pub Switches : Head → Type 0
Switches head = head.status ≡ Some 101

abbrev pub AnswersSo : Bool → Head → Type 0
AnswersSo true head = Switches head
AnswersSo false head = Switches head → ⊥

-- The server's response was whole with this piece: before it there was none; behind it both had sent this, the client
-- what had come of it, and the server just that response.
pub record IsAnsweredWith (told : List TapTold) (early : BothSent) (switches : Bool) : Type 0 where
  pub before : List TapTold
  pub piece : List ℕ
  pub after : List TapTold
  pub head : Head
  pub rest : List ℕ
  pub all : told ≡ before ++ CameFrom Server piece ∷ after
  pub none_before : HasNoHead Server (passage Server before).came
  pub has : HasHead Server early.server.bytes head
  pub whole : head.len ≡ length early.server.bytes
  pub begins : (passage Server before).came ++ piece ≡ early.server.bytes ++ rest
  pub still_open : early.server.ended ≡ false
  pub client : early.client ≡ sent_by Client before
  pub answers : AnswersSo switches head

-- what the server has answered in all that was told
abbrev pub IsAnsweredIn : List TapTold → Answered → Type 0
IsAnsweredIn told NotYet = HasNoHead Server (passage Server told).came
IsAnsweredIn told (After early switches) = IsAnsweredWith told early switches

-- ---- the text of both ends

-- a part of what was told: of this end
pub data Part : Type 0 where
  OfEnd : Role → List ℕ → Part

-- all of it, in order
abbrev pub all_text : List Part → List ℕ
all_text [] = []
all_text (OfEnd role text ∷ parts) = text ++ all_text parts

-- what of it was told of an end
abbrev pub text_of : Role → List Part → List ℕ
text_of role [] = []
text_of Client (OfEnd Client text ∷ parts) = text ++ text_of Client parts
text_of Client (OfEnd Server text ∷ parts) = text_of Client parts
text_of Server (OfEnd Client text ∷ parts) = text_of Server parts
text_of Server (OfEnd Server text ∷ parts) = text ++ text_of Server parts

-- this is the line that tells of the response with which a server begins that sends these bytes
abbrev pub IsResponseLine : Tapped → List ℕ → List ℕ → Type 0
IsResponseLine tapped bytes line = (head : Head) × HasHead Server bytes head
    × (line ≡ head_line (source_at Server tapped) (take head.len bytes))

-- Where in these parts the server has answered: before the first line of the server nothing is told of it, and of the
-- client what is told while it waits; and at once behind that line stand the lines of the client that waited.
pub record IsAnsweredAt (tapped : Tapped) (early : BothSent) (parts : List Part) : Type 0 where
  pub before : List Part
  pub first : List ℕ
  pub waited : List ℕ
  pub later : List Part
  pub all : parts ≡ before ++ (OfEnd Server first ∷ OfEnd Client waited ∷ later)
  pub none_of_server : text_of Server before ≡ []
  pub of_client : IsEndText Client tapped NotYet early.client (text_of Client before)
  pub is_first : IsResponseLine tapped early.server.bytes first
  pub has_waited : IsEndText Client tapped (After early true) early.client (text_of Client before ++ waited)

-- where the server switches, the parts stand in the order in which things came
abbrev pub AreInOrder : Tapped → Answered → List Part → Type 0
AreInOrder tapped NotYet parts = Unit {0}
AreInOrder tapped (After early true) parts = IsAnsweredAt tapped early parts
AreInOrder tapped (After early false) parts = Unit {0}

-- This text tells of both ends, of which just this was told: its parts are those of the text of the client and those of
-- the text of the server. What the lines of frames waited for is what the server has answered, and they stand where it
-- did.
pub record TellsOfBoth (tapped : Tapped) (told : List TapTold) (text : List ℕ) : Type 0 where
  pub answered : Answered
  pub parts : List Part
  pub has_answered : IsAnsweredIn told answered
  pub of_client : IsEndText Client tapped answered (sent_by Client told) (text_of Client parts)
  pub of_server : IsEndText Server tapped answered (sent_by Server told) (text_of Server parts)
  pub in_order : AreInOrder tapped answered parts
  pub all : text ≡ all_text parts

-- This text is a beginning of one that is due: of what was told, where of the bytes that came last perhaps only a
-- beginning counts.
pub record BeginsDue (tapped : Tapped) (told : List TapTold) (text : List ℕ) : Type 0 where
  pub front : List TapTold
  pub due : List ℕ
  pub more : List ℕ
  pub is_front : (front ≡ told) ⊎ IsCutFrom front told
  pub tells : TellsOfBoth tapped front due
  pub begins : due ≡ text ++ more
