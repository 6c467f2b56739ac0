-- A followed connection as a capture, as the tester would have written it whose tested end is the judged one.
use Rattle.std.specs.Prelude.{◌≡◌, ◌⊎◌, ℕ, ◌+◌, ⊤, All, List, [], drop, Option, Some, None}
use Rattle.ws_wire.specs.declared.role.Role.{Role}
use Rattle.ws_wire.specs.declared.role.Role.TheVariants.{Client, Server}
use Rattle.std.specs.List.{AllByRecursion}
use Rattle.ws_formats.specs.Lines.{IsDamagedAt, IsLine, IsTextOfLines, ended}
use Rattle.ws_scripts.specs.declared.capture.Capture.{Capture}
use Rattle.ws_scripts.specs.declared.transcript.Turn.{Turn}
use Rattle.ws_scripts.specs.declared.transcript.Ended.{Ended}
use Rattle.ws_scripts.specs.declared.transcript.Ended.TheVariants.{Peer, Broken}
use Rattle.ws_upgrade.specs.declared.faults.HeadFault.{HeadFault}
use Rattle.ws_upgrade.specs.declared.requests.RequestRead.{RequestRead}
use Rattle.ws_upgrade.specs.declared.requests.RequestRead.TheVariants as request
use Rattle.ws_upgrade.specs.declared.responses.ResponseRead.{ResponseRead}
use Rattle.ws_upgrade.specs.declared.responses.ResponseRead.TheVariants as response
use Rattle.ws_upgrade.specs.declared.requests.Upgrade.{Upgrade}
use Rattle.ws_upgrade.specs.Reading.{IsRequestRead}
use Rattle.ws_upgrade.specs.Openings.{IsResponseTo}
use Rattle.ws_followed.specs.declared.conversion.FollowedFault.{FollowedFault}
use Rattle.ws_followed.specs.declared.conversion.FollowedFault.TheVariants.{Damaged, Missing, NoRequest, Response}
use Rattle.ws_followed.specs.declared.conversion.FollowedFault.TheVariants.{CutResponse, NoMemory}
use Rattle.ws_followed.specs.declared.segment.Node.{Node}
use Rattle.ws_followed.specs.declared.segment.Node.TheVariants.{Zero, One}
use Rattle.ws_followed.specs.declared.segment.Segment.{Segment}
use Rattle.ws_followed.specs.Closes.{HoldsClose}
use Rattle.ws_followed.specs.Followed.{AreFollowedLines}
use Rattle.ws_followed.specs.Gaps.{IsFirstGap, IsNoGap, lines_before}
use Rattle.ws_followed.specs.Turns.{bytes_from, turns_behind}

-- ---- the two ends

abbrev pub other_node : Node → Node
other_node Zero = One
other_node One = Zero

-- the end that is judged, where this one is the client
abbrev pub judged_node : Role → Node → Node
judged_node Client client = client
judged_node Server client = other_node client

-- ---- heads

-- what an end sent begins with a request that is accepted, of this length
abbrev pub BeginsWithOpening : Node → List Segment → ℕ → Type 0
BeginsWithOpening node segments len =
    (upgrade : Upgrade) × IsRequestRead [] (bytes_from node segments) (request.Got upgrade len)

-- what the other end sent is so read as a response to it
abbrev pub HasResponseRead : Node → List Segment → ResponseRead → Type 0
HasResponseRead client segments read =
    IsResponseTo (bytes_from client segments) (bytes_from (other_node client) segments) read

-- the response is accepted, and has this length
abbrev pub HasAcceptedResponse : Node → List Segment → ℕ → Type 0
HasAcceptedResponse client segments len =
    (protocol : Option ℕ) × HasResponseRead client segments (response.Got len protocol)

-- this end is the client, and the heads have these lengths
pub record OpensAs (segments : List Segment) (client : Node) (to_server from_server : ℕ) : Type 0 where
  pub request : BeginsWithOpening client segments to_server
  pub answer : HasAcceptedResponse client segments from_server

-- ---- captures

-- what both ends sent behind their heads holds a close frame
abbrev pub BothHoldClose : List Segment → Node → ℕ → ℕ → Type 0
BothHoldClose segments client to_server from_server = HoldsClose (drop to_server (bytes_from client segments))
    × HoldsClose (drop from_server (bytes_from (other_node client) segments))

-- the capture may have been cut off: who ended the connection is known only where both ends closed it
abbrev pub EndsFollowed : Type 0 → Ended → Type 0
EndsFollowed Closed ended = (Closed × (ended ≡ Peer)) ⊎ ((Closed → ⊥) × (ended ≡ Broken))

-- the turns of the judged end, whose heads have these lengths
abbrev pub judged_turns : Role → Node → ℕ → ℕ → List Segment → List Turn
judged_turns Server client to_server from_server segments =
    turns_behind (other_node client) to_server from_server segments
judged_turns Client client to_server from_server segments = turns_behind client from_server to_server segments

-- the capture of a followed connection
pub record IsFollowedCapture (judged : Role) (segments : List Segment) (capture : Capture) : Type 0 where
  pub client : Node
  pub to_server : ℕ
  pub from_server : ℕ
  pub heads : OpensAs segments client to_server from_server
  pub key : capture.key ≡ None
  pub turns : capture.transcript.turns ≡ judged_turns judged client to_server from_server segments
  pub ended : EndsFollowed (BothHoldClose segments client to_server from_server) capture.transcript.ended

-- ---- what is wrong

-- the text is a followed stream with these segments
abbrev pub IsFollowedText : List Segment → List ℕ → Type 0
IsFollowedText segments text = IsTextOfLines AreFollowedLines segments text

-- a line of its segments, with this number, counted from 1, stands for missing bytes, and none before it does
pub record MissesBytes (text : List ℕ) (number : ℕ) : Type 0 where
  pub segments : List Segment
  pub lines : List (List ℕ)
  pub are_lines : AllByRecursion IsLine lines
  pub told : AreFollowedLines segments lines
  pub is_text : text ≡ ended lines
  pub at : ℕ
  pub first : IsFirstGap segments at
  pub number_is : number ≡ lines_before lines + at + 1

-- no bytes are missing
abbrev pub IsWholeText : List Segment → List ℕ → Type 0
IsWholeText segments text = IsFollowedText segments text × All IsNoGap segments

-- what a fault says of segments in which no bytes are missing
abbrev pub LacksHeads : List Segment → FollowedFault → Type 0
LacksHeads segments (Damaged number) = ⊥
LacksHeads segments (Missing number) = ⊥
LacksHeads segments NoRequest = (node : Node) (len : ℕ) → BeginsWithOpening node segments len → ⊥
LacksHeads segments CutResponse = (client : Node) × (len : ℕ) × BeginsWithOpening client segments len
    × HasResponseRead client segments response.Need
LacksHeads segments (Response fault) = (client : Node) × (len : ℕ) × BeginsWithOpening client segments len
    × HasResponseRead client segments (response.Refused fault)
LacksHeads segments NoMemory = ⊤

-- what each fault says of a text
abbrev pub HasFollowedFault : List ℕ → FollowedFault → Type 0
HasFollowedFault text (Damaged number) = IsDamagedAt IsFollowedText number text
HasFollowedFault text (Missing number) = MissesBytes text number
HasFollowedFault text NoMemory = ⊤
HasFollowedFault text fault = (segments : List Segment) × IsWholeText segments text × LacksHeads segments fault
