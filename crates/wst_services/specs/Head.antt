-- A run of `head`.
use Rattle.std.specs.Prelude.{◌≡◌, ◌⊎◌, ℕ, List, Result, Ok, Err, MatchResult}
use Rattle.ws_frame.specs.Devices.{Device, IsUntouched}
use Rattle.ws_upgrade.specs.Protocols.{AreOffers, name_chosen}
use Rattle.ws_upgrade.specs.Texts.{refusal_bytes, response_text}
use Rattle.wst_words.specs.declared.head.HeadOptions.{HeadOptions}
use Rattle.wst_commands.specs.Devices.{Delivers}
use Rattle.ws_connection.specs.Protocols.{protocols_given}
use Rattle.ws_connection.specs.ReadingHeads.{ReadsHead}
use Rattle.ws_handshake.specs.Requests.{DecidesRequest, NeedsRequest}
use Rattle.wst_commands.specs.declared.exit.Exit.{Exit}
use Rattle.wst_commands.specs.declared.exit.Exit.TheVariants.{Done, Damaged, Failed}
use Rattle.wst_commands.specs.declared.fault.Fault.{Fault}
use Rattle.wst_commands.specs.declared.fault.Fault.TheVariants.{BadProtocols, HeadIsCut, NoMemory}
use Rattle.ws_connection.specs.declared.reading_head.HeadEnd.{HeadEnd}
use Rattle.ws_connection.specs.declared.reading_head.HeadEnd.TheVariants.{Decided, Cut, ReadFault}
use Rattle.ws_handshake.specs.declared.request_head.RequestDecision.{RequestDecision}
use Rattle.ws_handshake.specs.declared.request_head.RequestDecision.TheVariants.{Accepted, Refused}

-- a head that is accepted is answered by the response with its accept value and the name that was chosen among these,
-- unless memory ran out, and any other by its refusal
abbrev pub AnswersDecision : List (List ℕ) → RequestDecision → Result Exit Fault → Device → Type 0
AnswersDecision known (Accepted accept protocol used) ended output = MatchResult ended
    (λ exit. Delivers Done (response_text accept (name_chosen known protocol)) exit output)
    (λ fault. (fault ≡ NoMemory) × IsUntouched output)
AnswersDecision known (Refused fault) ended output =
    (exit : Exit) × (ended ≡ Ok exit) × Delivers Damaged (refusal_bytes fault) exit output

-- what is answered, by how the reading of the head ended
abbrev pub AnswersHead : List (List ℕ) → HeadEnd RequestDecision → Result Exit Fault → Device → Type 0
AnswersHead known (Decided decision) ended output = AnswersDecision known decision ended output
AnswersHead known Cut ended output = (ended ≡ Err HeadIsCut) × IsUntouched output
AnswersHead known ReadFault ended output = (ended ≡ Ok Failed) × IsUntouched output

-- some bytes were read as a head, and what was answered to them by an endpoint that knows these subprotocols
abbrev pub AnswersKnowing : List (List ℕ) → Result Exit Fault → Device → Device → Type 0
AnswersKnowing known ended input output = (end : HeadEnd RequestDecision) × (read : List ℕ)
    × ReadsHead (NeedsRequest known) (DecidesRequest known) end read input × AnswersHead known end ended output

-- no head is answered: the names that are given can't be offered, or memory ran out for them
abbrev pub AnswersNone : List (List ℕ) → Result Exit Fault → Type 0
AnswersNone names ended = ((ended ≡ Err BadProtocols) × ¬ (AreOffers names)) ⊎ (ended ≡ Err NoMemory)

-- a head was read and answered by an endpoint that knows the names that are given, which can be offered; or nothing was
-- read or written
abbrev pub RunsHead : HeadOptions → Result Exit Fault → Device → Device → Type 0
RunsHead options ended input output =
    (AreOffers (protocols_given options.protocols)
    × AnswersKnowing (protocols_given options.protocols) ended input output)
    ⊎ (AnswersNone (protocols_given options.protocols) ended × IsUntouched input × IsUntouched output)
