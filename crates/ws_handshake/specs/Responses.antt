-- What the head of a response decides (RFC 6455 section 4.1).
use Rattle.std.specs.Prelude.{ℕ, ◌≤◌, List, length}
use Rattle.ws_upgrade.specs.Reading.{IsResponseRead, ChecksEachResponse}
use Rattle.ws_upgrade.specs.declared.responses.ResponseRead.{ResponseRead}
use Rattle.ws_upgrade.specs.declared.responses.ResponseRead.TheVariants as read
use Rattle.ws_handshake.specs.declared.response_head.ResponseDecision.{ResponseDecision}
use Rattle.ws_handshake.specs.declared.response_head.ResponseDecision.TheVariants.{Accepted, Refused}

-- this is an answer to these bytes as a response to a request with this nonce, which offers these subprotocols
abbrev pub IsResponseAnswer : List ℕ → List (List ℕ) → List ℕ → ResponseRead → Type 0
IsResponseAnswer nonce offers bytes answer =
    IsResponseRead nonce offers bytes answer × ChecksEachResponse nonce offers bytes answer

-- these bytes need more to be a response
abbrev pub NeedsResponse : List ℕ → List (List ℕ) → List ℕ → Type 0
NeedsResponse nonce offers bytes = IsResponseAnswer nonce offers bytes read.Need

-- these bytes decide so: they are accepted with this length of the head and this subprotocol, or refused
abbrev pub DecidesResponse : List ℕ → List (List ℕ) → List ℕ → ResponseDecision → Type 0
DecidesResponse nonce offers bytes (Accepted used protocol) =
    IsResponseAnswer nonce offers bytes (read.Got used protocol) × (used ≤ length bytes)
DecidesResponse nonce offers bytes (Refused fault) = IsResponseAnswer nonce offers bytes (read.Refused fault)
