-- What the head of a request decides (RFC 6455 section 4.2.1).
use Rattle.std.specs.Prelude.{◌≡◌, ℕ, ◌≤◌, List, length}
use Rattle.ws_upgrade.specs.Reading.{IsRequestRead, ChecksEachRequest}
use Rattle.ws_upgrade.specs.declared.requests.Upgrade.{Upgrade}
use Rattle.ws_upgrade.specs.declared.requests.RequestRead.{RequestRead}
use Rattle.ws_upgrade.specs.declared.requests.RequestRead.TheVariants as read
use Rattle.ws_handshake.specs.declared.request_head.RequestDecision.{RequestDecision}
use Rattle.ws_handshake.specs.declared.request_head.RequestDecision.TheVariants.{Accepted, Refused}

-- this is an answer to these bytes as a request, by an endpoint that knows these subprotocols
abbrev pub IsAnswer : List (List ℕ) → List ℕ → RequestRead → Type 0
IsAnswer known bytes answer = IsRequestRead known bytes answer × ChecksEachRequest known bytes answer

-- these bytes need more to be a request
abbrev pub NeedsRequest : List (List ℕ) → List ℕ → Type 0
NeedsRequest known bytes = IsAnswer known bytes read.Need

-- these bytes decide so: they are accepted with this accept value, this choice among the subprotocols and this length
-- of the head, or refused
abbrev pub DecidesRequest : List (List ℕ) → List ℕ → RequestDecision → Type 0
DecidesRequest known bytes (Accepted accept protocol used) =
    (upgrade : Upgrade) × (accept ≡ upgrade.accept) × (protocol ≡ upgrade.protocol)
    × IsAnswer known bytes (read.Got upgrade used) × (used ≤ length bytes)
DecidesRequest known bytes (Refused fault) = IsAnswer known bytes (read.Refused fault)
