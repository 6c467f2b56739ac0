-- Which heads open a connection, and which refusal the others get: RFC 6455 sections 4.1 and 4.2.1.
use Rattle.std.specs.Prelude.{◌≡◌, ℕ, List, [], ◌∷◌, map, codes, IsTrue, ⊤, ◌⊎◌}
use Rattle.httparse.specs.Grammar.{RequestHead, ResponseHead, status_code}
use Rattle.httparse.specs.Spans.{name_and_value}
use Rattle.ws_upgrade.specs.Accept.{IsHandshakeKey, key_of, accept_value_of}
use Rattle.ws_upgrade.specs.Members.{HeaderPairs, IsOnlyValue, members_of, has_member}
use Rattle.ws_upgrade.specs.Protocols.{protocols_in, NamesOffered}
use Rattle.ws_upgrade.specs.declared.faults.HeadFault.{HeadFault}
use Rattle.ws_upgrade.specs.declared.faults.HeadFault.TheVariants.{Method, Version, Host, Upgrade, Connection}
use Rattle.ws_upgrade.specs.declared.faults.HeadFault.TheVariants.{Key, WsVersion, Status, Accept, Extension, Protocol}

-- ---- the first rule that a head breaks

-- rules in the order in which they are checked: what each asks, after the refusal of a head that breaks it
abbrev pub HeadRules : Type 1
HeadRules = List (HeadFault × Type 0)

-- this is the refusal of the first rule that is broken
abbrev pub IsFirstBroken : HeadRules → HeadFault → Type 0
IsFirstBroken [] fault = ⊥
IsFirstBroken (rule ∷ others) fault = ((fault ≡ rule.0) × ¬ rule.1) ⊎ (rule.1 × IsFirstBroken others fault)

-- no rule is broken
abbrev pub AreKept : HeadRules → Type 0
AreKept [] = ⊤
AreKept (rule ∷ others) = rule.1 × AreKept others

-- ---- requests

-- a request as the rules see it; the version is HTTP/1.minor
pub record RequestParts : Type 0 where
  pub method : List ℕ
  pub target : List ℕ
  pub minor : ℕ
  pub headers : HeaderPairs

abbrev pub request_parts : RequestHead → RequestParts
request_parts head = record {
  method = head.method;
  target = head.target;
  minor = head.minor;
  headers = map name_and_value head.fields;
}

-- exactly one key stands in these headers, and it is a right one
abbrev pub IsOnlyKey : HeaderPairs → List ℕ → Type 0
IsOnlyKey headers key = IsOnlyValue (codes "Sec-WebSocket-Key") headers key × IsHandshakeKey key

-- what section 4.2.1 asks of a request; the order is ours
abbrev pub request_rules : RequestParts → HeadRules
request_rules request =
    (Method, request.method ≡ codes "GET")
    ∷ (Version, request.minor ≡ 1)
    ∷ (Host, (host : List ℕ) × IsOnlyValue (codes "Host") request.headers host)
    ∷ (Upgrade, IsTrue (has_member (codes "Upgrade") (codes "websocket") request.headers))
    ∷ (Connection, IsTrue (has_member (codes "Connection") (codes "upgrade") request.headers))
    ∷ (Key, (key : List ℕ) × IsOnlyKey request.headers key)
    ∷ (WsVersion, IsOnlyValue (codes "Sec-WebSocket-Version") request.headers (codes "13"))
    ∷ []

-- the request is refused with this fault
abbrev pub IsRequestRefusal : RequestParts → HeadFault → Type 0
IsRequestRefusal request fault = IsFirstBroken (request_rules request) fault

-- the request is accepted
abbrev pub IsAcceptedRequest : RequestParts → Type 0
IsAcceptedRequest request = AreKept (request_rules request)

-- ---- responses

-- a response as the rules see it
pub record ResponseParts : Type 0 where
  pub minor : ℕ
  pub status : ℕ
  pub headers : HeaderPairs

abbrev pub response_parts : ResponseHead → ResponseParts
response_parts head = record { minor = head.minor; status = status_code head; headers = map name_and_value head.fields }

-- what section 4.1 asks of the response to a request with this nonce and these subprotocols offered; the order is ours
abbrev pub response_rules : List ℕ → List (List ℕ) → ResponseParts → HeadRules
response_rules nonce offers response =
    (Status, response.status ≡ 101)
    ∷ (Version, response.minor ≡ 1)
    ∷ (Upgrade, IsTrue (has_member (codes "Upgrade") (codes "websocket") response.headers))
    ∷ (Connection, IsTrue (has_member (codes "Connection") (codes "upgrade") response.headers))
    ∷ (Accept, IsOnlyValue (codes "Sec-WebSocket-Accept") response.headers (accept_value_of (key_of nonce)))
    ∷ (Extension, members_of (codes "Sec-WebSocket-Extensions") response.headers ≡ [])
    ∷ (Protocol, NamesOffered offers (protocols_in response.headers))
    ∷ []

-- the response is refused with this fault
abbrev pub IsResponseRefusal : List ℕ → List (List ℕ) → ResponseParts → HeadFault → Type 0
IsResponseRefusal nonce offers response fault = IsFirstBroken (response_rules nonce offers response) fault

-- the response is accepted
abbrev pub IsAcceptedResponse : List ℕ → List (List ℕ) → ResponseParts → Type 0
IsAcceptedResponse nonce offers response = AreKept (response_rules nonce offers response)
