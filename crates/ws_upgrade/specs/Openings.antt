-- A response, by the bytes of its request: RFC 6455 section 4.1.
use Rattle.std.specs.Prelude.{◌≡◌, ℕ, List, length}
use Rattle.httparse.specs.Grammar.{RequestHead}
use Rattle.base64.specs.GeneralPurpose.{IsBytes}
use Rattle.ws_upgrade.specs.Accept.{key_of}
use Rattle.ws_upgrade.specs.Heads.{IsOnlyKey, request_parts}
use Rattle.ws_upgrade.specs.Protocols.{protocols_in}
use Rattle.ws_upgrade.specs.Reading.{BeginsWithRequest, IsResponseRead, head_part}
use Rattle.ws_upgrade.specs.declared.responses.ResponseRead.{ResponseRead}

-- this request stands at the front of the bytes, and its only key is the base64 of this nonce
pub record AsksWith (bytes : List ℕ) (head : RequestHead) (len : ℕ) (nonce : List ℕ) : Type 0 where
  pub begins : BeginsWithRequest (head_part bytes) head len
  pub are_bytes : IsBytes nonce
  pub sixteen : length nonce ≡ 16
  pub key : IsOnlyKey (request_parts head).headers (key_of nonce)

-- what is answered to the bytes of a response by an endpoint that sent such a request: with its nonce, and the
-- subprotocols that it offered
abbrev pub IsResponseTo : List ℕ → List ℕ → ResponseRead → Type 0
IsResponseTo request response read = (head : RequestHead) × (len : ℕ) × (nonce : List ℕ)
    × AsksWith request head len nonce
    × IsResponseRead nonce (protocols_in (request_parts head).headers) response read
