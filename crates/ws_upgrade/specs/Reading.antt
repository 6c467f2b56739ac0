-- What is answered to bytes at whose front a head may stand: a request's or a response's. What a head is is the grammar
-- of `httparse` alone: the one of RFC 9112 sections 2 to 5.
use Rattle.std.specs.Prelude.{◌≡◌, ℕ, ◌<◌, ◌≤◌, List, length, take, drop, codes, ◌⊎◌, Option, Some, None, IfSome}
use Rattle.httparse.specs.Grammar.{RequestHead, ResponseHead, print_request, print_response, ReadsRequest}
use Rattle.httparse.specs.Grammar.{status_code}
use Rattle.httparse.specs.Grammar.{ReadsResponse, HasNoRequest, HasNoResponse, NeverHasRequest, NeverHasResponse}
use Rattle.httparse.specs.Grammar.{MayBecomeRequest, MayBecomeResponse}
use Rattle.httparse.specs.Spans.{RequestExceeds, ResponseExceeds}
use Rattle.ws_upgrade.specs.Accept.{accept_value_of}
use Rattle.ws_upgrade.specs.Members.{IsOnlyValue}
use Rattle.ws_upgrade.specs.Protocols.{protocols_in, IsChoice}
use Rattle.ws_upgrade.specs.Heads.{RequestParts, ResponseParts, request_parts, response_parts, IsOnlyKey}
use Rattle.ws_upgrade.specs.Heads.{IsRequestRefusal, IsAcceptedRequest, IsResponseRefusal, IsAcceptedResponse}
use Rattle.ws_upgrade.specs.declared.faults.HeadFault.{HeadFault}
use Rattle.ws_upgrade.specs.declared.faults.HeadFault.TheVariants as fault
use Rattle.ws_upgrade.specs.declared.requests.Upgrade.{Upgrade}
use Rattle.ws_upgrade.specs.declared.requests.RequestRead.{RequestRead}
use Rattle.ws_upgrade.specs.declared.requests.RequestRead.TheVariants as request_answer
use Rattle.ws_upgrade.specs.declared.responses.ResponseRead.{ResponseRead}
use Rattle.ws_upgrade.specs.declared.responses.ResponseRead.TheVariants as response_answer

-- a head is looked for in so many bytes, our choice
abbrev pub max_head : ℕ
max_head = 8192

-- and has at most so many headers, our choice
abbrev pub max_headers : ℕ
max_headers = 64

-- the bytes in which a head is looked for
abbrev pub head_part : List ℕ → List ℕ
head_part bytes = take max_head bytes

-- ---- any head

-- A kind of heads. Of bytes in which one is looked for the grammar says the first four words; of a head the rules of
-- RFC 6455 say the last two. Out of a head that is accepted something of the type `Opened` is handed out.
pub record HeadKind (Head Opened : Type 0) : Type 1 where
  -- this head is the first so many bytes, whole and with no more headers than the limit
  pub Begins : List ℕ → Head → ℕ → Type 0
  -- no front of the bytes is a head, and some bytes after them could make one, or a request ends inside its target
  pub IsUnfinished : List ℕ → Type 0
  -- no bytes after them could make one
  pub NeverHas : List ℕ → Type 0
  -- they have more headers than the limit
  pub HasTooMany : List ℕ → Type 0
  -- the head breaks no rule, and this is handed out
  pub Opens : Head → Opened → Type 0
  -- the head is refused with this fault, that of the first rule that it breaks
  pub IsRefusal : Head → HeadFault → Type 0

-- what was read: more bytes are needed; a head is accepted, with what is handed out and its length; or a refusal
pub data HeadRead (Opened : Type 0) : Type 0 where
  Need : HeadRead Opened
  Got : Opened → ℕ → HeadRead Opened
  Refused : HeadFault → HeadRead Opened

-- What each answer says of the bytes. `Need`: they are fewer than the limit, and unfinished. `Got`: they begin with a
-- head of this length, which is accepted. `Head`: nothing can make them a head. `TooLarge`: they have too many headers,
-- or are as many as the limit or more, and unfinished. Any other refusal: they begin with a head that is refused so.
abbrev pub IsHeadRead : {Head Opened : Type 0} → HeadKind Head Opened → List ℕ → HeadRead Opened → Type 0
IsHeadRead kind bytes Need = (length bytes < max_head) × kind.IsUnfinished (head_part bytes)
IsHeadRead {Head} kind bytes (Got opened used) =
    (head : Head) × kind.Begins (head_part bytes) head used × kind.Opens head opened
IsHeadRead kind bytes (Refused fault.Head) = kind.NeverHas (head_part bytes)
IsHeadRead kind bytes (Refused fault.TooLarge) =
    kind.HasTooMany (head_part bytes) ⊎ ((max_head ≤ length bytes) × kind.IsUnfinished (head_part bytes))
IsHeadRead {Head} kind bytes (Refused other) =
    (head : Head) × (len : ℕ) × kind.Begins (head_part bytes) head len × kind.IsRefusal head other

-- what is answered to a head of this length: it is accepted or refused, and never that more bytes are needed
abbrev pub ChecksHead : {Head Opened : Type 0} → HeadKind Head Opened → Head → ℕ → HeadRead Opened → Type 0
ChecksHead kind head len Need = ⊥
ChecksHead kind head len (Got opened used) = (used ≡ len) × kind.Opens head opened
ChecksHead kind head len (Refused other) = kind.IsRefusal head other

-- each head with which the bytes begin is answered so
abbrev pub ChecksEachHead : {Head Opened : Type 0} → HeadKind Head Opened → List ℕ → HeadRead Opened → Type 0
ChecksEachHead {Head} kind bytes read =
    (head : Head) (len : ℕ) → kind.Begins (head_part bytes) head len → ChecksHead kind head len read

-- the length of the head that is accepted, if one is
abbrev pub accepted_length : {Opened : Type 0} → HeadRead Opened → Option ℕ
accepted_length Need = None
accepted_length (Got opened used) = Some used
accepted_length (Refused other) = None

-- a head that is accepted is among the bytes
abbrev pub HoldsHead : {Opened : Type 0} → List ℕ → HeadRead Opened → Type 0
HoldsHead bytes read = IfSome (accepted_length read) (λ used. used ≤ length bytes)

-- ---- requests

-- this request is the first so many bytes, whole and with no more headers than the limit
pub record BeginsWithRequest (bytes : List ℕ) (head : RequestHead) (len : ℕ) : Type 0 where
  pub reads : ReadsRequest bytes head (drop len bytes)
  pub whole : len ≡ length (print_request head)
  pub headers : length head.fields ≤ max_headers

-- the request is accepted by an endpoint that knows these subprotocols, and this is handed out
pub record OpensRequest (known : List (List ℕ)) (request : RequestParts) (upgrade : Upgrade) : Type 0 where
  pub accepted : IsAcceptedRequest request
  pub host : IsOnlyValue (codes "Host") request.headers upgrade.host.now
  pub path : upgrade.path.now ≡ request.target
  pub accept : (key : List ℕ) × IsOnlyKey request.headers key × (upgrade.accept ≡ accept_value_of key)
  pub protocol : IsChoice known (protocols_in request.headers) upgrade.protocol

-- requests, as an endpoint that knows these subprotocols reads them
abbrev pub request_heads : List (List ℕ) → HeadKind RequestHead Upgrade
request_heads known = record {
  Begins = BeginsWithRequest;
  IsUnfinished = λ bytes. HasNoRequest bytes × MayBecomeRequest bytes;
  NeverHas = NeverHasRequest;
  HasTooMany = RequestExceeds max_headers;
  Opens = λ head upgrade. OpensRequest known (request_parts head) upgrade;
  IsRefusal = λ head other. IsRequestRefusal (request_parts head) other;
}

-- the answer about a request, as one about any head
abbrev pub request_read : RequestRead → HeadRead Upgrade
request_read request_answer.Need = Need
request_read (request_answer.Got upgrade used) = Got upgrade used
request_read (request_answer.Refused other) = Refused other

-- what an endpoint that knows these subprotocols answers to some bytes
abbrev pub IsRequestRead : List (List ℕ) → List ℕ → RequestRead → Type 0
IsRequestRead known bytes read = IsHeadRead (request_heads known) bytes (request_read read)

-- each request that stands at the front is accepted with its parts, or refused with the first rule that it breaks
abbrev pub ChecksEachRequest : List (List ℕ) → List ℕ → RequestRead → Type 0
ChecksEachRequest known bytes read = ChecksEachHead (request_heads known) bytes (request_read read)

-- a request that is accepted is among the bytes
abbrev pub HoldsRequest : List ℕ → RequestRead → Type 0
HoldsRequest bytes read = HoldsHead bytes (request_read read)

-- ---- responses

-- this response is the first so many bytes, whole and with no more headers than the limit
pub record BeginsWithResponse (bytes : List ℕ) (head : ResponseHead) (len : ℕ) : Type 0 where
  pub reads : ReadsResponse bytes head (drop len bytes)
  pub whole : len ≡ length (print_response head)
  pub headers : length head.fields ≤ max_headers

-- the response is accepted, and this place among the offers is handed out
pub record OpensResponse (nonce : List ℕ) (offers : List (List ℕ)) (response : ResponseParts)
    (protocol : Option ℕ) : Type 0 where
  pub accepted : IsAcceptedResponse nonce offers response
  pub choice : IsChoice offers (protocols_in response.headers) protocol

-- responses, as an endpoint that asked with this nonce and these offers reads them
abbrev pub response_heads : List ℕ → List (List ℕ) → HeadKind ResponseHead (Option ℕ)
response_heads nonce offers = record {
  Begins = BeginsWithResponse;
  IsUnfinished = λ bytes. HasNoResponse bytes × MayBecomeResponse bytes;
  NeverHas = NeverHasResponse;
  HasTooMany = ResponseExceeds max_headers;
  Opens = λ head protocol. OpensResponse nonce offers (response_parts head) protocol;
  IsRefusal = λ head other. IsResponseRefusal nonce offers (response_parts head) other;
}

-- the answer about a response, as one about any head
abbrev pub response_read : ResponseRead → HeadRead (Option ℕ)
response_read response_answer.Need = Need
response_read (response_answer.Got used protocol) = Got protocol used
response_read (response_answer.Refused other) = Refused other

-- what an endpoint that asked with this nonce and these offers answers to some bytes
abbrev pub IsResponseRead : List ℕ → List (List ℕ) → List ℕ → ResponseRead → Type 0
IsResponseRead nonce offers bytes read = IsHeadRead (response_heads nonce offers) bytes (response_read read)

-- each response that stands at the front is accepted, or refused with the first rule that it breaks
abbrev pub ChecksEachResponse : List ℕ → List (List ℕ) → List ℕ → ResponseRead → Type 0
ChecksEachResponse nonce offers bytes read = ChecksEachHead (response_heads nonce offers) bytes (response_read read)

-- a response that is accepted is among the bytes
abbrev pub HoldsResponse : List ℕ → ResponseRead → Type 0
HoldsResponse bytes read = HoldsHead bytes (response_read read)

-- a response stands at the front, and has this status
abbrev pub HasStatusCode : List ℕ → ℕ → Type 0
HasStatusCode bytes status = (head : ResponseHead) × (len : ℕ) × BeginsWithResponse (head_part bytes) head len
    × (status ≡ status_code head)

-- none stands there
abbrev pub LacksStatusCode : List ℕ → Type 0
LacksStatusCode bytes = (head : ResponseHead) (len : ℕ) → BeginsWithResponse (head_part bytes) head len → ⊥
