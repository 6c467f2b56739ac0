-- The head with which a direction begins (RFC 6455 section 4). What a head is, is the grammar of `httparse` alone.
use Rattle.std.specs.Prelude.{◌≡◌, ℕ, ◌≤◌, List, length, take, drop, Some, None}
use Rattle.httparse.specs.Grammar.{RequestHead, ResponseHead, print_request, print_response, ReadsRequest}
use Rattle.httparse.specs.Grammar.{ReadsResponse}
use Rattle.httparse.specs.Grammar.{status_code}
use Rattle.ws_wire.specs.declared.role.Role.{Role}
use Rattle.ws_wire.specs.declared.role.Role.TheVariants.{Client, Server}
use Rattle.ws_tap.specs.declared.heads.Head.{Head}

-- a head is looked for in so many bytes, our choice
abbrev pub head_limit : ℕ
head_limit = 8192

-- and has at most so many headers, our choice
abbrev pub header_limit : ℕ
header_limit = 64

-- the bytes in which a head is looked for
abbrev pub head_front : List ℕ → List ℕ
head_front bytes = take head_limit bytes

-- a request is the first so many bytes
pub record HasRequest (bytes : List ℕ) (len : ℕ) : Type 0 where
  pub head : RequestHead
  pub reads : ReadsRequest (head_front bytes) head (drop len (head_front bytes))
  pub whole : len ≡ length (print_request head)
  pub headers : length head.fields ≤ header_limit

-- a response with this status is
pub record HasResponse (bytes : List ℕ) (len status : ℕ) : Type 0 where
  pub head : ResponseHead
  pub reads : ReadsResponse (head_front bytes) head (drop len (head_front bytes))
  pub whole : len ≡ length (print_response head)
  pub headers : length head.fields ≤ header_limit
  pub status_is : status ≡ status_code head

-- an end that sends these bytes begins with this head: a client with a request, a server with a response
abbrev pub HasHead : Role → List ℕ → Head → Type 0
HasHead Client bytes head = HasRequest bytes head.len × (head.status ≡ None)
HasHead Server bytes head = (status : ℕ) × HasResponse bytes head.len status × (head.status ≡ Some status)

-- it has not sent one whole
abbrev pub HasNoHead : Role → List ℕ → Type 0
HasNoHead role bytes = (head : Head) → HasHead role bytes head → ⊥
