-- Worked examples, each a theorem: first those of RFC 6455 sections 1.2 and 1.3.
use Rattle.std.specs.Prelude.{◌≡◌, ℕ, zero, suc, ◌≤◌, List, [], ◌∷◌, ◌++◌, true, false, Some, codes, slice_get, refl}
use Rattle.std.proofs.Common.{arith, inl, inr}
use Rattle.sha1.specs.Sha1.{sha1, digest_bytes, hash_after, compress, rounds, schedule, first_words}
use Rattle.base64.specs.Rfc4648.{encode_symbols}
use Rattle.httparse.specs.Grammar.{trim_ows}
use Rattle.ws_upgrade.specs.Accept.{key_of, accept_value_of}
use Rattle.ws_upgrade.specs.Members.{HeaderPairs, members_in, members_of, has_member}
use Rattle.ws_upgrade.specs.Heads.{RequestParts, IsRequestRefusal, IsResponseRefusal}
use Rattle.ws_upgrade.specs.Protocols.{protocols_in, AreOffers, IsChoice, NamesOffered}
use Rattle.ws_upgrade.specs.AddedHeaders.{is_kept_name}
use Rattle.ws_upgrade.specs.Texts.{request_text, request_text_for, request_bytes, response_text, response_bytes}
use Rattle.ws_upgrade.specs.Texts.{refusal_bytes}
use Rattle.ws_upgrade.specs.declared.faults.HeadFault.TheVariants.{Head, Method, Host, Connection, Status, WsVersion}

-- ---- the key and its accept value

abbrev pub sample_nonce : List ℕ
sample_nonce = codes "the sample nonce"

abbrev sample_key : List ℕ
sample_key = codes "dGhlIHNhbXBsZSBub25jZQ=="

abbrev pub sample_accept : List ℕ
sample_accept = codes "s3pPLMBiTxaQ9kYGzzhZRbK+xOo="

pub key_of_sample : key_of sample_nonce ≡ sample_key
unfolding encode_symbols
key_of_sample = refl

pub accept_value_of_sample : accept_value_of sample_key ≡ sample_accept
unfolding encode_symbols sha1 digest_bytes hash_after compress rounds schedule first_words
accept_value_of_sample = refl

-- ---- members

pub members_between_commas : members_in (codes "keep-alive,\t Upgrade ,, x y")
    ≡ codes "keep-alive" ∷ codes "Upgrade" ∷ codes "x y" ∷ []
unfolding trim_ows
members_between_commas = refl

pub no_member : members_in (codes " , \t,") ≡ []
unfolding trim_ows
no_member = refl

abbrev two_upgrades : HeaderPairs
two_upgrades = (codes "upgrade", codes "h2c") ∷ (codes "Host", codes "a") ∷ (codes "UPGRADE", codes "x, WebSocket") ∷ []

pub members_of_two_headers : members_of (codes "Upgrade") two_upgrades
    ≡ codes "h2c" ∷ codes "x" ∷ codes "WebSocket" ∷ []
unfolding trim_ows
members_of_two_headers = refl

pub member_without_case : has_member (codes "Upgrade") (codes "websocket") two_upgrades ≡ true
unfolding trim_ows
member_without_case = refl

pub no_member_that_only_begins_so : has_member (codes "Upgrade") (codes "web") two_upgrades ≡ false
unfolding trim_ows
no_member_that_only_begins_so = refl

-- ---- requests and responses

abbrev asked : List ℕ → List ℕ → HeaderPairs → RequestParts
asked method connection more = record {
  method = method;
  target = codes "/chat";
  minor = 1;
  headers =
      (codes "Host", codes "server.example.com") ∷ (codes "Upgrade", codes "websocket")
      ∷ (codes "Connection", connection) ∷ (codes "Sec-WebSocket-Key", sample_key)
      ∷ (codes "Sec-WebSocket-Version", codes "12") ∷ more;
}

-- the method comes before the version of the protocol
pub post_is_refused : IsRequestRefusal (asked (codes "POST") (codes "Upgrade") []) Method
post_is_refused = inl (refl, λ same. cc)

pub two_hosts_are_refused :
    IsRequestRefusal (asked (codes "GET") (codes "Upgrade") ((codes "hOST", codes "b") ∷ [])) Host
two_hosts_are_refused = inr (refl, inr (refl, inl (refl, λ (host, only). cc)))

pub keep_alive_is_refused : IsRequestRefusal (asked (codes "GET") (codes "keep-alive") []) Connection
unfolding trim_ows
keep_alive_is_refused =
    inr (refl, inr (refl, inr ((codes "server.example.com", refl), inr (refl, inl (refl, λ wrong. cc)))))

-- the status comes first
pub status_200_is_refused : IsResponseRefusal sample_nonce [] (record { minor = 0; status = 200; headers = [] }) Status
status_200_is_refused = inl (refl, λ same. omega arith)

-- ---- subprotocols

abbrev chat : List ℕ
chat = codes "chat"

abbrev superchat : List ℕ
superchat = codes "superchat"

pub protocols_of_two_headers :
    protocols_in ((codes "Sec-WebSocket-Protocol", codes "a,, superchat") ∷ (codes "sec-websocket-protocol", chat) ∷ [])
    ≡ codes "a" ∷ superchat ∷ chat ∷ []
unfolding trim_ows
protocols_of_two_headers = refl

differ : Some chat ≡ Some superchat → ⊥
differ same = cc

not_first : (other : ℕ) → slice_get (chat ∷ superchat ∷ []) other ≡ Some superchat → 1 ≤ other
not_first zero same = absurd (differ same)
not_first (suc other) same = omega arith

-- the client's order decides, not the server's
pub superchat_is_chosen : IsChoice (chat ∷ superchat ∷ []) (superchat ∷ chat ∷ []) (Some 1)
superchat_is_chosen = (
  [],
  superchat,
  chat ∷ [],
  refl,
  (λ k d below. absurd (omega (arith, below))),
  record { there = refl; least = not_first },
)

pub equal_names_are_no_offers : ¬ (AreOffers (chat ∷ chat ∷ []))
equal_names_are_no_offers offers = offers.distinct 0 1 [] (omega arith) (omega arith) refl

pub two_names_are_one_too_many : ¬ (NamesOffered (chat ∷ []) (chat ∷ chat ∷ []))
two_names_are_one_too_many (inl none) = cc
two_names_are_one_too_many (inr (name, only, offered)) = cc

pub another_name_was_not_offered : ¬ (NamesOffered (chat ∷ []) (superchat ∷ []))
another_name_was_not_offered (inl none) = cc
another_name_was_not_offered (inr (name, only, (zero, below, is))) = cc
another_name_was_not_offered (inr (name, only, (suc k, below, is))) = absurd (omega (arith, below))

-- ---- texts

pub request_of_sample : request_bytes (codes "server.example.com") (codes "/chat") sample_nonce
    ≡ codes "GET /chat HTTP/1.1\r\nHost: server.example.com\r\nUpgrade: websocket\r\nConnection: Upgrade\r\n"
    ++ codes "Sec-WebSocket-Key: dGhlIHNhbXBsZSBub25jZQ==\r\nSec-WebSocket-Version: 13\r\n\r\n"
unfolding encode_symbols
request_of_sample = refl

pub request_of_two_offers : request_text (codes "a") (codes "/") sample_key (superchat ∷ chat ∷ [])
    ≡ codes "GET / HTTP/1.1\r\nHost: a\r\nUpgrade: websocket\r\nConnection: Upgrade\r\n"
    ++ codes "Sec-WebSocket-Key: dGhlIHNhbXBsZSBub25jZQ==\r\nSec-WebSocket-Version: 13\r\n"
    ++ codes "Sec-WebSocket-Protocol: superchat, chat\r\n\r\n"
request_of_two_offers = refl

pub request_of_two_headers : request_text_for (codes "a") (codes "/?x=1+2") sample_key (chat ∷ [])
    ((codes "Origin", codes "http://b") ∷ (codes "X", []) ∷ [])
    ≡ codes "GET /?x=1+2 HTTP/1.1\r\nHost: a\r\nUpgrade: websocket\r\nConnection: Upgrade\r\n"
    ++ codes "Sec-WebSocket-Key: dGhlIHNhbXBsZSBub25jZQ==\r\nSec-WebSocket-Version: 13\r\n"
    ++ codes "Sec-WebSocket-Protocol: chat\r\nOrigin: http://b\r\nX: \r\n\r\n"
request_of_two_headers = refl

-- a name that is kept, in another case, and what begins like the protocol's own; and two that are not
pub host_in_lower_case_is_kept : is_kept_name (codes "host") ≡ true
host_in_lower_case_is_kept = refl

pub own_header_of_the_protocol_is_kept : is_kept_name (codes "SEC-websocket-x") ≡ true
own_header_of_the_protocol_is_kept = refl

pub longer_name_is_free : is_kept_name (codes "Hosts") ≡ false
longer_name_is_free = refl

pub shorter_front_is_free : is_kept_name (codes "Sec-WebSocket") ≡ false
shorter_front_is_free = refl

pub response_of_superchat : response_text sample_accept (Some superchat)
    ≡ codes "HTTP/1.1 101 Switching Protocols\r\nUpgrade: websocket\r\nConnection: Upgrade\r\n"
    ++ codes "Sec-WebSocket-Accept: s3pPLMBiTxaQ9kYGzzhZRbK+xOo=\r\nSec-WebSocket-Protocol: superchat\r\n\r\n"
response_of_superchat = refl

pub response_of_sample : response_bytes sample_accept
    ≡ codes "HTTP/1.1 101 Switching Protocols\r\nUpgrade: websocket\r\nConnection: Upgrade\r\n"
    ++ codes "Sec-WebSocket-Accept: s3pPLMBiTxaQ9kYGzzhZRbK+xOo=\r\n\r\n"
response_of_sample = refl

pub refusal_of_another_version : refusal_bytes WsVersion
    ≡ codes "HTTP/1.1 426 Upgrade Required\r\nUpgrade: websocket\r\nConnection: Upgrade, close\r\n"
    ++ codes "Sec-WebSocket-Version: 13\r\nContent-Length: 0\r\n\r\n"
refusal_of_another_version = refl

pub refusal_of_no_head : refusal_bytes Head
    ≡ codes "HTTP/1.1 400 Bad Request\r\nConnection: close\r\nContent-Length: 0\r\n\r\n"
refusal_of_no_head = refl
