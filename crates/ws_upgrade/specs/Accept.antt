-- The key of a handshake and the value that accepts it: RFC 6455 sections 4.1 and 4.2.2.
use Rattle.std.specs.Prelude.{◌≡◌, ℕ, List, ◌++◌, length, codes}
use Rattle.sha1.specs.Sha1.{sha1}
use Rattle.base64.specs.Engines.{standard}
use Rattle.base64.specs.GeneralPurpose.{encode_of, IsBytes}

-- the text that the server appends to the key
abbrev pub accept_suffix : List ℕ
accept_suffix = codes "258EAFA5-E914-47DA-95CA-C5AB0DC85B11"

-- the base64 of the SHA-1 of the key's text and that suffix
abbrev pub accept_value_of : List ℕ → List ℕ
accept_value_of key = encode_of standard (sha1 (key ++ accept_suffix))

-- the key for a nonce: its base64
abbrev pub key_of : List ℕ → List ℕ
key_of nonce = encode_of standard nonce

-- a right key: that of some 16 bytes
abbrev pub IsHandshakeKey : List ℕ → Type 0
IsHandshakeKey key = (nonce : List ℕ) × IsBytes nonce × (length nonce ≡ 16) × (key ≡ key_of nonce)
