-- The heads that are written: RFC 6455 sections 4.1, 4.2.2 and 4.4.
use Rattle.std.specs.Prelude.{◌≡◌, ℕ, ◌≤◌, List, [], ◌∷◌, ◌++◌, length, map, codes, ◌==◌, not, All, IsTrue, slice_get}
use Rattle.std.specs.Prelude.{Option, Some, None}
use Rattle.std.specs.List.{flat_map, list_any, join_by}
use Rattle.ws_upgrade.specs.Accept.{key_of}
use Rattle.ws_upgrade.specs.Members.{HeaderPairs}
use Rattle.ws_upgrade.specs.declared.faults.HeadFault.{HeadFault}
use Rattle.ws_upgrade.specs.declared.faults.HeadFault.TheVariants.{WsVersion}

-- a line end: CR LF
abbrev pub line_end : List ℕ
line_end = 13 ∷ 10 ∷ []

-- the bytes of these lines, each with its line end
abbrev pub lines_bytes : List (List ℕ) → List ℕ
lines_bytes lines = flat_map (λ line. line ++ line_end) lines

-- the bytes of a head of these lines, with an empty line after them
abbrev pub head_bytes : List (List ℕ) → List ℕ
head_bytes lines = lines_bytes lines ++ line_end

-- the first line of a request for this path
abbrev pub request_line : List ℕ → List ℕ
request_line path = codes "GET " ++ path ++ codes " HTTP/1.1"

-- the line of a header
abbrev pub header_line : List ℕ → List ℕ → List ℕ
header_line name value = name ++ codes ": " ++ value

-- ---- what a client asks

-- a host that can be asked for, our choice: 1 to 255 visible ASCII characters
abbrev pub IsHost : List ℕ → Type 0
IsHost host = (1 ≤ length host) × (length host ≤ 255) × All (λ byte. (0x21 ≤ byte) × (byte ≤ 0x7e)) host

-- the ten visible ASCII characters that no path has: " and \, and # < > ^ ` { | }
abbrev pub no_path_bytes : List ℕ
no_path_bytes = 34 ∷ 92 ∷ codes "#<>^`{|}"

-- a byte of a path: a visible ASCII character but those
abbrev pub IsPathByte : ℕ → Type 0
IsPathByte byte =
    (0x21 ≤ byte) × (byte ≤ 0x7e) × IsTrue (not (list_any (λ other. other == byte) no_path_bytes))

abbrev pub slash : ℕ
slash = 47

-- a path that can be asked for, our choice: a slash first, and at most 2048 bytes
abbrev pub IsPath : List ℕ → Type 0
IsPath path = (slice_get path 0 ≡ Some slash) × (length path ≤ 2048) × All IsPathByte path

-- the line that names these subprotocols, where there are any (section 11.3.4)
abbrev pub protocol_lines : List (List ℕ) → List (List ℕ)
protocol_lines [] = []
protocol_lines (first ∷ others) =
    header_line (codes "Sec-WebSocket-Protocol") (join_by (λ name. name) (codes ", ") (first ∷ others)) ∷ []

-- the request of a client with this key, these subprotocols offered and these headers added, in their order (section
-- 4.1)
abbrev pub request_text_for : List ℕ → List ℕ → List ℕ → List (List ℕ) → HeaderPairs → List ℕ
request_text_for host path key offers headers = head_bytes (
    request_line path
    ∷ header_line (codes "Host") host
    ∷ header_line (codes "Upgrade") (codes "websocket")
    ∷ header_line (codes "Connection") (codes "Upgrade")
    ∷ header_line (codes "Sec-WebSocket-Key") key
    ∷ header_line (codes "Sec-WebSocket-Version") (codes "13")
    ∷ protocol_lines offers ++ map (λ header. header_line header.0 header.1) headers)

-- the request to which no header is added
abbrev pub request_text : List ℕ → List ℕ → List ℕ → List (List ℕ) → List ℕ
request_text host path key offers = request_text_for host path key offers []

-- the request of a client with this nonce that offers no subprotocol
abbrev pub request_bytes : List ℕ → List ℕ → List ℕ → List ℕ
request_bytes host path nonce = request_text host path (key_of nonce) []

-- ---- what a server answers

-- the list of the one name that is chosen, or of none
abbrev pub chosen_names : Option (List ℕ) → List (List ℕ)
chosen_names None = []
chosen_names (Some name) = name ∷ []

-- the response that accepts, with this accept value and this subprotocol, if any (section 4.2.2)
abbrev pub response_text : List ℕ → Option (List ℕ) → List ℕ
response_text accept protocol = head_bytes (
    codes "HTTP/1.1 101 Switching Protocols"
    ∷ header_line (codes "Upgrade") (codes "websocket")
    ∷ header_line (codes "Connection") (codes "Upgrade")
    ∷ header_line (codes "Sec-WebSocket-Accept") accept
    ∷ protocol_lines (chosen_names protocol))

-- the response that accepts, with this accept value and no subprotocol
abbrev pub response_bytes : List ℕ → List ℕ
response_bytes accept = response_text accept None

-- the response that refuses: to another version it names the one that is spoken (section 4.4)
abbrev pub refusal_bytes : HeadFault → List ℕ
refusal_bytes WsVersion = head_bytes (
    codes "HTTP/1.1 426 Upgrade Required"
    ∷ header_line (codes "Upgrade") (codes "websocket")
    ∷ header_line (codes "Connection") (codes "Upgrade, close")
    ∷ header_line (codes "Sec-WebSocket-Version") (codes "13")
    ∷ header_line (codes "Content-Length") (codes "0")
    ∷ [])
refusal_bytes fault = head_bytes (
    codes "HTTP/1.1 400 Bad Request"
    ∷ header_line (codes "Connection") (codes "close")
    ∷ header_line (codes "Content-Length") (codes "0")
    ∷ [])
