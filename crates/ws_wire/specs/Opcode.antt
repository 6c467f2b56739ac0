-- What a frame is, by the opcode of its header: RFC 6455 section 5.2.
use Rattle.std.specs.Prelude.{◌≡◌, ℕ, ◌≤◌, ◌⊎◌, if◌then◌else◌, nat_eq}
use Rattle.ws_wire.specs.declared.opcode.Opcode.{Opcode}
use Rattle.ws_wire.specs.declared.opcode.Opcode.TheVariants.{Continuation, Text, Binary, Close, Ping, Pong, Reserved}

-- 0 to 2 are data frames and 8 to 10 control frames; the other numbers are reserved
abbrev pub IsOpcode : Opcode → ℕ → Type 0
IsOpcode Continuation number = number ≡ 0
IsOpcode Text number = number ≡ 1
IsOpcode Binary number = number ≡ 2
IsOpcode Close number = number ≡ 8
IsOpcode Ping number = number ≡ 9
IsOpcode Pong number = number ≡ 10
IsOpcode (Reserved other) number = (number ≡ other) × (((3 ≤ number) × (number ≤ 7)) ⊎ (11 ≤ number))

-- the number that stands in a header
abbrev pub opcode_number : Opcode → ℕ
opcode_number Continuation = 0
opcode_number Text = 1
opcode_number Binary = 2
opcode_number Close = 8
opcode_number Ping = 9
opcode_number Pong = 10
opcode_number (Reserved other) = other

-- and back: what a number says
abbrev pub opcode_from_number : ℕ → Opcode
opcode_from_number number =
    if nat_eq number 0 then Continuation
    else (if nat_eq number 1 then Text
    else (if nat_eq number 2 then Binary
    else (if nat_eq number 8 then Close
    else (if nat_eq number 9 then Ping
    else (if nat_eq number 10 then Pong
    else Reserved number)))))
