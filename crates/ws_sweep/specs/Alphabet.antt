-- The steps of short scripts, in the order of the alphabet: each with its line in the text of a script.
use Rattle.std.specs.Prelude.{ℕ, true, false, List, [], ◌∷◌, ◌++◌, codes, replicate, unwrap_or, slice_get}
use Rattle.ws_wire.specs.declared.role.Role.{Role}
use Rattle.ws_wire.specs.declared.role.Role.TheVariants.{Client, Server}
use Rattle.ws_scripts.specs.declared.script.Step.{Step}
use Rattle.ws_scripts.specs.declared.script.Step.TheVariants.{Frame, Raw, Wait}
use Rattle.ws_sweep.specs.declared.alphabet.Letter.{Letter}
use Rattle.ws_sweep.specs.declared.alphabet.Sends.{Sends}
use Rattle.ws_sweep.specs.declared.alphabet.Sends.TheVariants as sends

-- ---- the alphabet

-- a step, and its line in the text of a script
pub record AlphabetStep : Type 0 where
  pub line : List ℕ
  pub step : Step

abbrev pub row : List ℕ → Step → AlphabetStep
row line step = record { line = line; step = step }

-- a frame with FIN and with this opcode and payload, and one without FIN
abbrev pub whole : ℕ → List ℕ → Step
whole opcode payload = Frame true 0 opcode payload

abbrev pub part : ℕ → List ℕ → Step
part opcode payload = Frame false 0 opcode payload

-- Messages, whole and begun; empty ones; text that breaks off in a character, and text that is none; fragments that go
-- on; pings, one in a fragment and one too long; a pong; closes, one with half a code and one with a code that nobody
-- may send; a reserved bit; reserved opcodes; and the end of a turn.
abbrev pub shared_steps : List AlphabetStep
shared_steps = row (codes "text \"a\"") (whole 1 (97 ∷ []))
    ∷ row (codes "text fin=0 \"a\"") (part 1 (97 ∷ []))
    ∷ row (codes "text -") (whole 1 [])
    ∷ row (codes "text fin=0 -") (part 1 [])
    ∷ row (codes "text fin=0 c3") (part 1 (0xc3 ∷ []))
    ∷ row (codes "text c3") (whole 1 (0xc3 ∷ []))
    ∷ row (codes "text c328") (whole 1 (0xc3 ∷ 0x28 ∷ []))
    ∷ row (codes "binary 00ff") (whole 2 (0x00 ∷ 0xff ∷ []))
    ∷ row (codes "binary fin=0 00ff") (part 2 (0x00 ∷ 0xff ∷ []))
    ∷ row (codes "cont \"b\"") (whole 0 (98 ∷ []))
    ∷ row (codes "cont fin=0 \"b\"") (part 0 (98 ∷ []))
    ∷ row (codes "cont a9") (whole 0 (0xa9 ∷ []))
    ∷ row (codes "cont -") (whole 0 [])
    ∷ row (codes "ping \"p\"") (whole 9 (112 ∷ []))
    ∷ row (codes "ping -") (whole 9 [])
    ∷ row (codes "ping fin=0 \"p\"") (part 9 (112 ∷ []))
    ∷ row (codes "ping 2a*126") (whole 9 (replicate 126 0x2a))
    ∷ row (codes "pong \"q\"") (whole 10 (113 ∷ []))
    ∷ row (codes "close 03e8") (whole 8 (0x03 ∷ 0xe8 ∷ []))
    ∷ row (codes "close -") (whole 8 [])
    ∷ row (codes "close 03") (whole 8 (0x03 ∷ []))
    ∷ row (codes "close 03ed") (whole 8 (0x03 ∷ 0xed ∷ []))
    ∷ row (codes "text rsv=4 \"a\"") (Frame true 4 1 (97 ∷ []))
    ∷ row (codes "op3 -") (whole 3 [])
    ∷ row (codes "op11 -") (whole 11 [])
    ∷ row (codes "wait") Wait ∷ []

-- a frame whose mask is wrong for the end that it is sent to: a client masks its frames, a server masks none (section
-- 5.1)
abbrev pub wrong_mask : Role → AlphabetStep
wrong_mask Server = row (codes "text key=- \"a\"") (Raw (0x81 ∷ 0x01 ∷ 97 ∷ []))
wrong_mask Client = row (codes "text key=00000000 \"a\"") (Raw (0x81 ∷ 0x81 ∷ 0 ∷ 0 ∷ 0 ∷ 0 ∷ 97 ∷ []))

-- the steps that are sent to a tested end of this role
abbrev pub alphabet : Role → List AlphabetStep
alphabet tested = shared_steps ++ wrong_mask tested ∷ []

-- where there is none
abbrev pub no_step : AlphabetStep
no_step = row [] Wait

-- the step at a place, counted from 0
abbrev pub step_at : Role → ℕ → AlphabetStep
step_at tested place = unwrap_or (slice_get (alphabet tested) place) no_step

-- ---- the rows of the program's own table: a reader may skip what follows

abbrev pub step_of : Sends → Step
step_of (sends.Frame fin rsv opcode payload) = Frame fin rsv opcode payload.now
step_of (sends.Raw bytes) = Raw bytes.now
step_of sends.Nothing = Wait

abbrev pub letter_row : Letter → AlphabetStep
letter_row letter = row letter.line.now (step_of letter.sends)
