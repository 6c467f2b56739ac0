-- Scripts of moves: what happens at two joined sessions, one move a line. The words of a line are parted by one space,
-- and every line ends with LF.
use Rattle.std.specs.Prelude.{◌≡◌, ℕ, List, [], ◌∷◌, codes}
use Rattle.ws_formats.specs.Words.{IsKeyOrDash, IsNumberWord, words_of}
use Rattle.ws_formats.specs.Lines.{HasLineForEach}
use Rattle.ws_sends.specs.declared.keyed_send.KeyedSend.{KeyedSend}
use Rattle.ws_sends.specs.declared.keyed_send.KeyedSend.TheVariants as send
use Rattle.ws_sends.specs.KeyedSends.{AreSendWords}
use Rattle.ws_pair.specs.declared.moves.End.{End}
use Rattle.ws_pair.specs.declared.moves.End.TheVariants.{Client, Server}
use Rattle.ws_pair.specs.declared.moves.Move.{Move}
use Rattle.ws_pair.specs.declared.moves.Move.TheVariants.{Begin, More, Ping, Pong, Close, Arrive, Cut}
use Rattle.ws_pair.specs.declared.script.MoveName.{MoveName}
use Rattle.ws_pair.specs.declared.script.MoveName.TheVariants as name
use Rattle.ws_pair.specs.Moves.{side_of}

abbrev pub end_word : End → List ℕ
end_word Client = codes "client"
end_word Server = codes "server"

-- the first word of a move that sends nothing
abbrev pub move_name_word : MoveName → List ℕ
move_name_word name.Arrive = codes "arrive"
move_name_word name.Cut = codes "cut"

-- its name, and its words from the third on: of a send those of any script, else `a` spells the number and `k` the key
abbrev pub AreMoveFields : Move → List ℕ → List (List ℕ) → Type 0
AreMoveFields (Begin side kind payload fin key) word fields = AreSendWords (send.Begin kind payload fin key) word fields
AreMoveFields (More side payload fin key) word fields = AreSendWords (send.More payload fin key) word fields
AreMoveFields (Ping side payload key) word fields = AreSendWords (send.Ping payload key) word fields
AreMoveFields (Pong side payload key) word fields = AreSendWords (send.Pong payload key) word fields
AreMoveFields (Close side given key) word fields = AreSendWords (send.Close given key) word fields
AreMoveFields (Arrive side bytes key) word fields = (word ≡ move_name_word name.Arrive) × (a : List ℕ) × (k : List ℕ)
    × (fields ≡ a ∷ k ∷ []) × IsNumberWord 4294967295 bytes a × IsKeyOrDash key k
AreMoveFields (Cut side) word fields = (word ≡ move_name_word name.Cut) × (fields ≡ [])

-- the words of a move: its name, the end at which it happens, and the others
abbrev pub AreMoveWords : Move → List (List ℕ) → Type 0
AreMoveWords move words = (word : List ℕ) × (fields : List (List ℕ))
    × AreMoveFields move word fields × (words ≡ word ∷ end_word (side_of move) ∷ fields)

-- the line of a move, without its LF
abbrev pub IsMoveLine : Move → List ℕ → Type 0
IsMoveLine move line = AreMoveWords move (words_of line)

-- the script of these moves
abbrev pub AreMoveLines : List Move → List ℕ → Type 0
AreMoveLines moves text = HasLineForEach IsMoveLine moves text

-- ---- reading: a reader may skip what follows

-- the move happens at this end, and this name and these further words tell it
pub record IsMoveAt (side : End) (move : Move) (word : List ℕ) (fields : List (List ℕ)) : Type 0 where
  pub there : side_of move ≡ side
  pub told : AreMoveFields move word fields

abbrev pub IsArriveOf : End → Move → List (List ℕ) → Type 0
IsArriveOf side move fields = (bytes : ℕ) × (key : List ℕ) × (a : List ℕ) × (k : List ℕ)
    × (move ≡ Arrive side bytes key) × (fields ≡ a ∷ k ∷ []) × IsNumberWord 4294967295 bytes a × IsKeyOrDash key k

abbrev pub IsCutOf : End → Move → List (List ℕ) → Type 0
IsCutOf side move fields = (move ≡ Cut side) × (fields ≡ [])

-- a send at this end
abbrev pub move_of : End → KeyedSend → Move
move_of side (send.Begin kind payload fin key) = Begin side kind payload fin key
move_of side (send.More payload fin key) = More side payload fin key
move_of side (send.Ping payload key) = Ping side payload key
move_of side (send.Pong payload key) = Pong side payload key
move_of side (send.Close given key) = Close side given key
