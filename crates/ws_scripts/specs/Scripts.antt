-- Scripts: their steps, cut into turns, and the bytes of a turn, cut into pieces.
use Rattle.std.specs.Prelude.{◌≡◌, ℕ, ◌<◌, ◌≤◌, ⊤, Bool, true, false, List, [], ◌∷◌, length, map, filter, flat_map}
use Rattle.std.specs.Prelude.{Option}
use Rattle.std.specs.List.{concat, onto_first, AllZip, AllByRecursion}
use Rattle.ws_wire.specs.Frame.{frame_bytes}
use Rattle.ws_scripts.specs.declared.script.Step.{Step}
use Rattle.ws_scripts.specs.declared.script.Step.TheVariants.{Frame, Raw, Wait}
use Rattle.ws_scripts.specs.declared.script.Chop.{Chop}
use Rattle.ws_scripts.specs.declared.script.Chop.TheVariants.{Whole, PerFrame, Octets}
use Rattle.ws_scripts.specs.declared.script.Case.{Case}

-- ---- what can be run

-- where the step is a frame, it has three reserved bits and four bits of opcode, so that `Header::shortest` accepts it
abbrev pub FitsAHeader : Step → Type 0
FitsAHeader step = (fin : Bool) (rsv opcode : ℕ) (payload : List ℕ) → step ≡ Frame fin rsv opcode payload
    → (rsv < 8) × (opcode < 16)

-- each frame of the steps is such a frame
abbrev pub FitHeaders : List Step → Type 0
FitHeaders steps = AllByRecursion FitsAHeader steps

-- where pieces are cut by a number of bytes, it is at least one
abbrev pub CutsOff : Chop → Type 0
CutsOff chop = (n : ℕ) → chop ≡ Octets n → 0 < n

-- each frame can be sent, and each piece has bytes
pub record CanBeRun (case : Case) : Type 0 where
  pub frames : FitHeaders case.steps
  pub pieces : CutsOff case.chop

-- ---- turns

abbrev pub is_wait : Step → Bool
is_wait (Frame fin rsv opcode payload) = false
is_wait (Raw bytes) = false
is_wait Wait = true

abbrev pub IsAct : Step → Type 0
IsAct step = is_wait step ≡ false

-- the steps, cut after each Wait, which belongs to no turn; a last part without steps is no turn
abbrev pub turns_of : List Step → List (List Step)
turns_of [] = []
turns_of (Frame fin rsv opcode payload ∷ steps) = onto_first (Frame fin rsv opcode payload) (turns_of steps)
turns_of (Raw bytes ∷ steps) = onto_first (Raw bytes) (turns_of steps)
turns_of (Wait ∷ steps) = [] ∷ turns_of steps

-- ---- bytes

-- a frame as it is sent, masked with the key if there is one, and other bytes as they are
abbrev pub step_bytes : Option (List ℕ) → Step → List ℕ
step_bytes key (Frame fin rsv opcode payload) = frame_bytes (record {
  frame = record { fin = fin; rsv = rsv; opcode = opcode; payload = payload };
  key = key;
})
step_bytes key (Raw bytes) = bytes
step_bytes key Wait = []

-- the bytes of a turn: those of its steps, in order
abbrev pub turn_bytes : Option (List ℕ) → List Step → List ℕ
turn_bytes key steps = flat_map (step_bytes key) steps

-- ---- pieces

abbrev pub has_bytes : List ℕ → Type 0
has_bytes piece = 0 < length piece

abbrev pub has_any : List ℕ → Bool
has_any [] = false
has_any (byte ∷ bytes) = true

abbrev pub without_empty : List (List ℕ) → List (List ℕ)
without_empty lists = filter has_any lists

-- each piece is n bytes, but that the last may be shorter
abbrev pub AreOctets : ℕ → List (List ℕ) → Type 0
AreOctets n [] = ⊤
AreOctets n (piece ∷ []) = length piece ≤ n
AreOctets n (piece ∷ next ∷ pieces) = (length piece ≡ n) × AreOctets n (next ∷ pieces)

-- where the pieces are cut: nowhere; after each step; after each n bytes
abbrev pub AreCutBy : Chop → Option (List ℕ) → List Step → List (List ℕ) → Type 0
AreCutBy Whole key steps pieces = length pieces ≤ 1
AreCutBy PerFrame key steps pieces = pieces ≡ without_empty (map (step_bytes key) steps)
AreCutBy (Octets n) key steps pieces = AreOctets n pieces

-- the pieces of a turn: joined they are its bytes, none is empty, and they are cut as the chop says
pub record ArePieces (chop : Chop) (key : Option (List ℕ)) (steps : List Step) (pieces : List (List ℕ)) : Type 0 where
  pub joined : concat pieces ≡ turn_bytes key steps
  pub none_empty : AllByRecursion has_bytes pieces
  pub cut : AreCutBy chop key steps pieces

-- The pieces of each turn of a script, in order, its frames masked with the key if there is one: a client masks each
-- frame that it sends, a server none (RFC 6455 section 5.1).
abbrev pub AreTurns : Case → Option (List ℕ) → List (List (List ℕ)) → Type 0
AreTurns case key turns = AllZip (ArePieces case.chop key) (turns_of case.steps) turns
