-- The right pongs among frames, frame after frame, each in the turn that holds its last byte.
use Rattle.std.proofs.Common.{◌≡◌, ◌∙◌, ℕ, ◌+◌, ◌<◌, List, [], ◌∷◌, ◌++◌, ap, append_assoc, append-nil, arith, inl}
use Rattle.std.proofs.Common.{inr, length, refl, subst, sym}
use Rattle.std.proofs.lemmas.List.{length-append}
use Rattle.ws_wire.specs.declared.role.Role.{Role}
use Rattle.ws_wire.specs.Frame.{IsWireFrame, WireFrame, wire_bytes}
use Rattle.ws_wire.specs.Stream.{BeginsNone, SplitsIntoAnyForm}
use Rattle.ws_suite.specs.declared.evidence.InTurn.{InTurn}
use Rattle.ws_suite.specs.declared.evidence.Reply.{Reply}
use Rattle.ws_suite.specs.declared.evidence.Reply.TheVariants.{Pong}
use Rattle.ws_suite.specs.Evidence.{HoldsByte}
use Rattle.ws_suite.specs.InnerMarks.{HavePongsAmong}
use Rattle.ws_suite.specs.Marks.{ArePongsAmong, IsPongIn, IsRightPong}
use Rattle.ws_suite.proofs.FrontFrames.{split_before, split_none}

-- where these are those among the first frames, they and those among the frames that are left are those among all
abbrev pub HasPassed : Role → List (List ℕ) → ℕ → List ℕ → ℕ → List ℕ → List (InTurn Reply) → Type 0
HasPassed role turns before bytes place left pongs = (frames : List WireFrame) (rest : List ℕ)
    (more : List (InTurn Reply)) → SplitsIntoAnyForm left frames rest → ArePongsAmong role turns place frames more
    → HavePongsAmong role turns before bytes (pongs ++ more)

pub none_passed : (role : Role) (turns : List (List ℕ)) (before : ℕ) (bytes : List ℕ)
    → HasPassed role turns before bytes before bytes []
none_passed role turns before bytes = λ frames rest more s among. (frames, rest, s, among)

-- a frame that is a right pong or none
pub one_passed : (role : Role) (turns : List (List ℕ)) (before : ℕ) (bytes : List ℕ) (place : ℕ)
    (left after : List ℕ) (pongs one : List (InTurn Reply)) (x : WireFrame) → IsWireFrame x
    → left ≡ wire_bytes x ++ after → IsPongIn role turns (place + length (wire_bytes x)) x one
    → HasPassed role turns before bytes place left pongs
    → HasPassed role turns before bytes (place + length (wire_bytes x)) after (pongs ++ one)
one_passed role turns before bytes place left after pongs one x is parts in_turn so = λ frames rest more s among.
    subst (λ (l : List (InTurn Reply)). HavePongsAmong role turns before bytes l) (sym (append_assoc pongs one more))
    (so (x ∷ frames) rest (one ++ more) (split_before left after rest x frames is parts s)
    (one, more, refl, in_turn, among))

-- none is left
pub all_passed : (role : Role) (turns : List (List ℕ)) (before : ℕ) (bytes : List ℕ) (place : ℕ) (left : List ℕ)
    (pongs : List (InTurn Reply)) → BeginsNone IsWireFrame wire_bytes left
    → HasPassed role turns before bytes place left pongs → HavePongsAmong role turns before bytes pongs
all_passed role turns before bytes place left pongs none so =
    subst (λ (l : List (InTurn Reply)). HavePongsAmong role turns before bytes l) (append-nil pongs)
    (so [] left [] (split_none left none) refl)
