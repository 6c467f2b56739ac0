-- What was told while a head was written or read, with one thing more; and a head that one more piece decides.
use Rattle.std.proofs.Common.{◌∙◌, ℕ, ◌-◌, ◌≤◌, List, [], ◌∷◌, ◌++◌, length, min, refl}
use Rattle.std.proofs.Common.{ap, arith, length-append}
use Rattle.std.proofs.lemmas.List.Elements.{All-nil, All-push}
use Rattle.ws_upgrade.specs.Reading.{max_head}
use Rattle.ws_machines.specs.Told.{Told}
use Rattle.ws_machines.specs.Told.Told.{Came, Taken}
use Rattle.ws_machines.proofs.ExchangeLemmas.{came_more, taken_more}
use Rattle.ws_handshake.specs.ReadingHeads.{AreHeadPieces, AreTaken, TellsPiece, IsWholeHead, TellsTaken, IsUndecided}
use Rattle.ws_handshake.specs.ReadingHeads.{head_room, max_head_piece}

-- ---- what was told

pub none_taken : AreTaken [] []
none_taken = record { only = All-nil TellsTaken; bytes_are = refl }

pub no_pieces : AreHeadPieces [] []
no_pieces = record { only = All-nil TellsPiece; bytes_are = refl }

pub more_taken : (told : List Told) (bytes more : List ℕ) → AreTaken told bytes
    → AreTaken (told ++ Taken more ∷ []) (bytes ++ more)
more_taken told bytes more h = record {
  only = All-push TellsTaken told (Taken more) h.only tt;
  bytes_are = taken_more told (Taken more) ∙ ap (λ (l : List ℕ). l ++ more) h.bytes_are;
}

pub more_pieces : (told : List Told) (bytes more : List ℕ) → length more ≤ max_head_piece → AreHeadPieces told bytes
    → AreHeadPieces (told ++ Came more ∷ []) (bytes ++ more)
more_pieces told bytes more fits h = record {
  only = All-push TellsPiece told (Came more) h.only fits;
  bytes_are = came_more told (Came more) ∙ ap (λ (l : List ℕ). l ++ more) h.bytes_are;
}

-- ---- a head

min_left : (a b n : ℕ) → n ≤ min a b → n ≤ a
min_left a b n h = omega (arith, h)

min_right : (a b n : ℕ) → n ≤ min a b → n ≤ b
min_right a b n h = omega (arith, h)

pub fits_piece : (read : List ℕ) (n : ℕ) → n ≤ head_room read → n ≤ max_head_piece
fits_piece read n h = min_left max_head_piece (max_head - length read) n h

-- a piece that decides what decided nothing before is the last one of a head
pub decided_head : {D : Type 0} (needs : List ℕ → Type 0) (decides : List ℕ → D → Type 0) (read piece : List ℕ)
    (decision : D) → IsUndecided needs read → length piece ≤ head_room read → decides (read ++ piece) decision
    → IsWholeHead needs decides (read ++ piece) decision
decided_head needs decides read piece decision h fits decided = record {
  decided = decided;
  bound = omega (
    arith,
    length-append read piece,
    min_right max_head_piece (max_head - length read) (length piece) fits,
    h.bound,
  );
  no_further = record {
    before = read;
    last = piece;
    parts = refl;
    undecided = h.need;
    bound = fits_piece read (length piece) fits;
  };
}
