-- Lists of bytes in parts.
use Rattle.std.proofs.Common.{ℕ, zero, suc, List, [], ◌∷◌, ◌++◌, arith}
use Rattle.ws_wire.specs.Header.{AreBytes}

pub bytes_append : (a b : List ℕ) → AreBytes a → AreBytes b → AreBytes (a ++ b)
bytes_append [] b h k i = k i
bytes_append (x ∷ a) b h k zero = h 0
bytes_append (x ∷ a) b h k (suc i) = bytes_append a b (λ j. h (suc j)) k i

pub front_are_bytes : (a b : List ℕ) → AreBytes (a ++ b) → AreBytes a
front_are_bytes [] b h i = omega arith
front_are_bytes (x ∷ a) b h zero = h 0
front_are_bytes (x ∷ a) b h (suc i) = front_are_bytes a b (λ j. h (suc j)) i

pub back_are_bytes : (a b : List ℕ) → AreBytes (a ++ b) → AreBytes b
back_are_bytes [] b h i = h i
back_are_bytes (x ∷ a) b h i = back_are_bytes a b (λ j. h (suc j)) i
