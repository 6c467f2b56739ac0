-- Worked examples of what is told of an address that is listened at, each a theorem.
use Rattle.std.specs.Prelude.{⊤, ℕ, List, length, slice_index_or, codes, refl}
use Rattle.std.proofs.Common.{ap, arith, inl, inr}
use Rattle.std.specs.Fmt.{digits}
use Rattle.wst_sockets.specs.Listening.{AreZeros, IsToldFor, SpellsPort0}

-- what is computed at numbers that are written out
unfoldable on_numbers : ⊤
unfolding digits
on_numbers = tt

two_zeros : AreZeros (codes "00")
two_zeros = (omega arith, λ k d below. grind arith)

-- the port 0 in one spelling of many
pub zeros_behind_a_plus : SpellsPort0 (codes "+00")
zeros_behind_a_plus = inr (codes "00", refl, two_zeros)

abbrev first_of : List ℕ → ℕ
first_of bytes = slice_index_or bytes 0 0

-- what ends in a zero is another port
pub ten_is_not_0 : ¬ (SpellsPort0 (codes "10"))
ten_is_not_0 (inl zeros) = omega (arith, zeros.1 0 0 (omega arith))
ten_is_not_0 (inr (zeros, wrong, _)) = omega (arith, ap first_of wrong)

pub a_plus_alone_is_not_0 : ¬ (SpellsPort0 (codes "+"))
a_plus_alone_is_not_0 (inl zeros) = omega (arith, zeros.1 0 0 (omega arith))
a_plus_alone_is_not_0 (inr (zeros, is, some)) = omega (arith, ap length is, some.0)

-- a port stands in its place
pub told_with_a_port : IsToldFor (codes "[::1]:+00") (codes "[::1]:8123")
unfolding on_numbers
told_with_a_port = inr (codes "[::1]", (codes "+00", refl, zeros_behind_a_plus), (8123, refl))
