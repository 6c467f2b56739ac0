-- Worked examples of what paths ask for, each a theorem.
use Rattle.std.specs.Prelude.{◌≡◌, ⊤, [], ◌∷◌, codes, refl}
use Rattle.std.proofs.Common.{arith}
use Rattle.std.specs.Fmt.{digits}
use Rattle.ws_paths.specs.Paths.{IsPurpose, parts_of, place_of}
use Rattle.ws_paths.specs.Texts.{info_text}
use Rattle.ws_paths.specs.declared.purpose.Purpose.TheVariants.{RunCase}

-- what is computed at numbers that are written out
unfoldable on_numbers : ⊤
unfolding digits
on_numbers = tt

-- a path is cut at its first ?, and the rest at each &
pub cut_at_first : place_of (codes "/runCase?case=1&agent=a?b") ≡ codes "/runCase"
cut_at_first = refl

pub parted : parts_of (codes "/runCase?case=1&agent=a?b") ≡ codes "case=1" ∷ codes "agent=a?b" ∷ []
parted = refl

-- the third of three cases, whatever else is named
pub third_of_three : IsPurpose 3 0 (codes "/runCase?agent=x&case=3") (RunCase 3)
unfolding on_numbers
third_of_three = (refl, (omega arith, (codes "3", refl, (omega arith, refl))))

-- a text that tells of a case
pub info : info_text (codes "5.19") 4 ≡ codes "{\"id\":\"5.19\",\"description\":\"4 turns\"}"
unfolding on_numbers
info = refl
