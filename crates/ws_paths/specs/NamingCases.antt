-- Inside the crate: how a path is cut, and what was found of the parts that name a case. A reader may skip it.
use Rattle.std.specs.Prelude.{◌≡◌, ℕ, ◌<◌, ◌≤◌, Bool, List, [], filter, length, Option, MatchOption}
use Rattle.std.specs.Borrow.{Bor}
use Rattle.std.specs.List.{after_first, before_first, position_or_len}
use Rattle.ws_paths.specs.Paths.{NameCaseOnce, names_case}
use Rattle.ws_paths.specs.declared.named_case.Found.{Found}
use Rattle.ws_paths.specs.declared.named_case.Found.TheVariants.{Nothing, Often, Once}

-- the bytes are cut at the first that passes, or none does
abbrev pub CutsAt : (ℕ → Bool) → List ℕ → Option (Bor (List ℕ) × Bor (List ℕ)) → Type 0
CutsAt passes bytes result = MatchOption result (length bytes ≤ position_or_len passes bytes)
    (λ parts. (position_or_len passes bytes < length bytes)
    × (parts.0.now ≡ before_first passes bytes) × (parts.1.now ≡ after_first passes bytes))

-- of these parts none names a case, or one does, or more do
abbrev pub IsFoundIn : List (List ℕ) → Found → Type 0
IsFoundIn parts Nothing = filter names_case parts ≡ []
IsFoundIn parts (Once word) = NameCaseOnce parts word.now
IsFoundIn parts Often = 2 ≤ length (filter names_case parts)
