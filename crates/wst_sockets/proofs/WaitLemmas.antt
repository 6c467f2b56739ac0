-- Of all waits of a run one is told at most, and none where a limit ends each.
use Rattle.std.proofs.Common.{◌≡◌, ◌≤◌, ◌++◌, ℕ, List, [], ◌∷◌, ap, arith, length, refl}
use Rattle.wst_commands.specs.declared.time_limit.TimeLimit.{TimeLimit}
use Rattle.wst_commands.specs.declared.time_limit.TimeLimit.TheVariants.{Seconds, Unlimited}
use Rattle.wst_sockets.specs.Waiting.{notes_of_waits, notice_of, wait_line}
use Rattle.wst_sockets.specs.declared.waiting.Notice.TheVariants.{Needless, Pending, Told}

none_left : (names : List (List ℕ)) → notes_of_waits Told names ≡ []
none_left [] = refl
none_left (name ∷ names) = none_left names

none_needed : (names : List (List ℕ)) → notes_of_waits Needless names ≡ []
none_needed [] = refl
none_needed (name ∷ names) = none_needed names

pub none_is_told : (seconds : ℕ) (names : List (List ℕ)) → notes_of_waits (notice_of (Seconds seconds)) names ≡ []
none_is_told seconds names = none_needed names

first_is_told : (names : List (List ℕ)) → length (notes_of_waits Pending names) ≤ 1
first_is_told [] = omega arith
first_is_told (name ∷ names) =
    let rest = ap (λ (l : List (List ℕ)). length (wait_line name ∷ l)) (none_left names) in
    omega (arith, rest)

pub one_is_told : (timeout : TimeLimit) (names : List (List ℕ)) → length (notes_of_waits (notice_of timeout) names) ≤ 1
one_is_told Unlimited names = first_is_told names
one_is_told (Seconds seconds) names =
    let none = ap (λ (l : List (List ℕ)). length l) (none_needed names) in
    omega (arith, none)
