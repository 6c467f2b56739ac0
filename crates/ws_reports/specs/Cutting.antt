-- Inside the crate: where bytes are cut. A reader may skip it.
use Rattle.std.specs.Prelude.{◌≡◌, ◌≢◌, ◌⊎◌, ℕ, ◌≤◌, false, IsTrue, length, All, List, [], ◌∷◌, ◌++◌, Option}
use Rattle.std.specs.Prelude.{MatchOption, codes, string_bytes}
use Rattle.std.specs.Borrow.{Bor}
use Rattle.std.specs.Char.{is_ascii_digit}
use Rattle.ws_reports.specs.KnownLines.{HasCount, IsCaseLine, IsRemark}
use Rattle.ws_reports.specs.Verdicts.{IsVerdict}
use Rattle.ws_reports.specs.declared.known_line.KnownLine.{KnownLine}
use Rattle.ws_reports.specs.declared.known_line.KnownLine.TheVariants.{Other, Verdict}

-- the bytes are front, the first of these marks, and back
abbrev pub IsCutAtFirst : ℕ → List ℕ → List ℕ → List ℕ → Type 0
IsCutAtFirst mark bytes front back = (bytes ≡ front ++ mark ∷ back) × All (λ byte. byte ≢ mark) front

-- the bytes cut so, or none of them is the mark
abbrev pub CutsAtFirst : ℕ → List ℕ → Option (Bor (List ℕ) × Bor (List ℕ)) → Type 0
CutsAtFirst mark bytes result =
    MatchOption result (All (λ byte. byte ≢ mark) bytes) (λ parts. IsCutAtFirst mark bytes parts.0.now parts.1.now)

-- no digit
abbrev pub IsNoDigit : ℕ → Type 0
IsNoDigit byte = is_ascii_digit byte ≡ false

-- the bytes are front, the first digit, and back
abbrev pub IsCutAtDigit : List ℕ → List ℕ → ℕ → List ℕ → Type 0
IsCutAtDigit bytes front digit back =
    (bytes ≡ front ++ digit ∷ back) × All IsNoDigit front × IsTrue (is_ascii_digit digit)

-- the bytes cut so, or none of them is a digit
abbrev pub CutsAtDigit : List ℕ → Option (Bor (List ℕ) × ℕ × Bor (List ℕ)) → Type 0
CutsAtDigit bytes result =
    MatchOption result (All IsNoDigit bytes) (λ parts. IsCutAtDigit bytes parts.0.now parts.1 parts.2.now)

-- digits, or nothing
abbrev pub AreFurtherDigits : List ℕ → Type 0
AreFurtherDigits rest = All (λ byte. IsTrue (is_ascii_digit byte)) rest

-- nothing, or a space and an opening bracket and more
abbrev pub BeginsRemark : List ℕ → Type 0
BeginsRemark remark = (remark ≡ []) ⊎ ((more : List ℕ) × (remark ≡ codes " (" ++ more))

-- The bytes are words and a remark; and where they are words without a bracket and what begins as a remark does, they
-- are those.
abbrev pub CutsRemark : List ℕ → List ℕ → List ℕ → Type 0
CutsRemark behind words remark = (behind ≡ words ++ remark)
    × ((front : List ℕ) (back : List ℕ) → behind ≡ front ++ back → All (λ byte. byte ≢ 40) front → BeginsRemark back
    → (words ≡ front) × (remark ≡ back))

-- the line tells this of a case
abbrev pub IsCaseRead : List ℕ → KnownLine → Type 0
IsCaseRead line (Verdict id words) = IsCaseLine id (string_bytes words) line
IsCaseRead line Other = ⊥

-- the line is that of no case
abbrev pub TellsNoCase : List ℕ → Type 0
TellsNoCase line = (id : List ℕ) (words : List ℕ) → IsCaseLine id words line → ⊥

-- the name of a case, the words of a verdict and what may stand behind them, as far as their cut doesn't tell it
abbrev pub AreParts : List ℕ → List ℕ → List ℕ → Type 0
AreParts id words remark = (1 ≤ length id) × IsVerdict words × IsRemark remark

-- the first two counts of a total, and what stands behind them
abbrev pub CountsPasses : List ℕ → List ℕ → Type 0
CountsPasses rest line = (behind_pass : List ℕ) × HasCount (codes "pass, ") behind_pass line
    × HasCount (codes "loose, ") rest behind_pass
