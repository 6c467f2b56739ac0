-- The lines of an earlier run.
use Rattle.std.specs.Prelude.{◌≡◌, ◌≢◌, ◌⊎◌, ◌≤◌, ℕ, IsTrue, All, List, [], ◌∷◌, ◌++◌, length, codes, string_bytes}
use Rattle.std.specs.Char.{is_ascii_digit}
use Rattle.ws_formats.specs.Words.{space}
use Rattle.ws_reports.specs.Verdicts.{IsVerdict}
use Rattle.ws_reports.specs.declared.known_line.KnownLine.{KnownLine}
use Rattle.ws_reports.specs.declared.known_line.KnownLine.TheVariants.{Other, Verdict}

-- ---- the line of a case

-- the name of a case: any word
abbrev pub IsId : List ℕ → Type 0
IsId word = (1 ≤ length word) × All (λ byte. byte ≢ space) word

-- it tells what was, in brackets
abbrev pub HasInBrackets : List ℕ → List ℕ → Type 0
HasInBrackets words remark = remark ≡ codes " (was " ++ words ++ codes ")"

-- it tells what a verdict was
abbrev pub IsWas : List ℕ → Type 0
IsWas remark = (words : List ℕ) × IsVerdict words × HasInBrackets words remark

-- what may stand behind a verdict
abbrev pub IsRemark : List ℕ → Type 0
IsRemark remark = (remark ≡ []) ⊎ (remark ≡ codes " (new)") ⊎ IsWas remark

-- the name of a case, a space, the words of its verdict, and what may stand behind them
abbrev pub IsCaseLine : List ℕ → List ℕ → List ℕ → Type 0
IsCaseLine id words line = IsId id × IsVerdict words
    × ((remark : List ℕ) × IsRemark remark × (line ≡ id ++ space ∷ (words ++ remark)))

-- ---- the other lines

-- digits, one at least
abbrev pub IsCount : List ℕ → Type 0
IsCount word = (1 ≤ length word) × All (λ byte. IsTrue (is_ascii_digit byte)) word

-- the line is a count of these, and then this
abbrev pub HasCount : List ℕ → List ℕ → List ℕ → Type 0
HasCount word rest line = (count : List ℕ) × IsCount count × (line ≡ count ++ space ∷ (word ++ rest))

-- the last two of the counts beside an earlier run; the last three; all four
abbrev pub CountsFixed : List ℕ → Type 0
CountsFixed line = (rest : List ℕ) × HasCount (codes "fixed, ") rest line × HasCount (codes "changed") [] rest

abbrev pub CountsNew : List ℕ → Type 0
CountsNew line = (rest : List ℕ) × HasCount (codes "new, ") rest line × CountsFixed rest

abbrev pub CountsSame : List ℕ → Type 0
CountsSame line = (rest : List ℕ) × HasCount (codes "same, ") rest line × CountsNew rest

-- a total of verdicts, as `240 pass, 0 loose, 0 fail`
abbrev pub IsTotal : List ℕ → Type 0
IsTotal line = (behind_pass : List ℕ) × (behind_loose : List ℕ) × HasCount (codes "pass, ") behind_pass line
    × HasCount (codes "loose, ") behind_loose behind_pass × HasCount (codes "fail") [] behind_loose

-- the line is these bytes and what comes
abbrev pub StandsFirst : List ℕ → List ℕ → Type 0
StandsFirst front line = (more : List ℕ) × (line ≡ front ++ more)

-- the words of a verdict other than PASS, and a space
abbrev pub IsNamedVerdict : List ℕ → Type 0
IsNamedVerdict named = (words : List ℕ) × IsVerdict words × (words ≢ codes "PASS") × (named ≡ words ++ codes " ")

-- these, and how many cases have it
abbrev pub IsCountedVerdict : List ℕ → Type 0
IsCountedVerdict front =
    (named : List ℕ) × (count : List ℕ) × IsNamedVerdict named × IsCount count × (front ≡ named ++ count)

-- a line of a summary: these, and the cases, as `FAIL Close 2: 7.1.1, 7.1.2`
abbrev pub IsVerdictLine : List ℕ → Type 0
IsVerdictLine line =
    (front : List ℕ) × (cases : List ℕ) × IsCountedVerdict front × (line ≡ front ++ (codes ": " ++ cases))

-- how many cases stand how beside an earlier run, as `known: 240 same, 0 new, 0 fixed, 0 changed`
abbrev pub IsKnownCounts : List ℕ → Type 0
IsKnownCounts line = (counts : List ℕ) × (line ≡ codes "known: " ++ counts) × CountsSame counts

-- how many cases a run that was cut off had, as `2 of 240 run`
abbrev pub IsRunCount : List ℕ → Type 0
IsRunCount line = (rest : List ℕ) × HasCount (codes "of ") rest line × HasCount (codes "run") [] rest

-- a line behind a total: one of a summary, one of these counts, how a proxy passed the cases on, or how many were run
abbrev pub IsBehindTotal : List ℕ → Type 0
IsBehindTotal line =
    IsVerdictLine line ⊎ IsKnownCounts line ⊎ StandsFirst (codes "passed on: ") line ⊎ IsRunCount line

-- a total, or what is behind it; what stands below the line of a case; or where clients were waited for
abbrev pub IsBesideCases : List ℕ → Type 0
IsBesideCases line = IsTotal line ⊎ StandsFirst (codes " ") line ⊎ StandsFirst (codes "listening on ") line
    ⊎ IsBehindTotal line

-- the line tells this
abbrev pub IsKnownLine : KnownLine → List ℕ → Type 0
IsKnownLine (Verdict id words) line = IsCaseLine id (string_bytes words) line
IsKnownLine Other line = IsBesideCases line
