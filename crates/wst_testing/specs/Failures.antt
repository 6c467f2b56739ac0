-- How many failures end a run: FAILs and missing connections, where a number of them is given.
use Rattle.std.specs.Prelude.{◌≡◌, ⊤, ℕ, nat_lt, Bool, true, false, not, ◌&&◌, List, [], ◌∷◌, ◌++◌, Option, Some, None}
use Rattle.std.specs.Prelude.{◌⊎◌}
use Rattle.ws_reports.specs.Reports.{ReportValue}
use Rattle.ws_scripts.specs.declared.script.Case.{Case}
use Rattle.wst_testing.specs.Reporting.{score_of}
use Rattle.wst_testing.specs.declared.outcome.Outcome.{Outcome}

-- so many failures are as many as are given, or more; where 0 is given, one is enough
abbrev pub is_enough : Option ℕ → ℕ → Bool
is_enough None failures = false
is_enough (Some most) failures = nat_lt 0 failures && not (nat_lt failures most)

-- behind these the run goes on
abbrev pub GoesOnBehind : Option ℕ → ReportValue → List (Case × Outcome) → Type 0
GoesOnBehind most report tests = is_enough most (score_of report tests).failures ≡ false

-- behind these there were enough
abbrev pub IsEnoughBehind : Option ℕ → ReportValue → List (Case × Outcome) → Type 0
IsEnoughBehind most report tests = is_enough most (score_of report tests).failures ≡ true

-- before the last of these, if there is one, the run went on
abbrev pub WentOn : Option ℕ → ReportValue → List (Case × Outcome) → Type 0
WentOn most report tests = (tests ≡ [])
    ⊎ ((before : List (Case × Outcome)) × (last : Case × Outcome) × (tests ≡ before ++ last ∷ [])
    × GoesOnBehind most report before)
