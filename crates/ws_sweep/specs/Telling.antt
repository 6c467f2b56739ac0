-- How the case of a short script is told in a line: by the lines of all its steps, so that the line is all of it.
use Rattle.std.specs.Prelude.{ℕ, nat_lt, if◌then◌else◌, List, [], ◌∷◌, ◌++◌, codes, length, map}
use Rattle.std.specs.List.{join_by}
use Rattle.ws_wire.specs.declared.role.Role.{Role}
use Rattle.ws_scripts.specs.declared.expectation.Expectation.{Expectation}
use Rattle.ws_scripts.specs.declared.expectation.Expectation.TheVariants.{Echo, Protocol}
use Rattle.ws_scripts.specs.declared.script.Step.{Step}
use Rattle.ws_scripts.specs.declared.script.Step.TheVariants.{Wait}
use Rattle.ws_sweep.specs.Alphabet.{AlphabetStep, row, step_at}
use Rattle.ws_sweep.specs.ShortCases.{close_step}

-- the steps of a script, each with its line
abbrev pub script_rows : Role → List ℕ → List AlphabetStep
script_rows tested places = map (λ place. step_at tested place) places

-- the steps that stand behind those that send neither a close nor a fault, each with its line
abbrev pub end_rows : Expectation → List AlphabetStep
end_rows Echo = row (codes "close=1000") close_step ∷ []
end_rows Protocol = row (codes "wait") Wait ∷ row (codes "close=1000") close_step ∷ []

-- The steps of the script's case, each with its line. The case has more steps than the script just where something was
-- put behind them. It is a law that they are the steps of the case, all of them.
abbrev pub case_rows : Role → Expectation → List ℕ → List Step → List AlphabetStep
case_rows tested expected places steps =
    script_rows tested places ++ (if nat_lt (length places) (length steps) then end_rows expected else [])

-- their lines, parted by a semicolon and a space
abbrev pub steps_text : Role → Expectation → List ℕ → List Step → List ℕ
steps_text tested expected places steps =
    join_by (λ told. told.line) (codes "; ") (case_rows tested expected places steps)
