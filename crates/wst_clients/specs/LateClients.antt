-- A run of clients that ends since none has come in time: what is told of it.
use Rattle.std.specs.Prelude.{ℕ, Bool, true, false, List, [], ◌∷◌, codes, filter, length}
use Rattle.std.specs.Fmt.{decimal}
use Rattle.std.specs.List.{concat}
use Rattle.ws_paths.specs.declared.behavior.Behavior.{Behavior}
use Rattle.ws_paths.specs.declared.behavior.Behavior.TheVariants as behavior
use Rattle.wst_commands.specs.declared.time_limit.TimeLimit.{TimeLimit}
use Rattle.wst_commands.specs.declared.time_limit.TimeLimit.TheVariants.{Seconds, Unlimited}

-- a client has asked for the case
abbrev pub was_run : Behavior → Bool
was_run behavior.Unimplemented = false
was_run behavior.Ok = true
was_run behavior.NonStrict = true
was_run behavior.Failed = true

-- so many of the cases were run, each counted once
abbrev pub run_count : List Behavior → ℕ
run_count behaviors = length (filter was_run behaviors)

abbrev pub late_line : ℕ → ℕ → ℕ → List ℕ
late_line seconds run all = concat (codes "no client for " ∷ decimal seconds ∷ codes " seconds: " ∷ decimal run
    ∷ codes " of " ∷ decimal all ∷ codes " cases were run\n" ∷ [])

-- what is told where a client was waited for so long in vain, and so many of so many cases were run
abbrev pub late_texts : TimeLimit → ℕ → ℕ → List (List ℕ)
late_texts Unlimited run all = []
late_texts (Seconds seconds) run all = late_line seconds run all ∷ []
