-- What a run of `test` tells on the fault output beside its lines: the name of a case before it runs, where that is
-- asked for, why there is no connection to its server, after its line, and what the first cases have in common.
use Rattle.std.specs.Prelude.{ℕ, Bool, true, false, List, [], ◌∷◌, ◌++◌, Option, codes, string_bytes}
use Rattle.ws_frame.specs.Devices.{Device, IsUntouched}
use Rattle.ws_scripts.specs.declared.script.Case.{Case}
use Rattle.wst_commands.specs.Devices.{Tells}
use Rattle.wst_sockets.specs.Meetings.{miss_line}
use Rattle.wst_testing.specs.Hints.{hint_notes}
use Rattle.wst_testing.specs.declared.outcome.Outcome.{Outcome}
use Rattle.wst_testing.specs.declared.outcome.Outcome.TheVariants.{HeadRefused, Judged, NoConnection, NotRun}

-- these texts are told, one after the other
abbrev pub TellsEach : List (List ℕ) → Device → Type 0
TellsEach [] faults = IsUntouched faults
TellsEach (text ∷ texts) faults = (held : Option (List ℕ)) × Tells text (record faults { new = held })
    × TellsEach texts (record faults { old = held })

-- before a case runs
abbrev pub progress_notes : Bool → Case → List (List ℕ)
progress_notes false case = []
progress_notes true case = (string_bytes case.id ++ codes "\n") ∷ []

-- after its line
abbrev pub miss_notes : Outcome → List (List ℕ)
miss_notes (Judged told) = []
miss_notes (HeadRefused refusal) = []
miss_notes (NoConnection why) = miss_line why ∷ []
miss_notes NotRun = []

-- of cases with these outcomes behind others, where a hint is told behind some
abbrev pub notes_behind : Bool → (List Outcome → List (List ℕ)) → List Outcome → List (Case × Outcome) → List (List ℕ)
notes_behind progress hints before [] = []
notes_behind progress hints before (test ∷ tests) = progress_notes progress test.0 ++ (miss_notes test.1
    ++ (hints (before ++ test.1 ∷ []) ++ notes_behind progress hints (before ++ test.1 ∷ []) tests))

-- of the first cases of a run, with these outcomes, where it is told at this place what they have in common
abbrev pub notes_of : Bool → ℕ → List (Case × Outcome) → List (List ℕ)
notes_of progress place tests = notes_behind progress (hint_notes place) [] tests
