-- How the cases of a run stand, and with which connection it ends.
use Rattle.std.specs.Prelude.{ℕ, ◌-◌, ◌==◌, Bool, true, false, List, replicate, slice_index_or, slice_set}
use Rattle.ws_paths.specs.declared.behavior.Behavior.{Behavior}
use Rattle.ws_paths.specs.declared.behavior.Behavior.TheVariants.{Unimplemented}
use Rattle.ws_paths.specs.declared.purpose.Purpose.{Purpose}
use Rattle.ws_paths.specs.declared.purpose.Purpose.TheVariants.{CaseCount, CaseInfo, CaseStatus, NextCase, NoCase}
use Rattle.ws_paths.specs.declared.purpose.Purpose.TheVariants.{RunCase, UpdateReports}

-- what came of each case, and how many of them were run for paths without a meaning of their own
pub record StandingValue : Type 0 where
  pub behaviors : List Behavior
  pub asked : ℕ

-- of so many cases none was run
abbrev pub none_run : ℕ → StandingValue
none_run count = record { behaviors = replicate count Unimplemented; asked = 0 }

-- this came of the case of this number, counted from 1
abbrev pub with_behavior : StandingValue → ℕ → Behavior → StandingValue
with_behavior standing number behavior =
    record standing { behaviors = slice_set standing.behaviors (number - 1) behavior }

-- what came of the case of this number
abbrev pub behavior_of : StandingValue → ℕ → Behavior
behavior_of standing number = slice_index_or standing.behaviors (number - 1) Unimplemented

-- after a connection for this purpose: what came of a case takes the place of what came of it before
abbrev pub after_connection : StandingValue → Purpose → Behavior → StandingValue
after_connection standing (RunCase number) behavior = with_behavior standing number behavior
after_connection standing (NextCase number) behavior = record {
  behaviors = slice_set standing.behaviors (number - 1) behavior;
  asked = number;
}
after_connection standing CaseCount behavior = standing
after_connection standing (CaseInfo number) behavior = standing
after_connection standing (CaseStatus number) behavior = standing
after_connection standing UpdateReports behavior = standing
after_connection standing NoCase behavior = standing

-- a run of so many cases ends with a connection for this purpose
abbrev pub ends_run : ℕ → Purpose → Bool
ends_run count UpdateReports = true
ends_run count (NextCase number) = number == count
ends_run count CaseCount = false
ends_run count (RunCase number) = false
ends_run count (CaseInfo number) = false
ends_run count (CaseStatus number) = false
ends_run count NoCase = false
