-- The status of a run.
use Rattle.std.proofs.Common.{◌≤◌, arith}
use Rattle.wst_commands.specs.Exits.{exit_status}
use Rattle.wst_commands.specs.declared.exit.Exit.{Exit}
use Rattle.wst_commands.specs.declared.exit.Exit.TheVariants.{Damaged, Done, Failed, WrongWords}

pub status_up_to_3 : (exit : Exit) → exit_status exit ≤ 3
status_up_to_3 Done = omega arith
status_up_to_3 Damaged = omega arith
status_up_to_3 WrongWords = omega arith
status_up_to_3 Failed = omega arith
