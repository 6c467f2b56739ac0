-- The exit statuses of the program.
use Rattle.std.specs.Prelude.{ℕ}
use Rattle.wst_commands.specs.declared.exit.Exit.{Exit}
use Rattle.wst_commands.specs.declared.exit.Exit.TheVariants.{Done, Damaged, WrongWords, Failed}

abbrev pub exit_status : Exit → ℕ
exit_status Done = 0
exit_status Damaged = 1
exit_status WrongWords = 2
exit_status Failed = 3
