-- Worked examples of scripts and reports, each a theorem.
use Rattle.std.specs.Prelude.{◌≡◌, ⊤, [], codes, refl}
use Rattle.std.specs.Fmt.{digits}
use Rattle.ws_session.specs.declared.send_fault.SendFault.TheVariants.{Busy}
use Rattle.ws_pair.specs.declared.moves.End.TheVariants.{Client}
use Rattle.ws_pair.specs.declared.moves.Move.TheVariants.{Cut}
use Rattle.ws_pair.specs.declared.report.Answer.TheVariants.{Arrived, Refused}
use Rattle.ws_pair.specs.ReportLines.{answer_line}
use Rattle.ws_pair.specs.Script.{IsMoveLine}

-- what is computed at numbers that are written out
unfoldable on_numbers : ⊤
unfolding digits
on_numbers = tt

-- a line is the words of its move, parted by one space
pub cut_line : IsMoveLine (Cut Client) (codes "cut client")
cut_line = (codes "cut", [], (refl, refl), refl)

-- the lines of what came of moves
pub eight_arrived : answer_line (Arrived 8) ≡ codes "arrived 8\n"
unfolding on_numbers
eight_arrived = refl

pub busy_refused : answer_line (Refused Busy) ≡ codes "refused Busy\n"
busy_refused = refl
