-- The line of no case tells none, and copies tell what the parts tell.
use Rattle.std.proofs.Common.{rules, string_bytes}
use Rattle.ws_reports.proofs.Parts.{case_copied, none_read}
use Rattle.ws_reports.proofs.known_line.read_case_line.Goals as goal

pub returns-in_default : goal.returns-in_default
returns-in_default c = λ e found told. none_read c.args.line.now found c.in_default.ensures told

pub returns : goal.returns
returns c =
    case_copied c.args.line.now c.in-Some.id.now c.in-Some.words.now c.in_ok-id.id (string_bytes c.in_ok-words.words)
    c.in-Some.ensures (search rules) (search rules)
