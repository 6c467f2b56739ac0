-- Worked examples of scripts of calls and of the lines that tell what came of them, each a theorem.
use Rattle.std.specs.Prelude.{◌≡◌, ⊤, [], ◌∷◌, Some, codes, refl}
use Rattle.std.specs.Fmt.{digits}
use Rattle.ws_session.specs.declared.event.Event.TheVariants as event
use Rattle.ws_session.specs.declared.reason.Reason.TheVariants.{TooBig}
use Rattle.ws_session.specs.declared.send_fault.SendFault.TheVariants.{Busy}
use Rattle.ws_session.specs.declared.status.Status.TheVariants.{Open}
use Rattle.ws_calls.specs.declared.calls.Call.TheVariants.{End}
use Rattle.ws_calls.specs.declared.report.CallAnswer.TheVariants.{Refused, Taken}
use Rattle.ws_calls.specs.CallLines.{answer_lines, calls_lines, event_line}
use Rattle.ws_calls.specs.Script.{IsCallLine}

-- what is computed at numbers that are written out
unfoldable on_numbers : ⊤
unfolding digits
on_numbers = tt

pub end_line : IsCallLine End (codes "end")
end_line = ([], refl, refl)

pub ping_line : event_line (record { place = 3; event = event.Ping (7 ∷ []) }) ≡ codes "3 ping 07\n"
unfolding on_numbers
ping_line = refl

pub close_line : event_line (record { place = 12; event = event.Close (Some (record { code = 1001; reason = [] })) })
    ≡ codes "12 close 1001 -\n"
unfolding on_numbers
close_line = refl

pub failed_line : event_line (record { place = 2; event = event.Failed TooBig }) ≡ codes "2 failed TooBig\n"
unfolding on_numbers
failed_line = refl

pub empty_piece : answer_lines (Taken [] 0 []) ≡ codes "taken 0 put -\n"
unfolding on_numbers
empty_piece = refl

pub one_byte : answer_lines (Taken [] 1 []) ≡ codes "taken 1 put -\n"
unfolding on_numbers
one_byte = refl

pub busy_refused : answer_lines (Refused Busy) ≡ codes "refused Busy\n"
busy_refused = refl

-- the report of no calls
pub nothing_asked : calls_lines (record { answers = []; held = Some 0; status = Open }) ≡ codes "held 0\nstatus open\n"
unfolding on_numbers
nothing_asked = refl
