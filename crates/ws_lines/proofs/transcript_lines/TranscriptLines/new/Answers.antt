-- A new list of lines has told no turn, for either role of the tested end.
use Rattle.std.proofs.Common.{◌∙◌, ap}
use Rattle.ws_wire.specs.declared.role.Role.{Role}
use Rattle.ws_frame.specs.declared.source.Source.{Source}
use Rattle.ws_frame.specs.declared.source.Mark.TheVariants.{Sent}
use Rattle.ws_lines.specs.declared.transcript_lines.Showing.{Showing}
use Rattle.ws_lines.proofs.Tellings.{nothing_told}
use Rattle.ws_lines.proofs.transcript_lines.TranscriptLines.new.Goals as goal

abbrev sent_by : Showing → Role → Source
sent_by showing from =
    record { from = from; mark = Sent; style = showing.style; fault = showing.sent_fault }

pub returns : goal.returns
returns c =
    let source =
    c.new.ensures.source ∙ ap (λ (r : Role). sent_by c.args.showing r) c.tester_of.ensures in
    record {
      begun = nothing_told c.args.showing c.new.result c.new-2.result source c.new.ensures.kept
          c.new.ensures.begun c.new-2.ensures.source c.new-2.ensures.kept c.new-2.ensures.begun;
    }
