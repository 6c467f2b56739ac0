-- Nothing was searched, and no frame is marked.
use Rattle.std.proofs.Common.{[], subst}
use Rattle.ws_wire.specs.declared.role.Role.{Role}
use Rattle.ws_suite.specs.Evidence.{other_role}
use Rattle.ws_faults.specs.Finding.{HasSearched}
use Rattle.ws_shown.proofs.MarkedTellings.{nothing_is_marked}
use Rattle.ws_shown.proofs.marked_lines.MarkedLines.new.Goals as goal

pub returns : goal.returns
returns c = record {
  begun = record {
    sent_searched = c.new-2.ensures.begun;
    got_searched = subst (λ (r : Role). HasSearched r c.new-3.result []) c.tester_for.ensures c.new-3.ensures.begun;
    sent_mark = nothing_is_marked c.args.showing.tested;
    got_mark = nothing_is_marked (other_role c.args.showing.tested);
    lines = c.new.ensures.begun;
  };
}
