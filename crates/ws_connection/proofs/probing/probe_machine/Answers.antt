-- The machine begins with the request and the pieces of the script's turns.
use Rattle.std.proofs.Common.{◌∙◌, List, ℕ, ap, subst, sym}
use Rattle.std.specs.Prelude.{Some, map}
use Rattle.std.specs.List.{concat}
use Rattle.ws_scripts.specs.Scripts.{turns_of}
use Rattle.ws_tester.specs.Outgoings.{HaveBytes, Pieces}
use Rattle.ws_connection.proofs.ProbingLemmas.{bytes_are, pieces_have_bytes}
use Rattle.ws_connection.proofs.probing.probe_machine.Goals as goal

pub returns-clause-begins : goal.returns-clause-begins
returns-clause-begins c =
    let case = c.args.case.now in
    let key = Some c.args.asked.now.key in
    let script = c.in_ok-script.script in
    let machine = c.new in
    record {
      asked = machine.ensures.asked ∙ c.probe_plan-plan.ensures;
      bytes = ap (λ (l : List Pieces). map (λ (pieces : List (List ℕ)). concat pieces) l) machine.ensures.script
          ∙ bytes_are case.chop key (turns_of case.steps) script c.in_ok-script.ensures;
      has_bytes = subst (λ (l : List Pieces). HaveBytes l) (sym machine.ensures.script)
          (pieces_have_bytes case.chop key (turns_of case.steps) script c.in_ok-script.ensures);
      request_is = machine.ensures.request ∙ c.in_ok-request.ensures;
      none_read = machine.ensures.read;
      opens = machine.ensures.stage;
    }
