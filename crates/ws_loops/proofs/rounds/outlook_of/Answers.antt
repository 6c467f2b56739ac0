-- Before its time nothing is due.
use Rattle.std.proofs.Common.{◌∙◌, ℕ, Option, subst, sym}
use Rattle.std.proofs.lemmas.Bool.{false≢true}
use Rattle.ws_loops.specs.Paces.{IsBefore}
use Rattle.ws_loops.proofs.LawLemmas.{not_due_before}
use Rattle.ws_loops.proofs.rounds.outlook_of.Goals as goal

pub returns-else-is_due : goal.returns-else-is_due
returns-else-is_due g c =
    let undone = sym c.is_done.ensures ∙ c.if-is_done.false in (
      λ over. false≢true (sym undone ∙ over),
      λ t before. not_due_before (g.M.Machine.wants c.args.slot.now.machine) c.args.slot.now.pace c.args.now t undone
          (sym c.is_due.ensures ∙ c.if-is_due.false) (subst (λ (o : Option ℕ). IsBefore t o) c.due_at.ensures before),
    )
