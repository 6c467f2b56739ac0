-- What shows no fault stands as it shows, and a fault as it counts.
use Rattle.std.proofs.Common.{◌≡◌, ◌∙◌, sym}
use Rattle.ws_tester.specs.declared.standing.Standing.TheVariants.{Going, Closed, Faulty}
use Rattle.ws_tester.proofs.ShownLemmas.{fault_stands, shown_stands}
use Rattle.ws_tester.proofs.standing.standing_of.Goals as goal

pub returns-in-Going : goal.returns-in-Going
returns-in-Going c = λ turn same grown. shown_stands c.args.plan.tested c.args.plan.expected c.args.past.now turn
    c.args.evidence.now Going (sym c.shown_standing.ensures ∙ c.in-Going.is)
    (λ e. (let wrong : Going ≡ Faulty = e in cc)) grown

pub returns-in-Closed : goal.returns-in-Closed
returns-in-Closed c = λ turn same grown. shown_stands c.args.plan.tested c.args.plan.expected c.args.past.now turn
    c.args.evidence.now Closed (sym c.shown_standing.ensures ∙ c.in-Closed.is)
    (λ e. (let wrong : Closed ≡ Faulty = e in cc)) grown

pub returns-in-Faulty : goal.returns-in-Faulty
returns-in-Faulty c = fault_stands c.args.plan.tested c.args.plan.expected c.args.past.now c.args.got.now
    c.args.evidence.now c.faulty_standing.result (sym c.shown_standing.ensures ∙ c.in-Faulty.is)
    c.faulty_standing.ensures
