-- The text that tells of a case is that of the case of its number.
use Rattle.std.proofs.Common.{Some, subst, sym}
use Rattle.ws_paths.specs.declared.purpose.Purpose.{Purpose}
use Rattle.wst_clients.specs.Visits.{IsTextFor}
use Rattle.wst_clients.proofs.visiting.text_for.Goals as goal

pub returns-in_ok-text-in-CaseInfo : goal.returns-in_ok-text-in-CaseInfo
returns-in_ok-text-in-CaseInfo c =
    subst (λ (p : Purpose). IsTextFor c.args.rules.now c.args.standing.now p (Some c.in_ok-text-in-CaseInfo.text))
    (sym c.in-CaseInfo.is) (c.case_at-case.result.now, c.case_at-case.ensures.there, c.in_ok-text-in-CaseInfo.ensures)
