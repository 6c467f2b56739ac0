-- The mark is that of the first.
use Rattle.std.proofs.Common.{◌∙◌, ap, rules}
use Rattle.ws_pages.specs.Page.{have_mark}
use Rattle.ws_runs.specs.declared.mark.Mark.{Mark}
use Rattle.ws_pages.proofs.SameMarks.{same_as_first}
use Rattle.ws_pages.proofs.marks.is_same.Goals as goal

pub returns-in-len1-up : goal.returns-in-len1-up
returns-in-len1-up c =
    let peers = c.args.peers.now in
    let id = c.args.id.now in
    c.have_mark.ensures
    ∙ ap (λ (m : Mark). have_mark peers id m) c.mark_at.ensures
    ∙ same_as_first peers id c.first-item.result (search rules) c.first-item.is
