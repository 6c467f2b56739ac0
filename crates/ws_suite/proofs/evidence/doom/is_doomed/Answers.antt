-- The session tells it of the bytes that it took.
use Rattle.std.specs.List.{concat}
use Rattle.ws_suite.specs.InnerDoom.{HasTakenBytes}
use Rattle.ws_suite.proofs.DoomLemmas.{told_of_bytes}
use Rattle.ws_suite.proofs.evidence.doom.is_doomed.Goals as goal

pub returns : goal.returns
returns c = λ role turns h.
    let took : HasTakenBytes role (concat turns) c.args.taken.now.session =
    record { sent = h.sent; exchanged = h.exchanged; same_role = h.same_role; limits = h.limits } in
    told_of_bytes c.doomed_streams_go_on.ensures role (concat turns) c.args.taken.now.session c.is_doomed.result took
    c.is_doomed.ensures.stream c.is_doomed.ensures.over
