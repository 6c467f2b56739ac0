-- It is listed, or it has ended and gets the next number.
use Rattle.std.proofs.Common.{◌∙◌, Some, inl, refl, rules, sym}
use Rattle.std.proofs.lemmas.Bool.{false≢true}
use Rattle.ws_loops.proofs.InsideLemmas.{stays_true}
use Rattle.ws_loops.specs.declared.places.Place.TheVariants.{Open}
use Rattle.ws_loops.proofs.LoopLemmas.{empty_has_none, keep_still, turns_kept, whole_put, whole_put_done}
use Rattle.ws_loops.proofs.PlaceLemmas.{length_set}
use Rattle.ws_loops.proofs.SeatLemmas.{turns_given}
use Rattle.ws_loops.proofs.looping.put_inside.Goals as goal

pub returns-then-done-clause-whole : goal.returns-then-done-clause-whole
returns-then-done-clause-whole g c = whole_put_done g.M.Machine.agrees g.M.Machine.wants c.args.inside.now _
    c.args.at (Open c.args.slot) c.requires.whole c.requires.empty c.requires.able (sym c.is_done-done.ensures
    ∙ c.if-done.true) refl
    refl refl refl refl (search rules) refl refl refl refl refl

pub returns-then-done-clause-turns : goal.returns-then-done-clause-turns
returns-then-done-clause-turns g c =
    let seats = c.args.inside.now.seats in
    turns_kept g.M.Machine.agrees g.M.Machine.wants seats _ c.requires.whole.standing
    (length_set seats.tickets.items c.args.at (Some seats.agenda.given)) (turns_given seats.tickets.items c.args.at seats.agenda.given
    (empty_has_none g.M.Machine.agrees g.M.Machine.wants seats c.args.at c.requires.whole.standing c.requires.empty))

pub returns-clause-whole : goal.returns-clause-whole
returns-clause-whole g c =
    let listed = c.list_place.ensures in
    whole_put g.M.Machine.agrees g.M.Machine.wants c.args.inside.now _ c.args.at (Open c.args.slot) c.requires.whole
    c.requires.empty c.requires.able (λ over. false≢true (sym c.if-done.false ∙ (c.is_done-done.ensures ∙ over))) refl
    (inl listed.own) refl refl refl (λ i other. refl) refl c.requires.whole.standing.tree refl refl
    listed.stay (λ yes. stays_true c.args.inside.now.seats.agenda.all c.list_place.new.all listed.any yes) refl refl

pub returns-clause-turns : goal.returns-clause-turns
returns-clause-turns g c = keep_still c.args.inside.now.seats.tickets.items
