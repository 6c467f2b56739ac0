-- Nothing is due there before its time; or it has ended and gets the next number.
use Rattle.std.proofs.Common.{◌∙◌, ◌<◌, List, Option, Some, ap, arith, inr, length, refl, rules, sym, ℕ}
use Rattle.std.proofs.lemmas.Bool.{false≢true}
use Rattle.std.specs.List.{slice_get}
use Rattle.std.proofs.lemmas.Option.{slice_get_within}
use Rattle.ws_loops.specs.declared.places.Place.TheVariants.{Empty, Pending}
use Rattle.ws_loops.proofs.LoopLemmas.{empty_has_none, keep_still, times_other, turns_kept, watch_rests, whole_put}
use Rattle.ws_loops.proofs.LoopLemmas.{whole_put_done}
use Rattle.ws_loops.proofs.PlaceLemmas.{get_set_same, length_set}
use Rattle.ws_loops.proofs.SeatLemmas.{turns_given}
use Rattle.ws_loops.proofs.looping.watch_inside.Goals as goal

pub returns-then-watch-clause-whole : goal.returns-then-watch-clause-whole
returns-then-watch-clause-whole g c = whole_put_done g.M.Machine.agrees g.M.Machine.wants c.args.inside.now _
    c.args.at (Pending c.args.watch) c.requires.whole c.requires.empty tt c.if-watch.true refl
    refl refl refl refl (search rules) refl refl refl refl refl

pub returns-then-watch-clause-turns : goal.returns-then-watch-clause-turns
returns-then-watch-clause-turns g c =
    let seats = c.args.inside.now.seats in
    turns_kept g.M.Machine.agrees g.M.Machine.wants seats _ c.requires.whole.standing
    (length_set seats.tickets.items c.args.at (Some seats.agenda.given)) (turns_given seats.tickets.items c.args.at seats.agenda.given
    (empty_has_none g.M.Machine.agrees g.M.Machine.wants seats c.args.at c.requires.whole.standing c.requires.empty))

pub returns-clause-turns : goal.returns-clause-turns
returns-clause-turns g c = keep_still c.args.inside.now.seats.tickets.items

pub returns-clause-whole : goal.returns-clause-whole
returns-clause-whole g c =
    let old = c.args.inside.now in
    let times = old.seats.agenda.limits.times.items in
    let lt : c.args.at < length times = omega (
      arith,
      c.requires.whole.standing.limits,
      slice_get_within old.seats.places.items c.args.at Empty c.requires.empty,
    ) in
    whole_put g.M.Machine.agrees g.M.Machine.wants old _ c.args.at (Pending c.args.watch) c.requires.whole
    c.requires.empty tt (λ over. false≢true (sym c.if-watch.false ∙ over)) refl (inr (
      c.args.watch.until,
      ap (λ (l : List (Option ℕ)). slice_get l c.args.at) c.set_limit.ensures.set
          ∙ get_set_same times c.args.at c.args.watch.until lt,
      watch_rests g.row.S.Denot g.M.Machine.wants c.args.watch c.if-watch.false,
    )) refl refl refl
    (λ i other. times_other times c.set_limit.new.limits.times.items c.args.at c.args.watch.until
    c.set_limit.ensures.set i other)
    (ap (λ (l : List (Option ℕ)). length l) c.set_limit.ensures.set ∙ length_set times c.args.at c.args.watch.until)
    c.set_limit.ensures.tree refl refl (λ i l. l) (λ e. e) refl refl
