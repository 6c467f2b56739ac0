-- The end is taken out of its place, and put there again, with what is asked now.
use Rattle.std.proofs.Common.{◌≡◌, ◌∙◌, Some, ap, false, is_some, rules, true}
use Rattle.std.specs.List.{slice_get}
use Rattle.std.proofs.lemmas.Option.{slice_get_within}
use Rattle.ws_loops.proofs.PlaceLemmas.{get_set_same}
use Rattle.ws_loops.specs.declared.places.Place.TheVariants.{Empty, Pending}
use Rattle.ws_relays.specs.EndPlaces.{ends_there}
use Rattle.ws_relays.specs.declared.ends.Beside.TheVariants.{Held}
use Rattle.ws_relays.proofs.EndPlaceLemmas.{asked_anew, asked_held, asked_late, both_free, both_lifted, lifted_free}
use Rattle.ws_relays.proofs.EndPlaceLemmas.{lifted_so, seen_at, seen_slot, within_all, within_places}
use Rattle.ws_relays.proofs.ends.Ends.ask.Goals as goal

pub lift-requires : goal.lift-requires
lift-requires g c = record {
  at = within_places c.self.inside.all.places c.self.inside.beside.items c.args.self.now c.self.view_is c.args.at
      (slice_get_within c.args.self.now c.args.at c.requires.there.0 c.requires.there.1);
}

pub open-requires-clause-slotless : goal.open-requires-clause-slotless
open-requires-clause-slotless g c = (
  Empty,
  ap (λ l. slice_get l c.args.at) c.lift.ensures.empty ∙ get_set_same c.self.inside.all.places c.args.at Empty
      (within_places c.self.inside.all.places c.self.inside.beside.items c.args.self.now c.self.view_is c.args.at
      (slice_get_within c.args.self.now c.args.at c.requires.there.0 c.requires.there.1)),
  tt,
)

pub returns-then-is_done : goal.returns-then-is_done
returns-then-is_done g c =
    let done : is_some c.in-Open.slot.machine.happened ≡ true = search rules in record {
      asked = asked_late g.S.NonBlocking.did c.args.at c.args.ask c.self.inside.all.places c.lift.new.self.places
          c.open.new.self.places c.self.inside.beside.items c.args.self.now c.in-Open.slot c.self.view_is
          (slice_get_within c.args.self.now c.args.at c.requires.there.0 c.requires.there.1)
          (c.lift.ensures.lifted ∙ ap (λ p. Some p) c.in-Open.is) c.lift.ensures.empty c.open.ensures.put done;
    }

pub ask_held-requires : goal.ask_held-requires
ask_held-requires g c = record {
  free = lifted_free c.self.inside.all.places c.self.inside.beside.items c.args.self.now c.self.view_is c.args.at
      c.lift.new.self.places c.lift.ensures.empty
      (slice_get_within c.args.self.now c.args.at c.requires.there.0 c.requires.there.1);
}

pub taken_from-requires : goal.taken_from-requires
taken_from-requires g c = within_all c.self.inside.all.places c.self.inside.beside.items c.args.self.now
    c.self.view_is c.args.at (slice_get_within c.args.self.now c.args.at c.requires.there.0 c.requires.there.1)

pub ask_held-requires-in-Held : goal.ask_held-requires-in-Held
ask_held-requires-in-Held g c = record {
  free = both_free c.self.inside.all.places c.self.inside.beside.items c.args.self.now c.self.view_is c.args.at
      c.lift.new.self.places c.taken_from.new.all.items c.lift.ensures.empty c.taken_from.ensures.nothing
      (slice_get_within c.args.self.now c.args.at c.requires.there.0 c.requires.there.1);
}

pub returns-else-is_done : goal.returns-else-is_done
returns-else-is_done g c =
    let none : is_some c.in-Open.slot.machine.happened ≡ false = search rules in
    let within = slice_get_within c.args.self.now c.args.at c.requires.there.0 c.requires.there.1 in record {
      asked = asked_anew g.S.NonBlocking.did c.args.at c.args.ask c.args.self.now
          (ends_there c.lift.new.self.places c.self.inside.beside.items) c.ask_held.new.self c.in-Open.slot
          (lifted_so c.self.inside.all.places c.self.inside.beside.items c.args.self.now c.self.view_is c.args.at
          c.lift.new.self.places c.lift.ensures.empty within)
          (seen_slot c.self.inside.all.places c.self.inside.beside.items c.args.self.now c.self.view_is c.args.at
          c.in-Open.slot within (c.lift.ensures.lifted ∙ ap (λ p. Some p) c.in-Open.is)) none c.ask_held.ensures.asked;
    }

pub returns-in-Held : goal.returns-in-Held
returns-in-Held g c = record {
  asked = asked_held g.S.NonBlocking.did c.args.at c.args.ask c.args.self.now
      (ends_there c.lift.new.self.places c.taken_from.new.all.items) c.ask_held-in-Held.new.self c.in-Held.stream
      (both_lifted c.self.inside.all.places c.self.inside.beside.items c.args.self.now c.self.view_is c.args.at
      c.lift.new.self.places c.taken_from.new.all.items c.lift.ensures.empty c.taken_from.ensures.nothing)
      (seen_at c.self.inside.all.places c.self.inside.beside.items c.args.self.now c.self.view_is c.args.at
      (Pending c.in-Pending.field-0) (Held c.in-Held.stream c.in-Held.pace)
      (c.lift.ensures.lifted ∙ ap (λ p. Some p) c.in-Pending.is)
      (c.taken_from.ensures.taken ∙ ap (λ x. Some x) c.in-Held.is)) c.ask_held-in-Held.ensures.asked;
}
