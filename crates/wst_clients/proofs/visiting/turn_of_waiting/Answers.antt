-- Of those who wait the first that asks for a case has its turn; those before it are answered.
use Rattle.std.proofs.Common.{◌∙◌, ◌∷◌, ap, refl, subst, sym}
use Rattle.std.specs.Prelude.{Vec}
use Rattle.std.specs.declared.alloc.Global.{Global}
use Rattle.wst_commands.specs.TimeLimits.{milliseconds_of}
use Rattle.wst_clients.specs.Visitors.{IsEndAskedSo}
use Rattle.wst_clients.specs.Visits.{known_by}
use Rattle.wst_clients.specs.declared.visitors.Ending.{Ending}
use Rattle.wst_clients.specs.declared.visitors.Waiting.{Waiting}
use Rattle.wst_clients.proofs.HeldLemmas.{held_first}
use Rattle.wst_clients.proofs.TurnLemmas.{asks_case, asks_now, asks_within}
use Rattle.wst_clients.proofs.VisitingLemmas.{told_end}
use Rattle.wst_clients.proofs.VisitorLemmas.{over_more, over_same}
use Rattle.wst_clients.proofs.visiting.turn_of_waiting.Goals as goal

pub returns-in-Some-number_to_run-clause-turn : goal.returns-in-Some-number_to_run-clause-turn
returns-in-Some-number_to_run-clause-turn g c =
    let rules = c.args.round.rules.now in
    let standing = c.args.round.standing.now in
    let purpose = c.purpose-purpose.result in
    let within = asks_within rules standing c.requires.can.counted purpose c.purpose-purpose.ensures.within in (
      c.in-Some.first.request,
      record {
        accepted = c.in-Some.ensures.first (known_by rules) (milliseconds_of rules.wait) c.loop-first.invariant.are;
        is_purpose = asks_now rules standing c.requires.can.counted c.in-Some.first.request c.as_slice.result.now
            purpose c.as_slice.ensures.value c.purpose-purpose.ensures.purpose;
      },
      refl,
      within,
      asks_case rules purpose c.in-Some-number_to_run.field-0 within
          (sym c.number_to_run.ensures ∙ c.in-Some-number_to_run.is),
    )

pub returns-in-Some-number_to_run-clause-order : goal.returns-in-Some-number_to_run-clause-order
returns-in-Some-number_to_run-clause-order g c =
    let rules = c.args.round.rules.now in
    let standing = c.args.round.standing.now in (
      c.in-Some.first,
      over_same rules standing c.args.visitors.now.waiting.items c.loop-first.visitors.waiting.items
          (c.in-Some.first ∷ c.first_waiting.new.self.waiting.items) c.loop-first.invariant.over
          c.in-Some.ensures.order,
      refl,
      asks_now rules standing c.requires.can.counted c.in-Some.first.request c.as_slice.result.now
          c.purpose-purpose.result c.as_slice.ensures.value c.purpose-purpose.ensures.purpose,
    )

pub returns-in-Some-number_to_run-clause-are : goal.returns-in-Some-number_to_run-clause-are
returns-in-Some-number_to_run-clause-are g c = c.first_waiting.ensures.stay.stay (known_by c.args.round.rules.now)
    (milliseconds_of c.args.round.rules.now.wait) c.loop-first.invariant.are

pub loop-first-preserved : goal.loop-first-preserved
loop-first-preserved g c =
    let rules = c.args.round.rules.now in
    let standing = c.args.round.standing.now in
    let asks = asks_now rules standing c.requires.can.counted c.in-Some.first.request c.as_slice.result.now
    c.purpose-purpose.result c.as_slice.ensures.value c.purpose-purpose.ensures.purpose in
    let (held, nobody, accepted) = held_first g.L.Client.NonBlocking.did c.loop-first.visitors
    c.first_waiting.new.self c.in-Some.first c.in-Some.ensures.order c.first_waiting.ensures.clients
    c.loop-first.invariant.held in record {
      held = c.in_ok-answer-in-None.ensures.held nobody held;
      are = c.answer.ensures.stay.stay (known_by rules) (milliseconds_of rules.wait)
          (c.first_waiting.ensures.stay.stay (known_by rules) (milliseconds_of rules.wait)
          c.loop-first.invariant.are);
      over = over_same rules standing c.args.visitors.now.waiting.items c.first_waiting.new.self.waiting.items
          c.answer.new.visitors.waiting.items
          (over_more rules standing c.args.visitors.now.waiting.items c.loop-first.visitors.waiting.items
          c.in-Some.first c.first_waiting.new.self.waiting.items c.loop-first.invariant.over
          c.in-Some.ensures.order
          (c.purpose-purpose.result, asks, sym c.number_to_run.ensures ∙ c.in-None.is))
          (sym (ap (λ (v : Vec Waiting Global). v.items) c.answer.ensures.queue.0));
      ending = c.answer.ensures.queue.1 ∙ c.first_waiting.ensures.ending ∙ c.loop-first.invariant.ending;
    }

pub returns-in-Answered-clause-turn : goal.returns-in-Answered-clause-turn
returns-in-Answered-clause-turn g c =
    let rules = c.args.round.rules.now in
    told_end rules c.args.round.standing.now (subst (λ (e : Ending). IsEndAskedSo (known_by rules) e) c.in-Answered.is
    (c.first_waiting.ensures.stay.stay (known_by rules) (milliseconds_of rules.wait) c.loop-first.invariant.are).ending)

pub returns-in-Some-number_to_run-clause-held : goal.returns-in-Some-number_to_run-clause-held
returns-in-Some-number_to_run-clause-held g c =
    let (held, nobody, accepted) = held_first g.L.Client.NonBlocking.did c.loop-first.visitors
    c.first_waiting.new.self c.in-Some.first c.in-Some.ensures.order c.first_waiting.ensures.clients
    c.loop-first.invariant.held in held

pub returns-in-Some-number_to_run-clause-asked : goal.returns-in-Some-number_to_run-clause-asked
returns-in-Some-number_to_run-clause-asked g c =
    let (held, nobody, accepted) = held_first g.L.Client.NonBlocking.did c.loop-first.visitors
    c.first_waiting.new.self c.in-Some.first c.in-Some.ensures.order c.first_waiting.ensures.clients
    c.loop-first.invariant.held in record {
      nobody = nobody;
      request = c.in-Some.first.request;
      accepted = accepted;
      asks = asks_now c.args.round.rules.now c.args.round.standing.now c.requires.can.counted
          c.in-Some.first.request c.as_slice.result.now c.purpose-purpose.result c.as_slice.ensures.value
          c.purpose-purpose.ensures.purpose;
      behind = refl;
    }
