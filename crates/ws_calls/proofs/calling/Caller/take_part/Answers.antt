-- A part that was taken whole is counted by its bytes, and its events are told at their places in all bytes taken.
use Rattle.std.proofs.Common.{◌≡◌, ◌∙◌, ◌+◌, ◌++◌, List, ap, length, rules, string_bytes, subst}
use Rattle.ws_session.specs.Taking.{HasTakenAll, TakeCall}
use Rattle.ws_session.specs.declared.event.PlacedEvent.{PlacedEvent}
use Rattle.ws_calls.specs.InnerSteps.{told_behind}
use Rattle.ws_calls.proofs.calling.Caller.take_part.Goals as goal

pub returns : goal.returns
returns g c =
    let call : TakeCall = record { piece = c.args.part.now; key = c.args.key; before = c.args.self.now.put.items; after = c.take_whole.new.out.items } in
    let told = c.take_whole.new.events.items in
    let count : c.in-Some.taken ≡ c.args.self.now.taken + length c.args.part.now = search rules in (
      told,
      subst (λ (l : List PlacedEvent). HasTakenAll g.E.Scripted.reply (g.E.Scripted.value c.args.self.now.called) (g.E.Scripted.value c.take_whole.new.self) call l told) c.clear.ensures.items c.in_ok-take_whole.ensures,
      count,
      c.in_ok-tell_events.ensures ∙ ap (λ (l : List PlacedEvent). string_bytes c.args.self.now.lines ++ told_behind c.args.self.now.taken l) c.as_slice.ensures.value,
    )
