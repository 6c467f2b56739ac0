-- Where it isn't called, or there is none of its number, nothing has changed.
use Rattle.std.proofs.Common.{◌∙◌, Option, Some, ap, arith, inl, inr, refl, sym}
use Rattle.std.specs.List.{slice_get}
use Rattle.ws_loops.specs.declared.poller.Readiness.{Readiness}
use Rattle.ws_loops.proofs.PlaceLemmas.{kinds_same}
use Rattle.ws_loops.proofs.SeatLemmas.{once_still}
use Rattle.ws_loops.proofs.SinkLemmas.{put_nothing}
use Rattle.ws_loops.proofs.rounds.serve_at.Goals as goal

pub returns-then-at-len-clause-served : goal.returns-then-at-len-clause-served
returns-then-at-len-clause-served g c = once_still g.M.Machine.agrees g.M.Machine.wants g.S.NonBlocking.did
    g.K.LineSink.heard c.args.now c.args.at c.args.seats.now c.args.seats.now c.args.sink.now c.args.sink.now refl
    (inr (omega (arith, c.requires.standing.calls, c.if-at-len.true, c.len.ensures)))
    (put_nothing g.K.LineSink.heard c.args.sink.now)

pub returns-then-at-len-clause-kinds : goal.returns-then-at-len-clause-kinds
returns-then-at-len-clause-kinds g c = kinds_same c.args.seats.now.places.items

pub returns-in-None-clause-served : goal.returns-in-None-clause-served
returns-in-None-clause-served g c = once_still g.M.Machine.agrees g.M.Machine.wants g.S.NonBlocking.did
    g.K.LineSink.heard c.args.now c.args.at c.args.seats.now c.args.seats.now c.args.sink.now c.args.sink.now refl
    (inl (ap (λ l. slice_get l c.args.at) (sym c.as_slice.ensures.value) ∙ (c.call_at.ensures
    ∙ ap (λ (o : Option Readiness). Some o) c.in-None.is))) (put_nothing g.K.LineSink.heard c.args.sink.now)

pub returns-in-None-clause-kinds : goal.returns-in-None-clause-kinds
returns-in-None-clause-kinds g c = kinds_same c.args.seats.now.places.items

pub serve_called-requires-clause-call : goal.serve_called-requires-clause-call
serve_called-requires-clause-call g c = ap (λ l. slice_get l c.args.at) (sym c.as_slice.ensures.value)
    ∙ (c.call_at.ensures ∙ ap (λ (o : Option Readiness). Some o) c.in-Some.is)
