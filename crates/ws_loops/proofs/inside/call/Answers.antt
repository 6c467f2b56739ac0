-- It is called as it was found, and listed, or was called before.
use Rattle.std.proofs.Common.{◌∙◌, None, Option, Some, ap, arith, inl, inr, refl, sym}
use Rattle.std.specs.List.{slice_get}
use Rattle.ws_loops.specs.declared.poller.Readiness.{Readiness}
use Rattle.ws_loops.proofs.InsideLemmas.{call_marked, covers_itself, marked_nothing}
use Rattle.ws_loops.proofs.inside.call.Goals as goal

pub returns-then-at-len : goal.returns-then-at-len
returns-then-at-len g c = record {
  called = (marked_nothing c.args.inside.now, λ lt. absurd (omega (arith, lt, c.if-at-len.true, c.len.ensures)));
}

pub returns-in-None : goal.returns-in-None
returns-in-None g c = record {
  called = call_marked c.args.inside.now _ c.args.at None c.args.ready c.args.ready
      (ap (λ l. slice_get l c.args.at) (sym c.as_slice.ensures.value) ∙ (c.call_at.ensures
      ∙ ap (λ (o : Option Readiness). Some o) c.in-None.is)) (covers_itself c.args.ready) refl refl refl refl refl refl
      refl refl refl refl refl c.list_place.ensures.any c.list_place.ensures.stay (inl c.list_place.ensures.own);
}

pub returns-in-Some : goal.returns-in-Some
returns-in-Some g c =
    let was = ap (λ l. slice_get l c.args.at) (sym c.as_slice.ensures.value) ∙ (c.call_at.ensures
    ∙ ap (λ (o : Option Readiness). Some o) c.in-Some.is) in
    record {
      called = call_marked c.args.inside.now _ c.args.at (Some c.in-Some.before) c.args.ready c.joined.result was
          c.joined.ensures refl refl refl refl refl refl refl refl refl refl refl (inl refl) (λ i h. h)
          (inr (c.in-Some.before, was));
    }
