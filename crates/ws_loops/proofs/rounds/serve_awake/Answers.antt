-- Each thing that is done is one more, with its lines; at the end nothing is due, or the share is used up.
use Rattle.std.proofs.Common.{◌∙◌, ◌++◌, List, [], ℕ, arith, inl, inr, refl, subst, sym}
use Rattle.ws_loops.specs.Sinks.{HasTakenLines, said_at}
use Rattle.ws_loops.proofs.RunLemmas.{nothing_happened, one_more, put_broken, served_so}
use Rattle.ws_loops.proofs.SinkLemmas.{put_nothing, put_then, said_then}
use Rattle.ws_loops.proofs.rounds.serve_awake.Goals as goal
use Rattle.ws_loops.proofs.rounds.serve_awake.Goals.{then-loop-share-test+else-is_due, else-loop-share-test}

pub loop-share-init : goal.loop-share-init
loop-share-init g c = record {
  room = c.requires.room;
  able = c.requires.able;
  so_far = (
    [],
    put_nothing g.K.LineSink.heard c.args.sink.now,
    (
      [],
      nothing_happened g.M.Machine.agrees g.M.Machine.wants g.S.NonBlocking.did c.args.now c.args.now c.args.slot.now
          (omega arith),
      refl,
      refl,
    ),
  );
}

pub loop-share-preserved : goal.loop-share-preserved
loop-share-preserved g c =
    let heard = g.K.LineSink.heard in
    let at = c.args.at in
    let (lines, put, so_far) = c.loop-share.invariant.so_far in
    let (more, putting, stepped) = c.in-Ok.ensures.step in
    record {
      room = omega (arith, c.loop-share.invariant.room, c.in-Ok.ensures.len);
      able = stepped.able;
      so_far = (
        lines ++ more,
        subst (λ (l : List (ℕ × List ℕ)). HasTakenLines heard c.args.sink.now c.step.new.sink l)
            (sym (said_then at lines more))
            (put_then heard c.args.sink.now c.loop-share.sink c.step.new.sink (said_at at lines) (said_at at more) put
            putting),
        one_more g.M.Machine.agrees g.M.Machine.wants g.S.NonBlocking.did c.args.now c.args.slot.now
            c.loop-share.slot c.step.new.slot c.loop-share.share c.in-Ok.moved lines more stepped.deed so_far
            stepped.step stepped.moved_by stepped.shown c.in-Ok.ensures.share,
      );
    }

pub returns-in-Err-clause-put : goal.returns-in-Err-clause-put
returns-in-Err-clause-put g c =
    let (lines, put, so_far) = c.loop-share.invariant.so_far in
    put_broken g.M.Machine.agrees g.M.Machine.wants g.S.NonBlocking.did g.K.LineSink.heard c.args.at c.args.sink.now
    c.loop-share.sink c.step.new.sink c.args.now c.args.slot.now c.loop-share.slot c.loop-share.share lines c.in-Err.why
    put so_far (sym c.is_due.ensures ∙ c.if-is_due.true) c.in-Err.ensures.put

pub returns-clause-served : goal.returns-clause-served
returns-clause-served g c =
    let (lines, put, so_far) = c.loop-share.invariant.so_far in (
      lines,
      put,
      served_so g.M.Machine.agrees g.M.Machine.wants g.S.NonBlocking.did c.args.now c.args.slot.now c.loop-share.slot
          c.loop-share.share lines so_far (elim c.loop-share-test.branch [
            | then-loop-share-test+else-is_due w ↦ inl (sym w.is_due.ensures ∙ w.if-is_due.false)
            | else-loop-share-test w ↦ inr (omega (arith, w.loop-share-test.false))
          ]),
    )
