-- Turn after turn the lines of the transcript are written; where a write fails, a beginning of all of them was written.
use Rattle.std.proofs.Common.{arith, ◌∙◌, ◌^◌, ◌<◌, ◌≡◌, ◌++◌, ◌∷◌, [], List, ℕ, length, take, length-take, take_all, sym, ap, subst, append-nil, refl, rules}
use Rattle.std.proofs.lemmas.Result.{err_from_is_err_and}
use Rattle.std.specs.List.{flat_map}
use Rattle.std.proofs.KnownBytes.{Appends-trans}
use Rattle.ws_frame.specs.FrameStreaming.{is_of_a_write}
use Rattle.ws_scripts.specs.declared.transcript.Turn.{Turn}
use Rattle.ws_scripts.specs.declared.transcript.Ended.{Ended}
use Rattle.ws_scripts.specs.declared.transcript.Transcript.{Transcript}
use Rattle.ws_scripts.specs.Pieces.{lent_turn}
use Rattle.ws_scripts.proofs.WalkLemmas.{is_there, others_left, within}
use Rattle.ws_lines.specs.TurnLines.{HasTurnLines}
use Rattle.ws_lines.specs.Telling.{begun_turn}
use Rattle.ws_lines.proofs.Directions.{one_more}
use Rattle.ws_lines.proofs.Tellings.{begun_behind, may_end_so, takes_where_it_lacks, write_may_end}
use Rattle.ws_lines.proofs.Wholes.{places_fit, turn_in_place, text_before_got, text_before_end, begun_text}
use Rattle.ws_lines.proofs.showing.show_transcript.Goals as goal

pub loop-number-init : goal.loop-number-init
loop-number-init g c =
    let left = c.turns-walk.ensures ∙ ap (λ (t : Transcript). t.turns) c.as_transcript-lent.ensures in
    record {
      works = c.requires.writer_works;
      told = ([], search rules, c.new-lines.ensures.begun);
      left = left;
      count = c.len-number-end.ensures ∙ ap (λ (l : List Turn). length l) left;
    }

pub begin_turn-requires-clause-room : goal.begin_turn-requires-clause-room
begin_turn-requires-clause-room g c =
    let i = c.loop-number._number in
    let turns = (g.T.AsTranscript.transcript c.args.transcript.now).turns in
    let turn = lent_turn c.take_first-turn.result in
    let others = c.take_first-turn.new.self in
    let at = sym c.take_first-turn.ensures ∙ c.loop-number.invariant.left in
    let less = within turns i turn others at in
    let is = is_there turns i turn others at in
    let (written, wrote, told) = c.loop-number.invariant.told in
    let fit : length (flat_map (λ (t : Turn). t.sent) turns) < 2 ^ 64 = c.requires.places.0 in
    let room = places_fit (λ (t : Turn). t.sent) turns i turn less is fit in
    (c.args.showing, take i turns, written, told, omega (arith, room), omega (arith, length-take i turns, c.loop-number-test.true))

pub returns-in_err-begin_turn-clause-begun : goal.returns-in_err-begin_turn-clause-begun
returns-in_err-begin_turn-clause-begun g c =
    let i = c.loop-number._number in
    let turns = (g.T.AsTranscript.transcript c.args.transcript.now).turns in
    let turn = lent_turn c.take_first-turn.result in
    let others = c.take_first-turn.new.self in
    let at = sym c.take_first-turn.ensures ∙ c.loop-number.invariant.left in
    let less = within turns i turn others at in
    let is = is_there turns i turn others at in
    let transcript = g.T.AsTranscript.transcript c.args.transcript.now in
    let (written, wrote, told) = c.loop-number.invariant.told in
    let (more, appends, (failed, begins, may)) = c.in_err-begin_turn.ensures.told c.args.showing (take i turns) written told in
    let p = err_from_is_err_and c.from_residual.result c.from_residual.ensures.1 in
    rw p.1 (λ all.
    let s = text_before_got c.args.showing turns transcript.turns i turn transcript.ended turn.sent (written ++ more) less is refl refl all begins in
    begun_text c.args.showing transcript (written ++ more) _ _ s (Appends-trans _ _ _ _ _ wrote appends))

pub returns-in_err-begin_turn-clause-failed : goal.returns-in_err-begin_turn-clause-failed
returns-in_err-begin_turn-clause-failed g c =
    let (written, wrote, told) = c.loop-number.invariant.told in
    let (more, appends, (failed, begins, may)) = c.in_err-begin_turn.ensures.told c.args.showing (take c.loop-number._number (g.T.AsTranscript.transcript c.args.transcript.now).turns) written told in
    let p = err_from_is_err_and c.from_residual.result c.from_residual.ensures.1 in
    rw p.1 (failed ∙ sym (ap is_of_a_write p.2))

pub got-requires-clause-writer_works : goal.got-requires-clause-writer_works
got-requires-clause-writer_works g c =
    let (written, wrote, told) = c.loop-number.invariant.told in
    let (more, appends, (works, after)) = c.in_ok-begin_turn.ensures.told c.args.showing (take c.loop-number._number (g.T.AsTranscript.transcript c.args.transcript.now).turns) written told in
    works

pub got-requires-clause-room : goal.got-requires-clause-room
got-requires-clause-room g c =
    let i = c.loop-number._number in
    let turns = (g.T.AsTranscript.transcript c.args.transcript.now).turns in
    let turn = lent_turn c.take_first-turn.result in
    let others = c.take_first-turn.new.self in
    let at = sym c.take_first-turn.ensures ∙ c.loop-number.invariant.left in
    let less = within turns i turn others at in
    let is = is_there turns i turn others at in
    let begun = begun_turn turn.sent in
    let (written, wrote, told) = c.loop-number.invariant.told in
    let (more, appends, (works, after)) = c.in_ok-begin_turn.ensures.told c.args.showing (take i turns) written told in
    let fit : length (flat_map (λ (t : Turn). t.got) turns) < 2 ^ 64 = c.requires.places.1 in
    let room = places_fit (λ (t : Turn). t.got) turns i turn less is fit in
    let none : length (flat_map (λ (t : Turn). t.got) (take i turns ++ begun ∷ [])) ≡ length (flat_map (λ (t : Turn). t.got) (take i turns) ++ []) = ap (λ (l : List ℕ). length l) (one_more (λ (t : Turn). t.got) (take i turns) begun) in
    let nothing : length (flat_map (λ (t : Turn). t.got) (take i turns) ++ []) ≡ length (flat_map (λ (t : Turn). t.got) (take i turns)) = ap (λ (l : List ℕ). length l) (append-nil (flat_map (λ (t : Turn). t.got) (take i turns))) in
    (c.args.showing, take i turns ++ begun ∷ [], written ++ more, after, omega (arith, room, none, nothing))

pub returns-in_err-got-clause-begun : goal.returns-in_err-got-clause-begun
returns-in_err-got-clause-begun g c =
    let i = c.loop-number._number in
    let turns = (g.T.AsTranscript.transcript c.args.transcript.now).turns in
    let turn = lent_turn c.take_first-turn.result in
    let others = c.take_first-turn.new.self in
    let at = sym c.take_first-turn.ensures ∙ c.loop-number.invariant.left in
    let less = within turns i turn others at in
    let is = is_there turns i turn others at in
    let transcript = g.T.AsTranscript.transcript c.args.transcript.now in
    let sent = turn.sent in
    let (written, wrote, told) = c.loop-number.invariant.told in
    let (more, appends, (works, after)) = c.in_ok-begin_turn.ensures.told c.args.showing (take i turns) written told in
    let (next, appended, (failed, begins, may)) = c.in_err-got.ensures.told c.args.showing (take i turns) (begun_turn sent) (written ++ more) after in
    let p = err_from_is_err_and c.from_residual-in_err-got.result c.from_residual-in_err-got.ensures.1 in
    rw p.1 (λ all.
    let s = text_before_end c.args.showing turns transcript.turns i turn transcript.ended sent turn.got ((written ++ more) ++ next) less is refl
    refl refl all begins in
    begun_text c.args.showing transcript ((written ++ more) ++ next) _ _ s (Appends-trans _ _ _ _ _ (Appends-trans _ _ _ _ _ wrote appends) appended))

pub returns-in_err-got-clause-failed : goal.returns-in_err-got-clause-failed
returns-in_err-got-clause-failed g c =
    let i = c.loop-number._number in
    let turns = (g.T.AsTranscript.transcript c.args.transcript.now).turns in
    let turn = lent_turn c.take_first-turn.result in
    let others = c.take_first-turn.new.self in
    let at = sym c.take_first-turn.ensures ∙ c.loop-number.invariant.left in
    let less = within turns i turn others at in
    let is = is_there turns i turn others at in
    let (written, wrote, told) = c.loop-number.invariant.told in
    let (more, appends, (works, after)) = c.in_ok-begin_turn.ensures.told c.args.showing (take i turns) written told in
    let (next, appended, (failed, begins, may)) = c.in_err-got.ensures.told c.args.showing (take i turns) (begun_turn turn.sent) (written ++ more) after in
    let p = err_from_is_err_and c.from_residual-in_err-got.result c.from_residual-in_err-got.ensures.1 in
    rw p.1 (failed ∙ sym (ap is_of_a_write p.2))

pub loop-number-preserved : goal.loop-number-preserved
loop-number-preserved g c =
    let i = c.loop-number._number in
    let turns = (g.T.AsTranscript.transcript c.args.transcript.now).turns in
    let turn = lent_turn c.take_first-turn.result in
    let others = c.take_first-turn.new.self in
    let at = sym c.take_first-turn.ensures ∙ c.loop-number.invariant.left in
    let less = within turns i turn others at in
    let is = is_there turns i turn others at in
    let sent = turn.sent in
    let got = turn.got in
    let (written, wrote, told) = c.loop-number.invariant.told in
    let (more, appends, (works, after)) = c.in_ok-begin_turn.ensures.told c.args.showing (take i turns) written told in
    let (next, appended, (still, all)) = c.in_ok-got.ensures.told c.args.showing (take i turns) (begun_turn sent) (written ++ more) after in
    record {
      works = still;
      told = (
        (written ++ more) ++ next,
        Appends-trans _ _ _ _ _ (Appends-trans _ _ _ _ _ wrote appends) appended,
        turn_in_place c.args.showing c.got.new.self turns i turn sent got ((written ++ more) ++ next) less is refl refl all,
      );
      left = others_left turns i turn others at;
      count = c.loop-number.invariant.count;
    }

pub returns-in_err-end-clause-begun : goal.returns-in_err-end-clause-begun
returns-in_err-end-clause-begun g c =
    let i = c.loop-number._number in
    let turns = (g.T.AsTranscript.transcript c.args.transcript.now).turns in
    let transcript = g.T.AsTranscript.transcript c.args.transcript.now in
    let (written, wrote, told) = c.loop-number.invariant.told in
    let s = c.in_err-end.ensures.told c.args.showing (take i turns) written told in
    let ended : c.ended.result ≡ transcript.ended = c.ended.ensures ∙ ap (λ (t : Transcript). t.ended) c.as_transcript-lent.ensures in
    let all : take i turns ≡ turns = take_all i turns (omega (arith, c.loop-number-test.false, c.loop-number.invariant.count)) in
    let has = subst (λ (e : Ended). HasTurnLines c.args.showing (record { turns = turns; ended = e }) (written ++ s.last)) ended
    (subst (λ (l : List Turn). HasTurnLines c.args.showing (record { turns = l; ended = c.ended.result }) (written ++ s.last)) all s.all) in
    let p = err_from_is_err_and c.from_residual-in_err-end.result c.from_residual-in_err-end.ensures.1 in
    rw p.1 (λ all. (written ++ s.last, has, begun_behind _ _ _ written s.last wrote s.writes.0))

pub returns-in_err-end-clause-failed : goal.returns-in_err-end-clause-failed
returns-in_err-end-clause-failed g c =
    let (written, wrote, told) = c.loop-number.invariant.told in
    let s = c.in_err-end.ensures.told c.args.showing (take c.loop-number._number (g.T.AsTranscript.transcript c.args.transcript.now).turns) written told in
    let p = err_from_is_err_and c.from_residual-in_err-end.result c.from_residual-in_err-end.ensures.1 in
    rw p.1 (s.writes.1 ∙ sym (ap is_of_a_write p.2))

pub returns-clause-lines : goal.returns-clause-lines
returns-clause-lines g c =
    let i = c.loop-number._number in
    let turns = (g.T.AsTranscript.transcript c.args.transcript.now).turns in
    let transcript = g.T.AsTranscript.transcript c.args.transcript.now in
    let (written, wrote, told) = c.loop-number.invariant.told in
    let s = c.in_ok-end.ensures.told c.args.showing (take i turns) written told in
    let ended : c.ended.result ≡ transcript.ended = c.ended.ensures ∙ ap (λ (t : Transcript). t.ended) c.as_transcript-lent.ensures in
    let all : take i turns ≡ turns = take_all i turns (omega (arith, c.loop-number-test.false, c.loop-number.invariant.count)) in
    let has = subst (λ (e : Ended). HasTurnLines c.args.showing (record { turns = turns; ended = e }) (written ++ s.last)) ended
    (subst (λ (l : List Turn). HasTurnLines c.args.showing (record { turns = l; ended = c.ended.result }) (written ++ s.last)) all s.all) in
    (written ++ s.last, has, Appends-trans _ _ _ _ _ wrote s.writes.0)

pub returns-clause-failed : goal.returns-clause-failed
returns-clause-failed g c =
    let (written, wrote, told) = c.loop-number.invariant.told in
    let s = c.in_ok-end.ensures.told c.args.showing (take c.loop-number._number (g.T.AsTranscript.transcript c.args.transcript.now).turns) written told in
    s.writes.1

pub returns-in_err-begin_turn-clause-memory : goal.returns-in_err-begin_turn-clause-memory
returns-in_err-begin_turn-clause-memory g c =
    let (written, wrote, told) = c.loop-number.invariant.told in
    let (more, appends, (failed, begins, may)) = c.in_err-begin_turn.ensures.told c.args.showing (take c.loop-number._number (g.T.AsTranscript.transcript c.args.transcript.now).turns) written told in
    let p = err_from_is_err_and c.from_residual.result c.from_residual.ensures.1 in
    rw p.1 (takes_where_it_lacks c.args.showing.style p.0 (may_end_so c.args.showing.style _ p.0 p.2 may))

pub returns-in_err-got-clause-memory : goal.returns-in_err-got-clause-memory
returns-in_err-got-clause-memory g c =
    let i = c.loop-number._number in
    let turns = (g.T.AsTranscript.transcript c.args.transcript.now).turns in
    let turn = lent_turn c.take_first-turn.result in
    let (written, wrote, told) = c.loop-number.invariant.told in
    let (more, appends, (works, after)) = c.in_ok-begin_turn.ensures.told c.args.showing (take i turns) written told in
    let (next, appended, (failed, begins, may)) = c.in_err-got.ensures.told c.args.showing (take i turns) (begun_turn turn.sent) (written ++ more) after in
    let p = err_from_is_err_and c.from_residual-in_err-got.result c.from_residual-in_err-got.ensures.1 in
    rw p.1 (takes_where_it_lacks c.args.showing.style p.0 (may_end_so c.args.showing.style _ p.0 p.2 may))

pub returns-in_err-end-clause-memory : goal.returns-in_err-end-clause-memory
returns-in_err-end-clause-memory g c =
    let p = err_from_is_err_and c.from_residual-in_err-end.result c.from_residual-in_err-end.ensures.1 in
    rw p.1 (takes_where_it_lacks c.args.showing.style p.0 (write_may_end c.args.showing.style p.0 p.2))
