-- However a run of `show` ends, it has written the lines of what it read, or a beginning of them where a write failed.
use Rattle.std.proofs.Common.{rules, arith, ◌≡◌, ◌∙◌, ◌<◌, ◌++◌, Bool, length, take, ap, subst}
use Rattle.std.specs.Prelude.{◌||◌, false}
use Rattle.std.proofs.KnownBytes.{Appends-trans, Consumes-kept, Consumes-trans}
use Rattle.ws_frame.specs.declared.source.Source.{Source}
use Rattle.ws_frame.specs.declared.showing.StreamEnd.TheVariants.{BadLengthAt}
use Rattle.ws_frame.specs.declared.showing.PieceEnd.TheVariants as piece_end
use Rattle.ws_frame.specs.Devices.{watched}
use Rattle.ws_frame.specs.Lines.{plain}
use Rattle.ws_frame.specs.InnerShowing.{IsLeft, BeginsLines, EndsWith}
use Rattle.ws_frame.proofs.Runs.{piece_is, all_written, lines_of_frames, left_at_end}
use Rattle.ws_frame.proofs.RunEnds.{read_nothing, piece_within, may_end, earlier_all, earlier_lines, due_on, ended}
use Rattle.ws_frame.proofs.showing.show.Goals as goal

pub returns-in-Err-clause-lines : goal.returns-in-Err-clause-lines
returns-in-Err-clause-lines g c =
    let run = c.loop-run.run in
    let (read, written, consumed, appended, t) = c.loop-run.invariant.told in
    let s = all_written run.source (plain c.args.from) read run.offset run.partial written run.lines t.so_far c.loop-run.invariant.none_wait c.loop-run.invariant.source in
    let below : length read < c.args.budget = omega (arith, t.count, c.loop-run-test.true) in
    record {
      read = read;
      written = written;
      has_read = Consumes-kept _ _ _ _ consumed c.in-Err.ensures.bytes;
      has_written = appended;
      within = omega (arith, below);
      shown = (lines_of_frames (plain c.args.from) read run.offset run.partial written s, below);
    }

pub returns-in-Ok-eq0-clause-lines : goal.returns-in-Ok-eq0-clause-lines
returns-in-Ok-eq0-clause-lines g c =
    let run = c.loop-run.run in
    let (read, written, consumed, appended, t) = c.loop-run.invariant.told in
    let s = all_written run.source (plain c.args.from) read run.offset run.partial written run.lines t.so_far c.loop-run.invariant.none_wait c.loop-run.invariant.source in
    let below : length read < c.args.budget = omega (arith, t.count, c.loop-run-test.true) in
    let input = watched g.R.Read.remaining c.args.reader.now c.read.new.self in
    let output = watched g.W.Write.contents c.loop-run.writer c.end_with.new.writer in
    let leaves = c.end_of_input-end.ensures s.rest s.is_kept in
    let may = may_end c.end_of_input-end.result c.args.budget read input below (c.in-Ok-eq0.ensures.failed ∙ ap (λ (b : Bool). b || false) c.loop-run.invariant.reads)
    (c.in-Ok-eq0.ensures.bytes.1 (search rules) (search rules)) in
    let left = left_at_end (plain c.args.from) read run.offset run.partial written c.end_of_input-end.result s leaves in
    let earlier = earlier_all (plain c.args.from) c.args.budget input.new read written (lines_of_frames (plain c.args.from) read run.offset run.partial written s) in
    let ends = subst (λ (r : Source). EndsWith r c.end_of_input-end.result output c.end_with.result) c.loop-run.invariant.source c.end_with.ensures in
    let e = ended (plain c.args.from) c.args.budget c.end_of_input-end.result c.end_with.result read written input output may left earlier ends in
    record {
      read = read;
      written = written ++ e.last;
      has_read = read_nothing _ _ _ read c.read.new.buf _ (search rules) consumed c.in-Ok-eq0.ensures.bytes.0;
      has_written = Appends-trans _ _ _ _ _ appended e.was_written;
      within = omega (arith, below);
      shown = e.shown;
    }

pub returns-in-Err-show_piece-clause-lines : goal.returns-in-Err-show_piece-clause-lines
returns-in-Err-show_piece-clause-lines g c =
    let run = c.loop-run.run in
    let (read, written, consumed, appended, t) = c.loop-run.invariant.told in
    let s = all_written run.source (plain c.args.from) read run.offset run.partial written run.lines t.so_far c.loop-run.invariant.none_wait c.loop-run.invariant.source in
    let piece = take c.in-Ok.count c.read.new.buf in
    let (more, wrote, (failed, begins)) = c.in-Err-show_piece.ensures.shown read written t in
    let source : c.show_piece.new.self.source ≡ (plain c.args.from) = c.show_piece.ensures.source ∙ c.loop-run.invariant.source in
    let begun = subst (λ (r : Source). BeginsLines r (read ++ piece) (written ++ more)) source begins in
    let w = piece_within run.taken c.args.budget c.in-Ok.count c.min-want.result read c.read.new.buf t.count c.in-Ok.ensures.bound.0 (search rules) c.min-want.ensures c.loop-run-test.true in
    record {
      read = read ++ piece;
      written = written ++ more;
      has_read = Consumes-trans _ _ _ _ _ consumed c.in-Ok.ensures.bytes.0;
      has_written = Appends-trans _ _ _ _ _ appended wrote;
      within = w.0;
      shown = (due_on (plain c.args.from) c.args.budget _ (read ++ piece) (written ++ more) begun, earlier_lines (plain c.args.from) c.args.budget _ read piece written more w.1 (lines_of_frames (plain c.args.from) read run.offset run.partial written s));
    }

pub returns-in-Err-show_piece-clause-fair : goal.returns-in-Err-show_piece-clause-fair
returns-in-Err-show_piece-clause-fair g c =
    let (read, written, consumed, appended, t) = c.loop-run.invariant.told in
    let (more, wrote, (failed, begins)) = c.in-Err-show_piece.ensures.shown read written t in
    failed

pub end_with-requires-in-Ok-BadLength-clause-works : goal.end_with-requires-in-Ok-BadLength-clause-works
end_with-requires-in-Ok-BadLength-clause-works g c =
    let (read, written, consumed, appended, t) = c.loop-run.invariant.told in
    let output = watched g.W.Write.contents c.loop-run.writer c.show_piece.new.writer in
    let shown = piece_is c.loop-run.run c.show_piece.new.self (take c.in-Ok.count c.read.new.buf) output c.in-Ok-BadLength.field-0 piece_end.BadLength c.in-Ok-BadLength.field-0-is c.in-Ok-BadLength.ensures.shown in
    let (more, wrote, (works, none, left)) = shown read written t in
    works

pub end_with-requires-in-Ok-BadLength-clause-empty : goal.end_with-requires-in-Ok-BadLength-clause-empty
end_with-requires-in-Ok-BadLength-clause-empty g c =
    let (read, written, consumed, appended, t) = c.loop-run.invariant.told in
    let output = watched g.W.Write.contents c.loop-run.writer c.show_piece.new.writer in
    let shown = piece_is c.loop-run.run c.show_piece.new.self (take c.in-Ok.count c.read.new.buf) output c.in-Ok-BadLength.field-0 piece_end.BadLength c.in-Ok-BadLength.field-0-is c.in-Ok-BadLength.ensures.shown in
    let (more, wrote, (works, none, left)) = shown read written t in
    none

pub returns-in-Ok-BadLength-clause-lines : goal.returns-in-Ok-BadLength-clause-lines
returns-in-Ok-BadLength-clause-lines g c =
    let run = c.loop-run.run in
    let new = c.show_piece.new.self in
    let (read, written, consumed, appended, t) = c.loop-run.invariant.told in
    let s = all_written run.source (plain c.args.from) read run.offset run.partial written run.lines t.so_far c.loop-run.invariant.none_wait c.loop-run.invariant.source in
    let piece = take c.in-Ok.count c.read.new.buf in
    let output = watched g.W.Write.contents c.loop-run.writer c.show_piece.new.writer in
    let shown = piece_is run new piece output c.in-Ok-BadLength.field-0 piece_end.BadLength c.in-Ok-BadLength.field-0-is c.in-Ok-BadLength.ensures.shown in
    let (more, wrote, (works, none, left)) = shown read written t in
    let source : new.source ≡ (plain c.args.from) = c.show_piece.ensures.source ∙ c.loop-run.invariant.source in
    let is_left = subst (λ (r : Source). IsLeft r (read ++ piece) (BadLengthAt new.offset) (written ++ more)) source left in
    let w = piece_within run.taken c.args.budget c.in-Ok.count c.min-want.result read c.read.new.buf t.count c.in-Ok.ensures.bound.0 (search rules) c.min-want.ensures c.loop-run-test.true in
    let input = watched g.R.Read.remaining c.args.reader.now c.read.new.self in
    let earlier = earlier_lines (plain c.args.from) c.args.budget input.new read piece written more w.1 (lines_of_frames (plain c.args.from) read run.offset run.partial written s) in
    let last = watched g.W.Write.contents c.show_piece.new.writer c.end_with-in-Ok-BadLength.new.writer in
    let ends = subst (λ (r : Source). EndsWith r (BadLengthAt new.offset) last c.end_with-in-Ok-BadLength.result) source c.end_with-in-Ok-BadLength.ensures in
    let e = ended (plain c.args.from) c.args.budget (BadLengthAt new.offset) c.end_with-in-Ok-BadLength.result (read ++ piece) (written ++ more) input last tt is_left earlier ends in
    record {
      read = read ++ piece;
      written = (written ++ more) ++ e.last;
      has_read = Consumes-trans _ _ _ _ _ consumed c.in-Ok.ensures.bytes.0;
      has_written = Appends-trans _ _ _ _ _ (Appends-trans _ _ _ _ _ appended wrote) e.was_written;
      within = w.0;
      shown = e.shown;
    }

pub loop-run-smaller : goal.loop-run-smaller
loop-run-smaller g c =
    let run = c.loop-run.run in
    let (read, written, consumed, appended, t) = c.loop-run.invariant.told in
    let piece = take c.in-Ok.count c.read.new.buf in
    let output = watched g.W.Write.contents c.loop-run.writer c.show_piece.new.writer in
    let shown = piece_is run c.show_piece.new.self piece output c.in-Ok-Inside.field-0 piece_end.Inside c.in-Ok-Inside.field-0-is c.in-Ok-Inside.ensures.shown in
    let (more, wrote, (works, none, after)) = shown read written t in
    let w = piece_within run.taken c.args.budget c.in-Ok.count c.min-want.result read c.read.new.buf t.count c.in-Ok.ensures.bound.0 (search rules) c.min-want.ensures c.loop-run-test.true in
    omega (arith, after.count, w.2, c.in-Ok.count-test, c.loop-run-test.true)

pub loop-run-preserved : goal.loop-run-preserved
loop-run-preserved g c =
    let run = c.loop-run.run in
    let (read, written, consumed, appended, t) = c.loop-run.invariant.told in
    let piece = take c.in-Ok.count c.read.new.buf in
    let output = watched g.W.Write.contents c.loop-run.writer c.show_piece.new.writer in
    let shown = piece_is run c.show_piece.new.self piece output c.in-Ok-Inside.field-0 piece_end.Inside c.in-Ok-Inside.field-0-is c.in-Ok-Inside.ensures.shown in
    let (more, wrote, (works, none, after)) = shown read written t in
    let w = piece_within run.taken c.args.budget c.in-Ok.count c.min-want.result read c.read.new.buf t.count c.in-Ok.ensures.bound.0 (search rules) c.min-want.ensures c.loop-run-test.true in
    record {
      reads = c.in-Ok.ensures.failed ∙ ap (λ (b : Bool). b || false) c.loop-run.invariant.reads;
      writes = works;
      source = c.show_piece.ensures.source ∙ c.loop-run.invariant.source;
      within = omega (arith, after.count, w.0);
      none_wait = none;
      told = (read ++ piece, written ++ more, Consumes-trans _ _ _ _ _ consumed c.in-Ok.ensures.bytes.0, Appends-trans _ _ _ _ _ appended wrote, after);
    }

pub returns-clause-lines : goal.returns-clause-lines
returns-clause-lines g c =
    let run = c.loop-run.run in
    let (read, written, consumed, appended, t) = c.loop-run.invariant.told in
    let s = all_written run.source (plain c.args.from) read run.offset run.partial written run.lines t.so_far c.loop-run.invariant.none_wait c.loop-run.invariant.source in
    let spent : length read ≡ c.args.budget = omega (arith, t.count, c.loop-run.invariant.within, c.loop-run-test.false) in
    record {
      read = read;
      written = written;
      has_read = consumed;
      has_written = appended;
      within = omega (arith, spent);
      shown = (lines_of_frames (plain c.args.from) read run.offset run.partial written s, spent);
    }
