-- However the run ends, it has written the lines of what it read, or a beginning of them where a write failed or memory
-- ran out.
use Rattle.std.proofs.Common.{rules, arith, ◌≡◌, ◌∙◌, ◌<◌, ◌++◌, [], Bool, ap, length, subst, sym, take}
use Rattle.std.specs.Prelude.{◌||◌, false}
use Rattle.std.proofs.KnownBytes.{Appends-nil, Appends-trans, Consumes-kept, Consumes-nil, Consumes-trans}
use Rattle.ws_frame.specs.declared.source.Source.{Source}
use Rattle.ws_frame.specs.declared.showing.StreamEnd.{StreamEnd}
use Rattle.ws_frame.specs.declared.showing.StreamEnd.TheVariants.{BadLengthAt}
use Rattle.ws_frame.specs.Devices.{watched}
use Rattle.ws_frame.specs.Lines.{AreLinesOf}
use Rattle.ws_frame.specs.InnerShowing.{BeginsLines, IsLeft}
use Rattle.ws_frame.specs.PayloadStreaming.{stream_end}
use Rattle.ws_frame.proofs.RunEnds.{due_on, earlier_all, earlier_lines, ended, may_end, piece_of_left, read_nothing}
use Rattle.ws_frame.proofs.PutFrames.{frames_written, left_put_at_end, stopped_put}
use Rattle.ws_frame.proofs.showing_payloads.show_payloads.Goals as goal

pub loop-left-init : goal.loop-left-init
loop-left-init g c = record {
  reads = c.requires.reader_works;
  writes = c.requires.writer_works;
  source = c.new-stream.ensures.source;
  going = c.new-stream.ensures.going;
  told = ([], [], omega arith, Consumes-nil _, Appends-nil _, c.new-stream.ensures.begun);
}

pub returns-in-Err-clause-lines : goal.returns-in-Err-clause-lines
returns-in-Err-clause-lines g c =
    let before = c.loop-left.invariant in
    let (read, written, count, consumed, appended, t) = before.told in
    let lines = frames_written c.loop-left.stream c.args.source read written before.source before.going t in
    let below : length read < c.args.budget = omega (arith, count, c.loop-left-test.true) in
    record {
      read = read;
      written = written;
      has_read = Consumes-kept _ _ _ _ consumed c.in-Err.ensures.bytes;
      has_written = appended;
      within = omega (arith, below);
      shown = (lines, below);
    }

pub returns-in-Ok-eq0-clause-lines : goal.returns-in-Ok-eq0-clause-lines
returns-in-Ok-eq0-clause-lines g c =
    let stream = c.loop-left.stream in
    let before = c.loop-left.invariant in
    let source = c.args.source in
    let budget = c.args.budget in
    let (read, written, count, consumed, appended, t) = before.told in
    let lines = frames_written stream source read written before.source before.going t in
    let below : length read < budget = omega (arith, count, c.loop-left-test.true) in
    let input = watched g.R.Read.remaining c.args.reader.now c.read.new.self in
    let output = watched g.W.Write.contents c.loop-left.writer c.end_with.new.writer in
    let may = may_end c.end-end.result budget read input below
    (c.in-Ok-eq0.ensures.failed ∙ ap (λ (b : Bool). b || false) before.reads)
    (c.in-Ok-eq0.ensures.bytes.1 (search rules) (search rules)) in
    let left : IsLeft stream.source read (stream_end stream) written =
    left_put_at_end stream stream.stopped read written before.going t.stands in
    let at_end : IsLeft stream.source read c.end-end.result written =
    subst (λ (e : StreamEnd). IsLeft stream.source read e written) (sym c.end-end.ensures) left in
    let is_left = subst (λ (s : Source). IsLeft s read c.end-end.result written) before.source at_end in
    let earlier = earlier_all source budget input.new read written lines in
    let e = ended source budget c.end-end.result c.end_with.result read written input output may is_left earlier
    c.end_with.ensures in
    record {
      read = read;
      written = written ++ e.last;
      has_read = read_nothing _ _ _ read c.read.new.buf _ (search rules) consumed c.in-Ok-eq0.ensures.bytes.0;
      has_written = Appends-trans _ _ _ _ _ appended e.was_written;
      within = omega (arith, below);
      shown = e.shown;
    }

pub returns-in-Err-Write-clause-lines : goal.returns-in-Err-Write-clause-lines
returns-in-Err-Write-clause-lines g c =
    let before = c.loop-left.invariant in
    let source = c.args.source in
    let budget = c.args.budget in
    let (read, written, count, consumed, appended, t) = before.told in
    let lines = frames_written c.loop-left.stream source read written before.source before.going t in
    let piece = take c.in-Ok.count c.read.new.buf in
    let (more, wrote, (failed, begins)) = c.in-Err-Write.ensures.written read written t in
    let begun = subst (λ (s : Source). BeginsLines s (read ++ piece) (written ++ more))
    (c.write_piece.ensures.source ∙ before.source) begins in
    let w = piece_of_left c.loop-left.left budget c.in-Ok.count c.min-want.result read c.read.new.buf count
    c.in-Ok.ensures.bound.0 (search rules) c.min-want.ensures in
    record {
      read = read ++ piece;
      written = written ++ more;
      has_read = Consumes-trans _ _ _ _ _ consumed c.in-Ok.ensures.bytes.0;
      has_written = Appends-trans _ _ _ _ _ appended wrote;
      within = w.0;
      shown = (
        due_on source budget _ (read ++ piece) (written ++ more) begun,
        earlier_lines source budget _ read piece written more w.1 lines,
      );
    }

pub returns-in-Err-NoMemory-clause-lines : goal.returns-in-Err-NoMemory-clause-lines
returns-in-Err-NoMemory-clause-lines g c =
    let before = c.loop-left.invariant in
    let source = c.args.source in
    let budget = c.args.budget in
    let (read, written, count, consumed, appended, t) = before.told in
    let lines = frames_written c.loop-left.stream source read written before.source before.going t in
    let piece = take c.in-Ok.count c.read.new.buf in
    let (more, wrote, (failed, begins)) = c.in-Err-NoMemory.ensures.written read written t in
    let begun = subst (λ (s : Source). BeginsLines s (read ++ piece) (written ++ more))
    (c.write_piece.ensures.source ∙ before.source) begins in
    let w = piece_of_left c.loop-left.left budget c.in-Ok.count c.min-want.result read c.read.new.buf count
    c.in-Ok.ensures.bound.0 (search rules) c.min-want.ensures in
    record {
      read = read ++ piece;
      written = written ++ more;
      has_read = Consumes-trans _ _ _ _ _ consumed c.in-Ok.ensures.bytes.0;
      has_written = Appends-trans _ _ _ _ _ appended wrote;
      within = w.0;
      shown = (
        due_on source budget _ (read ++ piece) (written ++ more) begun,
        earlier_lines source budget _ read piece written more w.1 lines,
        c.requires.memory,
      );
    }

pub returns-then-stream-clause-lines : goal.returns-then-stream-clause-lines
returns-then-stream-clause-lines g c =
    let before = c.loop-left.invariant in
    let new = c.write_piece.new.stream in
    let (read, written, count, consumed, appended, t) = before.told in
    let piece = take c.in-Ok.count c.read.new.buf in
    let (more, wrote, (works, put)) = c.in-Ok-write_piece.ensures.written read written t in
    let all = stopped_put new new.stopped (read ++ piece) (written ++ more) c.if-stream.true put.stands in
    let w = piece_of_left c.loop-left.left c.args.budget c.in-Ok.count c.min-want.result read c.read.new.buf count
    c.in-Ok.ensures.bound.0 (search rules) c.min-want.ensures in
    record {
      read = read ++ piece;
      written = written ++ more;
      has_read = Consumes-trans _ _ _ _ _ consumed c.in-Ok.ensures.bytes.0;
      has_written = Appends-trans _ _ _ _ _ appended wrote;
      within = w.0;
      shown = subst (λ (s : Source). AreLinesOf s (read ++ piece) (BadLengthAt new.offset) (written ++ more))
          (c.write_piece.ensures.source ∙ before.source) all;
    }

pub loop-left-preserved : goal.loop-left-preserved
loop-left-preserved g c =
    let before = c.loop-left.invariant in
    let (read, written, count, consumed, appended, t) = before.told in
    let piece = take c.in-Ok.count c.read.new.buf in
    let (more, wrote, (works, put)) = c.in-Ok-write_piece.ensures.written read written t in
    let w = piece_of_left c.loop-left.left c.args.budget c.in-Ok.count c.min-want.result read c.read.new.buf count
    c.in-Ok.ensures.bound.0 (search rules) c.min-want.ensures in
    record {
      reads = c.in-Ok.ensures.failed ∙ ap (λ (b : Bool). b || false) before.reads;
      writes = works;
      source = c.write_piece.ensures.source ∙ before.source;
      going = c.if-stream.false;
      told = (
        read ++ piece,
        written ++ more,
        w.2,
        Consumes-trans _ _ _ _ _ consumed c.in-Ok.ensures.bytes.0,
        Appends-trans _ _ _ _ _ appended wrote,
        put,
      );
    }

pub returns-clause-lines : goal.returns-clause-lines
returns-clause-lines g c =
    let before = c.loop-left.invariant in
    let (read, written, count, consumed, appended, t) = before.told in
    let lines = frames_written c.loop-left.stream c.args.source read written before.source before.going t in
    let spent : length read ≡ c.args.budget = omega (arith, count, c.loop-left-test.false) in
    record {
      read = read;
      written = written;
      has_read = consumed;
      has_written = appended;
      within = omega (arith, spent);
      shown = (lines, spent);
    }
