-- Frame after frame is put, and what is left is told by a last line where a bad length stands there.
use Rattle.std.proofs.Common.{◌≡◌, ◌∙◌, ◌+◌, ◌-◌, ◌++◌, List, ℕ, ap, drop, length, sym, subst, take}
use Rattle.std.proofs.lemmas.List.{take_rest}
use Rattle.ws_wire.specs.Frame.{WireFrame}
use Rattle.ws_wire.specs.Reading.{BeginsBadLength}
use Rattle.ws_frame.specs.declared.source.Source.{Source}
use Rattle.ws_frame.specs.declared.payload_lines.PayloadLines.{PayloadLines}
use Rattle.ws_frame.specs.Lines.{line_of}
use Rattle.ws_frame.specs.InnerPayloads.{IsFrameAt, PutsFrames}
use Rattle.ws_frame.proofs.PutFrames.{frame_behind, frame_put}
use Rattle.ws_frame.proofs.payload_lines.PayloadLines.put_frames.Goals as goal

pub loop-at-preserved : goal.loop-at-preserved
loop-at-preserved c =
    let self = c.loop-at.self in
    let at = c.loop-at.at in
    let all = self.rest.items in
    let header = c.in-Whole.header in
    let start = c.in-Whole.start in
    let end = c.in-Whole.end in
    let bytes = c.deref.result.now in
    let here : take (length bytes - at) (drop at bytes) ≡ drop at all =
    take_rest bytes at ∙ ap (λ (t : List ℕ). drop at t) c.deref.ensures.value in
    let f : IsFrameAt (drop at all) header start end =
    subst (λ (t : List ℕ). IsFrameAt t header start end) here c.in-Whole.ensures in
    let n = (at + end) - (at + start) in
    let payload = take n (drop (at + start) c.deref-in-Whole.result.now) in
    let is : payload ≡ take n (drop (at + start) all) =
    ap (λ (t : List ℕ). take n (drop (at + start) t)) c.deref-in-Whole.ensures.value in
    let lines = c.loop-at.lines.items in
    let due : c.put_frame.new.lines.items ≡ lines ++ line_of c.args.self.now.source self.offset f.frame =
    c.in_ok-put_frame-in-Whole.ensures
    ∙ ap (λ (x : WireFrame). lines ++ line_of self.source self.offset x)
    (frame_put all payload at start end header f is)
    ∙ ap (λ (s : Source). lines ++ line_of s self.offset f.frame) c.loop-at.invariant.source in
    record {
      source = c.loop-at.invariant.source;
      going = c.loop-at.invariant.going;
      kept = c.loop-at.invariant.kept;
      frames = frame_behind c.args.self.now at end start self.offset c.args.lines.now.items lines
          c.put_frame.new.lines.items all header c.loop-at.invariant.frames
          (ap (λ (t : List ℕ). drop at t) c.loop-at.invariant.kept) f due;
    }

pub returns-in-BadLength-clause-put : goal.returns-in-BadLength-clause-put
returns-in-BadLength-clause-put c =
    let self = c.loop-at.self in
    let old = c.args.self.now in
    let at = c.loop-at.at in
    let bytes = c.deref.result.now in
    let here : take (length bytes - at) (drop at bytes) ≡ drop at old.rest.items =
    take_rest bytes at ∙ ap (λ (t : List ℕ). drop at t) c.deref.ensures.value
    ∙ ap (λ (t : List ℕ). drop at t) c.loop-at.invariant.kept in
    let bad : BeginsBadLength (drop at old.rest.items) =
    subst (λ (t : List ℕ). BeginsBadLength t) here c.in-BadLength.ensures in
    subst (λ (s : PayloadLines). PutsFrames old s at c.args.lines.now.items c.stop.new.lines.items)
    (sym c.stop.ensures.stopped) (
      ap (λ (t : List ℕ). drop at t) c.loop-at.invariant.kept,
      (c.loop-at.lines.items, c.loop-at.invariant.frames, (bad, c.in_ok-stop-in-BadLength.ensures.put)),
    )
