-- A close is found; where no frame is left there was none.
use Rattle.std.proofs.Common.{◌∙◌, false, refl, sym, true}
use Rattle.std.specs.List.{list_any}
use Rattle.ws_suite.specs.Marks.{is_close_frame}
use Rattle.ws_suite.proofs.FrontFrames.{made}
use Rattle.ws_suite.proofs.HiddenFaults.{closes_here, closes_later, decided_behind, found_end, found_none}
use Rattle.ws_suite.proofs.evidence.wire_frames.holds_close.Goals as goal

pub returns-then-is_close : goal.returns-then-is_close
returns-then-is_close c = λ frames rest s.
    let f = c.in-Some.ensures in
    let x = made c.in-Some.frame.header f.payload in
    let here = sym (c.is_close.ensures x refl) ∙ c.if-is_close.true in
    sym (found_end (list_any is_close_frame) true c.args.bytes.now c.loop-frame.rest.now c.in-Some.frame.after.now x
    f.is_frame f.parts (closes_here x here) c.loop-frame.invariant frames rest s)

pub loop-frame-init : goal.loop-frame-init
loop-frame-init c = λ frames rest s. (frames, s, refl)

pub loop-frame-preserved : goal.loop-frame-preserved
loop-frame-preserved c =
    let f = c.in-Some.ensures in
    let x = made c.in-Some.frame.header f.payload in
    let not_here = sym (c.is_close.ensures x refl) ∙ c.if-is_close.false in
    decided_behind (list_any is_close_frame) c.args.bytes.now c.loop-frame.rest.now c.in-Some.frame.after.now x
    f.is_frame f.parts (closes_later x not_here) c.loop-frame.invariant

pub returns : goal.returns
returns c = λ frames rest s. sym (found_none (list_any is_close_frame) c.args.bytes.now c.loop-frame.rest.now
    c.in_default.ensures c.loop-frame.invariant frames rest s)
