-- The first frame that says whether the message ends decides; where none is left it didn't end.
use Rattle.std.proofs.Common.{◌∙◌, refl, sym}
use Rattle.ws_suite.specs.Marks.{end_message}
use Rattle.ws_suite.proofs.FrontFrames.{made}
use Rattle.ws_suite.proofs.HiddenFaults.{decided_behind, ends_later, ends_so, found_end, found_none}
use Rattle.ws_suite.proofs.evidence.wire_frames.ends_message.Goals as goal

pub loop-frame-init : goal.loop-frame-init
loop-frame-init c = λ frames rest s. (frames, s, refl)

pub returns-in-Some-message_end : goal.returns-in-Some-message_end
returns-in-Some-message_end c = λ frames rest s.
    let f = c.in-Some.ensures in
    let x = made c.in-Some.frame.header f.payload in
    let here = sym (c.message_end.ensures x refl) ∙ c.in-Some-message_end.is in
    sym (found_end end_message c.in-Some-message_end.ends c.args.bytes.now c.loop-frame.rest.now
    c.in-Some.frame.after.now x f.is_frame f.parts (ends_so x c.in-Some-message_end.ends here) c.loop-frame.invariant
    frames rest s)

pub loop-frame-preserved : goal.loop-frame-preserved
loop-frame-preserved c =
    let f = c.in-Some.ensures in
    let x = made c.in-Some.frame.header f.payload in
    let not_here = sym (c.message_end.ensures x refl) ∙ c.in_default-message_end.is in
    decided_behind end_message c.args.bytes.now c.loop-frame.rest.now c.in-Some.frame.after.now x f.is_frame f.parts
    (ends_later x not_here) c.loop-frame.invariant

pub returns : goal.returns
returns c = λ frames rest s. sym (found_none end_message c.args.bytes.now c.loop-frame.rest.now c.in_default.ensures
    c.loop-frame.invariant frames rest s)
