-- A wrong frame is none of those asked for; a right one is passed; at the end the first byte of a part tells.
use Rattle.std.proofs.Common.{refl}
use Rattle.ws_suite.proofs.FrontFrames.{made}
use Rattle.ws_suite.proofs.RightStreams.{none_first, right_first, wrong_first}
use Rattle.ws_suite.proofs.evidence.wire_frames.are_controls.Goals as goal

pub returns-then-not-is_right_control : goal.returns-then-not-is_right_control
returns-then-not-is_right_control c =
    let f = c.in-Some.ensures in
    let x = made c.in-Some.frame.header f.payload in
    let told = c.is_right_control.ensures x f.is_frame (refl, f.masked) in (
      λ e. absurd cc,
      λ h. absurd (wrong_first c.args.role c.loop-frame.rest.now c.in-Some.frame.after.now x f.is_frame f.parts
          (λ right. let yes = told.1 right in cc) (c.loop-frame.invariant.1 h)),
    )

pub loop-frame-preserved : goal.loop-frame-preserved
loop-frame-preserved c =
    let i = c.loop-frame.invariant in
    let f = c.in-Some.ensures in
    let x = made c.in-Some.frame.header f.payload in
    let told = c.is_right_control.ensures x f.is_frame (refl, f.masked) in
    let both = right_first c.args.role c.loop-frame.rest.now c.in-Some.frame.after.now x f.is_frame f.parts
    (told.0 c.if-not-is_right_control.false) in
    (λ h. i.0 (both.0 h), λ h. both.1 (i.1 h))

pub returns : goal.returns
returns c =
    let i = c.loop-frame.invariant in
    let both = none_first c.args.role c.loop-frame.rest.now c.in_default.ensures in
    let cut = c.is_cut_control.ensures in
    (λ e. i.0 (both.0 (cut.0 e)), λ h. cut.1 (both.1 (i.1 h)))
