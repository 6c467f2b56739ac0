-- A right pong is one more, any other frame is passed.
use Rattle.std.proofs.Common.{◌≡◌, ◌∙◌, ◌+◌, ◌-◌, ℕ, List, [], ◌∷◌, ◌++◌, ap, append-nil, arith, inl, inr, length}
use Rattle.std.proofs.Common.{refl, subst, sym}
use Rattle.std.proofs.lemmas.List.{length-append}
use Rattle.ws_wire.specs.Frame.{wire_bytes}
use Rattle.ws_wire.proofs.Frames.{some_wire_bytes}
use Rattle.ws_suite.specs.declared.evidence.InTurn.{InTurn}
use Rattle.ws_suite.specs.declared.evidence.Reply.{Reply}
use Rattle.ws_suite.specs.declared.evidence.Reply.TheVariants.{Pong}
use Rattle.ws_suite.specs.Evidence.{got_turns}
use Rattle.ws_suite.specs.InnerMarks.{IsPlaceIn}
use Rattle.ws_suite.specs.Marks.{IsRightPong}
use Rattle.ws_suite.proofs.FrontFrames.{made}
use Rattle.ws_suite.proofs.PongsAmong.{HasPassed, all_passed, one_passed}
use Rattle.ws_suite.proofs.RightControls.{plain_of_right}
use Rattle.ws_suite.proofs.evidence.behind.pongs_behind.Goals as goal
use Rattle.ws_suite.proofs.evidence.behind.pongs_behind.Goals.{then-is_right_pong+in_ok-push_pong, else-is_right_pong}

pub returns : goal.returns
returns c =
    let (n, at, left, passed) = c.loop-frame.invariant in
    all_passed _ _ _ _ n c.loop-frame.rest.now c.loop-frame.pongs c.in_default.ensures passed

pub loop-frame-preserved : goal.loop-frame-preserved
loop-frame-preserved c =
    let role = c.args.role in
    let turns = got_turns c.args.transcript.now.turns in
    let (n, at, left, passed) = c.loop-frame.invariant in
    let f = c.in-Some.ensures in
    let x = made c.in-Some.frame.header f.payload in
    let rest = c.loop-frame.rest.now in
    let after = c.in-Some.frame.after.now in
    let size : length rest ≡ length (wire_bytes x) + length after =
    ap (λ (l : List ℕ). length l) f.parts ∙ length-append (wire_bytes x) after in
    let next = n + length (wire_bytes x) in
    let e : n + (length rest - length after) ≡ next = omega (arith, size) in
    let place : IsPlaceIn c.args.transcript.now.turns next c.pass-in-Some.new.self =
    subst (λ (k : ℕ). IsPlaceIn c.args.transcript.now.turns k c.pass-in-Some.new.self) e
    (c.pass-in-Some.ensures c.args.transcript.now.turns n at) in
    let told = c.is_right_pong.ensures x f.is_frame (refl, f.masked) in
    let Passed : List (InTurn Reply) → Type 0 = λ pongs. HasPassed role turns c.args.before c.args.bytes.now next after pongs in (
      next,
      place,
      omega (arith, left, size),
      elim c.if-is_right_pong.branch [
        | then-is_right_pong+in_ok-push_pong w ↦
            let right : IsRightPong role x = told.0 w.if-is_right_pong.true in
            let plain = plain_of_right role x f.is_frame right.1 in
            let turn = w.turn.ensures c.args.transcript.now.turns next place (omega (arith, some_wire_bytes x)) in
            let one : List (InTurn Reply) = record { turn = w.turn.result; what = Pong x.payload } ∷ [] in
            let same : c.if-is_right_pong.pongs ≡ c.loop-frame.pongs ++ one =
            w.pongs-is ∙ w.in_ok-push_pong.ensures x f.is_frame (refl, f.masked) plain.4 in
            subst Passed (sym same)
            (one_passed role turns c.args.before c.args.bytes.now n rest after c.loop-frame.pongs one x f.is_frame f.parts
            (inl (right, (w.turn.result, turn, refl))) passed)
        | else-is_right_pong w ↦
            let wrong : IsRightPong role x → ⊥ = λ right. let yes = told.1 right in cc in
            let same : c.if-is_right_pong.pongs ≡ c.loop-frame.pongs ++ [] =
            w.pongs-is ∙ sym (append-nil c.loop-frame.pongs) in
            subst Passed (sym same)
            (one_passed role turns c.args.before c.args.bytes.now n rest after c.loop-frame.pongs [] x f.is_frame f.parts
            (inr (wrong, refl)) passed)
      ],
    )
