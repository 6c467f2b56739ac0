-- What is read of the payload tells: a close that may be said, or the code that is bad, or what is wrong.
use Rattle.std.proofs.Common.{◌≡◌, ◌∙◌, ◌↔◌, IsTrue, List, ℕ, inl, refl, subst, sym}
use Rattle.ws_suite.specs.InnerMarks.{IsRightClose}
use Rattle.ws_suite.proofs.FoundFrames.{front_is_all}
use Rattle.ws_suite.proofs.UndefinedCodes.{right_by_code, wrong_byte, wrong_reason}
use Rattle.ws_suite.proofs.evidence.wire_frames.is_right_close.Goals as goal

pub returns-in-Ok : goal.returns-in-Ok
returns-in-Ok c = λ x is found.
    let slice = c.as_slice-payload.result.now in
    let same : slice ≡ x.payload = front_is_all x c.args.frame.now.payload.now slice found.1 c.requires
    (c.as_slice-payload.ensures.bytes ∙ c.control_payload-room.ensures.payload x is found) in
    let said = (c.in-Ok.ensures.read c.in-Ok.field-0).0 refl in
    (λ e. subst (λ (l : List ℕ). IsRightClose l) same (inl (c.in-Ok.field-0, said)), λ h. refl)

pub returns-in-Err-BadCode : goal.returns-in-Err-BadCode
returns-in-Err-BadCode c = λ x is found.
    let slice = c.as_slice-payload.result.now in
    let same : slice ≡ x.payload = front_is_all x c.args.frame.now.payload.now slice found.1 c.requires
    (c.as_slice-payload.ensures.bytes ∙ c.control_payload-room.ensures.payload x is found) in
    subst (λ (l : List ℕ). IsTrue c.is_some.result ↔ IsRightClose l) same
    (right_by_code slice c.undefined_code_in.result c.is_some.result c.is_some.ensures c.undefined_code_in.ensures
    (λ close said. let other = (c.read.ensures.read close).1 said in cc))

pub returns-in-Err-OneByte : goal.returns-in-Err-OneByte
returns-in-Err-OneByte c = λ x is found.
    let slice = c.as_slice-payload.result.now in
    let same : slice ≡ x.payload = front_is_all x c.args.frame.now.payload.now slice found.1 c.requires
    (c.as_slice-payload.ensures.bytes ∙ c.control_payload-room.ensures.payload x is found) in
    let one = c.read.ensures.one_byte.0 (cc) in
    (λ e. absurd cc, λ h. absurd (wrong_byte slice one (subst (λ (l : List ℕ). IsRightClose l) (sym same) h)))

pub returns-in-Err-ReasonNotText : goal.returns-in-Err-ReasonNotText
returns-in-Err-ReasonNotText c = λ x is found.
    let slice = c.as_slice-payload.result.now in
    let same : slice ≡ x.payload = front_is_all x c.args.frame.now.payload.now slice found.1 c.requires
    (c.as_slice-payload.ensures.bytes ∙ c.control_payload-room.ensures.payload x is found) in
    let (close, held, allowed, never) = c.read.ensures.reason_not_text.0 (cc) in (
      λ e. absurd cc,
      λ h. absurd (wrong_reason slice close held never (subst (λ (l : List ℕ). IsRightClose l) (sym same) h)),
    )
