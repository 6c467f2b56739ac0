-- The frame at the front is the one that stands there.
use Rattle.std.proofs.Common.{◌≡◌, ◌∙◌, List, MatchOption, ℕ, subst}
use Rattle.std.proofs.lemmas.List.{take_all}
use Rattle.ws_suite.specs.Marks.{HoldsUndefinedCode}
use Rattle.ws_suite.proofs.FoundFrames.{found_here}
use Rattle.ws_suite.proofs.evidence.wire_frames.undefined_code.Goals as goal

pub returns-in-Some : goal.returns-in-Some
returns-in-Some c = λ x more is parts short.
    let found = found_here c.args.bytes.now more x c.in-Some.frame c.in-Some.ensures is parts in
    let same : c.as_slice.result.now ≡ x.payload = c.as_slice.ensures.bytes
    ∙ (c.control_payload.ensures.payload x is found ∙ take_all 125 x.payload short) in
    subst (λ (l : List ℕ).
    MatchOption c.undefined_code_in.result ((code : ℕ) → HoldsUndefinedCode l code → ⊥) (HoldsUndefinedCode l)) same
    c.undefined_code_in.ensures
