-- What is kept is the front of the payload, without its mask.
use Rattle.std.proofs.Common.{◌∙◌, ap, sym}
use Rattle.ws_wire.specs.Header.{HeaderFields}
use Rattle.ws_suite.proofs.FoundFrames.{front_unmasked}
use Rattle.ws_suite.proofs.evidence.wire_frames.control_payload.Goals as goal

pub returns-clause-payload : goal.returns-clause-payload
returns-clause-payload c = λ x is found.
    let key = c.key.ensures.value ∙ sym (ap (λ (h : HeaderFields). h.key) found.0) in
    c.of.ensures ∙ (c.unmask.ensures
    ∙ front_unmasked x c.args.frame.now.payload.now c.copy_from_slice.new.self c.key.result c.min-len.result found.1
    (c.copy_from_slice.ensures.after ∙ c.split_at.ensures.front) c.min-len.ensures key)
