-- It is late where the bytes from the frame at fault on hide the fault; without a fault it isn't.
use Rattle.std.proofs.Common.{◌≡◌, ◌∙◌, ℕ, List, ap, drop, sym, subst}
use Rattle.ws_wire.specs.Header.{AreBytes}
use Rattle.ws_wire.specs.Stream.{SplitsIntoAnyForm}
use Rattle.ws_suite.proofs.StreamEndLemmas.{ends_with_told_fault, late_is_told}
use Rattle.ws_suite.proofs.ToldLemmas.{asked_of_fault, never_late}
use Rattle.ws_suite.proofs.evidence.marks.Told.is_late.Goals as goal

pub returns-in-Some : goal.returns-in-Some
returns-in-Some c = λ role bytes h.
    let seen = c.args.self.now.seen in
    let s = h.is_seen in
    let reason = c.in-Some.reason in
    let asked : c.as_slice-frames.result.now ≡ drop seen.last bytes = c.as_slice-frames.ensures.value ∙ h.asked
    ∙ ap (λ (n : ℕ). drop n bytes) (asked_of_fault seen.end seen.last seen.after reason c.in-Some.ensures) in
    late_is_told role bytes reason seen.last s.events c.is_late.result
    (subst (λ (l : List ℕ). AreBytes l) asked c.are_bytes.ensures)
    (ends_with_told_fault role bytes s.events seen.end seen.last reason c.in-Some.ensures s.ends)
    (λ frames rest split. c.is_late.ensures frames rest
    (subst (λ (l : List ℕ). SplitsIntoAnyForm l frames rest) (sym asked) split))

pub returns-in-None : goal.returns-in-None
returns-in-None c = λ role bytes h. never_late role bytes c.args.self.now.seen h.is_seen c.in-None.ensures
