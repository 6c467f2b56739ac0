-- The code stands in what is told of the stream.
use Rattle.std.proofs.Common.{◌≡◌, ◌∙◌, ◌++◌, ℕ, List, ap, drop, refl, subst}
use Rattle.std.specs.List.{concat}
use Rattle.ws_wire.specs.declared.role.Role.{Role}
use Rattle.ws_suite.specs.Evidence.{got_turns, other_role}
use Rattle.ws_suite.specs.InnerMarks.{IsSeen}
use Rattle.ws_suite.specs.Marks.{FailsByUndefinedCode}
use Rattle.ws_suite.specs.declared.evidence.marks.Told.{Told}
use Rattle.ws_suite.proofs.GotLemmas.{some_code}
use Rattle.ws_suite.proofs.ToldLemmas.{all_asked, told_so}
use Rattle.ws_suite.proofs.evidence.undefined_close.has_undefined_close.Goals as goal

pub undefined_code-requires : goal.undefined_code-requires
undefined_code-requires c =
    let role = other_role c.args.tested in
    let bytes = concat (got_turns c.args.past.now) ++ c.args.last.now in
    let seen = c.in_ok-seen.seen in
    let told : Told = record { seen = seen; bytes = c.in_ok-bytes.bytes } in
    all_asked role bytes told (told_so role bytes seen told
    (subst (λ (r : Role). IsSeen r bytes seen) c.other.ensures c.in_ok-seen.ensures)
    (refl, c.in_ok-bytes.ensures ∙ ap (λ (n : ℕ). drop n bytes) c.first_asked.ensures))

pub returns : goal.returns
returns c =
    let role = other_role c.args.tested in
    let bytes = concat (got_turns c.args.past.now) ++ c.args.last.now in
    let seen = c.in_ok-seen.seen in
    let told : Told = record { seen = seen; bytes = c.in_ok-bytes.bytes } in
    some_code c.undefined_code.result (FailsByUndefinedCode role bytes) c.is_some.result c.is_some.ensures
    (c.undefined_code.ensures role bytes (told_so role bytes seen told
    (subst (λ (r : Role). IsSeen r bytes seen) c.other.ensures c.in_ok-seen.ensures)
    (refl, c.in_ok-bytes.ensures ∙ ap (λ (n : ℕ). drop n bytes) c.first_asked.ensures)))
