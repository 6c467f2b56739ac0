-- The verdict stands in place of the earlier one of its case.
use Rattle.std.proofs.Common.{◌≡◌, ◌∙◌, ℕ, List, ap, refl, rules, slice_set, subst, sym}
use Rattle.ws_reports.specs.Kept.{GoesTo}
use Rattle.ws_reports.specs.declared.kept.KeptVerdict.{KeptVerdict}
use Rattle.ws_reports.proofs.KeptLemmas.{set_at}
use Rattle.ws_reports.proofs.kept.KeptVerdicts.keep.Goals as goal

pub returns-in-Some-clause-kept : goal.returns-in-Some-clause-kept
returns-in-Some-clause-kept c =
    let kept = c.args.self.now in
    let place = c.in-Some.place in
    let inside : c.self.inside.items.items ≡ kept = search rules in
    let all : c.as_slice.result.now ≡ kept = search rules in
    let id : c.as_slice-2.result.now ≡ c.args.verdict.id = search rules in
    let (less, goes) = subst (λ (l : List KeptVerdict). GoesTo c.args.verdict.id l place) all
    (subst (λ (n : List ℕ). GoesTo n c.as_slice.result.now place) id c.in-Some.ensures) in
    ap (λ (l : List KeptVerdict). slice_set l place c.args.verdict) inside ∙ set_at kept place c.args.verdict less
    ∙ sym (goes c.args.verdict refl)
