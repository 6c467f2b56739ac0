-- One case more, counted and kept.
use Rattle.std.proofs.Common.{◌≡◌, ◌∙◌, ℕ, ◌+◌, Bool, List, [], ◌∷◌, ◌++◌, Option, None, Some, ap, sym, arith, filter, length}
use Rattle.std.proofs.lemmas.List.{length-append}
use Rattle.std.proofs.lemmas.List.Elements.{filter-append}
use Rattle.std.proofs.lemmas.List.Sums.{fold-append}
use Rattle.ws_reports.specs.Kept.{kept_of, kept_with}
use Rattle.ws_reports.specs.KnownCounts.{counts_if, known_counts, stands_so}
use Rattle.ws_reports.specs.declared.kept.KeptVerdict.{KeptVerdict}
use Rattle.ws_reports.specs.declared.known_counts.Change.{Change}
use Rattle.ws_reports.specs.declared.known_counts.Change.TheVariants.{Changed, Fixed, New, Same}

more : (p : Option Change → Bool) (xs : List (Option Change)) (x : Option Change)
    → length (filter p (xs ++ x ∷ [])) ≡ length (filter p xs) + length (filter p (x ∷ []))
more p xs x = ap (λ l. length l) (filter-append p xs (x ∷ [])) ∙ length-append (filter p xs) (filter p (x ∷ []))

no_more : (n : ℕ) → n + 0 ≡ n
no_more n = omega arith

pub counts_more : (changes : List (Option Change)) (change : Option Change)
    → counts_if (known_counts changes) change ≡ known_counts (changes ++ change ∷ [])
counts_more changes None =
    let same = sym (more (stands_so Same) changes None ∙ no_more _) in
    let new = sym (more (stands_so New) changes None ∙ no_more _) in
    let fixed = sym (more (stands_so Fixed) changes None ∙ no_more _) in
    let changed = sym (more (stands_so Changed) changes None ∙ no_more _) in
    λ i. record { same = same i; new = new i; fixed = fixed i; changed = changed i }
counts_more changes (Some Same) =
    let same = sym (more (stands_so Same) changes (Some Same)) in
    let new = sym (more (stands_so New) changes (Some Same) ∙ no_more _) in
    let fixed = sym (more (stands_so Fixed) changes (Some Same) ∙ no_more _) in
    let changed = sym (more (stands_so Changed) changes (Some Same) ∙ no_more _) in
    λ i. record { same = same i; new = new i; fixed = fixed i; changed = changed i }
counts_more changes (Some New) =
    let same = sym (more (stands_so Same) changes (Some New) ∙ no_more _) in
    let new = sym (more (stands_so New) changes (Some New)) in
    let fixed = sym (more (stands_so Fixed) changes (Some New) ∙ no_more _) in
    let changed = sym (more (stands_so Changed) changes (Some New) ∙ no_more _) in
    λ i. record { same = same i; new = new i; fixed = fixed i; changed = changed i }
counts_more changes (Some Fixed) =
    let same = sym (more (stands_so Same) changes (Some Fixed) ∙ no_more _) in
    let new = sym (more (stands_so New) changes (Some Fixed) ∙ no_more _) in
    let fixed = sym (more (stands_so Fixed) changes (Some Fixed)) in
    let changed = sym (more (stands_so Changed) changes (Some Fixed) ∙ no_more _) in
    λ i. record { same = same i; new = new i; fixed = fixed i; changed = changed i }
counts_more changes (Some Changed) =
    let same = sym (more (stands_so Same) changes (Some Changed) ∙ no_more _) in
    let new = sym (more (stands_so New) changes (Some Changed) ∙ no_more _) in
    let fixed = sym (more (stands_so Fixed) changes (Some Changed) ∙ no_more _) in
    let changed = sym (more (stands_so Changed) changes (Some Changed)) in
    λ i. record { same = same i; new = new i; fixed = fixed i; changed = changed i }

pub kept_more : (verdicts : List (Option KeptVerdict)) (verdict : Option KeptVerdict)
    → kept_with (kept_of verdicts) verdict ≡ kept_of (verdicts ++ verdict ∷ [])
kept_more verdicts verdict = sym (fold-append kept_with [] verdicts (verdict ∷ []))
