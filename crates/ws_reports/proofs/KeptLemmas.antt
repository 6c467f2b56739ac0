-- Where the verdict of a case goes among those that are kept.
use Rattle.std.proofs.Common.{◌≡◌, ◌∙◌, ℕ, ◌+◌, ◌<◌, ◌≤◌, Bool, true, false, List, [], ◌∷◌, ◌++◌, length, take, drop}
use Rattle.std.proofs.Common.{get_or, ap, sym, append_assoc, arith, slice_set, suc, take_all, if◌then◌else◌}
use Rattle.std.proofs.lemmas.List.{drop_all, drop_more, set_split, take_more}
use Rattle.std.specs.Str.{bytes_eq}
use Rattle.ws_reports.specs.Kept.{verdict_after}
use Rattle.ws_reports.specs.declared.kept.KeptVerdict.{KeptVerdict}

drop_first : (kept : List KeptVerdict) (i : ℕ) (first : KeptVerdict) → i < length kept
    → first ≡ get_or kept i first → drop i kept ≡ first ∷ drop (i + 1) kept
drop_first kept i first less is =
    drop_more kept i first less ∙ ap (λ (y : KeptVerdict). y ∷ drop (i + 1) kept) (sym is)

-- it goes on behind this one, which is of another case
pub goes_on : (kept : List KeptVerdict) (i : ℕ) (first verdict : KeptVerdict) → i < length kept
    → first ≡ get_or kept i first → bytes_eq first.id verdict.id ≡ false
    → take i kept ++ verdict_after (drop i kept) verdict ≡ verdict_after kept verdict
    → take (i + 1) kept ++ verdict_after (drop (i + 1) kept) verdict ≡ verdict_after kept verdict
goes_on kept i first verdict less is other e =
    let rest = drop (i + 1) kept in
    ap (λ (l : List KeptVerdict). l ++ verdict_after rest verdict)
    (take_more kept i first less ∙ ap (λ (y : KeptVerdict). take i kept ++ y ∷ []) (sym is))
    ∙ append_assoc (take i kept) (first ∷ []) (verdict_after rest verdict)
    ∙ sym (ap (λ (b : Bool). take i kept ++ (if b then verdict ∷ rest else first ∷ verdict_after rest verdict)) other)
    ∙ sym (ap (λ (l : List KeptVerdict). take i kept ++ verdict_after l verdict) (drop_first kept i first less is)) ∙ e

-- it goes to the place of this one, which is of its case
pub goes_here : (kept : List KeptVerdict) (i : ℕ) (first verdict : KeptVerdict) → i < length kept
    → first ≡ get_or kept i first → bytes_eq first.id verdict.id ≡ true
    → take i kept ++ verdict_after (drop i kept) verdict ≡ verdict_after kept verdict
    → verdict_after kept verdict ≡ take i kept ++ verdict ∷ drop (i + 1) kept
goes_here kept i first verdict less is same e =
    let rest = drop (i + 1) kept in
    sym e
    ∙ ap (λ (l : List KeptVerdict). take i kept ++ verdict_after l verdict) (drop_first kept i first less is)
    ∙ ap (λ (b : Bool). take i kept ++ (if b then verdict ∷ rest else first ∷ verdict_after rest verdict)) same

-- it goes behind all, where none of them is of its case
pub goes_last : (kept : List KeptVerdict) (i : ℕ) (verdict : KeptVerdict) → length kept ≤ i
    → take i kept ++ verdict_after (drop i kept) verdict ≡ verdict_after kept verdict
    → verdict_after kept verdict ≡ kept ++ verdict_after [] verdict
goes_last kept i verdict past e =
    sym e ∙ ap (λ (l : List KeptVerdict). take i kept ++ verdict_after l verdict) (drop_all i kept past)
    ∙ ap (λ (l : List KeptVerdict). l ++ verdict_after [] verdict) (take_all i kept past)

-- what stands there is another
pub set_at : (kept : List KeptVerdict) (i : ℕ) (verdict : KeptVerdict) → i < length kept
    → slice_set kept i verdict ≡ take i kept ++ verdict ∷ drop (i + 1) kept
set_at kept i verdict less =
    let one : suc i ≡ i + 1 = omega arith in
    set_split kept i verdict less ∙ ap (λ (n : ℕ). take i kept ++ verdict ∷ drop n kept) one
