-- Tests and their lines, one after the other.
use Rattle.std.proofs.Common.{◌≡◌, ◌∙◌, ◌+◌, ℕ, Bool, true, false, List, [], ◌∷◌, ◌++◌, Option}
use Rattle.std.proofs.Common.{ap, arith, refl, sym, inl, if◌then◌else◌}
use Rattle.std.proofs.Common.{inr, append-nil, append_assoc, filter, length, map, ◌||◌}
use Rattle.std.proofs.KnownBytes.{Appends-trans}
use Rattle.std.proofs.lemmas.Grind.{flat_map-append}
use Rattle.std.proofs.lemmas.List.{length-append, map-append}
use Rattle.std.proofs.lemmas.List.Elements.{filter-append}
use Rattle.std.proofs.lemmas.List.Folds.{list_any-append}
use Rattle.std.specs.List.{list_any}
use Rattle.std.specs.Io.KnownBytes.{Appends}
use Rattle.ws_frame.specs.Watching.{AppendsFront}
use Rattle.ws_reports.specs.Kept.{kept_of}
use Rattle.ws_reports.specs.KnownCounts.{known_counts}
use Rattle.ws_reports.specs.Reports.{ReportValue}
use Rattle.ws_reports.proofs.CountLemmas.{counts_more, kept_more}
use Rattle.ws_scripts.specs.declared.script.Case.{Case}
use Rattle.std.specs.declared.alloc.Global.{Global}
use Rattle.std.specs.declared.string.String.{String}
use Rattle.ws_suite.specs.declared.verdict.Verdict.{Verdict}
use Rattle.ws_suite.specs.declared.verdict.Verdict.TheVariants as verdict
use Rattle.wst_commands.specs.Devices.{Delivers}
use Rattle.wst_testing.specs.Outcomes.{is_fail, is_loose, is_pass}
use Rattle.wst_testing.specs.Outcomes.{tally_of, tally_with, tally_with_verdict}
use Rattle.wst_testing.specs.Reporting.{change_in, fails_in, is_failure, report_text, report_texts, score_of, score_with}
use Rattle.wst_testing.specs.Reporting.{verdict_in}
use Rattle.wst_testing.specs.Testing.{outcomes_in}
use Rattle.wst_commands.specs.declared.exit.Exit.{Exit}
use Rattle.wst_testing.specs.declared.outcome.Outcome.{Outcome}
use Rattle.wst_testing.specs.declared.outcome.Outcome.TheVariants.{HeadRefused, Judged, NoConnection, NotRun}

-- what is written of one more case
pub one_more_line : (report : ReportValue) (tests : List (Case × Outcome)) (test : Case × Outcome)
    → report_texts report tests ++ report_text report test ≡ report_texts report (tests ++ test ∷ [])
one_more_line report tests test =
    ap (λ (l : List ℕ). report_texts report tests ++ l) (sym (append-nil (report_text report test)))
    ∙ sym (flat_map-append (report_text report) tests (test ∷ []))

-- how many of some items pass
count_more : {X : Type 0} (p : X → Bool) (xs : List X) (x : X) → length (filter p (xs ++ x ∷ [])) ≡ length (filter p xs) + length (filter p (x ∷ []))
count_more p xs x = ap (λ l. length l) (filter-append p xs (x ∷ [])) ∙ length-append (filter p xs) (filter p (x ∷ []))

no_more : (n : ℕ) → n + 0 ≡ n
no_more n = omega arith

-- the tally with the next outcome
more_judged : (outcomes : List Outcome) (told : Verdict) (below : String Global)
    → tally_with_verdict (tally_of outcomes) told ≡ tally_of (outcomes ++ Judged (record { verdict = told; below = below }) ∷ [])
more_judged outcomes verdict.Pass below =
    let pass = sym (count_more is_pass outcomes (Judged (record { verdict = verdict.Pass; below = below }))) in
    let loose = sym (count_more is_loose outcomes (Judged (record { verdict = verdict.Pass; below = below })) ∙ no_more _) in
    let fail = sym (count_more is_fail outcomes (Judged (record { verdict = verdict.Pass; below = below })) ∙ no_more _) in
    λ i. record { pass = pass i; loose = loose i; fail = fail i }
more_judged outcomes (verdict.Loose why) below =
    let pass = sym (count_more is_pass outcomes (Judged (record { verdict = (verdict.Loose why); below = below })) ∙ no_more _) in
    let loose = sym (count_more is_loose outcomes (Judged (record { verdict = (verdict.Loose why); below = below }))) in
    let fail = sym (count_more is_fail outcomes (Judged (record { verdict = (verdict.Loose why); below = below })) ∙ no_more _) in
    λ i. record { pass = pass i; loose = loose i; fail = fail i }
more_judged outcomes (verdict.Fail why) below =
    let pass = sym (count_more is_pass outcomes (Judged (record { verdict = (verdict.Fail why); below = below })) ∙ no_more _) in
    let loose = sym (count_more is_loose outcomes (Judged (record { verdict = (verdict.Fail why); below = below })) ∙ no_more _) in
    let fail = sym (count_more is_fail outcomes (Judged (record { verdict = (verdict.Fail why); below = below }))) in
    λ i. record { pass = pass i; loose = loose i; fail = fail i }

pub tally_more : (outcomes : List Outcome) (outcome : Outcome) → tally_with (tally_of outcomes) outcome ≡ tally_of (outcomes ++ outcome ∷ [])
tally_more outcomes (Judged told) = more_judged outcomes told.verdict told.below
tally_more outcomes (HeadRefused refusal) =
    let pass = sym (count_more is_pass outcomes (HeadRefused refusal) ∙ no_more _) in
    let loose = sym (count_more is_loose outcomes (HeadRefused refusal) ∙ no_more _) in
    let fail = sym (count_more is_fail outcomes (HeadRefused refusal)) in
    λ i. record { pass = pass i; loose = loose i; fail = fail i }
tally_more outcomes (NoConnection why) =
    let pass = sym (count_more is_pass outcomes (NoConnection why) ∙ no_more _) in
    let loose = sym (count_more is_loose outcomes (NoConnection why) ∙ no_more _) in
    let fail = sym (count_more is_fail outcomes (NoConnection why)) in
    λ i. record { pass = pass i; loose = loose i; fail = fail i }
tally_more outcomes NotRun =
    let pass = sym (count_more is_pass outcomes NotRun ∙ no_more _) in
    let loose = sym (count_more is_loose outcomes NotRun ∙ no_more _) in
    let fail = sym (count_more is_fail outcomes NotRun) in
    λ i. record { pass = pass i; loose = loose i; fail = fail i }

-- and of the tests with the next one
pub tally_of_more : (tests : List (Case × Outcome)) (case : Case) (outcome : Outcome)
    → tally_with (tally_of (outcomes_in tests)) outcome ≡ tally_of (outcomes_in (tests ++ (case, outcome) ∷ []))
tally_of_more tests case outcome = tally_more (outcomes_in tests) outcome
    ∙ ap (λ (l : List Outcome). tally_of l) (sym (map-append (λ (t : Case × Outcome). t.1) tests ((case, outcome) ∷ [])))

pub or_none : (b : Bool) → (b || false) ≡ b
or_none true = refl
or_none false = refl

-- each outcome is of one kind
one_judged : (told : Verdict) (below : String Global)
    → length (filter is_pass (Judged (record { verdict = told; below = below }) ∷ []))
    + length (filter is_loose (Judged (record { verdict = told; below = below }) ∷ []))
    + length (filter is_fail (Judged (record { verdict = told; below = below }) ∷ [])) ≡ 1
one_judged verdict.Pass below = refl
one_judged (verdict.Loose why) below = refl
one_judged (verdict.Fail why) below = refl

one_kind : (outcome : Outcome)
    → length (filter is_pass (outcome ∷ [])) + length (filter is_loose (outcome ∷ []))
    + length (filter is_fail (outcome ∷ [])) ≡ 1
one_kind (Judged told) = one_judged told.verdict told.below
one_kind (HeadRefused refusal) = refl
one_kind (NoConnection why) = refl
one_kind NotRun = refl

count_first : {X : Type 0} (p : X → Bool) (x : X) (xs : List X)
    → length (filter p (x ∷ xs)) ≡ length (filter p (x ∷ [])) + length (filter p xs)
count_first p x xs = ap (λ l. length l) (filter-append p (x ∷ []) xs) ∙ length-append (filter p (x ∷ [])) (filter p xs)

-- the kinds are all there are
pub kinds_are_all : (outcomes : List Outcome)
    → length (filter is_pass outcomes) + length (filter is_loose outcomes) + length (filter is_fail outcomes)
    ≡ length outcomes
kinds_are_all [] = refl
kinds_are_all (outcome ∷ outcomes) = omega (
  arith,
  one_kind outcome,
  count_first is_pass outcome outcomes,
  count_first is_loose outcome outcomes,
  count_first is_fail outcome outcomes,
  kinds_are_all outcomes,
)

-- one item passes or not
one_passes : {X : Type 0} (b : Bool) (x : X) → length (if b then x ∷ [] else []) ≡ (if b then 1 else 0)
one_passes true x = refl
one_passes false x = refl

one_counts : (b : Bool) (n : ℕ) → (if b then n + 1 else n) ≡ n + (if b then 1 else 0)
one_counts true n = refl
one_counts false n = omega arith

-- how many pass with the next one
pub count_then : {X : Type 0} (p : X → Bool) (xs : List X) (x : X)
    → (if p x then length (filter p xs) + 1 else length (filter p xs)) ≡ length (filter p (xs ++ x ∷ []))
count_then p xs x = one_counts (p x) (length (filter p xs))
    ∙ ap (λ (n : ℕ). length (filter p xs) + n) (sym (one_passes (p x) x))
    ∙ sym (count_more p xs x)

-- and what the run comes to
pub score_more : (report : ReportValue) (tests : List (Case × Outcome)) (case : Case) (outcome : Outcome)
    → score_with report (score_of report tests) (case, outcome) ≡ score_of report (tests ++ (case, outcome) ∷ [])
score_more report tests case outcome =
    let tally = tally_of_more tests case outcome in
    let one : list_any (fails_in report) ((case, outcome) ∷ []) ≡ fails_in report (case, outcome) =
    or_none (fails_in report (case, outcome)) in
    let fails = sym (list_any-append (fails_in report) tests ((case, outcome) ∷ [])
    ∙ ap (λ (b : Bool). list_any (fails_in report) tests || b) one) in
    let failures = count_then (is_failure report) tests (case, outcome) in
    let next = (case, outcome) ∷ [] in
    let known = counts_more (map (change_in report) tests) (change_in report (case, outcome))
    ∙ ap known_counts (sym (map-append (change_in report) tests next)) in
    let kept = kept_more (map (verdict_in report) tests) (verdict_in report (case, outcome))
    ∙ ap kept_of (sym (map-append (verdict_in report) tests next)) in
    λ i. record { tally = tally i; is_failed = fails i; failures = failures i; known = known i; kept = kept i }

-- a beginning of some bytes, written after others, is a beginning of both
pub then_begun : (a b c : Option (List ℕ)) (first second : List ℕ) → Appends a b first → AppendsFront b c second → AppendsFront a c (first ++ second)
then_begun a b c first second written (front, more, is, begun) = (
  first ++ front,
  more,
  ap (λ (l : List ℕ). first ++ l) is ∙ sym (append_assoc first front more),
  Appends-trans a b c first front written begun,
)

-- what is delivered after other bytes
pub delivers_after : (old mid new : Option (List ℕ)) (failed : Bool) (first second : List ℕ) (done exit : Exit) → Appends old mid first
    → Delivers done second exit (record { failed = failed; old = mid; new = new }) → Delivers done (first ++ second) exit (record { failed = failed; old = old; new = new })
delivers_after old mid new failed first second by exit before (inl (is, works, written)) = inl (is, works, Appends-trans old mid new first second before written)
delivers_after old mid new failed first second by exit before (inr (is, fails, begun)) = inr (is, fails, then_begun old mid new first second before begun)
