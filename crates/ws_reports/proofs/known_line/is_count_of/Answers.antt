-- Nothing stands behind the last count.
use Rattle.std.proofs.Common.{rules, ◌≡◌, [], List, ℕ, ap, length, subst, true}
use Rattle.std.proofs.lemmas.Bool.{false≢true}
use Rattle.std.proofs.lemmas.List.{nil_from_length}
use Rattle.ws_reports.specs.KnownLines.{HasCount}
use Rattle.ws_reports.proofs.Parts.{one_rest}
use Rattle.ws_reports.proofs.known_line.is_count_of.Goals as goal

pub returns-in-Some : goal.returns-in-Some
returns-in-Some c =
    let line = c.args.line.now in
    let word = c.args.word.now in
    let rest = c.in-Some.rest.now in
    let tells : (c.is_empty.result ≡ true → length rest ≡ 0) × (length rest ≡ 0 → c.is_empty.result ≡ true) =
    search rules in (
      λ is. subst (λ (l : List ℕ). HasCount word l line) (nil_from_length rest (tells.0 is)) c.in-Some.ensures,
      λ h. tells.1 (ap (λ (l : List ℕ). length l) (one_rest line word rest [] c.in-Some.ensures h)),
    )

pub returns-in-None : goal.returns-in-None
returns-in-None c = (λ wrong. absurd (false≢true wrong), λ h. absurd (c.in-None.ensures [] h))
