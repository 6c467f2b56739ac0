-- What is known of a case by some of the lines, and then by those that are left.
use Rattle.std.proofs.Common.{◌≡◌, ◌∙◌, ℕ, ◌+◌, ◌<◌, ◌≤◌, List, ◌∷◌, length, drop, get_or, Option, Bor, ap, sym, subst}
use Rattle.std.proofs.lemmas.List.{drop_all, drop_more}
use Rattle.ws_reports.specs.Known.{IsKnownAs, known_after, known_verdict, known_with}
use Rattle.ws_reports.specs.declared.known_line.KnownLine.{KnownLine}

pub known_step : (id : List ℕ) (lines : List KnownLine) (i : ℕ) (line : KnownLine) (known whole : Option (List ℕ))
    → i < length lines → line ≡ get_or lines i line → known_after id known (drop i lines) ≡ whole
    → known_after id (known_with id line known) (drop (i + 1) lines) ≡ whole
known_step id lines i line known whole less is e =
    sym (ap (λ (l : List KnownLine). known_after id known l)
    (drop_more lines i line less ∙ ap (λ (x : KnownLine). x ∷ drop (i + 1) lines) (sym is))) ∙ e

pub known_whole : (id : List ℕ) (lines own : List KnownLine) (i : ℕ) (known : Option (List ℕ))
    (found : Option (Bor (List ℕ))) → length lines ≤ i → lines ≡ own
    → known_after id known (drop i lines) ≡ known_verdict id lines → IsKnownAs known found
    → IsKnownAs (known_verdict id own) found
known_whole id lines own i known found past same e is =
    subst (λ (k : Option (List ℕ)). IsKnownAs k found)
    (sym (ap (λ (l : List KnownLine). known_after id known l) (drop_all i lines past)) ∙ e
    ∙ ap (λ (l : List KnownLine). known_verdict id l) same) is
