-- The first two words of the verdict stand before the words, and the lines between the tags.
use Rattle.std.proofs.Common.{◌∙◌, List, [], ◌∷◌, ℕ, ap, ap₂, codes}
use Rattle.std.specs.List.{concat}
use Rattle.ws_reports.specs.Escaping.{escaped, quoted}
use Rattle.ws_reports.specs.Junit.{first_two_words}
use Rattle.ws_reports.proofs.junit.failed_case.Goals as goal

abbrev element : List ℕ → List ℕ → List ℕ → List ℕ → List ℕ
element name kind words below = concat (codes "<testcase classname=\"wst\" name=\"" ∷ quoted name
    ∷ codes "\"><failure type=\"" ∷ quoted kind ∷ codes "\" message=\"" ∷ quoted words
    ∷ codes "\">\n" ∷ escaped below ∷ codes "</failure></testcase>\n" ∷ [])

pub returns : goal.returns
returns c =
    c.in_ok-format.ensures.ok
    ∙ (ap₂ (λ (name kind : List ℕ). element name kind c.as_bytes-3.result.now c.as_bytes-4.result.now)
    c.as_bytes.ensures.value
    (c.first_two_words.ensures ∙ ap (λ (l : List ℕ). first_two_words l) c.as_bytes-2.ensures.value)
    ∙ ap₂ (λ (words below : List ℕ). element c.args.name.now (first_two_words c.args.verdict.now) words below)
    c.as_bytes-3.ensures.value c.as_bytes-4.ensures.value)
