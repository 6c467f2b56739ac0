-- The text stands between the tags.
use Rattle.std.proofs.Common.{◌∙◌, List, ℕ, ap₂}
use Rattle.ws_reports.specs.Junit.{noted_case}
use Rattle.ws_reports.proofs.junit.noted_case.Goals as goal

pub returns : goal.returns
returns c =
    c.in_ok-format.ensures.ok
    ∙ ap₂ (λ (id text : List ℕ). noted_case id text) c.as_bytes.ensures.value c.as_bytes-2.ensures.value
