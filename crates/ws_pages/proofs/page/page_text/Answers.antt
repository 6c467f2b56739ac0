-- The page is that of the columns and rows of the runs.
use Rattle.std.proofs.Common.{◌∙◌, ℕ, List, ap, ap₂}
use Rattle.ws_runs.specs.Runs.{PeerValue}
use Rattle.ws_runs.specs.Views.{texts_now}
use Rattle.ws_pages.specs.Page.{TableValue, fixed_parts, page_html}
use Rattle.ws_pages.specs.Views.{texts_value}
use Rattle.ws_pages.proofs.page.page_text.Goals as goal

pub returns : goal.returns
returns c =
    let table : List PeerValue → List (List ℕ) → TableValue =
    λ peers ids. record { peers = peers; ids = ids; texts = texts_value c.args.texts } in
    c.in_ok-text.ensures
    ∙ ap₂ (λ (peers : List PeerValue) (ids : List (List ℕ)). page_html fixed_parts c.args.date.now (table peers ids))
    c.peers.ensures (ap texts_now c.as_slice.ensures.value ∙ c.in_ok-ids.ensures)
