-- The script is that of the case.
use Rattle.ws_pages.proofs.panel_html.PanelHtmlDisplay.fmt.Goals as goal

pub returns-clause-writes : goal.returns-clause-writes
returns-clause-writes g c = λ plain ok. rw (c.text_named.ensures) at (c.write.ensures.writes plain ok)
