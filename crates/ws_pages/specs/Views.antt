-- Inside the crate: what the types of the code mean. A reader may skip it.
use Rattle.ws_runs.specs.Views.{texts_now}
use Rattle.ws_pages.specs.Page.{PageFrame, PageTextsValue, TableValue}
use Rattle.ws_pages.specs.declared.page.Page.{Page}
use Rattle.ws_pages.specs.declared.table.PageTexts.{PageTexts}
use Rattle.ws_pages.specs.declared.table.Table.{Table}

-- what a page has beside the runs
abbrev pub texts_value : PageTexts → PageTextsValue
texts_value texts = record {
  titles = texts.titles.now;
  scripts = texts.scripts.now;
  groups = texts.groups.now;
  rules = texts.rules.now;
}

-- what the tables of a page are made of
abbrev pub table_value : Table → TableValue
table_value table =
    record { peers = table.peers.now; ids = texts_now table.ids.now; texts = texts_value table.texts }

-- the fixed parts of a page
abbrev pub page_frame : Page → PageFrame
page_frame page = record {
  front = page.front.now;
  legend = page.legend.now;
  fails = page.fails.now;
  filter = page.filter.now;
  back = page.back.now;
}
