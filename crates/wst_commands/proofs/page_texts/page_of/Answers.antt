-- The page has these texts.
use Rattle.std.proofs.Common.{rules, ◌≡◌, map, string_bytes}
use Rattle.ws_scripts.specs.CaseNames.{listed_names}
use Rattle.wst_commands.specs.PageTexts.{group_texts, rule_texts, title_texts}
use Rattle.wst_commands.proofs.PageRecords.{page_of_equal}
use Rattle.wst_commands.proofs.page_texts.page_of.Goals as goal

pub returns : goal.returns
returns c =
    let titles : c.as_slice.result.now ≡ title_texts = search rules in
    let scripts : c.as_slice-2.result.now ≡ c.in_ok-scripts.scripts.items = search rules in
    let groups : c.as_slice-3.result.now ≡ group_texts = search rules in
    let ruled : c.as_slice-4.result.now ≡ rule_texts = search rules in (
      c.in_ok-scripts.scripts.items,
      c.in_ok-scripts.ensures,
      page_of_equal c.args.runs.now (string_bytes c.in_ok-page.page) c.args.date.now
          (map string_bytes c.args.listed.now) listed_names c.as_slice.result.now title_texts
          c.as_slice-2.result.now c.in_ok-scripts.scripts.items c.as_slice-3.result.now group_texts
          c.as_slice-4.result.now rule_texts c.requires titles scripts groups ruled c.in_ok-page.ensures,
    )
