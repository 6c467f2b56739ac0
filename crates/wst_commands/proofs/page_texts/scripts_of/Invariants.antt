-- The scripts of the names so far.
use Rattle.std.proofs.Common.{map, string_bytes, take}
use Rattle.wst_commands.specs.PageTexts.{AreScripts}
use Rattle.wst_commands.proofs.page_texts.scripts_of.Given as goal

abbrev pub invariant-loop-name : goal.invariant-loop-name
invariant-loop-name l = AreScripts (map string_bytes (take l.name-index l.name-items)) l.scripts.items
