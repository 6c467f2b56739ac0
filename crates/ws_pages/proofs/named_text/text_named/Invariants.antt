-- None of the texts so far has the name.
use Rattle.std.proofs.Common.{◌≡◌, drop}
use Rattle.ws_pages.specs.NamedTexts.{text_named}
use Rattle.ws_pages.proofs.named_text.text_named.Given as goal

abbrev pub invariant-loop-text : goal.invariant-loop-text
invariant-loop-text l = text_named (drop l.text-index l.texts) l.name ≡ text_named l.texts l.name
