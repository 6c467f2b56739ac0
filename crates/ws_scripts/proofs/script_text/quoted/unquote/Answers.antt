-- Plain bytes stand for themselves; other texts are UTF-8 whose characters are read.
use Rattle.std.proofs.Common.{◌≡◌, IsUtf8, rules, true}
use Rattle.std.specs.List.{list_all}
use Rattle.ws_scripts.specs.InnerQuoting.{is_plain_byte}
use Rattle.ws_scripts.proofs.QuotedLemmas.{copied, unescaped}
use Rattle.ws_scripts.proofs.script_text.quoted.unquote.Goals as goal

pub returns-then-are_plain : goal.returns-then-are_plain
returns-then-are_plain c =
    let plain : list_all is_plain_byte c.args.inner.now ≡ true = search rules in
    copied c.copy.result c.args.inner.now plain c.copy.ensures.bytes c.copy.ensures.memory

pub returns-in-Ok : goal.returns-in-Ok
returns-in-Ok c =
    let same : c.in-Ok.text.now ≡ c.args.inner.now = search rules in
    let utf8 : IsUtf8 c.args.inner.now = search rules in
    unescaped c.unescape.result c.in-Ok.text.now c.args.inner.now same utf8 c.unescape.ensures
