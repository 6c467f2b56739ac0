-- What is put of a text is UTF-8, and it is the word of the payload.
use Rattle.std.proofs.Common.{◌≡◌, ◌∙◌, ◌++◌, List, ℕ, ap, rules, subst, sym, true}
use Rattle.std.specs.Str.{IsUtf8, is_utf8}
use Rattle.ws_formats.specs.QuotedText.{quoted_if_text}
use Rattle.wst_commands.proofs.ShownTexts.{shown_text_is_utf8}
use Rattle.wst_commands.proofs.styled_data.text_of.Goals as goal

pub from_utf8_unchecked-text-requires : goal.from_utf8_unchecked-text-requires
from_utf8_unchecked-text-requires c =
    let payload = c.args.payload.now in
    let is : is_utf8 payload ≡ true = search rules in
    let put = c.in_ok-put_text.ensures.put
    ∙ ap (λ (l : List ℕ). l ++ quoted_if_text payload) c.new-word.ensures.items in
    subst IsUtf8 (sym put) (shown_text_is_utf8 payload is)
