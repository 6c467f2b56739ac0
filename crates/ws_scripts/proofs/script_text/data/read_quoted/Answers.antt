-- Between the first byte and the last, which are quotes, stands the text.
use Rattle.std.proofs.Common.{◌≡◌, ◌++◌, ◌∷◌, [], ◌∙◌, List, ℕ, ap, codes, rules, sym}
use Rattle.std.proofs.lemmas.List.{append_cancel_left}
use Rattle.ws_scripts.proofs.ScriptData.{quoted_read}
use Rattle.ws_scripts.proofs.script_text.data.read_quoted.Goals as goal

pub returns-in_default : goal.returns-in_default
returns-in_default c = λ e bytes h. c.in_default.ensures (h.inner ++ 34 ∷ []) h.spelled

pub returns-in_default-before_quote : goal.returns-in_default-before_quote
returns-in_default-before_quote c = λ e bytes h.
    let after : c.args.word.now ≡ codes "\"" ++ c.in-Some.after.now = search rules in
    c.in_default-before_quote.ensures h.inner
    (append_cancel_left (codes "\"") c.in-Some.after.now (h.inner ++ 34 ∷ []) (sym after ∙ h.spelled))

pub returns : goal.returns
returns c =
    let after : c.args.word.now ≡ codes "\"" ++ c.in-Some.after.now = search rules in
    let text : c.in-Some.after.now ≡ c.in-Some-before_quote.text.now ++ 34 ∷ [] = search rules in
    quoted_read c.unquote.result c.in-Some-before_quote.text.now c.args.word.now
    (after ∙ ap (λ (l : List ℕ). codes "\"" ++ l) text) c.unquote.ensures
