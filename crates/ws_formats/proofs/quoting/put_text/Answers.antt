-- A payload is plain, or any text, or none.
use Rattle.std.proofs.Common.{◌∙◌, ◌++◌, List, ℕ, ap, sym}
use Rattle.std.specs.Str.{chars}
use Rattle.std.proofs.lemmas.Str.{is_utf8-from_IsUtf8}
use Rattle.ws_formats.specs.QuotedText.{quoted_word}
use Rattle.ws_formats.proofs.QuotedTexts.{front_is_plain, no_text, none_put, plain_is_utf8, put_if_any}
use Rattle.ws_formats.proofs.quoting.put_text.Goals as goal

pub put_plain-requires : goal.put_plain-requires
put_plain-requires c = record { plain = front_is_plain 65 c.args.payload.now (sym c.if-are_plain.ensures) }

pub returns-then-are_plain-clause-text : goal.returns-then-are_plain-clause-text
returns-then-are_plain-clause-text c = sym (plain_is_utf8 c.args.payload.now (sym c.if-are_plain.ensures))

pub returns-then-are_plain-clause-put : goal.returns-then-are_plain-clause-put
returns-then-are_plain-clause-put c =
    put_if_any c.args.payload.now c.args.line.now.items c.put_plain.new.line.items
    (plain_is_utf8 c.args.payload.now (sym c.if-are_plain.ensures)) c.in_ok-put_plain.ensures

pub returns-in_default-clause-text : goal.returns-in_default-clause-text
returns-in_default-clause-text c = sym (no_text c.args.payload.now c.in_default.ensures.cases.0)

pub returns-in_default-clause-put : goal.returns-in_default-clause-put
returns-in_default-clause-put c =
    none_put c.args.payload.now c.args.line.now.items (no_text c.args.payload.now c.in_default.ensures.cases.0)

pub returns-clause-text : goal.returns-clause-text
returns-clause-text c = sym (is_utf8-from_IsUtf8 c.args.payload.now c.in-Ok.ensures.cases.1)

pub returns-clause-put : goal.returns-clause-put
returns-clause-put c =
    let line = c.args.line.now.items in
    put_if_any c.args.payload.now line c.put_quoted.new.line.items
    (is_utf8-from_IsUtf8 c.args.payload.now c.in-Ok.ensures.cases.1)
    (c.in_ok-put_quoted.ensures ∙ ap (λ (t : List ℕ). line ++ quoted_word (chars t)) c.in-Ok.ensures.cases.0)
