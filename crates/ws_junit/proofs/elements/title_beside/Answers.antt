-- A text has the title of its bytes, and bytes that are no text have none.
use Rattle.std.proofs.Common.{◌∙◌, ℕ, Bool, List, [], ap, sym, if◌then◌else◌}
use Rattle.std.proofs.lemmas.Str.{is_utf8-from_IsUtf8}
use Rattle.ws_titles.specs.Titles.{title_of}
use Rattle.ws_junit.proofs.Found.{no_text}
use Rattle.ws_junit.proofs.elements.title_beside.Goals as goal

pub returns-in-Ok : goal.returns-in-Ok
returns-in-Ok c =
    let id = c.args.id.now in
    c.title_of.ensures ∙ ap title_of c.in-Ok.ensures.cases.0
    ∙ sym (ap (λ (b : Bool). if b then title_of id else []) (is_utf8-from_IsUtf8 id c.in-Ok.ensures.cases.1))

pub returns-in-Err : goal.returns-in-Err
returns-in-Err c =
    let id = c.args.id.now in
    sym (ap (λ (b : Bool). if b then title_of id else []) (no_text id c.in-Err.ensures.cases.0))
