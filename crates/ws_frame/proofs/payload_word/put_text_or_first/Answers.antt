-- A payload is UTF-8, or it is none.
use Rattle.std.proofs.Common.{◌≡◌, ◌∙◌, ◌++◌, List, [], ℕ, Bool, ap, append-nil, false, sym, true}
use Rattle.std.specs.Prelude.{if◌then◌else◌}
use Rattle.std.specs.Str.{chars, is_utf8}
use Rattle.std.proofs.lemmas.Result.{on_ok_weaker}
use Rattle.ws_formats.specs.QuotedText.{quoted_word, quoted_if_text}
use Rattle.ws_frame.specs.Lines.{first_word, text_word}
use Rattle.ws_frame.proofs.payload_word.put_text_or_first.Goals as goal

-- the two words, where it is text and where it isn't
where_text : (payload : List ℕ) → is_utf8 payload ≡ true → quoted_if_text payload ≡ text_word payload
where_text payload is =
    ap (λ (b : Bool). if b then quoted_word (chars payload) else []) is
    ∙ ap (λ (b : Bool). if b then quoted_word (chars payload) else first_word payload) (sym is)

where_none : (payload line mid : List ℕ) → is_utf8 payload ≡ false → mid ≡ line ++ quoted_if_text payload
    → mid ++ first_word payload ≡ line ++ text_word payload
where_none payload line mid is put =
    ap (λ (t : List ℕ). t ++ first_word payload)
    (put ∙ ap (λ (b : Bool). line ++ (if b then quoted_word (chars payload) else [])) is ∙ append-nil line)
    ∙ ap (λ (b : Bool). line ++ (if b then quoted_word (chars payload) else first_word payload)) (sym is)

pub returns-then-branch : goal.returns-then-branch
returns-then-branch c =
    let payload = c.args.payload.now in
    c.in_ok-put_text.ensures.put
    ∙ ap (λ (t : List ℕ). c.args.line.now.items ++ t)
    (where_text payload (sym c.in_ok-put_text.ensures.text ∙ c.if-branch.true))

pub returns : goal.returns
returns c =
    let payload = c.args.payload.now in
    let line = c.args.line.now.items in
    on_ok_weaker c.put_first.result (λ put. put
    ∙ where_none payload line c.put_text.new.line.items (sym c.in_ok-put_text.ensures.text ∙ c.if-branch.false)
    c.in_ok-put_text.ensures.put) c.put_first.ensures
