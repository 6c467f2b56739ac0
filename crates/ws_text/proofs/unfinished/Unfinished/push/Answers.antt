-- A short piece of ASCII is a text.
use Rattle.std.proofs.Common.{ℕ, List, [], refl, arith, subst}
use Rattle.std.specs.Str.{IsAscii}
use Rattle.std.proofs.lemmas.List.{take_all}
use Rattle.std.proofs.lemmas.Str.{IsUtf8-from_ascii}
use Rattle.ws_text.specs.InnerStep.{kept_bytes}
use Rattle.ws_text.proofs.Texts.{text_from_utf8, unfinished_after, unfinished_of_text, text_without_unfinished}
use Rattle.ws_text.proofs.unfinished.Unfinished.push.Goals as goal

pub returns-then-is_short_ascii-clause-text : goal.returns-then-is_short_ascii-clause-text
returns-then-is_short_ascii-clause-text c = λ text h.
    let piece = c.args.piece.now in
    let is_text = (text_without_unfinished text (kept_bytes c.args.self) h).1 (c.if-is_nothing.ensures.0 refl) in
    unfinished_after text piece [] is_text (unfinished_of_text piece (text_from_utf8 piece (IsUtf8-from_ascii piece (c.if-is_short_ascii.ensures.ascii refl))))

pub returns-then-ascii-piece-clause-text : goal.returns-then-ascii-piece-clause-text
returns-then-ascii-piece-clause-text c = λ text h.
    let piece = c.args.piece.now in
    let is_text = (text_without_unfinished text (kept_bytes c.args.self) h).1 (c.if-is_nothing.ensures.0 refl) in
    let ascii : IsAscii piece = subst (λ (l : List ℕ). IsAscii l) (take_all c.few_ascii-ascii.result piece (omega (arith, c.if-ascii-piece.true))) c.few_ascii-ascii.ensures.ascii in
    unfinished_after text piece [] is_text (unfinished_of_text piece (text_from_utf8 piece (IsUtf8-from_ascii piece ascii)))
