-- A word that spells bytes which aren't UTF-8 spells no text.
use Rattle.std.proofs.Common.{◌≡◌, ◌∙◌, sym, subst, string_bytes}
use Rattle.std.proofs.Math.Logic.{∥∥₁_elim}
use Rattle.std.proofs.lemmas.Bool.{false≢true}
use Rattle.std.specs.Str.{IsUtf8}
use Rattle.ws_formats.proofs.HexWords.{hex_one}
use Rattle.ws_formats.proofs.closing.read_text.Goals as goal

pub returns : goal.returns
returns c = λ e text h.
    let same : string_bytes text ≡ c.into_vec.result.items = hex_one (string_bytes text) c.in_ok-bytes.bytes c.args.word.now h c.in_ok-bytes.ensures ∙ sym c.into_vec.ensures in
    ∥∥₁_elim text.ok (λ x y. absurd x) (λ (is : IsUtf8 (string_bytes text)). false≢true (c.in-Err.ensures.succeeds (subst IsUtf8 same is)))
