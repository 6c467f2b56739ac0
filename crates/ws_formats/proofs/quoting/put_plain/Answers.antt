-- Plain bytes are put in one copy.
use Rattle.std.proofs.Common.{◌∙◌, ◌++◌, List, ℕ, take, sym, ap, codes, append_assoc, length, nat_lt}
use Rattle.std.proofs.lemmas.List.{take_min}
use Rattle.std.proofs.lemmas.Result.{on_ok_weaker}
use Rattle.ws_formats.specs.QuotedText.{quoted_end}
use Rattle.ws_formats.proofs.QuotedTexts.{plain_quoted}
use Rattle.ws_formats.proofs.quoting.put_plain.Goals as goal

pub returns : goal.returns
returns c =
    let line = c.args.line.now.items in
    let bytes = c.args.bytes.now in
    let end = quoted_end (nat_lt 64 (length bytes)) in
    on_ok_weaker c.put_end.result (λ last. last
    ∙ ap (λ (l : List ℕ). l ++ end) c.in_ok-extend_from_slice-2.ensures.items
    ∙ ap (λ (l : List ℕ). (l ++ take c.min.result bytes) ++ end) c.in_ok-extend_from_slice.ensures.items
    ∙ ap (λ (l : List ℕ). ((line ++ codes "\"") ++ l) ++ end) (ap (λ n. take n bytes) c.min.ensures ∙ take_min 64 bytes)
    ∙ append_assoc (line ++ codes "\"") (take 64 bytes) end ∙ append_assoc line (codes "\"") (take 64 bytes ++ end)
    ∙ ap (λ (l : List ℕ). line ++ l) (sym (plain_quoted bytes c.requires.plain))) c.put_end.ensures
