-- The bytes that are looked at are the first of the text, and one more.
use Rattle.std.proofs.Common.{◌∙◌, ℕ, List, sym, ap, take}
use Rattle.std.proofs.lemmas.List.{take_min}
use Rattle.std.specs.List.{list_all}
use Rattle.ws_formats.specs.QuotedText.{is_shown_plainly}
use Rattle.ws_formats.proofs.quoting.put_quoted.Goals as goal

pub put_plain-requires : goal.put_plain-requires
put_plain-requires c =
    let bytes = c.as_bytes-bytes.result.now in
    record {
      plain = ap (λ (l : List ℕ). list_all is_shown_plainly l)
          (sym (ap (λ n. take n bytes) c.min.ensures ∙ take_min 65 bytes)) ∙ sym c.if-are_plain.ensures;
    }
