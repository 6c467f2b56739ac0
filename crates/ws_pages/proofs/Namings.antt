-- The first text of a name.
use Rattle.std.proofs.Common.{◌≡◌, ◌∙◌, ℕ, ◌+◌, ◌<◌, Bool, true, List, length, drop, get_or, ap, sym, if◌then◌else◌}
use Rattle.std.specs.Str.{bytes_eq}
use Rattle.ws_pages.specs.NamedTexts.{text_named}
use Rattle.ws_pages.specs.declared.named_text.NamedText.{NamedText}
use Rattle.ws_pages.proofs.Walks.{rest_first}

pub named_here : (texts : List NamedText) (i : ℕ) (text : NamedText) (name whole : List ℕ) → i < length texts
    → text ≡ get_or texts i text → bytes_eq text.name name ≡ true → text_named (drop i texts) name ≡ whole
    → text.text ≡ whole
named_here texts i text name whole less is same e =
    sym (ap (λ (b : Bool). if b then text.text else text_named (drop (i + 1) texts) name) same)
    ∙ sym (ap (λ (l : List NamedText). text_named l name) (rest_first texts i text less is)) ∙ e
