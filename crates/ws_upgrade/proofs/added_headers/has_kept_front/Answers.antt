-- A shorter name is compared whole: as many of its bytes as there are, and at most 14, are its first 14.
use Rattle.std.proofs.Common.{◌≡◌, ◌∙◌, ap, take, codes, List, ℕ}
use Rattle.std.specs.Str.{str_eq_ignore_ascii_case}
use Rattle.std.proofs.lemmas.List.{take_min}
use Rattle.ws_upgrade.proofs.added_headers.has_kept_front.Goals as goal

pub returns : goal.returns
returns c =
    c.is_same_word.ensures
    ∙ ap (λ (front : List ℕ). str_eq_ignore_ascii_case front (codes "Sec-WebSocket-"))
    (ap (λ (n : ℕ). take n c.args.name.now) c.min.ensures ∙ take_min 14 c.args.name.now)
