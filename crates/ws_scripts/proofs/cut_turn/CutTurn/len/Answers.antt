-- There are as many pieces as are cut.
use Rattle.std.proofs.Common.{◌≡◌, ◌∙◌, ℕ, List, ap, length, rules, sym}
use Rattle.std.specs.Int.{div_ceil}
use Rattle.ws_scripts.specs.declared.cut_turn.Cut.{Cut}
use Rattle.ws_scripts.specs.InnerCutting.{pieces_of}
use Rattle.ws_scripts.proofs.CutLemmas.{count_at, count_every}
use Rattle.ws_scripts.proofs.cut_turn.CutTurn.len.Goals as goal

pub returns-in-Every : goal.returns-in-Every
returns-in-Every c =
    let bytes = c.self.inside.bytes.items in
    let n = c.in-Every.count in
    let long : c.len.result ≡ length bytes = search rules in
    c.div_ceil.ensures ∙ ap (λ (k : ℕ). div_ceil k n) long ∙ sym (count_every n (div_ceil (length bytes) n) bytes)
    ∙ ap (λ (l : List (List ℕ)). length l) (sym (ap (λ (x : Cut). pieces_of x bytes) c.in-Every.is) ∙ c.self.view_is)

pub returns-in-At : goal.returns-in-At
returns-in-At c =
    let bytes = c.self.inside.bytes.items in
    let ends = c.in-At.ends in
    c.len-in-At.ensures ∙ sym (count_at 0 ends bytes)
    ∙ ap (λ (l : List (List ℕ)). length l) (sym (ap (λ (x : Cut). pieces_of x bytes) c.in-At.is) ∙ c.self.view_is)
