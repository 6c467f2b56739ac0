-- A piece ends after so many bytes a piece, or at its place.
use Rattle.std.proofs.Common.{◌≡◌, ◌∙◌, ◌+◌, ◌<◌, ◌^◌, ℕ, List, ap, get_or, length, min, rules, subst, sym, take}
use Rattle.std.specs.List.{concat}
use Rattle.ws_scripts.specs.declared.cut_turn.Cut.{Cut}
use Rattle.ws_scripts.specs.InnerCutting.{AreEndsOf, IsCut, cut_at, pieces_of}
use Rattle.ws_scripts.proofs.CutLemmas.{end_every, end_kept}
use Rattle.ws_scripts.proofs.cut_turn.CutTurn.end.Goals as goal

pub returns-in-Every : goal.returns-in-Every
returns-in-Every c =
    let bytes = c.self.inside.bytes.items in
    let n = c.in-Every.count in
    let long : c.len-all.result ≡ length bytes = search rules in
    let fits : length bytes < 2 ^ 64 = subst (λ (k : ℕ). k < 2 ^ 64) long c.len-all.type_inv in
    let some : 0 < n = subst (λ (x : Cut). IsCut x bytes) c.in-Every.is c.self.invariant in
    end_every n c.args.number c.saturating_mul.result c.saturating_add.result c.min.result bytes some fits c.saturating_mul.ensures c.saturating_add.ensures
    (c.min.ensures ∙ ap (λ (k : ℕ). min c.saturating_add.result k) long)
    ∙ ap (λ (l : List (List ℕ)). length (concat (take (c.args.number + 1) l))) (sym (ap (λ (x : Cut). pieces_of x bytes) c.in-Every.is) ∙ c.self.view_is)

pub returns-in-At : goal.returns-in-At
returns-in-At c =
    let bytes = c.self.inside.bytes.items in
    let ends = c.in-At.ends in
    let long : c.len-all.result ≡ length bytes = search rules in
    let are : AreEndsOf (cut_at 0 ends bytes) bytes ends = subst (λ (x : Cut). IsCut x bytes) c.in-At.is c.self.invariant in
    end_kept c.args.number c.end_of.result c.len-all.result bytes ends are long
    (c.end_of.ensures ∙ ap (λ (l : List ℕ). get_or l c.args.number c.len-all.result) c.as_slice.ensures)
    ∙ ap (λ (l : List (List ℕ)). length (concat (take (c.args.number + 1) l))) (sym (ap (λ (x : Cut). pieces_of x bytes) c.in-At.is) ∙ c.self.view_is)
