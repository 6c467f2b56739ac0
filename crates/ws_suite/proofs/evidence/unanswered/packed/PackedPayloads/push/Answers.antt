-- One more: its length, and its bytes behind the others.
use Rattle.std.proofs.Common.{◌≡◌, ◌∙◌, ◌++◌, ◌∷◌, [], List, ℕ, ap₂, ap, drop, length, rules}
use Rattle.std.proofs.lemmas.List.{drop-append-le}
use Rattle.ws_suite.specs.InnerUnanswered.{payloads_by}
use Rattle.ws_suite.proofs.PackedLemmas.{cut_more}
use Rattle.ws_suite.proofs.evidence.unanswered.packed.PackedPayloads.push.Goals as goal

pub returns-clause-ok : goal.returns-clause-ok
returns-clause-ok c =
    let old = c.self.inside in
    let payload = c.args.payload.now in
    let lens : c.push_back_reserved.new.self.items ≡ old.lens.items ++ c.in-Ok.len ∷ [] = search rules in
    let bytes : c.extend_from_slice.new.self.items ≡ old.bytes.items ++ payload = search rules in
    let len : c.in-Ok.len ≡ length payload = search rules in
    ap₂ (λ (a b : List ℕ). payloads_by a (drop old.gone b)) lens bytes
    ∙ (ap (λ (l : List ℕ). payloads_by (old.lens.items ++ c.in-Ok.len ∷ []) l)
    (drop-append-le old.gone old.bytes.items payload c.self.invariant.before)
    ∙ (cut_more old.lens.items c.in-Ok.len (drop old.gone old.bytes.items) payload c.self.invariant.count len
    ∙ ap (λ (l : List (List ℕ)). l ++ payload ∷ []) c.self.view_is))
