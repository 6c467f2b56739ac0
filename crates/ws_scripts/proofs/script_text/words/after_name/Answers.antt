-- What begins with the name has it at its front.
use Rattle.std.proofs.Common.{◌≢◌, ◌∙◌, List, ℕ, rules, arith, ap, length, take}
use Rattle.std.proofs.lemmas.List.{take-append-le, take_all}
use Rattle.ws_scripts.proofs.script_text.words.after_name.Goals as goal

pub returns-else-eq : goal.returns-else-eq
returns-else-eq c = λ more e.
    let name = c.args.name.now in
    let not : c.split_at.result.0.now ≢ name = search rules in
    not
    (c.split_at.ensures.front
    ∙ (ap (λ (l : List ℕ). take (length name) l) e
    ∙ (take-append-le (length name) name more (omega arith) ∙ take_all (length name) name (omega arith))))
