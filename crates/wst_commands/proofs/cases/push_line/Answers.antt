-- The line of a case that is added has its name, and how many turns its script has.
use Rattle.std.proofs.Common.{rules, ◌≡◌, ◌∙◌, ◌++◌, ap, [], ◌∷◌, length, string_bytes, ℕ, List, Some}
use Rattle.std.specs.Fmt.{decimal}
use Rattle.ws_scripts.specs.Scripts.{turns_of}
use Rattle.wst_commands.proofs.CaseLemmas.{turns_counted}
use Rattle.wst_commands.proofs.cases.push_line.Goals as goal

pub returns : goal.returns
returns c =
    let case = c.args.case.now in
    let count : c.len.result ≡ length (turns_of case.steps) = c.len.ensures ∙ turns_counted case (Some (0 ∷ 0 ∷ 0 ∷ 0 ∷ [])) c.in_ok-turns.turns c.in_ok-turns.ensures in
    let line : c.as_str.result.now ≡ string_bytes case.id ++ 32 ∷ (decimal c.len.result ++ 10 ∷ []) = search rules in
    let grown : string_bytes c.push_str.new.self ≡ string_bytes c.args.lines.now ++ c.as_str.result.now = search rules in
    grown ∙ ap (λ (l : List ℕ). string_bytes c.args.lines.now ++ l)
    (line ∙ ap (λ (n : ℕ). string_bytes case.id ++ 32 ∷ (decimal n ++ 10 ∷ [])) count)
