-- The text tells the name that a client is told, and how many turns there are.
use Rattle.std.proofs.Common.{◌≡◌, ◌∙◌, ℕ, List, ap, length, None}
use Rattle.ws_paths.specs.Texts.{info_text}
use Rattle.ws_scripts.specs.Scripts.{turns_of}
use Rattle.wst_commands.proofs.CaseLemmas.{turns_counted}
use Rattle.wst_clients.specs.ClientLines.{name_told}
use Rattle.wst_clients.proofs.visiting.info_of.Goals as goal

pub returns : goal.returns
returns c =
    let name : c.as_str.result.now ≡ name_told c.args.telling c.args.number c.args.case.now =
    c.as_str.ensures.value ∙ c.in_ok-name.ensures in
    let turns : c.len.result ≡ length (turns_of c.args.case.now.steps) =
    c.len.ensures ∙ turns_counted c.args.case.now None _ c.in_ok-turns.ensures in
    c.in_ok-text.ensures ∙ ap (λ (l : List ℕ). info_text l c.len.result) name
    ∙ ap (λ (n : ℕ). info_text (name_told c.args.telling c.args.number c.args.case.now) n) turns
