-- What is none of the three chops' lines tells no chop.
use Rattle.std.proofs.Common.{◌≡◌, ◌≢◌, ◌++◌, List, ℕ, arith, codes, rules}
use Rattle.ws_formats.proofs.PassedUp.{none_found}
use Rattle.ws_scripts.proofs.ScriptSteps.{octets_number, octets_word}
use Rattle.ws_scripts.proofs.script_text.line.read_chop.Goals as goal

pub returns-in_err-word : goal.returns-in_err-word
returns-in_err-word c =
    let words = c.args.words.now in
    let not_whole : words ≢ codes "chop whole" = search rules in
    let not_frames : words ≢ codes "chop frames" = search rules in
    none_found (λ (word : List ℕ). words ≡ codes "chop octets " ++ word) _ c.from_residual.result
    c.from_residual.ensures c.in_err-word.ensures (λ chop h. octets_word chop words not_whole not_frames h)

pub returns-then-n-eq0 : goal.returns-then-n-eq0
returns-then-n-eq0 c = λ chop h.
    let words = c.args.words.now in
    let not_whole : words ≢ codes "chop whole" = search rules in
    let not_frames : words ≢ codes "chop frames" = search rules in
    let some = octets_number chop words c.in_ok-word.word.now c.in_ok-n.n not_whole not_frames c.in_ok-word.ensures
    c.in_ok-n.ensures h in
    omega (arith, some, c.if-n-eq0.true)
