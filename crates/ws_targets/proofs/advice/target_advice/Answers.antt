-- A word that begins neither with wss: nor as the URL of a page is judged by its authority, where it has the scheme.
use Rattle.std.proofs.Common.{rules, ◌≡◌, ◌∙◌, ap, ℕ, List, IsTrue, drop, subst}
use Rattle.ws_targets.specs.Advice.{begins_as_web}
use Rattle.ws_targets.specs.Targets.{HasScheme, authority_of, begins_with_wss}
use Rattle.ws_targets.proofs.Advising.{advised_url, advised_word}
use Rattle.ws_targets.proofs.advice.target_advice.Goals as goal

pub returns-in-Some : goal.returns-in-Some
returns-in-Some c =
    let no_tls : ¬ (IsTrue (begins_with_wss c.args.word.now)) = search rules in
    let no_page : ¬ (IsTrue (begins_as_web c.args.word.now)) = search rules in
    let same : c.as_bytes.result.now ≡ c.args.word.now = c.as_bytes.ensures.value in
    advised_url c.args.word.now c.as_bytes-in-Some.result.now c.in-Some.authority.now c.url_advice.result no_tls no_page
    (subst (λ (l : List ℕ). HasScheme l) same c.in-Some.ensures.1) c.as_bytes-in-Some.ensures.value
    (c.in-Some.ensures.0 ∙ ap (λ (l : List ℕ). authority_of (drop 5 l)) same) c.url_advice.ensures

pub returns-in-None : goal.returns-in-None
returns-in-None c =
    let no_tls : ¬ (IsTrue (begins_with_wss c.args.word.now)) = search rules in
    let no_page : ¬ (IsTrue (begins_as_web c.args.word.now)) = search rules in
    let none : ¬ (HasScheme c.args.word.now) =
    subst (λ (l : List ℕ). ¬ (HasScheme l)) c.as_bytes.ensures.value c.in-None.ensures in
    advised_word c.args.word.now no_tls no_page none
