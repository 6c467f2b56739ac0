-- A word with `://` is read as a URL, another one as a host and a port, and one that is neither names no target.
use Rattle.std.proofs.Common.{rules, MatchResult, codes, subst, List, ℕ}
use Rattle.std.specs.Str.Iter.{HasSubslice}
use Rattle.std.proofs.lemmas.Str.Pattern.{contains_text}
use Rattle.ws_upgrade.specs.Texts.{IsHost}
use Rattle.ws_targets.specs.Reading.{IsUrlRead, RefusesUrl}
use Rattle.ws_targets.proofs.Reading.{plain_lacks, plain_read, url_is_target}
use Rattle.ws_targets.proofs.target.read_target.Goals as goal

pub returns-then-contains : goal.returns-then-contains
returns-then-contains c =
    let holds : HasSubslice c.args.text.now (codes "://") = (contains_text c.contains.result (codes "://") c.args.text.now c.contains.ensures.cases).0 c.if-contains.true in
    url_is_target c.args.text.now c.url_target.result holds
    (subst (λ (l : List ℕ). MatchResult c.url_target.result (IsUrlRead l) (RefusesUrl l)) c.as_bytes.ensures.value c.url_target.ensures)

pub returns-then-is_host : goal.returns-then-is_host
returns-then-is_host c =
    let plain : ¬ (HasSubslice c.args.text.now (codes "://")) = λ holds.
    let wrong = (contains_text c.contains.result (codes "://") c.args.text.now c.contains.ensures.cases).1 holds in absurd cc in
    plain_read c.args.text.now c.target_of.result plain (search rules) (search rules) c.target_of.ensures

pub returns-else-is_host : goal.returns-else-is_host
returns-else-is_host c =
    let plain : ¬ (HasSubslice c.args.text.now (codes "://")) = λ holds.
    let wrong = (contains_text c.contains.result (codes "://") c.args.text.now c.contains.ensures.cases).1 holds in absurd cc in
    let bad : ¬ (IsHost c.args.text.now) = search rules in
    plain_lacks c.args.text.now plain bad
