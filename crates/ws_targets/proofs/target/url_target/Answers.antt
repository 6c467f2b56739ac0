-- A URL is read part by part: its scheme, place, host and what is asked for; the first wrong part refuses it.
use Rattle.std.proofs.Common.{rules, ◌≡◌, ◌∙◌, ap, List, ℕ, drop}
use Rattle.ws_targets.specs.Targets.{authority_of, resource_of}
use Rattle.ws_targets.proofs.Reading.{url_lacks_host, url_lacks_place, url_lacks_scheme, url_read}
use Rattle.ws_targets.proofs.target.url_target.Goals as goal

pub returns-in_default : goal.returns-in_default
returns-in_default c = url_lacks_scheme c.args.url.now (search rules)

pub returns-in_default-place_asked : goal.returns-in_default-place_asked
returns-in_default-place_asked c =
    let rest : c.in-Some.rest.now ≡ drop 5 c.args.url.now = search rules in
    url_lacks_place c.args.url.now c.cut_authority.result.0.now
    (c.cut_authority.ensures.authority ∙ ap (λ (l : List ℕ). authority_of l) rest) c.in_default-place_asked.ensures

pub returns-in_default-host_text : goal.returns-in_default-host_text
returns-in_default-host_text c =
    let rest : c.in-Some.rest.now ≡ drop 5 c.args.url.now = search rules in
    url_lacks_host c.args.url.now c.cut_authority.result.0.now c.in-Some-place_asked.place
    (c.cut_authority.ensures.authority ∙ ap (λ (l : List ℕ). authority_of l) rest) c.in-Some-place_asked.ensures
    c.in_default-host_text.ensures

pub returns : goal.returns
returns c =
    let rest : c.in-Some.rest.now ≡ drop 5 c.args.url.now = search rules in
    url_read c.args.url.now c.cut_authority.result.0.now c.cut_authority.result.1.now c.in-Some-host_text.host.now
    c.in-Some-place_asked.place c.target_of.result (search rules)
    (c.cut_authority.ensures.authority ∙ ap (λ (l : List ℕ). authority_of l) rest)
    (c.cut_authority.ensures.resource ∙ ap (λ (l : List ℕ). resource_of l) rest)
    c.in-Some-place_asked.ensures c.in-Some-host_text.ensures.0 (search rules) (search rules) c.target_of.ensures
