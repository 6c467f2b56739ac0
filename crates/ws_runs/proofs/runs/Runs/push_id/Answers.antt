-- The case comes last.
use Rattle.std.proofs.Common.{rules, ◌≡◌, ◌∙◌, ◌++◌, ◌∷◌, [], ℕ, List, None, ap, sym}
use Rattle.std.proofs.lemmas.List.{map-append}
use Rattle.std.specs.Borrow.{Bor}
use Rattle.ws_runs.specs.Names.{place_among}
use Rattle.ws_runs.specs.Runs.{RunsValue, runs_with_id}
use Rattle.ws_runs.specs.Views.{texts_now}
use Rattle.ws_runs.proofs.PlaceLemmas.{name_comes}
use Rattle.ws_runs.proofs.runs.Runs.push_id.Goals as goal

pub returns : goal.returns
returns c =
    let peers = c.self.inside.peers.items in
    let old = c.self.inside.ids.items in
    let id = c.args.id.now in
    let seen : c.args.self.now ≡ record { peers = peers; ids = texts_now old } = search rules in
    let none = ap (λ (r : RunsValue). place_among id r.ids) (sym seen) ∙ c.requires in
    ap (λ (l : List (List ℕ)). record { peers = peers; ids = l })
    (ap texts_now c.in_ok-push.ensures.items ∙ map-append (λ (text : Bor (List ℕ)). text.now) old (c.args.id ∷ [])
    ∙ sym (name_comes (texts_now old) id none))
    ∙ ap (runs_with_id id) (sym seen)
