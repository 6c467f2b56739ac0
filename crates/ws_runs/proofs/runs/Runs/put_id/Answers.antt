-- A case that is there stays where it is.
use Rattle.std.proofs.Common.{rules, ◌≡◌, ◌∙◌, ℕ, List, ap, sym}
use Rattle.ws_runs.specs.Runs.{RunsValue, runs_with_id}
use Rattle.ws_runs.specs.Views.{texts_now}
use Rattle.ws_runs.proofs.PlaceLemmas.{name_stays}
use Rattle.ws_runs.proofs.runs.Runs.put_id.Goals as goal

pub returns-in-Some : goal.returns-in-Some
returns-in-Some c =
    let peers = c.self.inside.peers.items in
    let ids = texts_now c.self.inside.ids.items in
    let id = c.args.id.now in
    let seen : c.args.self.now ≡ record { peers = peers; ids = ids } = search rules in
    let there = sym (c.place_of.ensures ids c.self.invariant.1) ∙ c.in-Some.is in
    seen ∙ ap (λ (l : List (List ℕ)). record { peers = peers; ids = l }) (sym (name_stays ids id c.in-Some.field-0 there))
    ∙ ap (runs_with_id id) (sym seen)
