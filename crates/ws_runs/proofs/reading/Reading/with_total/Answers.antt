-- The peer keeps its place.
use Rattle.std.proofs.Common.{rules, ◌≡◌, ◌∙◌, ℕ, List, Some, ap, refl, sym}
use Rattle.ws_runs.specs.Names.{place_among}
use Rattle.ws_runs.specs.Runs.{RunsValue, peer_names, peer_with_total}
use Rattle.ws_runs.specs.Views.{result_value}
use Rattle.ws_runs.proofs.PutLemmas.{place_within}
use Rattle.ws_runs.proofs.ReadLemmas.{name_of, place_kept}
use Rattle.ws_runs.proofs.reading.Reading.with_total.Goals as goal

pub end_run-requires : goal.end_run-requires
end_run-requires c =
    place_within name_of c.args.self.name c.in_ok-runs.runs.peers c.in_ok-runs.place c.in_ok-runs.ensures.0

pub invariant_of-result : goal.invariant_of-result
invariant_of-result c =
    let runs = c.in_ok-runs.runs in
    let name = c.self.inside.name.now in
    let named : c.args.self.name ≡ name = search rules in
    let there = ap (λ (n : List ℕ). place_among n (peer_names runs.peers)) (sym named) ∙ c.in_ok-runs.ensures.0 in
    place_kept runs c.end_run.new.self name c.in_ok-runs.place peer_with_total (λ peer. refl)
    (c.end_run.ensures name there) there
