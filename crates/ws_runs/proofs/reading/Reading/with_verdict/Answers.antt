-- The peer keeps its place.
use Rattle.std.proofs.Common.{rules, ◌≡◌, ◌∙◌, ℕ, List, Some, ap, refl, sym}
use Rattle.ws_runs.specs.Names.{place_among}
use Rattle.ws_runs.specs.Runs.{RunsValue, peer_names, peer_with_result}
use Rattle.ws_runs.specs.Views.{result_value}
use Rattle.ws_runs.proofs.PutLemmas.{place_within}
use Rattle.ws_runs.proofs.ReadLemmas.{name_of, place_kept}
use Rattle.ws_runs.proofs.reading.Reading.with_verdict.Goals as goal

pub put_result-requires : goal.put_result-requires
put_result-requires c =
    place_within name_of c.args.self.name c.in_ok-runs.runs.peers c.in_ok-runs.place c.in_ok-runs.ensures.0

pub invariant_of-result : goal.invariant_of-result
invariant_of-result c =
    let runs = c.in_ok-runs.runs in
    let name = c.self.inside.name.now in
    let named : c.args.self.name ≡ name = search rules in
    let there = ap (λ (n : List ℕ). place_among n (peer_names runs.peers)) (sym named) ∙ c.in_ok-runs.ensures.0 in
    ap (λ (r : RunsValue). place_among name (peer_names r.peers)) c.in_ok-put_id.ensures
    ∙ place_kept runs c.put_result.new.self name c.in_ok-runs.place (peer_with_result (result_value c.result_of.result))
    (λ peer. refl) (c.in_ok-put_result.ensures name there) there
