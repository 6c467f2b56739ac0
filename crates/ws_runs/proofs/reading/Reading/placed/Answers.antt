-- The place is known, or the peer comes.
use Rattle.std.proofs.Common.{rules, ◌≡◌, ◌∙◌, ℕ, List, Some, ap, sym}
use Rattle.ws_runs.specs.Names.{place_among}
use Rattle.ws_runs.specs.Runs.{RunsValue, peer_names, runs_with_peer}
use Rattle.ws_runs.proofs.ReadLemmas.{known_place, place_comes, place_stays}
use Rattle.ws_runs.proofs.reading.Reading.placed.Goals as goal
use Rattle.ws_runs.proofs.reading.Reading.placed.Goals.{in-Some, in-None+in_ok-place-in-None}

pub returns : goal.returns
returns c =
    let runs = c.self.inside.runs in
    let name = c.self.inside.name.now in
    let seen : c.args.self ≡ record { runs = runs; name = name } = search rules in
    elim c.match-self.branch [
      | in-Some w ↦
          let known : c.self.inside.place ≡ Some c.match-self.place = search rules in
          let same : c.match-self.runs ≡ runs = search rules in
          place_stays c.args.self runs c.match-self.runs name c.match-self.place seen same
          (known_place c.self.inside.place c.match-self.place name runs.peers c.self.invariant known)
      | in-None+in_ok-place-in-None w ↦
          let same : c.match-self.runs ≡ w.place_for.new.self = search rules in
          let place : c.match-self.place ≡ w.in_ok-place-in-None.place = search rules in
          place_comes c.args.self runs c.match-self.runs name c.match-self.place seen
          (same ∙ w.in_ok-place-in-None.ensures.put)
          (ap (λ (r : RunsValue). place_among name (peer_names r.peers)) same ∙ w.in_ok-place-in-None.ensures.there
          ∙ ap (λ (n : ℕ). Some n) (sym place))
    ]
