-- A connection that is under way for a place: what is waited for, and what the rounds of a loop make of it.
use Rattle.std.specs.Prelude.{◌≡◌, ℕ, ◌≤◌, ◌||◌, ◌&&◌, not, Bool, List, [], ◌∷◌}
use Rattle.ws_loops.specs.Paces.{has_ended_by}
use Rattle.ws_loops.specs.declared.poller.Readiness.{Readiness}
use Rattle.ws_loops.specs.declared.watch.Watch.{Watch}

-- its time has come, and it was not stirred before
abbrev pub is_watch_due : Watch → ℕ → Bool
is_watch_due watch now = not watch.stirred && has_ended_by watch.until now

-- in a round it is stirred where its stream was found ready, or its time has come
abbrev pub watched_by : Readiness → ℕ → Watch → Watch
watched_by ready now watch = record {
  until = watch.until;
  stirred = watch.stirred || (ready.read || (ready.write || has_ended_by watch.until now));
}

-- one round: by which time it was, and how its stream was found
pub record WatchRound : Type 0 where
  pub at : ℕ
  pub ready : Readiness

-- it was watched in these rounds, one after the other, at times that don't go back
abbrev pub AreWatched : ℕ → Watch → List WatchRound → ℕ → Watch → Type 0
AreWatched from old [] to new = (from ≤ to) × (new ≡ old)
AreWatched from old (x ∷ rounds) to new = (from ≤ x.at)
    × AreWatched x.at (watched_by x.ready x.at old) rounds to new

-- in some rounds
abbrev pub HasBeenWatched : ℕ → ℕ → Watch → Watch → Type 0
HasBeenWatched from to old new = (rounds : List WatchRound) × AreWatched from old rounds to new
