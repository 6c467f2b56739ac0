-- Worked examples of transcripts and of runs, each a theorem.
use Rattle.std.specs.Prelude.{◌≡◌, [], ◌∷◌, None, refl}
use Rattle.std.proofs.Common.{arith}
use Rattle.ws_session.specs.declared.status.Status.TheVariants.{Clean, Closing}
use Rattle.ws_scripts.specs.declared.transcript.Ended.TheVariants.{Tester, Peer}
use Rattle.ws_peer.specs.declared.peer.Going.TheVariants.{More, Ended}
use Rattle.ws_peer.specs.Talks.{Fed, Finished, appended_in, fed_in}
use Rattle.ws_peer.specs.EchoTalks.{IsAnsweredBy}
use Rattle.ws_peer.specs.Runs.{EndsByPeer, EndsByTester, with_finish}

-- ---- what is recorded of the finish

pub nothing_to_record : with_finish [] [] ≡ []
nothing_to_record = refl

pub a_turn_of_its_own : with_finish [] (1 ∷ 2 ∷ []) ≡ record { sent = []; got = 1 ∷ 2 ∷ [] } ∷ []
a_turn_of_its_own = refl

pub added_to_the_last_turn :
    with_finish (record { sent = 7 ∷ []; got = 8 ∷ [] } ∷ record { sent = []; got = [] } ∷ []) (9 ∷ [])
    ≡ record { sent = 7 ∷ []; got = 8 ∷ [] } ∷ record { sent = []; got = 9 ∷ [] } ∷ []
added_to_the_last_turn = refl

pub a_turn_without_bytes : with_finish (record { sent = []; got = [] } ∷ []) [] ≡ record { sent = []; got = [] } ∷ []
a_turn_without_bytes = refl

-- ---- what was said

pub joined_bytes : fed_in (Fed (1 ∷ []) (5 ∷ []) More ∷ Fed (2 ∷ 3 ∷ []) [] More ∷ Finished (6 ∷ []) ∷ [])
    ≡ 1 ∷ 2 ∷ 3 ∷ []
joined_bytes = refl

pub joined_answers : appended_in (Fed (1 ∷ []) (5 ∷ []) More ∷ Fed (2 ∷ 3 ∷ []) [] More ∷ Finished (6 ∷ []) ∷ [])
    ≡ 5 ∷ 6 ∷ []
joined_answers = refl

-- ---- runs

-- two pieces in the first turn and none in the second, and the peer goes on
pub the_tester_ends : EndsByTester (((1 ∷ []) ∷ (2 ∷ []) ∷ []) ∷ [] ∷ [])
    (Fed (1 ∷ []) (5 ∷ []) More ∷ Fed (2 ∷ []) [] More ∷ Finished (6 ∷ []) ∷ [])
    (record {
      turns = record { sent = 1 ∷ 2 ∷ []; got = 5 ∷ [] } ∷ record { sent = []; got = 6 ∷ [] } ∷ [];
      ended = Tester;
    })
the_tester_ends = record {
  ended = refl;
  parts = (Fed (1 ∷ []) (5 ∷ []) More ∷ Fed (2 ∷ []) [] More ∷ []) ∷ [] ∷ [];
  left = 6 ∷ [];
  talk_is = refl;
  goes_on = (refl, (refl, tt));
  pieces = refl;
  recorded = refl;
}

-- it ends at the first of two pieces: neither the second nor the next turn is sent
pub the_peer_ends : EndsByPeer (((1 ∷ []) ∷ (2 ∷ []) ∷ []) ∷ ((3 ∷ []) ∷ []) ∷ []) (Fed (1 ∷ []) (5 ∷ []) Ended ∷ [])
    (record { turns = record { sent = 1 ∷ []; got = 5 ∷ [] } ∷ []; ended = Peer })
the_peer_ends = record {
  ended = refl;
  parts = (Fed (1 ∷ []) (5 ∷ []) Ended ∷ []) ∷ [];
  talk_is = refl;
  before = [];
  piece = 1 ∷ [];
  appended = 5 ∷ [];
  last = refl;
  goes_on = tt;
  pieces = record {
    before = [];
    first = (1 ∷ []) ∷ [];
    others = (2 ∷ []) ∷ [];
    after = ((3 ∷ []) ∷ []) ∷ [];
    are_fed = refl;
    are_turns = refl;
    some = omega arith;
  };
  recorded = refl;
}

-- ---- answers

-- an echo that is told that no more comes appends nothing, and one that is clean has ended
pub finished_by_nothing : IsAnsweredBy Closing (Finished [])
finished_by_nothing = refl

pub ended_where_clean : IsAnsweredBy (Clean None) (Fed (1 ∷ []) [] Ended)
ended_where_clean = (λ e. refl, λ e. refl)
