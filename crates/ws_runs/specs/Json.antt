-- An index of runs in JSON, as Autobahn's test suite writes one.
use Rattle.std.specs.Prelude.{ℕ, List, [], ◌∷◌, ◌++◌, codes, if◌then◌else◌}
use Rattle.std.specs.List.{concat}
use Rattle.std.specs.Str.{bytes_eq}
use Rattle.ws_runs.specs.Marks.{mark_of_words, why_of}
use Rattle.ws_runs.specs.Runs.{PeerValue, ResultValue, RunsValue}
use Rattle.ws_runs.specs.Shown.{in_string, text_in_string}
use Rattle.ws_runs.specs.declared.mark.Mark.{Mark}
use Rattle.ws_runs.specs.declared.mark.Mark.TheVariants.{Fail, Loose, Missing, NoConnection, Pass}

-- how a peer behaved in a case
abbrev pub behavior : Mark → List ℕ
behavior Pass = codes "OK"
behavior Loose = codes "NON-STRICT"
behavior Fail = codes "FAILED"
behavior NoConnection = codes "UNIMPLEMENTED"
behavior Missing = codes "UNIMPLEMENTED"

-- how it closed the connection, by the name of the rule
abbrev pub close_behavior : List ℕ → List ℕ
close_behavior why =
    if bytes_eq why (codes "OtherCode") then codes "WRONG CODE"
    else (if bytes_eq why (codes "LateEnd") then codes "UNCLEAN"
    else (if bytes_eq why (codes "BrokenEnd") then codes "UNCLEAN"
    else (if bytes_eq why (codes "OwnEnd") then codes "UNCLEAN"
    else (if bytes_eq why (codes "Close") then codes "FAILED"
    else (if bytes_eq why (codes "NoClose") then codes "FAILED"
    else (if bytes_eq why (codes "End") then codes "FAILED"
    else codes "OK"))))))

-- the member of a result
abbrev pub case_json : ResultValue → List ℕ
case_json result = concat (codes "\"" ∷ in_string result.id ∷ codes "\":{\"behavior\":\""
    ∷ behavior (mark_of_words result.words) ∷ codes "\",\"behaviorClose\":\"" ∷ close_behavior (why_of result.words)
    ∷ codes "\"}" ∷ [])

-- the members of these cases, with this mark in front of the first, and a comma in front of each other
abbrev pub members_from : List ResultValue → List ℕ → List ℕ
members_from [] mark = []
members_from (result ∷ results) mark = mark ++ (case_json result ++ members_from results (codes ","))

abbrev pub members_json : List ResultValue → List ℕ
members_json results = members_from results []

-- the member of a peer: an object with a member for each case that it ran
abbrev pub peer_json : PeerValue → List ℕ
peer_json peer =
    concat (codes "\"" ∷ text_in_string peer.name ∷ codes "\":{" ∷ members_json peer.cells ∷ codes "}" ∷ [])

-- the members of these peers, with this mark in front of the first, and a comma in front of each other
abbrev pub peers_from : List PeerValue → List ℕ → List ℕ
peers_from [] mark = []
peers_from (peer ∷ peers) mark = mark ++ (peer_json peer ++ peers_from peers (codes ","))

abbrev pub peers_json : List PeerValue → List ℕ
peers_json peers = peers_from peers []

-- the index of runs: an object with a member for each peer
abbrev pub index_json : RunsValue → List ℕ
index_json runs = concat (codes "{" ∷ peers_json runs.peers ∷ codes "}\n" ∷ [])
