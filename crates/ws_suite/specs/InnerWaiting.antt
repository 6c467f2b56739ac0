-- Inside the crate: replies that wait for others. A reader may skip this file.
use Rattle.std.specs.Prelude.{◌≡◌, ℕ, ◌≤◌, List, drop, find, length, Option, Some, None}
use Rattle.ws_suite.specs.declared.evidence.InTurn.{InTurn}
use Rattle.ws_suite.specs.declared.evidence.Reply.{Reply}
use Rattle.ws_suite.specs.declared.evidence.kept.Head.{Head}
use Rattle.ws_suite.specs.Kept.{payloads_len}
use Rattle.ws_suite.specs.Matching.{after_match, has_payload_of}

-- so many heads, and so many bytes, stand before those that are there
pub record HasPlaces (heads : List Head) (payloads : List ℕ) (heads_gone bytes_gone : ℕ) : Type 0 where
  pub before : heads_gone ≤ length heads
  pub bytes_before : bytes_gone ≤ length payloads
  pub count : payloads_len (drop heads_gone heads) ≡ length (drop bytes_gone payloads)

-- so many stand up to the first that has the payload of this pong, and with it; or none has it
abbrev pub IsPlaceOfMatch : InTurn Reply → List (InTurn Reply) → Option ℕ → Type 0
IsPlaceOfMatch pong due None = find (has_payload_of pong) due ≡ None
IsPlaceOfMatch pong due (Some passed) =
    (first : InTurn Reply) × (find (has_payload_of pong) due ≡ Some first)
    × (drop passed due ≡ after_match pong due) × (passed ≤ length due)
