-- What was sent and got in all turns, when the last one grows, and when the next begins.
use Rattle.std.proofs.Common.{◌≡◌, ◌∙◌, ℕ, List, [], ◌∷◌, ◌++◌, sym, ap, append_assoc, append-nil}
use Rattle.std.proofs.lemmas.List.{map-append}
use Rattle.std.proofs.lemmas.List.Folds.{concat-append}
use Rattle.std.specs.List.{concat}
use Rattle.ws_scripts.specs.declared.transcript.Turn.{Turn}
use Rattle.ws_suite.specs.Evidence.{got_turns, sent_turns}
use Rattle.ws_suite.specs.Growing.{new_turn, turn_with_got, turn_with_sent}
use Rattle.ws_tester.specs.Outcomes.{got_in_all, sent_in_all}

pub sent_last : (past : List Turn) (turn : Turn) → sent_in_all (past ++ turn ∷ []) ≡ sent_in_all past ++ turn.sent
sent_last past turn = ap (λ (l : List (List ℕ)). concat l) (map-append (λ (t : Turn). t.sent) past (turn ∷ []))
    ∙ (concat-append (sent_turns past) (turn.sent ∷ [])
    ∙ ap (λ (l : List ℕ). sent_in_all past ++ l) (append-nil turn.sent))

pub got_last : (past : List Turn) (turn : Turn) → got_in_all (past ++ turn ∷ []) ≡ got_in_all past ++ turn.got
got_last past turn = ap (λ (l : List (List ℕ)). concat l) (map-append (λ (t : Turn). t.got) past (turn ∷ []))
    ∙ (concat-append (got_turns past) (turn.got ∷ []) ∙ ap (λ (l : List ℕ). got_in_all past ++ l) (append-nil turn.got))

pub sent_grows : (past : List Turn) (turn : Turn) (bytes : List ℕ)
    → sent_in_all (past ++ turn_with_sent turn bytes ∷ []) ≡ sent_in_all (past ++ turn ∷ []) ++ bytes
sent_grows past turn bytes = sent_last past (turn_with_sent turn bytes)
    ∙ (sym (append_assoc (sent_in_all past) turn.sent bytes)
    ∙ ap (λ (l : List ℕ). l ++ bytes) (sym (sent_last past turn)))

pub got_grows : (past : List Turn) (turn : Turn) (bytes : List ℕ)
    → got_in_all (past ++ turn_with_got turn bytes ∷ []) ≡ got_in_all (past ++ turn ∷ []) ++ bytes
got_grows past turn bytes = got_last past (turn_with_got turn bytes)
    ∙ (sym (append_assoc (got_in_all past) turn.got bytes)
    ∙ ap (λ (l : List ℕ). l ++ bytes) (sym (got_last past turn)))

pub sent_stays : (past : List Turn) (turn : Turn) (bytes : List ℕ)
    → sent_in_all (past ++ turn_with_got turn bytes ∷ []) ≡ sent_in_all (past ++ turn ∷ [])
sent_stays past turn bytes = sent_last past (turn_with_got turn bytes) ∙ sym (sent_last past turn)

pub got_stays : (past : List Turn) (turn : Turn) (bytes : List ℕ)
    → got_in_all (past ++ turn_with_sent turn bytes ∷ []) ≡ got_in_all (past ++ turn ∷ [])
got_stays past turn bytes = got_last past (turn_with_sent turn bytes) ∙ sym (got_last past turn)

pub sent_begun : (turns : List Turn) → sent_in_all (turns ++ new_turn ∷ []) ≡ sent_in_all turns
sent_begun turns = sent_last turns new_turn ∙ append-nil (sent_in_all turns)

pub got_begun : (turns : List Turn) → got_in_all (turns ++ new_turn ∷ []) ≡ got_in_all turns
got_begun turns = got_last turns new_turn ∙ append-nil (got_in_all turns)
