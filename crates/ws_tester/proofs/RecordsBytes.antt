-- It still holds where bytes come, and where bytes are taken.
use Rattle.std.proofs.Common.{◌≡◌, ◌∙◌, ℕ, ◌+◌, ◌≤◌, ◌⊎◌, true, List, [], ◌∷◌, ◌++◌, length, take, map, sym, ap}
use Rattle.std.proofs.Common.{subst, arith, inl, inr, append_assoc, append-nil, length-append}
use Rattle.std.specs.List.{concat}
use Rattle.ws_suite.specs.Evidence.{sent_turns}
use Rattle.ws_machines.specs.Told.{Told, all_came, all_taken}
use Rattle.ws_machines.specs.Told.Told.{Came, DirectionEnded, Taken, WriteFailed}
use Rattle.ws_tester.specs.Standings.{HasServerClose}
use Rattle.ws_tester.specs.Outcomes.{got_in_all}
use Rattle.ws_tester.specs.Outgoings.{first_piece, without_front}
use Rattle.ws_tester.specs.RunStates.{RunState, turns_of_run, with_came, with_taken}
use Rattle.ws_tester.specs.Following.{ScriptValue}
use Rattle.ws_tester.specs.Records.{Was}
use Rattle.ws_machines.proofs.ExchangeLemmas.{came_more, taken_more}
use Rattle.ws_tester.proofs.RecordsTold.{was_more, was_before, waited_more}
use Rattle.ws_tester.proofs.RecordsTurns.{sent_grows, got_grows, sent_stays, got_stays}
use Rattle.ws_tester.proofs.RecordsPieces.{front_is, still_pieces}
use Rattle.ws_tester.proofs.RecordsHolds.{Holds}

module _ (run : ScriptValue) (told : List Told) (s : RunState) (h : Holds run told s) (bytes : List ℕ) where
  pub came_holds : length bytes ≤ s.allowance
      → (s.closing ≡ true → HasServerClose run.plan.tested run.plan.expected (got_in_all (turns_of_run (with_came bytes s))))
      → Holds run (told ++ Came bytes ∷ []) (with_came bytes s)
  came_holds fits closed = record {
    plan_is = h.plan_is;
    begun_is = h.begun_is;
    sent = sent_stays s.past s.turn bytes ∙ (h.sent
        ∙ sym (taken_more told (Came bytes) ∙ append-nil (all_taken told)));
    got = got_grows s.past s.turn bytes ∙ (ap (λ (l : List ℕ). l ++ bytes) h.got
        ∙ (append_assoc run.first (all_came told) bytes
        ∙ ap (λ (l : List ℕ). run.first ++ l) (sym (came_more told (Came bytes)))));
    budget =
        let len : length (all_came (told ++ Came bytes ∷ [])) ≡ length (all_came told) + length bytes =
        ap (λ (l : List ℕ). length l) (came_more told (Came bytes)) ∙ length-append (all_came told) bytes in
        omega (arith, len, h.budget, fits);
    pieces = h.pieces;
    bytes = record { dropped = h.bytes.dropped; split = h.bytes.split; whole = h.bytes.whole };
    has_failed = λ e. was_more WriteFailed told (Came bytes) (h.has_failed e);
    closed = closed;
    half = λ w. pick (was_before DirectionEnded told (Came bytes) w);
    waited = λ n some within. waited_more run (take n s.past) told (Came bytes) (h.waited n some within);
  }
    where
      pick : Was DirectionEnded told ⊎ (Came bytes ≡ DirectionEnded) → s.closing ≡ true
      pick (inl w) = h.half w
      pick (inr e) = absurd cc

  pub taken_holds : (unsent : List ℕ) → first_piece s.outgoing.rest ≡ bytes ++ unsent
      → Holds run (told ++ Taken bytes ∷ []) (with_taken bytes s)
  taken_holds unsent e = record {
    plan_is = h.plan_is;
    begun_is = h.begun_is;
    sent = sent_grows s.past s.turn bytes ∙ (ap (λ (l : List ℕ). l ++ bytes) h.sent
        ∙ sym (taken_more told (Taken bytes)));
    got = got_stays s.past s.turn bytes ∙ (h.got ∙ ap (λ (l : List ℕ). run.first ++ l)
        (sym (came_more told (Taken bytes) ∙ append-nil (all_came told))));
    budget = h.budget ∙ ap (λ (l : List ℕ). length l + s.allowance)
        (sym (came_more told (Taken bytes) ∙ append-nil (all_came told)));
    pieces = (still_pieces s.outgoing.rest (length bytes) h.pieces.0, h.pieces.1);
    bytes = record {
      dropped = h.bytes.dropped;
      split = h.bytes.split ∙ ap (λ (l : List ℕ). sent_turns s.past ++ l ∷ map concat s.outgoing.later) parts;
      whole = h.bytes.whole;
    };
    has_failed = λ f. was_more WriteFailed told (Taken bytes) (h.has_failed f);
    closed = λ c. subst (λ (l : List ℕ). HasServerClose run.plan.tested run.plan.expected l) (sym (got_stays s.past s.turn bytes))
        (h.closed c);
    half = λ w. pick (was_before DirectionEnded told (Taken bytes) w);
    waited = λ n some within. waited_more run (take n s.past) told (Taken bytes) (h.waited n some within);
  }
    where
      parts : s.turn.sent ++ (concat s.outgoing.rest ++ h.bytes.dropped)
          ≡ (s.turn.sent ++ bytes) ++ (concat (without_front (length bytes) s.outgoing.rest) ++ h.bytes.dropped)
      parts = ap (λ (l : List ℕ). s.turn.sent ++ (l ++ h.bytes.dropped)) (front_is s.outgoing.rest bytes unsent e)
          ∙ (ap (λ (l : List ℕ). s.turn.sent ++ l)
          (append_assoc bytes (concat (without_front (length bytes) s.outgoing.rest)) h.bytes.dropped)
          ∙ sym (append_assoc s.turn.sent bytes
          (concat (without_front (length bytes) s.outgoing.rest) ++ h.bytes.dropped)))

      pick : Was DirectionEnded told ⊎ (Taken bytes ≡ DirectionEnded) → s.closing ≡ true
      pick (inl w) = h.half w
      pick (inr f) = absurd cc
