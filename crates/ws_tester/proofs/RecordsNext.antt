-- It still holds where the next turn begins.
use Rattle.std.proofs.Common.{◌≡◌, ◌∙◌, ℕ, ◌<◌, ◌≤◌, ◌⊎◌, Bool, true, false, List, [], ◌∷◌, ◌++◌, length}
use Rattle.std.proofs.Common.{take, map, refl, sym, ap, subst, arith, inl, inr, append_assoc, append-nil, length-append}
use Rattle.std.proofs.lemmas.Bool.{cases_lt}
use Rattle.std.proofs.lemmas.List.{map-append, take-append-le, take_all}
use Rattle.std.specs.List.{concat}
use Rattle.ws_scripts.specs.declared.transcript.Turn.{Turn}
use Rattle.ws_suite.specs.Evidence.{sent_turns}
use Rattle.ws_suite.specs.Growing.{new_turn}
use Rattle.ws_machines.specs.Told.{Told}
use Rattle.ws_tester.specs.Standings.{HasServerClose}
use Rattle.ws_tester.specs.Outgoings.{Pieces, first_piece}
use Rattle.ws_tester.specs.RunStates.{PlanValue, is_nothing}
use Rattle.ws_tester.specs.Following.{ScriptValue}
use Rattle.ws_tester.specs.Records.{IsWaitedFor}
use Rattle.ws_tester.proofs.RecordsTurns.{sent_begun, got_begun}
use Rattle.ws_tester.proofs.RecordsPieces.{no_piece}
use Rattle.ws_tester.proofs.RecordsHolds.{HoldsOf}

module _ (run : ScriptValue) (told : List Told) (plan : PlanValue) (past : List Turn) (turn : Turn) (rest first : Pieces)
    (others : List Pieces) (allowance : ℕ) (closing failed begun : Bool)
    (h : HoldsOf run told plan past turn
    (record { rest = rest; later = first ∷ others }) allowance closing failed begun)
  where
    pub next_holds : closing ≡ false → failed ≡ false → is_nothing (first_piece rest) ≡ true
        → IsWaitedFor run (past ++ turn ∷ []) told
        → HoldsOf run told plan (past ++ turn ∷ []) new_turn (record { rest = first; later = others }) allowance closing
        failed begun
    next_holds unclosed works sent waits = record {
      plan_is = h.plan_is;
      begun_is = h.begun_is;
      sent = sent_begun (past ++ turn ∷ []) ∙ h.sent;
      got = got_begun (past ++ turn ∷ []) ∙ h.got;
      budget = h.budget;
      pieces = h.pieces.1;
      bytes = record { dropped = []; split = h.bytes.split ∙ parts; whole = λ c f. refl };
      has_failed = h.has_failed;
      closed = λ c. subst (λ (l : List ℕ). HasServerClose run.plan.tested run.plan.expected l) (sym (got_begun (past ++ turn ∷ [])))
          (h.closed c);
      half = h.half;
      waited = λ n some within. pick n some (cases_lt (length past) n);
    }
      where
        bare : turn.sent ++ (concat rest ++ h.bytes.dropped) ≡ turn.sent
        bare = ap (λ (l : List ℕ). turn.sent ++ (l ++ h.bytes.dropped)) (no_piece rest h.pieces.0 sent)
            ∙ (ap (λ (l : List ℕ). turn.sent ++ l) (h.bytes.whole unclosed works) ∙ append-nil turn.sent)

        parts : sent_turns past ++ (turn.sent ++ (concat rest ++ h.bytes.dropped)) ∷ (concat first ∷ map concat others)
            ≡ sent_turns (past ++ turn ∷ []) ++ (new_turn.sent ++ (concat first ++ [])) ∷ map concat others
        parts = ap (λ (l : List ℕ). sent_turns past ++ l ∷ (concat first ∷ map concat others)) bare
            ∙ (sym (append_assoc (sent_turns past) (turn.sent ∷ []) (concat first ∷ map concat others))
            ∙ (ap (λ (l : List (List ℕ)). l ++ concat first ∷ map concat others)
            (sym (map-append (λ (t : Turn). t.sent) past (turn ∷ [])))
            ∙ ap (λ (l : List ℕ). sent_turns (past ++ turn ∷ []) ++ l ∷ map concat others)
            (sym (append-nil (concat first)))))

        pick : (n : ℕ) → 0 < n → (length past < n) ⊎ (n ≤ length past)
            → IsWaitedFor run (take n (past ++ turn ∷ [])) told
        pick n some (inl over) = subst (λ (l : List Turn). IsWaitedFor run l told)
            (sym (take_all n (past ++ turn ∷ []) (omega (arith, over, length-append past (turn ∷ []))))) waits
        pick n some (inr within) = subst (λ (l : List Turn). IsWaitedFor run l told)
            (sym (take-append-le n past (turn ∷ []) within)) (h.waited n some within)
