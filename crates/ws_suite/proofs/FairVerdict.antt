-- Where what was got is what was due, turn by turn, no Fail and no Loose applies.
use Rattle.std.proofs.Common.{◌≡◌, ◌≢◌, ◌∙◌, ℕ, ◌+◌, ◌<◌, ◌≤◌, nat_lt, Bool, true, false, cond, List, [], ◌∷◌, length, map, find, Option, Some, None, MatchBool, ap, sym, refl, inl, inr, arith, append-nil}
use Rattle.std.specs.Prelude.{◌||◌, is_some}
use Rattle.std.proofs.lemmas.Bool.Decides.{nat_tests}
use Rattle.std.proofs.lemmas.Slice.Eq.{bytes_eq-Decides}
use Rattle.std.specs.List.{last_or, list_any, zip}
use Rattle.ws_wire.specs.declared.role.Role.{Role}
use Rattle.ws_scripts.specs.declared.transcript.Ended.{Ended}
use Rattle.ws_scripts.specs.declared.transcript.Ended.TheVariants.{Tester, Peer}
use Rattle.ws_suite.specs.declared.verdict.Verdict.TheVariants.{Pass}
use Rattle.ws_suite.specs.declared.verdict.FailWhy.{FailWhy}
use Rattle.ws_suite.specs.declared.verdict.FailWhy.TheVariants as fail
use Rattle.ws_suite.specs.declared.verdict.LooseWhy.{LooseWhy}
use Rattle.ws_suite.specs.declared.verdict.LooseWhy.TheVariants as loose
use Rattle.ws_suite.specs.declared.evidence.InTurn.{InTurn}
use Rattle.ws_suite.specs.declared.evidence.Reply.{Reply}
use Rattle.ws_suite.specs.declared.evidence.Ending.{Ending}
use Rattle.ws_suite.specs.declared.evidence.Ending.TheVariants.{Closed, Failed, Doomed}
use Rattle.ws_suite.specs.declared.evidence.Evidence.{Evidence}
use Rattle.ws_suite.specs.Matching.{IsBeginningOf, IsLastPong, IsCodeFor, IsWithSomeLeftOut, after_match, bare, has_payload_of, matches_of, message_replies, payload_of, pong_replies}
use Rattle.ws_suite.specs.Verdicts.{Fails, IsLoose, IsVerdictOn, is_before, is_before_match, is_unmatched}
use Rattle.ws_suite.proofs.AnsweredTurns.{answer_in_turn, code_due_for}

-- ---- lists against themselves

no_earlier : (n : ℕ) → nat_lt n n ≡ false
no_earlier n = grind (arith, nat_tests)

-- no reply stands in an earlier turn than itself
none_before : (xs : List (InTurn Reply)) → list_any is_before (zip xs xs) ≡ false
none_before [] = refl
none_before (x ∷ xs) = ap (λ b. b || list_any is_before (zip xs xs)) (no_earlier x.turn) ∙ none_before xs

same_payload : (x : InTurn Reply) → has_payload_of x x ≡ true
same_payload x = (bytes_eq-Decides (payload_of x.what) (payload_of x.what)).1 refl

-- matching a list with itself, from the front, pairs each with itself
matched_with_itself : (xs : List (InTurn Reply)) → matches_of xs xs ≡ map (λ x. (x, Some x)) xs
matched_with_itself [] = refl
matched_with_itself (x ∷ xs) =
    let later = find (has_payload_of x) xs in
    let left = after_match x xs in
    ap (λ b. (x, cond b (Some x) later) ∷ matches_of (cond (is_some (cond b (Some x) later)) (cond b xs left) (x ∷ xs)) xs) (same_payload x)
    ∙ ap (λ (l : List (InTurn Reply × Option (InTurn Reply))). (x, Some x) ∷ l) (matched_with_itself xs)

no_early_match : (xs : List (InTurn Reply)) → list_any is_before_match (map (λ x. (x, Some x)) xs) ≡ false
no_early_match [] = refl
no_early_match (x ∷ xs) = ap (λ b. b || list_any is_before_match (map (λ y. (y, Some y)) xs)) (no_earlier x.turn) ∙ no_early_match xs

all_matched : (xs : List (InTurn Reply)) → list_any is_unmatched (map (λ x. (x, Some x)) xs) ≡ false
all_matched [] = refl
all_matched (x ∷ xs) = all_matched xs

none_left_out : (xs : List Reply) → IsWithSomeLeftOut xs xs
none_left_out [] = refl
none_left_out (x ∷ xs) = inr (xs, refl, none_left_out xs)

last_after : (x : InTurn Reply) (xs : List (InTurn Reply)) → (y : InTurn Reply) × (last_or (Some x) xs ≡ Some y)
last_after x [] = (x, refl)
last_after x (y ∷ xs) = last_after y xs

last_is_there : (xs : List (InTurn Reply)) → 0 < length xs → IsLastPong xs xs
last_is_there [] some = absurd (omega arith)
last_is_there (x ∷ xs) some =
    let last = last_after x xs in
    record { due = last.0; is_due = last.1; got = last.0; is_got = last.1; same = refl; turn = omega arith }

not_true : (b : Bool) → b ≡ false → b ≡ true → ⊥
not_true b e f = let both : false ≡ true = sym e ∙ f in absurd cc

-- the code that an echo sends is right
right_code : (due : Ending) (code : Option ℕ) → code ≡ code_due_for due → IsCodeFor due code
right_code (Closed due) code e = e
right_code (Failed reason) code e = e
right_code Doomed code e = tt

-- ---- the evidence of an echo

-- the close that answers what ended the other direction
abbrev pub answered_end : Option (InTurn Ending) → Option (InTurn Ending)
answered_end None = None
answered_end (Some due) = Some (answer_in_turn due)

-- the peer ends exactly at a close or a fault, in its turn, which is the last
abbrev pub EndsRightly : Option (InTurn Ending) → ℕ → Ended → Type 0
EndsRightly None turns ended = ended ≡ Tester
EndsRightly (Some due) turns ended = (ended ≡ Peer) × (turns ≤ due.turn + 1)

-- all that is due was got in its turn
abbrev pub fully_answered : List (InTurn Reply) → Option (InTurn Ending) → Bool → ℕ → Ended → Evidence
fully_answered replies due has_rest turns ended = record {
  due = record { replies = replies; ending = due; has_rest = has_rest };
  got = record { replies = replies; ending = answered_end due; has_rest = false };
  turns = turns;
  ended = ended;
  answers_doom = false;
}

module _ (tested : Role) (replies : List (InTurn Reply)) (has_rest : Bool) (turns : ℕ) (ended : Ended) where
  messages_right : (b : Bool) → MatchBool b (IsBeginningOf (bare (message_replies replies)) (bare (message_replies replies)) → ⊥) (bare (message_replies replies) ≢ bare (message_replies replies)) → ⊥
  messages_right true h = h ([], sym (append-nil (bare (message_replies replies))))
  messages_right false h = h refl

  fails_nowhere : (due : Option (InTurn Ending)) → EndsRightly due turns ended → (why : FailWhy) → Fails tested (fully_answered replies due has_rest turns ended) why → ⊥
  fails_nowhere None right fail.NotFrames (inl h) = not_true false refl h
  fails_nowhere (Some due) right fail.NotFrames (inl h) = not_true false refl h
  fails_nowhere due right fail.NotFrames (inr (inl h)) = not_true false refl h.1
  fails_nowhere due right fail.NotFrames (inr (inr h)) = not_true false refl h.0
  fails_nowhere due right fail.Early (inl h) = not_true _ (none_before (message_replies replies)) h
  fails_nowhere due right fail.Early (inr (inl h)) = not_true _ (ap (λ l. list_any is_before_match l) (matched_with_itself (pong_replies replies)) ∙ no_early_match (pong_replies replies)) h
  fails_nowhere None right fail.Early (inr (inr h)) = h.0
  fails_nowhere (Some due) right fail.Early (inr (inr h)) = omega (arith, h.0.1)
  fails_nowhere due right fail.Messages h = messages_right _ h
  fails_nowhere due right fail.Pongs (inl h) = not_true _ (ap (λ l. list_any is_unmatched l) (matched_with_itself (pong_replies replies)) ∙ all_matched (pong_replies replies)) h
  fails_nowhere due right fail.Pongs (inr h) = h.2 (last_is_there (pong_replies replies) h.1)
  fails_nowhere None right fail.Close (inl h) = not_true false refl h.0
  fails_nowhere (Some due) right fail.Close (inl h) = not_true true h.1 refl
  fails_nowhere None right fail.Close (inr h) = not_true false refl h.1
  fails_nowhere (Some due) right fail.Close (inr h) = absurd (let no : Some due ≡ None = h.0 in cc)
  fails_nowhere None right fail.End (inl h) = h.0 refl
  fails_nowhere (Some due) right fail.End (inl h) = absurd (let no : Peer ≡ Tester = sym right.0 ∙ h.1 in cc)
  fails_nowhere None right fail.End (inr h) = h.1 right
  fails_nowhere (Some due) right fail.End (inr h) = absurd (let no : Some due ≡ None = h.0 in cc)

  nowhere_loose : (due : Option (InTurn Ending)) → EndsRightly due turns ended → (why : LooseWhy) → IsLoose tested (fully_answered replies due has_rest turns ended) why → ⊥
  nowhere_loose due right loose.PongsSkipped h = omega (arith, h.0)
  nowhere_loose due right loose.PongElsewhere h = h (none_left_out (bare replies))
  nowhere_loose None right loose.OtherCode h = absurd (let no : None ≡ Some h.1 = h.4 in cc)
  nowhere_loose (Some due) right loose.OtherCode h =
      let same : due ≡ h.1 = let e : Some due ≡ Some h.1 = h.4 in cc in
      let got : answer_in_turn due ≡ h.0 = let e : Some (answer_in_turn due) ≡ Some h.0 = h.3 in cc in
      let closed : Closed (code_due_for h.1.what) ≡ Closed h.2 = ap (λ (x : InTurn Ending). Closed (code_due_for x.what)) (sym same) ∙ (ap (λ (x : InTurn Ending). x.what) got ∙ h.5) in
      h.6 (right_code h.1.what h.2 (let code : h.2 ≡ code_due_for h.1.what = cc in code))
  nowhere_loose None right loose.LateEnd h = absurd (let no : None ≡ Some h.0 = h.1 in cc)
  nowhere_loose (Some due) right loose.LateEnd h =
      let same : due ≡ h.0 = let e : Some due ≡ Some h.0 = h.1 in cc in
      omega (arith, right.1, h.2, ap (λ (x : InTurn Ending). x.turn) same)
  nowhere_loose due right loose.EchoShort (fault, inl short) = omega (arith, short)
  nowhere_loose due right loose.EchoShort (fault, inr short) = omega (arith, short.0)
  nowhere_loose None right loose.BrokenEnd h = absurd (let no = sym right ∙ h in cc)
  nowhere_loose (Some due) right loose.BrokenEnd h = absurd (let no = sym right.0 ∙ h in cc)
  nowhere_loose due right loose.OwnFault h = absurd h
  nowhere_loose due right loose.OwnClose h = absurd h
  nowhere_loose due right loose.OwnEnd h = absurd h
  nowhere_loose due right loose.LateFault h = absurd h
  nowhere_loose due right loose.Tolerated h = absurd h
  nowhere_loose due right loose.NoClose h = absurd h
  nowhere_loose due right loose.BehindClose h = absurd h
  nowhere_loose due right loose.TooBig h = absurd h

  pub fully_answered_passes : (due : Option (InTurn Ending)) → EndsRightly due turns ended → IsVerdictOn tested (fully_answered replies due has_rest turns ended) Pass
  fully_answered_passes due right = (fails_nowhere due right, nowhere_loose due right)
