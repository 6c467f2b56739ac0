-- Events and the turns that hold their last bytes.
use Rattle.std.proofs.Common.{◌≡◌, ◌∙◌, ℕ, zero, suc, ◌+◌, ◌<◌, ◌≤◌, List, [], ◌∷◌, ◌++◌, length, take, drop, ap, sym, refl, subst, inl, inr, arith, append_assoc}
use Rattle.std.proofs.lemmas.Bool.{cases_lt}
use Rattle.std.proofs.lemmas.List.{length-append, take-append-drop, take-append-le, take_all, take_at}
use Rattle.std.specs.List.{concat}
use Rattle.ws_wire.specs.declared.role.Role.{Role}
use Rattle.ws_session.specs.declared.event.Event.{Event}
use Rattle.ws_session.specs.Events.{HasEvents}
use Rattle.ws_session.specs.Sends.{most_limits}
use Rattle.ws_suite.specs.Evidence.{AreEventsByTurn, EndsWithByte, HoldsByte, StandsInTurn, joined_events}
use Rattle.ws_suite.specs.InnerCollecting.{EventLaws}

-- the bytes of the first turns, and those of the others
turn_parts : (n : ℕ) (turns : List (List ℕ)) → concat turns ≡ concat (take n turns) ++ concat (drop n turns)
turn_parts zero turns = refl
turn_parts (suc n) [] = refl
turn_parts (suc n) (x ∷ turns) =
    ap (λ (l : List ℕ). x ++ l) (turn_parts n turns) ∙ sym (append_assoc x (concat (take n turns)) (concat (drop n turns)))

-- the bytes of the first turns are the first bytes
turn_front : (n : ℕ) (turns : List (List ℕ)) → take (length (concat (take n turns))) (concat turns) ≡ concat (take n turns)
turn_front n turns =
    let front = concat (take n turns) in
    ap (λ (l : List ℕ). take (length front) l) (turn_parts n turns) ∙ take_at front (concat (drop n turns)) (length front) refl

-- as many of them
short_front : (n m : ℕ) (turns : List (List ℕ)) → m ≤ length (concat (take n turns)) → take m (concat (take n turns)) ≡ take m (concat turns)
short_front n m turns less =
    sym (ap (λ (l : List ℕ). take m l) (turn_parts n turns) ∙ take-append-le m (concat (take n turns)) (concat (drop n turns)) less)

module _ (laws : EventLaws) (role : Role) (turns : List (List ℕ)) (events : List (List Event)) (turn place n : ℕ)
    (are : AreEventsByTurn role turns events) (stands : StandsInTurn events turn place) (ends : EndsWithByte role (concat turns) place n) where
  -- there is such a turn
  a_turn : turn < length turns
  a_turn = elim (cases_lt turn (length turns)) [
    | inl lt ↦ lt
    | inr le ↦
        let same : take (turn + 1) events ≡ take turn events = take_all (turn + 1) events (omega (arith, are.each)) ∙ sym (take_all turn events (omega (arith, are.each))) in
        absurd (omega (arith, stands.0, stands.1, ap (λ (l : List (List Event)). length (joined_events l)) same))
  ]

  ends_after : length (concat (take turn turns)) < n
  ends_after = elim (cases_lt (length (concat (take turn turns))) n) [
    | inl lt ↦ lt
    | inr le ↦
        let front = concat (take turn turns) in
        let whole : take n (concat turns) ++ drop n front ≡ front = ap (λ (l : List ℕ). l ++ drop n front) (sym (short_front turn n turns le)) ∙ take-append-drop n front in
        let all : HasEvents role most_limits (take n (concat turns) ++ drop n front) (joined_events (take turn events)) =
        subst (λ (l : List ℕ). HasEvents role most_limits l (joined_events (take turn events))) (sym whole) (are.so_far turn (omega (arith, a_turn))) in
        let (later, e) = laws.go_on role most_limits (take n (concat turns)) (drop n front) ends.events (joined_events (take turn events)) ends.are_events all in
        absurd (omega (arith, stands.0, ends.there, ap (λ (l : List Event). length l) e, length-append ends.events later))
  ]

  ends_within : n ≤ length (concat (take (turn + 1) turns))
  ends_within = elim (cases_lt (length (concat (take (turn + 1) turns))) n) [
    | inl lt ↦
        let front : HasEvents role most_limits (take (length (concat (take (turn + 1) turns))) (concat turns)) (joined_events (take (turn + 1) events)) =
        subst (λ (l : List ℕ). HasEvents role most_limits l (joined_events (take (turn + 1) events))) (sym (turn_front (turn + 1) turns)) (are.so_far (turn + 1) (omega (arith, a_turn))) in
        let few = ends.no_fewer (length (concat (take (turn + 1) turns))) (joined_events (take (turn + 1) events)) lt front in
        absurd (omega (arith, few, stands.1))
    | inr le ↦ le
  ]

  pub stands_with_last_byte : HoldsByte turns turn n
  stands_with_last_byte = (ends_after, ends_within)
