-- What the session that took the turns says of their doom, and in which of them a close was got.
use Rattle.std.proofs.Common.{◌≡◌, ◌∙◌, ℕ, zero, suc, ◌+◌, ◌<◌, ◌≤◌, ◌↔◌, ◌⊎◌, Bool, true, false, List, [], ◌∷◌, ◌++◌}
use Rattle.std.proofs.Common.{length, get_or, ◌==◌, take, flat_map, Option, Some, None, ap, sym, refl, subst, arith}
use Rattle.std.proofs.Common.{inl, inr}
use Rattle.std.proofs.lemmas.Bool.{cases_lt, eqb-true}
use Rattle.std.proofs.lemmas.List.{get_or_past, length-append, length-map, take_all}
use Rattle.std.specs.Prelude.{IsTrue, MatchOption, slice_index_or}
use Rattle.std.specs.List.{concat, last_or}
use Rattle.ws_wire.specs.declared.role.Role.{Role}
use Rattle.ws_wire.specs.Frame.{Frame, KeyedFrame}
use Rattle.ws_session.specs.declared.event.Event.{Event}
use Rattle.ws_session.specs.Limits.{LimitsValue}
use Rattle.ws_session.specs.Doomed.{EndsDoomed}
use Rattle.ws_session.specs.Exchange.{SessionValue, HasExchanged, is_over}
use Rattle.ws_session.specs.Sends.{most_limits}
use Rattle.ws_scripts.specs.declared.transcript.Turn.{Turn}
use Rattle.ws_suite.specs.declared.evidence.InTurn.{InTurn}
use Rattle.ws_suite.specs.declared.evidence.Reply.{Reply}
use Rattle.ws_suite.specs.declared.evidence.Ending.{Ending}
use Rattle.ws_suite.specs.declared.evidence.Direction.{Direction}
use Rattle.ws_suite.specs.Evidence.{AreEventsByTurn, IsDirectionOf, by_turn, ending_in, sent_turns}
use Rattle.ws_suite.specs.Doom.{IsDoomedAfter, IsLastWithBytes}
use Rattle.ws_suite.specs.InnerCollecting.{EventLaws, at_turn}
use Rattle.ws_suite.specs.InnerDoom.{AreWithoutBytes, HasEndedInTurn, HasTakenBytes, IsKnownAtClose, IsLastUntil}
use Rattle.ws_suite.specs.InnerDoom.{last_sent}
use Rattle.ws_suite.proofs.EvidenceLemmas.{by_turn_more, events_before, last_apart, last_joined}
use Rattle.ws_suite.proofs.OneVerdict.{one_by_turn}

-- what is doomed, after some frames
abbrev pub EndsInDoom : Role → LimitsValue → List ℕ → Type 0
EndsInDoom role limits bytes = (frames : List KeyedFrame) × (rest : List ℕ) × EndsDoomed role limits bytes frames rest

-- the law of the layer below
abbrev pub DoomLaw : Type 0
DoomLaw = (v : SessionValue) (sent : List Frame) (bytes : List ℕ) (frames : List KeyedFrame) (rest : List ℕ)
    → HasExchanged v sent bytes false → EndsDoomed v.role v.limits bytes frames rest → is_over v.status ≡ false

-- ---- the session that took the turns

-- what it tells is told of the bytes that it took
pub told_of_bytes : DoomLaw → (role : Role) (bytes : List ℕ) (v : SessionValue) (r : Bool) → HasTakenBytes role bytes v
    → ((sent : List Frame) (taken : List ℕ) (ended : Bool) → HasExchanged v sent taken ended
    → is_over v.status ≡ false → (IsTrue r ↔ EndsInDoom v.role v.limits taken))
    → (is_over v.status ≡ true → r ≡ false) → (IsTrue r ↔ EndsInDoom role most_limits bytes)
told_of_bytes law role bytes v r h tells over =
    subst (λ (x : Role). IsTrue r ↔ EndsInDoom x most_limits bytes) h.same_role
    (subst (λ (l : LimitsValue). IsTrue r ↔ EndsInDoom v.role l bytes) h.limits (
      λ t. (tells h.sent bytes false h.exchanged (goes_on (is_over v.status) refl t)).0 t,
      λ d.
          (tells h.sent bytes false h.exchanged (law v h.sent bytes d.0 d.1 h.exchanged d.2)).1 d,
    ))
  where
    goes_on : (b : Bool) → is_over v.status ≡ b → IsTrue r → is_over v.status ≡ false
    goes_on false e t = e
    goes_on true e t = absurd (let wrong : false ≡ true = sym (over e) ∙ t in cc)

-- ---- turns without bytes

none_joined : (turns : List (List ℕ)) → AreWithoutBytes 0 turns → concat turns ≡ []
none_joined [] none = refl
none_joined (turn ∷ turns) none =
    let here : turn ≡ [] = none 0 (omega arith) in
    ap (λ (l : List ℕ). l ++ concat turns) here ∙ none_joined turns (λ later le. none (suc later) (omega arith))

no_rest : (a b : List ℕ) → [] ≡ a ++ b → b ≡ []
no_rest [] b e = sym e
no_rest (x ∷ a) b e = absurd cc

-- nothing is not doomed
pub nothing_is_not_doomed : (tested : Role) (turns : List (List ℕ)) → AreWithoutBytes 0 turns
    → IsDoomedAfter tested turns (length turns) → ⊥
nothing_is_not_doomed tested turns none (frames, rest, d) =
    let all : concat (take (length turns) turns) ≡ [] = ap (λ (l : List (List ℕ)). concat l)
    (take_all (length turns) turns (omega arith)) ∙ none_joined turns none in
    d.doomed.begun (no_rest _ rest (sym all ∙ d.split.whole))

-- ---- turns by their places

-- what was sent in the turn that stands there
pub sent_at : (turns : List Turn) (i : ℕ) (turn : Turn) → i < length turns → turn ≡ get_or turns i turn
    → slice_index_or (sent_turns turns) i [] ≡ turn.sent
sent_at [] i turn lt e = absurd (omega arith)
sent_at (t ∷ turns) zero turn lt e = ap (λ (u : Turn). u.sent) (sym e)
sent_at (t ∷ turns) (suc i) turn lt e = sent_at turns i turn (omega arith) e

-- ---- the last turn with bytes

-- the last of the first turns is that of one more, by what was sent in it
pub last_step : (turns : List (List ℕ)) (n : ℕ) (last : Option ℕ) (here : List ℕ)
    → slice_index_or turns n [] ≡ here → IsLastUntil n turns last → IsLastUntil (n + 1) turns (last_sent last n here)
last_step turns n None [] is h = λ turn less.
    elim (cases_lt turn n) [
      | inl before ↦ h turn before
      | inr at ↦
          let same : turn ≡ n = omega (arith, at, less) in
          ap (λ (k : ℕ). slice_index_or turns k []) same ∙ is
    ]
last_step turns n (Some last) [] is h = (
  h.0,
  λ later after less.
      elim (cases_lt later n) [
        | inl before ↦ h.1 later after before
        | inr at ↦
            let same : later ≡ n = omega (arith, at, less) in
            ap (λ (k : ℕ). slice_index_or turns k []) same ∙ is
      ],
)
last_step turns n last (byte ∷ bytes) is h = (
  λ empty. absurd (let wrong : byte ∷ bytes ≡ [] = sym is ∙ empty in cc),
  λ later after less. absurd (omega (arith, after, less)),
)

-- behind the last turn nothing was sent
pub last_of_all : (turns : List (List ℕ)) (n : ℕ) (last : Option ℕ) → length turns ≤ n → IsLastUntil n turns last
    → MatchOption last (AreWithoutBytes 0 turns) (IsLastWithBytes turns)
last_of_all turns n None all h = λ later le.
    elim (cases_lt later n) [
      | inl before ↦ h later before
      | inr past ↦ get_or_past turns later [] (omega (arith, all, past))
    ]
last_of_all turns n (Some last) all h = record {
  some = h.0;
  last = λ later after.
      elim (cases_lt later n) [
        | inl before ↦ h.1 later after before
        | inr past ↦ get_or_past turns later [] (omega (arith, all, past))
      ];
}

-- ---- the turn of the close

abbrev turn_of : Option (InTurn Ending) → ℕ
turn_of None = 0
turn_of (Some x) = x.turn

-- the last turn adds an ending of its own, or none
ending_from : (n : ℕ) (o : Option (InTurn Ending)) (xs : List Ending) (x : InTurn Ending)
    → last_or o (at_turn n xs) ≡ Some x → (x.turn ≡ n) ⊎ (o ≡ Some x)
ending_from n o [] x e = inr e
ending_from n o (y ∷ xs) x e = elim (ending_from n (Some (record { turn = n; what = y })) xs x e) [
  | inl at ↦ inl at
  | inr same ↦ inl (sym (ap turn_of same))
]

module _ (laws : EventLaws) (role : Role) (found : Event → List Reply) (before : List (List ℕ)) (bytes : List ℕ)
    (old new : Direction) (p : IsDirectionOf role found before old)
    (q : IsDirectionOf role found (before ++ bytes ∷ []) new) where
  ending_of_turn : (x : InTurn Ending) → new.ending ≡ Some x → (x.turn ≡ length before) ⊎ (old.ending ≡ Some x)
  ending_of_turn x e =
      let (front, told, apart) = last_apart q.events
      (omega (arith, q.are_events.each, length-append before (bytes ∷ []))) in
      let are = events_before role before front bytes told
      (subst (λ (l : List (List Event)). AreEventsByTurn role (before ++ bytes ∷ []) l) apart q.are_events) in
      let same : front ≡ p.events = one_by_turn laws role before front p.events are p.are_events in
      let n = 0 + length front in
      let last = at_turn n (flat_map ending_in told) in
      let so_far : last_or None (by_turn ending_in 0 front) ≡ old.ending =
      ap (λ (l : List (List Event)). last_or None (by_turn ending_in 0 l)) same ∙ sym p.ending in
      let grown : new.ending ≡ last_or old.ending last =
      q.ending ∙ ap (λ (l : List (List Event)). last_or None (by_turn ending_in 0 l)) apart
      ∙ ap (λ (l : List (InTurn Ending)). last_or None l) (by_turn_more ending_in 0 front told)
      ∙ last_joined None (by_turn ending_in 0 front) last
      ∙ ap (λ (o : Option (InTurn Ending)). last_or o last) so_far in
      elim (ending_from n old.ending (flat_map ending_in told) x (sym grown ∙ e)) [
        | inl at ↦ inl (omega (arith, at, are.each))
        | inr was ↦ inr was
      ]

  -- neither a close nor a fault was got in the last turn: what was known is known
  pub known_still : (tested : Role) (sent : List (List ℕ)) (r : Bool) (o : Option (InTurn Ending)) → new.ending ≡ o
      → (HasEndedInTurn o (length before) → ⊥) → IsKnownAtClose tested sent old.ending r
      → IsKnownAtClose tested sent o r
  known_still tested sent r None e none known = tt
  known_still tested sent r (Some x) e none known = elim (ending_of_turn x e) [
    | inl at ↦ absurd (none at)
    | inr was ↦ subst (λ (o : Option (InTurn Ending)). IsKnownAtClose tested sent o r) was known
  ]

-- one was, and it was asked
pub known_now : (tested : Role) (sent : List (List ℕ)) (n : ℕ) (o : Option (InTurn Ending)) (r : Bool)
    → HasEndedInTurn o n → (IsTrue r ↔ IsDoomedAfter tested sent (n + 1)) → IsKnownAtClose tested sent o r
known_now tested sent n None r ends tells = tt
known_now tested sent n (Some x) r ends tells =
    subst (λ (k : ℕ). IsTrue r ↔ IsDoomedAfter tested sent (k + 1)) (sym ends) tells
