-- The pongs behind a close are told once: each frame has one turn.
use Rattle.std.proofs.Common.{◌≡◌, ◌∙◌, ℕ, zero, suc, ◌+◌, ◌-◌, ◌<◌, ◌≤◌, Bool, true, false, List, [], ◌∷◌, ◌++◌, MatchBool}
use Rattle.std.proofs.Common.{ap, ap₂, arith, inl, inr, length, refl, subst, sym, take}
use Rattle.std.proofs.lemmas.Bool.{cases_lt}
use Rattle.std.proofs.lemmas.List.{length-append}
use Rattle.std.specs.List.{concat}
use Rattle.ws_wire.specs.declared.role.Role.{Role}
use Rattle.ws_wire.specs.Frame.{IsWireFrame, WireFrame, wire_bytes}
use Rattle.ws_wire.specs.Stream.{SplitsIntoAnyForm}
use Rattle.ws_wire.proofs.Frames.{wire_none_begins}
use Rattle.ws_wire.proofs.Splits.{split_is_one}
use Rattle.ws_session.specs.declared.event.Event.{Event}
use Rattle.ws_session.specs.Sends.{most_limits}
use Rattle.ws_scripts.specs.declared.transcript.Transcript.{Transcript}
use Rattle.ws_suite.specs.declared.evidence.InTurn.{InTurn}
use Rattle.ws_suite.specs.declared.evidence.Reply.{Reply}
use Rattle.ws_suite.specs.declared.evidence.Reply.TheVariants.{Pong}
use Rattle.ws_suite.specs.declared.evidence.Evidence.{Evidence}
use Rattle.ws_suite.specs.Evidence.{HoldsByte, got_turns, other_role}
use Rattle.ws_suite.specs.InnerCollecting.{EventLaws}
use Rattle.ws_suite.specs.Marks.{ArePongsAmong, ArePongsBehind, HasPongsCounted, IsPongIn, StandBehind, with_pongs}
use Rattle.ws_suite.specs.Matching.{ends_with_close}
use Rattle.ws_suite.proofs.StreamEndLemmas.{one_behind}

-- ---- one turn

fewer_before : (m n : ℕ) (turns : List (List ℕ)) → m ≤ n
    → length (concat (take m turns)) ≤ length (concat (take n turns))
fewer_before zero n turns less = omega arith
fewer_before (suc m) zero turns less = absurd (omega (arith, less))
fewer_before (suc m) (suc n) [] less = omega arith
fewer_before (suc m) (suc n) (x ∷ turns) less = omega (
  arith,
  fewer_before m n turns (omega (arith, less)),
  length-append x (concat (take m turns)),
  length-append x (concat (take n turns)),
)

none_earlier : (turns : List (List ℕ)) (n turn other : ℕ) → HoldsByte turns turn n → HoldsByte turns other n
    → turn < other → ⊥
none_earlier turns n turn other h k less = omega (arith, fewer_before (turn + 1) other turns (omega (arith, less)), h.1, k.0)

one_turn : (turns : List (List ℕ)) (n turn other : ℕ) → HoldsByte turns turn n → HoldsByte turns other n
    → turn ≡ other
one_turn turns n turn other h k = elim (cases_lt turn other) [
  | inl less ↦ absurd (none_earlier turns n turn other h k less)
  | inr most ↦ elim (cases_lt other turn) [
    | inl less ↦ absurd (none_earlier turns n other turn k h less)
    | inr least ↦ omega (arith, most, least)
  ]
]

-- ---- one list

one_in : (role : Role) (turns : List (List ℕ)) (n : ℕ) (x : WireFrame) (a b : List (InTurn Reply))
    → IsPongIn role turns n x a → IsPongIn role turns n x b → a ≡ b
one_in role turns n x a b (inl (right, (turn, holds, is))) (inl (right', (turn', holds', is'))) =
    is ∙ (ap (λ (t : ℕ). record { turn = t; what = Pong x.payload } ∷ []) (one_turn turns n turn turn' holds holds')
    ∙ sym is')
one_in role turns n x a b (inl (right, h)) (inr (wrong, is)) = absurd (wrong right)
one_in role turns n x a b (inr (wrong, is)) (inl (right, h)) = absurd (wrong right)
one_in role turns n x a b (inr (wrong, is)) (inr (wrong', is')) = is ∙ sym is'

one_among : (role : Role) (turns : List (List ℕ)) (before : ℕ) (frames : List WireFrame) (a b : List (InTurn Reply))
    → ArePongsAmong role turns before frames a → ArePongsAmong role turns before frames b → a ≡ b
one_among role turns before [] a b p q = p ∙ sym q
one_among role turns before (x ∷ later) a b (one, others, is, here, behind) (one', others', is', here', behind') =
    let next = before + length (wire_bytes x) in
    is ∙ (ap₂ (λ (l m : List (InTurn Reply)). l ++ m) (one_in role turns next x one one' here here')
    (one_among role turns next later others others' behind behind') ∙ sym is')

one_pongs : EventLaws → (role : Role) (turns : List (List ℕ)) (a b : List (InTurn Reply))
    → ArePongsBehind role turns a → ArePongsBehind role turns b → a ≡ b
one_pongs laws role turns a b p q =
    let bytes = concat turns in
    let events = laws.one_list role most_limits bytes q.events p.events q.are_events p.are_events in
    let behind : p.behind ≡ q.behind = one_behind role bytes p.events p.behind q.behind p.stand_behind
    (subst (λ (l : List Event). StandBehind role bytes l q.behind) events q.stand_behind) in
    let there : SplitsIntoAnyForm p.behind q.frames q.rest =
    subst (λ (l : List ℕ). SplitsIntoAnyForm l q.frames q.rest) (sym behind) q.split in
    let frames = split_is_one IsWireFrame wire_bytes wire_none_begins p.behind q.frames p.frames q.rest p.rest there
    p.split in
    one_among role turns (length bytes - length p.behind) p.frames a b p.among
    (subst (λ (l : List WireFrame). ArePongsAmong role turns (length bytes - length p.behind) l b) frames.0
    (subst (λ (l : List ℕ). ArePongsAmong role turns (length bytes - length l) q.frames b) (sym behind) q.among))

one_if : EventLaws → (closes : Bool) (role : Role) (turns : List (List ℕ)) (a b : List (InTurn Reply))
    → MatchBool closes (ArePongsBehind role turns a) (a ≡ []) → MatchBool closes (ArePongsBehind role turns b) (b ≡ [])
    → a ≡ b
one_if laws true role turns a b p q = one_pongs laws role turns a b p q
one_if laws false role turns a b p q = p ∙ sym q

-- ---- one evidence

pub one_with_pongs : EventLaws → (tested : Role) (transcript : Transcript) (x a b : Evidence)
    → HasPongsCounted tested transcript x a → HasPongsCounted tested transcript x b → a ≡ b
one_with_pongs laws tested transcript x a b p q =
    p.is_counted ∙ (ap (λ (l : List (InTurn Reply)). with_pongs x l)
    (one_if laws (ends_with_close x.got.ending) (other_role tested) (got_turns transcript.turns) p.pongs q.pongs
    p.are_pongs q.are_pongs) ∙ sym q.is_counted)
