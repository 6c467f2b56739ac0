-- A transcript has one list of events a direction, one evidence and one verdict.
use Rattle.std.proofs.Common.{◌≡◌, ◌∙◌, ℕ, suc, zero, ◌≤◌, ◌↔◌, Bool, true, false, List, [], ◌∷◌, ◌++◌, length, take, Option, None, Some, MatchBool, ap, ap₂, sym, refl, subst, inl, inr, arith, append-nil}
use Rattle.std.proofs.lemmas.Bool.{cases_lt}
use Rattle.std.proofs.lemmas.List.{append_cancel_left}
use Rattle.std.specs.List.{concat, last_or}
use Rattle.ws_wire.specs.declared.role.Role.{Role}
use Rattle.ws_session.specs.declared.event.Event.{Event}
use Rattle.ws_session.specs.Sends.{most_limits}
use Rattle.ws_scripts.specs.declared.transcript.Ended.{Ended}
use Rattle.ws_scripts.specs.declared.transcript.Transcript.{Transcript}
use Rattle.ws_suite.specs.declared.verdict.Verdict.{Verdict}
use Rattle.ws_suite.specs.declared.verdict.Verdict.TheVariants.{Pass, Loose, Fail}
use Rattle.ws_suite.specs.declared.verdict.FailWhy.{FailWhy}
use Rattle.ws_suite.specs.declared.verdict.FailWhy.TheVariants as fail
use Rattle.ws_suite.specs.declared.verdict.LooseWhy.{LooseWhy}
use Rattle.ws_suite.specs.declared.verdict.LooseWhy.TheVariants as loose
use Rattle.ws_suite.specs.declared.evidence.InTurn.{InTurn}
use Rattle.ws_suite.specs.declared.evidence.Reply.{Reply}
use Rattle.ws_suite.specs.declared.evidence.Ending.{Ending}
use Rattle.ws_suite.specs.declared.evidence.Direction.{Direction}
use Rattle.ws_suite.specs.declared.evidence.Evidence.{Evidence}
use Rattle.ws_suite.specs.Evidence.{AreEventsByTurn, HasRest, IsDirectionOf, IsEvidenceOf, by_turn, ending_in, joined_events, sent_turns}
use Rattle.ws_suite.specs.Doom.{AnswersDoom, CountsAs, HasDoomCounted, IsDoomOf, IsLastWithBytes, counts_doom}
use Rattle.ws_suite.specs.Verdicts.{IsLowestFail, IsLowestLoose, IsVerdictOf, IsVerdictOn, fail_number, loose_number}
use Rattle.ws_suite.specs.InnerCollecting.{EventLaws}

-- ---- one list of events

same_by_fronts : (xs ys : List (List Event)) → length xs ≡ length ys → ((n : ℕ) → n ≤ length xs → joined_events (take n xs) ≡ joined_events (take n ys)) → xs ≡ ys
same_by_fronts [] [] len same = refl
same_by_fronts [] (y ∷ ys) len same = absurd (omega (arith, len))
same_by_fronts (x ∷ xs) [] len same = absurd (omega (arith, len))
same_by_fronts (x ∷ xs) (y ∷ ys) len same =
    let head : x ≡ y = sym (append-nil x) ∙ (same (suc zero) (omega arith) ∙ append-nil y) in
    let tail = same_by_fronts xs ys (omega (arith, len)) (λ n less. append_cancel_left x (joined_events (take n xs)) (joined_events (take n ys))
    (same (suc n) (omega (arith, less)) ∙ ap (λ (l : List Event). l ++ joined_events (take n ys)) (sym head))) in
    ap₂ (λ (z : List Event) (zs : List (List Event)). z ∷ zs) head tail

pub same_flags : (x y : Bool) → (x ≡ true → y ≡ true) → (y ≡ true → x ≡ true) → x ≡ y
same_flags true y on back = sym (on refl)
same_flags false true on back = back refl
same_flags false false on back = refl

pub same_evidence : (a b : Evidence) → a.due ≡ b.due → a.got ≡ b.got → a.turns ≡ b.turns → a.ended ≡ b.ended → a.answers_doom ≡ b.answers_doom → a ≡ b
same_evidence a b due got turns ended doom =
    ap₂ (λ (d g : Direction). record { due = d; got = g; turns = a.turns; ended = a.ended; answers_doom = a.answers_doom }) due got
    ∙ (ap₂ (λ (n : ℕ) (e : Ended). record { due = b.due; got = b.got; turns = n; ended = e; answers_doom = a.answers_doom }) turns ended
    ∙ ap (λ (f : Bool). record { due = b.due; got = b.got; turns = b.turns; ended = b.ended; answers_doom = f }) doom)

module _ (laws : EventLaws) where
  pub one_by_turn : (role : Role) (turns : List (List ℕ)) (events others : List (List Event))
      → AreEventsByTurn role turns events → AreEventsByTurn role turns others → events ≡ others
  one_by_turn role turns events others p q =
      same_by_fronts events others (p.each ∙ sym q.each) (λ n less.
      laws.one_list role most_limits (concat (take n turns)) (joined_events (take n events)) (joined_events (take n others))
      (p.so_far n (omega (arith, less, p.each))) (q.so_far n (omega (arith, less, p.each))))

  -- ---- one evidence

  pub one_direction : (role : Role) (found : Event → List Reply) (turns : List (List ℕ)) (a b : Direction) → IsDirectionOf role found turns a → IsDirectionOf role found turns b → a ≡ b
  one_direction role found turns a b p q =
      let same = one_by_turn role turns p.events q.events p.are_events q.are_events in
      let replies : a.replies ≡ b.replies = p.replies ∙ (ap (λ (l : List (List Event)). by_turn found 0 l) same ∙ sym q.replies) in
      let ending : a.ending ≡ b.ending = p.ending ∙ (ap (λ (l : List (List Event)). last_or None (by_turn ending_in 0 l)) same ∙ sym q.ending) in
      let p_rest : (a.has_rest ≡ true) ↔ HasRest role (concat turns) (joined_events q.events) =
      subst (λ (l : List (List Event)). (a.has_rest ≡ true) ↔ HasRest role (concat turns) (joined_events l)) same p.has_rest in
      let has_rest : a.has_rest ≡ b.has_rest = same_flags a.has_rest b.has_rest (λ e. q.has_rest.1 (p_rest.0 e)) (λ e. p_rest.1 (q.has_rest.0 e)) in
      ap₂ (λ (r : List (InTurn Reply)) (e : Option (InTurn Ending)). record { replies = r; ending = e; has_rest = a.has_rest }) replies ending
      ∙ ap (λ (r : Bool). record { replies = b.replies; ending = b.ending; has_rest = r }) has_rest

  pub one_evidence : (tested : Role) (transcript : Transcript) (a b : Evidence) → IsEvidenceOf tested transcript a → IsEvidenceOf tested transcript b → a ≡ b
  one_evidence tested transcript a b p q =
      let due = one_direction _ _ _ a.due b.due p.due q.due in
      let got = one_direction _ _ _ a.got b.got p.got q.got in
      same_evidence a b due got (p.turns ∙ sym q.turns) (p.ended ∙ sym q.ended) (p.uncounted ∙ sym q.uncounted)

-- ---- one way in which doom counts

one_last : (turns : List (List ℕ)) (a b : ℕ) → IsLastWithBytes turns a → IsLastWithBytes turns b → a ≡ b
one_last turns a b p q = elim (cases_lt a b) [
  | inl lt ↦ absurd (q.some (p.last b lt))
  | inr le ↦ elim (cases_lt b a) [ inl lt ↦ absurd (p.some (q.last a lt)) | inr other ↦ omega (arith, le, other) ]
]

same_ending : (a b : InTurn Ending) → a.turn ≡ b.turn → a.what ≡ b.what → Some a ≡ Some b
same_ending a b turn what = ap₂ (λ (n : ℕ) (e : Ending). Some (record { turn = n; what = e })) turn what

one_doom : (tested : Role) (turns : List (List ℕ)) (a b : Option (InTurn Ending)) → IsDoomOf tested turns a → IsDoomOf tested turns b → a ≡ b
one_doom tested turns None None p q = refl
one_doom tested turns None (Some b) p q = absurd (p q.2)
one_doom tested turns (Some a) None p q = absurd (q p.2)
one_doom tested turns (Some a) (Some b) p q = same_ending a b (one_last turns a.turn b.turn p.1 q.1) (p.0 ∙ sym q.0)

one_count_by : (counts : Bool) (tested : Role) (turns : List (List ℕ)) (a b : Option (InTurn Ending)) → MatchBool counts (IsDoomOf tested turns a) (a ≡ None) → MatchBool counts (IsDoomOf tested turns b) (b ≡ None) → a ≡ b
one_count_by true tested turns a b p q = one_doom tested turns a b p q
one_count_by false tested turns a b p q = p ∙ sym q

one_count : (tested : Role) (transcript : Transcript) (got sent a b : Option (InTurn Ending)) → CountsAs tested transcript got sent a → CountsAs tested transcript got sent b → a ≡ b
one_count tested transcript got (Some sent) a b p q = p ∙ sym q
one_count tested transcript got None a b p q = one_count_by (counts_doom tested transcript.ended got) tested (sent_turns transcript.turns) a b p q

pub same_direction : (a b : Direction) → a.replies ≡ b.replies → a.ending ≡ b.ending → a.has_rest ≡ b.has_rest → a ≡ b
same_direction a b replies ending rest =
    ap₂ (λ (r : List (InTurn Reply)) (e : Option (InTurn Ending)). record { replies = r; ending = e; has_rest = a.has_rest }) replies ending
    ∙ ap (λ (f : Bool). record { replies = b.replies; ending = b.ending; has_rest = f }) rest

pub one_counted : (tested : Role) (transcript : Transcript) (shown a b : Evidence) → HasDoomCounted tested transcript shown a → HasDoomCounted tested transcript shown b → a ≡ b
one_counted tested transcript shown a b p q =
    let ending = one_count tested transcript shown.got.ending shown.due.ending a.due.ending b.due.ending p.ending q.ending in
    let answers : (a.answers_doom ≡ true) ↔ AnswersDoom tested (sent_turns transcript.turns) shown.got.ending b.due.ending =
    subst (λ (e : Option (InTurn Ending)). (a.answers_doom ≡ true) ↔ AnswersDoom tested (sent_turns transcript.turns) shown.got.ending e) ending p.answers_doom in
    same_evidence a b (same_direction a.due b.due (p.replies ∙ sym q.replies) ending (p.has_rest ∙ sym q.has_rest)) (p.got ∙ sym q.got) (p.turns ∙ sym q.turns) (p.ended ∙ sym q.ended)
    (same_flags a.answers_doom b.answers_doom (λ e. q.answers_doom.1 (answers.0 e)) (λ e. answers.1 (q.answers_doom.0 e)))

-- ---- one verdict

abbrev pub fail_with : ℕ → FailWhy
fail_with zero = fail.End
fail_with (suc zero) = fail.NotFrames
fail_with (suc (suc zero)) = fail.Early
fail_with (suc (suc (suc zero))) = fail.Messages
fail_with (suc (suc (suc (suc zero)))) = fail.Pongs
fail_with (suc (suc (suc (suc (suc zero))))) = fail.Close
fail_with (suc (suc (suc (suc (suc (suc n)))))) = fail.End

pub fail_is : (why : FailWhy) → fail_with (fail_number why) ≡ why
fail_is fail.NotFrames = refl
fail_is fail.Early = refl
fail_is fail.Messages = refl
fail_is fail.Pongs = refl
fail_is fail.Close = refl
fail_is fail.End = refl

abbrev pub loose_with : ℕ → LooseWhy
loose_with zero = loose.BrokenEnd
loose_with (suc zero) = loose.PongsSkipped
loose_with (suc (suc zero)) = loose.PongElsewhere
loose_with (suc (suc (suc zero))) = loose.OtherCode
loose_with (suc (suc (suc (suc zero)))) = loose.LateEnd
loose_with (suc (suc (suc (suc (suc zero))))) = loose.EchoShort
loose_with (suc (suc (suc (suc (suc (suc zero)))))) = loose.BrokenEnd
loose_with (suc (suc (suc (suc (suc (suc (suc zero))))))) = loose.OwnFault
loose_with (suc (suc (suc (suc (suc (suc (suc (suc zero)))))))) = loose.OwnClose
loose_with (suc (suc (suc (suc (suc (suc (suc (suc (suc zero))))))))) = loose.OwnEnd
loose_with (suc (suc (suc (suc (suc (suc (suc (suc (suc (suc zero)))))))))) = loose.LateFault
loose_with (suc (suc (suc (suc (suc (suc (suc (suc (suc (suc (suc zero))))))))))) = loose.Tolerated
loose_with (suc (suc (suc (suc (suc (suc (suc (suc (suc (suc (suc (suc zero)))))))))))) = loose.NoClose
loose_with (suc (suc (suc (suc (suc (suc (suc (suc (suc (suc (suc (suc (suc zero))))))))))))) = loose.BehindClose
loose_with (suc (suc (suc (suc (suc (suc (suc (suc (suc (suc (suc (suc (suc (suc zero)))))))))))))) = loose.TooBig
loose_with (suc (suc (suc (suc (suc (suc (suc (suc (suc (suc (suc (suc (suc (suc (suc n))))))))))))))) = loose.BrokenEnd

pub loose_is : (why : LooseWhy) → loose_with (loose_number why) ≡ why
loose_is loose.PongsSkipped = refl
loose_is loose.PongElsewhere = refl
loose_is loose.OtherCode = refl
loose_is loose.LateEnd = refl
loose_is loose.EchoShort = refl
loose_is loose.BrokenEnd = refl
loose_is loose.OwnFault = refl
loose_is loose.OwnClose = refl
loose_is loose.OwnEnd = refl
loose_is loose.LateFault = refl
loose_is loose.Tolerated = refl
loose_is loose.NoClose = refl
loose_is loose.BehindClose = refl
loose_is loose.TooBig = refl

one_lowest_fail : (tested : Role) (x : Evidence) (a b : FailWhy) → IsLowestFail tested x a → IsLowestFail tested x b → a ≡ b
one_lowest_fail tested x a b p q = elim (cases_lt (fail_number a) (fail_number b)) [
  | inl lt ↦ absurd (q.1 a lt p.0)
  | inr le ↦ elim (cases_lt (fail_number b) (fail_number a)) [
    | inl lt ↦ absurd (p.1 b lt q.0)
    | inr other ↦
        let same : fail_number a ≡ fail_number b = omega arith in
        sym (fail_is a) ∙ (ap fail_with same ∙ fail_is b)
  ]
]

one_lowest_loose : (tested : Role) (x : Evidence) (a b : LooseWhy) → IsLowestLoose tested x a → IsLowestLoose tested x b → a ≡ b
one_lowest_loose tested x a b p q = elim (cases_lt (loose_number a) (loose_number b)) [
  | inl lt ↦ absurd (q.1 a lt p.0)
  | inr le ↦ elim (cases_lt (loose_number b) (loose_number a)) [
    | inl lt ↦ absurd (p.1 b lt q.0)
    | inr other ↦
        let same : loose_number a ≡ loose_number b = omega arith in
        sym (loose_is a) ∙ (ap loose_with same ∙ loose_is b)
  ]
]

one_on_evidence : (tested : Role) (x : Evidence) (one other : Verdict) → IsVerdictOn tested x one → IsVerdictOn tested x other → one ≡ other
one_on_evidence tested x (Fail a) (Fail b) p q = ap Fail (one_lowest_fail tested x a b p q)
one_on_evidence tested x (Fail a) (Loose b) p q = absurd (q.0 a p.0)
one_on_evidence tested x (Fail a) Pass p q = absurd (q.0 a p.0)
one_on_evidence tested x (Loose a) (Fail b) p q = absurd (p.0 b q.0)
one_on_evidence tested x (Loose a) (Loose b) p q = ap Loose (one_lowest_loose tested x a b p.1 q.1)
one_on_evidence tested x (Loose a) Pass p q = absurd (q.1 a p.1.0)
one_on_evidence tested x Pass (Fail b) p q = absurd (p.0 b q.0)
one_on_evidence tested x Pass (Loose b) p q = absurd (p.1 b q.1.0)
one_on_evidence tested x Pass Pass p q = refl

pub one_verdict_of : EventLaws → (tested : Role) (transcript : Transcript) (one other : Verdict) → IsVerdictOf tested transcript one → IsVerdictOf tested transcript other → one ≡ other
one_verdict_of laws tested transcript one other p q =
    let same = one_evidence laws tested transcript q.evidence p.evidence q.is_evidence p.is_evidence in
    let counted = one_counted tested transcript p.evidence q.counted p.counted (subst (λ (x : Evidence). HasDoomCounted tested transcript x q.counted) same q.is_counted) p.is_counted in
    one_on_evidence tested p.counted one other p.is_verdict (subst (λ (x : Evidence). IsVerdictOn tested x other) counted q.is_verdict)
