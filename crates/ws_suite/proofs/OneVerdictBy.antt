-- A transcript has one verdict by the protocol: one evidence with its undefined code counted, and one of each mark.
use Rattle.std.proofs.Common.{◌≡◌, ◌∙◌, ℕ, ◌↔◌, Bool, true, List, Option, Some, None, ap, ap₂, sym, refl, subst, arith, inl, inr}
use Rattle.std.specs.List.{concat}
use Rattle.ws_wire.specs.declared.role.Role.{Role}
use Rattle.ws_session.specs.Faults.{IsLowest}
use Rattle.ws_scripts.specs.declared.transcript.Transcript.{Transcript}
use Rattle.ws_scripts.specs.declared.expectation.Expectation.{Expectation}
use Rattle.ws_scripts.specs.declared.expectation.Expectation.TheVariants.{Echo, Protocol}
use Rattle.ws_suite.specs.declared.verdict.Verdict.{Verdict}
use Rattle.ws_suite.specs.declared.verdict.Verdict.TheVariants.{Pass, Loose, Fail}
use Rattle.ws_suite.specs.declared.verdict.FailWhy.{FailWhy}
use Rattle.ws_suite.specs.declared.verdict.LooseWhy.{LooseWhy}
use Rattle.ws_suite.specs.declared.evidence.InTurn.{InTurn}
use Rattle.ws_suite.specs.declared.evidence.Ending.{Ending}
use Rattle.ws_suite.specs.declared.evidence.Ending.TheVariants.{Closed}
use Rattle.ws_suite.specs.declared.evidence.Evidence.{Evidence}
use Rattle.ws_suite.specs.declared.evidence.marks.Marks.{Marks}
use Rattle.ws_suite.specs.Evidence.{got_turns, other_role}
use Rattle.ws_suite.specs.Doom.{HasDoomCounted}
use Rattle.ws_suite.specs.Marks.{AreMarksOf, CountsUndefinedCode, HasPongsCounted, HasUndefinedCodeCounted}
use Rattle.ws_suite.specs.Protocol.{FailsProtocol, IsLooseByProtocol, IsMarkedEvidenceOf, IsProtocolVerdictOf, IsProtocolVerdictOn, IsVerdictBy}
use Rattle.ws_suite.specs.Tapped.{FailsTapped, IsLooseTapped, IsTappedVerdictOf, IsTappedVerdictOn}
use Rattle.ws_suite.specs.Verdicts.{fail_number, loose_number}
use Rattle.ws_suite.specs.InnerCollecting.{EventLaws}
use Rattle.ws_suite.proofs.OneFault.{one_undefined_code}
use Rattle.ws_suite.proofs.OnePongs.{one_with_pongs}
use Rattle.ws_suite.proofs.OneVerdict.{fail_is, fail_with, loose_is, loose_with, one_counted, one_evidence, one_verdict_of, same_direction, same_evidence, same_flags}

-- ---- one ending

abbrev turn_of : Option (InTurn Ending) → ℕ
turn_of None = 0
turn_of (Some x) = x.turn

one_code_counted : (role : Role) (bytes : List ℕ) (shown a b : Option (InTurn Ending)) → CountsUndefinedCode role bytes shown a → CountsUndefinedCode role bytes shown b → a ≡ b
one_code_counted role bytes shown a b (inl p) (inl q) =
    let turn : p.0 ≡ q.0 = ap (λ (o : Option (InTurn Ending)). turn_of o) (sym p.2 ∙ q.2) in
    let code : p.1 ≡ q.1 = one_undefined_code role bytes p.1 q.1 p.3 q.3 in
    p.4 ∙ (ap₂ (λ (t c : ℕ). Some (record { turn = t; what = Closed (Some c) })) turn code ∙ sym q.4)
one_code_counted role bytes shown a b (inl p) (inr q) = absurd (q.0 p.1 p.3)
one_code_counted role bytes shown a b (inr p) (inl q) = absurd (p.0 q.1 q.3)
one_code_counted role bytes shown a b (inr p) (inr q) = p.1 ∙ sym q.1

one_closed : (tested : Role) (transcript : Transcript) (shown a b : Evidence) → HasUndefinedCodeCounted tested transcript shown a → HasUndefinedCodeCounted tested transcript shown b → a ≡ b
one_closed tested transcript shown a b p q =
    let ending = one_code_counted (other_role tested) (concat (got_turns transcript.turns)) shown.got.ending a.got.ending b.got.ending p.ending q.ending in
    same_evidence a b (p.due ∙ sym q.due) (same_direction a.got b.got (p.replies ∙ sym q.replies) ending (p.has_rest ∙ sym q.has_rest)) (p.turns ∙ sym q.turns) (p.ended ∙ sym q.ended)
    (p.answers_doom ∙ sym q.answers_doom)

-- ---- one of each mark

same_told : (P : Type 0) (a b : Bool) → ((a ≡ true) ↔ P) → ((b ≡ true) ↔ P) → a ≡ b
same_told P a b p q = same_flags a b (λ e. q.1 (p.0 e)) (λ e. p.1 (q.0 e))

abbrev marks_with : Bool → Bool → Bool → Bool → Bool → Marks
marks_with sends_data is_late is_open ends_in_data has_controls =
    record { sends_data = sends_data; is_late = is_late; is_open = is_open; ends_in_data = ends_in_data; has_controls = has_controls }

one_marks : (tested : Role) (transcript : Transcript) (a b : Marks) → AreMarksOf tested transcript a → AreMarksOf tested transcript b → a ≡ b
one_marks tested transcript a b p q =
    let messages = same_told _ a.sends_data b.sends_data p.sends_data q.sends_data in
    let late = same_told _ a.is_late b.is_late p.is_late q.is_late in
    let opened = same_told _ a.is_open b.is_open p.is_open q.is_open in
    let ends = same_told _ a.ends_in_data b.ends_in_data p.ends_in_data q.ends_in_data in
    let controls = same_told _ a.has_controls b.has_controls p.has_controls q.has_controls in
    ap₂ (λ (x y : Bool). marks_with x y a.is_open a.ends_in_data a.has_controls) messages late
    ∙ (ap₂ (λ (x y : Bool). marks_with b.sends_data b.is_late x y a.has_controls) opened ends
    ∙ ap (λ (x : Bool). marks_with b.sends_data b.is_late b.is_open b.ends_in_data x) controls)

-- ---- one verdict

one_fail : (F : FailWhy → Type 0) (a b : FailWhy) → IsLowest FailWhy fail_number F a → IsLowest FailWhy fail_number F b → a ≡ b
one_fail F a b p q =
    let same : fail_number a ≡ fail_number b = omega (arith, p.first b q.wrong, q.first a p.wrong) in
    sym (fail_is a) ∙ (ap fail_with same ∙ fail_is b)

one_loose : (L : LooseWhy → Type 0) (a b : LooseWhy) → IsLowest LooseWhy loose_number L a → IsLowest LooseWhy loose_number L b → a ≡ b
one_loose L a b p q =
    let same : loose_number a ≡ loose_number b = omega (arith, p.first b q.wrong, q.first a p.wrong) in
    sym (loose_is a) ∙ (ap loose_with same ∙ loose_is b)

-- the lowest Fail, else the lowest Loose, else Pass
abbrev IsVerdictOver : (FailWhy → Type 0) → (LooseWhy → Type 0) → Verdict → Type 0
IsVerdictOver F L (Fail why) = IsLowest FailWhy fail_number F why
IsVerdictOver F L (Loose why) = ((other : FailWhy) → ¬ (F other)) × IsLowest LooseWhy loose_number L why
IsVerdictOver F L Pass = ((other : FailWhy) → ¬ (F other)) × ((other : LooseWhy) → ¬ (L other))

one_over : (F : FailWhy → Type 0) (L : LooseWhy → Type 0) (one other : Verdict) → IsVerdictOver F L one → IsVerdictOver F L other → one ≡ other
one_over F L (Fail a) (Fail b) p q = ap Fail (one_fail F a b p q)
one_over F L (Fail a) (Loose b) p q = absurd (q.0 a p.wrong)
one_over F L (Fail a) Pass p q = absurd (q.0 a p.wrong)
one_over F L (Loose a) (Fail b) p q = absurd (p.0 b q.wrong)
one_over F L (Loose a) (Loose b) p q = ap Loose (one_loose L a b p.1 q.1)
one_over F L (Loose a) Pass p q = absurd (q.1 a p.1.wrong)
one_over F L Pass (Fail b) p q = absurd (p.0 b q.wrong)
one_over F L Pass (Loose b) p q = absurd (p.1 b q.1.wrong)
one_over F L Pass Pass p q = refl

over : (tested : Role) (x : Evidence) (marks : Marks) (verdict : Verdict) → IsProtocolVerdictOn tested x marks verdict → IsVerdictOver (FailsProtocol tested x marks) (IsLooseByProtocol tested x marks) verdict
over tested x marks (Fail a) p = p
over tested x marks (Loose a) p = p
over tested x marks Pass p = p

tapped_over : (tested : Role) (is_first : Bool) (x : Evidence) (marks : Marks) (verdict : Verdict) → IsTappedVerdictOn tested is_first x marks verdict
    → IsVerdictOver (FailsTapped tested x marks) (IsLooseTapped tested is_first x marks) verdict
tapped_over tested is_first x marks (Fail a) p = p
tapped_over tested is_first x marks (Loose a) p = p
tapped_over tested is_first x marks Pass p = p

-- there is one evidence as it counts, with its marks
one_marked : EventLaws → (tested : Role) (transcript : Transcript) (x y : Evidence) (m n : Marks) → IsMarkedEvidenceOf tested transcript x m → IsMarkedEvidenceOf tested transcript y n → (y ≡ x) × (n ≡ m)
one_marked laws tested transcript x y m n p q =
    let shown = one_evidence laws tested transcript q.shown p.shown q.is_shown p.is_shown in
    let closed = one_closed tested transcript p.shown q.closed p.closed (subst (λ (e : Evidence). HasUndefinedCodeCounted tested transcript e q.closed) shown q.is_closed) p.is_closed in
    let doomed = one_counted tested transcript p.closed q.doomed p.doomed (subst (λ (e : Evidence). HasDoomCounted tested transcript e q.doomed) closed q.is_doomed) p.is_doomed in
    let counted = one_with_pongs laws tested transcript p.doomed y x (subst (λ (e : Evidence). HasPongsCounted tested transcript e y) doomed q.is_counted) p.is_counted in
    (counted, one_marks tested transcript n m q.are_marks p.are_marks)

pub one_protocol_verdict : EventLaws → (tested : Role) (transcript : Transcript) (one other : Verdict) → IsProtocolVerdictOf tested transcript one → IsProtocolVerdictOf tested transcript other → one ≡ other
one_protocol_verdict laws tested transcript one other p q =
    let same = one_marked laws tested transcript p.counted q.counted p.marks q.marks p.is_evidence q.is_evidence in
    one_over (FailsProtocol tested p.counted p.marks) (IsLooseByProtocol tested p.counted p.marks) one other (over tested p.counted p.marks one p.is_verdict) (over tested p.counted p.marks other
    (subst (λ (m : Marks). IsProtocolVerdictOn tested p.counted m other) same.1 (subst (λ (x : Evidence). IsProtocolVerdictOn tested x q.marks other) same.0 q.is_verdict)))

-- and of an end that was tapped
pub one_tapped : EventLaws → (tested : Role) (is_first : Bool) (transcript : Transcript) (one other : Verdict) → IsTappedVerdictOf tested is_first transcript one → IsTappedVerdictOf tested is_first transcript other → one ≡ other
one_tapped laws tested is_first transcript one other p q =
    let same = one_marked laws tested transcript p.counted q.counted p.marks q.marks p.is_evidence q.is_evidence in
    one_over (FailsTapped tested p.counted p.marks) (IsLooseTapped tested is_first p.counted p.marks) one other (tapped_over tested is_first p.counted p.marks one p.is_verdict)
    (tapped_over tested is_first p.counted p.marks other
    (subst (λ (m : Marks). IsTappedVerdictOn tested is_first p.counted m other) same.1 (subst (λ (x : Evidence). IsTappedVerdictOn tested is_first x q.marks other) same.0 q.is_verdict)))

-- by whatever is expected
pub one_verdict_by_all : EventLaws → (expected : Expectation) (tested : Role) (transcript : Transcript) (one other : Verdict) → IsVerdictBy expected tested transcript one
    → IsVerdictBy expected tested transcript other → one ≡ other
one_verdict_by_all laws Echo tested transcript one other p q = one_verdict_of laws tested transcript one other p q
one_verdict_by_all laws Protocol tested transcript one other p q = one_protocol_verdict laws tested transcript one other p q
