-- From the answer to a head at the front to what is said of the bytes.
use Rattle.std.proofs.Common.{arith, ℕ, ◌≡◌, ◌≤◌, List, [], ◌∷◌, length, ap, sym, subst, ◌∙◌, ◌++◌, take, drop, length-append, length-take, inl, inr}
use Rattle.std.specs.Prelude.{⊤}
use Rattle.std.proofs.lemmas.List.{length-map}
use Rattle.httparse.specs.Grammar.{Field, print_request, print_response}
use Rattle.httparse.specs.Spans.{AreFieldsAt, header_bytes, name_and_value}
use Rattle.httparse.specs.declared.spans.HeaderSpan.{HeaderSpan}
use Rattle.ws_upgrade.specs.Heads.{HeadRules, IsFirstBroken, request_parts, request_rules, response_parts, response_rules}
use Rattle.ws_upgrade.specs.Reading.{head_part, HeadKind, HeadRead, Need, Got, Refused, ChecksHead, IsHeadRead, HoldsHead, request_heads, response_heads}
use Rattle.ws_upgrade.specs.declared.faults.HeadFault.{HeadFault}
use Rattle.ws_upgrade.specs.declared.faults.HeadFault.TheVariants as fault

-- a head has no more fields than headers that cover them
pub few_fields : (buf : List ℕ) (headers : List HeaderSpan) (count : ℕ) (fields : List Field) → AreFieldsAt buf headers count fields
    → length headers ≡ 64 → length fields ≤ 64
few_fields buf headers count fields at n =
    let covered = take count headers in
    let same : length covered ≡ length fields =
    sym (length-map covered (header_bytes buf)) ∙ ap length at ∙ length-map fields name_and_value in
    omega (arith, same, n, length-take count headers)

-- the fault is that of no rule
Lacks : HeadFault → HeadRules → Type 0
Lacks other [] = ⊤
Lacks other (rule ∷ others) = ¬ (other ≡ rule.0) × Lacks other others

no_refusal : (rules : HeadRules) (other : HeadFault) → Lacks other rules → IsFirstBroken rules other → ⊥
unfolding Lacks
no_refusal [] other lacks refusal = refusal
no_refusal (rule ∷ others) other lacks refusal =
    elim refusal [
      | inl here ↦ lacks.0 here.0
      | inr later ↦ no_refusal others other lacks.1 later.1
    ]

-- what holds of a kind of heads: its rules have refusals of their own, and a head at the front is among the bytes
pub record IsSound {Head Opened : Type 0} (kind : HeadKind Head Opened) : Type 0 where
  pub not_head : (head : Head) → kind.IsRefusal head fault.Head → ⊥
  pub not_large : (head : Head) → kind.IsRefusal head fault.TooLarge → ⊥
  pub within : (bytes : List ℕ) (head : Head) (len : ℕ) → kind.Begins bytes head len → len ≤ length bytes

-- the answer to a head at the front
pub answered : {Head Opened : Type 0} (kind : HeadKind Head Opened) (sound : IsSound kind) (bytes : List ℕ) (head : Head) (len : ℕ)
    (answer : HeadRead Opened) → kind.Begins (head_part bytes) head len → ChecksHead kind head len answer → IsHeadRead kind bytes answer
answered kind sound bytes head len Need begins answers = absurd answers
answered kind sound bytes head len (Got opened used) begins answers =
    (head, subst (λ (n : ℕ). kind.Begins (head_part bytes) head n) (sym answers.0) begins, answers.1)
answered kind sound bytes head len (Refused fault.Head) begins answers = absurd (sound.not_head head answers)
answered kind sound bytes head len (Refused fault.TooLarge) begins answers = absurd (sound.not_large head answers)
answered kind sound bytes head len (Refused other) begins answers = (head, len, begins, answers)

-- a head that is accepted is among the bytes
pub among : {Head Opened : Type 0} (kind : HeadKind Head Opened) (sound : IsSound kind) (bytes : List ℕ)
    (answer : HeadRead Opened) → IsHeadRead kind bytes answer → HoldsHead bytes answer
among kind sound bytes Need read = tt
among kind sound bytes (Got opened used) (head, begins, opens) =
    omega (arith, sound.within (head_part bytes) head used begins, length-take 8192 bytes)
among kind sound bytes (Refused other) read = tt

-- some bytes and a rest are no fewer than the former
front_within : (bytes front : List ℕ) (len : ℕ) → bytes ≡ front ++ drop len bytes → len ≡ length front → len ≤ length bytes
front_within bytes front len whole same = omega (arith, same, ap length whole ∙ length-append front (drop len bytes))

pub requests_sound : (known : List (List ℕ)) → IsSound (request_heads known)
unfolding Lacks
requests_sound known = record {
  not_head = λ head. no_refusal (request_rules (request_parts head)) fault.Head ((λ e. cc), ((λ e. cc), ((λ e. cc), ((λ e. cc), ((λ e. cc), ((λ e. cc), ((λ e. cc), tt)))))));
  not_large = λ head. no_refusal (request_rules (request_parts head)) fault.TooLarge ((λ e. cc), ((λ e. cc), ((λ e. cc), ((λ e. cc), ((λ e. cc), ((λ e. cc), ((λ e. cc), tt)))))));
  within = λ bytes head len begins. front_within bytes (print_request head) len begins.reads.1 begins.whole;
}

pub responses_sound : (nonce : List ℕ) (offers : List (List ℕ)) → IsSound (response_heads nonce offers)
unfolding Lacks
responses_sound nonce offers = record {
  not_head = λ head. no_refusal (response_rules nonce offers (response_parts head)) fault.Head ((λ e. cc), ((λ e. cc), ((λ e. cc), ((λ e. cc), ((λ e. cc), ((λ e. cc), ((λ e. cc), tt)))))));
  not_large = λ head. no_refusal (response_rules nonce offers (response_parts head)) fault.TooLarge ((λ e. cc), ((λ e. cc), ((λ e. cc), ((λ e. cc), ((λ e. cc), ((λ e. cc), ((λ e. cc), tt)))))));
  within = λ bytes head len begins. front_within bytes (print_response head) len begins.reads.1 begins.whole;
}
