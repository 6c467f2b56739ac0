-- Inside the crate: when scripts and transcripts are equal, for their `==`. A reader may skip this file.
use Rattle.std.specs.Prelude.{ℕ, Bool, if◌then◌else◌, List, [], ◌∷◌, string_bytes, nat_eq}
use Rattle.std.specs.Ordering.{eq_of_both, on}
use Rattle.std.specs.Str.{bytes_eq}
use Rattle.std.specs.Cmp.{IsEquivalence}
use Rattle.std.proofs.lemmas.Cmp.{and_equiv, lists_equiv, nat_eq_equiv, nat_list_eq_equiv, on_equiv}
use lib.Pointwise.{pointwise}
use Rattle.ws_scripts.specs.declared.script.Step.{Step}
use Rattle.ws_scripts.specs.declared.script.Step.TheVariants.{Frame, Raw, Wait}
use Rattle.ws_scripts.specs.declared.script.Case.{Case}
use Rattle.ws_scripts.specs.declared.script.Chop.{Chop}
use Rattle.ws_scripts.specs.declared.script.Chop.TheVariants.{Whole, PerFrame, Octets}
use Rattle.ws_scripts.specs.declared.transcript.Transcript.{Transcript}
use Rattle.ws_scripts.specs.declared.transcript.Turn.{Turn}
use Rattle.ws_scripts.specs.declared.transcript.Ended.{Ended}
use Rattle.ws_scripts.specs.declared.transcript.Ended.TheVariants.{Tester, Peer, Broken}

-- numbers that tell the steps apart
abbrev pub step_code : Step → List ℕ
step_code (Frame fin rsv opcode payload) = 0 ∷ (if fin then 1 else 0) ∷ rsv ∷ opcode ∷ payload
step_code (Raw bytes) = 1 ∷ bytes
step_code Wait = 2 ∷ []

abbrev pub step_eq : Step → Step → Bool
step_eq = on step_code bytes_eq

abbrev pub chop_code : Chop → List ℕ
chop_code Whole = 0 ∷ []
chop_code PerFrame = 1 ∷ []
chop_code (Octets n) = 2 ∷ n ∷ []

abbrev pub turn_eq : Turn → Turn → Bool
turn_eq = eq_of_both (on (λ (turn : Turn). turn.sent) bytes_eq) (on (λ (turn : Turn). turn.got) bytes_eq)

abbrev pub ended_code : Ended → ℕ
ended_code Tester = 0
ended_code Peer = 1
ended_code Broken = 2

abbrev pub case_eq : Case → Case → Bool
case_eq = eq_of_both (on (λ (c : Case). string_bytes c.id) bytes_eq)
    (eq_of_both (on (λ (c : Case). c.steps) (pointwise step_eq)) (on (λ (c : Case). chop_code c.chop) bytes_eq))

abbrev pub transcript_eq : Transcript → Transcript → Bool
transcript_eq = eq_of_both (on (λ (t : Transcript). t.turns) (pointwise turn_eq))
    (on (λ (t : Transcript). ended_code t.ended) nat_eq)

-- each is an equality
pub case_eq_equiv : IsEquivalence case_eq
case_eq_equiv =
    and_equiv (on_equiv (λ (c : Case). string_bytes c.id) nat_list_eq_equiv)
    (and_equiv (on_equiv (λ (c : Case). c.steps) (lists_equiv (on_equiv step_code nat_list_eq_equiv)))
    (on_equiv (λ (c : Case). chop_code c.chop) nat_list_eq_equiv))

pub transcript_eq_equiv : IsEquivalence transcript_eq
transcript_eq_equiv =
    and_equiv (on_equiv (λ (t : Transcript). t.turns)
    (lists_equiv (and_equiv (on_equiv (λ (turn : Turn). turn.sent) nat_list_eq_equiv)
    (on_equiv (λ (turn : Turn). turn.got) nat_list_eq_equiv))))
    (on_equiv (λ (t : Transcript). ended_code t.ended) nat_eq_equiv)
