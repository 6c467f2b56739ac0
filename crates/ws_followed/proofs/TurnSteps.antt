-- One segment more of a connection: what it adds to its turns.
use Rattle.std.proofs.Common.{◌≡◌, ◌∙◌, ◌<◌, ◌-◌, ◌&&◌, ℕ, Bool, true, false, if◌then◌else◌, List, [], ◌∷◌, ◌++◌, ap, append_assoc}
use Rattle.std.proofs.Common.{arith, drop, length, refl, sym}
use Rattle.std.proofs.lemmas.List.{length-drop}
use Rattle.std.specs.Prelude.{IfOk, Result, Ok, Err}
use Rattle.ws_base.specs.declared.memory.NoMemory.{NoMemory}
use Rattle.ws_scripts.specs.declared.transcript.Turn.{Turn}
use Rattle.ws_scripts.specs.Scripts.{has_any}
use Rattle.ws_followed.specs.declared.segment.Node.{Node}
use Rattle.ws_followed.specs.declared.segment.Segment.{Segment}
use Rattle.ws_followed.specs.declared.turns.OpenTurns.{OpenTurns}
use Rattle.ws_followed.specs.Turns.{all_turns_with, is_node, made_turn, turns_on}

-- what it was sent begins a turn
abbrev pub begun_with : OpenTurns → List ℕ → OpenTurns
begun_with turns bytes = record {
  done = turns.done ++ made_turn turns.sent turns.got ∷ [];
  sent = drop turns.to_end bytes;
  got = [];
  to_end = turns.to_end - length bytes;
  from_end = turns.from_end;
}

pub sent_begins : (judged : Node) (turns : OpenTurns) (segment : Segment) → is_node judged segment.node ≡ false
    → (has_any turns.got && has_any (drop turns.to_end segment.bytes)) ≡ true → (more : List Segment)
    → all_turns_with judged (begun_with turns segment.bytes) more ≡ all_turns_with judged turns (segment ∷ more)
sent_begins judged turns segment e f more =
    let first = made_turn turns.sent turns.got in
    let later = turns_on judged (turns.to_end - length segment.bytes) turns.from_end (drop turns.to_end segment.bytes) []
    more in
    append_assoc turns.done (first ∷ []) later ∙ rw (e, f) refl

-- ---- whether there are bytes

some_any : (bytes : List ℕ) → 0 < length bytes → has_any bytes ≡ true
some_any [] some = absurd (omega arith)
some_any (byte ∷ bytes) some = refl

both_by : (a b : Bool) → a ≡ true → b ≡ true → (a && b) ≡ true
both_by true true e f = refl
both_by true false e f = absurd cc
both_by false b e f = absurd cc

size_behind : (n : ℕ) (bytes : List ℕ) → length (drop n bytes) ≡ length bytes - n
size_behind n bytes = length-drop n bytes

-- a turn begins where something came from the end, and more than the head goes to it
pub begins_here : (got bytes : List ℕ) (left : ℕ) → 0 < length got → left < length bytes
    → (has_any got && has_any (drop left bytes)) ≡ true
begins_here got bytes left some more =
    both_by (has_any got) (has_any (drop left bytes)) (some_any got some)
    (some_any (drop left bytes) (omega (arith, size_behind left bytes, more)))

pub begun_ok : (judged : Node) (turns : OpenTurns) (segment : Segment) → is_node judged segment.node ≡ false
    → 0 < length turns.got → turns.to_end < length segment.bytes → (result : Result OpenTurns NoMemory)
    → IfOk result (λ longer. longer ≡ begun_with turns segment.bytes)
    → IfOk result (λ longer. (more : List Segment) →
    all_turns_with judged longer more ≡ all_turns_with judged turns (segment ∷ more))
begun_ok judged turns segment e some left (Ok longer) made = λ more.
    ap (λ (l : OpenTurns). all_turns_with judged l more) made
    ∙ sent_begins judged turns segment e (begins_here turns.got segment.bytes turns.to_end some left) more
begun_ok judged turns segment e some left (Err fault) made = tt

-- ---- all segments

-- behind all segments the turns are those of all of them
pub all_ok : (judged : Node) (turns : OpenTurns) (wanted : List Turn) → all_turns_with judged turns [] ≡ wanted
    → (result : Result (List Turn) NoMemory)
    → IfOk result (λ all. all ≡ turns.done ++ made_turn turns.sent turns.got ∷ []) → IfOk result (λ all. all ≡ wanted)
all_ok judged turns wanted e (Ok all) made = made ∙ e
all_ok judged turns wanted e (Err fault) made = tt
