-- What a pipe holds, behind each event of its direction.
use Rattle.std.proofs.Common.{◌≡◌, ℕ, ◌+◌, ◌^◌, ◌<◌, ◌≤◌, Bool, true, false, List, [], ◌∷◌, ◌++◌, length}
use Rattle.std.proofs.Common.{take, drop, refl, sym, ap, ◌∙◌, append-nil, append_assoc, arith, subst}
use Rattle.std.proofs.lemmas.List.{length-append, length-drop, take-append-drop, drop_all}
use Rattle.ws_tap.specs.declared.pipe.PipeStage.{PipeStage}
use Rattle.ws_tap.specs.declared.pipe.PipeStage.TheVariants as stage
use Rattle.ws_tap.specs.Told.{Passage, IsPassedOn}
use Rattle.ws_tap.specs.Piping.{PipeValue, IsPipeOf, is_passed, new_pipe, room_at, stage_of, wants_end_at}
use Rattle.ws_tap.specs.Piping.{with_direction_ended, with_end_come, with_piece, with_bytes_taken}

-- ---- what is wanted

pub no_room_where_held : (held : List ℕ) (at : PipeStage) (total : ℕ) → 0 < length held → 0 ≡ room_at held at total
no_room_where_held [] at total some = absurd (omega (arith, some))
no_room_where_held (byte ∷ held) at total some = refl

pub no_end_where_held : (held : List ℕ) (at : PipeStage) → 0 < length held → false ≡ wants_end_at held at
no_end_where_held [] at some = absurd (omega (arith, some))
no_end_where_held (byte ∷ held) at some = refl

-- as many bytes are held as came and were not taken
pub held_len : (taken : ℕ) (came held : List ℕ) → taken ≤ length came → held ≡ drop taken came
    → length held + taken ≡ length came
held_len taken came held le e = omega (arith, le, ap (λ (t : List ℕ). length t) e, length-drop taken came)

-- where bytes may come, nothing is held, the direction is open, and they can be counted
pub has_room : (held : List ℕ) (at : PipeStage) (total : ℕ) → 0 < room_at held at total
    → (held ≡ []) × (at ≡ stage.Open) × (room_at held at total ≤ 65536)
    × (total + room_at held at total < 2 ^ 64)
has_room [] stage.Open total some = (refl, refl, omega (arith, some), omega (arith, some))
has_room [] stage.Ended total some = absurd (omega (arith, some))
has_room [] stage.Passed total some = absurd (omega (arith, some))
has_room (byte ∷ held) at total some = absurd (omega (arith, some))

-- where the end of a direction is to be passed on, it has come, and nothing is held
pub end_is_due : (held : List ℕ) (at : PipeStage) → wants_end_at held at ≡ true → (held ≡ []) × (at ≡ stage.Ended)
end_is_due [] stage.Open wanted = absurd cc
end_is_due [] stage.Ended wanted = (refl, refl)
end_is_due [] stage.Passed wanted = absurd cc
end_is_due (byte ∷ held) at wanted = absurd cc

-- ---- how far a direction is

pub open_is : (ended passed : Bool) → stage.Open ≡ stage_of ended passed → ended ≡ false
open_is false passed e = refl
open_is true false e = absurd cc
open_is true true e = absurd cc

pub ended_is : (ended passed : Bool) → stage.Ended ≡ stage_of ended passed → (ended ≡ true) × (passed ≡ false)
ended_is false passed e = absurd cc
ended_is true false e = (refl, refl)
ended_is true true e = absurd cc

pub passed_is : (at : PipeStage) (ended passed : Bool) → at ≡ stage_of ended passed → is_passed at ≡ true
    → passed ≡ true
passed_is stage.Open ended passed e is = absurd cc
passed_is stage.Ended ended passed e is = absurd cc
passed_is stage.Passed false passed e is = absurd cc
passed_is stage.Passed true false e is = absurd cc
passed_is stage.Passed true true e is = refl

-- what never ended can't have been passed on
not_passed : (p : Passage) (held : List ℕ) → p.ended ≡ false → (p.passed ≡ true → (p.ended ≡ true) × (held ≡ []))
    → {P : Type 0} → p.passed ≡ true → P
not_passed p held going over {P} is = absurd (let e : true ≡ false = sym (over is).0 ∙ going in cc)

not_yet : (passed : Bool) → (passed ≡ true → stage.Ended ≡ stage_of true passed) → stage.Ended ≡ stage_of true passed
not_yet false other = refl
not_yet true other = other refl

none_left : (count : ℕ) (bytes : List ℕ) → bytes ≡ [] → drop count bytes ≡ []
none_left count bytes none = drop_all count bytes (omega (arith, ap (λ (t : List ℕ). length t) none))

-- ---- each event

pub pipe_is_new : (p : PipeValue) → p ≡ new_pipe → IsPipeOf p
    (record { came = []; ended = false; taken = []; passed = false })
pipe_is_new p e = subst (λ (x : PipeValue). IsPipeOf x (record {
  came = [];
  ended = false;
  taken = [];
  passed = false;
}))
    (sym e) (record { begins = refl; near = omega arith; count = refl; stage = refl; over = λ is. absurd cc })

pub pipe_came : (pipe : PipeValue) (p : Passage) (piece : List ℕ) → 0 < length piece
    → length piece ≤ room_at pipe.held pipe.stage pipe.total → IsPipeOf pipe p
    → IsPipeOf (with_piece pipe piece) (record p { came = p.came ++ piece })
pipe_came pipe p piece some fits s =
    let (none, is_open, most, counts) = has_room pipe.held pipe.stage pipe.total (omega (arith, some, fits)) in
    let going = open_is p.ended p.passed (sym is_open ∙ s.stage) in record {
      begins = ap (λ (t : List ℕ). t ++ piece) (s.begins ∙ ap (λ (t : List ℕ). p.taken ++ t) none
          ∙ append-nil p.taken);
      near = omega (arith, fits, most);
      count = omega (arith, s.count, length-append p.came piece);
      stage = s.stage;
      over = λ is. not_passed p pipe.held going s.over is;
    }

pub pipe_ended : (pipe : PipeValue) (p : Passage) → 0 < room_at pipe.held pipe.stage pipe.total → IsPipeOf pipe p
    → IsPipeOf (with_end_come pipe) (record p { ended = true })
pipe_ended pipe p some s =
    let (none, is_open, most, counts) = has_room pipe.held pipe.stage pipe.total some in
    let going = open_is p.ended p.passed (sym is_open ∙ s.stage) in record {
      begins = s.begins;
      near = s.near;
      count = s.count;
      stage = not_yet p.passed (λ is. not_passed p pipe.held going s.over is);
      over = λ is. not_passed p pipe.held going s.over is;
    }

pub pipe_took : (pipe : PipeValue) (p : Passage) (count : ℕ) → IsPipeOf pipe p
    → IsPipeOf (with_bytes_taken pipe count) (record p { taken = p.taken ++ take count pipe.held })
pipe_took pipe p count s = record {
  begins = s.begins ∙ ap (λ (t : List ℕ). p.taken ++ t) (sym (take-append-drop count pipe.held))
      ∙ sym (append_assoc p.taken (take count pipe.held) (drop count pipe.held));
  near = omega (arith, s.near, length-drop count pipe.held);
  count = s.count;
  stage = s.stage;
  over = λ is. ((s.over is).0, none_left count pipe.held (s.over is).1);
}

pub pipe_passed : (pipe : PipeValue) (p : Passage) → wants_end_at pipe.held pipe.stage ≡ true → IsPipeOf pipe p
    → IsPipeOf (with_direction_ended pipe) (record p { passed = true })
pipe_passed pipe p wanted s =
    let (none, is_ended) = end_is_due pipe.held pipe.stage wanted in
    let (ended, still) = ended_is p.ended p.passed (sym is_ended ∙ s.stage) in record {
      begins = s.begins;
      near = s.near;
      count = s.count;
      stage = sym (ap (λ (b : Bool). stage_of b true) ended);
      over = λ is. (ended, none);
    }

-- ---- what it says of the direction

pub is_passed_on : (pipe : PipeValue) (p : Passage) → IsPipeOf pipe p → IsPassedOn p
is_passed_on pipe p s = record { rest = pipe.held; begins = s.begins; near = s.near; over = s.over }
