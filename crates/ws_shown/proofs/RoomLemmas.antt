-- Lines that wait in a room, from call to call.
use Rattle.std.proofs.Common.{◌≡◌, ◌∙◌, ◌+◌, ◌<◌, ◌^◌, ℕ, Bool, true, false, List, [], ◌∷◌, ◌++◌, None, Option, Some, ap, append-nil}
use Rattle.std.proofs.Common.{append_assoc, arith, length, length-append, nat_eq, refl, subst, sym}
use Rattle.std.proofs.lemmas.Grind.{flat_map-append}
use Rattle.std.specs.Io.KnownBytes.{Appends}
use Rattle.std.specs.Global.{Box}
use Rattle.std.specs.List.{flat_map}
use Rattle.std.proofs.Common.{Err, IfOk, Ok, Result}
use Rattle.std.proofs.lemmas.Bool.Decides.{nat_tests}
use Rattle.ws_base.specs.declared.memory.NoMemory.{NoMemory}
use Rattle.ws_scripts.specs.declared.transcript.Ended.{Ended}
use Rattle.ws_scripts.specs.declared.transcript.Turn.{Turn}
use Rattle.ws_lines.specs.Telling.{begun_turn, with_got}
use Rattle.ws_lines.specs.TurnLines.{HasTurnLines}
use Rattle.ws_lines.specs.declared.transcript_lines.Showing.{Showing}
use Rattle.ws_shown.specs.LineRooms.{AreInTurn, AreLinesBehind, AreMadeOf, AreSound, EndsLines, HaveTold, KeepsTurn}
use Rattle.ws_shown.specs.LineRooms.{TakesTurn}
use Rattle.ws_shown.specs.MarkedLines.{AreCounted, BeginsMarked, EndsMarked, GetsMarked, HasRoomToBegin, HasRoomToGet}
use Rattle.ws_shown.specs.MarkedLines.{HasToldMarked, IsOpenToEnd, showing_with}
use Rattle.ws_shown.specs.declared.line_room.LineParts.{LineParts}
use Rattle.ws_shown.specs.declared.marked_lines.MarkedLines.{MarkedLines}
use Rattle.ws_shown.specs.declared.places.Places.{Places}

-- how long one direction is with one turn more
one_longer : (bytes : Turn → List ℕ) (turns : List Turn) (turn : Turn)
    → length (flat_map bytes (turns ++ turn ∷ [])) ≡ length (flat_map bytes turns) + length (bytes turn)
one_longer bytes turns turn =
    ap (λ (l : List ℕ). length l) (flat_map-append bytes turns (turn ∷ [])
    ∙ ap (λ (l : List ℕ). flat_map bytes turns ++ l) (append-nil (bytes turn)))
    ∙ length-append (flat_map bytes turns) (bytes turn)

-- what a room holds then
appended : (a b : Option (List ℕ)) (x y more : List ℕ) → a ≡ Some x → b ≡ Some y → Appends a b more → y ≡ x ++ more
appended a b x y more ea eb h = subst (λ (o : Option (List ℕ)). Appends (Some x) o more) eb
    (subst (λ (o : Option (List ℕ)). Appends o b more) ea h)

waits : (taken x y more : List ℕ) → y ≡ x ++ more → (taken ++ x) ++ more ≡ taken ++ y
waits taken x y more e = append_assoc taken x more ∙ ap (λ (l : List ℕ). taken ++ l) (sym e)

-- ---- room for what comes

pub room_to_begin : (showing : Showing) (parts : LineParts) (lines : MarkedLines) (count : ℕ)
    → AreMadeOf showing parts.lines lines → AreSound showing parts → parts.places.turns + 1 < 2 ^ 64
    → parts.places.sent + count < 2 ^ 64 → HasRoomToBegin count lines
room_to_begin showing parts lines count made (turns, taken, h) t s =
    let one = h.counted.turn_count in let all = h.counted.sent_bytes in (
      showing,
      turns,
      taken ++ parts.bytes.items,
      made turns (taken ++ parts.bytes.items) h.told,
      omega (arith, s, all),
      omega (arith, t, one),
    )

pub room_to_get : (showing : Showing) (parts : LineParts) (lines : MarkedLines) (count : ℕ)
    → AreMadeOf showing parts.lines lines → AreInTurn showing parts → parts.places.got + count < 2 ^ 64
    → HasRoomToGet count lines
room_to_get showing parts lines count made (turns, turn, taken, h) g =
    let all = h.counted.got_bytes in (
      showing,
      turns ++ turn ∷ [],
      taken ++ parts.bytes.items,
      made (turns ++ turn ∷ []) (taken ++ parts.bytes.items) h.told,
      omega (arith, g, all),
    )

pub open_to_end : (showing : Showing) (parts : LineParts) (lines : MarkedLines) → AreMadeOf showing parts.lines lines
    → AreSound showing parts → IsOpenToEnd lines
open_to_end showing parts lines made (turns, taken, h) =
    (showing, turns, taken ++ parts.bytes.items, made turns (taken ++ parts.bytes.items) h.told)

-- ---- lines that were made

-- those that stand there are these
pub made_at : (showing : Showing) (old : Option (Box MarkedLines)) (made at : MarkedLines) → at ≡ made
    → AreMadeOf showing old made → AreMadeOf showing old at
made_at showing old made at same h = subst (λ (m : MarkedLines). AreMadeOf showing old m) (sym same) h

-- where there were none, what is made has told nothing, as none have
none_made : (showing : Showing) (made : MarkedLines) → HasToldMarked showing made [] []
    → AreMadeOf showing None made
none_made showing made fresh turns written none =
    subst (λ (l : List Turn). HasToldMarked showing made l written) (sym none.0)
    (subst (λ (l : List ℕ). HasToldMarked showing made [] l) (sym none.1) fresh)

pub first_of : (showing : Showing) (old : Option (Box MarkedLines)) (result : Result (Box MarkedLines) NoMemory)
    → old ≡ None → IfOk result (λ made. HasToldMarked showing made.value [] [])
    → IfOk result (λ made. AreMadeOf showing old made.value)
first_of showing old (Ok made) none fresh =
    subst (λ (o : Option (Box MarkedLines)). AreMadeOf showing o made.value) (sym none)
    (none_made showing made.value fresh)
first_of showing old (Err refused) none fresh = tt

-- ---- what is told

-- a turn more
pub turn_waits : (showing : Showing) (old new : LineParts) (from to : MarkedLines) (turns : List Turn)
    (sent taken : List ℕ) (works : Bool) (a b : Option (List ℕ)) → AreMadeOf showing old.lines from
    → ((l : List Turn) (written : List ℕ) → HasToldMarked showing to l written → HaveTold showing new.lines l written)
    → a ≡ Some old.bytes.items → b ≡ Some new.bytes.items
    → BeginsMarked from to sent (record { failed = works; old = a; new = b })
    → new.places.turns ≡ old.places.turns + 1 → new.places.sent ≡ old.places.sent + length sent
    → new.places.got ≡ old.places.got → AreLinesBehind showing old turns taken
    → AreLinesBehind showing new (turns ++ begun_turn sent ∷ []) taken
turn_waits showing old new from to turns sent taken works a b made holds ea eb tells t s g h =
    let (more, wrote, fine, told) = tells showing turns (taken ++ old.bytes.items)
    (made turns (taken ++ old.bytes.items) h.told) in
    let turn : Turn = begun_turn sent in
    record {
      told = holds (turns ++ turn ∷ []) (taken ++ new.bytes.items)
          (subst (λ (l : List ℕ). HasToldMarked showing to (turns ++ turn ∷ []) l)
          (waits taken old.bytes.items new.bytes.items more
          (appended a b old.bytes.items new.bytes.items more ea eb wrote)) told);
      counted = record {
        turn_count = omega (arith, t, h.counted.turn_count, length-append turns (turn ∷ []));
        sent_bytes = omega (arith, s, h.counted.sent_bytes, one_longer (λ (x : Turn). x.sent) turns turn);
        got_bytes = omega (arith, g, h.counted.got_bytes, one_longer (λ (x : Turn). x.got) turns turn);
      };
    }

-- more bytes in the last turn
pub got_waits : (showing : Showing) (old new : LineParts) (from to : MarkedLines) (turns : List Turn) (turn : Turn)
    (piece taken : List ℕ) (works : Bool) (a b : Option (List ℕ)) → AreMadeOf showing old.lines from
    → ((l : List Turn) (written : List ℕ) → HasToldMarked showing to l written → HaveTold showing new.lines l written)
    → a ≡ Some old.bytes.items → b ≡ Some new.bytes.items
    → GetsMarked from to piece (record { failed = works; old = a; new = b })
    → new.places.turns ≡ old.places.turns → new.places.sent ≡ old.places.sent
    → new.places.got ≡ old.places.got + length piece → AreLinesBehind showing old (turns ++ turn ∷ []) taken
    → AreLinesBehind showing new (turns ++ with_got turn piece ∷ []) taken
got_waits showing old new from to turns turn piece taken works a b made holds ea eb tells t s g h =
    let (more, wrote, fine, told) = tells showing turns turn (taken ++ old.bytes.items)
    (made (turns ++ turn ∷ []) (taken ++ old.bytes.items) h.told) in
    let next : Turn = with_got turn piece in
    record {
      told = holds (turns ++ next ∷ []) (taken ++ new.bytes.items)
          (subst (λ (l : List ℕ). HasToldMarked showing to (turns ++ next ∷ []) l)
          (waits taken old.bytes.items new.bytes.items more
          (appended a b old.bytes.items new.bytes.items more ea eb wrote)) told);
      counted = record {
        turn_count = omega (arith, t, h.counted.turn_count, length-append turns (turn ∷ []), length-append turns (next ∷ []));
        sent_bytes = omega (
          arith,
          s,
          h.counted.sent_bytes,
          one_longer (λ (x : Turn). x.sent) turns turn,
          one_longer (λ (x : Turn). x.sent) turns next,
        );
        got_bytes = omega (
          arith,
          g,
          h.counted.got_bytes,
          one_longer (λ (x : Turn). x.got) turns turn,
          one_longer (λ (x : Turn). x.got) turns next,
          length-append turn.got piece,
        );
      };
    }

-- the last lines
pub last_waits : (showing : Showing) (parts : LineParts) (from : MarkedLines) (ended : Ended) (last : List ℕ)
    (works : Bool) (a b : Option (List ℕ)) → AreMadeOf showing parts.lines from
    → a ≡ Some parts.bytes.items → b ≡ Some last
    → EndsMarked from ended (record { failed = works; old = a; new = b }) (Ok tt)
    → EndsLines showing parts ended last
last_waits showing parts from ended last works a b made ea eb ends turns taken h =
    let end = ends showing turns (taken ++ parts.bytes.items) (made turns (taken ++ parts.bytes.items) h.told) in (
      end.marked,
      end.are_marked,
      subst (λ (l : List ℕ). HasTurnLines (showing_with showing end.marked) (record { turns = turns; ended = ended })
          l) (waits taken parts.bytes.items last end.rest.last
          (appended a b parts.bytes.items last end.rest.last ea eb end.rest.writes.0)) end.rest.all,
    )

-- those that waited were taken
pub cleared : (showing : Showing) (old new : LineParts) (turns : List Turn) (taken : List ℕ) → new.lines ≡ old.lines
    → new.places ≡ old.places → new.bytes.items ≡ [] → AreLinesBehind showing old turns taken
    → AreLinesBehind showing new turns (taken ++ old.bytes.items)
cleared showing old new turns taken same counts none h = record {
  told = subst (λ (l : List ℕ). HaveTold showing new.lines turns l)
      (sym (ap (λ (l : List ℕ). (taken ++ old.bytes.items) ++ l) none ∙ append-nil (taken ++ old.bytes.items)))
      (subst (λ (m : Option (Box MarkedLines)). HaveTold showing m turns (taken ++ old.bytes.items)) (sym same) h.told);
  counted = subst (λ (p : Places). AreCounted p turns) (sym counts) h.counted;
}

pub still_sound : (showing : Showing) (old new : LineParts) → new.lines ≡ old.lines → new.places ≡ old.places
    → new.bytes.items ≡ [] → AreSound showing old → AreSound showing new
still_sound showing old new same counts none (turns, taken, h) =
    (turns, taken ++ old.bytes.items, cleared showing old new turns taken same counts none h)

-- where nothing was told, it is sound
pub sound_new : (showing : Showing) (made at : LineParts) → at ≡ made → ((shown : Showing) → AreSound shown made)
    → AreSound showing at
sound_new showing made at same sound = subst (λ (p : LineParts). AreSound showing p) (sym same) (sound showing)

-- ---- a turn that has begun

abbrev HasLast : List Turn → Type 0
HasLast turns = (front : List Turn) × (last : Turn) × (turns ≡ front ++ last ∷ [])

last_behind : (turn : Turn) (turns : List Turn) → HasLast turns → HasLast (turn ∷ turns)
last_behind turn turns (front, last, is) = (turn ∷ front, last, ap (λ (l : List Turn). turn ∷ l) is)

last_turn : (turn : Turn) (turns : List Turn) → HasLast (turn ∷ turns)
last_turn turn [] = ([], turn, refl)
last_turn turn (next ∷ turns) = last_behind turn (next ∷ turns) (last_turn next turns)

pub some_in_turn : (showing : Showing) (parts : LineParts) → nat_eq parts.places.turns 0 ≡ false
    → AreSound showing parts → AreInTurn showing parts
some_in_turn showing parts some (turns, taken, h) = pick turns refl
  where
    of : HasLast turns → AreInTurn showing parts
    of (front, last, is) =
        (front, last, taken, subst (λ (l : List Turn). AreLinesBehind showing parts l taken) is h)

    pick : (l : List Turn) → turns ≡ l → AreInTurn showing parts
    pick [] e = absurd (let told : 0 < parts.places.turns = grind (arith, nat_tests) in
        omega (arith, told, h.counted.turn_count, ap (λ (l : List Turn). length l) e))
    pick (turn ∷ l) e = of (subst (λ (x : List Turn). HasLast x) (sym e) (last_turn turn l))

-- where none was told, there was none
none_in_turn : (showing : Showing) (parts : LineParts) (turns : List Turn) (turn : Turn)
    (taken : List ℕ) → nat_eq parts.places.turns 0 ≡ true → AreLinesBehind showing parts (turns ++ turn ∷ []) taken → ⊥
none_in_turn showing parts turns turn taken none h =
    let zero : parts.places.turns ≡ 0 = grind (arith, nat_tests) in
    omega (arith, zero, h.counted.turn_count, length-append turns (turn ∷ []))

pub keeps_no_turn : (showing : Showing) (parts : LineParts) (made : Result LineParts NoMemory)
    → nat_eq parts.places.turns 0 ≡ true → IfOk made (λ new. KeepsTurn showing parts new)
keeps_no_turn showing parts (Ok new) none =
    λ turns turn taken h. absurd (none_in_turn showing parts turns turn taken none h)
keeps_no_turn showing parts (Err refused) none = tt

pub begins_in_turn : (showing : Showing) (old : LineParts) (sent : List ℕ) (made : Result LineParts NoMemory)
    → AreSound showing old → IfOk made (λ new. TakesTurn showing old new sent)
    → IfOk made (λ new. AreInTurn showing new)
begins_in_turn showing old sent (Ok new) (turns, taken, h) takes =
    (turns, begun_turn sent, taken, takes turns taken h)
begins_in_turn showing old sent (Err refused) sound takes = takes
