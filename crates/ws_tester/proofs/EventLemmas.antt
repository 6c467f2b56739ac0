-- What may be told a run that wants it, and what an event lowers.
use Rattle.std.proofs.Common.{◌≡◌, ◌∙◌, ℕ, ◌<◌, ◌&&◌, ◌||◌, not, Bool, true, false, if◌then◌else◌, List, []}
use Rattle.std.proofs.Common.{◌≤◌, drop, length, min, refl, sym, ap, arith, subst}
use Rattle.std.proofs.lemmas.List.{take-append-drop}
use Rattle.std.specs.Prelude.{Option, None, Some, is_some}
use Rattle.ws_scripts.specs.declared.transcript.Ended.{Ended}
use Rattle.ws_machines.specs.Machines.{MayBeTold, told_at}
use Rattle.ws_machines.specs.declared.stream.StreamEvent.{StreamEvent}
use Rattle.ws_machines.specs.declared.stream.StreamEvent.TheVariants as event
use Rattle.ws_tester.specs.Outgoings.{first_piece}
use Rattle.ws_tester.specs.RunStates.{RunState, max_read, wanted_in, wants_own_end}
use Rattle.ws_tester.specs.Following.{MayBeRead, MayHappen}

-- ---- what may be told

not_ended : (o : Option Ended) → is_some o ≡ false → o ≡ None
not_ended None e = refl
not_ended (Some how) e = absurd cc

-- a run that isn't done has not ended
pub goes : (x : RunState) → is_some x.ended ≡ false → x.ended ≡ None
goes x e = not_ended x.ended e

-- the bytes of the piece, where it has not ended
pub piece_of : (x : RunState) → x.ended ≡ None → (wanted_in x).write ≡ first_piece x.outgoing.rest
piece_of x e = ap (λ (o : Option Ended). if is_some o then [] else first_piece x.outgoing.rest) e

-- what may be read is no more than is left, and nothing while the own direction is to be ended
room_fits : (ended : Option Ended) (own : Bool) (allowance len : ℕ)
    → len ≤ (if is_some ended || own then 0 else min allowance max_read) → len ≤ allowance
room_fits None true allowance len fits = omega (arith, fits)
room_fits None false allowance len fits = omega (arith, fits)
room_fits (Some how) own allowance len fits = omega (arith, fits)

one_read : (ended : Option Ended) (own : Bool) (allowance len : ℕ)
    → len ≤ (if is_some ended || own then 0 else min allowance max_read) → len ≤ max_read
one_read None true allowance len fits = omega (arith, fits)
one_read None false allowance len fits = omega (arith, fits)
one_read (Some how) own allowance len fits = omega (arith, fits)

is_read : (ended : Option Ended) (own : Bool) (allowance : ℕ)
    → 0 < (if is_some ended || own then 0 else min allowance max_read) → own ≡ false
is_read None true allowance some = absurd (let wrong : 0 < 0 = some in omega arith)
is_read None false allowance some = refl
is_read (Some how) own allowance some = absurd (let wrong : 0 < 0 = some in omega arith)

reads : (x : RunState) → 0 < (wanted_in x).room → MayBeRead x
reads x some = is_read x.ended (wants_own_end x) x.allowance some

pub closes : (ended : Option Ended) (closing half sent : Bool)
    → (not (is_some ended) && (closing && (not half && sent))) ≡ true → closing ≡ true
closes None true half sent e = refl
closes None false half sent e = absurd cc
closes (Some how) closing half sent e = absurd cc

-- what a machine is told that wants this may happen to the run
pub may_happen : (x : RunState) (ev : StreamEvent) → MayBeTold (wanted_in x) ev → MayHappen x (told_at (wanted_in x) ev)
may_happen x (event.Came piece) (undone, (some, fits)) = (
  reads x (omega (arith, some, fits)),
  (
    room_fits x.ended (wants_own_end x) x.allowance (length piece.now) fits,
    one_read x.ended (wants_own_end x) x.allowance (length piece.now) fits,
  ),
)
may_happen x event.Ended (undone, some) = reads x some
may_happen x event.ReadFailed (undone, some) = reads x some
may_happen x event.NothingCame (undone, (some, none)) = reads x some
may_happen x (event.Taken count) (undone, (some, fits)) = (
  drop count (wanted_in x).write,
  sym (piece_of x (goes x undone)) ∙ sym (take-append-drop count (wanted_in x).write),
)
may_happen x event.WriteFailed may = tt
may_happen x event.DirectionEnded (undone, wants) = wants
may_happen x event.Reported may = tt
may_happen x (event.DeadlinePassed waited) may = tt

-- what is taken is no more than the piece
pub taken_fits : (x : RunState) (count : ℕ) → is_some x.ended ≡ false → count ≤ length (wanted_in x).write
    → count ≤ length (first_piece x.outgoing.rest)
taken_fits x count undone fits = subst (λ (l : List ℕ). count ≤ length l) (piece_of x (goes x undone)) fits

-- what comes is no more than may be read
pub came_fits : (x : RunState) (len : ℕ) → is_some x.ended ≡ false → len ≤ (wanted_in x).room → len ≤ x.allowance
came_fits x len undone fits = room_fits x.ended (wants_own_end x) x.allowance len fits
