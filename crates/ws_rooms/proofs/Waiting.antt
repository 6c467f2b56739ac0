-- Bytes that are written from a room: what was written and what waits are together what was due.
use Rattle.std.proofs.Common.{◌≡◌, ◌∙◌, ◌||◌, ℕ, List, [], ◌++◌, Bool, false, true, Option, Result, Ok, Err, IsErrAnd, OnOk, OnErr, is_err, ap, sym, refl, subst, append_assoc, append-nil}
use Rattle.std.proofs.KnownBytes.{Appends-trans}
use Rattle.std.specs.Io.KnownBytes.{Appends}
use Rattle.ws_frame.specs.Devices.{Device, HasBegun, HasWritten}
use Rattle.ws_frame.specs.Streaming.{WritesAll}
use Rattle.ws_frame.specs.Watching.{AppendsFront}
use Rattle.ws_frame.specs.declared.writing_whole.WriteFault.{WriteFault}
use Rattle.ws_rooms.specs.Rooms.{WritesAndKeeps}

abbrev pub device : Bool → Option (List ℕ) → Option (List ℕ) → Device
device failed old new = record { failed = failed; old = old; new = new }

-- ---- one call behind another

-- what was written and waits after the first call, of what was due
abbrev pub Stands : List ℕ → List ℕ → Option (List ℕ) → Option (List ℕ) → Type 0
Stands due waiting old mid = (written : List ℕ) × Appends old mid written × (due ≡ written ++ waiting)

pub begun_more : (due more all : List ℕ) (old new : Option (List ℕ)) → all ≡ due ++ more → AppendsFront old new due
    → AppendsFront old new all
begun_more due more all old new e (front, rest, f, wrote) =
    (front, rest ++ more, e ∙ (ap (λ (l : List ℕ). l ++ more) f ∙ append_assoc front rest more), wrote)

pub begun_behind : (due waiting more all : List ℕ) (old mid new : Option (List ℕ)) → Stands due waiting old mid
    → all ≡ due ++ more → AppendsFront mid new (waiting ++ more) → AppendsFront old new all
begun_behind due waiting more all old mid new (written, wrote, e) f (front, rest, g, later) = (
  written ++ front,
  rest,
  f
      ∙ (ap (λ (l : List ℕ). l ++ more) e
      ∙ (append_assoc written waiting more
      ∙ (ap (λ (l : List ℕ). written ++ l) g ∙ sym (append_assoc written front rest)))),
  Appends-trans old mid new written front wrote later,
)

pub stands_behind : (due waiting more all left : List ℕ) (old mid new : Option (List ℕ)) → Stands due waiting old mid
    → all ≡ due ++ more → Stands (waiting ++ more) left mid new → Stands all left old new
stands_behind due waiting more all left old mid new (written, wrote, e) f (next, later, g) = (
  written ++ next,
  Appends-trans old mid new written next wrote later,
  f
      ∙ (ap (λ (l : List ℕ). l ++ more) e
      ∙ (append_assoc written waiting more
      ∙ (ap (λ (l : List ℕ). written ++ l) g ∙ sym (append_assoc written next left)))),
)

-- ---- what calls answer

-- a call that failed, passed on
pub stops : {T : Type 0} (due left : List ℕ) (failed : Bool) (old new : Option (List ℕ)) (r : Result T WriteFault)
    (cause : WriteFault) → IsErrAnd r (λ y. y ≡ cause) → AppendsFront old new due → failed ≡ true
    → WritesAndKeeps due left (device failed old new) r
stops due left failed old new (Ok value) cause is begun e = absurd is
stops due left failed old new (Err fault) cause is begun e = (begun, e)

-- the last call of two
pub some_behind : {T : Type 0} (due waiting more all left : List ℕ) (failed : Bool) (old mid new : Option (List ℕ))
    (r : Result T WriteFault) → Stands due waiting old mid → all ≡ due ++ more
    → WritesAndKeeps (waiting ++ more) left (device failed mid new) r → WritesAndKeeps all left (device failed old new) r
some_behind due waiting more all left failed old mid new (Ok value) first e (written, wrote, works, f) =
    let (both, wrote_both, g) = stands_behind due waiting more all left old mid new first e (written, wrote, f) in
    (both, wrote_both, works, g)
some_behind due waiting more all left failed old mid new (Err fault) first e (begun, f) =
    (begun_behind due waiting more all old mid new first e begun, f)

pub both_behind : (due waiting more all left : List ℕ) (failed : Bool) (old mid new : Option (List ℕ))
    → Stands due waiting old mid → all ≡ due ++ more
    → ((written : List ℕ) × Appends mid new written × (failed ≡ false) × (waiting ++ more ≡ written ++ left))
    → (written : List ℕ) × Appends old new written × (failed ≡ false) × (all ≡ written ++ left)
both_behind due waiting more all left failed old mid new first e (written, wrote, works, f) =
    let (both, wrote_both, g) = stands_behind due waiting more all left old mid new first e (written, wrote, f) in
    (both, wrote_both, works, g)

-- what was written and waits, of a call that went well
pub stands : (due waiting : List ℕ) (failed : Bool) (old mid : Option (List ℕ))
    → ((written : List ℕ) × Appends old mid written × (failed ≡ false) × (due ≡ written ++ waiting))
    → Stands due waiting old mid
stands due waiting failed old mid (written, wrote, works, e) = (written, wrote, e)

-- bytes that were written whole behind an empty room
pub whole_behind : (due waiting bytes : List ℕ) (works failed : Bool) (old mid new : Option (List ℕ))
    (r : Result (Unit {0}) WriteFault) → Stands due waiting old mid → waiting ≡ []
    → OnOk r (HasWritten bytes (device failed mid new)) → OnErr r (HasBegun bytes (device failed mid new))
    → failed ≡ (works || is_err r) → works ≡ false
    → WritesAndKeeps (due ++ bytes) waiting (device failed old new) r
whole_behind due waiting bytes works failed old mid new (Ok value) first empty wrote begun e f =
    let both = stands_behind due waiting bytes (due ++ bytes) waiting old mid new first refl
    (bytes, wrote, ap (λ (l : List ℕ). l ++ bytes) empty ∙ sym (ap (λ (l : List ℕ). bytes ++ l) empty ∙ append-nil bytes)) in
    (both.0, both.1, e ∙ ap (λ (b : Bool). b || false) f, both.2)
whole_behind due waiting bytes works failed old mid new (Err fault) first empty wrote begun e f = (
  begun_behind due waiting bytes (due ++ bytes) old mid new first refl
      (subst (λ (l : List ℕ). AppendsFront mid new l) (ap (λ (l : List ℕ). l ++ bytes) (sym empty)) begun),
  e ∙ ap (λ (b : Bool). b || true) f,
)

-- ---- all that is due

-- the bytes that wait are written
pub all_written : (due waiting left : List ℕ) (failed : Bool) (old mid new : Option (List ℕ))
    (r : Result (Unit {0}) WriteFault) → Stands due waiting old mid → WritesAndKeeps waiting left (device failed mid new) r
    → OnOk r (left ≡ []) → WritesAll due (device failed old new) r
all_written due waiting left failed old mid new (Ok value) (written, wrote, e) (next, later, works, f) empty =
    let more : waiting ≡ next = f ∙ (ap (λ (l : List ℕ). next ++ l) empty ∙ append-nil next) in (
      subst (Appends old new) (sym (e ∙ ap (λ (l : List ℕ). written ++ l) more))
          (Appends-trans old mid new written next wrote later),
      works,
    )
all_written due waiting left failed old mid new (Err fault) first (begun, e) empty = (
  begun_behind due waiting [] due old mid new first (sym (append-nil due))
      (subst (AppendsFront mid new) (sym (append-nil waiting)) begun),
  e,
)

-- a call that failed, of which all is told
pub stops_all : (due : List ℕ) (failed : Bool) (old new : Option (List ℕ)) (r : Result (Unit {0}) WriteFault)
    (cause : WriteFault) → IsErrAnd r (λ y. y ≡ cause) → AppendsFront old new due → failed ≡ true
    → WritesAll due (device failed old new) r
stops_all due failed old new (Ok value) cause is begun e = absurd is
stops_all due failed old new (Err fault) cause is begun e = (begun, e)

pub writes_same : (bytes others : List ℕ) (output : Device) (r : Result (Unit {0}) WriteFault) → bytes ≡ others
    → WritesAll bytes output r → WritesAll others output r
writes_same bytes others output r e h = subst (λ (l : List ℕ). WritesAll l output r) e h

pub writes_whole : (bytes : List ℕ) (works failed : Bool) (old new : Option (List ℕ))
    (r : Result (Unit {0}) WriteFault) → OnOk r (HasWritten bytes (device failed old new))
    → OnErr r (HasBegun bytes (device failed old new)) → failed ≡ (works || is_err r) → works ≡ false
    → WritesAll bytes (device failed old new) r
writes_whole bytes works failed old new (Ok value) wrote begun e f = (wrote, e ∙ ap (λ (b : Bool). b || false) f)
writes_whole bytes works failed old new (Err fault) wrote begun e f = (begun, e ∙ ap (λ (b : Bool). b || true) f)
