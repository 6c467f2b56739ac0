-- Whether the frames from a fault on hide it: frame after frame, as far as the message at fault isn't seen to end.
use Rattle.std.proofs.Common.{◌≡◌, ◌∙◌, ◌↔◌, ◌||◌, ℕ, Bool, true, false, List, [], ◌∷◌, ◌++◌, IsTrue, Option, None}
use Rattle.std.proofs.Common.{Some, if◌then◌else◌, ap, refl, subst, sym}
use Rattle.std.specs.List.{list_any}
use Rattle.ws_wire.specs.Frame.{IsWireFrame, WireFrame, wire_bytes}
use Rattle.ws_wire.specs.Stream.{BeginsNone, SplitsIntoAnyForm}
use Rattle.ws_session.specs.declared.reason.Reason.{Reason}
use Rattle.ws_session.specs.declared.reason.Reason.TheVariants.{NotText}
use Rattle.ws_suite.specs.InnerMarks.{message_end}
use Rattle.ws_suite.specs.Marks.{HideFault, begins_message, end_message, is_close_frame, is_last_fragment}
use Rattle.ws_suite.proofs.FrontFrames.{none_split, split_first}

-- ---- the first frame

-- the first frame and those behind it decide
pub first_hides : (reason : Reason) (bytes after rest : List ℕ) (x : WireFrame) (frames : List WireFrame) (b : Bool)
    → IsWireFrame x → bytes ≡ wire_bytes x ++ after → SplitsIntoAnyForm bytes frames rest
    → ((later : List WireFrame) → SplitsIntoAnyForm after later rest
    → IsTrue b ↔ ((reason ≡ NotText) × (x.header.fin ≡ false) × (end_message later ≡ false)
    × (list_any is_close_frame later ≡ false)))
    → IsTrue b ↔ HideFault reason frames
first_hides reason bytes after rest x frames b is parts s told =
    let (later, first, split) = split_first bytes after rest x frames is parts s in
    subst (λ (l : List WireFrame). IsTrue b ↔ HideFault reason l) (sym first) (told later split)

-- ---- those behind it

-- what a test says of the frames of all the bytes it says of those of what is left
abbrev pub IsDecidedBy : (List WireFrame → Bool) → List ℕ → List ℕ → Type 0
IsDecidedBy test left bytes = (frames : List WireFrame) (rest : List ℕ) → SplitsIntoAnyForm bytes frames rest
    → (later : List WireFrame) × SplitsIntoAnyForm left later rest × (test later ≡ test frames)

-- a frame that says nothing is passed
pub decided_behind : (test : List WireFrame → Bool) (bytes left after : List ℕ) (x : WireFrame) → IsWireFrame x
    → left ≡ wire_bytes x ++ after → ((later : List WireFrame) → test (x ∷ later) ≡ test later)
    → IsDecidedBy test left bytes → IsDecidedBy test after bytes
decided_behind test bytes left after x is parts passed so frames rest s =
    let (here, split, same) = so frames rest s in
    let (later, first, behind) = split_first left after rest x here is parts split in
    (later, behind, sym (passed later) ∙ (ap (λ (l : List WireFrame). test l) (sym first) ∙ same))

-- one that says it decides
pub found_end : (test : List WireFrame → Bool) (b : Bool) (bytes left after : List ℕ) (x : WireFrame) → IsWireFrame x
    → left ≡ wire_bytes x ++ after → ((later : List WireFrame) → test (x ∷ later) ≡ b) → IsDecidedBy test left bytes
    → (frames : List WireFrame) (rest : List ℕ) → SplitsIntoAnyForm bytes frames rest → test frames ≡ b
found_end test b bytes left after x is parts decides so frames rest s =
    let (here, split, same) = so frames rest s in
    let (later, first, behind) = split_first left after rest x here is parts split in
    sym same ∙ (ap (λ (l : List WireFrame). test l) first ∙ decides later)

-- where no frame is left it is as of none
pub found_none : (test : List WireFrame → Bool) (bytes left : List ℕ) → BeginsNone IsWireFrame wire_bytes left
    → IsDecidedBy test left bytes → (frames : List WireFrame) (rest : List ℕ) → SplitsIntoAnyForm bytes frames rest
    → test frames ≡ test []
found_none test bytes left none so frames rest s =
    let (here, split, same) = so frames rest s in
    sym same ∙ ap (λ (l : List WireFrame). test l) (none_split left rest here none split).0

-- ---- what a frame says of the message under way

said_so : (p q rest b : Bool) → (if p then Some true else (if q then Some false else None)) ≡ Some b
    → (if p then true else (if q then false else rest)) ≡ b
said_so true q rest b e = cc
said_so false true rest b e = cc
said_so false false rest b e = absurd cc

said_nothing : (p q rest : Bool) → (if p then Some true else (if q then Some false else None)) ≡ None
    → (if p then true else (if q then false else rest)) ≡ rest
said_nothing true q rest e = absurd cc
said_nothing false true rest e = absurd cc
said_nothing false false rest e = refl

pub ends_so : (x : WireFrame) (b : Bool) → message_end x ≡ Some b → (later : List WireFrame)
    → end_message (x ∷ later) ≡ b
ends_so x b e later = said_so (is_last_fragment x) (begins_message x) (end_message later) b e

pub ends_later : (x : WireFrame) → message_end x ≡ None → (later : List WireFrame)
    → end_message (x ∷ later) ≡ end_message later
ends_later x e later = said_nothing (is_last_fragment x) (begins_message x) (end_message later) e

-- ---- a close among them

pub closes_here : (x : WireFrame) → is_close_frame x ≡ true → (later : List WireFrame)
    → list_any is_close_frame (x ∷ later) ≡ true
closes_here x e later = ap (λ (b : Bool). b || list_any is_close_frame later) e

pub closes_later : (x : WireFrame) → is_close_frame x ≡ false → (later : List WireFrame)
    → list_any is_close_frame (x ∷ later) ≡ list_any is_close_frame later
closes_later x e later = ap (λ (b : Bool). b || list_any is_close_frame later) e
