-- Whether bytes are right controls alone: the first frame and those behind it decide, and at the end a part of one.
use Rattle.std.proofs.Common.{◌≡◌, ◌↔◌, ◌≤◌, ◌-◌, ◌%◌, nat_le, ℕ, Bool, IsTrue, List, [], ◌∷◌, ◌++◌, arith, drop}
use Rattle.std.proofs.Common.{get_or, length, subst, take}
use Rattle.std.proofs.lemmas.List.{take_all}
use Rattle.std.specs.Int.{IsInRange}
use Rattle.std.specs.List.{AllByRecursion}
use Rattle.ws_wire.specs.declared.role.Role.{Role}
use Rattle.ws_wire.specs.Frame.{IsWireFrame, WireFrame, wire_bytes}
use Rattle.ws_wire.specs.Stream.{BeginsNone}
use Rattle.ws_session.specs.Faults.{expects_key}
use Rattle.ws_suite.specs.Marks.{AreControls, IsCutControl, IsPartOfClose, IsRightControl, payload_so_far}
use Rattle.ws_suite.proofs.FrontFrames.{none_split, split_before, split_first, split_none}

first_right : (role : Role) (bytes after : List ℕ) (x : WireFrame) → IsWireFrame x → bytes ≡ wire_bytes x ++ after
    → AreControls role bytes → IsRightControl role x × AreControls role after
first_right role bytes after x is parts h =
    let (later, first, split) = split_first bytes after h.rest x h.frames is parts h.split in
    let (right, others) = subst (λ (l : List WireFrame). AllByRecursion (IsRightControl role) l) first h.right in
    (right, record { frames = later; rest = h.rest; split = split; right = others; cut = h.cut })

-- a wrong frame at the front
pub wrong_first : (role : Role) (bytes after : List ℕ) (x : WireFrame) → IsWireFrame x → bytes ≡ wire_bytes x ++ after
    → (IsRightControl role x → ⊥) → AreControls role bytes → ⊥
wrong_first role bytes after x is parts wrong h = wrong (first_right role bytes after x is parts h).0

-- a right one
pub right_first : (role : Role) (bytes after : List ℕ) (x : WireFrame) → IsWireFrame x → bytes ≡ wire_bytes x ++ after
    → IsRightControl role x → AreControls role after ↔ AreControls role bytes
right_first role bytes after x is parts right = (
  λ h. record {
    frames = x ∷ h.frames;
    rest = h.rest;
    split = split_before bytes after h.rest x h.frames is parts h.split;
    right = (right, h.right);
    cut = h.cut;
  },
  λ h. (first_right role bytes after x is parts h).1,
)

-- none: then the bytes are what is cut
pub none_first : (role : Role) (bytes : List ℕ) → BeginsNone IsWireFrame wire_bytes bytes
    → IsCutControl role bytes ↔ AreControls role bytes
none_first role bytes none = (
  λ cut. record { frames = []; rest = bytes; split = split_none bytes none; right = tt; cut = cut },
  λ h. subst (λ (l : List ℕ). IsCutControl role l) (none_split bytes h.rest h.frames none h.split).1 h.cut,
)

-- a part of a frame that has its first two bytes
pub cut_by_more : (role : Role) (rest : List ℕ) (b : Bool) → 2 ≤ length rest → IsInRange 0x88 0x8a (get_or rest 0 0)
    → (IsTrue b ↔ ((nat_le 128 (get_or rest 1 0) ≡ expects_key role) × (get_or rest 1 0 % 128 ≤ 125)
    × (get_or rest 0 0 ≡ 0x88
    → IsPartOfClose (payload_so_far role (take (length rest - 2) (drop 2 rest))) (get_or rest 1 0 % 128))))
    → IsTrue b ↔ IsCutControl role rest
cut_by_more role [] b some begins told = absurd (omega arith)
cut_by_more role (first ∷ []) b some begins told = absurd (omega arith)
cut_by_more role (first ∷ second ∷ more) b some begins told =
    let whole : take (length (first ∷ second ∷ more) - 2) more ≡ more =
    take_all (length (first ∷ second ∷ more) - 2) more (omega arith) in
    let so = subst (λ (l : List ℕ). IsTrue b ↔ ((nat_le 128 second ≡ expects_key role) × (second % 128 ≤ 125)
    × (first ≡ 0x88 → IsPartOfClose (payload_so_far role l) (second % 128)))) whole told in
    (λ e. let t = so.0 e in (begins, t.0, t.1, t.2), λ h. so.1 (h.1, h.2, h.3))
