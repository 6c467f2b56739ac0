-- No frame begins another, and whether one stands at the front can be told.
use Rattle.std.proofs.Common.{◌≡◌, ℕ, ◌+◌, ◌^◌, ◌<◌, ◌≤◌, ◌⊎◌, Bool, List, ◌++◌, length, take, drop, Option, refl, sym, ap, ◌∙◌, append_assoc, arith, inl, inr}
use Rattle.std.proofs.lemmas.Bool.{cases_lt, lt-ltb, le-ltb}
use Rattle.std.proofs.lemmas.List.{length-append, length-take-le, take-append-drop}
use Rattle.ws_wire.specs.declared.header.Form.{Form}
use Rattle.ws_wire.specs.declared.header.Form.TheVariants.{Short, Two, Eight}
use Rattle.ws_wire.specs.Header.{HeaderFields, CanHold, AreBytes, header_bytes, IsShortestForm, extra_bytes}
use Rattle.ws_wire.specs.Masking.{masked_payload}
use Rattle.ws_wire.specs.Frame.{WireFrame, IsWireFrame, wire_bytes, KeyedFrame, FitsTheLayout, sent_as, frame_bytes}
use Rattle.ws_wire.specs.Header.{shortest_form}
use Rattle.ws_wire.specs.Reading.{Begins, BeginsNoHeader}
use Rattle.ws_wire.specs.Stream.{BeginsNone}
use Rattle.ws_wire.proofs.Numbers.{front_bytes}
use Rattle.ws_wire.proofs.Headers.{same_header, same_fields, same_parts, header_or_none, header_parts}
use Rattle.ws_wire.proofs.Masks.{masked_payload_twice, length-masked_payload, same_masked_payload, masked_payload_bytes}
use Rattle.ws_wire.proofs.Splits.{NoneBegins, SomeFront, IsToldAtFront, rest_bytes}

-- ---- how long a frame is

-- a frame has the bytes of its header and as many as its payload
pub length-frame_bytes : (x : KeyedFrame) → length (frame_bytes x) ≡ length (header_bytes (sent_as x).header) + length x.frame.payload
length-frame_bytes x =
    let header = header_bytes (sent_as x).header in
    length-append header (masked_payload x.key x.frame.payload) ∙ ap (λ n. length header + n) (length-masked_payload x.key x.frame.payload)

-- ---- the shortest form

pub shortest_holds : (n : ℕ) → n < 2 ^ 64 → CanHold (shortest_form n) n
shortest_holds n lt =
    elim (cases_lt n 126) [
      | inl small ↦ rw (lt-ltb n 126 small) small
      | inr big ↦ rw (le-ltb n 126 big) (elim (cases_lt n 65536) [
        | inl two ↦ rw (lt-ltb n 65536 two) two
        | inr more ↦ rw (le-ltb n 65536 more) lt
      ])
    ]

least_form : (n : ℕ) (other : Form) → CanHold other n → extra_bytes (shortest_form n) ≤ extra_bytes other
least_form n Short h = rw (lt-ltb n 126 h) (omega arith)
least_form n Two h =
    elim (cases_lt n 126) [
      | inl small ↦ rw (lt-ltb n 126 small) (omega arith)
      | inr big ↦ rw (le-ltb n 126 big, lt-ltb n 65536 h) (omega arith)
    ]
least_form n Eight h =
    elim (cases_lt n 126) [
      | inl small ↦ rw (lt-ltb n 126 small) (omega arith)
      | inr big ↦ rw (le-ltb n 126 big) (elim (cases_lt n 65536) [
        | inl two ↦ rw (lt-ltb n 65536 two) (omega arith)
        | inr more ↦ rw (le-ltb n 65536 more) (omega arith)
      ])
    ]

pub shortest_is_least : (n : ℕ) → n < 2 ^ 64 → IsShortestForm (shortest_form n) n
shortest_is_least n lt = record { holds = shortest_holds n lt; least = least_form n }

same_form : (f g : Form) → extra_bytes f ≡ extra_bytes g → f ≡ g
same_form Short Short e = refl
same_form Short Two e = absurd (omega arith)
same_form Short Eight e = absurd (omega arith)
same_form Two Short e = absurd (omega arith)
same_form Two Two e = refl
same_form Two Eight e = absurd (omega arith)
same_form Eight Short e = absurd (omega arith)
same_form Eight Two e = absurd (omega arith)
same_form Eight Eight e = refl

holds_below : (f : Form) (n : ℕ) → CanHold f n → n < 2 ^ 64
holds_below Short n h = omega arith
holds_below Two n h = omega arith
holds_below Eight n h = h

-- there is one shortest form
pub shortest_is_one : (f : Form) (n : ℕ) → IsShortestForm f n → f ≡ shortest_form n
shortest_is_one f n is =
    let below : n < 2 ^ 64 = holds_below f n is.holds in
    let up : extra_bytes f ≤ extra_bytes (shortest_form n) = is.least (shortest_form n) (shortest_holds n below) in
    let down : extra_bytes (shortest_form n) ≤ extra_bytes f = least_form n f is.holds in
    same_form f (shortest_form n) (omega arith)

form_cases : (f g : Form) → (f ≡ g) ⊎ (f ≡ g → ⊥)
form_cases Short Short = inl refl
form_cases Short Two = inr (λ e. absurd cc)
form_cases Short Eight = inr (λ e. absurd cc)
form_cases Two Short = inr (λ e. absurd cc)
form_cases Two Two = inl refl
form_cases Two Eight = inr (λ e. absurd cc)
form_cases Eight Short = inr (λ e. absurd cc)
form_cases Eight Two = inr (λ e. absurd cc)
form_cases Eight Eight = inl refl

-- ---- frames in any form

make_wire : HeaderFields → List ℕ → WireFrame
make_wire header payload = record { header = header; payload = payload }

same_wire : (f g : WireFrame) → f.header ≡ g.header → f.payload ≡ g.payload → f ≡ g
unfolding make_wire
same_wire f g a b = let same : make_wire f.header f.payload ≡ make_wire g.header g.payload = cc in same

pub no_wire_begins : (f g : WireFrame) (x y : List ℕ) → IsWireFrame f → IsWireFrame g → wire_bytes f ++ x ≡ wire_bytes g ++ y → (f ≡ g) × (x ≡ y)
no_wire_begins f g x y cf cg e =
    let parts : header_bytes f.header ++ (masked_payload f.header.key f.payload ++ x) ≡ header_bytes g.header ++ (masked_payload g.header.key g.payload ++ y) =
    sym (append_assoc (header_bytes f.header) (masked_payload f.header.key f.payload) x) ∙ e ∙ append_assoc (header_bytes g.header) (masked_payload g.header.key g.payload) y in
    let s = same_header f.header g.header (masked_payload f.header.key f.payload ++ x) (masked_payload g.header.key g.payload ++ y) cf.header cg.header parts in
    let len : length f.payload ≡ length g.payload = cf.len ∙ ap (λ (h : HeaderFields). h.len) s.0 ∙ sym cg.len in
    let key : f.header.key ≡ g.header.key = ap (λ (h : HeaderFields). h.key) s.0 in
    let p = same_parts (masked_payload f.header.key f.payload) (masked_payload g.header.key g.payload) x y (length-masked_payload f.header.key f.payload ∙ len ∙ sym (length-masked_payload g.header.key g.payload)) s.1 in
    let payload : f.payload ≡ g.payload = same_masked_payload f.header.key f.payload g.payload (p.0 ∙ ap (λ (k : Option (List ℕ)). masked_payload k g.payload) (sym key)) in
    (same_wire f g s.0 payload, p.1)

pub wire_none_begins : NoneBegins IsWireFrame wire_bytes
wire_none_begins = record { same = no_wire_begins }

pub some_wire_bytes : (x : WireFrame) → 0 < length (wire_bytes x)
some_wire_bytes x = omega arith

-- a frame stands at the front where a header does and its payload follows
pub wire_here : (bytes : List ℕ) (h : HeaderFields) (used : ℕ) → Begins h used bytes → AreBytes bytes → h.len < 2 ^ 63 → h.len ≤ length (drop used bytes)
    → (x : WireFrame) × IsWireFrame x × (x.header ≡ h) × (x.payload ≡ masked_payload h.key (take h.len (drop used bytes))) × (bytes ≡ wire_bytes x ++ drop h.len (drop used bytes))
wire_here bytes h used b are small long =
    let rest = drop used bytes in
    let body = take h.len rest in
    let payload = masked_payload h.key body in
    let parts : bytes ≡ header_bytes h ++ rest = header_parts h used bytes b in
    let len : length payload ≡ h.len = length-masked_payload h.key body ∙ length-take-le h.len rest long in
    let are_rest : AreBytes rest = rest_bytes bytes (header_bytes h) rest parts are in (
      record { header = h; payload = payload },
      record { header = b.front.fields; payload = masked_payload_bytes h.key body b.front.fields.key (front_bytes h.len rest are_rest); len = len; small = small },
      refl,
      refl,
      parts ∙ ap (λ (t : List ℕ). header_bytes h ++ t) (sym (take-append-drop h.len rest) ∙ ap (λ (t : List ℕ). t ++ drop h.len rest) (sym (masked_payload_twice h.key body)))
          ∙ sym (append_assoc (header_bytes h) (masked_payload h.key payload) (drop h.len rest)),
    )

-- the header of a frame at the front is the header at the front
pub header_of_front : (bytes : List ℕ) (h : HeaderFields) (used : ℕ) → Begins h used bytes → (x : WireFrame) (more : List ℕ) → IsWireFrame x → bytes ≡ wire_bytes x ++ more
    → (h ≡ x.header) × (drop used bytes ≡ masked_payload x.header.key x.payload ++ more)
header_of_front bytes h used b x more is e =
    same_header h x.header (drop used bytes) (masked_payload x.header.key x.payload ++ more) b.front.fields is.header (sym (header_parts h used bytes b) ∙ e ∙ append_assoc (header_bytes x.header) (masked_payload x.header.key x.payload) more)

pub no_wire_without_header : (bytes : List ℕ) → BeginsNoHeader bytes → BeginsNone IsWireFrame wire_bytes bytes
no_wire_without_header bytes none x more is e = none x.header (header_bytes x.header) (masked_payload x.header.key x.payload ++ more) (record { fields = is.header; layout = refl }) (e ∙ append_assoc (header_bytes x.header) (masked_payload x.header.key x.payload) more)

pub no_wire_of_bad_length : (bytes : List ℕ) (h : HeaderFields) (used : ℕ) → Begins h used bytes → 2 ^ 63 ≤ h.len → BeginsNone IsWireFrame wire_bytes bytes
no_wire_of_bad_length bytes h used b big x more is e = omega (arith, ap (λ (g : HeaderFields). g.len) (header_of_front bytes h used b x more is e).0, is.small)

pub no_wire_of_cut_payload : (bytes : List ℕ) (h : HeaderFields) (used : ℕ) → Begins h used bytes → length (drop used bytes) < h.len → BeginsNone IsWireFrame wire_bytes bytes
no_wire_of_cut_payload bytes h used b short x more is e =
    let p = header_of_front bytes h used b x more is e in
    omega (arith, ap (λ (g : HeaderFields). g.len) p.0, ap (λ (t : List ℕ). length t) p.1, length-append (masked_payload x.header.key x.payload) more, length-masked_payload x.header.key x.payload, is.len)

tell_wire : (bytes : List ℕ) → AreBytes bytes → SomeFront IsWireFrame wire_bytes bytes ⊎ BeginsNone IsWireFrame wire_bytes bytes
tell_wire bytes are =
    elim (header_or_none bytes are) [
      | inr none ↦ inr (no_wire_without_header bytes none)
      | inl s ↦ elim (cases_lt s.fields.len (2 ^ 63)) [
        | inr big ↦ inr (no_wire_of_bad_length bytes s.fields s.used s.begins big)
        | inl small ↦ elim (cases_lt (length (drop s.used bytes)) s.fields.len) [
          | inl short ↦ inr (no_wire_of_cut_payload bytes s.fields s.used s.begins short)
          | inr long ↦ let f = wire_here bytes s.fields s.used s.begins are small long in
              inl (record { first = f.0; is_one = f.1; more = drop s.fields.len (drop s.used bytes); parts = f.4 })
        ]
      ]
    ]

pub wire_told : IsToldAtFront IsWireFrame wire_bytes
wire_told = record { tell = tell_wire; some = some_wire_bytes }

-- ---- frames as they are sent

pub sent_is_wire : (x : KeyedFrame) → FitsTheLayout x → IsWireFrame (sent_as x)
sent_is_wire x c = record {
  header = record { rsv = c.rsv; opcode = c.opcode; len = shortest_holds (length x.frame.payload) (omega (arith, c.len)); key = c.key };
  payload = c.payload;
  len = refl;
  small = c.len;
}

make_keyed : Bool → ℕ → ℕ → List ℕ → Option (List ℕ) → KeyedFrame
make_keyed fin rsv opcode payload key = record { frame = record { fin = fin; rsv = rsv; opcode = opcode; payload = payload }; key = key }

-- frames that are sent alike are one
same_sent : (f g : KeyedFrame) → sent_as f ≡ sent_as g → f ≡ g
unfolding make_keyed
same_sent f g e =
    let header = ap (λ (x : WireFrame). x.header) e in
    let fin : f.frame.fin ≡ g.frame.fin = ap (λ (h : HeaderFields). h.fin) header in
    let rsv : f.frame.rsv ≡ g.frame.rsv = ap (λ (h : HeaderFields). h.rsv) header in
    let opcode : f.frame.opcode ≡ g.frame.opcode = ap (λ (h : HeaderFields). h.opcode) header in
    let key : f.key ≡ g.key = ap (λ (h : HeaderFields). h.key) header in
    let payload : f.frame.payload ≡ g.frame.payload = ap (λ (x : WireFrame). x.payload) e in
    let same : make_keyed f.frame.fin f.frame.rsv f.frame.opcode f.frame.payload f.key ≡ make_keyed g.frame.fin g.frame.rsv g.frame.opcode g.frame.payload g.key = cc in
    same

pub no_frame_begins : (f g : KeyedFrame) (x y : List ℕ) → FitsTheLayout f → FitsTheLayout g → frame_bytes f ++ x ≡ frame_bytes g ++ y → (f ≡ g) × (x ≡ y)
no_frame_begins f g x y cf cg e = let s = no_wire_begins (sent_as f) (sent_as g) x y (sent_is_wire f cf) (sent_is_wire g cg) e in (same_sent f g s.0, s.1)

pub none_begins : NoneBegins FitsTheLayout frame_bytes
none_begins = record { same = no_frame_begins }

-- a frame on the wire in the shortest form is one that was sent
keyed_of : WireFrame → KeyedFrame
keyed_of x = record { frame = record { fin = x.header.fin; rsv = x.header.rsv; opcode = x.header.opcode; payload = x.payload }; key = x.header.key }

sent_as-keyed_of : (x : WireFrame) → IsWireFrame x → x.header.form ≡ shortest_form x.header.len → sent_as (keyed_of x) ≡ x
unfolding keyed_of
sent_as-keyed_of x is e =
    let form : shortest_form (length x.payload) ≡ x.header.form = ap (λ n. shortest_form n) is.len ∙ sym e in
    let header = same_fields (sent_as (keyed_of x)).header x.header refl refl refl refl is.len form in
    same_wire (sent_as (keyed_of x)) x header refl

keyed_can_be_sent : (x : WireFrame) → IsWireFrame x → FitsTheLayout (keyed_of x)
unfolding keyed_of
keyed_can_be_sent x is = record { rsv = is.header.rsv; opcode = is.header.opcode; key = is.header.key; payload = is.payload; len = rw is.len is.small }

tell_frame : (bytes : List ℕ) → AreBytes bytes → SomeFront FitsTheLayout frame_bytes bytes ⊎ BeginsNone FitsTheLayout frame_bytes bytes
tell_frame bytes are =
    elim (tell_wire bytes are) [
      | inr none ↦ inr (λ x more can e. none (sent_as x) more (sent_is_wire x can) e)
      | inl s ↦ elim (form_cases s.first.header.form (shortest_form s.first.header.len)) [
        | inl e ↦ inl (record {
          first = keyed_of s.first;
          is_one = keyed_can_be_sent s.first s.is_one;
          more = s.more;
          parts = s.parts ∙ ap (λ (x : WireFrame). wire_bytes x ++ s.more) (sym (sent_as-keyed_of s.first s.is_one e));
        })
        | inr n ↦ inr (λ x more can e.
            let p = no_wire_begins s.first (sent_as x) s.more more s.is_one (sent_is_wire x can) (sym s.parts ∙ e) in
            n (ap (λ (f : WireFrame). f.header.form) p.0 ∙ ap (λ (f : WireFrame). shortest_form f.header.len) (sym p.0)))
      ]
    ]

pub frame_told : IsToldAtFront FitsTheLayout frame_bytes
frame_told = record { tell = tell_frame; some = λ x. some_wire_bytes (sent_as x) }
