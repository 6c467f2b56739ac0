-- The bytes of an assembly.
use Rattle.std.proofs.Common.{◌≡◌, ℕ, ◌+◌, List, ◌++◌, length, take, drop, Option, Some, None, refl, sym, ap, ◌∙◌}
use Rattle.std.proofs.Math.Seq.{take-append-add}
use Rattle.std.proofs.lemmas.List.{take-append-drop, length-take-le}
use Rattle.ws_session.specs.declared.message.Kind.{Kind}
use Rattle.ws_session.specs.declared.message.Message.{Message}
use Rattle.ws_session.specs.Faults.{open_payload}
use Rattle.ws_session.specs.InnerReceiving.{AssemblyValue, message_of_first, HasFirst, IsJoined, frame_payload, first_bytes}

abbrev pub make_value : Option Message → List ℕ → Option (List ℕ) → AssemblyValue
make_value opened payload text = record { opened = opened; payload = payload; text = text }

-- so many of the bytes are the open message's
pub first_len : (kind : Option Kind) (before : ℕ) (payload : List ℕ) → HasFirst kind before payload → before ≡ length (open_payload (message_of_first kind before payload))
first_len None before payload h = h.none refl
first_len (Some kind) before payload h = sym (length-take-le before payload h.within)

first_joined : (kind : Option Kind) (before : ℕ) (payload : List ℕ) → HasFirst kind before payload → open_payload (message_of_first kind before payload) ++ drop before payload ≡ payload
first_joined None before payload h = ap (λ n. drop n payload) (h.none refl)
first_joined (Some kind) before payload h = take-append-drop before payload

pub joined_by : (a : AssemblyValue) (kind : Option Kind) (before : ℕ) (payload : List ℕ) → HasFirst kind before payload → a.opened ≡ message_of_first kind before payload → a.payload ≡ payload → IsJoined a
joined_by a kind before payload h opened same =
    let len : length (open_payload a.opened) ≡ before = ap (λ (m : Option Message). length (open_payload m)) opened ∙ sym (first_len kind before payload h) in
    ap (λ (m : Option Message). open_payload m ++ frame_payload a) opened ∙ ap (λ (l : List ℕ). open_payload (message_of_first kind before payload) ++ drop (length (open_payload a.opened)) l) same
    ∙ ap (λ n. open_payload (message_of_first kind before payload) ++ drop n payload) len ∙ first_joined kind before payload h ∙ sym same

-- a front of the payload that holds the open message
pub first_is : (a : AssemblyValue) (n : ℕ) → IsJoined a → open_payload a.opened ++ take n (frame_payload a) ≡ first_bytes a n
first_is a n j = sym (take-append-add (open_payload a.opened) (frame_payload a) n) ∙ ap (λ (l : List ℕ). take (length (open_payload a.opened) + n) l) j

-- the same of the fields
pub first_by : (a : AssemblyValue) (kind : Option Kind) (before : ℕ) (payload : List ℕ) (text : Option (List ℕ)) (came : ℕ) → HasFirst kind before payload → make_value (message_of_first kind before payload) payload text ≡ a → take (before + came) payload ≡ first_bytes a came
first_by a kind before payload text came h e = ap (λ n. take (n + came) payload) (first_len kind before payload h) ∙ ap (λ (x : AssemblyValue). first_bytes x came) e
