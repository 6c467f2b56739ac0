-- What has a close or a fault keeps it, whatever step comes after it.
use Rattle.std.proofs.Common.{◌≡◌, ◌∙◌, ℕ, zero, suc, ◌<◌, ◌^◌, Bool, true, false, List, [], ◌∷◌, ◌++◌, ◌&&◌, nat_lt}
use Rattle.std.proofs.Common.{refl, sym, ap, subst, arith, append_assoc, append-nil, get_or, length, Option, Some}
use Rattle.std.proofs.lemmas.Bool.Decides.{nat_tests}
use Rattle.std.proofs.lemmas.Grind.{flat_map-append}
use Rattle.std.proofs.lemmas.List.{map-append, same_from_push}
use Rattle.std.proofs.lemmas.Option.{unwrap_or-slice_get}
use Rattle.std.specs.List.{AllByRecursion, flat_map, list_all, onto_first}
use Rattle.ws_wire.specs.declared.role.Role.{Role}
use Rattle.ws_wire.specs.declared.role.Role.TheVariants.{Client, Server}
use Rattle.ws_wire.specs.Header.{AreBytes, IsMaskingKey, header_bytes}
use Rattle.ws_wire.specs.Frame.{FitsTheLayout, IsWireFrame, KeyedFrame, WireFrame, sent_as, wire_bytes}
use Rattle.ws_wire.specs.Masking.{masked_payload}
use Rattle.ws_wire.proofs.Frames.{sent_is_wire}
use Rattle.ws_wire.proofs.Masks.{masked_payload_bytes}
use Rattle.ws_session.specs.declared.event.Event.{Event}
use Rattle.ws_session.specs.Events.{HasEvents}
use Rattle.ws_session.specs.Exchange.{last_event}
use Rattle.ws_session.specs.Sends.{most_limits}
use Rattle.ws_session.proofs.ByteLists.{bytes_append}
use Rattle.ws_session.proofs.LeastHeaders.{header_are_bytes}
use Rattle.ws_scripts.specs.declared.script.Step.{Step}
use Rattle.ws_scripts.specs.declared.script.Step.TheVariants.{Frame, Raw, Wait}
use Rattle.ws_scripts.specs.Scripts.{step_bytes, turn_bytes, turns_of}
use Rattle.ws_sweep.specs.Alphabet.{AlphabetStep, alphabet, no_step, step_at}
use Rattle.ws_sweep.specs.InnerLaws.{EndLaws}
use Rattle.ws_sweep.specs.ShortCases.{HasEnd, IsCloseOrFault, bytes_sent, short_steps}

-- ---- bytes with an end, and more bytes

-- the last event, where there is one, and those before it
record LastOf (events : List Event) : Type 0 where
  pub before : List Event
  pub last : Event
  pub parts : events ≡ before ++ last ∷ []
  pub ends : IsCloseOrFault (Some last)

last_of : (events : List Event) → IsCloseOrFault (last_event events) → LastOf events
last_of [] ends = absurd ends
last_of (e ∷ []) ends = record { before = []; last = e; parts = refl; ends = ends }
last_of (e ∷ f ∷ events) ends =
    let of_rest = last_of (f ∷ events) ends in record {
      before = e ∷ of_rest.before;
      last = of_rest.last;
      parts = ap (λ (l : List Event). e ∷ l) of_rest.parts;
      ends = of_rest.ends;
    }

behind : (before later : List Event) (last : Event) → (before ++ last ∷ []) ++ later ≡ before ++ last ∷ later
behind [] later last = refl
behind (e ∷ before) later last = ap (λ (l : List Event). e ∷ l) (behind before later last)

end_with_more : EndLaws → (tested : Role) (bytes more : List ℕ) → AreBytes (bytes ++ more) → HasEnd tested bytes
    → HasEnd tested (bytes ++ more)
end_with_more laws tested bytes more are end =
    let all = laws.some tested most_limits (bytes ++ more) are in
    let goes = laws.go_on tested most_limits bytes more end.events all.0 end.are_events all.1 in
    let last = last_of end.events end.ends in
    let parts : all.0 ≡ last.before ++ last.last ∷ goes.0 =
    goes.1 ∙ (ap (λ (l : List Event). l ++ goes.0) last.parts ∙ behind last.before goes.0 last.last) in
    let none = laws.end_last tested most_limits (bytes ++ more) last.before goes.0 last.last last.ends
    (subst (λ (l : List Event). HasEvents tested most_limits (bytes ++ more) l) parts all.1) in
    let same : all.0 ≡ end.events =
    parts ∙ (ap (λ (l : List Event). last.before ++ last.last ∷ l) none ∙ sym last.parts) in record {
      events = end.events;
      are_events = subst (λ (l : List Event). HasEvents tested most_limits (bytes ++ more) l) same all.1;
      ends = end.ends;
    }

-- ---- what steps send is bytes

are_bytes : List ℕ → Bool
are_bytes bytes = list_all (λ (byte : ℕ). nat_lt byte 256) bytes

is_sound : Step → Bool
is_sound (Frame fin rsv opcode payload) =
    (nat_lt rsv 8 && nat_lt opcode 16) && (nat_lt (length payload) (2 ^ 63) && are_bytes payload)
is_sound (Raw bytes) = are_bytes bytes
is_sound Wait = true

both_are : (x y : Bool) → (x && y) ≡ true → (x ≡ true) × (y ≡ true)
both_are true y e = (refl, e)
both_are false y e = absurd cc

less_by : (m n : ℕ) → nat_lt m n ≡ true → m < n
less_by m n h = grind (arith, nat_tests)

bytes_by : (bytes : List ℕ) → are_bytes bytes ≡ true → AreBytes bytes
unfolding are_bytes
bytes_by [] e i = omega arith
bytes_by (byte ∷ bytes) e zero = less_by byte 256 (both_are (nat_lt byte 256) (are_bytes bytes) e).0
bytes_by (byte ∷ bytes) e (suc i) = bytes_by bytes (both_are (nat_lt byte 256) (are_bytes bytes) e).1 i

wire_are_bytes : (x : WireFrame) → IsWireFrame x → AreBytes (wire_bytes x)
wire_are_bytes x is = bytes_append (header_bytes x.header) (masked_payload x.header.key x.payload)
    (header_are_bytes x.header is.header) (masked_payload_bytes x.header.key x.payload is.header.key is.payload)

step_are_bytes : (key : Option (List ℕ)) → IsMaskingKey key → (step : Step) → is_sound step ≡ true
    → AreBytes (step_bytes key step)
unfolding is_sound
step_are_bytes key is_key (Frame fin rsv opcode payload) e =
    let parts = both_are (nat_lt rsv 8 && nat_lt opcode 16)
    (nat_lt (length payload) (2 ^ 63) && are_bytes payload) e in
    let bits = both_are (nat_lt rsv 8) (nat_lt opcode 16) parts.0 in
    let sized = both_are (nat_lt (length payload) (2 ^ 63)) (are_bytes payload) parts.1 in
    let x : KeyedFrame = record {
      frame = record { fin = fin; rsv = rsv; opcode = opcode; payload = payload };
      key = key;
    } in
    let fits : FitsTheLayout x = record {
      rsv = less_by rsv 8 bits.0;
      opcode = less_by opcode 16 bits.1;
      key = is_key;
      payload = bytes_by payload sized.1;
      len = less_by (length payload) (2 ^ 63) sized.0;
    } in
    wire_are_bytes (sent_as x) (sent_is_wire x fits)
step_are_bytes key is_key (Raw bytes) e = bytes_by bytes e
step_are_bytes key is_key Wait e = λ i. omega arith

-- a step of the alphabet, or of no row
abbrev IsSoundRow : AlphabetStep → Type 0
IsSoundRow row = is_sound row.step ≡ true

rows_are_sound : (rows : List AlphabetStep) → list_all (λ (row : AlphabetStep). is_sound row.step) rows ≡ true
    → AllByRecursion IsSoundRow rows
rows_are_sound [] e = tt
rows_are_sound (row ∷ rows) e =
    let both = both_are (is_sound row.step) (list_all (λ (r : AlphabetStep). is_sound r.step) rows) e in
    (both.0, rows_are_sound rows both.1)

alphabet_is_sound : (tested : Role) → AllByRecursion IsSoundRow (alphabet tested)
unfolding is_sound are_bytes
alphabet_is_sound Server = rows_are_sound (alphabet Server) refl
alphabet_is_sound Client = rows_are_sound (alphabet Client) refl

sound_row_at : (rows : List AlphabetStep) (place : ℕ) → AllByRecursion IsSoundRow rows
    → IsSoundRow (get_or rows place no_step)
unfolding is_sound
sound_row_at [] place all = refl
sound_row_at (row ∷ rows) zero all = all.0
sound_row_at (row ∷ rows) (suc place) all = sound_row_at rows place all.1

step_is_sound : (tested : Role) (place : ℕ) → IsSoundRow (step_at tested place)
step_is_sound tested place =
    subst IsSoundRow (sym (unwrap_or-slice_get (alphabet tested) place no_step))
    (sound_row_at (alphabet tested) place (alphabet_is_sound tested))

turn_are_bytes : (tested : Role) (key : Option (List ℕ)) → IsMaskingKey key → (places : List ℕ)
    → AreBytes (turn_bytes key (short_steps tested places))
turn_are_bytes tested key is_key [] = λ i. omega arith
turn_are_bytes tested key is_key (place ∷ places) =
    bytes_append (step_bytes key (step_at tested place).step) (turn_bytes key (short_steps tested places))
    (step_are_bytes key is_key (step_at tested place).step (step_is_sound tested place))
    (turn_are_bytes tested key is_key places)

-- the bytes of the turns one after the other are those of the steps: a Wait has none
longer_at_first : (key : Option (List ℕ)) (step : Step) (turns : List (List Step))
    → flat_map (turn_bytes key) (onto_first step turns) ≡ step_bytes key step ++ flat_map (turn_bytes key) turns
longer_at_first key step [] = append-nil (step_bytes key step ++ [])
longer_at_first key step (turn ∷ turns) =
    append_assoc (step_bytes key step) (turn_bytes key turn) (flat_map (turn_bytes key) turns)

sent_in_turns : (key : Option (List ℕ)) (steps : List Step) → turn_bytes key steps ≡ bytes_sent steps key
sent_in_turns key [] = refl
sent_in_turns key (Frame fin rsv opcode payload ∷ steps) =
    let step = Frame fin rsv opcode payload in
    ap (λ (l : List ℕ). step_bytes key step ++ l) (sent_in_turns key steps)
    ∙ sym (longer_at_first key step (turns_of steps))
sent_in_turns key (Raw bytes ∷ steps) =
    ap (λ (l : List ℕ). bytes ++ l) (sent_in_turns key steps) ∙ sym (longer_at_first key (Raw bytes) (turns_of steps))
sent_in_turns key (Wait ∷ steps) = sent_in_turns key steps

-- ---- one step more

end_stays : EndLaws → (tested : Role) (key : Option (List ℕ)) → IsMaskingKey key → (places : List ℕ) (place : ℕ)
    → HasEnd tested (bytes_sent (short_steps tested places) key)
    → HasEnd tested (bytes_sent (short_steps tested (places ++ place ∷ [])) key)
end_stays laws tested key is_key places place end =
    let steps = short_steps tested places in
    let last = short_steps tested (place ∷ []) in
    let parts : turn_bytes key (short_steps tested (places ++ place ∷ [])) ≡ turn_bytes key steps ++ turn_bytes key last =
    ap (λ (l : List Step). turn_bytes key l) (map-append (λ (p : ℕ). (step_at tested p).step) places (place ∷ []))
    ∙ flat_map-append (step_bytes key) steps last in
    let are : AreBytes (turn_bytes key steps ++ turn_bytes key last) =
    subst (λ (l : List ℕ). AreBytes l) parts (turn_are_bytes tested key is_key (places ++ place ∷ [])) in
    let here : HasEnd tested (turn_bytes key steps) =
    subst (λ (l : List ℕ). HasEnd tested l) (sym (sent_in_turns key steps)) end in
    subst (λ (l : List ℕ). HasEnd tested l)
    (sym parts ∙ sent_in_turns key (short_steps tested (places ++ place ∷ [])))
    (end_with_more laws tested (turn_bytes key steps) (turn_bytes key last) are here)

-- where the steps before the last have an end, all of them have it
pub script_ends : EndLaws → (tested : Role) (key : Option (List ℕ)) → IsMaskingKey key → (steps : List Step)
    (places before : List ℕ) (place : ℕ) → steps ≡ short_steps tested places → places ≡ before ++ place ∷ []
    → HasEnd tested (bytes_sent (short_steps tested before) key) → HasEnd tested (bytes_sent steps key)
script_ends laws tested key is_key steps places before place steps_are places_are end =
    let whole : steps ≡ short_steps tested (before ++ place ∷ []) =
    steps_are ∙ ap (λ (l : List ℕ). short_steps tested l) places_are in
    subst (λ (l : List Step). HasEnd tested (bytes_sent l key)) (sym whole)
    (end_stays laws tested key is_key before place end)

-- ---- the last step alone

-- what steps and one more send is what they send, and what that one sends
pub sent_with : (key : Option (List ℕ)) (first : List Step) (last : Step)
    → bytes_sent (first ++ last ∷ []) key ≡ bytes_sent first key ++ step_bytes key last
sent_with key first last =
    sym (sent_in_turns key (first ++ last ∷ [])) ∙ flat_map-append (step_bytes key) first (last ∷ [])
    ∙ ap (λ (l : List ℕ). turn_bytes key first ++ l) (append-nil (step_bytes key last))
    ∙ ap (λ (l : List ℕ). l ++ step_bytes key last) (sent_in_turns key first)

-- the steps before the last are those of the places before the last
pub before_last : (tested : Role) (places before : List ℕ) (place : ℕ) (steps first : List Step) (last : Step)
    → steps ≡ short_steps tested places → places ≡ before ++ place ∷ [] → steps ≡ first ++ last ∷ []
    → first ≡ short_steps tested before
before_last tested places before place steps first last steps_are places_are parts =
    let both : first ++ last ∷ [] ≡ short_steps tested before ++ (step_at tested place).step ∷ [] =
    sym parts ∙ steps_are ∙ ap (λ (l : List ℕ). short_steps tested l) places_are
    ∙ map-append (λ (p : ℕ). (step_at tested p).step) before (place ∷ []) in
    (same_from_push first (short_steps tested before) last (step_at tested place).step both).0

-- what they and the last send is what all send
pub with_last : (tested : Role) (key : Option (List ℕ)) (places before : List ℕ) (place : ℕ) (steps first : List Step)
    (last : Step) → steps ≡ short_steps tested places → places ≡ before ++ place ∷ [] → steps ≡ first ++ last ∷ []
    → bytes_sent (short_steps tested before) key ++ step_bytes key last ≡ bytes_sent steps key
with_last tested key places before place steps first last steps_are places_are parts =
    let front = before_last tested places before place steps first last steps_are places_are parts in
    ap (λ (l : List Step). bytes_sent l key ++ step_bytes key last) (sym front)
    ∙ (sym (sent_with key first last) ∙ ap (λ (l : List Step). bytes_sent l key) (sym parts))
