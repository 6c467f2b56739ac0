-- What is kept of a frame that is not whole, and what more bytes make of it.
use Rattle.std.proofs.Common.{◌≡◌, ℕ, zero, suc, ◌+◌, ◌-◌, ◌^◌, ◌<◌, ◌≤◌, List, [], ◌∷◌, ◌++◌, length, take, drop, Option, Some, None, min, refl, sym, ap, ◌∙◌, append_assoc, append-nil, zero-add, arith, inl, inr, subst}
use Rattle.std.proofs.lemmas.Bool.{cases_lt}
use Rattle.std.proofs.lemmas.List.{length-append, length-take, length-take-le, length-drop, take-append-drop, take_at, drop_at, take_all, take-append-le, get_or_append_left, get_or-append_right}
use Rattle.std.proofs.Math.Seq.{take-append-add, take-add}
use Rattle.ws_wire.specs.Header.{HeaderFields, IsHeaderOf, AreBytes, header_bytes}
use Rattle.ws_wire.specs.Masking.{masked_payload}
use Rattle.ws_wire.specs.Frame.{IsWireFrame, wire_bytes}
use Rattle.ws_wire.specs.Reading.{Begins, BeginsNoHeader, BeginsBadLength}
use Rattle.ws_wire.specs.Stream.{BeginsNone}
use Rattle.ws_frame.specs.declared.partial.Partial.{Partial}
use Rattle.ws_frame.specs.declared.partial.Taken.{Taken}
use Rattle.ws_frame.specs.declared.partial.Taken.TheVariants.{Part, Whole, BadLength}
use Rattle.ws_frame.specs.InnerShowing.{IsPartOfPayload, IsKeptAs, IsWhole, UsesSome, IsTaken, BeginsPayload}
use Rattle.ws_wire.proofs.Numbers.{front_bytes, AreBytes-drop}
use Rattle.ws_wire.proofs.Headers.{too_short_for_header}
use Rattle.ws_wire.proofs.HeaderSize.{short_without_header}
use Rattle.ws_wire.proofs.Masks.{masked_payload_twice, length-masked_payload, masked_payload_bytes}
use Rattle.ws_wire.proofs.Splits.{rest_bytes}
use Rattle.ws_wire.proofs.Frames.{no_wire_without_header, no_wire_of_cut_payload}
use Rattle.ws_frame.proofs.Fronts.{no_bad_without_header, no_bad_beside}

-- ---- lists

pub AreBytes-append : (xs ys : List ℕ) → AreBytes xs → AreBytes ys → AreBytes (xs ++ ys)
AreBytes-append xs ys hx hy i =
    elim (cases_lt i (length xs)) [
      | inl lt ↦ rw (get_or_append_left xs ys 0 i lt) (hx i)
      | inr le ↦ rw (get_or-append_right xs ys (length xs) i 0 refl le) (hy (i - length xs))
    ]

take-take : (m n : ℕ) (xs : List ℕ) → m ≤ n → take m (take n xs) ≡ take m xs
take-take zero n xs le = refl
take-take (suc m) zero xs le = absurd (omega arith)
take-take (suc m) (suc n) [] le = refl
take-take (suc m) (suc n) (x ∷ xs) le = ap (λ (t : List ℕ). x ∷ t) (take-take m n xs (omega arith))

-- the first of the first and more are the first of all
first_of_more : (n : ℕ) (xs ys : List ℕ) → take n (take n xs ++ ys) ≡ take n (xs ++ ys)
first_of_more zero xs ys = refl
first_of_more (suc n) [] ys = refl
first_of_more (suc n) (x ∷ xs) ys = ap (λ (t : List ℕ). x ∷ t) (first_of_more n xs ys)

-- ---- what is kept is no frame

pub nothing_is_no_header : BeginsNoHeader []
nothing_is_no_header = too_short_for_header [] (omega arith)

kept_begins : (rest : List ℕ) (h : HeaderFields) (first : List ℕ) (to_come : ℕ) → IsPartOfPayload rest h first to_come → Begins h (length (header_bytes h)) rest
kept_begins rest h first to_come k = record {
  within = omega (arith, ap (λ (t : List ℕ). length t) k.parts, length-append (header_bytes h) k.payload);
  front = record { fields = k.fields; layout = ap (λ (t : List ℕ). take (length (header_bytes h)) t) k.parts ∙ take_at (header_bytes h) k.payload (length (header_bytes h)) refl };
}

pub kept_is_no_frame : (rest : List ℕ) (header : Option HeaderFields) (first : List ℕ) (to_come : ℕ) → IsKeptAs rest header first to_come → BeginsNone IsWireFrame wire_bytes rest
kept_is_no_frame rest None first to_come (same, none) = subst (λ (t : List ℕ). BeginsNone IsWireFrame wire_bytes t) (sym same) (no_wire_without_header first none)
kept_is_no_frame rest (Some h) first to_come k =
    let behind : drop (length (header_bytes h)) rest ≡ k.payload = ap (λ (t : List ℕ). drop (length (header_bytes h)) t) k.parts ∙ drop_at (header_bytes h) k.payload (length (header_bytes h)) refl in
    no_wire_of_cut_payload rest h (length (header_bytes h)) (kept_begins rest h first to_come k) (omega (arith, ap (λ (t : List ℕ). length t) behind, k.count, k.some))

pub kept_is_no_bad_length : (rest : List ℕ) (header : Option HeaderFields) (first : List ℕ) (to_come : ℕ) → IsKeptAs rest header first to_come → BeginsBadLength rest → ⊥
kept_is_no_bad_length rest None first to_come (same, none) = subst (λ (t : List ℕ). BeginsBadLength t → ⊥) (sym same) (no_bad_without_header first none)
kept_is_no_bad_length rest (Some h) first to_come k = no_bad_beside rest h (length (header_bytes h)) (kept_begins rest h first to_come k) k.small

-- ---- more of a header

-- less than a header is all that came
pub more_of_header : (rest piece first new : List ℕ) (header : Option HeaderFields) (to_come : ℕ) → IsKeptAs rest header first to_come → header ≡ None → new ≡ take 16 (first ++ piece)
    → AreBytes rest → AreBytes piece → BeginsNoHeader new → IsKeptAs (rest ++ take (length piece) piece) header new to_come
more_of_header rest piece first new None to_come (same, _) e kept are also none =
    let are_first : AreBytes first = subst (λ (t : List ℕ). AreBytes t) same are in
    let are_new : AreBytes (take 16 (first ++ piece)) = front_bytes 16 (first ++ piece) (AreBytes-append first piece are_first also) in
    let short : length (take 16 (first ++ piece)) < 14 = short_without_header (take 16 (first ++ piece)) are_new (subst (λ (t : List ℕ). BeginsNoHeader t) kept none) in
    let all : take 16 (first ++ piece) ≡ first ++ piece = take_all 16 (first ++ piece) (omega (arith, length-take 16 (first ++ piece))) in
    (ap (λ (t : List ℕ). rest ++ t) (take_all (length piece) piece (omega arith)) ∙ ap (λ (t : List ℕ). t ++ piece) same ∙ sym (kept ∙ all), none)
more_of_header rest piece first new (Some h) to_come k e kept are also none = absurd cc

-- a header within the first sixteen bytes is one of all
of_all : (h : HeaderFields) (used : ℕ) (all : List ℕ) → Begins h used (take 16 all) → Begins h used all
of_all h used all b =
    let within : used ≤ min 16 (length all) = omega (arith, b.within, length-take 16 all) in
    record {
      within = omega (arith, within);
      front = record { fields = b.front.fields; layout = sym (take-take used 16 all (omega (arith, within))) ∙ b.front.layout };
    }

pub bad_length_of_all : (rest piece first new : List ℕ) (header : Option HeaderFields) (to_come : ℕ) → IsKeptAs rest header first to_come → header ≡ None → new ≡ take 16 (first ++ piece)
    → BeginsBadLength new → BeginsBadLength (rest ++ piece)
bad_length_of_all rest piece first new None to_come (same, _) e kept (h, used, b, big) =
    let of_first : Begins h used (first ++ piece) = of_all h used (first ++ piece) (subst (λ (t : List ℕ). Begins h used t) kept b) in
    (h, used, subst (λ (t : List ℕ). Begins h used (t ++ piece)) (sym same) of_first, big)
bad_length_of_all rest piece first new (Some g) to_come k e kept bad = absurd cc

-- a header that is whole now ends in the piece
pub header_ends_in_piece : (rest piece first new : List ℕ) (header : Option HeaderFields) (to_come : ℕ) (h : HeaderFields) (used : ℕ) → IsKeptAs rest header first to_come → header ≡ None → new ≡ take 16 (first ++ piece)
    → Begins h used new → (length first < used) × (used ≤ length first + length piece) × (rest ++ take (used - length first) piece ≡ header_bytes h)
header_ends_in_piece rest piece first new None to_come h used (same, none) e kept begins =
    let b : Begins h used (first ++ piece) = of_all h used (first ++ piece) (subst (λ (t : List ℕ). Begins h used t) kept begins) in
    elim (cases_lt (length first) used) [
      | inr early ↦
          let front : take used (first ++ piece) ≡ take used first = take-append-le used first piece early in
          absurd (none h (take used first) (drop used first) (record { fields = b.front.fields; layout = sym front ∙ b.front.layout }) (sym (take-append-drop used first)))
      | inl later ↦
          let count : length first + (used - length first) ≡ used = omega arith in (
            later,
            omega (arith, b.within, length-append first piece),
            ap (λ (t : List ℕ). t ++ take (used - length first) piece) same ∙ sym (take-append-add first piece (used - length first)) ∙ ap (λ n. take n (first ++ piece)) count ∙ b.front.layout,
          )
    ]
header_ends_in_piece rest piece first new (Some g) to_come h used k e kept begins = absurd cc

-- ---- a header is whole

pub payload_begins : (bytes : List ℕ) (h : HeaderFields) → bytes ≡ header_bytes h → (front : List ℕ) → IsHeaderOf h front → h.len < 2 ^ 63 → 0 < h.len → IsPartOfPayload bytes h [] h.len
payload_begins bytes h parts front is small some = record { fields = is.fields; small = small; payload = []; parts = parts ∙ sym (append-nil (header_bytes h)); kept = refl; count = zero-add h.len; some = some }

nothing_masked : (key : Option (List ℕ)) → masked_payload key [] ≡ []
nothing_masked None = refl
nothing_masked (Some key) = refl

pub frame_of_header : (bytes : List ℕ) (h : HeaderFields) → bytes ≡ header_bytes h → (front : List ℕ) → IsHeaderOf h front → h.len ≡ 0 → IsWhole bytes h []
frame_of_header bytes h parts front is none = record {
  frame = record { header = h; payload = [] };
  is_wire = record { header = is.fields; payload = λ i. omega arith; len = sym none; small = omega (arith, none) };
  header_is = refl;
  bytes_are = parts ∙ sym (append-nil (header_bytes h)) ∙ ap (λ (t : List ℕ). header_bytes h ++ t) (sym (nothing_masked h.key));
  first_are = sym (ap (λ (t : List ℕ). take 16 t) (nothing_masked h.key));
}

kept_so : (bytes : List ℕ) (header : Option HeaderFields) (first : List ℕ) (to_come : ℕ) (h : HeaderFields) → header ≡ Some h → first ≡ [] → to_come ≡ h.len → IsPartOfPayload bytes h [] h.len → IsKeptAs bytes header first to_come
kept_so bytes header first to_come h eh ef et p =
    subst (λ (x : Option HeaderFields). IsKeptAs bytes x first to_come) (sym eh) (subst (λ (t : List ℕ). IsPartOfPayload bytes h t to_come) (sym ef) (subst (λ n. IsPartOfPayload bytes h [] n) (sym et) p))

-- what came of a header that is whole
pub header_taken : (rest piece : List ℕ) (h : HeaderFields) (used : ℕ) (new : Partial) (result : Taken) → BeginsPayload h used new result → rest ++ take used piece ≡ header_bytes h
    → (front : List ℕ) → IsHeaderOf h front → h.len < 2 ^ 63 → IsTaken rest piece new result
header_taken rest piece h used new (Part count) (e, header, first, to_come, some) parts front is small =
    let here : rest ++ take count piece ≡ header_bytes h = ap (λ n. rest ++ take n piece) e ∙ parts in
    kept_so (rest ++ take count piece) new.header new.first new.to_come h header first to_come (payload_begins (rest ++ take count piece) h here front is small some)
header_taken rest piece h used new (Whole of first count) (e, same, none, zero_len, kept) parts front is small =
    let here : rest ++ take count piece ≡ header_bytes h = ap (λ n. rest ++ take n piece) e ∙ parts in
    let whole : IsWhole (rest ++ take count piece) h [] = frame_of_header (rest ++ take count piece) h here front is zero_len in
    (subst (λ (g : HeaderFields). IsWhole (rest ++ take count piece) g first) (sym same) (subst (λ (t : List ℕ). IsWhole (rest ++ take count piece) h t) (sym none) whole), kept)
header_taken rest piece h used new BadLength begins parts front is small = absurd begins

pub header_uses : (piece : List ℕ) (h : HeaderFields) (used : ℕ) (new : Partial) (result : Taken) → BeginsPayload h used new result → 0 < used → used ≤ length piece → UsesSome piece result
header_uses piece h used new (Part count) (e, _, _, _, _) some within = (omega (arith, e), omega (arith, e))
header_uses piece h used new (Whole of first count) (e, _, _, _, _) some within = (omega (arith, e), omega (arith, e))
header_uses piece h used new BadLength begins some within = absurd begins

-- ---- more of a payload

pub more_of_payload : (rest more first new : List ℕ) (header : Option HeaderFields) (h : HeaderFields) (to_come left : ℕ) → IsKeptAs rest header first to_come → header ≡ Some h → new ≡ take 16 (first ++ more)
    → length more + left ≡ to_come → 0 < left → IsKeptAs (rest ++ more) header new left
more_of_payload rest more first new None h to_come left k e kept count some = absurd cc
more_of_payload rest more first new (Some g) h to_come left k e kept count some = record {
  fields = k.fields;
  small = k.small;
  payload = k.payload ++ more;
  parts = ap (λ (t : List ℕ). t ++ more) k.parts ∙ append_assoc (header_bytes g) k.payload more;
  kept = kept ∙ ap (λ (t : List ℕ). take 16 (t ++ more)) k.kept ∙ first_of_more 16 k.payload more;
  count = omega (arith, length-append k.payload more, k.count, count);
  some = some;
}

frame_is_whole : (rest more first new : List ℕ) (h : HeaderFields) (to_come : ℕ) → IsPartOfPayload rest h first to_come → AreBytes rest → AreBytes more → new ≡ take 16 (first ++ more) → length more ≡ to_come → IsWhole (rest ++ more) h new
frame_is_whole rest more first new h to_come k are also kept count =
    let payload = k.payload ++ more in
    let are_payload : AreBytes payload = AreBytes-append k.payload more (rest_bytes rest (header_bytes h) k.payload k.parts are) also in
    let back : masked_payload h.key (masked_payload h.key payload) ≡ payload = masked_payload_twice h.key payload in
    record {
      frame = record { header = h; payload = masked_payload h.key payload };
      is_wire = record {
        header = k.fields;
        payload = masked_payload_bytes h.key payload k.fields.key are_payload;
        len = length-masked_payload h.key payload ∙ length-append k.payload more ∙ (omega (arith, k.count, count));
        small = k.small;
      };
      header_is = refl;
      bytes_are = ap (λ (t : List ℕ). t ++ more) k.parts ∙ append_assoc (header_bytes h) k.payload more ∙ ap (λ (t : List ℕ). header_bytes h ++ t) (sym back);
      first_are = kept ∙ ap (λ (t : List ℕ). take 16 (t ++ more)) k.kept ∙ first_of_more 16 k.payload more ∙ ap (λ (t : List ℕ). take 16 t) (sym back);
    }

pub payload_ends : (rest more first new : List ℕ) (header : Option HeaderFields) (h : HeaderFields) (to_come : ℕ) → IsKeptAs rest header first to_come → header ≡ Some h → AreBytes rest → AreBytes more
    → new ≡ take 16 (first ++ more) → length more ≡ to_come → IsWhole (rest ++ more) h new
payload_ends rest more first new None h to_come k e are also kept count = absurd cc
payload_ends rest more first new (Some g) h to_come k e are also kept count =
    let same : g ≡ h = cc in
    subst (λ (f : HeaderFields). IsWhole (rest ++ more) f new) same (frame_is_whole rest more first new g to_come k are also kept count)

-- a part of a payload has more to come
pub some_to_come : (rest first : List ℕ) (header : Option HeaderFields) (h : HeaderFields) (to_come : ℕ) → IsKeptAs rest header first to_come → header ≡ Some h → 0 < to_come
some_to_come rest first None h to_come k e = absurd cc
some_to_come rest first (Some g) h to_come k e = k.some

-- ---- a frame from its first byte on

-- nothing is kept
nothing_before : (rest first : List ℕ) (header : Option HeaderFields) (to_come : ℕ) → IsKeptAs rest header first to_come → header ≡ None → first ≡ [] → rest ≡ []
nothing_before rest first None to_come (same, _) e none = same ∙ none
nothing_before rest first (Some h) to_come k e none = absurd cc

pub nothing_kept : (rest first : List ℕ) (header : Option HeaderFields) (to_come : ℕ) → IsKeptAs rest header first to_come → header ≡ None → first ≡ [] → IsKeptAs [] header first to_come
nothing_kept rest first header to_come k e none = subst (λ (t : List ℕ). IsKeptAs t header first to_come) (nothing_before rest first header to_come k e none) k

-- less than a header is all that came
pub front_of_header : (rest piece first new : List ℕ) (header : Option HeaderFields) (to_come : ℕ) → IsKeptAs rest header first to_come → header ≡ None → first ≡ [] → new ≡ take 16 (take (length piece) piece)
    → AreBytes piece → BeginsNoHeader piece → IsKeptAs (rest ++ take (length piece) piece) header new to_come
front_of_header rest piece first new None to_come (same, _) e none kept are no_header =
    let short : length piece < 14 = short_without_header piece are no_header in
    let all : take (length piece) piece ≡ piece = take_all (length piece) piece (omega arith) in
    let is : new ≡ piece = kept ∙ ap (λ (t : List ℕ). take 16 t) all ∙ take_all 16 piece (omega arith) in
    (ap (λ (t : List ℕ). rest ++ t) all ∙ ap (λ (t : List ℕ). t ++ piece) (same ∙ none) ∙ sym is, subst (λ (t : List ℕ). BeginsNoHeader t) (sym is) no_header)
front_of_header rest piece first new (Some h) to_come k e none kept are no_header = absurd cc

pub bad_length_of_piece : (rest piece first : List ℕ) (header : Option HeaderFields) (to_come : ℕ) → IsKeptAs rest header first to_come → header ≡ None → first ≡ [] → BeginsBadLength piece → BeginsBadLength (rest ++ piece)
bad_length_of_piece rest piece first header to_come k e none bad =
    subst (λ (t : List ℕ). BeginsBadLength (t ++ piece)) (sym (nothing_before rest first header to_come k e none)) bad

-- the piece has all bytes of the frame
whole_at_front : (piece first : List ℕ) (h : HeaderFields) (used len : ℕ) → Begins h used piece → h.len < 2 ^ 63 → AreBytes piece → len ≡ h.len → used + len ≤ length piece → first ≡ take 16 (take len (drop used piece))
    → IsWhole (take (used + len) piece) h first
whole_at_front piece first h used len b small are same within is =
    let payload = take len (drop used piece) in
    let are_payload : AreBytes payload = front_bytes len (drop used piece) (AreBytes-drop used piece are) in
    let back : masked_payload h.key (masked_payload h.key payload) ≡ payload = masked_payload_twice h.key payload in
    let count : length payload ≡ len = length-take-le len (drop used piece) (omega (arith, length-drop used piece, within)) in
    record {
      frame = record { header = h; payload = masked_payload h.key payload };
      is_wire = record {
        header = b.front.fields;
        payload = masked_payload_bytes h.key payload b.front.fields.key are_payload;
        len = length-masked_payload h.key payload ∙ count ∙ same;
        small = small;
      };
      header_is = refl;
      bytes_are = take-add used len piece ∙ ap (λ (t : List ℕ). t ++ payload) b.front.layout ∙ ap (λ (t : List ℕ). header_bytes h ++ t) (sym back);
      first_are = is ∙ ap (λ (t : List ℕ). take 16 t) (sym back);
    }

pub whole_of_piece : (rest piece first shown : List ℕ) (header : Option HeaderFields) (to_come : ℕ) (h : HeaderFields) (used len : ℕ) → IsKeptAs rest header first to_come → header ≡ None → first ≡ [] → Begins h used piece
    → h.len < 2 ^ 63 → AreBytes piece → len ≡ h.len → used + len ≤ length piece → shown ≡ take 16 (take len (take (length piece - used) (drop used piece)))
    → IsWhole (rest ++ take (used + len) piece) h shown
whole_of_piece rest piece first shown header to_come h used len k e none b small are same within is =
    let behind : take len (take (length piece - used) (drop used piece)) ≡ take len (drop used piece) = take-take len (length piece - used) (drop used piece) (omega (arith, within)) in
    subst (λ (t : List ℕ). IsWhole (t ++ take (used + len) piece) h shown) (sym (nothing_before rest first header to_come k e none))
    (whole_at_front piece shown h used len b small are same within (is ∙ ap (λ (t : List ℕ). take 16 t) behind))
