-- A head depends on its own bytes alone: more bytes leave it, and fewer do, down to its end.
use Rattle.std.proofs.Common.{◌≡◌, ℕ, zero, suc, ◌+◌, ◌-◌, ◌<◌, ◌≤◌, min, List, [], ◌∷◌, ◌++◌, length, take, drop}
use Rattle.std.proofs.Common.{Option, None, refl, sym, ap, ◌∙◌, arith, subst}
use Rattle.std.proofs.lemmas.List.{length-append, length-take, length-take-le, length-map, take-append-drop}
use Rattle.std.proofs.lemmas.List.{take-append-le, take-take, take_all}
use Rattle.std.proofs.Math.Seq.{take-append-add, take-append_seam}
use Rattle.httparse.specs.Grammar.{Field, print_request, print_response}
use Rattle.httparse.specs.Spans.{AreFieldsAt, header_bytes, name_and_value}
use Rattle.httparse.specs.declared.spans.HeaderSpan.{HeaderSpan}
use Rattle.ws_tap.specs.declared.tapped.Tapped.{Tapped}
use Rattle.ws_tap.specs.declared.head_room.HeadFound.{HeadFound}
use Rattle.ws_tap.specs.Texts.{source_at, head_line}
use Rattle.ws_tap.specs.Telling.{LooksIn, IsFoundWith, IsLookedFor}
use Rattle.ws_wire.specs.declared.role.Role.{Role}
use Rattle.ws_wire.specs.declared.role.Role.TheVariants.{Client, Server}
use Rattle.ws_tap.specs.declared.heads.Head.{Head}
use Rattle.ws_tap.specs.Heads.{HasRequest, HasResponse, HasHead, HasNoHead, head_front}

-- ---- the front of a list

-- so many bytes of a list, where there are so many
front_to : (n : ℕ) (bytes : List ℕ) (count : ℕ) → count ≡ min n (length bytes) → take count bytes ≡ take n bytes
front_to zero bytes count is =
    let none : count ≡ 0 = omega (arith, is) in
    ap (λ (k : ℕ). take k bytes) none
front_to (suc n) [] count is = take_all count [] (omega arith)
front_to (suc n) (byte ∷ bytes) zero is = absurd (omega (arith, is))
front_to (suc n) (byte ∷ bytes) (suc count) is = ap (λ (t : List ℕ). byte ∷ t) (front_to n bytes count (omega (arith, is)))

-- behind these bytes as many come as fit: they are a front of all
pub fills : (n : ℕ) (bytes more : List ℕ) (count : ℕ) → length bytes ≤ n
    → count ≡ min (n - length bytes) (length more) → bytes ++ take count more ≡ take n (bytes ++ more)
fills n [] more count few is = front_to n more count (omega (arith, is))
fills zero (byte ∷ bytes) more count few is = absurd (omega (arith, few))
fills (suc n) (byte ∷ bytes) more count few is =
    ap (λ (t : List ℕ). byte ∷ t) (fills n bytes more count (omega (arith, few)) (omega (arith, is)))

-- a front of this length that is known splits the list
splits_at : (front bytes : List ℕ) (n : ℕ) → n ≡ length front → take n bytes ≡ front → bytes ≡ front ++ drop n bytes
splits_at front bytes n len is = sym (take-append-drop n bytes) ∙ ap (λ (t : List ℕ). t ++ drop n bytes) is

front_of : (front bytes : List ℕ) (n : ℕ) → n ≡ length front → bytes ≡ front ++ drop n bytes → take n bytes ≡ front
front_of front bytes n len e =
    ap (λ (t : List ℕ). take n t) e ∙ take-append-le n front (drop n bytes) (omega (arith, len))
    ∙ take_all n front (omega (arith, len))

within_front : (front bytes : List ℕ) (n : ℕ) → n ≡ length front → bytes ≡ front ++ drop n bytes → n ≤ length bytes
within_front front bytes n len e = omega (
  arith,
  len,
  ap (λ (t : List ℕ). length t) e,
  length-append front
      (drop n bytes),
)

front_again : (n : ℕ) (bytes more : List ℕ) → take n (take n bytes ++ more) ≡ take n (bytes ++ more)
front_again zero bytes more = refl
front_again (suc n) [] more = refl
front_again (suc n) (x ∷ bytes) more = ap (λ (t : List ℕ). x ∷ t) (front_again n bytes more)

-- the bytes in which a head is looked for
part_of_part : (bytes : List ℕ) → head_front (head_front bytes) ≡ head_front bytes
part_of_part bytes = take-take 8192 8192 bytes (omega arith)

part_is_short : (bytes : List ℕ) → length (head_front bytes) ≤ 8192
part_is_short bytes = omega (arith, length-take 8192 bytes)

part_within : (bytes : List ℕ) → length (head_front bytes) ≤ length bytes
part_within bytes = omega (arith, length-take 8192 bytes)

-- more bytes behind the part and behind all of them have one part
part_more : (bytes more : List ℕ) → head_front (head_front bytes ++ more) ≡ head_front (bytes ++ more)
part_more bytes more = front_again 8192 bytes more

-- ---- a head by its front alone

request_by_front : (bytes other : List ℕ) (len : ℕ) → HasRequest bytes len
    → take len (head_front other) ≡ take len (head_front bytes) → HasRequest other len
request_by_front bytes other len h e = record {
  head = h.head;
  reads = (
    h.reads.0,
    splits_at (print_request h.head) (head_front other) len h.whole (e
        ∙ front_of (print_request h.head) (head_front bytes) len h.whole h.reads.1),
  );
  whole = h.whole;
  headers = h.headers;
}

response_by_front : (bytes other : List ℕ) (len status : ℕ) → HasResponse bytes len status
    → take len (head_front other) ≡ take len (head_front bytes) → HasResponse other len status
response_by_front bytes other len status h e = record {
  head = h.head;
  reads = (
    h.reads.0,
    splits_at (print_response h.head) (head_front other) len h.whole (e
        ∙ front_of (print_response h.head) (head_front bytes) len h.whole h.reads.1),
  );
  whole = h.whole;
  headers = h.headers;
  status_is = h.status_is;
}

by_front : (role : Role) (bytes other : List ℕ) (head : Head) → HasHead role bytes head
    → take head.len (head_front other) ≡ take head.len (head_front bytes) → HasHead role other head
by_front Client bytes other head (h, none) e = (request_by_front bytes other head.len h e, none)
by_front Server bytes other head (status, h, some) e = (
  status,
  response_by_front bytes other head.len status h e,
  some,
)

len_within : (role : Role) (bytes : List ℕ) (head : Head) → HasHead role bytes head
    → head.len ≤ length (head_front bytes)
len_within Client bytes head (h, none) = within_front (print_request h.head) (head_front bytes) head.len h.whole
    h.reads.1
len_within Server bytes head (status, h, some) = within_front (print_response h.head) (head_front bytes) head.len
    h.whole h.reads.1

pub head_within : (role : Role) (bytes : List ℕ) (head : Head) → HasHead role bytes head → head.len ≤ length bytes
head_within role bytes head h = omega (arith, len_within role bytes head h, part_within bytes)

-- ---- more bytes, and fewer

pub head_stays : (role : Role) (bytes more : List ℕ) (head : Head) → HasHead role bytes head
    → HasHead role (bytes ++ more) head
head_stays role bytes more head h =
    let short : head.len ≤ 8192 = omega (arith, len_within role bytes head h, part_is_short bytes) in
    by_front role bytes (bytes ++ more) head h
    (take-take head.len 8192 (bytes ++ more) short ∙ take-append-le head.len bytes more
    (head_within role bytes head h) ∙ sym (take-take head.len 8192 bytes short))

pub head_in_front : (role : Role) (bytes : List ℕ) (n : ℕ) (head : Head) → HasHead role bytes head → head.len ≤ n
    → HasHead role (take n bytes) head
head_in_front role bytes n head h le =
    let short : head.len ≤ 8192 = omega (arith, len_within role bytes head h, part_is_short bytes) in
    by_front role bytes (take n bytes) head h
    (take-take head.len 8192 (take n bytes) short ∙ take-take head.len n bytes le
    ∙ sym (take-take head.len 8192 bytes short))

-- what stands in the part is what stands in all
of_part : (role : Role) (bytes : List ℕ) (head : Head) → HasHead role (head_front bytes) head
    → HasHead role bytes head
of_part role bytes head h = by_front role (head_front bytes) bytes head h
    (ap (λ (t : List ℕ). take head.len t) (sym (part_of_part bytes)))

in_part : (role : Role) (bytes : List ℕ) (head : Head) → HasHead role bytes head
    → HasHead role (head_front bytes) head
in_part role bytes head h = by_front role bytes (head_front bytes) head h
    (ap (λ (t : List ℕ). take head.len t) (part_of_part bytes))

-- ---- what the parser answers

-- a head has no more fields than headers that cover them
pub few_fields : (buf : List ℕ) (headers : List HeaderSpan) (count : ℕ) (fields : List Field)
    → AreFieldsAt buf headers count fields
    → length headers ≡ 64 → length fields ≤ 64
few_fields buf headers count fields at n =
    let covered = take count headers in
    let same : length covered ≡ length fields =
    sym (length-map covered (header_bytes buf)) ∙ ap length at ∙ length-map fields name_and_value in
    omega (arith, same, n, length-take count headers)

-- ---- a piece behind the bytes that are kept

room_grows : (role : Role) (room new bytes piece : List ℕ) → LooksIn role room bytes
    → new ≡ head_front (room ++ piece) → new ≡ head_front (bytes ++ piece)
room_grows role room new bytes piece l e = e ∙ ap (λ (t : List ℕ). head_front (t ++ piece)) l.0 ∙ part_more bytes piece

pub not_found : (role : Role) (tapped : Tapped) (room new slice bytes piece : List ℕ) (result : Option HeadFound)
    → LooksIn role room bytes → new ≡ head_front (room ++ piece) → slice ≡ new
    → HasNoHead role slice → result ≡ None → IsLookedFor role tapped new bytes piece result
not_found role tapped room new slice bytes piece result l e es lacks none =
    let grown = room_grows role room new bytes piece l e in
    subst (λ (r : Option HeadFound). IsLookedFor role tapped new bytes piece r) (sym none) (
      grown,
      λ head h. lacks head (subst (λ (t : List ℕ). HasHead role t head) (sym (es ∙ grown))
          (in_part role (bytes ++ piece) head h)),
    )

-- the head ends behind the bytes that have none
pub ends_behind : (role : Role) (room new slice bytes piece : List ℕ) (head : Head) → LooksIn role room bytes
    → new ≡ head_front (room ++ piece) → slice ≡ new
    → HasHead role slice head → (length bytes < head.len) × (length room ≡ length bytes) × (head.len ≤ length slice)
    × HasHead role (bytes ++ piece) head
ends_behind role room new slice bytes piece head l e es h =
    let here = subst (λ (t : List ℕ). HasHead role t head) (es ∙ room_grows role room new bytes piece l e) h in
    let all = of_part role (bytes ++ piece) head here in
    let small : head.len ≤ 8192 = omega (
      arith,
      len_within role (bytes ++ piece) head all,
      part_is_short
          (bytes ++ piece),
    ) in
    let early : head.len ≤ length bytes → ⊥ = λ le.
    l.1 head (subst (λ (t : List ℕ). HasHead role t head) (take-append_seam bytes piece)
    (head_in_front role (bytes ++ piece) (length bytes) head all le)) in
    let late : length bytes < head.len = omega (arith, early) in (
      late,
      ap (λ (t : List ℕ). length t) (l.0 ∙ take_all 8192 bytes (omega (arith, late, small))),
      head_within role
          slice head h,
      all,
    )

pub found : (role : Role) (tapped : Tapped) (before : ℕ) (room new slice bytes piece line : List ℕ) (head : Head)
    → LooksIn role room bytes → new ≡ head_front (room ++ piece) → slice ≡ new
    → HasHead role slice head → before ≡ length room → line ≡ head_line (source_at role tapped) (take head.len slice)
    → IsFoundWith role tapped bytes piece (record { head = head; line = line; used = head.len - before })
found role tapped before room new slice bytes piece line head l e es h eb el =
    let (late, same, within, all) = ends_behind role room new slice bytes piece head l e es h in
    let used = head.len - before in
    let len : head.len ≡ length bytes + used = omega (arith, late, same, eb) in
    let front : take head.len (bytes ++ piece) ≡ bytes ++ take used piece = ap (λ n. take n (bytes ++ piece)) len
    ∙ take-append-add bytes piece used in
    let small : head.len ≤ 8192 = omega (
      arith,
      len_within role (bytes ++ piece) head all,
      part_is_short
          (bytes ++ piece),
    ) in
    let in_slice : take head.len slice ≡ bytes ++ take used piece =
    ap (λ (t : List ℕ). take head.len t) (es ∙ room_grows role room new bytes piece l e)
    ∙ take-take head.len 8192 (bytes ++ piece) small ∙ front in
    let few : used ≤ length piece = omega (
      arith,
      len,
      head_within role (bytes ++ piece) head all,
      length-append bytes
          piece,
    ) in
    record {
      used = few;
      has = subst (λ (t : List ℕ). HasHead role t head) front
          (head_in_front role (bytes ++ piece) head.len head all (omega arith));
      whole = len ∙ sym (length-append bytes (take used piece)
          ∙ ap (λ n. length bytes + n) (length-take-le used piece few));
      line = el ∙ ap (λ (t : List ℕ). head_line (source_at role tapped) t) in_slice;
    }
