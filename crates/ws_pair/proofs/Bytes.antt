-- Pieces of a stream, and the bytes of frames.
use Rattle.std.proofs.Common.{◌≡◌, ℕ, ◌+◌, ◌-◌, ◌≤◌, ◌<◌, Bool, true, false, cond, min, List, [], ◌∷◌, ◌++◌, length, take, drop, refl, sym, ap, ◌∙◌, arith, inl, inr}
use Rattle.std.specs.Prelude.{map}
use Rattle.std.specs.List.{AllByRecursion}
use Rattle.std.proofs.lemmas.List.{map-append, take-take, take-append-drop, drop-take, take-append-le, length-drop, length-take, get_or-take, get_or_past}
use Rattle.std.proofs.lemmas.Bool.{cases_lt}
use Rattle.std.proofs.lemmas.Grind.{flat_map-append}
use Rattle.ws_wire.specs.declared.role.Role.{Role}
use Rattle.ws_wire.specs.Header.{AreBytes}
use Rattle.ws_wire.specs.Frame.{Frame, KeyedFrame, frame_bytes, stream_bytes}
use Rattle.ws_session.specs.Faults.{frames_of}
use Rattle.ws_session.specs.Replies.{under_key}
use Rattle.ws_pair.specs.InnerPlaying.{IsNextIn}

pub take_plus : (n u : ℕ) (s : List ℕ) → take n s ++ take u (drop n s) ≡ take (n + u) s
take_plus n u s =
    let le : n ≤ n + u = omega arith in
    ap (λ (l : List ℕ). l ++ take u (drop n s)) (sym (take-take n (n + u) s le)) ∙ ap (λ (l : List ℕ). take n (take (n + u) s) ++ l) (sym (drop-take n u s)) ∙ take-append-drop n (take (n + u) s)

-- the front of a piece, behind what has come before it
pub front_of_next : (stream piece : List ℕ) (n u : ℕ) → IsNextIn stream n piece → u ≤ length piece → take n stream ++ take u piece ≡ take (n + u) stream
front_of_next stream piece n u is le =
    ap (λ (l : List ℕ). take n stream ++ take u l) (sym is.is) ∙ ap (λ (l : List ℕ). take n stream ++ l) (take-take u (length piece) (drop n stream) le) ∙ take_plus n u stream

pub frames_append : (xs ys : List KeyedFrame) → frames_of (xs ++ ys) ≡ frames_of xs ++ frames_of ys
frames_append xs ys = map-append (λ (x : KeyedFrame). x.frame) xs ys

pub frames_under : (role : Role) (key : List ℕ) (fs : List Frame) → frames_of (map (under_key role key) fs) ≡ fs
frames_under role key [] = refl
frames_under role key (f ∷ fs) = ap (λ (l : List Frame). f ∷ l) (frames_under role key fs)

pub stream_append : (xs ys : List KeyedFrame) → stream_bytes (xs ++ ys) ≡ stream_bytes xs ++ stream_bytes ys
stream_append xs ys = flat_map-append frame_bytes xs ys

pub all_append : (P : KeyedFrame → Type 0) (xs ys : List KeyedFrame) → AllByRecursion P xs → AllByRecursion P ys → AllByRecursion P (xs ++ ys)
all_append P [] ys p q = q
all_append P (x ∷ xs) ys p q = (p.0, all_append P xs ys p.1 q)

-- what was put is the front of what is put
pub front_stays : (n : ℕ) (xs ys : List KeyedFrame) → n ≤ length (stream_bytes xs) → take n (stream_bytes (xs ++ ys)) ≡ take n (stream_bytes xs)
front_stays n xs ys le = ap (λ (l : List ℕ). take n l) (stream_append xs ys) ∙ take-append-le n (stream_bytes xs) (stream_bytes ys) le

pub front_bytes : (n : ℕ) (bytes : List ℕ) → AreBytes bytes → AreBytes (take n bytes)
front_bytes n bytes h i =
    elim (cases_lt i n) [
      | inl lt ↦ rw (get_or-take n bytes i 0 lt) (h i)
      | inr le ↦ rw (get_or_past (take n bytes) i 0 (omega (arith, length-take n bytes))) (omega arith)
    ]

-- a slice of so many bytes stands next
pub slice_is_next : (stream : List ℕ) (n count : ℕ) → AreBytes stream → n + count ≤ length stream → (length (take (n + count - n) (drop n stream)) ≡ count) × IsNextIn stream n (take (n + count - n) (drop n stream))
slice_is_next stream n count bytes le =
    let same : n + count - n ≡ count = omega arith in
    let left : n + count - n ≤ length (drop n stream) = omega (arith, length-drop n stream) in
    let len : length (take (n + count - n) (drop n stream)) ≡ count = omega (arith, length-take (n + count - n) (drop n stream)) in
    (len, record { bytes = bytes; fits = omega (arith, len); is = ap (λ k. take k (drop n stream)) (len ∙ sym same) })

-- what comes is there
pub comes_within : (cut : Bool) (n count bytes all : ℕ) → n ≤ all → count ≡ cond cut 0 (min bytes (all - n)) → n + count ≤ all
comes_within true n count bytes all le e = omega (arith, e)
comes_within false n count bytes all le e = omega (arith, e)

pub comes_uncut : (cut : Bool) (count bytes left : ℕ) → count ≡ cond cut 0 (min bytes left) → 0 < count → cut ≡ false
comes_uncut true count bytes left e some = absurd (omega (arith, e))
comes_uncut false count bytes left e some = refl
