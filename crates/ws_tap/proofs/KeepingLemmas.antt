-- Which lines are kept while they wait: the most that fit.
use Rattle.std.proofs.Common.{◌≡◌, ◌⊎◌, ℕ, ◌+◌, ◌<◌, ◌≤◌, Bool, true, false, nat_lt, List, [], ◌∷◌, ◌++◌, length}
use Rattle.std.proofs.Common.{take, drop, refl, sym, ap, ◌∙◌, append-nil, append_assoc, inl, inr, arith, subst}
use Rattle.std.proofs.lemmas.Bool.{cases_lt}
use borrow.Author.Tests.{ltb-true, ltb-false}
use Rattle.std.proofs.lemmas.List.{length-append, take-append-le, take-append-drop, take_all}
use Rattle.std.proofs.Math.Seq.{take-append_seam}
use Rattle.ws_wire.specs.Header.{AreBytes}
use Rattle.ws_wire.proofs.Numbers.{front_bytes}
use Rattle.ws_wire.proofs.Splits.{rest_bytes}
use Rattle.ws_frame.specs.declared.source.Source.{Source}
use Rattle.ws_frame.specs.declared.frame_lines.FrameLines.{FrameLines}
use Rattle.ws_frame.specs.declared.frame_lines.FrameLines.TheVariants.{Digits, Whole}
use Rattle.ws_frame.specs.declared.payload_lines.PayloadLines.{PayloadLines}
use Rattle.ws_frame.specs.declared.stream_lines.StreamLines.{StreamLines}
use Rattle.ws_frame.specs.Lines.{AreCertainLines}
use Rattle.ws_frame.specs.FrameStreaming.{HasTakenFrames}
use Rattle.ws_frame.specs.PayloadStreaming.{EndsPut, PutsMore, stream_end}
use Rattle.ws_frame.specs.Streaming.{EndsWithLine, ShowsByte}
use Rattle.ws_frame.proofs.EitherWay.{by_digits, by_payloads}
use Rattle.ws_frame.proofs.Streams.{certain_lines_go_on, certain_lines_are_one}
use Rattle.ws_tap.specs.KeptValues.{KeptValue}
use Rattle.ws_tap.specs.Texts.{IsMost, IsKeptOf}
use Rattle.ws_tap.specs.Telling.{EndsKept, IsKeeping, KeepsByte, kept_after}

-- ---- the lines of a beginning are no longer than those of all

front_is_bytes : (bytes other more : List ℕ) → AreBytes bytes → bytes ≡ other ++ more → AreBytes other
front_is_bytes bytes other more are e =
    subst (λ (t : List ℕ). AreBytes t) (ap (λ (t : List ℕ). take (length other) t) e ∙ take-append_seam other more)
    (front_bytes (length other) bytes are)

pub no_longer : (source : Source) (bytes other more lines shown : List ℕ) → AreBytes bytes → bytes ≡ other ++ more
    → AreCertainLines source other lines → AreCertainLines source bytes shown → length lines ≤ length shown
no_longer source bytes other more lines shown are e certain all =
    let (next, on) = certain_lines_go_on source other more lines (front_is_bytes bytes other more are e)
    (rest_bytes bytes other more e are) certain in
    let same : lines ++ next ≡ shown = certain_lines_are_one source bytes (lines ++ next) shown
    (subst (λ (t : List ℕ). AreCertainLines source t (lines ++ next)) (sym e) on) all in
    omega (arith, ap (λ (t : List ℕ). length t) same, length-append lines next)

-- ---- one more line

-- a beginning of some bytes and one more is all of that, or a beginning of those
front_of_one_more : (bytes other more : List ℕ) (byte : ℕ) → bytes ++ byte ∷ [] ≡ other ++ more
    → (other ≡ bytes ++ byte ∷ []) ⊎ (bytes ≡ other ++ drop (length other) bytes)
front_of_one_more bytes other more byte e =
    elim (cases_lt (length bytes) (length other)) [
      | inl late ↦ inl (sym (take-append_seam other more) ∙ ap (λ (t : List ℕ). take (length other) t) (sym e)
          ∙ take_all (length other) (bytes ++ byte ∷ []) (omega (arith, late, length-append bytes (byte ∷ []))))
      | inr early ↦ inr (sym (take-append-drop (length other) bytes)
          ∙ ap (λ (t : List ℕ). t ++ drop (length other) bytes)
          (sym (take-append-le (length other) bytes (byte ∷ []) early)
          ∙ ap (λ (t : List ℕ). take (length other) t) e ∙ take-append_seam other more))
    ]

-- all that was certain was kept, and one more byte makes more certain than fits
most_before : (source : Source) (bytes shown now : List ℕ) (byte : ℕ) → AreBytes bytes
    → AreCertainLines source bytes shown → AreCertainLines source (bytes ++ byte ∷ []) now → length shown ≤ 65536
    → 65536 < length now
    → IsMost source (bytes ++ byte ∷ []) shown
most_before source bytes shown now byte are certain all fits over = record {
  front = bytes;
  behind = byte ∷ [];
  parts = refl;
  lines = certain;
  fits = fits;
  most = λ other more lines e is small. elim (front_of_one_more bytes other more byte e) [
    | inl whole ↦ absurd (omega (
      arith,
      small,
      over,
      ap (λ (t : List ℕ). length t)
          (certain_lines_are_one source (bytes ++ byte ∷ []) lines now
          (subst (λ (t : List ℕ). AreCertainLines source t lines) whole is) all),
    ))
    | inr front ↦ no_longer source bytes other (drop (length other) bytes) lines shown are front is certain
  ];
}

-- what is the most stays it where more lines are certain than fit
most_stays : (source : Source) (bytes kept now : List ℕ) (byte : ℕ) → AreCertainLines source (bytes ++ byte ∷ []) now
    → 65536 < length now → IsMost source bytes kept → IsMost source (bytes ++ byte ∷ []) kept
most_stays source bytes kept now byte all over m = record {
  front = m.front;
  behind = m.behind ++ byte ∷ [];
  parts = ap (λ (t : List ℕ). t ++ byte ∷ []) m.parts ∙ append_assoc m.front m.behind (byte ∷ []);
  lines = m.lines;
  fits = m.fits;
  most = λ other more lines e is small. elim (front_of_one_more bytes other more byte e) [
    | inl whole ↦ absurd (omega (
      arith,
      small,
      over,
      ap (λ (t : List ℕ). length t)
          (certain_lines_are_one source (bytes ++ byte ∷ []) lines now
          (subst (λ (t : List ℕ). AreCertainLines source t lines) whole is) all),
    ))
    | inr front ↦ m.most other (drop (length other) bytes) lines front is small
  ];
}

-- all certain lines that fit are the most
pub most_of_all : (source : Source) (bytes shown : List ℕ) → AreBytes bytes → AreCertainLines source bytes shown
    → length shown ≤ 65536 → IsMost source bytes shown
most_of_all source bytes shown are certain fits = record {
  front = bytes;
  behind = [];
  parts = sym (append-nil bytes);
  lines = certain;
  fits = fits;
  most = λ other more lines e is small. no_longer source bytes other more lines shown are e is certain;
}

-- ---- what is kept

-- a line that is put behind those that are kept: it fits, or it is left out
kept_by : (source : Source) (bytes shown line : List ℕ) (kept : KeptValue) (over : Bool)
    → nat_lt 65536 (length kept.text + length line) ≡ over → kept.is_full ≡ false → kept.text ≡ shown
    → (65536 < length (shown ++ line) → IsMost source bytes shown)
    → IsKeeping source bytes (shown ++ line) (kept_after kept line)
kept_by source bytes shown line kept true e going same most =
    let longer : 65536 < length (shown ++ line) = omega (
      arith,
      ltb-true 65536 (length kept.text + length line) e,
      length-append shown line,
      ap (λ (t : List ℕ). length t) same,
    ) in
    rw going (rw e (inr (refl, longer, subst (λ (t : List ℕ). IsMost source bytes t) (sym same) (most longer))))
kept_by source bytes shown line kept false e going same most =
    let fits : length (shown ++ line) ≤ 65536 = omega (
      arith,
      ltb-false 65536 (length kept.text + length line) e,
      length-append shown line,
      ap (λ (t : List ℕ). length t) same,
    ) in
    rw going (rw e (inl (refl, ap (λ (t : List ℕ). t ++ line) same, fits)))

left_out : (source : Source) (bytes shown line : List ℕ) (kept : KeptValue) → kept.is_full ≡ true
    → 65536 < length shown → IsMost source bytes kept.text → IsKeeping source bytes (shown ++ line)
    (kept_after kept line)
left_out source bytes shown line kept full over most =
    let longer : 65536 < length (shown ++ line) = omega (arith, over, length-append shown line) in
    rw full (inr (refl, longer, most))

-- one more byte makes a line certain, or none
pub keeping_byte : (source : Source) (bytes shown line : List ℕ) (byte : ℕ) (kept : KeptValue) → AreBytes bytes
    → AreCertainLines source bytes shown → AreCertainLines source (bytes ++ byte ∷ []) (shown ++ line)
    → IsKeeping source bytes shown kept → IsKeeping source (bytes ++ byte ∷ []) (shown ++ line) (kept_after kept line)
keeping_byte source bytes shown line byte kept are certain all (inl (going, same, fits)) =
    kept_by source (bytes ++ byte ∷ []) shown line kept (nat_lt 65536 (length kept.text + length line)) refl going
    same (λ over. most_before source bytes shown (shown ++ line) byte are certain all fits over)
keeping_byte source bytes shown line byte kept are certain all (inr (full, over, most)) =
    let longer : 65536 < length (shown ++ line) = omega (arith, over, length-append shown line) in
    left_out source (bytes ++ byte ∷ []) shown line kept full over
    (most_stays source bytes kept.text (shown ++ line) byte all longer most)

-- the line of a cut is put behind all that are certain
pub keeping_end : (source : Source) (bytes shown line : List ℕ) (kept : KeptValue) → AreBytes bytes
    → AreCertainLines source bytes shown → IsKeeping source bytes shown kept
    → IsKeeping source bytes (shown ++ line) (kept_after kept line)
keeping_end source bytes shown line kept are certain (inl (going, same, fits)) =
    kept_by source bytes shown line kept (nat_lt 65536 (length kept.text + length line)) refl going same
    (λ over. most_of_all source bytes shown are certain fits)
keeping_end source bytes shown line kept are certain (inr (full, over, most)) = left_out source bytes shown line kept
    full over most

pub is_kept : (source : Source) (bytes lines : List ℕ) (kept : KeptValue) → IsKeeping source bytes lines kept
    → IsKeptOf source bytes lines kept.text
is_kept source bytes lines kept (inl (going, same, fits)) = inl (fits, same)
is_kept source bytes lines kept (inr (full, over, most)) = inr (over, most)

-- ---- by whichever way the lines are made

pub keeps_digits : (old new : StreamLines) (kept : KeptValue) (byte : ℕ) (line : List ℕ) → ShowsByte old new byte line
    → KeepsByte kept (kept_after kept line) (record { old = Digits old; new = Digits new }) byte
keeps_digits old new kept byte line shows = λ bytes shown t. (
  line,
  by_digits new (bytes ++ byte ∷ []) (shown ++ line) (shows bytes shown t.stands),
  refl,
)

pub keeps_whole : (old new : PayloadLines) (kept : KeptValue) (byte : ℕ) (line : List ℕ)
    → PutsMore old new (byte ∷ []) [] line
    → KeepsByte kept (kept_after kept line) (record { old = Whole old; new = Whole new }) byte
keeps_whole old new kept byte line puts = λ bytes shown t.
    let (more, is, on) = puts bytes shown t.stands in (
      line,
      subst (λ (l : List ℕ). HasTakenFrames (Whole new) (bytes ++ byte ∷ []) (shown ++ l)) (sym is)
          (by_payloads new (bytes ++ byte ∷ []) (shown ++ more) on),
      refl,
    )

pub ends_digits : (lines : StreamLines) (line : List ℕ) → EndsWithLine lines line → EndsKept (Digits lines) line
ends_digits lines line ends = λ bytes shown t. ends bytes shown t.stands

pub ends_by_payloads : (lines : PayloadLines) (line : List ℕ) → EndsPut lines line → EndsKept (Whole lines) line
ends_by_payloads lines line ends = λ bytes shown t. (stream_end lines, ends bytes shown t.stands)

-- ---- equal bytes and texts

pub shown_same : (lines : FrameLines) (bytes bytes' shown shown' : List ℕ) → bytes ≡ bytes' → shown ≡ shown'
    → HasTakenFrames lines bytes shown → HasTakenFrames lines bytes' shown'
shown_same lines bytes bytes' shown shown' eb es s = subst (λ (t : List ℕ). HasTakenFrames lines bytes' t) es
    (subst (λ (t : List ℕ). HasTakenFrames lines t shown) eb s)

pub keeping_same : (source : Source) (bytes bytes' shown shown' : List ℕ) (kept kept' : KeptValue) → bytes ≡ bytes'
    → shown ≡ shown' → kept ≡ kept' → IsKeeping source bytes shown kept → IsKeeping source bytes' shown' kept'
keeping_same source bytes bytes' shown shown' kept kept' eb es ek k =
    subst (λ (t : KeptValue). IsKeeping source bytes' shown' t) ek
    (subst (λ (t : List ℕ). IsKeeping source bytes' t kept) es
    (subst (λ (t : List ℕ). IsKeeping source t shown kept) eb k))
