-- Where the lines of a stream stand that comes piece by piece; which lines more bytes leave, and how they end.
use Rattle.std.proofs.Common.{◌≡◌, ℕ, Bool, true, false, List, [], ◌∷◌, ◌++◌, length, refl, sym, ap, ◌∙◌, append_assoc, append-nil, arith, inl, inr, subst}
use Rattle.std.specs.List.{flat_map}
use Rattle.std.proofs.lemmas.List.{length-append, take-append-le}
use Rattle.ws_frame.specs.declared.source.Source.{Source}
use Rattle.ws_frame.specs.declared.showing.StreamEnd.{StreamEnd}
use Rattle.ws_frame.specs.declared.showing.StreamEnd.TheVariants.{Whole, CutAt, BadLengthAt}
use Rattle.ws_frame.specs.declared.showing.Run.{Run}
use Rattle.ws_wire.specs.Header.{HeaderFields, AreBytes, IsHeaderOf}
use Rattle.ws_wire.specs.Frame.{WireFrame, IsWireFrame, wire_bytes}
use Rattle.ws_wire.specs.Reading.{Begins, BeginsBadLength}
use Rattle.ws_frame.specs.Lines.{frame_lines, last_line, AreLinesOf, AreFrameLinesOf, AreCertainLines}
use Rattle.ws_frame.specs.InnerShowing.{HasTold, IsLeft, BeginsLines}
use Rattle.ws_frame.specs.Streaming.{StandsAt, HasShown}
use Rattle.ws_wire.proofs.Frames.{no_wire_of_bad_length, wire_none_begins}
use Rattle.ws_wire.proofs.Splits.{rest_bytes, split_is_one}
use Rattle.ws_frame.proofs.Fronts.{all_lines, begins_so_far, lines_are_one}
use Rattle.ws_frame.proofs.Partials.{AreBytes-append}
use Rattle.ws_frame.proofs.Runs.{all_written, lines_of_frames, begins_so}

-- ---- more bytes

begins_on : (bytes more : List ℕ) (h : HeaderFields) (used : ℕ) → Begins h used bytes → Begins h used (bytes ++ more)
begins_on bytes more h used b = record {
  within = omega (arith, b.within, length-append bytes more);
  front = subst (λ (t : List ℕ). IsHeaderOf h t) (sym (take-append-le used bytes more b.within)) b.front;
}

-- behind a bad length nothing is certain any more
pub bad_length_stays : (source : Source) (bytes more lines : List ℕ) (place : ℕ) → AreLinesOf source bytes (BadLengthAt place) lines → AreLinesOf source (bytes ++ more) (BadLengthAt place) lines
bad_length_stays source bytes more lines place a =
    let (at, (h, used, b, big)) = a.leaves in
    let on = begins_on a.rest more h used b in
    record {
      frames = a.frames;
      rest = a.rest ++ more;
      split = record {
        each = a.split.each;
        whole = ap (λ (t : List ℕ). t ++ more) a.split.whole ∙ append_assoc (flat_map wire_bytes a.frames) a.rest more;
        left = no_wire_of_bad_length (a.rest ++ more) h used on big;
      };
      leaves = (at, (h, used, on, big));
      all = a.all;
    }

-- more bytes leave the lines that are certain
pub certain_lines_go_on : (source : Source) (bytes more lines : List ℕ) → AreBytes bytes → AreBytes more → AreCertainLines source bytes lines → (next : List ℕ) × AreCertainLines source (bytes ++ more) (lines ++ next)
certain_lines_go_on source bytes more lines are are_more (inl f) =
    let rest = rest_bytes bytes (flat_map wire_bytes f.frames) f.rest f.split.whole are in
    let b = begins_so_far source (bytes ++ more) (f.rest ++ more) f.frames lines [] (AreBytes-append f.rest more rest are_more) f.split.each
    (ap (λ (t : List ℕ). t ++ more) f.split.whole ∙ append_assoc (flat_map wire_bytes f.frames) f.rest more) (sym f.all ∙ sym (append-nil lines)) in
    (b.more, subst (λ (t : List ℕ). AreCertainLines source (bytes ++ more) t) b.begins b.are)
certain_lines_go_on source bytes more lines are are_more (inr (place, a)) =
    ([], inr (place, subst (λ (t : List ℕ). AreLinesOf source (bytes ++ more) (BadLengthAt place) t) (sym (append-nil lines)) (bad_length_stays source bytes more lines place a)))

-- ---- the end

frames_end : (source : Source) (bytes lines : List ℕ) (frames : List WireFrame) (rest : List ℕ) (f : AreFrameLinesOf source bytes lines) → f.frames ≡ frames → f.rest ≡ rest → (end : StreamEnd) × (last : List ℕ) × AreLinesOf source bytes end (lines ++ last)
frames_end source bytes lines frames [] f ef er = (
  Whole,
  [],
  record { frames = f.frames; rest = f.rest; split = f.split; leaves = er; all = ap (λ (t : List ℕ). t ++ []) f.all },
)
frames_end source bytes lines frames (x ∷ rest) f ef er =
    let place = length (flat_map wire_bytes f.frames) in (
      CutAt place,
      last_line source (CutAt place),
      record {
        frames = f.frames;
        rest = f.rest;
        split = f.split;
        leaves = (refl, omega (arith, ap (λ (t : List ℕ). length t) er), f.goes_on);
        all = ap (λ (t : List ℕ). t ++ last_line source (CutAt place)) f.all;
      },
    )

-- the lines that are certain begin all lines
pub certain_lines_end : (source : Source) (bytes lines : List ℕ) → AreCertainLines source bytes lines → (end : StreamEnd) × (last : List ℕ) × AreLinesOf source bytes end (lines ++ last)
certain_lines_end source bytes lines (inl f) = frames_end source bytes lines f.frames f.rest f refl refl
certain_lines_end source bytes lines (inr (place, a)) = (BadLengthAt place, [], subst (λ (t : List ℕ). AreLinesOf source bytes (BadLengthAt place) t) (sym (append-nil lines)) a)

-- ---- there is one list of them

bad_beside_frames : {X : Type 0} (source : Source) (bytes lines others : List ℕ) (place : ℕ) → AreFrameLinesOf source bytes lines → AreLinesOf source bytes (BadLengthAt place) others → X
bad_beside_frames source bytes lines others place f a =
    let s = split_is_one IsWireFrame wire_bytes wire_none_begins bytes f.frames a.frames f.rest a.rest f.split a.split in
    absurd (f.goes_on (subst (λ (t : List ℕ). BeginsBadLength t) (sym s.1) a.leaves.1))

pub certain_lines_are_one : (source : Source) (bytes lines others : List ℕ) → AreCertainLines source bytes lines → AreCertainLines source bytes others → lines ≡ others
certain_lines_are_one source bytes lines others (inl f) (inl g) =
    let s = split_is_one IsWireFrame wire_bytes wire_none_begins bytes f.frames g.frames f.rest g.rest f.split g.split in
    f.all ∙ ap (λ (t : List WireFrame). frame_lines source 0 t) s.0 ∙ sym g.all
certain_lines_are_one source bytes lines others (inl f) (inr (place, a)) = bad_beside_frames source bytes lines others place f a
certain_lines_are_one source bytes lines others (inr (place, a)) (inl f) = bad_beside_frames source bytes others lines place f a
certain_lines_are_one source bytes lines others (inr (place, a)) (inr (other, b)) = (lines_are_one source bytes (BadLengthAt place) (BadLengthAt other) lines others a b).1

-- ---- where a stream stands

pub going : (run : Run) (b : Bool) (taken written : List ℕ) → b ≡ false → StandsAt run b taken written → (run.lines ≡ []) × HasTold run taken written
going run true taken written e s = absurd cc
going run false taken written e s = s

pub stopped : (run : Run) (b : Bool) (taken written : List ℕ) → b ≡ true → StandsAt run b taken written → (place : ℕ) × AreLinesOf run.source taken (BadLengthAt place) written
stopped run true taken written e s = s
stopped run false taken written e s = absurd cc

pub shown_inside : (run : Run) (b : Bool) (taken written : List ℕ) → b ≡ false → run.lines ≡ [] → HasTold run taken written → HasShown (record { run = run; stopped = b }) taken written
shown_inside run true taken written e none told = absurd cc
shown_inside run false taken written e none told =
    let s = all_written run.source run.source taken run.offset run.partial written run.lines told.so_far none refl in
    record { certain = inl (lines_of_frames run.source taken run.offset run.partial written s); are_bytes = s.are_bytes; stands = (none, told) }

pub shown_stopped : (run : Run) (b : Bool) (taken written : List ℕ) (place : ℕ) → b ≡ true → AreBytes taken → AreLinesOf run.source taken (BadLengthAt place) written → HasShown (record { run = run; stopped = b }) taken written
shown_stopped run false taken written place e bytes are = absurd cc
shown_stopped run true taken written place e bytes are = record { certain = inr (place, are); are_bytes = bytes; stands = (place, are) }

-- the line of a bad length was written, or a beginning of it
pub all_of_bad_length : (source : Source) (bytes written more : List ℕ) (place : ℕ) → IsLeft source bytes (BadLengthAt place) (written ++ more)
    → AreLinesOf source bytes (BadLengthAt place) (written ++ (more ++ last_line source (BadLengthAt place)))
all_of_bad_length source bytes written more place left =
    subst (λ (t : List ℕ). AreLinesOf source bytes (BadLengthAt place) t) (append_assoc written more (last_line source (BadLengthAt place))) (all_lines source bytes (BadLengthAt place) (written ++ more) left)

pub begun_of_bad_length : (source : Source) (bytes written more front behind : List ℕ) (place : ℕ) → IsLeft source bytes (BadLengthAt place) (written ++ more) → last_line source (BadLengthAt place) ≡ front ++ behind
    → BeginsLines source bytes (written ++ (more ++ front))
begun_of_bad_length source bytes written more front behind place left e =
    begins_so source bytes bytes ((written ++ more) ++ front) (written ++ (more ++ front)) (record {
      lines = (written ++ more) ++ last_line source (BadLengthAt place);
      more = behind;
      are = inr (place, all_lines source bytes (BadLengthAt place) (written ++ more) left);
      begins = ap (λ (t : List ℕ). (written ++ more) ++ t) e ∙ sym (append_assoc (written ++ more) front behind);
    }) refl (append_assoc written more front)
