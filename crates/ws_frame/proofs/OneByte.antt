-- Where a run of `show` stands behind one more byte, and what it leaves at the end.
use Rattle.std.proofs.Common.{◌≡◌, ℕ, ◌+◌, ◌<◌, ◌≤◌, zero, suc, Bool, true, false, List, [], ◌∷◌, ◌++◌, length, take, sym, ap, ◌∙◌, append-nil, arith, subst}
use Rattle.ws_frame.specs.declared.source.Source.{Source}
use Rattle.ws_frame.specs.declared.showing.StreamEnd.TheVariants.{BadLengthAt}
use Rattle.ws_frame.specs.declared.partial.Partial.{Partial}
use Rattle.ws_wire.specs.Header.{HeaderFields, AreBytes}
use Rattle.ws_wire.specs.Masking.{masked_payload}
use Rattle.ws_wire.specs.Reading.{BeginsBadLength}
use Rattle.ws_frame.specs.declared.showing.Run.{Run}
use Rattle.ws_frame.specs.Lines.{data_word, line_with, last_line, AreLinesOf}
use Rattle.ws_frame.specs.InnerShowing.{IsPartialFrame, IsWhole, AreLinesSoFar, IsLeft, HasTold}
use Rattle.ws_frame.specs.Streaming.{HasShown}
use Rattle.ws_frame.proofs.Fronts.{all_lines}
use Rattle.ws_frame.proofs.Partials.{AreBytes-append}
use Rattle.ws_frame.proofs.Runs.{part_told, frame_told, bad_told}
use Rattle.ws_frame.proofs.Streams.{shown_inside, shown_stopped, stopped, bad_length_stays}

pub one_byte : (byte : ℕ) → byte < 256 → AreBytes (byte ∷ [])
one_byte byte lt zero = lt
one_byte byte lt (suc i) = omega arith

-- of one byte one is used
all_of_byte : (byte used : ℕ) → 0 < used → used ≤ 1 → take used (byte ∷ []) ≡ byte ∷ []
all_of_byte byte used some le =
    let one : used ≡ 1 = omega (arith, some, le) in
    ap (λ n. take n (byte ∷ [])) one

pub part_of_byte : (source : Source) (taken written lines : List ℕ) (byte count offset used : ℕ) (partial new : Partial) → count ≡ length taken → (s : AreLinesSoFar source taken offset partial (written ++ lines)) → AreBytes (byte ∷ [])
    → 0 < used → used ≤ 1 → IsPartialFrame (s.rest ++ take used (byte ∷ [])) new
    → (count + used ≡ length (taken ++ byte ∷ [])) × AreLinesSoFar source (taken ++ byte ∷ []) offset new (written ++ lines)
part_of_byte source taken written lines byte count offset used partial new e s are some le k =
    let all = all_of_byte byte used some le in
    let told = part_told source taken written (byte ∷ []) lines count offset used partial new e s are le k in (
      told.0 ∙ ap (λ (t : List ℕ). length (taken ++ t)) all,
      subst (λ (t : List ℕ). AreLinesSoFar source (taken ++ t) offset new (written ++ lines)) all
          (subst (λ (t : List ℕ). AreLinesSoFar source (taken ++ take used (byte ∷ [])) offset new (t ++ lines)) (append-nil written) told.1),
    )

pub frame_of_byte : (source : Source) (taken written lines waiting : List ℕ) (byte count offset used : ℕ) (partial new : Partial) (header : HeaderFields) (first : List ℕ) → count ≡ length taken
    → (s : AreLinesSoFar source taken offset partial (written ++ lines)) → AreBytes (byte ∷ []) → 0 < used → used ≤ 1 → IsWhole (s.rest ++ take used (byte ∷ [])) header first → IsPartialFrame [] new
    → lines ++ line_with source offset header (data_word header.len (masked_payload header.key first)) ≡ waiting
    → (count + used ≡ length (taken ++ byte ∷ [])) × AreLinesSoFar source (taken ++ byte ∷ []) (count + used) new (written ++ waiting)
frame_of_byte source taken written lines waiting byte count offset used partial new header first e s are some le whole k due =
    let all = all_of_byte byte used some le in
    let told = frame_told source taken written (byte ∷ []) lines [] waiting count offset used partial new header first e s are le whole k due in (
      told.0 ∙ ap (λ (t : List ℕ). length (taken ++ t)) all,
      subst (λ (t : List ℕ). AreLinesSoFar source (taken ++ t) (count + used) new (written ++ waiting)) all
          (subst (λ (t : List ℕ). AreLinesSoFar source (taken ++ take used (byte ∷ [])) (count + used) new (t ++ waiting)) (append-nil written) told.1),
    )

pub bad_at_byte : (source : Source) (taken written lines : List ℕ) (byte offset : ℕ) (partial : Partial) → lines ≡ [] → (s : AreLinesSoFar source taken offset partial (written ++ lines)) → BeginsBadLength (s.rest ++ byte ∷ [])
    → IsLeft source (taken ++ byte ∷ []) (BadLengthAt offset) written
bad_at_byte source taken written lines byte offset partial none s bad =
    subst (λ (t : List ℕ). IsLeft source (taken ++ byte ∷ []) (BadLengthAt offset) t) (append-nil written)
    (subst (λ (t : List ℕ). IsLeft source (taken ++ byte ∷ []) (BadLengthAt offset) (written ++ t)) none
    (subst (λ (t : List ℕ). IsLeft source (taken ++ byte ∷ []) (BadLengthAt offset) (t ++ lines)) (append-nil written) (bad_told source taken written (byte ∷ []) lines offset partial s bad)))

-- ---- a stream that comes byte by byte

-- the line that waited was taken out
pub line_out : (run new : Run) (taken written line : List ℕ) → new ≡ record run { lines = [] } → line ≡ run.lines → HasTold run taken written → HasTold new taken (written ++ line)
line_out run new taken written line en el told = subst (λ (r : Run). HasTold r taken (written ++ line)) (sym en) (record {
  count = told.count;
  so_far = subst (λ (t : List ℕ). AreLinesSoFar run.source taken run.offset run.partial t) (ap (λ (t : List ℕ). written ++ t) (sym el) ∙ sym (append-nil (written ++ line))) told.so_far;
})

pub byte_inside : (run new : Run) (b : Bool) (taken written line : List ℕ) → b ≡ false → new ≡ record run { lines = [] } → line ≡ run.lines → HasTold run taken written → HasShown (record { run = new; stopped = b }) taken (written ++ line)
byte_inside run new b taken written line e en el told =
    shown_inside new b taken (written ++ line) e (ap (λ (r : Run). r.lines) en) (line_out run new taken written line en el told)

pub byte_at_bad_length : (run new : Run) (b : Bool) (taken written line : List ℕ) → b ≡ true → new.source ≡ run.source → AreBytes taken → line ≡ last_line run.source (BadLengthAt run.offset) → IsLeft run.source taken (BadLengthAt run.offset) written
    → HasShown (record { run = new; stopped = b }) taken (written ++ line)
byte_at_bad_length run new b taken written line e es bytes el left =
    shown_stopped new b taken (written ++ line) run.offset e bytes
    (subst (λ (r : Source). AreLinesOf r taken (BadLengthAt run.offset) (written ++ line)) (sym es)
    (subst (λ (t : List ℕ). AreLinesOf run.source taken (BadLengthAt run.offset) (written ++ t)) (sym el) (all_lines run.source taken (BadLengthAt run.offset) written left)))

-- behind a bad length nothing more is told
pub byte_behind : (run : Run) (b : Bool) (taken written line : List ℕ) (byte : ℕ) → b ≡ true → AreBytes (byte ∷ []) → line ≡ [] → HasShown (record { run = run; stopped = b }) taken written
    → HasShown (record { run = run; stopped = b }) (taken ++ byte ∷ []) (written ++ line)
byte_behind run b taken written line byte e are el t =
    let (place, lines) = stopped run b taken written e t.stands in
    shown_stopped run b (taken ++ byte ∷ []) (written ++ line) place e (AreBytes-append taken (byte ∷ []) t.are_bytes are)
    (subst (λ (t : List ℕ). AreLinesOf run.source (taken ++ byte ∷ []) (BadLengthAt place) t) (sym (ap (λ (t : List ℕ). written ++ t) el ∙ append-nil written))
    (bad_length_stays run.source taken (byte ∷ []) written place lines))
