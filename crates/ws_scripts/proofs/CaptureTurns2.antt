-- Format 2: which lines are read of a capture, and the turns that they are.
use Rattle.std.proofs.Common.{◌≡◌, ◌∙◌, ℕ, ◌<◌, List, [], ◌∷◌, ◌++◌, flat_map, Option, Some, None, ap, sym, refl}
use Rattle.std.proofs.Common.{subst, arith, append_assoc, append-nil}
use Rattle.std.proofs.lemmas.Grind.{flat_map-append}
use Rattle.std.specs.List.{AllByRecursion}
use Rattle.ws_base.specs.Bytes.{AreBytes}
use Rattle.ws_scripts.specs.declared.transcript.Turn.{Turn}
use Rattle.ws_scripts.specs.declared.transcript.Ended.{Ended}
use Rattle.ws_scripts.specs.declared.capture.Capture.{Capture}
use Rattle.ws_scripts.specs.declared.capture.line.Format.TheVariants.{Two}
use Rattle.ws_scripts.specs.declared.capture.line.Line.{Line}
use Rattle.ws_scripts.specs.declared.capture.line.Line.TheVariants.{Sent, Got}
use Rattle.ws_scripts.specs.declared.capture.line.CaptureLine.{CaptureLine}
use Rattle.ws_scripts.specs.declared.capture.line.CaptureLine.TheVariants.{First, Key, Begin, Data, End}
use Rattle.ws_scripts.specs.declared.capture.reading.PartialCapture.TheVariants.{Turns, Whole}
use Rattle.ws_scripts.specs.CaptureLines.{HasLineBytes, HasWords}
use Rattle.ws_scripts.specs.Captures.{AreOfBytes}
use Rattle.ws_scripts.specs.Captures2.{marked_turn, turn_lines}
use Rattle.ws_scripts.specs.InnerCapturing.{capture_of, open_turns, read_of, turns_then, line_in_2, with_last}
use Rattle.ws_scripts.proofs.CaptureParts.{none_whole, whole_stops}

abbrev turn_of : List ℕ → List ℕ → Turn
turn_of sent got = record { sent = sent; got = got }

abbrev Lines : Type 0
Lines = List (CaptureLine (List ℕ))

abbrev pub lines_of_turns : List Turn → Lines
lines_of_turns turns = flat_map marked_turn turns

-- ---- the lines of turns are read, and tell them

turn_read : (s g : List ℕ) (key : Option (List ℕ)) (done : List Turn) (last : Option Turn) (rest : Lines)
    → read_of (marked_turn (turn_of s g) ++ rest) (Some (Turns Two key (record { done = done; last = last })))
    ≡ read_of rest (Some (Turns Two key (open_turns (with_last done last) s g)))
turn_read [] [] key done last rest = refl
turn_read [] (y ∷ g) key done last rest = refl
turn_read (x ∷ s) [] key done last rest = refl
turn_read (x ∷ s) (y ∷ g) key done last rest = refl

pub read_in_2 : (turns : List Turn) (end : Ended) (key : Option (List ℕ)) (done : List Turn) (last : Option Turn)
    → read_of (lines_of_turns turns ++ End end ∷ []) (Some (Turns Two key (record { done = done; last = last })))
    ≡ Some (Whole (capture_of key (with_last done last ++ turns) end))
read_in_2 [] end key done last = ap (λ (l : List Turn). Some (Whole (capture_of key l end)))
    (sym (append-nil (with_last done last)))
read_in_2 (turn ∷ turns) end key done last =
    let all = with_last done last in
    ap (λ (l : Lines). read_of l (Some (Turns Two key (record { done = done; last = last }))))
    (append_assoc (marked_turn turn) (lines_of_turns turns) (End end ∷ []))
    ∙ (turn_read turn.sent turn.got key done last (lines_of_turns turns ++ End end ∷ [])
    ∙ (read_in_2 turns end key all (Some turn)
    ∙ ap (λ (l : List Turn). Some (Whole (capture_of key l end))) (append_assoc all (turn ∷ []) turns)))

-- ---- and no others are

-- a last turn, before more lines
last_lines : (done : List Turn) (turn : Turn) (lines : Lines)
    → lines_of_turns (done ++ turn ∷ []) ++ lines ≡ lines_of_turns done ++ (marked_turn turn ++ lines)
last_lines done turn lines =
    ap (λ (l : Lines). l ++ lines)
    (flat_map-append marked_turn done (turn ∷ [])
    ∙ ap (λ (l : Lines). lines_of_turns done ++ l) (append-nil (marked_turn turn)))
    ∙ append_assoc (lines_of_turns done) (marked_turn turn) lines

-- with these turns and then these lines, the capture is read
abbrev AreRead : Option (List ℕ) → List Turn → Lines → Capture → Type 0
AreRead key turns lines capture = (lines_of_turns turns ++ lines ≡ turn_lines capture.transcript) × (capture.key ≡ key)

one_more : (key : Option (List ℕ)) (done : List Turn) (old new : Turn) (line : CaptureLine (List ℕ)) (lines : Lines)
    (capture : Capture)
    → marked_turn new ++ lines ≡ marked_turn old ++ line ∷ lines → AreRead key (done ++ new ∷ []) lines capture
    → AreRead key (done ++ old ∷ []) (line ∷ lines) capture
one_more key done old new line lines capture e are = (
  last_lines done old (line ∷ lines)
      ∙ (ap (λ (l : Lines). lines_of_turns done ++ l) (sym e) ∙ (sym (last_lines done new lines) ∙ are.0)),
  are.1,
)

data_read : (line : Line (List ℕ)) (s g : List ℕ) (lines : Lines) (key : Option (List ℕ)) (done : List Turn)
    (capture : Capture) → HasLineBytes line
    → ((new : Turn)
    → read_of lines (Some (Turns Two key (record { done = done; last = Some new }))) ≡ Some (Whole capture)
    → AreRead key (done ++ new ∷ []) lines capture)
    → read_of lines (turns_then Two key (line_in_2 done (Some (turn_of s g)) line)) ≡ Some (Whole capture)
    → AreRead key (done ++ turn_of s g ∷ []) (Data line ∷ lines) capture
data_read (Sent []) s g lines key done capture h later e = absurd (let none : 0 < 0 = h.0 in omega arith)
data_read (Got []) s g lines key done capture h later e = absurd (let none : 0 < 0 = h.0 in omega arith)
data_read (Sent (x ∷ xs)) [] [] lines key done capture h later e =
    one_more key done (turn_of [] []) (turn_of (x ∷ xs) []) (Data (Sent (x ∷ xs))) lines capture refl
    (later (turn_of (x ∷ xs) []) e)
data_read (Sent (x ∷ xs)) (a ∷ s) [] lines key done capture h later e = absurd (none_whole lines capture e)
data_read (Sent (x ∷ xs)) s (b ∷ g) lines key done capture h later e = absurd (none_whole lines capture e)
data_read (Got (x ∷ xs)) [] [] lines key done capture h later e =
    one_more key done (turn_of [] []) (turn_of [] (x ∷ xs)) (Data (Got (x ∷ xs))) lines capture refl
    (later (turn_of [] (x ∷ xs)) e)
data_read (Got (x ∷ xs)) (a ∷ s) [] lines key done capture h later e =
    one_more key done (turn_of (a ∷ s) []) (turn_of (a ∷ s) (x ∷ xs)) (Data (Got (x ∷ xs))) lines capture refl
    (later (turn_of (a ∷ s) (x ∷ xs)) e)
data_read (Got (x ∷ xs)) s (b ∷ g) lines key done capture h later e = absurd (none_whole lines capture e)

pub lines_in_2 : (lines : Lines) (key : Option (List ℕ)) (done : List Turn) (last : Option Turn) (capture : Capture)
    → AllByRecursion HasWords lines
    → read_of lines (Some (Turns Two key (record { done = done; last = last }))) ≡ Some (Whole capture)
    → AreRead key (with_last done last) lines capture
lines_in_2 [] key done last capture h e = absurd cc
lines_in_2 (First format ∷ lines) key done last capture h e = absurd (none_whole lines capture e)
lines_in_2 (Key other ∷ lines) key done last capture h e = absurd (none_whole lines capture e)
lines_in_2 (Begin ∷ lines) key done last capture h e =
    let all = with_last done last in
    let later = lines_in_2 lines key all (Some (turn_of [] [])) capture h.1 e in
    (sym (last_lines all (turn_of [] []) lines) ∙ later.0, later.1)
lines_in_2 (Data line ∷ lines) key done None capture h e = absurd (none_whole lines capture e)
lines_in_2 (Data line ∷ lines) key done (Some turn) capture h e =
    data_read line turn.sent turn.got lines key done capture h.0
    (λ new f. lines_in_2 lines key done (Some new) capture h.1 f) e
lines_in_2 (End end ∷ lines) key done last capture h e =
    let all = with_last done last in
    let last_one = whole_stops lines (capture_of key all end) capture e in (
      ap (λ (l : Lines). lines_of_turns all ++ End end ∷ l) last_one.0
          ∙ ap (λ (c : Capture). turn_lines c.transcript) last_one.1,
      ap (λ (c : Capture). c.key) (sym last_one.1),
    )

-- ---- their bytes

no_bytes : AreBytes []
no_bytes i = omega arith

turn_has : (s g : List ℕ) (rest : Lines) → AreOfBytes (turn_of s g) → AllByRecursion HasWords rest
    → AllByRecursion HasWords (marked_turn (turn_of s g) ++ rest)
turn_has [] [] rest h all = (tt, all)
turn_has [] (y ∷ g) rest h all = (tt, ((omega arith, h.1), all))
turn_has (x ∷ s) [] rest h all = (tt, ((omega arith, h.0), all))
turn_has (x ∷ s) (y ∷ g) rest h all = (tt, ((omega arith, h.0), ((omega arith, h.1), all)))

pub turns_have : (turns : List Turn) (rest : Lines) → AllByRecursion AreOfBytes turns → AllByRecursion HasWords rest
    → AllByRecursion HasWords (lines_of_turns turns ++ rest)
turns_have [] rest h all = all
turns_have (turn ∷ turns) rest h all =
    subst (λ (l : Lines). AllByRecursion HasWords l) (sym (append_assoc (marked_turn turn) (lines_of_turns turns) rest))
    (turn_has turn.sent turn.got (lines_of_turns turns ++ rest) h.0 (turns_have turns rest h.1 all))

turn_holds : (s g : List ℕ) (rest : Lines) → AllByRecursion HasWords (marked_turn (turn_of s g) ++ rest)
    → AreOfBytes (turn_of s g) × AllByRecursion HasWords rest
turn_holds [] [] rest h = ((no_bytes, no_bytes), h.1)
turn_holds [] (y ∷ g) rest h = ((no_bytes, h.1.0.1), h.1.1)
turn_holds (x ∷ s) [] rest h = ((h.1.0.1, no_bytes), h.1.1)
turn_holds (x ∷ s) (y ∷ g) rest h = ((h.1.0.1, h.1.1.0.1), h.1.1.1)

pub turns_hold : (turns : List Turn) (rest : Lines) → AllByRecursion HasWords (lines_of_turns turns ++ rest)
    → AllByRecursion AreOfBytes turns
turns_hold [] rest h = tt
turns_hold (turn ∷ turns) rest h =
    let both = turn_holds turn.sent turn.got (lines_of_turns turns ++ rest)
    (subst (λ (l : Lines). AllByRecursion HasWords l)
    (append_assoc (marked_turn turn) (lines_of_turns turns) rest) h) in
    (both.0, turns_hold turns rest both.1)
