-- Format 1: which lines are read of a capture, and the turns that they are.
use Rattle.std.proofs.Common.{◌≡◌, ◌≢◌, ◌∙◌, ℕ, ◌<◌, List, [], ◌∷◌, ◌++◌, map, flat_map, Option, Some, None, ap}
use Rattle.std.proofs.Common.{sym, refl, arith, append_assoc, append-nil}
use Rattle.std.specs.List.{AllByRecursion}
use Rattle.ws_scripts.specs.declared.transcript.Turn.{Turn}
use Rattle.ws_scripts.specs.declared.transcript.Ended.{Ended}
use Rattle.ws_scripts.specs.declared.transcript.Ended.TheVariants.{Tester, Peer, Broken}
use Rattle.ws_scripts.specs.declared.capture.Capture.{Capture}
use Rattle.ws_scripts.specs.declared.capture.line.Format.TheVariants.{One}
use Rattle.ws_scripts.specs.declared.capture.line.Line.{Line}
use Rattle.ws_scripts.specs.declared.capture.line.Line.TheVariants.{Sent, Got}
use Rattle.ws_scripts.specs.declared.capture.line.CaptureLine.{CaptureLine}
use Rattle.ws_scripts.specs.declared.capture.line.CaptureLine.TheVariants.{First, Key, Begin, Data, End}
use Rattle.ws_scripts.specs.declared.capture.reading.OpenTurns.{OpenTurns}
use Rattle.ws_scripts.specs.declared.capture.reading.PartialCapture.{PartialCapture}
use Rattle.ws_scripts.specs.declared.capture.reading.PartialCapture.TheVariants.{Turns, Whole}
use Rattle.ws_scripts.specs.CaptureLines.{HasLineBytes, HasWords}
use Rattle.ws_scripts.specs.Captures.{line_if_any, lines_of_turn, run_into, run_together, turn_of_line, turns_in}
use Rattle.ws_scripts.specs.InnerCapturing.{capture_of, line_in_1, read_of, with_last}
use Rattle.ws_scripts.proofs.CaptureParts.{none_whole, whole_stops}

abbrev turn_of : List ℕ → List ℕ → Turn
turn_of sent got = record { sent = sent; got = got }

-- ---- one line more

-- a turn with bytes, before others
abbrev onto : Turn → List Turn → List Turn
onto turn [] = turn ∷ []
onto turn (next ∷ turns) = run_into turn (next ∷ turns)

sent_begins : (x : ℕ) (xs : List ℕ) (turns : List Turn)
    → run_into (turn_of (x ∷ xs) []) turns ≡ onto (turn_of (x ∷ xs) []) turns
sent_begins x xs [] = refl
sent_begins x xs (next ∷ turns) = refl

got_begins : (x : ℕ) (xs : List ℕ) (turns : List Turn)
    → run_into (turn_of [] (x ∷ xs)) turns ≡ onto (turn_of [] (x ∷ xs)) turns
got_begins x xs [] = refl
got_begins x xs (next ∷ turns) = refl

both_begin : (x y : ℕ) (xs ys : List ℕ) (turns : List Turn)
    → run_into (turn_of (x ∷ xs) (y ∷ ys)) turns ≡ onto (turn_of (x ∷ xs) (y ∷ ys)) turns
both_begin x y xs ys [] = refl
both_begin x y xs ys (next ∷ turns) = refl

sent_joins : (s : List ℕ) (x : ℕ) (xs : List ℕ) (turns : List Turn)
    → onto (turn_of s []) (run_into (turn_of (x ∷ xs) []) turns) ≡ onto (turn_of (s ++ x ∷ xs) []) turns
sent_joins s x xs [] = refl
sent_joins s x xs (next ∷ turns) = ap (λ (l : List ℕ). turn_of l next.got ∷ turns)
    (sym (append_assoc s (x ∷ xs) next.sent))

sent_parts : (s : List ℕ) (g : ℕ) (gs : List ℕ) (x : ℕ) (xs : List ℕ) (turns : List Turn)
    → onto (turn_of s (g ∷ gs)) (run_into (turn_of (x ∷ xs) []) turns)
    ≡ turn_of s (g ∷ gs) ∷ onto (turn_of (x ∷ xs) []) turns
sent_parts s g gs x xs [] = refl
sent_parts s g gs x xs (next ∷ turns) = refl

got_next : (s g : List ℕ) (x : ℕ) (xs sent got : List ℕ) (turns : List Turn)
    → onto (turn_of s g) (run_into (turn_of [] (x ∷ xs)) (turn_of sent got ∷ turns))
    ≡ onto (turn_of s (g ++ x ∷ xs)) (turn_of sent got ∷ turns)
got_next s [] x xs [] got turns = refl
got_next s (c ∷ g) x xs [] got turns = ap (λ (l : List ℕ). turn_of (s ++ []) l ∷ turns)
    (sym (append_assoc (c ∷ g) (x ∷ xs) got))
got_next s [] x xs (y ∷ sent) got turns = ap (λ (l : List ℕ). turn_of l (x ∷ xs) ∷ turn_of (y ∷ sent) got ∷ turns)
    (append-nil s)
got_next s (c ∷ g) x xs (y ∷ sent) got turns = ap
    (λ (l : List ℕ). turn_of l ((c ∷ g) ++ x ∷ xs) ∷ turn_of (y ∷ sent) got ∷ turns) (append-nil s)

got_joins : (s g : List ℕ) (x : ℕ) (xs : List ℕ) (turns : List Turn)
    → onto (turn_of s g) (run_into (turn_of [] (x ∷ xs)) turns) ≡ onto (turn_of s (g ++ x ∷ xs)) turns
got_joins s [] x xs [] = ap (λ (l : List ℕ). turn_of l (x ∷ xs) ∷ []) (append-nil s)
got_joins s (c ∷ g) x xs [] = ap (λ (l : List ℕ). turn_of l ((c ∷ g) ++ x ∷ xs) ∷ []) (append-nil s)
got_joins s g x xs (next ∷ turns) = got_next s g x xs next.sent next.got turns

-- these turns, of which the last may go on with the first of the others
abbrev all_then : List Turn → Option Turn → List Turn → List Turn
all_then done None turns = done ++ turns
all_then done (Some turn) turns = done ++ onto turn turns

abbrev front : List Turn → List Turn → List Turn
front done turns = done ++ turns

line_joins : (done : List Turn) (s g : List ℕ) (line : Line (List ℕ)) → HasLineBytes line → (turns : List Turn)
    → all_then done (Some (turn_of s g)) (run_into (turn_of_line line) turns)
    ≡ all_then (line_in_1 done (Some (turn_of s g)) line).done (line_in_1 done (Some (turn_of s g)) line).last turns
line_joins done s g (Sent []) h turns = absurd (let none : 0 < 0 = h.0 in omega arith)
line_joins done s g (Got []) h turns = absurd (let none : 0 < 0 = h.0 in omega arith)
line_joins done s [] (Sent (x ∷ xs)) h turns = ap (front done) (sent_joins s x xs turns)
line_joins done s (g ∷ gs) (Sent (x ∷ xs)) h turns =
    ap (front done) (sent_parts s g gs x xs turns)
    ∙ sym (append_assoc done (turn_of s (g ∷ gs) ∷ []) (onto (turn_of (x ∷ xs) []) turns))
line_joins done s g (Got (x ∷ xs)) h turns = ap (front done) (got_joins s g x xs turns)

line_goes : (done : List Turn) (last : Option Turn) (line : Line (List ℕ)) → HasLineBytes line → (turns : List Turn)
    → all_then done last (run_into (turn_of_line line) turns)
    ≡ all_then (line_in_1 done last line).done (line_in_1 done last line).last turns
line_goes done None (Sent []) h turns = absurd (let none : 0 < 0 = h.0 in omega arith)
line_goes done None (Got []) h turns = absurd (let none : 0 < 0 = h.0 in omega arith)
line_goes done None (Sent (x ∷ xs)) h turns = ap (front done) (sent_begins x xs turns)
line_goes done None (Got (x ∷ xs)) h turns = ap (front done) (got_begins x xs turns)
line_goes done (Some turn) line h turns = line_joins done turn.sent turn.got line h turns

-- ---- all lines

abbrev told : Option (List ℕ) → Ended → List Turn → Option PartialCapture
told key end turns = Some (Whole (capture_of key turns end))

all_told : (done : List Turn) (last : Option Turn) → with_last done last ≡ all_then done last []
all_told done None = sym (append-nil done)
all_told done (Some turn) = refl

-- lines with bytes and a last one are read, and tell their turns
pub read_in_1 : (lines : List (Line (List ℕ))) (end : Ended) → AllByRecursion HasLineBytes lines → end ≢ Broken
    → (key : Option (List ℕ)) (done : List Turn) (last : Option Turn)
    → read_of (map Data lines ++ End end ∷ []) (Some (Turns One key (record { done = done; last = last })))
    ≡ told key end (all_then done last (turns_in lines))
read_in_1 [] Tester h not key done last = ap (told key Tester) (all_told done last)
read_in_1 [] Peer h not key done last = ap (told key Peer) (all_told done last)
read_in_1 [] Broken h not key done last = absurd (not refl)
read_in_1 (line ∷ lines) end h not key done last =
    read_in_1 lines end h.1 not key (line_in_1 done last line).done (line_in_1 done last line).last
    ∙ ap (told key end) (sym (line_goes done last line h.0 (turns_in lines)))

-- and no others are
pub lines_in_1 : (lines : List (CaptureLine (List ℕ))) (key : Option (List ℕ)) (turns : OpenTurns) (capture : Capture)
    → AllByRecursion HasWords lines
    → read_of lines (Some (Turns One key turns)) ≡ Some (Whole capture)
    → (lines_of : List (Line (List ℕ))) × (end : Ended) × (lines ≡ map Data lines_of ++ End end ∷ [])
    × AllByRecursion HasLineBytes lines_of × end ≢ Broken
lines_in_1 [] key turns capture h e = absurd cc
lines_in_1 (First format ∷ lines) key turns capture h e = absurd (none_whole lines capture e)
lines_in_1 (Key other ∷ lines) key turns capture h e = absurd (none_whole lines capture e)
lines_in_1 (Begin ∷ lines) key turns capture h e = absurd (none_whole lines capture e)
lines_in_1 (Data line ∷ lines) key turns capture h e =
    let (others, end, f, has, not) = lines_in_1 lines key (line_in_1 turns.done turns.last line) capture h.1 e in
    (line ∷ others, end, ap (λ (l : List (CaptureLine (List ℕ))). Data line ∷ l) f, (h.0, has), not)
lines_in_1 (End Tester ∷ lines) key turns capture h e = (
  [],
  Tester,
  ap (λ (l : List (CaptureLine (List ℕ))). End Tester ∷ l)
      (whole_stops lines _ capture e).0,
  tt,
  λ f. absurd cc,
)
lines_in_1 (End Peer ∷ lines) key turns capture h e = (
  [],
  Peer,
  ap (λ (l : List (CaptureLine (List ℕ))). End Peer ∷ l)
      (whole_stops lines _ capture e).0,
  tt,
  λ f. absurd cc,
)
lines_in_1 (End Broken ∷ lines) key turns capture h e = absurd (none_whole lines capture e)

-- ---- the lines of turns

nothing_runs_in : (turns : List Turn) → turns ≡ run_into (turn_of [] []) turns
nothing_runs_in [] = refl
nothing_runs_in (next ∷ turns) = refl

turn_runs_in : (sent got : List ℕ) (lines : List (Line (List ℕ)))
    → turns_in ((line_if_any Sent sent ++ line_if_any Got got) ++ lines) ≡ run_into (turn_of sent got) (turns_in lines)
turn_runs_in [] [] lines = nothing_runs_in (turns_in lines)
turn_runs_in [] (c ∷ g) lines = refl
turn_runs_in (a ∷ s) [] lines = refl
turn_runs_in (a ∷ s) (c ∷ g) lines =
    let later = turns_in lines in
    sent_begins a s (run_into (turn_of [] (c ∷ g)) later)
    ∙ (got_joins (a ∷ s) [] c g later ∙ sym (both_begin a c s g later))

pub turns_run_together : (turns : List Turn) → turns_in (flat_map lines_of_turn turns) ≡ run_together turns
turns_run_together [] = refl
turns_run_together (turn ∷ turns) =
    turn_runs_in turn.sent turn.got (flat_map lines_of_turn turns)
    ∙ ap (λ (l : List Turn). run_into turn l) (turns_run_together turns)
