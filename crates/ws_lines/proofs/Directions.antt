-- One direction of a transcript: one turn more, more bytes in the last turn, and its end.
use Rattle.std.proofs.Common.{◌≡◌, ℕ, ◌+◌, List, [], ◌∷◌, ◌++◌, length, take, refl, sym, ap, ◌∙◌, append_assoc, append-nil, arith, inl, inr, subst}
use Rattle.std.specs.List.{flat_map, AllByRecursion}
use Rattle.std.proofs.lemmas.Bool.{cases_lt}
use Rattle.std.proofs.lemmas.List.{length-append, take-append-le, take_all}
use Rattle.std.proofs.lemmas.Grind.{flat_map-append}
use Rattle.ws_wire.specs.Header.{AreBytes}
use Rattle.ws_frame.specs.declared.source.Source.{Source}
use Rattle.ws_frame.specs.declared.frame_lines.FrameLines.{FrameLines}
use Rattle.ws_frame.specs.Lines.{AreCertainLines}
use Rattle.ws_frame.specs.FrameStreaming.{HasTakenFrames, frames_source, keeps_frames}
use Rattle.ws_frame.proofs.Partials.{AreBytes-append}
use Rattle.ws_frame.proofs.Streams.{certain_lines_go_on}
use Rattle.ws_scripts.specs.declared.transcript.Turn.{Turn}
use Rattle.ws_scripts.specs.Captures.{AreOfBytes}
use Rattle.ws_lines.specs.TurnLines.{TurnLines, Direction, StandInTheirTurns, bytes_in, lines_in}
use Rattle.ws_lines.specs.Telling.{IsToldIn}

-- ---- lists

pub one_more : {X : Type 0} (f : X → List ℕ) (xs : List X) (x : X) → flat_map f (xs ++ x ∷ []) ≡ flat_map f xs ++ f x
one_more f xs x = flat_map-append f xs (x ∷ []) ∙ ap (λ (t : List ℕ). flat_map f xs ++ t) (append-nil (f x))

pub length-one-more : {X : Type 0} (xs : List X) (x : X) → length (xs ++ x ∷ []) ≡ length xs + 1
length-one-more xs x = length-append xs (x ∷ [])

-- a list that isn't empty has a last item
pub record SomeLast {X : Type 0} (xs : List X) (n : ℕ) : Type 0 where
  pub front : List X
  pub last : X
  pub parts : xs ≡ front ++ last ∷ []
  pub count : length front ≡ n

pub some_last : {X : Type 0} (xs : List X) (n : ℕ) → length xs ≡ n + 1 → SomeLast xs n
some_last [] n e = absurd (omega (arith, e))
some_last (x ∷ []) n e = record { front = []; last = x; parts = refl; count = omega (arith, e) }
some_last (x ∷ y ∷ xs) n e =
    let s = some_last (y ∷ xs) (length xs) (omega arith) in
    record { front = x ∷ s.front; last = s.last; parts = ap (λ (t : _). x ∷ t) s.parts; count = omega (arith, e, s.count) }

-- ---- lines by turns

pub certain_so : (d : Direction) (a a' : List Turn) (b b' : List TurnLines) → a ≡ a' → b ≡ b' → AreCertainLines d.source (bytes_in d a) (lines_in d b) → AreCertainLines d.source (bytes_in d a') (lines_in d b')
certain_so d a a' b b' ea eb c =
    subst (λ (t : List Turn). AreCertainLines d.source (bytes_in d t) (lines_in d b')) ea (subst (λ (t : List TurnLines). AreCertainLines d.source (bytes_in d a) (lines_in d t)) eb c)

-- all lines so far are certain
pub certain_so_far : (d : Direction) (turns : List Turn) (lines : List TurnLines) → length lines ≡ length turns → StandInTheirTurns d turns lines → AreCertainLines d.source (bytes_in d turns) (lines_in d lines)
certain_so_far d turns lines e s =
    certain_so d (take (length turns) turns) turns (take (length turns) lines) lines (take_all (length turns) turns (omega arith)) (take_all (length turns) lines (omega (arith, e))) (s (length turns) (omega arith))

pub stand_more : (d : Direction) (turns : List Turn) (turn : Turn) (lines : List TurnLines) (line : TurnLines) → length lines ≡ length turns → StandInTheirTurns d turns lines
    → AreCertainLines d.source (bytes_in d (turns ++ turn ∷ [])) (lines_in d (lines ++ line ∷ [])) → StandInTheirTurns d (turns ++ turn ∷ []) (lines ++ line ∷ [])
stand_more d turns turn lines line e s last = λ n le. elim (cases_lt n (length turns + 1)) [
  | inl small ↦ certain_so d (take n turns) (take n (turns ++ turn ∷ [])) (take n lines) (take n (lines ++ line ∷ [])) (sym (take-append-le n turns (turn ∷ []) (omega (arith, small))))
      (sym (take-append-le n lines (line ∷ []) (omega (arith, small, e)))) (s n (omega (arith, small)))
  | inr big ↦ certain_so d (turns ++ turn ∷ []) (take n (turns ++ turn ∷ [])) (lines ++ line ∷ []) (take n (lines ++ line ∷ [])) (sym (take_all n (turns ++ turn ∷ []) (omega (arith, big, length-one-more turns turn))))
      (sym (take_all n (lines ++ line ∷ []) (omega (arith, big, e, length-one-more lines line)))) last
]

pub stand_front : (d : Direction) (turns more : List Turn) (lines others : List TurnLines) → length lines ≡ length turns → StandInTheirTurns d (turns ++ more) (lines ++ others) → StandInTheirTurns d turns lines
stand_front d turns more lines others e s = λ n le.
    certain_so d (take n (turns ++ more)) (take n turns) (take n (lines ++ others)) (take n lines) (take-append-le n turns more le) (take-append-le n lines others (omega (arith, e, le)))
    (s n (omega (arith, le, length-append turns more)))

-- ---- what a stream has shown

shown_so : (s : FrameLines) (a a' b b' : List ℕ) → a ≡ a' → b ≡ b' → HasTakenFrames s a b → HasTakenFrames s a' b'
shown_so s a a' b b' ea eb h = subst (λ (t : List ℕ). HasTakenFrames s t b') ea (subst (λ (t : List ℕ). HasTakenFrames s a t) eb h)

pub certain_of : (source : Source) (s : FrameLines) (a b : List ℕ) → frames_source s ≡ source → HasTakenFrames s a b → AreCertainLines source a b
certain_of source s a b e h = subst (λ (r : Source). AreCertainLines r a b) e h.certain

-- a turn more
pub turn_told : (d : Direction) (old new : FrameLines) (turns : List Turn) (turn : Turn) (lines : List TurnLines) (line : TurnLines) → length lines ≡ length turns → IsToldIn d old turns lines → frames_source new ≡ frames_source old
    → keeps_frames new ≡ keeps_frames old → HasTakenFrames new (bytes_in d turns ++ d.bytes turn) (lines_in d lines ++ d.lines line) → IsToldIn d new (turns ++ turn ∷ []) (lines ++ line ∷ [])
turn_told d old new turns turn lines line each told e kept shown =
    let all = shown_so new (bytes_in d turns ++ d.bytes turn) (bytes_in d (turns ++ turn ∷ [])) (lines_in d lines ++ d.lines line) (lines_in d (lines ++ line ∷ [])) (sym (one_more d.bytes turns turn)) (sym (one_more d.lines lines line)) shown in
    let source = e ∙ told.source in
    record {
      source = source;
      stand = stand_more d turns turn lines line each told.stand (certain_of d.source new (bytes_in d (turns ++ turn ∷ [])) (lines_in d (lines ++ line ∷ [])) source all);
      kept = kept ∙ told.kept;
      shown = all;
    }

-- nothing more of a stream
pub shown_nothing : (s : FrameLines) (a b : List ℕ) → HasTakenFrames s a b → HasTakenFrames s (a ++ []) (b ++ [])
shown_nothing s a b h = shown_so s a (a ++ []) b (b ++ []) (sym (append-nil a)) (sym (append-nil b)) h

again : {X : Type 0} (f : X → List ℕ) (xs : List X) (x y : X) (more : List ℕ) → f y ≡ f x ++ more → flat_map f (xs ++ x ∷ []) ++ more ≡ flat_map f (xs ++ y ∷ [])
again f xs x y more e =
    ap (λ (t : List ℕ). t ++ more) (one_more f xs x) ∙ append_assoc (flat_map f xs) (f x) more ∙ ap (λ (t : List ℕ). flat_map f xs ++ t) (sym e) ∙ sym (one_more f xs y)

-- more bytes, and lines, in the last turn
pub certain_again : (d : Direction) (turns : List Turn) (turn next : Turn) (lines : List TurnLines) (line other : TurnLines) (piece more : List ℕ) → d.bytes next ≡ d.bytes turn ++ piece → d.lines other ≡ d.lines line ++ more
    → AreCertainLines d.source (bytes_in d (turns ++ turn ∷ []) ++ piece) (lines_in d (lines ++ line ∷ []) ++ more) → AreCertainLines d.source (bytes_in d (turns ++ next ∷ [])) (lines_in d (lines ++ other ∷ []))
certain_again d turns turn next lines line other piece more eb el c =
    subst (λ (t : List ℕ). AreCertainLines d.source t (lines_in d (lines ++ other ∷ []))) (again d.bytes turns turn next piece eb)
    (subst (λ (t : List ℕ). AreCertainLines d.source (bytes_in d (turns ++ turn ∷ []) ++ piece) t) (again d.lines lines line other more el) c)

pub more_told : (d : Direction) (old new : FrameLines) (turns : List Turn) (turn next : Turn) (lines : List TurnLines) (line other : TurnLines) (piece more : List ℕ) → length lines ≡ length turns
    → IsToldIn d old (turns ++ turn ∷ []) (lines ++ line ∷ []) → frames_source new ≡ frames_source old → keeps_frames new ≡ keeps_frames old → d.bytes next ≡ d.bytes turn ++ piece → d.lines other ≡ d.lines line ++ more
    → HasTakenFrames new (bytes_in d (turns ++ turn ∷ []) ++ piece) (lines_in d (lines ++ line ∷ []) ++ more) → IsToldIn d new (turns ++ next ∷ []) (lines ++ other ∷ [])
more_told d old new turns turn next lines line other piece more each told e kept eb el shown =
    let all = shown_so new (bytes_in d (turns ++ turn ∷ []) ++ piece) (bytes_in d (turns ++ next ∷ [])) (lines_in d (lines ++ line ∷ []) ++ more) (lines_in d (lines ++ other ∷ []))
    (again d.bytes turns turn next piece eb) (again d.lines lines line other more el) shown in
    let source = e ∙ told.source in
    record {
      source = source;
      stand = stand_more d turns next lines other each (stand_front d turns (turn ∷ []) lines (line ∷ []) each told.stand) (certain_of d.source new (bytes_in d (turns ++ next ∷ [])) (lines_in d (lines ++ other ∷ [])) source all);
      kept = kept ∙ told.kept;
      shown = all;
    }

-- ---- there are lines for whatever comes

pub bytes_of_turns : (d : Direction) → ((turn : Turn) → AreOfBytes turn → AreBytes (d.bytes turn)) → (turns : List Turn) → AllByRecursion AreOfBytes turns → AreBytes (bytes_in d turns)
bytes_of_turns d each [] all = λ i. omega arith
bytes_of_turns d each (turn ∷ turns) (one, all) = AreBytes-append (d.bytes turn) (bytes_in d turns) (each turn one) (bytes_of_turns d each turns all)

-- the lines of more bytes, behind those so far
pub some_more : (d : Direction) (turns : List Turn) (lines : List TurnLines) (piece : List ℕ) → AreBytes (bytes_in d turns) → AreBytes piece → length lines ≡ length turns → StandInTheirTurns d turns lines
    → (next : List ℕ) × AreCertainLines d.source (bytes_in d turns ++ piece) (lines_in d lines ++ next)
some_more d turns lines piece are are_piece e s = certain_lines_go_on d.source (bytes_in d turns) piece (lines_in d lines) are are_piece (certain_so_far d turns lines e s)

pub certain_turn : (d : Direction) (turns : List Turn) (turn : Turn) (lines : List TurnLines) (line : TurnLines) → AreCertainLines d.source (bytes_in d turns ++ d.bytes turn) (lines_in d lines ++ d.lines line)
    → AreCertainLines d.source (bytes_in d (turns ++ turn ∷ [])) (lines_in d (lines ++ line ∷ []))
certain_turn d turns turn lines line c =
    subst (λ (t : List ℕ). AreCertainLines d.source t (lines_in d (lines ++ line ∷ []))) (sym (one_more d.bytes turns turn))
    (subst (λ (t : List ℕ). AreCertainLines d.source (bytes_in d turns ++ d.bytes turn) t) (sym (one_more d.lines lines line)) c)
