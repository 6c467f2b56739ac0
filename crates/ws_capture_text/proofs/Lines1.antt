-- Format 1: its lines of bytes as turns of one direction each, which are read as the kinds of lines tell.
use Rattle.std.proofs.Common.{◌≡◌, ◌≢◌, ◌∙◌, ℕ, ◌<◌, ◌==◌, Bool, true, false, inl, inr, List, [], ◌∷◌, ◌++◌, length, map, drop, flat_map, codes, ap, ap₂, sym, refl, subst, arith, Some, if◌then◌else◌}
use Rattle.std.specs.List.{AllByRecursion, AllZip}
use Rattle.ws_base.specs.Bytes.{AreBytes}
use Rattle.ws_formats.specs.Lines.{ended}
use Rattle.ws_formats.specs.Words.{hex}
use Rattle.ws_scripts.specs.declared.transcript.Turn.{Turn}
use Rattle.ws_scripts.specs.declared.transcript.Ended.{Ended}
use Rattle.ws_scripts.specs.declared.transcript.Ended.TheVariants.{Tester, Peer, Broken}
use Rattle.ws_scripts.specs.declared.transcript.Transcript.{Transcript}
use Rattle.ws_scripts.specs.CaptureLines.{HasLineBytes, bytes_of, line_words, mark_of}
use Rattle.ws_scripts.specs.Captures.{IsCaptureOf, capture_lines, lines_of_turn, run_together, turn_of_line, turns_in}
use Rattle.ws_capture_text.specs.declared.mark.Mark.{Mark}
use Rattle.ws_capture_text.specs.declared.mark.Mark.TheVariants.{Sent, Got}
use Rattle.ws_capture_text.specs.declared.line_kind.LineKind.{LineKind}
use Rattle.ws_capture_text.specs.declared.line_kind.LineKind.TheVariants as kind
use Rattle.ws_capture_text.specs.declared.stage.Stage.TheVariants.{One, Whole}
use Rattle.ws_capture_text.specs.InnerKinds.{IsKindOf}
use Rattle.ws_capture_text.specs.InnerStages.{reached}
use Rattle.ws_capture_text.proofs.StageSteps.{none_whole}

-- ---- the words of lines

abbrev pub turn_of : List ℕ → List ℕ → Turn
turn_of sent got = record { sent = sent; got = got }

-- bytes in one direction alone
abbrev pub OneWay : List ℕ → List ℕ → Type 0
OneWay [] [] = ⊥
OneWay (x ∷ sent) [] = AreBytes (x ∷ sent)
OneWay [] (y ∷ got) = AreBytes (y ∷ got)
OneWay (x ∷ sent) (y ∷ got) = ⊥

abbrev pub IsOneWay : Turn → Type 0
IsOneWay turn = OneWay turn.sent turn.got

abbrev pub word_of : List ℕ → List ℕ → List ℕ
word_of [] got = codes "< " ++ hex got
word_of (x ∷ sent) got = codes "> " ++ hex (x ∷ sent)

abbrev pub end_words : Ended → List ℕ
end_words Tester = codes "end tester"
end_words Peer = codes "end peer"
end_words Broken = codes "end broken"

-- the lines behind the first
abbrev pub words_in : List Turn → Ended → List (List ℕ)
words_in [] end = end_words end ∷ []
words_in (turn ∷ turns) end = word_of turn.sent turn.got ∷ words_in turns end

abbrev second : List (List ℕ) → List ℕ
second [] = []
second (a ∷ []) = []
second (a ∷ b ∷ l) = b

-- ---- the lines of a capture in format 1

one_word : (line : _) → HasLineBytes line
    → second (map line_words (capture_lines (line ∷ []) Peer)) ≡ word_of (turn_of_line line).sent (turn_of_line line).got
one_word line h = grind (arith, h)

sent_is : (line : _) → HasLineBytes line
    → (turn_of_line line).sent ≡ (if mark_of line == 62 then bytes_of line else [])
sent_is line h = grind (arith)

got_is : (line : _) → HasLineBytes line
    → (turn_of_line line).got ≡ (if mark_of line == 62 then [] else bytes_of line)
got_is line h = grind (arith)

ways : (b : Bool) (sent got bytes : List ℕ) → sent ≡ (if b then bytes else []) → got ≡ (if b then [] else bytes)
    → 0 < length bytes → AreBytes bytes → OneWay sent got
ways true sent got [] e f some are = absurd (omega arith)
ways false sent got [] e f some are = absurd (omega arith)
ways true sent got (x ∷ bytes) e f some are =
    subst (λ (l : List ℕ). OneWay l got) (sym e) (subst (λ (l : List ℕ). OneWay (x ∷ bytes) l) (sym f) are)
ways false sent got (x ∷ bytes) e f some are =
    subst (λ (l : List ℕ). OneWay l got) (sym e) (subst (λ (l : List ℕ). OneWay [] l) (sym f) are)

one_way : (line : _) → HasLineBytes line → IsOneWay (turn_of_line line)
one_way line h =
    ways (mark_of line == 62) (turn_of_line line).sent (turn_of_line line).got (bytes_of line) (sent_is line h)
    (got_is line h) h.0 h.1

words_are : (lines : List _) (end : Ended) → AllByRecursion HasLineBytes lines
    → map line_words (capture_lines lines end) ≡ codes "wst-capture 1" ∷ words_in (map turn_of_line lines) end
words_are [] Tester h = refl
words_are [] Peer h = refl
words_are [] Broken h = refl
words_are (line ∷ lines) end h =
    ap₂ (λ (a : List ℕ) (b : List (List ℕ)). codes "wst-capture 1" ∷ a ∷ b) (one_word line h.0)
    (ap (λ (l : List (List ℕ)). drop 1 l) (words_are lines end h.1))

are_one_way : (lines : List _) → AllByRecursion HasLineBytes lines → AllByRecursion IsOneWay (map turn_of_line lines)
are_one_way [] h = tt
are_one_way (line ∷ lines) h = (one_way line h.0, are_one_way lines h.1)

pub lines_of_1 : (transcript : Transcript) (text : List ℕ) → IsCaptureOf transcript text
    → (turns : List Turn) × AllByRecursion IsOneWay turns × (transcript.turns ≡ run_together turns)
    × (text ≡ ended (codes "wst-capture 1" ∷ words_in turns transcript.ended))
lines_of_1 transcript text is = (
  map turn_of_line is.lines,
  are_one_way is.lines is.have_bytes,
  is.are_turns,
  is.is_text ∙ ap (λ (l : List (List ℕ)). ended l) (words_are is.lines transcript.ended is.have_bytes),
)

-- ---- lines of such turns

turn_has : (sent got : List ℕ) (rest : List _) → OneWay sent got → AllByRecursion HasLineBytes rest
    → AllByRecursion HasLineBytes (lines_of_turn (turn_of sent got) ++ rest)
turn_has [] [] rest way all = absurd way
turn_has (x ∷ sent) [] rest way all = ((omega arith, way), all)
turn_has [] (y ∷ got) rest way all = ((omega arith, way), all)
turn_has (x ∷ sent) (y ∷ got) rest way all = absurd way

lines_have : (turns : List Turn) → AllByRecursion IsOneWay turns
    → AllByRecursion HasLineBytes (flat_map lines_of_turn turns)
lines_have [] ways = tt
lines_have (turn ∷ turns) ways =
    turn_has turn.sent turn.got (flat_map lines_of_turn turns) ways.0 (lines_have turns ways.1)

turn_back : (sent got : List ℕ) (rest : List _) (turns : List Turn) → OneWay sent got → map turn_of_line rest ≡ turns
    → map turn_of_line (lines_of_turn (turn_of sent got) ++ rest) ≡ turn_of sent got ∷ turns
turn_back [] [] rest turns way e = absurd way
turn_back (x ∷ sent) [] rest turns way e = ap (λ (l : List Turn). turn_of (x ∷ sent) [] ∷ l) e
turn_back [] (y ∷ got) rest turns way e = ap (λ (l : List Turn). turn_of [] (y ∷ got) ∷ l) e
turn_back (x ∷ sent) (y ∷ got) rest turns way e = absurd way

turns_back : (turns : List Turn) → AllByRecursion IsOneWay turns → map turn_of_line (flat_map lines_of_turn turns) ≡ turns
turns_back [] ways = refl
turns_back (turn ∷ turns) ways =
    turn_back turn.sent turn.got (flat_map lines_of_turn turns) turns ways.0 (turns_back turns ways.1)

pub capture_in_1 : (turns : List Turn) (end : Ended) (text : List ℕ) → AllByRecursion IsOneWay turns → end ≢ Broken
    → text ≡ ended (codes "wst-capture 1" ∷ words_in turns end)
    → (transcript : Transcript) × IsCaptureOf transcript text
capture_in_1 turns end text ways not e =
    let lines = flat_map lines_of_turn turns in
    let words = words_are lines end (lines_have turns ways)
    ∙ ap (λ (l : List Turn). codes "wst-capture 1" ∷ words_in l end) (turns_back turns ways) in (
      record { turns = turns_in lines; ended = end },
      record {
        lines = lines;
        have_bytes = lines_have turns ways;
        is_text = e ∙ ap (λ (l : List (List ℕ)). ended l) (sym words);
        not_broken = not;
        are_turns = refl;
      },
    )

-- ---- the kinds of the lines

data_kind : (sent got : List ℕ) → OneWay sent got → (mark : Mark) × IsKindOf (kind.Data mark) (word_of sent got)
data_kind [] [] way = absurd way
data_kind (x ∷ sent) [] way = (Sent, (hex (x ∷ sent), (x ∷ sent, omega arith, way, refl), refl))
data_kind [] (y ∷ got) way = (Got, (hex (y ∷ got), (y ∷ got, omega arith, way, refl), refl))
data_kind (x ∷ sent) (y ∷ got) way = absurd way

pub kinds_in_1 : (turns : List Turn) (end : Ended) → AllByRecursion IsOneWay turns → end ≢ Broken
    → (kinds : List LineKind) × AllZip IsKindOf kinds (words_in turns end) × (reached kinds (Some One) ≡ Some Whole)
kinds_in_1 [] Tester ways not = (kind.End ∷ [], (inl refl, tt), refl)
kinds_in_1 [] Peer ways not = (kind.End ∷ [], (inr refl, tt), refl)
kinds_in_1 [] Broken ways not = absurd (not refl)
kinds_in_1 (turn ∷ turns) end ways not =
    let (mark, is) = data_kind turn.sent turn.got ways.0 in
    let (kinds, are, e) = kinds_in_1 turns end ways.1 not in
    (kind.Data mark ∷ kinds, (is, are), e)

-- ---- and back

pub last_kind : (kinds : List LineKind) (lines : List (List ℕ)) → AllZip IsKindOf kinds lines
    → reached kinds (Some Whole) ≡ Some Whole → lines ≡ []
last_kind [] [] are e = refl
last_kind [] (line ∷ lines) are e = absurd are
last_kind (first ∷ kinds) lines are e = absurd (none_whole kinds e)

-- such turns and the end have these lines
abbrev pub InFormat1 : List (List ℕ) → Type 0
InFormat1 lines = (turns : List Turn) × (end : Ended) × AllByRecursion IsOneWay turns × (end ≢ Broken)
    × (lines ≡ words_in turns end)

with_data : (mark : Mark) (line : List ℕ) (lines : List (List ℕ)) → IsKindOf (kind.Data mark) line → InFormat1 lines
    → InFormat1 (line ∷ lines)
with_data mark line lines (word, ([], some, are, spelled), is) rest = absurd (omega arith)
with_data Sent line lines (word, (x ∷ bytes, some, are, spelled), is) (turns, end, ways, not, e) = (
  turn_of (x ∷ bytes) [] ∷ turns,
  end,
  (are, ways),
  not,
  ap₂ (λ (a : List ℕ) (b : List (List ℕ)). a ∷ b) (is ∙ ap (λ (l : List ℕ). codes "> " ++ l) spelled) e,
)
with_data Got line lines (word, (x ∷ bytes, some, are, spelled), is) (turns, end, ways, not, e) = (
  turn_of [] (x ∷ bytes) ∷ turns,
  end,
  (are, ways),
  not,
  ap₂ (λ (a : List ℕ) (b : List (List ℕ)). a ∷ b) (is ∙ ap (λ (l : List ℕ). codes "< " ++ l) spelled) e,
)

with_end : (line : List ℕ) (lines : List (List ℕ)) → IsKindOf kind.End line → lines ≡ [] → InFormat1 (line ∷ lines)
with_end line lines (inl is) e =
    ([], Tester, tt, (λ f. absurd cc), ap₂ (λ (a : List ℕ) (b : List (List ℕ)). a ∷ b) is e)
with_end line lines (inr is) e =
    ([], Peer, tt, (λ f. absurd cc), ap₂ (λ (a : List ℕ) (b : List (List ℕ)). a ∷ b) is e)

pub turns_in_1 : (kinds : List LineKind) (lines : List (List ℕ)) → AllZip IsKindOf kinds lines
    → reached kinds (Some One) ≡ Some Whole → InFormat1 lines
turns_in_1 [] lines are e = absurd cc
turns_in_1 (first ∷ kinds) [] are e = absurd are
turns_in_1 (kind.FirstOf1 ∷ kinds) (line ∷ lines) are e = absurd (none_whole kinds e)
turns_in_1 (kind.FirstOf2 ∷ kinds) (line ∷ lines) are e = absurd (none_whole kinds e)
turns_in_1 (kind.Key ∷ kinds) (line ∷ lines) are e = absurd (none_whole kinds e)
turns_in_1 (kind.Begin ∷ kinds) (line ∷ lines) are e = absurd (none_whole kinds e)
turns_in_1 (kind.Data mark ∷ kinds) (line ∷ lines) are e =
    with_data mark line lines are.0 (turns_in_1 kinds lines are.1 e)
turns_in_1 (kind.End ∷ kinds) (line ∷ lines) are e = with_end line lines are.0 (last_kind kinds lines are.1 e)
turns_in_1 (kind.Broken ∷ kinds) (line ∷ lines) are e = absurd (none_whole kinds e)
