-- The lines of format 1, joined, are the lines that format 2 has for their turns.
use Rattle.std.proofs.Common.{◌≡◌, ◌∙◌, ℕ, inl, inr, List, [], ◌∷◌, ◌++◌, codes, slice_index, Option, Some, None, ap, sym, refl, subst, arith, append_assoc, append-nil}
use Rattle.std.proofs.lemmas.Grind.{flat_map-append}
use Rattle.std.specs.List.{AllByRecursion}
use Rattle.std.specs.Fmt.{digits}
use Rattle.std.specs.Prelude.{⊤, ◌/◌, ◌%◌, false, ◌≢◌}
use Rattle.ws_formats.specs.Lines.{IsLine, ended}
use Rattle.ws_formats.specs.Words.{hex}
use Rattle.ws_formats.proofs.DamagedLines.{no_feed_in_line, one_line}
use Rattle.ws_formats.proofs.LetterLines.{line_by}
use Rattle.ws_scripts.specs.declared.transcript.Turn.{Turn}
use Rattle.ws_scripts.specs.declared.transcript.Ended.{Ended}
use Rattle.ws_scripts.specs.declared.transcript.Ended.TheVariants.{Tester, Peer, Broken}
use Rattle.ws_scripts.specs.declared.capture.Capture.{Capture}
use Rattle.ws_scripts.specs.Captures.{run_into, run_together}
use Rattle.ws_scripts.specs.Captures2.{IsAnyCaptureOf, written_capture2}
use Rattle.ws_capture_text.specs.declared.mark.Mark.{Mark}
use Rattle.ws_capture_text.specs.declared.mark.Mark.TheVariants.{Sent, Got}
use Rattle.ws_capture_text.specs.InnerJoining.{joined_lines}
use Rattle.ws_capture_text.proofs.OneKind.{kinds_are_lines}
use Rattle.ws_capture_text.proofs.Lines1.{IsOneWay, OneWay, kinds_in_1, lines_of_1, turn_of, words_in}
use Rattle.ws_capture_text.proofs.Lines2.{lines_with}

-- ---- a turn before others

sent_joins : (a x : ℕ) (s b : List ℕ) (turns : List Turn)
    → run_into (turn_of (a ∷ s) []) (run_into (turn_of (x ∷ b) []) turns) ≡ run_into (turn_of (a ∷ s ++ x ∷ b) []) turns
sent_joins a x s b [] = refl
sent_joins a x s b (next ∷ turns) =
    ap (λ (l : List ℕ). turn_of (a ∷ l) next.got ∷ turns) (sym (append_assoc s (x ∷ b) next.sent))

got_begins : (a y : ℕ) (s b : List ℕ) (turns : List Turn)
    → run_into (turn_of (a ∷ s) []) (run_into (turn_of [] (y ∷ b)) turns) ≡ run_into (turn_of (a ∷ s) (y ∷ b)) turns
got_begins a y s b [] = ap (λ (l : List ℕ). turn_of (a ∷ l) (y ∷ b) ∷ []) (append-nil s)
got_begins a y s b (next ∷ turns) = before next.sent next.got
  where
    before : (sent got : List ℕ)
        → run_into (turn_of (a ∷ s) []) (run_into (turn_of [] (y ∷ b)) (turn_of sent got ∷ turns))
        ≡ run_into (turn_of (a ∷ s) (y ∷ b)) (turn_of sent got ∷ turns)
    before [] got = refl
    before (z ∷ sent) got = ap (λ (l : List ℕ). turn_of (a ∷ l) (y ∷ b) ∷ turn_of (z ∷ sent) got ∷ turns) (append-nil s)

got_alone : (c : ℕ) (s g : List ℕ) → run_into (turn_of s (c ∷ g)) [] ≡ turn_of s (c ∷ g) ∷ []
got_alone c [] g = refl
got_alone c (a ∷ s) g = refl

got_joins : (c y : ℕ) (s g b : List ℕ) (turns : List Turn)
    → run_into (turn_of s (c ∷ g)) (run_into (turn_of [] (y ∷ b)) turns) ≡ run_into (turn_of s (c ∷ g ++ y ∷ b)) turns
got_joins c y s g b [] =
    ap (λ (l : List ℕ). turn_of l (c ∷ g ++ y ∷ b) ∷ []) (append-nil s) ∙ sym (got_alone c s (g ++ y ∷ b))
got_joins c y s g b (next ∷ turns) = before next.sent next.got
  where
    before : (sent got : List ℕ)
        → run_into (turn_of s (c ∷ g)) (run_into (turn_of [] (y ∷ b)) (turn_of sent got ∷ turns))
        ≡ run_into (turn_of s (c ∷ g ++ y ∷ b)) (turn_of sent got ∷ turns)
    before [] got = ap (λ (l : List ℕ). turn_of (s ++ []) (c ∷ l) ∷ turns) (sym (append_assoc g (y ∷ b) got))
    before (z ∷ sent) got =
        ap (λ (l : List ℕ). turn_of l (c ∷ g ++ y ∷ b) ∷ turn_of (z ∷ sent) got ∷ turns) (append-nil s)

sent_parts : (c x : ℕ) (s g b : List ℕ) (turns : List Turn)
    → run_into (turn_of s (c ∷ g)) (run_into (turn_of (x ∷ b) []) turns)
    ≡ turn_of s (c ∷ g) ∷ run_into (turn_of (x ∷ b) []) turns
sent_parts c x s g b [] = refl
sent_parts c x s g b (next ∷ turns) = refl

-- ---- the text of a turn before others

abbrev text_with : List Turn → Ended → List ℕ
text_with turns end = ended (lines_with turns end)

-- the text of a turn until its last LF
abbrev open_text : List ℕ → List ℕ → List ℕ
open_text [] [] = codes "turn"
open_text (a ∷ s) [] = codes "turn\n> " ++ hex (a ∷ s)
open_text [] (c ∷ g) = codes "turn\n< " ++ hex (c ∷ g)
open_text (a ∷ s) (c ∷ g) = codes "turn\n> " ++ (hex (a ∷ s) ++ (codes "\n< " ++ hex (c ∷ g)))

-- a line of digits, its LF, and more
digits_ended : (letters word more : List ℕ) → letters ++ ((word ++ 10 ∷ []) ++ more) ≡ (letters ++ word) ++ 10 ∷ more
digits_ended letters word more =
    ap (λ (l : List ℕ). letters ++ l) (append_assoc word (10 ∷ []) more) ∙ sym (append_assoc letters word (10 ∷ more))

turn_first : (s g : List ℕ) (turns : List Turn) (end : Ended)
    → text_with (turn_of s g ∷ turns) end ≡ open_text s g ++ 10 ∷ text_with turns end
turn_first [] [] turns end = refl
turn_first (a ∷ s) [] turns end = digits_ended (codes "turn\n> ") (hex (a ∷ s)) (text_with turns end)
turn_first [] (c ∷ g) turns end = digits_ended (codes "turn\n< ") (hex (c ∷ g)) (text_with turns end)
turn_first (a ∷ s) (c ∷ g) turns end =
    let more = text_with turns end in
    let front = codes "turn\n> " in
    ap (λ (l : List ℕ). front ++ l)
    (append_assoc (hex (a ∷ s)) (10 ∷ []) _
    ∙ (ap (λ (l : List ℕ). hex (a ∷ s) ++ l) (digits_ended (codes "\n< ") (hex (c ∷ g)) more)
    ∙ sym (append_assoc (hex (a ∷ s)) (codes "\n< " ++ hex (c ∷ g)) (10 ∷ more))))
    ∙ sym (append_assoc front (hex (a ∷ s) ++ (codes "\n< " ++ hex (c ∷ g))) (10 ∷ more))

hex_joined : (xs ys : List ℕ) → hex (xs ++ ys) ≡ hex xs ++ hex ys
hex_joined xs ys = flat_map-append (λ (b : ℕ). digits 16 false (b / 16) ++ digits 16 false (b % 16)) xs ys

-- ---- line after line

-- the mark of the last line of a turn in which something was sent or got
abbrev last_mark : List ℕ → Mark
last_mark [] = Sent
last_mark (c ∷ g) = Got

-- a turn with bytes
abbrev HasAny : List ℕ → List ℕ → Type 0
HasAny [] [] = ⊥
HasAny [] (c ∷ g) = ⊤
HasAny (a ∷ s) g = ⊤

-- behind an open turn the lines become what stands behind it
abbrev GoesOn : List Turn → Ended → List ℕ → List ℕ → Type 0
GoesOn turns end s g =
    open_text s g ++ joined_lines (Some (last_mark g)) (words_in turns end)
    ≡ text_with (run_into (turn_of s g) (run_together turns)) end

last_line : (end : Ended) (s g : List ℕ) → HasAny s g → GoesOn [] end s g
last_line end [] [] any = absurd any
last_line Tester (a ∷ s) [] any = sym (turn_first (a ∷ s) [] [] Tester)
last_line Peer (a ∷ s) [] any = sym (turn_first (a ∷ s) [] [] Peer)
last_line Broken (a ∷ s) [] any = sym (turn_first (a ∷ s) [] [] Broken)
last_line Tester [] (c ∷ g) any = sym (turn_first [] (c ∷ g) [] Tester)
last_line Peer [] (c ∷ g) any = sym (turn_first [] (c ∷ g) [] Peer)
last_line Broken [] (c ∷ g) any = sym (turn_first [] (c ∷ g) [] Broken)
last_line Tester (a ∷ s) (c ∷ g) any = sym (turn_first (a ∷ s) (c ∷ g) [] Tester)
last_line Peer (a ∷ s) (c ∷ g) any = sym (turn_first (a ∷ s) (c ∷ g) [] Peer)
last_line Broken (a ∷ s) (c ∷ g) any = sym (turn_first (a ∷ s) (c ∷ g) [] Broken)

-- more digits of a line
more_sent : (a x : ℕ) (s b more : List ℕ)
    → open_text (a ∷ s) [] ++ (hex (x ∷ b) ++ more) ≡ open_text (a ∷ s ++ x ∷ b) [] ++ more
more_sent a x s b more =
    sym (append_assoc (open_text (a ∷ s) []) (hex (x ∷ b)) more)
    ∙ ap (λ (l : List ℕ). l ++ more)
    (append_assoc (codes "turn\n> ") (hex (a ∷ s)) (hex (x ∷ b))
    ∙ ap (λ (l : List ℕ). codes "turn\n> " ++ l) (sym (hex_joined (a ∷ s) (x ∷ b))))

more_got : (c y : ℕ) (s g b more : List ℕ)
    → open_text s (c ∷ g) ++ (hex (y ∷ b) ++ more) ≡ open_text s (c ∷ g ++ y ∷ b) ++ more
more_got c y [] g b more =
    sym (append_assoc (open_text [] (c ∷ g)) (hex (y ∷ b)) more)
    ∙ ap (λ (l : List ℕ). l ++ more)
    (append_assoc (codes "turn\n< ") (hex (c ∷ g)) (hex (y ∷ b))
    ∙ ap (λ (l : List ℕ). codes "turn\n< " ++ l) (sym (hex_joined (c ∷ g) (y ∷ b))))
more_got c y (a ∷ s) g b more =
    let front = codes "turn\n> " in
    let sent = hex (a ∷ s) in
    let mark = codes "\n< " in
    sym (append_assoc (open_text (a ∷ s) (c ∷ g)) (hex (y ∷ b)) more)
    ∙ ap (λ (l : List ℕ). l ++ more)
    (append_assoc front (sent ++ (mark ++ hex (c ∷ g))) (hex (y ∷ b))
    ∙ ap (λ (l : List ℕ). front ++ l)
    (append_assoc sent (mark ++ hex (c ∷ g)) (hex (y ∷ b))
    ∙ ap (λ (l : List ℕ). sent ++ l)
    (append_assoc mark (hex (c ∷ g)) (hex (y ∷ b))
    ∙ ap (λ (l : List ℕ). mark ++ l) (sym (hex_joined (c ∷ g) (y ∷ b))))))

first_got : (a y : ℕ) (s b more : List ℕ)
    → open_text (a ∷ s) [] ++ ((codes "\n< " ++ hex (y ∷ b)) ++ more) ≡ open_text (a ∷ s) (y ∷ b) ++ more
first_got a y s b more =
    sym (append_assoc (open_text (a ∷ s) []) (codes "\n< " ++ hex (y ∷ b)) more)
    ∙ ap (λ (l : List ℕ). l ++ more) (append_assoc (codes "turn\n> ") (hex (a ∷ s)) (codes "\n< " ++ hex (y ∷ b)))

-- one line more, of bytes in one direction, where the lines behind it go on behind any open turn
next_line : (turns : List Turn) (end : Ended) (t u s g : List ℕ) → OneWay t u → HasAny s g
    → ((s g : List ℕ) → HasAny s g → GoesOn turns end s g) → GoesOn (turn_of t u ∷ turns) end s g
next_line turns end [] [] s g way any later = absurd way
next_line turns end (x ∷ b) (y ∷ u) s g way any later = absurd way
next_line turns end t u [] [] way any later = absurd any
next_line turns end (x ∷ b) [] (a ∷ s) [] way any later =
    more_sent a x s b (joined_lines (Some Sent) (words_in turns end))
    ∙ (later (a ∷ s ++ x ∷ b) [] tt
    ∙ ap (λ (l : List Turn). text_with l end) (sym (sent_joins a x s b (run_together turns))))
next_line turns end [] (y ∷ b) (a ∷ s) [] way any later =
    first_got a y s b (joined_lines (Some Got) (words_in turns end))
    ∙ (later (a ∷ s) (y ∷ b) tt
    ∙ ap (λ (l : List Turn). text_with l end) (sym (got_begins a y s b (run_together turns))))
next_line turns end (x ∷ b) [] s (c ∷ g) way any later =
    ap (λ (l : List ℕ). open_text s (c ∷ g) ++ 10 ∷ l) (later (x ∷ b) [] tt)
    ∙ (sym (turn_first s (c ∷ g) (run_into (turn_of (x ∷ b) []) (run_together turns)) end)
    ∙ ap (λ (l : List Turn). text_with l end) (sym (sent_parts c x s g b (run_together turns))))
next_line turns end [] (y ∷ b) s (c ∷ g) way any later =
    more_got c y s g b (joined_lines (Some Got) (words_in turns end))
    ∙ (later s (c ∷ g ++ y ∷ b) (some s)
    ∙ ap (λ (l : List Turn). text_with l end) (sym (got_joins c y s g b (run_together turns))))
  where
    some : (s : List ℕ) → HasAny s (c ∷ g ++ y ∷ b)
    some [] = tt
    some (a ∷ s) = tt

goes_on : (turns : List Turn) (end : Ended) → AllByRecursion IsOneWay turns → (s g : List ℕ) → HasAny s g
    → GoesOn turns end s g
goes_on [] end ways s g any = last_line end s g any
goes_on (turn ∷ turns) end ways s g any =
    next_line turns end turn.sent turn.got s g ways.0 any (λ s g any. goes_on turns end ways.1 s g any)

-- ---- all lines

first_line : (turns : List Turn) (end : Ended) (t u : List ℕ) → OneWay t u
    → ((s g : List ℕ) → HasAny s g → GoesOn turns end s g)
    → joined_lines None (words_in (turn_of t u ∷ turns) end)
    ≡ text_with (run_together (turn_of t u ∷ turns)) end
first_line turns end [] [] way later = absurd way
first_line turns end (x ∷ b) [] way later = later (x ∷ b) [] tt
first_line turns end [] (y ∷ b) way later = later [] (y ∷ b) tt
first_line turns end (x ∷ b) (y ∷ u) way later = absurd way

all_joined : (turns : List Turn) (end : Ended) → AllByRecursion IsOneWay turns
    → joined_lines None (words_in turns end) ≡ text_with (run_together turns) end
all_joined [] Tester ways = refl
all_joined [] Peer ways = refl
all_joined [] Broken ways = refl
all_joined (turn ∷ turns) end ways =
    first_line turns end turn.sent turn.got ways.0 (λ s g any. goes_on turns end ways.1 s g any)

-- ---- what is written of a text

abbrev first_of_1 : List ℕ
first_of_1 = codes "wst-capture 1"

other_first : (capture : Capture) (first rest : List ℕ) → IsLine first
    → first ++ 10 ∷ rest ≡ written_capture2 capture → first ≡ codes "wst-capture 2"
other_first capture first rest is e =
    (one_line first (codes "wst-capture 2") rest _ is (line_by (codes "wst-capture 2") refl) e).0

two_is_one : (first : List ℕ) → first ≡ codes "wst-capture 2" → first ≡ first_of_1 → ⊥
two_is_one first e f =
    let wrong : 50 ≡ 49 = ap (λ (l : List ℕ). slice_index l 12) (sym e ∙ f) in omega (arith, wrong)

same_written : (capture : Capture) → capture.key ≡ None → (turns : List Turn) → capture.transcript.turns ≡ turns
    → codes "wst-capture 2\nkey -\n" ++ text_with turns capture.transcript.ended ≡ written_capture2 capture
same_written capture none turns e =
    ap (λ (l : List Turn). codes "wst-capture 2\nkey -\n" ++ text_with l capture.transcript.ended) (sym e)
    ∙ ap (λ (key : Option (List ℕ)). written_capture2 (record { key = key; transcript = capture.transcript }))
    (sym none)

-- of a text in format 1: the lines behind the first, joined
pub joined_is_written : (capture : Capture) (text first rest : List ℕ) → IsAnyCaptureOf capture text
    → text ≡ first ++ 10 ∷ rest → IsLine first → first ≡ first_of_1
    → (lines : List (List ℕ)) × AllByRecursion IsLine lines × (rest ≡ ended lines)
    × (codes "wst-capture 2\nkey -\n" ++ joined_lines None lines ≡ written_capture2 capture)
joined_is_written capture text first rest (inl is) e line same =
    absurd (two_is_one first (other_first capture first rest line
    (sym e ∙ (is.2 ∙ ap (λ (l : List (List ℕ)). ended l) is.1.1))) same)
joined_is_written capture text first rest (inr (none, is)) e line same =
    let (turns, ways, together, f) = lines_of_1 capture.transcript text is in
    let end = capture.transcript.ended in
    let (kinds, are, g) = kinds_in_1 turns end ways is.not_broken in
    let parts = one_line first first_of_1 rest (ended (words_in turns end)) line (line_by first_of_1 refl) (sym e ∙ f) in (
      words_in turns end,
      kinds_are_lines kinds (words_in turns end) are,
      parts.1,
      ap (λ (l : List ℕ). codes "wst-capture 2\nkey -\n" ++ l) (all_joined turns end ways)
          ∙ same_written capture none (run_together turns) together,
    )

-- of another text, itself
pub text_is_written : (capture : Capture) (text first rest : List ℕ) → IsAnyCaptureOf capture text
    → text ≡ first ++ 10 ∷ rest → IsLine first → first ≢ first_of_1 → text ≡ written_capture2 capture
text_is_written capture text first rest (inl is) e line other = is.2 ∙ ap (λ (l : List (List ℕ)). ended l) is.1.1
text_is_written capture text first rest (inr (none, is)) e line other =
    let (turns, ways, together, f) = lines_of_1 capture.transcript text is in
    let parts = one_line first first_of_1 rest (ended (words_in turns capture.transcript.ended)) line
    (line_by first_of_1 refl) (sym e ∙ f) in
    absurd (other parts.0)

pub no_line_is_written : (capture : Capture) (text : List ℕ) → IsAnyCaptureOf capture text → IsLine text
    → text ≡ written_capture2 capture
no_line_is_written capture text (inl is) line = is.2 ∙ ap (λ (l : List (List ℕ)). ended l) is.1.1
no_line_is_written capture text (inr (none, is)) line =
    let (turns, ways, together, f) = lines_of_1 capture.transcript text is in
    absurd (no_feed_in_line first_of_1 (ended (words_in turns capture.transcript.ended)) (subst IsLine f line))
