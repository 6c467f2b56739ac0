-- Whatever turns follow, there are lines: so what begins those of some turns begins those of a transcript.
use Rattle.std.proofs.Common.{◌≡◌, ℕ, zero, suc, ◌+◌, ◌^◌, ◌<◌, List, [], ◌∷◌, ◌++◌, length, take, drop, get_or, Option, refl, sym, ap, ◌∙◌, append_assoc, append-nil, arith, inl, subst}
use Rattle.std.specs.List.{flat_map, AllByRecursion}
use Rattle.std.proofs.lemmas.List.{length-append, take-append-drop, drop_more}
use Rattle.std.proofs.Math.Seq.{take-add}
use Rattle.std.specs.Io.KnownBytes.{Appends}
use Rattle.ws_frame.specs.Watching.{AppendsFront}
use Rattle.ws_lines.specs.declared.transcript_lines.TranscriptLines.{TranscriptLines}
use Rattle.std.proofs.lemmas.Grind.{flat_map-append}
use Rattle.ws_lines.specs.declared.transcript_lines.Showing.{Showing}
use Rattle.ws_wire.specs.Header.{AreBytes}
use Rattle.ws_wire.proofs.Frames.{no_wire_without_header}
use Rattle.ws_wire.proofs.Splits.{all-append}
use Rattle.ws_frame.specs.declared.source.Source.{Source}
use Rattle.ws_frame.specs.Lines.{AreCertainLines}
use Rattle.ws_frame.proofs.Fronts.{no_bad_without_header}
use Rattle.ws_frame.proofs.Partials.{nothing_is_no_header}
use Rattle.ws_frame.proofs.Streams.{certain_lines_end}
use Rattle.ws_scripts.specs.declared.transcript.Turn.{Turn}
use Rattle.ws_scripts.specs.declared.transcript.Ended.{Ended}
use Rattle.ws_scripts.specs.declared.transcript.Transcript.{Transcript}
use Rattle.ws_scripts.specs.Captures.{AreOfBytes}
use Rattle.ws_lines.specs.TurnLines.{TurnLines, Direction, StandInTheirTurns, AreTurnLines, HasTurnLines, bytes_in, lines_in, sent_by_tester, got_by_tester, turns_text, end_line}
use Rattle.ws_lines.specs.Telling.{BeginsTurns, HasToldTurns, begun_turn, got_first, with_got}
use Rattle.ws_lines.proofs.Directions.{some_last, length-one-more, certain_so_far, stand_more, stand_front, certain_again, bytes_of_turns, some_more, certain_turn}
use Rattle.ws_lines.proofs.Texts.{text-one-more, turn_text, text_of_got}

-- the bytes of a direction
bytes_of : (showing : Showing) (turns : List Turn) → AllByRecursion AreOfBytes turns → AreBytes (bytes_in (sent_by_tester showing) turns) × AreBytes (bytes_in (got_by_tester showing) turns)
bytes_of showing turns all = (bytes_of_turns (sent_by_tester showing) (λ turn are. are.0) turns all, bytes_of_turns (got_by_tester showing) (λ turn are. are.1) turns all)

-- ---- one turn more

-- lines of more turns, whose text goes on from that of fewer
pub record GoesOn (showing : Showing) (turns : List Turn) (text : List ℕ) : Type 0 where
  pub lines : List TurnLines
  pub are : AreTurnLines showing turns lines
  pub more : List ℕ
  pub goes_on : turns_text 1 lines ≡ text ++ more

pub turn_goes_on : (showing : Showing) (turns : List Turn) (turn : Turn) (lines : List TurnLines) → AreTurnLines showing turns lines → AllByRecursion AreOfBytes turns → AreOfBytes turn → GoesOn showing (turns ++ turn ∷ []) (turns_text 1 lines)
turn_goes_on showing turns turn lines a all one =
    let from = sent_by_tester showing in
    let to = got_by_tester showing in
    let (are_sent, are_got) = bytes_of showing turns all in
    let (sent, certain_sent) = some_more from turns lines turn.sent are_sent one.0 a.one_each a.sent in
    let (got, certain_got) = some_more to turns lines turn.got are_got one.1 a.one_each a.got in
    let line : TurnLines = record { sent = sent; got = got } in
    record {
      lines = lines ++ line ∷ [];
      are = record {
        one_each = omega (arith, a.one_each, length-one-more lines line, length-one-more turns turn);
        sent = stand_more from turns turn lines line a.one_each a.sent (certain_turn from turns turn lines line certain_sent);
        got = stand_more to turns turn lines line a.one_each a.got (certain_turn to turns turn lines line certain_got);
      };
      more = turn_text (1 + length lines) line;
      goes_on = text-one-more 1 lines line;
    }

-- in the last turn something is got, where nothing was
pub got_goes_on : (showing : Showing) (turns : List Turn) (turn : Turn) (lines : List TurnLines) → AreTurnLines showing (turns ++ begun_turn turn.sent ∷ []) lines → AllByRecursion AreOfBytes turns → AreOfBytes turn
    → GoesOn showing (turns ++ turn ∷ []) (turns_text 1 lines)
got_goes_on showing turns turn lines a all one =
    let from = sent_by_tester showing in
    let to = got_by_tester showing in
    let begun = begun_turn turn.sent in
    let s = some_last lines (length turns) (a.one_each ∙ length-one-more turns begun) in
    let parted = s.front ++ s.last ∷ [] in
    let sent = subst (λ (l : List TurnLines). StandInTheirTurns from (turns ++ begun ∷ []) l) s.parts a.sent in
    let got = subst (λ (l : List TurnLines). StandInTheirTurns to (turns ++ begun ∷ []) l) s.parts a.got in
    let each : length parted ≡ length (turns ++ begun ∷ []) = omega (arith, s.count, length-one-more s.front s.last, length-one-more turns begun) in
    let (are_sent, are_got) = bytes_of showing (turns ++ begun ∷ []) (all-append AreOfBytes turns (begun ∷ []) all ((one.0, λ i. omega arith), tt)) in
    let (more, certain_got) = some_more to (turns ++ begun ∷ []) parted turn.got are_got one.1 each got in
    let other : TurnLines = record { sent = s.last.sent; got = s.last.got ++ more } in
    let certain_sent = certain_so_far from (turns ++ begun ∷ []) parted each sent in
    let same_sent = subst (λ (t : List ℕ). AreCertainLines from.source (bytes_in from (turns ++ begun ∷ []) ++ []) t) (sym (append-nil (lines_in from parted)))
    (subst (λ (t : List ℕ). AreCertainLines from.source t (lines_in from parted)) (sym (append-nil (bytes_in from (turns ++ begun ∷ [])))) certain_sent) in
    record {
      lines = s.front ++ other ∷ [];
      are = record {
        one_each = omega (arith, s.count, length-one-more s.front other, length-one-more turns turn);
        sent = stand_more from turns turn s.front other s.count (stand_front from turns (begun ∷ []) s.front (s.last ∷ []) s.count sent)
            (certain_again from turns begun turn s.front s.last other [] [] (sym (append-nil turn.sent)) (sym (append-nil s.last.sent)) same_sent);
        got = stand_more to turns turn s.front other s.count (stand_front to turns (begun ∷ []) s.front (s.last ∷ []) s.count got) (certain_again to turns begun turn s.front s.last other turn.got more refl refl certain_got);
      };
      more = more;
      goes_on = text_of_got s.front s.last.sent s.last.got more ∙ ap (λ (l : List TurnLines). turns_text 1 l ++ more) (sym s.parts);
    }

-- any turns follow
pub turns_go_on : (showing : Showing) (turns after : List Turn) (lines : List TurnLines) → AreTurnLines showing turns lines → AllByRecursion AreOfBytes turns → AllByRecursion AreOfBytes after → GoesOn showing (turns ++ after) (turns_text 1 lines)
turns_go_on showing turns [] lines a all more =
    record { lines = lines; are = subst (λ (l : List Turn). AreTurnLines showing l lines) (sym (append-nil turns)) a; more = []; goes_on = sym (append-nil (turns_text 1 lines)) }
turns_go_on showing turns (turn ∷ after) lines a all (one, more) =
    let s = turn_goes_on showing turns turn lines a all one in
    let t = turns_go_on showing (turns ++ turn ∷ []) after s.lines s.are (all-append AreOfBytes turns (turn ∷ []) all (one, tt)) more in
    record {
      lines = t.lines;
      are = subst (λ (l : List Turn). AreTurnLines showing l t.lines) (append_assoc turns (turn ∷ []) after) t.are;
      more = s.more ++ t.more;
      goes_on = t.goes_on ∙ ap (λ (l : List ℕ). l ++ t.more) s.goes_on ∙ append_assoc (turns_text 1 lines) s.more t.more;
    }

-- ---- all lines

-- a text of lines of a transcript that begins so
pub record SomeText (showing : Showing) (transcript : Transcript) (front : List ℕ) : Type 0 where
  pub text : List ℕ
  pub has : HasTurnLines showing transcript text
  pub more : List ℕ
  pub begins : text ≡ front ++ more

pub turns_end : (showing : Showing) (turns : List Turn) (ended : Ended) (lines : List TurnLines) → AreTurnLines showing turns lines → SomeText showing (record { turns = turns; ended = ended }) (turns_text 1 lines)
turns_end showing turns ended lines a =
    let from = sent_by_tester showing in
    let to = got_by_tester showing in
    let (sent_end, sent_cut, sent) = certain_lines_end from.source (bytes_in from turns) (lines_in from lines) (certain_so_far from turns lines a.one_each a.sent) in
    let (got_end, got_cut, got) = certain_lines_end to.source (bytes_in to turns) (lines_in to lines) (certain_so_far to turns lines a.one_each a.got) in
    let last = sent_cut ++ (got_cut ++ end_line ended) in
    record {
      text = turns_text 1 lines ++ last;
      has = record { lines = lines; are_lines = a; sent_cut = sent_cut; is_sent_cut = (sent_end, sent); got_cut = got_cut; is_got_cut = (got_end, got); all = refl };
      more = last;
      begins = refl;
    }

text_goes_on : (showing : Showing) (transcript : Transcript) (front between text more : List ℕ) (s : SomeText showing transcript text) → text ≡ front ++ between → SomeText showing transcript front
text_goes_on showing transcript front between text more s e =
    record { text = s.text; has = s.has; more = between ++ s.more; begins = s.begins ∙ ap (λ (t : List ℕ). t ++ s.more) e ∙ append_assoc front between s.more }

-- what begins the lines of turns begins those of a transcript that goes on from them
pub begun_so_far : (showing : Showing) (turns after : List Turn) (ended : Ended) (front : List ℕ) → BeginsTurns showing turns front → AllByRecursion AreOfBytes turns → AllByRecursion AreOfBytes after
    → SomeText showing (record { turns = turns ++ after; ended = ended }) front
begun_so_far showing turns after ended front b all more =
    let s = turns_go_on showing turns after b.lines b.are_lines all more in
    let t = turns_end showing (turns ++ after) ended s.lines s.are in
    text_goes_on showing (record { turns = turns ++ after; ended = ended }) front (b.more ++ s.more) (turns_text 1 s.lines) [] t
    (s.goes_on ∙ ap (λ (l : List ℕ). l ++ s.more) b.begins ∙ append_assoc front b.more s.more)

pub begun_before_got : (showing : Showing) (turns after : List Turn) (turn : Turn) (ended : Ended) (front : List ℕ) → BeginsTurns showing (turns ++ begun_turn turn.sent ∷ []) front → AllByRecursion AreOfBytes turns → AreOfBytes turn
    → AllByRecursion AreOfBytes after → SomeText showing (record { turns = (turns ++ turn ∷ []) ++ after; ended = ended }) front
begun_before_got showing turns after turn ended front b all one more =
    let s = got_goes_on showing turns turn b.lines b.are_lines all one in
    begun_so_far showing (turns ++ turn ∷ []) after ended front (record { lines = s.lines; are_lines = s.are; more = b.more ++ s.more; begins = s.goes_on ∙ ap (λ (l : List ℕ). l ++ s.more) b.begins ∙ append_assoc front b.more s.more })
    (all-append AreOfBytes turns (turn ∷ []) all (one, tt)) more

-- what begins the first turn, before anything is got, begins it with that
pub begins_first : (showing : Showing) (piece front : List ℕ) → AreBytes piece
    → BeginsTurns showing (begun_turn [] ∷ []) front → BeginsTurns showing (got_first piece ∷ []) front
begins_first showing piece front are b =
    let s = got_goes_on showing [] (got_first piece) b.lines b.are_lines tt (λ i. omega arith, are) in
    record {
      lines = s.lines;
      are_lines = s.are;
      more = b.more ++ s.more;
      begins = s.goes_on ∙ ap (λ (l : List ℕ). l ++ s.more) b.begins ∙ append_assoc front b.more s.more;
    }

-- ---- every transcript

nothing_certain : (source : Source) → AreCertainLines source [] []
nothing_certain source = inl (record {
  frames = [];
  rest = [];
  split = record { each = tt; whole = refl; left = no_wire_without_header [] nothing_is_no_header };
  goes_on = no_bad_without_header [] nothing_is_no_header;
  all = refl;
})

no_turns : (d : Direction) → StandInTheirTurns d [] []
no_turns d zero le = nothing_certain d.source
no_turns d (suc n) le = absurd (omega (arith, le))

pub some_text : (showing : Showing) (transcript : Transcript) → AllByRecursion AreOfBytes transcript.turns → (text : List ℕ) × HasTurnLines showing transcript text
some_text showing transcript all =
    let none : AreTurnLines showing [] [] = record { one_each = refl; sent = no_turns (sent_by_tester showing); got = no_turns (got_by_tester showing) } in
    let s = begun_so_far showing [] transcript.turns transcript.ended [] (record { lines = []; are_lines = none; more = []; begins = refl }) tt all in
    (s.text, s.has)

-- ---- the turns of a list

pub all_around : (turns : List Turn) (i : ℕ) (turn : Turn) → i < length turns → turn ≡ get_or turns i turn → (take i turns ++ turn ∷ []) ++ drop (i + 1) turns ≡ turns
all_around turns i turn less is =
    append_assoc (take i turns) (turn ∷ []) (drop (i + 1) turns) ∙ ap (λ (t : List Turn). take i turns ++ t) (sym (drop_more turns i turn less ∙ ap (λ (t : Turn). t ∷ drop (i + 1) turns) (sym is))) ∙ take-append-drop i turns

-- the bytes of a turn, behind those of the turns before it, are within all
pub places_fit : (f : Turn → List ℕ) (turns : List Turn) (i : ℕ) (turn : Turn) → i < length turns → turn ≡ get_or turns i turn → length (flat_map f turns) < 2 ^ 64 → length (flat_map f (take i turns)) + length (f turn) < 2 ^ 64
places_fit f turns i turn less is fit =
    let rest = flat_map f (drop (i + 1) turns) in
    let parts : flat_map f turns ≡ (flat_map f (take i turns) ++ f turn) ++ rest =
    ap (λ (l : List Turn). flat_map f l) (sym (all_around turns i turn less is)) ∙ flat_map-append f (take i turns ++ turn ∷ []) (drop (i + 1) turns)
    ∙ ap (λ (l : List ℕ). l ++ rest) (flat_map-append f (take i turns) (turn ∷ []) ∙ ap (λ (l : List ℕ). flat_map f (take i turns) ++ l) (append-nil (f turn))) in
    omega (arith, fit, ap (λ (l : List ℕ). length l) parts, length-append (flat_map f (take i turns) ++ f turn) rest, length-append (flat_map f (take i turns)) (f turn))

-- where all items of two lists are so, those of each are
parts_of : (a b : List Turn) → AllByRecursion AreOfBytes (a ++ b) → AllByRecursion AreOfBytes a × AllByRecursion AreOfBytes b
parts_of [] b all = (tt, all)
parts_of (x ∷ a) b (one, all) = let (left, right) = parts_of a b all in ((one, left), right)

-- of all turns, those before one, that one, and those behind it hold bytes
pub bytes_around : (turns : List Turn) (i : ℕ) (turn : Turn) → i < length turns → turn ≡ get_or turns i turn → AllByRecursion AreOfBytes turns
    → AllByRecursion AreOfBytes (take i turns) × AreOfBytes turn × AllByRecursion AreOfBytes (drop (i + 1) turns)
bytes_around turns i turn less is all =
    let p = parts_of (take i turns) (turn ∷ drop (i + 1) turns) (subst (λ (l : List Turn). AllByRecursion AreOfBytes l) (sym (all_around turns i turn less is) ∙ append_assoc (take i turns) (turn ∷ []) (drop (i + 1) turns)) all) in
    (p.0, p.1.0, p.1.1)

-- ---- the turns of a loop

take_one : (turns : List Turn) (i : ℕ) (turn : Turn) → i < length turns → turn ≡ get_or turns i turn → take (i + 1) turns ≡ take i turns ++ turn ∷ []
take_one turns i turn less is = take-add i 1 turns ∙ ap (λ (t : List Turn). take i turns ++ take 1 t) (drop_more turns i turn less) ∙ ap (λ (t : Turn). take i turns ++ t ∷ []) (sym is)

abbrev turn_with : List ℕ → List ℕ → Turn
turn_with sent got = record { sent = sent; got = got }

turn_is : (turn : Turn) (sent got : List ℕ) → sent ≡ turn.sent → got ≡ turn.got → with_got (begun_turn sent) got ≡ turn
turn_is turn sent got s g = ap (λ (t : List ℕ). turn_with t got) s ∙ ap (λ (t : List ℕ). turn_with turn.sent t) g

-- a turn of the transcript was told
pub turn_in_place : (showing : Showing) (told : TranscriptLines) (turns : List Turn) (i : ℕ) (turn : Turn) (sent got written : List ℕ) → i < length turns → turn ≡ get_or turns i turn → sent ≡ turn.sent → got ≡ turn.got
    → HasToldTurns showing told (take i turns ++ with_got (begun_turn sent) got ∷ []) written → HasToldTurns showing told (take (i + 1) turns) written
turn_in_place showing told turns i turn sent got written less is s g h =
    subst (λ (l : List Turn). HasToldTurns showing told l written) (ap (λ (t : Turn). take i turns ++ t ∷ []) (turn_is turn sent got s g) ∙ sym (take_one turns i turn less is)) h

-- a beginning of the lines up to a turn, before anything is got in it, and after that, begins the lines of the transcript
pub text_before_got : (showing : Showing) (turns all_turns : List Turn) (i : ℕ) (turn : Turn) (ended : Ended) (sent front : List ℕ) → i < length turns → turn ≡ get_or turns i turn → sent ≡ turn.sent → turns ≡ all_turns
    → AllByRecursion AreOfBytes all_turns → BeginsTurns showing (take i turns ++ begun_turn sent ∷ []) front → SomeText showing (record { turns = all_turns; ended = ended }) front
text_before_got showing turns all_turns i turn ended sent front less is s e all b =
    let (before, one, after) = bytes_around turns i turn less is (subst (λ (l : List Turn). AllByRecursion AreOfBytes l) (sym e) all) in
    let begun = subst (λ (t : List ℕ). BeginsTurns showing (take i turns ++ begun_turn t ∷ []) front) s b in
    subst (λ (l : List Turn). SomeText showing (record { turns = l; ended = ended }) front) (all_around turns i turn less is ∙ e) (begun_before_got showing (take i turns) (drop (i + 1) turns) turn ended front begun before one after)

pub text_before_end : (showing : Showing) (turns all_turns : List Turn) (i : ℕ) (turn : Turn) (ended : Ended) (sent got front : List ℕ) → i < length turns → turn ≡ get_or turns i turn → sent ≡ turn.sent → got ≡ turn.got → turns ≡ all_turns
    → AllByRecursion AreOfBytes all_turns → BeginsTurns showing (take i turns ++ with_got (begun_turn sent) got ∷ []) front → SomeText showing (record { turns = all_turns; ended = ended }) front
text_before_end showing turns all_turns i turn ended sent got front less is s g e all b =
    let (before, one, after) = bytes_around turns i turn less is (subst (λ (l : List Turn). AllByRecursion AreOfBytes l) (sym e) all) in
    let begun = subst (λ (t : Turn). BeginsTurns showing (take i turns ++ t ∷ []) front) (turn_is turn sent got s g) b in
    subst (λ (l : List Turn). SomeText showing (record { turns = l; ended = ended }) front) (all_around turns i turn less is ∙ e)
    (begun_so_far showing (take i turns ++ turn ∷ []) (drop (i + 1) turns) ended front begun (all-append AreOfBytes (take i turns) (turn ∷ []) before (one, tt)) after)

pub begun_text : (showing : Showing) (transcript : Transcript) (front : List ℕ) (old new : Option (List ℕ)) → SomeText showing transcript front → Appends old new front → (text : List ℕ) × HasTurnLines showing transcript text × AppendsFront old new text
begun_text showing transcript front old new s appends = (s.text, s.has, (front, s.more, s.begins, appends))
