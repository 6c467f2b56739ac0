-- What is shown more of some turns, and how that stays what was told of a run that goes on.
use Rattle.std.proofs.Common.{◌≡◌, ◌∙◌, ℕ, ◌+◌, ◌≤◌, ◌==◌, Bool, true, false, List, [], ◌∷◌, ◌++◌, length}
use Rattle.std.proofs.Common.{drop, refl, sym, ap, subst, inl, inr, arith, append_assoc, append-nil, length-append}
use Rattle.std.proofs.Math.Seq.{drop-append_seam, drop-append-add}
use Rattle.std.proofs.lemmas.Bool.Decides.{nat_tests}
use Rattle.std.proofs.lemmas.List.{drop_all}
use Rattle.ws_scripts.specs.declared.transcript.Turn.{Turn}
use Rattle.ws_tester.specs.RunStates.{RunState, wanted_in}
use Rattle.ws_lines.specs.Telling.{begun_turn, with_got}
use Rattle.ws_lines.specs.declared.transcript_lines.Showing.{Showing}
use Rattle.ws_scripts.specs.declared.transcript.Transcript.{Transcript}
use Rattle.ws_shown.specs.LineRooms.{EndsLines, HasLinesOf, LineRoomValue, LinesGoOn, ShowsGot}
use Rattle.ws_shown.specs.MarkedLines.{AreMarkedLines}
use Rattle.ws_shown.specs.ShownTesters.{ShowsPast, ShowsRun}
use Rattle.ws_shown.specs.TurnsTold.{IsPartOf, IsToldAtTurn, IsToldInPast, IsToldOfRun, IsToldSoFar}
use Rattle.ws_shown.specs.declared.turns_told.TurnsTold.{TurnsTold}

-- a turn is what it has sent and got
pub of_parts : (turn : Turn) (sent got : List ℕ) → sent ≡ turn.sent → got ≡ turn.got
    → record { sent = sent; got = got } ≡ turn
of_parts turn sent got s g = ap (λ (l : List ℕ). record { sent = l; got = got }) s
    ∙ ap (λ (l : List ℕ). record { sent = turn.sent; got = l }) g

-- bytes of which there is none, or some
pub empty_is : (bytes : List ℕ) → (length bytes == 0) ≡ true → bytes ≡ []
empty_is [] e = refl
empty_is (byte ∷ bytes) e = absurd (let none : length (byte ∷ bytes) ≡ 0 = grind (arith, nat_tests) in omega (arith, none))

pub not_empty : (bytes : List ℕ) → (length bytes == 0) ≡ false → bytes ≡ [] → ⊥
not_empty [] e same = cc
not_empty (byte ∷ bytes) e same = cc

-- ---- what is shown

pub shows_nothing : (turns : List Turn) (now : LineRoomValue) → LinesGoOn turns turns now now
shows_nothing turns now = λ taken h. h

pub shows_then : (ts us vs : List Turn) (o p q : LineRoomValue) → LinesGoOn ts us o p → LinesGoOn us vs p q
    → LinesGoOn ts vs o q
shows_then ts us vs o p q h k = λ taken x. k taken (h taken x)

-- ---- one turn

-- what it has got besides is told, where the rest of it is
pub shows_rest : (before : List Turn) (sent front others got piece : List ℕ) (count : ℕ) (o p : LineRoomValue)
    → got ≡ front ++ others → length front ≡ count → piece ≡ drop count got → ShowsGot o p piece
    → LinesGoOn (before ++ record { sent = sent; got = front } ∷ [])
    (before ++ record { sent = sent; got = got } ∷ []) o p
shows_rest before sent front others got piece count o p e len is h =
    let rest : piece ≡ others = is ∙ (ap (λ (n : ℕ). drop n got) (sym len)
    ∙ (ap (λ (l : List ℕ). drop (length front) l) e ∙ drop-append_seam front others)) in
    subst (λ (l : List ℕ). LinesGoOn (before ++ record { sent = sent; got = front } ∷ [])
    (before ++ record { sent = sent; got = l } ∷ []) o p) (ap (λ (l : List ℕ). front ++ l) rest ∙ sym e)
    (h.1 before (record { sent = sent; got = front }))

-- there is none
pub no_rest : (front others got : List ℕ) (count : ℕ) → got ≡ front ++ others → length front ≡ count
    → length got ≤ count → got ≡ front
no_rest front [] got count e len all = e ∙ append-nil front
no_rest front (byte ∷ others) got count e len all = absurd (let long : length got ≡ length front + length (byte ∷ others) =
    ap (λ (l : List ℕ). length l) e ∙ length-append front (byte ∷ others) in omega (arith, long, len, all))

pub shows_no_rest : (before : List Turn) (sent front others got : List ℕ) (count : ℕ) (o : LineRoomValue)
    → got ≡ front ++ others → length front ≡ count → length got ≤ count
    → LinesGoOn (before ++ record { sent = sent; got = front } ∷ [])
    (before ++ record { sent = sent; got = got } ∷ []) o o
shows_no_rest before sent front others got count o e len all =
    subst (λ (l : List ℕ). LinesGoOn (before ++ record { sent = sent; got = front } ∷ [])
    (before ++ record { sent = sent; got = l } ∷ []) o o) (sym (no_rest front others got count e len all))
    (shows_nothing (before ++ record { sent = sent; got = front } ∷ []) o)

-- what was told of it then
pub told_no_rest : (told : TurnsTold) (front others got : List ℕ) → told.is_sent ≡ true → got ≡ front ++ others
    → length front ≡ told.got → length got ≤ told.got
    → told ≡ record { whole = told.whole; is_sent = true; got = length got }
told_no_rest told front others got sent e len all =
    ap (λ (b : Bool). record { whole = told.whole; is_sent = b; got = told.got }) sent
    ∙ ap (λ (n : ℕ). record { whole = told.whole; is_sent = true; got = n })
    (sym len ∙ sym (ap (λ (l : List ℕ). length l) (no_rest front others got told.got e len all)))

-- a turn of which a part was told, and one of which nothing was
pub turn_on : (before part : List Turn) (told : TurnsTold) (turn : Turn) (o p : LineRoomValue) → told.is_sent ≡ true
    → ((others : List Turn) (sent front rest : List ℕ) → turn.got ≡ front ++ rest → length front ≡ told.got
    → LinesGoOn (others ++ record { sent = sent; got = front } ∷ [])
    (others ++ record { sent = sent; got = turn.got } ∷ []) o p)
    → IsPartOf told.is_sent told.got turn part → LinesGoOn (before ++ part) (before ++ turn ∷ []) o p
turn_on before part told turn o p sent tells h =
    pick (subst (λ (b : Bool). IsPartOf b told.got turn part) sent h)
  where
    pick : IsPartOf true told.got turn part → LinesGoOn (before ++ part) (before ++ turn ∷ []) o p
    pick (front, others, e, len, is) = subst (λ (l : List Turn). LinesGoOn (before ++ l) (before ++ turn ∷ []) o p)
        (sym is) (tells before turn.sent front others e len)

pub turn_anew : (before part : List Turn) (told next : TurnsTold) (turn : Turn) (o p q : LineRoomValue) → told.is_sent ≡ false
    → next.got ≡ 0
    → ((others : List Turn) → LinesGoOn others (others ++ record { sent = turn.sent; got = [] } ∷ []) o p)
    → ((others : List Turn) (sent front rest : List ℕ) → turn.got ≡ front ++ rest → length front ≡ next.got
    → LinesGoOn (others ++ record { sent = sent; got = front } ∷ [])
    (others ++ record { sent = sent; got = turn.got } ∷ []) p q)
    → IsPartOf told.is_sent told.got turn part → LinesGoOn (before ++ part) (before ++ turn ∷ []) o q
turn_anew before part told next turn o p q none zero sends tells h =
    let no_part : part ≡ [] = subst (λ (b : Bool). IsPartOf b told.got turn part) none h in
    subst (λ (l : List Turn). LinesGoOn l (before ++ turn ∷ []) o q)
    (sym (append-nil before) ∙ ap (λ (l : List Turn). before ++ l) (sym no_part))
    (shows_then before (before ++ record { sent = turn.sent; got = [] } ∷ []) (before ++ turn ∷ []) o p q
    (sends before) (tells before turn.sent [] turn.got refl (sym zero)))

-- ---- turns that are over

-- none is left: all of them were told
pub none_left : (told : TurnsTold) (past : List Turn) (turn : Turn) (turns : List Turn)
    → drop told.whole past ≡ [] → IsToldSoFar told past turn turns → IsToldAtTurn told past turn turns
none_left told past turn turns none (inl h) = absurd (let wrong : h.now ∷ h.after ≡ [] =
    sym (drop-append_seam h.before (h.now ∷ h.after)) ∙ (ap (λ (n : ℕ). drop n (h.before ++ h.now ∷ h.after)) h.count
    ∙ (ap (λ (l : List Turn). drop told.whole l) (sym h.parts) ∙ none)) in cc)
none_left told past turn turns none (inr h) = h

-- one is left: it wasn't told to its end
pub one_left : (told : TurnsTold) (past : List Turn) (turn one : Turn) (others turns : List Turn)
    → drop told.whole past ≡ one ∷ others → IsToldSoFar told past turn turns → IsToldInPast told past turns
one_left told past turn one others turns some (inl h) = h
one_left told past turn one others turns some (inr h) = absurd (let wrong : [] ≡ one ∷ others =
    sym (drop-append_seam past []) ∙ (ap (λ (n : ℕ). drop n (past ++ [])) h.count
    ∙ (ap (λ (l : List Turn). drop told.whole l) (append-nil past) ∙ some)) in cc)

-- the turns that are left, from the one that is next
pub left_is : (told : TurnsTold) (past turns : List Turn) (h : IsToldInPast told past turns)
    → drop told.whole past ≡ h.now ∷ h.after
left_is told past turns h = ap (λ (l : List Turn). drop told.whole l) h.parts
    ∙ (ap (λ (n : ℕ). drop n (h.before ++ h.now ∷ h.after)) (sym h.count)
    ∙ drop-append_seam h.before (h.now ∷ h.after))

pub left_then : (told : TurnsTold) (past turns : List Turn) (h : IsToldInPast told past turns)
    → drop (told.whole + 1) past ≡ h.after
left_then told past turns h = ap (λ (l : List Turn). drop (told.whole + 1) l) h.parts
    ∙ (ap (λ (n : ℕ). drop (n + 1) (h.before ++ h.now ∷ h.after)) (sym h.count)
    ∙ drop-append-add h.before (h.now ∷ h.after) 1)

-- it is told to its end: the next one is to be told
pub next_told : (told next : TurnsTold) (past : List Turn) (turn : Turn) (turns : List Turn)
    (h : IsToldInPast told past turns) → next.whole ≡ told.whole + 1 → next.is_sent ≡ false
    → IsToldSoFar next past turn (h.before ++ h.now ∷ [])
next_told told next past turn turns h whole none = pick h.after refl
  where
    count : length (h.before ++ h.now ∷ []) ≡ next.whole
    count = omega (arith, length-append h.before (h.now ∷ []), h.count, whole)

    no_part : (t : Turn) → IsPartOf next.is_sent next.got t []
    no_part t = subst (λ (b : Bool). IsPartOf b next.got t []) (sym none) refl

    pick : (after : List Turn) → h.after ≡ after → IsToldSoFar next past turn (h.before ++ h.now ∷ [])
    pick [] e =
        let all : past ≡ h.before ++ h.now ∷ [] = h.parts ∙ ap (λ (l : List Turn). h.before ++ h.now ∷ l) e in
        inr (record {
          part = [];
          count = ap (λ (l : List Turn). length l) all ∙ count;
          is_part = no_part turn;
          turns_are = sym all ∙ sym (append-nil past);
        })
    pick (now ∷ after) e = inl (record {
      before = h.before ++ h.now ∷ [];
      now = now;
      after = after;
      part = [];
      parts = h.parts ∙ (ap (λ (l : List Turn). h.before ++ h.now ∷ l) e
          ∙ sym (append_assoc h.before (h.now ∷ []) (now ∷ after)));
      count = count;
      is_part = no_part now;
      turns_are = sym (append-nil (h.before ++ h.now ∷ []));
    })

-- the next of them is told to its end
abbrev first_of : Turn → List Turn → Turn
first_of turn [] = turn
first_of turn (first ∷ turns) = first

pub past_step : (told next : TurnsTold) (past : List Turn) (turn one : Turn) (others turns : List Turn) (o p : LineRoomValue)
    → drop told.whole past ≡ one ∷ others → next.whole ≡ told.whole + 1 → next.is_sent ≡ false
    → ((before part : List Turn) → IsPartOf told.is_sent told.got one part
    → LinesGoOn (before ++ part) (before ++ one ∷ []) o p)
    → IsToldSoFar told past turn turns
    → (now : List Turn) × LinesGoOn turns now o p × IsToldSoFar next past turn now
past_step told next past turn one others turns o p left whole none tells h =
    let k : IsToldInPast told past turns = one_left told past turn one others turns left h in
    let same : k.now ≡ one = ap (λ (l : List Turn). first_of one l) (sym (left_is told past turns k) ∙ left) in (
      k.before ++ k.now ∷ [],
      subst (λ (l : List Turn). LinesGoOn l (k.before ++ k.now ∷ []) o p) (sym k.turns_are)
          (subst (λ (t : Turn). LinesGoOn (k.before ++ k.part) (k.before ++ t ∷ []) o p) (sym same)
          (tells k.before k.part (subst (λ (t : Turn). IsPartOf told.is_sent told.got t k.part) same k.is_part))),
      next_told told next past turn turns k whole none,
    )

pub past_then : (told next : TurnsTold) (past : List Turn) (turn : Turn) (turns : List Turn) (o p q : LineRoomValue)
    (k : (now : List Turn) × LinesGoOn turns now o p × IsToldSoFar told past turn now)
    → ((now : List Turn) → IsToldSoFar told past turn now
    → (more_turns : List Turn) × LinesGoOn now more_turns p q × IsToldSoFar next past turn more_turns)
    → (more_turns : List Turn) × LinesGoOn turns more_turns o q × IsToldSoFar next past turn more_turns
past_then told next past turn turns o p q (now, tells, at) step = pick (step now at)
  where
    pick : (more_turns : List Turn) × LinesGoOn now more_turns p q × IsToldSoFar next past turn more_turns
        → (more_turns : List Turn) × LinesGoOn turns more_turns o q × IsToldSoFar next past turn more_turns
    pick (more_turns, more, is) = (more_turns, shows_then turns now more_turns o p q tells more, is)

-- all of them were told to their end
pub past_ends : (told : TurnsTold) (past : List Turn) (turn : Turn) (turns : List Turn) (o p : LineRoomValue)
    → length past ≤ told.whole → (now : List Turn) × LinesGoOn turns now o p × IsToldSoFar told past turn now
    → ShowsPast told past turn turns o p
past_ends told past turn turns o p all (now, tells, at) = record {
  new_turns = now;
  shows = tells;
  told_at = none_left told past turn now (drop_all told.whole past all) at;
}

-- what comes of a turn of which a part was told
pub part_told : (told : TurnsTold) (turn : Turn) (part : List Turn) (X : Type 0) → told.is_sent ≡ true
    → ((front others : List ℕ) → turn.got ≡ front ++ others → length front ≡ told.got → X)
    → IsPartOf told.is_sent told.got turn part → X
part_told told turn part X sent comes h = pick (subst (λ (b : Bool). IsPartOf b told.got turn part) sent h)
  where
    pick : IsPartOf true told.got turn part → X
    pick (front, others, e, len, is) = comes front others e len

-- ---- a run

pub so_far : (told : TurnsTold) (x : RunState) (turns : List Turn) → IsToldOfRun told x turns
    → IsToldSoFar told x.past x.turn turns
so_far told x turns (inl h) = inl h
so_far told x turns (inr h) = inr h.at

-- of one that has nothing to record nothing is told
pub run_not_begun : (x : RunState) (told : TurnsTold) (turns : List Turn) (o : LineRoomValue) → x.begun ≡ false
    → IsToldOfRun told x turns → ShowsRun x told turns o o
run_not_begun x told turns o none h = record {
  new_turns = turns;
  shows = shows_nothing turns o;
  told_of = h;
  over = λ e. absurd (let wrong : true ≡ false = sym e ∙ none in cc);
  all = λ e w. absurd (let wrong : true ≡ false = sym e ∙ none in cc);
  none = λ e. refl;
}

-- while the turn under way is sent, those that are over are told
pub run_unsent : (x : RunState) (old next : TurnsTold) (turns : List Turn) (o p : LineRoomValue) → x.begun ≡ true
    → ((wanted_in x).write ≡ [] → ⊥) → IsToldOfRun old x turns → (next.is_sent ≡ true → next ≡ old)
    → ShowsPast next x.past x.turn turns o p → ShowsRun x next turns o p
run_unsent x old next turns o p begun unsent h same k = record {
  new_turns = k.new_turns;
  shows = k.shows;
  told_of = inr (record { at = k.told_at; is_sent = λ e. still h (same e) e });
  over = λ e. k.told_at;
  all = λ e w. absurd (unsent w);
  none = λ e. absurd (let wrong : true ≡ false = sym begun ∙ e in cc);
}
  where
    still : IsToldOfRun old x turns → next ≡ old → next.is_sent ≡ true → (wanted_in x).write ≡ []
    still (inl before) e sent = absurd (
        let long : length x.past ≡ length before.before + length (before.now ∷ before.after) =
        ap (λ (l : List Turn). length l) before.parts ∙ length-append before.before (before.now ∷ before.after) in
        let whole : next.whole ≡ old.whole = ap (λ (t : TurnsTold). t.whole) e in
        omega (arith, long, whole, before.count, k.told_at.count))
    still (inr at) e sent = at.is_sent (sym (ap (λ (t : TurnsTold). t.is_sent) e) ∙ sent)

-- and it is told too once all of it is sent
pub run_sent : (x : RunState) (old mid next : TurnsTold) (turns : List Turn) (o p q : LineRoomValue) → x.begun ≡ true
    → (wanted_in x).write ≡ [] → ShowsPast mid x.past x.turn turns o p
    → ((before part : List Turn) → IsPartOf mid.is_sent mid.got x.turn part
    → LinesGoOn (before ++ part) (before ++ x.turn ∷ []) p q)
    → ((part : List Turn) → IsPartOf mid.is_sent mid.got x.turn part
    → next ≡ record { whole = mid.whole; is_sent = true; got = length x.turn.got })
    → ShowsRun x next turns o q
run_sent x old mid next turns o p q begun sent k tells told = record {
  new_turns = x.past ++ x.turn ∷ [];
  shows = shows_then turns k.new_turns (x.past ++ x.turn ∷ []) o p q k.shows
      (subst (λ (l : List Turn). LinesGoOn l (x.past ++ x.turn ∷ []) p q) (sym k.told_at.turns_are)
      (tells x.past k.told_at.part k.told_at.is_part));
  told_of = inr (record { at = at (told k.told_at.part k.told_at.is_part); is_sent = λ e. sent });
  over = λ e. at (told k.told_at.part k.told_at.is_part);
  all = λ e w. refl;
  none = λ e. absurd (let wrong : true ≡ false = sym begun ∙ e in cc);
}
  where
    at : next ≡ record { whole = mid.whole; is_sent = true; got = length x.turn.got }
        → IsToldAtTurn next x.past x.turn (x.past ++ x.turn ∷ [])
    at e = subst (λ (t : TurnsTold). IsToldAtTurn t x.past x.turn (x.past ++ x.turn ∷ [])) (sym e) (record {
      part = x.turn ∷ [];
      count = k.told_at.count;
      is_part = (x.turn.got, [], sym (append-nil x.turn.got), refl, refl);
      turns_are = refl;
    })

-- ---- all turns of a transcript

pub whole_turn : (turns : List Turn) (turn : Turn) (sent got : List ℕ) (o p q : LineRoomValue) → sent ≡ turn.sent
    → got ≡ turn.got → ((turns : List Turn) → LinesGoOn turns (turns ++ begun_turn sent ∷ []) o p)
    → ((turns : List Turn) (turn : Turn) → LinesGoOn (turns ++ turn ∷ []) (turns ++ with_got turn got ∷ []) p q)
    → LinesGoOn turns (turns ++ turn ∷ []) o q
whole_turn turns turn sent got o p q s g begins gets =
    subst (λ (t : Turn). LinesGoOn turns (turns ++ t ∷ []) o q) (of_parts turn sent got s g)
    (shows_then turns (turns ++ begun_turn sent ∷ []) (turns ++ record { sent = sent; got = got } ∷ []) o p q
    (begins turns) (gets turns (begun_turn sent)))

pub all_shown : (showing : Showing) (room : LineRoomValue) (transcript : Transcript) (turns : List Turn)
    (text : List ℕ) → turns ≡ transcript.turns → room.showing ≡ showing → HasLinesOf room turns []
    → EndsLines room.showing room.parts transcript.ended text → AreMarkedLines showing transcript text
all_shown showing room transcript turns text all same shown ends =
    subst (λ (s : Showing). AreMarkedLines s transcript text) same
    (subst (λ (l : List Turn). AreMarkedLines room.showing (record { turns = l; ended = transcript.ended }) text) all
    (ends turns [] shown))
