-- A transcript has one text of lines.
use Rattle.std.proofs.Common.{◌≡◌, ℕ, suc, ◌≤◌, List, [], ◌∷◌, ◌++◌, length, take, refl, sym, ap, ◌∙◌, append-nil, arith}
use Rattle.std.specs.List.{flat_map}
use Rattle.std.proofs.lemmas.List.{append_cancel_left}
use Rattle.ws_lines.specs.declared.transcript_lines.Showing.{Showing}
use Rattle.ws_frame.proofs.Fronts.{lines_are_one}
use Rattle.ws_frame.proofs.Streams.{certain_lines_are_one}
use Rattle.ws_scripts.specs.declared.transcript.Turn.{Turn}
use Rattle.ws_scripts.specs.declared.transcript.Transcript.{Transcript}
use Rattle.ws_lines.specs.TurnLines.{TurnLines, Direction, StandInTheirTurns, HasTurnLines, IsCutLine, bytes_in, lines_in, sent_by_tester, got_by_tester, turns_text, end_line}

-- what two lists have in each turn of a direction is one, where what they have up to each turn is
abbrev pub AreSameSoFar : (TurnLines → List ℕ) → List TurnLines → List TurnLines → Type 0
AreSameSoFar f a b = (n : ℕ) → n ≤ length a → flat_map f (take n a) ≡ flat_map f (take n b)

first_same : (f : TurnLines → List ℕ) (x y : TurnLines) (a b : List TurnLines) → AreSameSoFar f (x ∷ a) (y ∷ b) → f x ≡ f y
first_same f x y a b s = sym (append-nil (f x)) ∙ s 1 (omega arith) ∙ append-nil (f y)

rest_same : (f : TurnLines → List ℕ) (x y : TurnLines) (a b : List TurnLines) → AreSameSoFar f (x ∷ a) (y ∷ b) → AreSameSoFar f a b
rest_same f x y a b s = λ n le. append_cancel_left (f x) (flat_map f (take n a)) (flat_map f (take n b)) (s (suc n) (omega (arith, le)) ∙ ap (λ (t : List ℕ). t ++ flat_map f (take n b)) (sym (first_same f x y a b s)))

abbrev line_with_sent : List ℕ → List ℕ → TurnLines
line_with_sent sent got = record { sent = sent; got = got }

line_is_one : (x y : TurnLines) → x.sent ≡ y.sent → x.got ≡ y.got → x ≡ y
line_is_one x y s g = ap (λ (t : List ℕ). line_with_sent t x.got) s ∙ ap (λ (t : List ℕ). line_with_sent y.sent t) g

same_lines : (a b : List TurnLines) → length a ≡ length b → AreSameSoFar (λ line. line.sent) a b → AreSameSoFar (λ line. line.got) a b → a ≡ b
same_lines [] [] e s g = refl
same_lines [] (y ∷ b) e s g = absurd (omega (arith, e))
same_lines (x ∷ a) [] e s g = absurd (omega (arith, e))
same_lines (x ∷ a) (y ∷ b) e s g =
    let one = line_is_one x y (first_same (λ line. line.sent) x y a b s) (first_same (λ line. line.got) x y a b g) in
    let rest = same_lines a b (omega (arith, e)) (rest_same (λ line. line.sent) x y a b s) (rest_same (λ line. line.got) x y a b g) in
    ap (λ (t : TurnLines). t ∷ a) one ∙ ap (λ (t : List TurnLines). y ∷ t) rest

stand_same : (d : Direction) (turns : List Turn) (a b : List TurnLines) → length a ≡ length turns → StandInTheirTurns d turns a → StandInTheirTurns d turns b → AreSameSoFar d.lines a b
stand_same d turns a b e p q = λ n le. certain_lines_are_one d.source (bytes_in d (take n turns)) (lines_in d (take n a)) (lines_in d (take n b)) (p n (omega (arith, e, le))) (q n (omega (arith, e, le)))

cut_is_one : (d : Direction) (turns : List Turn) (a b : List TurnLines) (last other : List ℕ) → a ≡ b → IsCutLine d turns a last → IsCutLine d turns b other → last ≡ other
cut_is_one d turns a b last other e (p, are) (q, others) =
    append_cancel_left (lines_in d a) last other ((lines_are_one d.source (bytes_in d turns) p q (lines_in d a ++ last) (lines_in d b ++ other) are others).1 ∙ ap (λ (l : List TurnLines). lines_in d l ++ other) (sym e))

pub text_is_one : (showing : Showing) (transcript : Transcript) (text other : List ℕ) → HasTurnLines showing transcript text → HasTurnLines showing transcript other → text ≡ other
text_is_one showing transcript text other p q =
    let from = sent_by_tester showing in
    let to = got_by_tester showing in
    let turns = transcript.turns in
    let a = p.are_lines in
    let b = q.are_lines in
    let lines = same_lines p.lines q.lines (a.one_each ∙ sym b.one_each) (stand_same from turns p.lines q.lines a.one_each a.sent b.sent) (stand_same to turns p.lines q.lines a.one_each a.got b.got) in
    let sent = cut_is_one from turns p.lines q.lines p.sent_cut q.sent_cut lines p.is_sent_cut q.is_sent_cut in
    let got = cut_is_one to turns p.lines q.lines p.got_cut q.got_cut lines p.is_got_cut q.is_got_cut in
    p.all ∙ ap (λ (l : List TurnLines). turns_text 1 l ++ (p.sent_cut ++ (p.got_cut ++ end_line transcript.ended))) lines
    ∙ ap (λ (t : List ℕ). turns_text 1 q.lines ++ (t ++ (p.got_cut ++ end_line transcript.ended))) sent
    ∙ ap (λ (t : List ℕ). turns_text 1 q.lines ++ (q.sent_cut ++ (t ++ end_line transcript.ended))) got ∙ sym q.all
