-- The text of turns: one turn more, and more in the last turn.
use Rattle.std.proofs.Common.{◌≡◌, ℕ, ◌+◌, List, [], ◌∷◌, ◌++◌, length, sym, ap, ◌∙◌, append_assoc, append-nil, arith}
use Rattle.ws_lines.specs.TurnLines.{TurnLines, turn_line, turns_text}

-- the text of one turn
abbrev pub turn_text : ℕ → TurnLines → List ℕ
turn_text number line = turn_line number ++ (line.sent ++ line.got)

pub text-one-more : (n : ℕ) (lines : List TurnLines) (line : TurnLines) → turns_text n (lines ++ line ∷ []) ≡ turns_text n lines ++ turn_text (n + length lines) line
text-one-more n [] line =
    ap (λ (t : List ℕ). turn_line n ++ (line.sent ++ t)) (append-nil line.got) ∙ ap (λ k. turn_line k ++ (line.sent ++ line.got)) (omega arith)
text-one-more n (x ∷ lines) line =
    let place : (n + 1) + length lines ≡ n + length (x ∷ lines) = omega arith in
    let next = turns_text (n + 1) lines in
    let more = turn_text (n + length (x ∷ lines)) line in
    let on : turns_text (n + 1) (lines ++ line ∷ []) ≡ next ++ more = text-one-more (n + 1) lines line ∙ ap (λ k. next ++ turn_text k line) place in
    ap (λ (t : List ℕ). turn_line n ++ (x.sent ++ (x.got ++ t))) on
    ∙ ap (λ (t : List ℕ). turn_line n ++ (x.sent ++ t)) (sym (append_assoc x.got next more))
    ∙ ap (λ (t : List ℕ). turn_line n ++ t) (sym (append_assoc x.sent (x.got ++ next) more))
    ∙ sym (append_assoc (turn_line n) (x.sent ++ (x.got ++ next)) more)

-- a turn in which nothing was got yet
pub text_of_begun : (lines : List TurnLines) (sent : List ℕ) (number : ℕ) → number ≡ length lines + 1
    → turns_text 1 (lines ++ (record { sent = sent; got = [] }) ∷ []) ≡ turns_text 1 lines ++ (turn_line number ++ sent)
text_of_begun lines sent number e =
    text-one-more 1 lines (record { sent = sent; got = [] }) ∙ ap (λ (t : List ℕ). turns_text 1 lines ++ (turn_line (1 + length lines) ++ t)) (append-nil sent)
    ∙ ap (λ k. turns_text 1 lines ++ (turn_line k ++ sent)) (omega (arith, e))

-- more is got in the last turn
pub text_of_got : (lines : List TurnLines) (sent got more : List ℕ)
    → turns_text 1 (lines ++ (record { sent = sent; got = got ++ more }) ∷ []) ≡ turns_text 1 (lines ++ (record { sent = sent; got = got }) ∷ []) ++ more
text_of_got lines sent got more =
    let before = turns_text 1 lines in
    let line = turn_line (1 + length lines) in
    text-one-more 1 lines (record { sent = sent; got = got ++ more })
    ∙ (ap (λ (t : List ℕ). before ++ (line ++ t)) (sym (append_assoc sent got more)) ∙ ap (λ (t : List ℕ). before ++ t) (sym (append_assoc line (sent ++ got) more)) ∙ sym (append_assoc before (line ++ (sent ++ got)) more))
    ∙ ap (λ (t : List ℕ). t ++ more) (sym (text-one-more 1 lines (record { sent = sent; got = got })))

-- ---- grouping

pub regroup : (a b c d : List ℕ) → a ++ (b ++ (c ++ d)) ≡ (a ++ (b ++ c)) ++ d
regroup a b c d = ap (λ (t : List ℕ). a ++ t) (sym (append_assoc b c d)) ∙ sym (append_assoc a (b ++ c) d)

pub regroup_front : (a b c d : List ℕ) → a ++ ((b ++ c) ++ d) ≡ (a ++ b) ++ (c ++ d)
regroup_front a b c d = ap (λ (t : List ℕ). a ++ t) (append_assoc b c d) ∙ sym (append_assoc a b (c ++ d))
