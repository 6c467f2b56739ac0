-- A line of a script tells one thing.
use Rattle.std.proofs.Common.{◌≡◌, ◌≢◌, ◌∙◌, ℕ, ◌<◌, inl, inr, List, [], ◌∷◌, ◌++◌, ap, sym, refl, subst}
use Rattle.std.proofs.Common.{arith, codes, slice_index}
use Rattle.std.proofs.lemmas.List.{append_cancel_left}
use Rattle.std.specs.List.{AllZip}
use Rattle.ws_formats.specs.Words.{IsNumberWord}
use Rattle.ws_formats.proofs.NumberWords.{number_one}
use Rattle.ws_scripts.specs.declared.script.Step.{Step}
use Rattle.ws_scripts.specs.declared.script.Step.TheVariants.{Raw}
use Rattle.ws_scripts.specs.declared.script.Chop.{Chop}
use Rattle.ws_scripts.specs.declared.script.Chop.TheVariants.{Octets, PerFrame, Whole}
use Rattle.ws_scripts.specs.declared.script_text.line.ScriptLine.{ScriptLine}
use Rattle.ws_scripts.specs.declared.script_text.line.ScriptLine.TheVariants.{Blank, Cut, Does}
use Rattle.ws_scripts.specs.ScriptLines.{IsBlankLine, IsChopLine, IsDataWord, IsFrameStepLine, IsRawLine, IsScriptLine}
use Rattle.ws_scripts.specs.ScriptLines.{IsStepLine}
use Rattle.ws_scripts.specs.InnerScripting.{Lacks}
use Rattle.ws_scripts.proofs.ScriptData.{data_one}
use Rattle.ws_scripts.proofs.ScriptFrames.{IsFrameFront, frame_front, frame_one}

at : ℕ → List ℕ → ℕ
at i l = slice_index l i

-- ---- chops

chop_octets : (chop : Chop) (words : List ℕ) → words ≢ codes "chop whole" → words ≢ codes "chop frames"
    → IsChopLine chop words
    → (n : ℕ) × (word : List ℕ) × (0 < n) × IsNumberWord 4294967295 n word × (words ≡ codes "chop octets " ++ word)
chop_octets Whole words whole frames h = absurd (whole h)
chop_octets PerFrame words whole frames h = absurd (frames h)
chop_octets (Octets n) words whole frames (some, word, number, e) = (n, word, some, number, e)

pub octets_word : (chop : Chop) (words : List ℕ) → words ≢ codes "chop whole" → words ≢ codes "chop frames"
    → IsChopLine chop words → (word : List ℕ) × (words ≡ codes "chop octets " ++ word)
octets_word chop words whole frames h = let x = chop_octets chop words whole frames h in (x.1, x.4)

pub octets_number : (chop : Chop) (words word : List ℕ) (n : ℕ) → words ≢ codes "chop whole"
    → words ≢ codes "chop frames" → words ≡ codes "chop octets " ++ word → IsNumberWord 4294967295 n word
    → IsChopLine chop words → 0 < n
octets_number chop words word n whole frames e number h =
    let (m, other, some, told, f) = chop_octets chop words whole frames h in
    let same = append_cancel_left (codes "chop octets ") other word (sym f ∙ e) in
    let one : m ≡ n = number_one 4294967295 4294967295 m n word (omega arith) (omega arith)
    (subst (λ (l : List ℕ). IsNumberWord 4294967295 m l) same told) number in
    omega (arith, some, one)

chop_one : (a b : Chop) (words : List ℕ) → IsChopLine a words → IsChopLine b words → a ≡ b
unfolding at
chop_one Whole Whole words h i = refl
chop_one PerFrame PerFrame words h i = refl
chop_one (Octets m) (Octets n) words (some, word, number, e) (too, other, told, f) =
    let same = append_cancel_left (codes "chop octets ") other word (sym f ∙ e) in
    ap Octets
    (number_one 4294967295 4294967295 m n word (omega arith) (omega arith) number
    (subst (λ (l : List ℕ). IsNumberWord 4294967295 n l) same told))
chop_one Whole PerFrame words h i = absurd (let wrong : 119 ≡ 102 = ap (at 5) (sym h ∙ i) in omega arith)
chop_one PerFrame Whole words h i = absurd (let wrong : 102 ≡ 119 = ap (at 5) (sym h ∙ i) in omega arith)
chop_one Whole (Octets n) words h (some, word, number, e) =
    absurd (let wrong : 119 ≡ 111 = ap (at 5) (sym h ∙ e) in omega arith)
chop_one (Octets n) Whole words (some, word, number, e) h =
    absurd (let wrong : 111 ≡ 119 = ap (at 5) (sym e ∙ h) in omega arith)
chop_one PerFrame (Octets n) words h (some, word, number, e) =
    absurd (let wrong : 102 ≡ 111 = ap (at 5) (sym h ∙ e) in omega arith)
chop_one (Octets n) PerFrame words (some, word, number, e) h =
    absurd (let wrong : 111 ≡ 102 = ap (at 5) (sym e ∙ h) in omega arith)

-- ---- steps

no_wait_front : (words : List ℕ) → words ≡ codes "wait" → IsFrameFront words → ⊥
unfolding at
no_wait_front words e h = h.1 (ap (at 0) e)

no_raw_front : (words word : List ℕ) → words ≡ codes "raw " ++ word → IsFrameFront words → ⊥
unfolding at
no_raw_front words word e h = h.2 (ap (at 0) e)

wait_no_raw : (words word : List ℕ) → words ≡ codes "wait" → words ≡ codes "raw " ++ word → ⊥
wait_no_raw words word e f = omega (arith, ap (λ (l : List ℕ). slice_index l 0) (sym e ∙ f))

pub raw_data : (step : Step) (words word : List ℕ) → words ≡ codes "raw " ++ word → IsStepLine step words
    → (bytes : List ℕ) × IsDataWord bytes word
raw_data step words word e (inl (f, g)) = absurd (wait_no_raw words word g e)
raw_data step words word e (inr (inl (bytes, other, f, is, g))) =
    let same = append_cancel_left (codes "raw ") other word (sym g ∙ e) in
    (bytes, subst (λ (l : List ℕ). IsDataWord bytes l) same is)
raw_data step words word e (inr (inr h)) = absurd (no_raw_front words word e (frame_front step words h))

pub frame_line_of : (step : Step) (words : List ℕ) → words ≢ codes "wait" → Lacks (codes "raw ") words
    → IsStepLine step words → IsFrameStepLine step words
frame_line_of step words wait raw (inl (f, g)) = absurd (wait g)
frame_line_of step words wait raw (inr (inl (bytes, word, f, is, g))) = absurd (raw word g)
frame_line_of step words wait raw (inr (inr h)) = h

raw_one : (a b : Step) (words : List ℕ) → IsRawLine a words → IsRawLine b words → a ≡ b
raw_one a b words (bytes, word, e, is, f) (others, other, g, too, h) =
    let same = append_cancel_left (codes "raw ") other word (sym h ∙ f) in
    e
    ∙ (ap Raw (data_one bytes others word is (subst (λ (l : List ℕ). IsDataWord others l) same too))
    ∙ sym g)

step_one : (a b : Step) (words : List ℕ) → IsStepLine a words → IsStepLine b words → a ≡ b
step_one a b words (inl (e, f)) (inl (g, h)) = e ∙ sym g
step_one a b words (inl (e, f)) (inr (inl (bytes, word, g, is, h))) = absurd (wait_no_raw words word f h)
step_one a b words (inl (e, f)) (inr (inr h)) = absurd (no_wait_front words f (frame_front b words h))
step_one a b words (inr (inl (bytes, word, g, is, h))) (inl (e, f)) = absurd (wait_no_raw words word f h)
step_one a b words (inr (inl h)) (inr (inl i)) = raw_one a b words h i
step_one a b words (inr (inl (bytes, word, g, is, h))) (inr (inr i)) =
    absurd (no_raw_front words word h (frame_front b words i))
step_one a b words (inr (inr h)) (inl (e, f)) = absurd (no_wait_front words f (frame_front a words h))
step_one a b words (inr (inr i)) (inr (inl (bytes, word, g, is, h))) =
    absurd (no_raw_front words word h (frame_front a words i))
step_one a b words (inr (inr h)) (inr (inr i)) = frame_one a b words h i

-- ---- lines

-- an empty line or a comment, a chop and a step have other first letters
blank_first : (words : List ℕ) → IsBlankLine words → slice_index words 0 < 98
unfolding at
blank_first words (inl e) = let is : at 0 words ≡ 0 = ap (at 0) e in omega (arith, is)
blank_first words (inr (more, e)) = let is : at 0 words ≡ 35 = ap (at 0) e in omega (arith, is)

chop_letters : (chop : Chop) (words : List ℕ) → IsChopLine chop words
    → (slice_index words 0 ≡ 99) × (slice_index words 1 ≡ 104)
unfolding at
chop_letters Whole words e = (ap (at 0) e, ap (at 1) e)
chop_letters PerFrame words e = (ap (at 0) e, ap (at 1) e)
chop_letters (Octets n) words (some, word, number, e) = (ap (at 0) e, ap (at 1) e)

blank_no_chop : (chop : Chop) (words : List ℕ) → IsBlankLine words → IsChopLine chop words → ⊥
blank_no_chop chop words h i = omega (arith, blank_first words h, (chop_letters chop words i).0)

blank_no_step : (step : Step) (words : List ℕ) → IsBlankLine words → IsStepLine step words → ⊥
unfolding at
blank_no_step step words h (inl (e, f)) =
    let is : at 0 words ≡ 119 = ap (at 0) f in omega (arith, blank_first words h, is)
blank_no_step step words h (inr (inl (bytes, word, e, is, f))) =
    let first : at 0 words ≡ 114 = ap (at 0) f in omega (arith, blank_first words h, first)
blank_no_step step words h (inr (inr i)) =
    let front = frame_front step words i in omega (arith, blank_first words h, front.0)

chop_no_step : (chop : Chop) (step : Step) (words : List ℕ) → IsChopLine chop words → IsStepLine step words → ⊥
unfolding at
chop_no_step chop step words h (inl (e, f)) =
    let is : at 0 words ≡ 119 = ap (at 0) f in omega (arith, (chop_letters chop words h).0, is)
chop_no_step chop step words h (inr (inl (bytes, word, e, is, f))) =
    let first : at 0 words ≡ 114 = ap (at 0) f in omega (arith, (chop_letters chop words h).0, first)
chop_no_step chop step words h (inr (inr i)) =
    let front = frame_front step words i in
    let letters = chop_letters chop words h in
    front.3 letters.0 letters.1

pub line_one : (a b : ScriptLine) (words : List ℕ) → IsScriptLine a words → IsScriptLine b words → a ≡ b
line_one Blank Blank words h i = refl
line_one Blank (Cut chop) words h i = absurd (blank_no_chop chop words h i)
line_one Blank (Does step) words h i = absurd (blank_no_step step words h i)
line_one (Cut chop) Blank words h i = absurd (blank_no_chop chop words i h)
line_one (Cut a) (Cut b) words h i = ap Cut (chop_one a b words h i)
line_one (Cut chop) (Does step) words h i = absurd (chop_no_step chop step words h i)
line_one (Does step) Blank words h i = absurd (blank_no_step step words i h)
line_one (Does step) (Cut chop) words h i = absurd (chop_no_step chop step words i h)
line_one (Does a) (Does b) words h i = ap Does (step_one a b words h i)

pub lines_one : (a b : List ScriptLine) (words : List (List ℕ)) → AllZip IsScriptLine a words
    → AllZip IsScriptLine b words → a ≡ b
lines_one [] [] [] h i = refl
lines_one [] (y ∷ b) [] h i = absurd i
lines_one (x ∷ a) b [] h i = absurd h
lines_one [] b (w ∷ words) h i = absurd h
lines_one (x ∷ a) [] (w ∷ words) h i = absurd i
lines_one (x ∷ a) (y ∷ b) (w ∷ words) h i =
    let head = line_one x y w h.0 i.0 in
    let tail = lines_one a b words h.1 i.1 in
    cc

-- what is no empty line, no chop and no step is no line
pub none_of_three : (words : List ℕ) → (IsBlankLine words → ⊥) → ((chop : Chop) → IsChopLine chop words → ⊥)
    → ((step : Step) → IsStepLine step words → ⊥) → (line : ScriptLine) → IsScriptLine line words → ⊥
none_of_three words blank chop step Blank h = blank h
none_of_three words blank chop step (Cut x) h = chop x h
none_of_three words blank chop step (Does x) h = step x h
