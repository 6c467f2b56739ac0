-- One more byte, and one more piece, behind a text so far.
use Rattle.std.proofs.Common.{◌≡◌, ℕ, ◌+◌, ◌-◌, ◌<◌, ◌≤◌, ◌⊎◌, Bool, true, false, Option, List, [], ◌∷◌, ◌++◌, length, take, drop, get_or, sym, ap, ◌∙◌, append_assoc, arith, inl, inr, subst}
use Rattle.std.specs.List.{flat_map}
use Rattle.std.specs.Prelude.{All}
use Rattle.std.proofs.lemmas.Bool.{cases_lt}
use Rattle.std.specs.Prelude.{◌↔◌}
use Rattle.std.proofs.lemmas.List.{append-nil, take_more, take_all, take_rest, take-append-drop, take-take, drop-take, drop-drop, length-drop, drop_all}
use Rattle.std.proofs.lemmas.List.Elements.{All-head}
use Rattle.ws_text.specs.Text.{IsText, BeginsText, char_bytes, IsScalarValue, IsUnfinished, HasUnfinished}
use Rattle.ws_text.specs.declared.unfinished.Unfinished.{Unfinished}
use Rattle.ws_text.specs.Stream.{BreaksTextAt, HasReadText}
use Rattle.ws_text.specs.InnerStep.{kept_bytes, stream_of, BeginsCharacter, GoesOn}
use Rattle.ws_text.proofs.Texts.{text_append, text_of_character, begins_of_unfinished, begins_by_unfinished, unfinished_of_text, text_without_unfinished}

-- ---- one byte

-- what is kept after a byte is unfinished again
pub still_unfinished : (tail : List ℕ) (byte : ℕ) (new : List ℕ) → GoesOn tail byte new → IsUnfinished new
still_unfinished tail byte new (inl h) = inl h.0
still_unfinished tail byte new (inr h) = h.1

pub goes_on : (text tail : List ℕ) (byte : ℕ) (new : List ℕ) → HasUnfinished text tail → GoesOn tail byte new → HasUnfinished (text ++ byte ∷ []) new
goes_on text tail byte new u (inl h) = record {
  front = u.front ++ (tail ++ byte ∷ []);
  is_text = text_append u.front (tail ++ byte ∷ []) u.is_text (text_of_character h.1.0 (tail ++ byte ∷ []) h.1.1);
  parts = ap (λ (l : List ℕ). l ++ byte ∷ []) u.parts ∙ append_assoc u.front tail (byte ∷ []) ∙ sym (append-nil (u.front ++ (tail ++ byte ∷ []))) ∙ ap (λ (l : List ℕ). (u.front ++ (tail ++ byte ∷ [])) ++ l) (sym h.0);
  unfinished = inl h.0;
}
goes_on text tail byte new u (inr h) = record {
  front = u.front;
  is_text = u.is_text;
  parts = ap (λ (l : List ℕ). l ++ byte ∷ []) u.parts ∙ append_assoc u.front tail (byte ∷ []) ∙ ap (λ (l : List ℕ). u.front ++ l) (sym h.0);
  unfinished = h.1;
}

-- what begins a text, and is not empty, begins a character
begins_character : (tail : List ℕ) (byte : ℕ) (more cs : List ℕ) → All IsScalarValue cs → (tail ++ byte ∷ []) ++ more ≡ flat_map char_bytes cs → BeginsCharacter (tail ++ byte ∷ [])
begins_character [] byte more [] s e = absurd cc
begins_character (b ∷ tail) byte more [] s e = absurd cc
begins_character tail byte more (c ∷ cs) s e = record { c = c; scalar = All-head IsScalarValue c cs s; more = more; rest = flat_map char_bytes cs; parts = e }

pub stops : (text tail : List ℕ) (byte : ℕ) → HasUnfinished text tail → ¬ BeginsCharacter (tail ++ byte ∷ []) → ¬ BeginsText (text ++ byte ∷ [])
stops text tail byte u none h =
    let b = (begins_by_unfinished text tail (byte ∷ []) u).0 h in
    none (begins_character tail byte b.more b.is_text.characters b.is_text.scalar b.is_text.spelled)

-- ---- the steps of a loop over a piece

one_more : (text piece : List ℕ) (i : ℕ) → i < length piece → (text ++ take i piece) ++ get_or piece i 0 ∷ [] ≡ text ++ take (i + 1) piece
one_more text piece i lt = append_assoc text (take i piece) (get_or piece i 0 ∷ []) ∙ ap (λ (l : List ℕ). text ++ l) (sym (take_more piece i 0 lt))

pub piece_goes_on : (text piece tail new : List ℕ) (i : ℕ) → i < length piece → HasUnfinished (text ++ take i piece) tail → GoesOn tail (get_or piece i 0) new → HasUnfinished (text ++ take (i + 1) piece) new
piece_goes_on text piece tail new i lt u h = subst (λ (l : List ℕ). HasUnfinished l new) (one_more text piece i lt) (goes_on (text ++ take i piece) tail (get_or piece i 0) new u h)

pub piece_breaks : (text piece tail : List ℕ) (i : ℕ) → i < length piece → HasUnfinished (text ++ take i piece) tail → ¬ BeginsCharacter (tail ++ get_or piece i 0 ∷ []) → BreaksTextAt text piece i
piece_breaks text piece tail i lt u none = record {
  within = lt;
  before = begins_of_unfinished (text ++ take i piece) tail u;
  after = λ h. stops (text ++ take i piece) tail (get_or piece i 0) u none (subst (λ (l : List ℕ). BeginsText l) (sym (one_more text piece i lt)) h);
}

-- ---- a piece in parts

take-add : (m n : ℕ) (xs : List ℕ) → take (m + n) xs ≡ take m xs ++ take n (drop m xs)
take-add m n xs =
    let front : m ≤ m + n = omega arith in
    sym (take-append-drop m (take (m + n) xs)) ∙ ap (λ (l : List ℕ). l ++ drop m (take (m + n) xs)) (take-take m (m + n) xs front) ∙ ap (λ (l : List ℕ). take m xs ++ l) (drop-take m n xs)

-- whole characters behind a text change nothing of what is unfinished, where it is nothing
whole_between : (text piece tail : List ℕ) (used whole : ℕ) → HasUnfinished (text ++ take used piece) tail → (tail ≡ []) ⊎ (used ≡ length piece) → IsText (take whole (drop used piece)) → HasUnfinished (text ++ take (used + whole) piece) tail
whole_between text piece tail used whole u end t =
    let parts : text ++ take (used + whole) piece ≡ (text ++ take used piece) ++ take whole (drop used piece) =
    ap (λ (l : List ℕ). text ++ l) (take-add used whole piece) ∙ sym (append_assoc text (take used piece) (take whole (drop used piece))) in
    subst (λ (l : List ℕ). HasUnfinished l tail) (sym parts) (elim end [
      | inl none ↦ subst (λ (l : List ℕ). HasUnfinished ((text ++ take used piece) ++ take whole (drop used piece)) l) (sym none)
          (unfinished_of_text _ (text_append _ _ ((text_without_unfinished _ tail u).1 none) t))
      | inr all ↦
          let nothing : drop used piece ≡ [] = drop_all used piece (omega arith) in
          let no_more : take whole (drop used piece) ≡ [] = ap (λ (l : List ℕ). take whole l) nothing ∙ take_all whole [] (omega arith) in
          subst (λ (l : List ℕ). HasUnfinished l tail) (sym (ap (λ (l : List ℕ). (text ++ take used piece) ++ l) no_more ∙ append-nil (text ++ take used piece))) u
    ])

joined_rest : (text piece new : List ℕ) (n : ℕ) → HasUnfinished ((text ++ take n piece) ++ drop n piece) new → HasUnfinished (text ++ piece) new
joined_rest text piece new n u = subst (λ (l : List ℕ). HasUnfinished l new) (append_assoc text (take n piece) (drop n piece) ∙ ap (λ (l : List ℕ). text ++ l) (take-append-drop n piece)) u

breaks_later : (text piece : List ℕ) (n place : ℕ) → BreaksTextAt (text ++ take n piece) (drop n piece) place → BreaksTextAt text piece (n + place)
breaks_later text piece n place b =
    let fronts = λ (k : ℕ). let e : (text ++ take n piece) ++ take k (drop n piece) ≡ text ++ take (n + k) piece = append_assoc text (take n piece) (take k (drop n piece)) ∙ ap (λ (l : List ℕ). text ++ l) (sym (take-add n k piece)) in e in
    let within : place < length piece - n = subst (λ k. place < k) (length-drop n piece) b.within in
    let same : (n + place) + 1 ≡ n + (place + 1) = omega arith in
    record {
      within = omega arith;
      before = subst (λ (l : List ℕ). BeginsText l) (fronts place) b.before;
      after = λ h. b.after (subst (λ (l : List ℕ). BeginsText l) (sym (fronts (place + 1))) (subst (λ k. BeginsText (text ++ take k piece)) same h));
    }

-- `xs[i..]`
abbrev pub rest_from : ℕ → List ℕ → List ℕ
rest_from i xs = take (length xs - i) (drop i xs)

-- a piece in three parts: what finishes the character before it, whole characters, and the back
module _ (text piece tail : List ℕ) (used whole : ℕ) (front : HasUnfinished (text ++ take used piece) tail) (end : (tail ≡ []) ⊎ (used ≡ length piece)) (is_text : IsText (take whole (rest_from used piece))) where
  before_back : HasUnfinished (text ++ take (used + whole) piece) tail
  before_back = whole_between text piece tail used whole front end (subst (λ (l : List ℕ). IsText (take whole l)) (take_rest piece used) is_text)

  back_is : rest_from whole (rest_from used piece) ≡ drop (used + whole) piece
  back_is = take_rest (rest_from used piece) whole ∙ ap (λ (l : List ℕ). drop whole l) (take_rest piece used) ∙ drop-drop whole used piece

  pub parts_join : (new : List ℕ) → ((t : List ℕ) → HasUnfinished t tail → HasUnfinished (t ++ rest_from whole (rest_from used piece)) new) → HasUnfinished (text ++ piece) new
  parts_join new h = joined_rest text piece new (used + whole) (subst (λ (l : List ℕ). HasUnfinished ((text ++ take (used + whole) piece) ++ l) new) back_is (h (text ++ take (used + whole) piece) before_back))

  pub parts_break : (place : ℕ) → ((t : List ℕ) → HasUnfinished t tail → BreaksTextAt t (rest_from whole (rest_from used piece)) place) → BreaksTextAt text piece ((used + whole) + place)
  parts_break place h = breaks_later text piece (used + whole) place (subst (λ (l : List ℕ). BreaksTextAt (text ++ take (used + whole) piece) l place) back_is (h (text ++ take (used + whole) piece) before_back))

  -- no back
  pub parts_end : whole ≡ length (rest_from used piece) → HasUnfinished (text ++ piece) tail
  parts_end all =
      let many : length (rest_from used piece) ≡ length piece - used = ap (λ (l : List ℕ). length l) (take_rest piece used) ∙ length-drop used piece in
      subst (λ (l : List ℕ). HasUnfinished (text ++ l) tail) (take_all (used + whole) piece (omega (arith, all, many))) before_back

-- a piece after whole characters in two parts: whole characters, and the back
module _ (text piece : List ℕ) (whole : ℕ) (so_far : IsText text) (is_text : IsText (take whole piece)) where
  before_rest : HasUnfinished (text ++ take whole piece) []
  before_rest = unfinished_of_text (text ++ take whole piece) (text_append text (take whole piece) so_far is_text)

  pub front_joins : (new : List ℕ) → ((t : List ℕ) → HasUnfinished t [] → HasUnfinished (t ++ rest_from whole piece) new) → HasUnfinished (text ++ piece) new
  front_joins new h = joined_rest text piece new whole (subst (λ (l : List ℕ). HasUnfinished ((text ++ take whole piece) ++ l) new) (take_rest piece whole) (h (text ++ take whole piece) before_rest))

  pub front_breaks : (place : ℕ) → ((t : List ℕ) → HasUnfinished t [] → BreaksTextAt t (rest_from whole piece) place) → BreaksTextAt text piece (whole + place)
  front_breaks place h = breaks_later text piece whole place (subst (λ (l : List ℕ). BreaksTextAt (text ++ take whole piece) l place) (take_rest piece whole) (h (text ++ take whole piece) before_rest))

  pub front_is_all : whole ≡ length piece → HasUnfinished (text ++ piece) []
  front_is_all all = subst (λ (l : List ℕ). HasUnfinished (text ++ l) []) (take_all whole piece (omega (arith, all))) before_rest

-- ---- a stream

-- a front of what begins a text begins one
front_begins : (bytes more : List ℕ) → BeginsText (bytes ++ more) → BeginsText bytes
front_begins bytes more h = record { more = more ++ h.more; is_text = subst (λ (l : List ℕ). IsText l) (append_assoc bytes more h.more) h.is_text }

-- a text that is broken once begins no text any more
pub broken : (text piece : List ℕ) (place : ℕ) → BreaksTextAt text piece place → ¬ BeginsText (text ++ piece)
broken text piece place b h =
    let parts : (text ++ take (place + 1) piece) ++ drop (place + 1) piece ≡ text ++ piece = append_assoc text (take (place + 1) piece) (drop (place + 1) piece) ∙ ap (λ (l : List ℕ). text ++ l) (take-append-drop (place + 1) piece) in
    b.after (front_begins (text ++ take (place + 1) piece) (drop (place + 1) piece) (subst (λ (l : List ℕ). BeginsText l) (sym parts) h))

pub read_of : (kept : Unfinished) (failed : Bool) (stream : Option (List ℕ)) (text : List ℕ) → failed ≡ false → stream_of kept failed ≡ stream → HasReadText stream text → HasUnfinished text (kept_bytes kept)
read_of kept true stream text e view h = absurd cc
read_of kept false stream text e view h = subst (λ (s : Option (List ℕ)). HasReadText s text) (sym view) h

-- the same of fewer bytes of a piece
fewer_begin : (text piece : List ℕ) (few many : ℕ) → few ≤ many → BeginsText (text ++ take many piece) → BeginsText (text ++ take few piece)
fewer_begin text piece few many le h =
    let parts : take few piece ++ drop few (take many piece) ≡ take many piece = ap (λ (l : List ℕ). l ++ drop few (take many piece)) (sym (take-take few many piece le)) ∙ take-append-drop few (take many piece) in
    front_begins (text ++ take few piece) (drop few (take many piece)) (subst (λ (l : List ℕ). BeginsText l) (sym (append_assoc text (take few piece) (drop few (take many piece)) ∙ ap (λ (l : List ℕ). text ++ l) parts)) h)

pub least_place : (text piece : List ℕ) (place count : ℕ) → BreaksTextAt text piece place → BeginsText (text ++ take count piece) ↔ (count ≤ place)
least_place text piece place count b = (
  λ h. elim (cases_lt place count) [
    | inl past ↦ absurd (b.after (fewer_begin text piece (place + 1) count (omega arith) h))
    | inr within ↦ within
  ],
  λ le. fewer_begin text piece count place le b.before,
)
