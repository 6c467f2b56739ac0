-- What is fed next of a text whose lines tell one value together: the line that was open goes on, or ends and is taken,
-- or the text is damaged there.
use Rattle.std.proofs.Common.{◌≡◌, ◌∙◌, ℕ, ◌+◌, ◌<◌, List, [], ◌∷◌, ◌++◌, length, ap, sym, refl, subst, arith}
use Rattle.std.proofs.Common.{append_assoc, append-nil}
use Rattle.std.proofs.lemmas.List.{length-append}
use Rattle.std.proofs.lemmas.List.Elements.{All-append, All-nil}
use Rattle.std.specs.Prelude.{MatchResult, Result, Ok, Err}
use Rattle.ws_base.specs.declared.text_fault.TextFault.{TextFault}
use Rattle.ws_base.specs.declared.text_fault.TextFault.TheVariants.{Damaged, NoMemory}
use Rattle.ws_formats.specs.Lines.{CanBeTold, Damages, IsLine, IsTextOfLines, ended, line_feed}
use Rattle.ws_formats.proofs.DamagedLines.{lines_added, no_feed_in_line, one_line, text_added}
use Rattle.ws_formats.proofs.PartialTexts.{damaged_part, one_more}
use Rattle.ws_text_feed.specs.FeedingLines.{HasFedLines}

module _ {P T : Type 0} (Tell : P → T → List (List ℕ) → Type 0) (first : P) where
  abbrev Fed : List ℕ → P → List ℕ → ℕ → Type 0
  Fed text now partial number = HasFedLines Tell first text now partial number

  -- nothing was fed
  pub lines_started : Fed [] first [] 1
  lines_started = record {
    lines = [];
    are_lines = tt;
    is_partial = All-nil (λ (byte : ℕ). byte ≡ line_feed → ⊥);
    split = refl;
    count = refl;
    goes_on = λ value more. (λ told. (value, told), λ told. told);
  }

  -- the open line goes on
  pub open_longer : (text piece : List ℕ) (now : P) (partial : List ℕ) (number : ℕ) → Fed text now partial number
      → IsLine piece → Fed (text ++ piece) now (partial ++ piece) number
  open_longer text piece now partial number h is = record {
    lines = h.lines;
    are_lines = h.are_lines;
    is_partial = All-append (λ (byte : ℕ). byte ≡ line_feed → ⊥) partial piece h.is_partial is;
    split = ap (λ (t : List ℕ). t ++ piece) h.split ∙ append_assoc (ended h.lines) partial piece;
    count = h.count;
    goes_on = h.goes_on;
  }

  -- the text with the end of the open line
  whole_line : (text end more : List ℕ) (now : P) (partial : List ℕ) (number : ℕ) → (h : Fed text now partial number)
      → text ++ (end ++ 10 ∷ more) ≡ ended h.lines ++ ((partial ++ end) ++ 10 ∷ more)
  whole_line text end more now partial number h =
      ap (λ (t : List ℕ). t ++ (end ++ 10 ∷ more)) h.split
      ∙ append_assoc (ended h.lines) partial (end ++ 10 ∷ more)
      ∙ ap (λ (t : List ℕ). ended h.lines ++ t) (sym (append_assoc partial end (10 ∷ more)))

  -- the open line ends, and is taken
  pub line_taken : (text end : List ℕ) (old new : P) (partial : List ℕ) (number after : ℕ)
      → (h : Fed text old partial number) → IsLine end
      → ((value : T) (more : List (List ℕ)) → (Tell old value ((partial ++ end) ∷ more) → (other : T) × Tell new other more)
      × (Tell new value more → Tell old value ((partial ++ end) ∷ more)))
      → after ≡ number + 1 → Fed (text ++ (end ++ line_feed ∷ [])) new [] after
  line_taken text end old new partial number after h is next counted =
      let line = partial ++ end in
      let whole = All-append (λ (byte : ℕ). byte ≡ line_feed → ⊥) partial end h.is_partial is in
      record {
        lines = h.lines ++ line ∷ [];
        are_lines = lines_added h.lines line h.are_lines whole;
        is_partial = All-nil (λ (byte : ℕ). byte ≡ line_feed → ⊥);
        split = text_added (text ++ (end ++ 10 ∷ [])) (line ++ 10 ∷ []) line [] h.lines
            (whole_line text end [] old partial number h) refl;
        count = omega (arith, counted, h.count, length-append h.lines (line ∷ []));
        goes_on = one_more (Tell first) (Tell old) (Tell new) h.lines line h.goes_on next;
      }

  module _ (goes_on : (part : P) → CanBeTold (Tell part)) where
    -- the open line ends, and no text goes on with it
    pub damaged_line : (text end more : List ℕ) (now : P) (partial : List ℕ) (number : ℕ) → Fed text now partial number
        → IsLine end
        → ((value : T) (left : List (List ℕ)) → Tell now value ((partial ++ end) ∷ left) → ⊥)
        → Damages (IsTextOfLines (Tell first)) (Damaged number) (text ++ (end ++ line_feed ∷ more))
    damaged_line text end more now partial number h is none =
        let line = partial ++ end in
        let ends = All-append (λ (byte : ℕ). byte ≡ line_feed → ⊥) partial end h.is_partial is in
        damaged_part (Tell first) (Tell now) h.lines (line ++ 10 ∷ more) (text ++ (end ++ 10 ∷ more)) number
        h.are_lines (whole_line text end more now partial number h) h.count h.goes_on (goes_on now)
        (λ v other left after told e other_is.
        let same = one_line other line after more other_is ends (sym e) in
        none v left (subst (λ (l : List ℕ). Tell now v (l ∷ left)) same.0 told))
        (λ v told e. omega (arith, ap (λ (l : List ℕ). length l) e, length-append line (10 ∷ more)))

    -- the text ends inside the open line
    pub damaged_inside : (text : List ℕ) (now : P) (partial : List ℕ) (number : ℕ) → Fed text now partial number
        → 0 < length partial → Damages (IsTextOfLines (Tell first)) (Damaged number) text
    damaged_inside text now partial number h some =
        damaged_part (Tell first) (Tell now) h.lines partial text number h.are_lines h.split h.count h.goes_on
        (goes_on now)
        (λ v line left after told e is. no_feed_in_line line after (subst IsLine e h.is_partial))
        (λ v told e. omega (arith, some, ap (λ (l : List ℕ). length l) e))

    -- the text ends where a line is missing
    pub damaged_early : (text : List ℕ) (now : P) (partial : List ℕ) (number : ℕ) → Fed text now partial number
        → length partial ≡ 0 → ((value : T) → Tell now value [] → ⊥)
        → Damages (IsTextOfLines (Tell first)) (Damaged number) text
    damaged_early text now partial number h none no_value =
        damaged_part (Tell first) (Tell now) h.lines partial text number h.are_lines h.split h.count h.goes_on
        (goes_on now)
        (λ v line left after told e is. no_feed_in_line line after (subst IsLine e h.is_partial))
        (λ v told e. no_value v told)

  -- the text ends with its last line
  pub told_whole : (text : List ℕ) (now : P) (partial : List ℕ) (number : ℕ) (value : T)
      → (h : Fed text now partial number) → partial ≡ [] → Tell now value []
      → IsTextOfLines (Tell first) value text
  told_whole text now partial number value h none told = (
    h.lines,
    h.are_lines,
    subst (Tell first value) (append-nil h.lines) ((h.goes_on value []).1 told),
    h.split ∙ (ap (λ (l : List ℕ). ended h.lines ++ l) none ∙ append-nil (ended h.lines)),
  )

-- what is open goes on, or memory ran out, which damages nothing
pub kept_open : {Q T : Type 0} (IsTextOf : T → List ℕ → Type 0) (IsFed : List ℕ → Q → Type 0) (result : Result Q TextFault)
    (fed whole : List ℕ) (later : List ℕ → List ℕ) → fed ≡ whole
    → MatchResult result (λ longer. IsFed fed longer) (λ fault. fault ≡ NoMemory)
    → MatchResult result (λ longer. IsFed whole longer)
    (λ fault. (more : List ℕ) → Damages IsTextOf fault (later more))
kept_open IsTextOf IsFed (Ok longer) fed whole later same h = subst (λ (t : List ℕ). IsFed t longer) same h
kept_open IsTextOf IsFed (Err fault) fed whole later same h = λ more n e.
    let wrong : NoMemory ≡ Damaged n = sym h ∙ e in
    absurd cc
