-- What is fed next: the line that was partial goes on, or ends and is taken, or tells no value, and then the text is
-- damaged there.
use Rattle.std.proofs.Common.{◌≡◌, ◌∙◌, ℕ, ◌+◌, ◌<◌, List, [], ◌∷◌, ◌++◌, length, ap, sym, refl, subst, arith}
use Rattle.std.proofs.Common.{append_assoc, append-nil}
use Rattle.std.proofs.lemmas.List.{length-append}
use Rattle.std.proofs.lemmas.List.Elements.{All-append, All-nil}
use Rattle.std.specs.List.{AllZip}
use Rattle.ws_base.specs.declared.text_fault.TextFault.TheVariants.{Damaged}
use Rattle.ws_formats.specs.Lines.{Damages, HasLineForEach, IsLine, ended, line_feed}
use Rattle.ws_formats.specs.Reading.{TellFurther}
use Rattle.ws_formats.proofs.DamagedLines.{lines_added, names_line, no_feed_in_line, one_line, text_added}
use Rattle.ws_formats.proofs.PartialTexts.{damaged_each, damaged_part, lines_for_each}
use Rattle.ws_text_feed.specs.Feeding.{HasFed}

module _ {T : Type 0} (IsLineOf : T → List ℕ → Type 0) where
  zip_added : (values : List T) (lines : List (List ℕ)) (value : T) (line : List ℕ) → AllZip IsLineOf values lines
      → IsLineOf value line → AllZip IsLineOf (values ++ value ∷ []) (lines ++ line ∷ [])
  zip_added [] [] value line zip is = (is, tt)
  zip_added [] (other ∷ lines) value line zip is = absurd zip
  zip_added (first ∷ values) [] value line zip is = absurd zip
  zip_added (first ∷ values) (other ∷ lines) value line zip is = (zip.0, zip_added values lines value line zip.1 is)

  zip_joined : (values new : List T) (lines more : List (List ℕ)) → AllZip IsLineOf values lines
      → AllZip IsLineOf new more → AllZip IsLineOf (values ++ new) (lines ++ more)
  zip_joined [] new [] more zip others = others
  zip_joined [] new (line ∷ lines) more zip others = absurd zip
  zip_joined (first ∷ values) new [] more zip others = absurd zip
  zip_joined (first ∷ values) new (line ∷ lines) more zip others = (zip.0, zip_joined values new lines more zip.1 others)

  -- what tells more lines than some has the others behind them
  zip_behind : (lines more : List (List ℕ)) (all : List T) → AllZip IsLineOf all (lines ++ more)
      → (new : List T) × AllZip IsLineOf new more
  zip_behind [] more all zip = (all, zip)
  zip_behind (line ∷ lines) more [] zip = absurd zip
  zip_behind (line ∷ lines) more (first ∷ all) zip = zip_behind lines more all zip.1

  -- what may follow the lines that were taken
  goes_on : (values : List T) (lines : List (List ℕ)) → AllZip IsLineOf values lines → (all : List T)
      (more : List (List ℕ)) → (TellFurther IsLineOf [] all (lines ++ more)
      → (other : List T) × TellFurther IsLineOf values other more)
      × (TellFurther IsLineOf values all more → TellFurther IsLineOf [] all (lines ++ more))
  goes_on values lines zip all more = (
    λ told. let b = zip_behind lines more told.0 told.2 in (values ++ b.0, (b.0, refl, b.1)),
    λ told. (values ++ told.0, told.1, zip_joined values told.0 lines more zip told.2),
  )

  module _ {S : Type 0} (HasTaken : S → List T → S → Type 0) (first : S) where
    abbrev Fed : List ℕ → S → List ℕ → ℕ → Type 0
    Fed text now partial number = HasFed IsLineOf HasTaken first text now partial number

    -- nothing was fed
    pub started : HasTaken first [] first → Fed [] first [] 1
    started stays = record {
      lines = [];
      are_lines = tt;
      values = [];
      told = tt;
      is_partial = All-nil (λ (byte : ℕ). byte ≡ line_feed → ⊥);
      split = refl;
      count = refl;
      taken = stays;
    }

    -- the open line goes on
    pub longer : (text piece : List ℕ) (now : S) (partial : List ℕ) (number : ℕ) → Fed text now partial number
        → IsLine piece → Fed (text ++ piece) now (partial ++ piece) number
    longer text piece now partial number h is = record {
      lines = h.lines;
      are_lines = h.are_lines;
      values = h.values;
      told = h.told;
      is_partial = All-append (λ (byte : ℕ). byte ≡ line_feed → ⊥) partial piece h.is_partial is;
      split = ap (λ (t : List ℕ). t ++ piece) h.split ∙ append_assoc (ended h.lines) partial piece;
      count = h.count;
      taken = h.taken;
    }

    -- the open line ends, and its value is taken
    pub one_taken : (text end : List ℕ) (old new : S) (partial : List ℕ) (number after : ℕ) (value : T)
        → (h : Fed text old partial number) → IsLine end → IsLineOf value (partial ++ end)
        → HasTaken first (h.values ++ value ∷ []) new → after ≡ number + 1
        → Fed (text ++ (end ++ line_feed ∷ [])) new [] after
    one_taken text end old new partial number after value h is told taken counted =
        let line = partial ++ end in
        let whole = All-append (λ (byte : ℕ). byte ≡ line_feed → ⊥) partial end h.is_partial is in
        let behind : text ++ (end ++ 10 ∷ []) ≡ ended h.lines ++ (line ++ 10 ∷ []) =
        ap (λ (t : List ℕ). t ++ (end ++ 10 ∷ [])) h.split
        ∙ append_assoc (ended h.lines) partial (end ++ 10 ∷ [])
        ∙ ap (λ (t : List ℕ). ended h.lines ++ t) (sym (append_assoc partial end (10 ∷ []))) in
        record {
          lines = h.lines ++ line ∷ [];
          are_lines = lines_added h.lines line h.are_lines whole;
          values = h.values ++ value ∷ [];
          told = zip_added h.values h.lines value line h.told told;
          is_partial = All-nil (λ (byte : ℕ). byte ≡ line_feed → ⊥);
          split = text_added (text ++ (end ++ 10 ∷ [])) (line ++ 10 ∷ []) line [] h.lines behind refl;
          count = omega (arith, counted, h.count, length-append h.lines (line ∷ []));
          taken = taken;
        }

    -- the text is damaged at the open line, where no value is told by it and nothing else follows the lines before
    damaged_open : (text rest : List ℕ) (now : S) (partial : List ℕ) (number : ℕ) → (h : Fed text now partial number)
        → (whole : List ℕ) → whole ≡ ended h.lines ++ rest
        → ((value : T) (line after : List ℕ) → IsLineOf value line → rest ≡ line ++ 10 ∷ after → IsLine line → ⊥)
        → (rest ≡ [] → ⊥) → Damages (HasLineForEach IsLineOf) (Damaged number) whole
    damaged_open text rest now partial number h whole split wrong some =
        let d = damaged_part (TellFurther IsLineOf []) (TellFurther IsLineOf h.values) h.lines rest whole number
        h.are_lines split h.count (goes_on h.values h.lines h.told) (h.values, [], tt, ([], sym (append-nil h.values), tt))
        (λ v line left after told e is. first_wrong line left after told.0 told.2 e is)
        (λ v told e. some e) in
        names_line (HasLineForEach IsLineOf) number whole (damaged_each IsLineOf number whole (d number refl))
      where
        first_wrong : (line : List ℕ) (left : List (List ℕ)) (after : List ℕ) (new : List T)
            → AllZip IsLineOf new (line ∷ left) → rest ≡ line ++ 10 ∷ after → IsLine line → ⊥
        first_wrong line left after [] zip e is = absurd zip
        first_wrong line left after (value ∷ new) zip e is = wrong value line after zip.0 e is

    -- the open line ends and tells no value
    pub damaged_line : (text end more : List ℕ) (now : S) (partial : List ℕ) (number : ℕ) → Fed text now partial number
        → IsLine end → ((value : T) → IsLineOf value (partial ++ end) → ⊥)
        → Damages (HasLineForEach IsLineOf) (Damaged number) (text ++ (end ++ line_feed ∷ more))
    damaged_line text end more now partial number h is none =
        let line = partial ++ end in
        let whole = All-append (λ (byte : ℕ). byte ≡ line_feed → ⊥) partial end h.is_partial is in
        let split : text ++ (end ++ 10 ∷ more) ≡ ended h.lines ++ (line ++ 10 ∷ more) =
        ap (λ (t : List ℕ). t ++ (end ++ 10 ∷ more)) h.split
        ∙ append_assoc (ended h.lines) partial (end ++ 10 ∷ more)
        ∙ ap (λ (t : List ℕ). ended h.lines ++ t) (sym (append_assoc partial end (10 ∷ more))) in
        damaged_open text (line ++ 10 ∷ more) now partial number h (text ++ (end ++ 10 ∷ more)) split
        (λ value other after told e other_is.
        let same = one_line other line after more other_is whole (sym e) in
        none value (subst (IsLineOf value) same.0 told))
        (λ e. omega (arith, ap (λ (l : List ℕ). length l) e, length-append line (10 ∷ more)))

    -- the text ends inside the open line
    pub damaged_end : (text : List ℕ) (now : S) (partial : List ℕ) (number : ℕ) → Fed text now partial number
        → 0 < length partial → Damages (HasLineForEach IsLineOf) (Damaged number) text
    damaged_end text now partial number h some =
        damaged_open text partial now partial number h text h.split
        (λ value line after told e is. no_feed_in_line line after (subst IsLine e h.is_partial))
        (λ e. omega (arith, some, ap (λ (l : List ℕ). length l) e))

    -- the text ends with a line
    pub ended_whole : (text : List ℕ) (now : S) (partial : List ℕ) (number : ℕ) → (h : Fed text now partial number)
        → partial ≡ [] → HasLineForEach IsLineOf h.values text
    ended_whole text now partial number h none =
        lines_for_each IsLineOf h.values text (
          h.lines,
          h.are_lines,
          (h.values, refl, h.told),
          h.split ∙ (ap (λ (l : List ℕ). ended h.lines ++ l) none ∙ append-nil (ended h.lines)),
        )

pub none_left : (rest : List ℕ) → length rest ≡ 0 → rest ≡ []
none_left [] none = refl
none_left (byte ∷ rest) none = absurd (omega (arith, none))

-- what stands before a line and with it
pub through : (done rest line after : List ℕ) → rest ≡ line ++ line_feed ∷ after
    → done ++ rest ≡ (done ++ (line ++ line_feed ∷ [])) ++ after
through done rest line after parts =
    ap (λ (l : List ℕ). done ++ l) (parts ∙ sym (append_assoc line (10 ∷ []) after))
    ∙ sym (append_assoc done (line ++ 10 ∷ []) after)

-- what follows a line follows what stands before it
pub before_line : (text done piece rest line after more : List ℕ) → piece ≡ done ++ rest → rest ≡ line ++ line_feed ∷ after
    → (text ++ done) ++ (line ++ line_feed ∷ (after ++ more)) ≡ text ++ (piece ++ more)
before_line text done piece rest line after more parts cut =
    append_assoc text done (line ++ 10 ∷ (after ++ more))
    ∙ ap (λ (l : List ℕ). text ++ l)
    (ap (λ (l : List ℕ). done ++ l) (sym (append_assoc line (10 ∷ after) more) ∙ ap (λ (l : List ℕ). l ++ more) (sym cut))
    ∙ sym (append_assoc done rest more)
    ∙ ap (λ (l : List ℕ). l ++ more) (sym parts))
