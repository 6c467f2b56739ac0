-- A text each of whose lines is one of runs has the lines of runs, and is damaged where it is none.
use Rattle.std.proofs.Common.{◌≡◌, ◌∙◌, ℕ, ◌<◌, List, [], ◌∷◌, ◌++◌, length, ap, sym, refl, subst, append_assoc}
use Rattle.std.proofs.Common.{Result, Ok, Err, MatchResult}
use Rattle.std.specs.List.{AllByRecursion}
use Rattle.ws_base.specs.declared.text_fault.TextFault.{TextFault}
use Rattle.ws_formats.specs.Lines.{BeginsWithLines, Damages, HasLineForEach, IsDamagedAt, IsLine, IsTextOfLines, ended}
use Rattle.ws_runs.specs.Checking.{AreLinesOfRuns, IsLineOfRuns}
use Rattle.ws_runs.specs.RunLines.{AreRunLines, IsRunLine, RunLine}
use Rattle.ws_runs.specs.declared.checking.Lines.{Lines}

one_ended : (line : List ℕ) (lines : List (List ℕ)) → ended (line ∷ lines) ≡ line ++ 10 ∷ ended lines
one_ended line lines = append_assoc line (10 ∷ []) (ended lines)

meanings : (lines : List (List ℕ)) → AllByRecursion IsLine lines → AllByRecursion IsLineOfRuns lines
    → (values : List RunLine) × AreRunLines values (ended lines)
meanings [] are all = ([], refl)
meanings (line ∷ lines) are all =
    let rest = meanings lines are.1 all.1 in
    (all.0.0 ∷ rest.0, (line, ended lines, one_ended line lines, are.0, all.0.1, rest.1))

raw_lines : (values : List RunLine) (text : List ℕ) → AreRunLines values text
    → (lines : List (List ℕ)) × AllByRecursion IsLine lines × AllByRecursion IsLineOfRuns lines × (text ≡ ended lines)
raw_lines [] text is = ([], tt, tt, is)
raw_lines (value ∷ values) text (line, rest, e, is_line, is, more) =
    let others = raw_lines values rest more in (
      line ∷ others.0,
      (is_line, others.1),
      ((value, is), others.2),
      e ∙ ap (λ (l : List ℕ). line ++ 10 ∷ l) others.3 ∙ sym (one_ended line others.0),
    )

module _ (part : Lines) where
  pub told : (value : Unit {0}) (text : List ℕ) → IsTextOfLines (AreLinesOfRuns part) value text
      → (lines : List RunLine) × AreRunLines lines text
  told value text (lines, are, all, e) =
      let found = meanings lines are all in
      (found.0, subst (λ (t : List ℕ). AreRunLines found.0 t) (sym e) found.1)

  untold : (values : List RunLine) (text : List ℕ) → AreRunLines values text
      → IsTextOfLines (AreLinesOfRuns part) tt text
  untold values text are = raw_lines values text are

  begun : (n : ℕ) (text : List ℕ) → BeginsWithLines (IsTextOfLines (AreLinesOfRuns part)) n text
      → BeginsWithLines AreRunLines n text
  begun n text b =
      let whole = told b.value (ended b.lines ++ b.more) b.begins in record {
        lines = b.lines;
        are_lines = b.are_lines;
        number = b.number;
        rest = b.rest;
        has = b.has;
        value = whole.0;
        more = b.more;
        begins = whole.1;
      }

  unbegun : (n : ℕ) (text : List ℕ) → BeginsWithLines AreRunLines n text
      → BeginsWithLines (IsTextOfLines (AreLinesOfRuns part)) n text
  unbegun n text b = record {
    lines = b.lines;
    are_lines = b.are_lines;
    number = b.number;
    rest = b.rest;
    has = b.has;
    value = tt;
    more = b.more;
    begins = untold b.value (ended b.lines ++ b.more) b.begins;
  }

  damaged_too : (fault : TextFault) (text : List ℕ) → Damages (IsTextOfLines (AreLinesOfRuns part)) fault text
      → Damages AreRunLines fault text
  damaged_too fault text damages n told_line =
      let d = damages n told_line in record {
        none = λ values is. d.none tt (untold values text is);
        from_one = d.from_one;
        before = λ m less. begun m text (d.before m less);
        damaged = λ b. d.damaged (unbegun n text b);
      }

  pub checked : (text : List ℕ) (found : Result (Unit {0}) TextFault)
      → MatchResult found (λ value. IsTextOfLines (AreLinesOfRuns part) value text)
      (λ fault. Damages (IsTextOfLines (AreLinesOfRuns part)) fault text)
      → MatchResult found (λ _. (lines : List RunLine) × AreRunLines lines text) (λ fault. Damages AreRunLines fault text)
  checked text (Ok value) is = told value text is
  checked text (Err fault) damages = damaged_too fault text damages
