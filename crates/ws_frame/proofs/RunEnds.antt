-- What a read brings to a run of `show`, and how a run ends.
use Rattle.std.proofs.Common.{◌≡◌, ℕ, ◌+◌, ◌-◌, ◌<◌, ◌≤◌, false, List, [], ◌++◌, length, take, Option, min, refl, sym, ap, ◌∙◌, append_assoc, append-nil, arith, inl, inr, subst}
use Rattle.std.proofs.lemmas.List.{length-append, length-take-le}
use Rattle.std.specs.Io.KnownBytes.{IsAtEnd, Consumes}
use Rattle.std.proofs.KnownBytes.{Consumes-trans}
use Rattle.ws_frame.specs.declared.source.Source.{Source}
use Rattle.ws_frame.specs.declared.showing.StreamEnd.{StreamEnd}
use Rattle.ws_frame.specs.declared.showing.StreamEnd.TheVariants.{Whole, CutAt, BadLengthAt}
use Rattle.ws_frame.specs.declared.showing.ShowEnd.{ShowEnd}
use Rattle.ws_frame.specs.declared.showing.ShowEnd.TheVariants as show_end
use Rattle.ws_frame.specs.Devices.{Device, HasWritten}
use Rattle.ws_frame.specs.Lines.{last_line, AreFrameLinesOf, ShowRun, BeginsDueLines, HasEarlierLines, IsShownAt, IsFairEnd}
use Rattle.ws_frame.specs.InnerShowing.{IsLeft, BeginsLines, EndsWith, run_end}
use Rattle.ws_frame.proofs.Fronts.{all_lines}

-- ---- reading

pub read_nothing : (a b c : Option (List ℕ)) (read buf : List ℕ) (n : ℕ) → n ≡ 0 → Consumes a b read → Consumes b c (take n buf) → Consumes a c read
read_nothing a b c read buf n e p q =
    subst (λ (t : List ℕ). Consumes a c t) (ap (λ k. read ++ take k buf) e ∙ append-nil read) (Consumes-trans a b c read (take n buf) p q)

pub piece_within : (taken budget count want : ℕ) (read buf : List ℕ) → taken ≡ length read → count ≤ length buf → length buf ≡ want → want ≡ min (budget - taken) 65536 → taken < budget
    → (length (read ++ take count buf) ≤ budget) × (length (take count buf) ≤ 65536) × (length (read ++ take count buf) ≡ taken + count)
piece_within taken budget count want read buf e le size least below =
    let piece : length (take count buf) ≡ count = length-take-le count buf le in
    let all : length (read ++ take count buf) ≡ taken + count = length-append read (take count buf) ∙ (omega (arith, e, piece)) in
    (omega (arith, all, le, size, least), omega (arith, piece, le, size, least), all)

-- the same where what is left of the budget is counted
pub piece_of_left : (left budget count want : ℕ) (read buf : List ℕ) → length read + left ≡ budget
    → count ≤ length buf → length buf ≡ want → want ≡ min left 65536
    → (length (read ++ take count buf) ≤ budget) × (length (take count buf) ≤ 65536)
    × (length (read ++ take count buf) + (left - count) ≡ budget)
piece_of_left left budget count want read buf all le size least =
    let piece : length (take count buf) ≡ count = length-take-le count buf le in
    let both : length (read ++ take count buf) ≡ length read + count =
    length-append read (take count buf) ∙ (omega (arith, piece)) in (
      omega (arith, both, le, size, least, all),
      omega (arith, piece, le, size, least),
      omega (arith, both, le, size, least, all),
    )

-- ---- how a run ends

abbrev pub run_of : Source → ℕ → List ℕ → Option (List ℕ) → List ℕ → ShowRun
run_of source budget read unread written = record { source = source; budget = budget; read = read; unread = unread; written = written }

-- what begins the lines of a stream that may go on begins what is due
pub due_on : (source : Source) (budget : ℕ) (unread : Option (List ℕ)) (read front : List ℕ) → BeginsLines source read front → BeginsDueLines (run_of source budget read unread front)
due_on source budget unread read front b = record {
  lines = b.lines;
  more = b.more;
  due = elim b.are [ inl frames ↦ inl frames | inr bad ↦ inr (inl bad) ];
  begins = b.begins;
}

-- of a read, the lines of all before it were written
pub earlier_lines : (source : Source) (budget : ℕ) (unread : Option (List ℕ)) (before last lines more : List ℕ) → length last ≤ 65536 → AreFrameLinesOf source before lines → HasEarlierLines (run_of source budget (before ++ last) unread (lines ++ more))
earlier_lines source budget unread before last lines more few are =
    record { before = before; last = last; parts = refl; one_read = few; lines = lines; are = are; more = more; begins = refl }

earlier_more : (source : Source) (budget : ℕ) (unread : Option (List ℕ)) (read written more : List ℕ) → HasEarlierLines (run_of source budget read unread written) → HasEarlierLines (run_of source budget read unread (written ++ more))
earlier_more source budget unread read written more h =
    record { before = h.before; last = h.last; parts = h.parts; one_read = h.one_read; lines = h.lines; are = h.are; more = h.more ++ more; begins = ap (λ (t : List ℕ). t ++ more) h.begins ∙ append_assoc h.lines h.more more }

pub earlier_all : (source : Source) (budget : ℕ) (unread : Option (List ℕ)) (read lines : List ℕ) → AreFrameLinesOf source read lines → HasEarlierLines (run_of source budget read unread lines)
earlier_all source budget unread read lines are =
    record { before = read; last = []; parts = sym (append-nil read); one_read = omega arith; lines = lines; are = are; more = []; begins = sym (append-nil lines) }

-- what has to hold where a run ends so
abbrev pub MayEnd : StreamEnd → ℕ → List ℕ → Device → Type 0
MayEnd Whole budget read input = (length read < budget) × (input.failed ≡ false) × IsAtEnd input.new
MayEnd (CutAt place) budget read input = (length read < budget) × (input.failed ≡ false) × IsAtEnd input.new
MayEnd (BadLengthAt place) budget read input = Unit {0}

pub may_end : (left : StreamEnd) (budget : ℕ) (read : List ℕ) (input : Device) → length read < budget → input.failed ≡ false → IsAtEnd input.new → MayEnd left budget read input
may_end Whole budget read input below works end = (below, works, end)
may_end (CutAt place) budget read input below works end = (below, works, end)
may_end (BadLengthAt place) budget read input below works end = tt

-- a beginning of the last line was written
begun : (source : Source) (budget : ℕ) (left : StreamEnd) (read written front more : List ℕ) (input : Device) → MayEnd left budget read input → IsLeft source read left written → last_line source left ≡ front ++ more
    → BeginsDueLines (run_of source budget read input.new (written ++ front))
begun source budget Whole read written front more input (below, f, end) is part = record {
  lines = written ++ last_line source Whole;
  more = more;
  due = inr (inr (below, end, (Whole, all_lines source read Whole written is)));
  begins = ap (λ (t : List ℕ). written ++ t) part ∙ sym (append_assoc written front more);
}
begun source budget (CutAt at) read written front more input (below, f, end) is part = record {
  lines = written ++ last_line source (CutAt at);
  more = more;
  due = inr (inr (below, end, (CutAt at, all_lines source read (CutAt at) written is)));
  begins = ap (λ (t : List ℕ). written ++ t) part ∙ sym (append_assoc written front more);
}
begun source budget (BadLengthAt at) read written front more input may is part = record {
  lines = written ++ last_line source (BadLengthAt at);
  more = more;
  due = inr (inl (at, all_lines source read (BadLengthAt at) written is));
  begins = ap (λ (t : List ℕ). written ++ t) part ∙ sym (append_assoc written front more);
}

-- the last line was written
pub record Ended (source : Source) (budget : ℕ) (result : ShowEnd) (read written : List ℕ) (input output : Device) : Type 0 where
  pub last : List ℕ
  pub was_written : HasWritten last output
  pub shown : IsShownAt result (run_of source budget read input.new (written ++ last))
  pub fair : IsFairEnd result input output
  pub memory : result ≡ show_end.NoMemory → ⊥

ended_so : (source : Source) (budget : ℕ) (left : StreamEnd) (read written : List ℕ) (input output : Device) → MayEnd left budget read input → IsLeft source read left written → HasWritten (last_line source left) output
    → output.failed ≡ false → Ended source budget (run_end left) read written input output
ended_so source budget Whole read written input output (below, f, end) is wrote works =
    record { last = last_line source Whole; was_written = wrote; shown = (all_lines source read Whole written is, below); fair = (f, works, end); memory = λ e. absurd cc }
ended_so source budget (CutAt at) read written input output (below, f, end) is wrote works =
    record { last = last_line source (CutAt at); was_written = wrote; shown = (all_lines source read (CutAt at) written is, below); fair = (f, works, end); memory = λ e. absurd cc }
ended_so source budget (BadLengthAt at) read written input output may is wrote works =
    record { last = last_line source (BadLengthAt at); was_written = wrote; shown = all_lines source read (BadLengthAt at) written is; fair = works; memory = λ e. absurd cc }

pub ended : (source : Source) (budget : ℕ) (left : StreamEnd) (result : ShowEnd) (read written : List ℕ) (input output : Device) → MayEnd left budget read input → IsLeft source read left written
    → HasEarlierLines (run_of source budget read input.new written) → EndsWith source left output result → Ended source budget result read written input output
ended source budget left result read written input output may is earlier (inl (same, wrote, works)) =
    subst (λ (x : ShowEnd). Ended source budget x read written input output) (sym same) (ended_so source budget left read written input output may is wrote works)
ended source budget left result read written input output may is earlier (inr (same, failed, (front, more, wrote, part))) =
    subst (λ (x : ShowEnd). Ended source budget x read written input output) (sym same) (record {
      last = front;
      was_written = wrote;
      shown = (begun source budget left read written front more input may is part, earlier_more source budget input.new read written front earlier);
      fair = failed;
      memory = λ e. absurd cc;
    })
