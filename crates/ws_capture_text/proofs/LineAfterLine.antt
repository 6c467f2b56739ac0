-- Line after line through a room: what was written, what waits and what is left are together what was due.
use Rattle.std.proofs.Common.{◌≡◌, ◌∙◌, ℕ, List, [], ◌∷◌, ◌++◌, Bool, false, Option, Some, None, ap, sym, refl, subst, append_assoc, append-nil}
use Rattle.std.proofs.KnownBytes.{Appends-nil, Appends-trans}
use Rattle.std.specs.Io.KnownBytes.{Appends}
use Rattle.std.specs.List.{AllByRecursion}
use Rattle.ws_formats.specs.Lines.{IsLine, ended}
use Rattle.ws_formats.proofs.DamagedLines.{no_feed_in_line, no_line_empty, one_line}
use Rattle.ws_frame.specs.Watching.{AppendsFront}
use Rattle.ws_rooms.proofs.Waiting.{Stands, begun_more, begun_behind}
use Rattle.ws_capture_text.specs.declared.mark.Mark.{Mark}
use Rattle.ws_capture_text.specs.InnerJoining.{joined_lines, mark_in, put_by, put_of, text_before}
use Rattle.ws_capture_text.specs.InnerMarks.{parted}

-- what was written and waits is, with what the lines become that are left, what was due
abbrev pub Goes : List ℕ → List ℕ → Option Mark → List ℕ → Option (List ℕ) → Option (List ℕ) → Type 0
Goes due waiting last rest old new = (lines : List (List ℕ)) × AllByRecursion IsLine lines × (rest ≡ ended lines)
    × (written : List ℕ) × Appends old new written × (due ≡ written ++ (waiting ++ joined_lines last lines))

-- a line with a mark
pub put_word : (old line before word : List ℕ) (last : Option Mark) (mark : Mark) → parted line ≡ Some (mark, word)
    → before ≡ text_before last (Some mark) → old ++ put_of last line ≡ (old ++ before) ++ word
put_word old line before word last mark e f =
    ap (λ (p : Option (Mark × List ℕ)). old ++ put_by last line p) e
    ∙ (ap (λ (l : List ℕ). old ++ (l ++ word)) (sym f) ∙ sym (append_assoc old before word))

-- a line without one
pub put_plain : (old line before : List ℕ) (last : Option Mark) → parted line ≡ None
    → before ≡ text_before last None → old ++ put_of last line ≡ (old ++ before) ++ (line ++ 10 ∷ [])
put_plain old line before last e f =
    ap (λ (p : Option (Mark × List ℕ)). old ++ put_by last line p) e
    ∙ (ap (λ (l : List ℕ). old ++ (l ++ (line ++ 10 ∷ []))) (sym f) ∙ sym (append_assoc old before (line ++ 10 ∷ [])))

pub goes : (due waiting : List ℕ) (last : Option Mark) (rest : List ℕ) (old new : Option (List ℕ))
    (lines : List (List ℕ)) → AllByRecursion IsLine lines → rest ≡ ended lines → Stands due (waiting ++ joined_lines last lines) old new
    → Goes due waiting last rest old new
goes due waiting last rest old new lines are e (written, wrote, f) = (lines, are, e, written, wrote, f)

-- where no line is left, what was due is written or waits
pub all_gone : (due waiting : List ℕ) (last : Option Mark) (rest : List ℕ) (old new : Option (List ℕ))
    → Goes due waiting last rest old new → IsLine rest → Stands due waiting old new
all_gone due waiting last rest old new ([], are, e, written, wrote, f) line =
    (written, wrote, f ∙ ap (λ (l : List ℕ). written ++ l) (append-nil waiting))
all_gone due waiting last rest old new (x ∷ lines, are, e, written, wrote, f) line =
    absurd (no_feed_in_line x (ended lines) (subst IsLine (e ∙ append_assoc x (10 ∷ []) (ended lines)) line))

-- the first line that is left
first_left : (lines : List (List ℕ)) (line rest after : List ℕ) → AllByRecursion IsLine lines → rest ≡ ended lines
    → rest ≡ line ++ 10 ∷ after → IsLine line
    → (more : List (List ℕ)) × (lines ≡ line ∷ more) × AllByRecursion IsLine more × (after ≡ ended more)
first_left [] line rest after are e f is = absurd (no_line_empty line after (sym f ∙ e))
first_left (x ∷ lines) line rest after are e f is =
    let same = one_line line x after (ended lines) is are.0
    (sym f ∙ (e ∙ append_assoc x (10 ∷ []) (ended lines))) in
    (lines, ap (λ (l : List ℕ). l ∷ lines) (sym same.0), are.1, same.1)

abbrev pub Steps : List ℕ → List ℕ → Option (List ℕ) → Option (List ℕ) → Option Mark → List ℕ → List ℕ → Type 0
Steps due waiting old mid last line after = (more : List (List ℕ)) × AllByRecursion IsLine more × (after ≡ ended more)
    × ((left : List ℕ) (new : Option (List ℕ)) → Stands (waiting ++ put_of last line) left mid new
    → Stands due (left ++ joined_lines (mark_in (parted line)) more) old new)
    × ((new : Option (List ℕ)) → AppendsFront mid new (waiting ++ put_of last line) → AppendsFront old new due)

-- what one line more does
pub steps : (due waiting : List ℕ) (last : Option Mark) (line rest after : List ℕ) (old mid : Option (List ℕ))
    → Goes due waiting last rest old mid → rest ≡ line ++ 10 ∷ after → IsLine line
    → Steps due waiting old mid last line after
steps due waiting last line rest after old mid (lines, are, e, written, wrote, f) g is =
    let (more, same, are_more, h) = first_left lines line rest after are e g is in
    let put = put_of last line in
    let behind = joined_lines (mark_in (parted line)) more in
    let all : due ≡ written ++ (waiting ++ (put ++ behind)) =
    f ∙ ap (λ (l : List (List ℕ)). written ++ (waiting ++ joined_lines last l)) same in
    let grouped : due ≡ (written ++ (waiting ++ put)) ++ behind =
    all ∙ (ap (λ (l : List ℕ). written ++ l) (sym (append_assoc waiting put behind))
    ∙ sym (append_assoc written (waiting ++ put) behind)) in (
      more,
      are_more,
      h,
      λ left new (next, later, k). (
        written ++ next,
        Appends-trans old mid new written next wrote later,
        grouped ∙ (ap (λ (l : List ℕ). (written ++ l) ++ behind) k
            ∙ (ap (λ (l : List ℕ). l ++ behind) (sym (append_assoc written next left))
            ∙ append_assoc (written ++ next) left behind)),
      ),
      λ new begun.
          begun_more (written ++ (waiting ++ put)) behind due old new grouped
          (begun_behind written [] (waiting ++ put) (written ++ (waiting ++ put)) old mid new
          (written, wrote, sym (append-nil written)) refl begun),
    )

pub goes_first : (waiting rest : List ℕ) (old : Option (List ℕ)) (lines : List (List ℕ)) → AllByRecursion IsLine lines
    → rest ≡ ended lines → Goes (waiting ++ joined_lines None lines) waiting None rest old old
goes_first waiting rest old lines are e = (lines, are, e, [], Appends-nil old, refl)

pub goes_further : (due waiting left : List ℕ) (last next : Option Mark) (line rest after : List ℕ) (failed : Bool)
    (old mid new : Option (List ℕ)) → Goes due waiting last rest old mid → rest ≡ line ++ 10 ∷ after → IsLine line
    → ((written : List ℕ) × Appends mid new written × (failed ≡ false)
    × (waiting ++ put_of last line ≡ written ++ left))
    → next ≡ mark_in (parted line) → Goes due left next after old new
goes_further due waiting left last next line rest after failed old mid new goes e is (written, wrote, works, f) g =
    let (more, are, h, further, begun) = steps due waiting last line rest after old mid goes e is in
    let (both, wrote_both, k) = further left new (written, wrote, f) in
    (more, are, h, both, wrote_both, k ∙ ap (λ (m : Option Mark). both ++ (left ++ joined_lines m more)) (sym g))

pub goes_wrong : (due waiting : List ℕ) (last : Option Mark) (line rest after : List ℕ)
    (old mid new : Option (List ℕ)) → Goes due waiting last rest old mid → rest ≡ line ++ 10 ∷ after → IsLine line
    → AppendsFront mid new (waiting ++ put_of last line) → AppendsFront old new due
goes_wrong due waiting last line rest after old mid new goes e is begun =
    let (more, are, h, further, wrong) = steps due waiting last line rest after old mid goes e is in wrong new begun
