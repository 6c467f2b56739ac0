-- Texts whose lines tell one value together: they begin in one way, and the first line that begins none is the
-- damaged one.
use Rattle.std.specs.Prelude.{MatchResult, Result, Ok, Err}
use Rattle.ws_base.specs.declared.text_fault.TextFault.{TextFault}
use Rattle.std.proofs.Common.{◌≡◌, ◌∙◌, ℕ, ◌+◌, List, [], ◌∷◌, ◌++◌, length, ap, ap₂, sym, refl, subst, arith}
use Rattle.std.proofs.Common.{append_assoc, append-nil}
use Rattle.std.proofs.lemmas.Grind.{flat_map-append}
use Rattle.std.specs.List.{AllByRecursion}
use Rattle.std.specs.List.{AllZip}
use Rattle.ws_base.specs.declared.text_fault.TextFault.TheVariants.{Damaged}
use Rattle.ws_formats.specs.Lines.{CanBeTold, Damages, HasLineForEach, IsDamagedAt, IsLine, IsTextOfLines, ended}
use Rattle.ws_formats.specs.Reading.{TellFurther}
use Rattle.ws_formats.proofs.DamagedLines.{ended_cons, names_line, no_line_empty, one_line, parted}

-- ---- whole lines at the front of a text

ended_first : (line : List ℕ) (lines : List (List ℕ)) → ended (line ∷ lines) ≡ line ++ 10 ∷ ended lines
ended_first line lines = append_assoc line (10 ∷ []) (ended lines)

-- whole lines that begin whole lines are the first of them
pub front_of_lines : (front all : List (List ℕ)) (more : List ℕ) → AllByRecursion IsLine front
    → AllByRecursion IsLine all
    → ended all ≡ ended front ++ more → (left : List (List ℕ)) × (all ≡ front ++ left) × (more ≡ ended left)
front_of_lines [] all more p q e = (all, refl, sym e)
front_of_lines (b ∷ front) [] more p q e =
    absurd (no_line_empty b (ended front ++ more) (sym (ended_cons b front more) ∙ sym e))
front_of_lines (b ∷ front) (a ∷ all) more p q e =
    let same = one_line b a (ended front ++ more) (ended all) p.0 q.0
    (sym (ended_cons b front more) ∙ (sym e ∙ ended_first a all)) in
    let (left, f, g) = front_of_lines front all more p.1 q.1 (sym same.1) in
    (left, ap₂ (λ (z : List ℕ) (zs : List (List ℕ)). z ∷ zs) (sym same.0) f, g)

-- one line more than some lines at the front of a text is the first line of what stands after these
line_after : (front lines : List (List ℕ)) (rest other : List ℕ) → AllByRecursion IsLine front
    → AllByRecursion IsLine lines
    → length lines ≡ length front + 1 → ended front ++ rest ≡ ended lines ++ other
    → (line : List ℕ) × (lines ≡ front ++ line ∷ []) × (rest ≡ line ++ 10 ∷ other)
line_after front [] rest other p q len e = absurd (omega arith)
line_after [] (line ∷ []) rest other p q len e = (line, refl, e ∙ ended_cons line [] other)
line_after [] (line ∷ next ∷ lines) rest other p q len e = absurd (omega arith)
line_after (b ∷ front) (line ∷ lines) rest other p q len e =
    let same = one_line b line (ended front ++ rest) (ended lines ++ other) p.0 q.0
    (sym (ended_cons b front rest) ∙ (e ∙ ended_cons line lines other)) in
    let (last, f, g) = line_after front lines rest other p.1 q.1 (omega arith) same.1 in
    (last, ap₂ (λ (z : List ℕ) (zs : List (List ℕ)). z ∷ zs) (sym same.0) f, g)

pub lines_joined : (xs ys : List (List ℕ)) → AllByRecursion IsLine xs → AllByRecursion IsLine ys
    → AllByRecursion IsLine (xs ++ ys)
lines_joined [] ys p q = q
lines_joined (x ∷ xs) ys p q = (p.0, lines_joined xs ys p.1 q)

lines_behind : (xs ys : List (List ℕ)) → AllByRecursion IsLine (xs ++ ys) → AllByRecursion IsLine ys
lines_behind [] ys p = p
lines_behind (x ∷ xs) ys p = lines_behind xs ys p.1

pub ended_joined : (xs ys : List (List ℕ)) → ended (xs ++ ys) ≡ ended xs ++ ended ys
ended_joined xs ys = flat_map-append (λ (line : List ℕ). line ++ 10 ∷ []) xs ys

-- lines are those of one text
pub same_lines : (xs ys : List (List ℕ)) → AllByRecursion IsLine xs → AllByRecursion IsLine ys → ended xs ≡ ended ys
    → xs ≡ ys
same_lines [] [] p q e = refl
same_lines [] (y ∷ ys) p q e = absurd (no_line_empty y (ended ys) (sym (e ∙ ended_first y ys)))
same_lines (x ∷ xs) [] p q e = absurd (no_line_empty x (ended xs) (sym (ended_first x xs) ∙ e))
same_lines (x ∷ xs) (y ∷ ys) p q e =
    let same = one_line x y (ended xs) (ended ys) p.0 q.0 (sym (ended_first x xs) ∙ (e ∙ ended_first y ys)) in
    ap₂ (λ (z : List ℕ) (zs : List (List ℕ)). z ∷ zs) same.0 (same_lines xs ys p.1 q.1 same.1)

-- ---- where a text is damaged

module _ {T : Type 0} (Tell : T → List (List ℕ) → Type 0) where
  -- whole lines that begin a text, and after them neither a line that goes on nor the end
  pub damaged_after : (front : List (List ℕ)) (rest text : List ℕ) (n : ℕ) (value : T) (more : List (List ℕ))
      → AllByRecursion IsLine front → AllByRecursion IsLine more → text ≡ ended front ++ rest → n ≡ length front + 1
      → Tell value (front ++ more)
      → ((v : T) (line : List ℕ) (left : List (List ℕ)) (after : List ℕ) → Tell v (front ++ line ∷ left)
      → rest ≡ line ++ 10 ∷ after → IsLine line → ⊥)
      → ((v : T) → Tell v front → rest ≡ [] → ⊥)
      → IsDamagedAt (IsTextOfLines Tell) n text
  damaged_after front rest text n value more are others split number tells wrong whole = record {
    none = λ v told.
        let (left, f, g) = front_of_lines front told.0 rest are told.1 (sym told.3 ∙ split) in
        none_left v left (subst (Tell v) f told.2) g
        (lines_behind front left (subst (λ (l : List (List ℕ)). AllByRecursion IsLine l) f told.1));
    from_one = omega arith;
    before = λ m less.
        let (first, back, are_first, len, are_back, f) = parted front m (omega arith) are in
        let both = sym (append_assoc first back more) in
        record {
          lines = first;
          are_lines = are_first;
          number = len;
          rest = ended back ++ rest;
          has = split
              ∙ (ap (λ (l : List (List ℕ)). ended l ++ rest) f
              ∙ (ap (λ (l : List ℕ). l ++ rest) (ended_joined first back)
              ∙ append_assoc (ended first) (ended back) rest));
          value = value;
          more = ended (back ++ more);
          begins = (
            first ++ (back ++ more),
            lines_joined first (back ++ more) are_first (lines_joined back more are_back others),
            subst (Tell value) (ap (λ (l : List (List ℕ)). l ++ more) f ∙ append_assoc first back more) tells,
            sym (ended_joined first (back ++ more)),
          );
        };
    damaged = λ b.
        let (line, f, g) = line_after front b.lines rest b.rest are b.are_lines (b.number ∙ number)
        (sym split ∙ b.has) in
        let (left, k, l) = front_of_lines b.lines b.begins.0 b.more b.are_lines b.begins.1 (sym b.begins.3) in
        let all = k ∙ (ap (λ (z : List (List ℕ)). z ++ left) f ∙ append_assoc front (line ∷ []) left) in
        wrong b.value line left b.rest (subst (Tell b.value) all b.begins.2) g
        (lines_behind front (line ∷ left) (subst (λ (z : List (List ℕ)). AllByRecursion IsLine z) all b.begins.1)).0;
  }
    where
      none_left : (v : T) (left : List (List ℕ)) → Tell v (front ++ left) → rest ≡ ended left
          → AllByRecursion IsLine left → ⊥
      none_left v [] told g is = whole v (subst (Tell v) (append-nil front) told) g
      none_left v (line ∷ left) told g is = wrong v line left (ended left) told (g ∙ ended_first line left) is.0

-- the same where what was read is known by what may follow it
pub damaged_part : {T : Type 0} (Tell Further : T → List (List ℕ) → Type 0) (front : List (List ℕ))
    (rest text : List ℕ) (n : ℕ)
    → AllByRecursion IsLine front → text ≡ ended front ++ rest → n ≡ length front + 1
    → ((v : T) (more : List (List ℕ))
    → (Tell v (front ++ more) → (w : T) × Further w more) × (Further v more → Tell v (front ++ more)))
    → CanBeTold Further
    → ((v : T) (line : List ℕ) (left : List (List ℕ)) (after : List ℕ) → Further v (line ∷ left)
    → rest ≡ line ++ 10 ∷ after → IsLine line → ⊥)
    → ((v : T) → Further v [] → rest ≡ [] → ⊥)
    → Damages (IsTextOfLines Tell) (Damaged n) text
damaged_part Tell Further front rest text n are split number same some wrong whole =
    names_line (IsTextOfLines Tell) n text
    (damaged_after Tell front rest text n some.0 some.1 are some.2 split number ((same some.0 some.1).1 some.3)
    (λ v line left after told. let w = (same v (line ∷ left)).0 told in wrong w.0 line left after w.1)
    (λ v told. let w = (same v []).0 (subst (Tell v) (sym (append-nil front)) told) in whole w.0 w.1))

-- what may follow one more line
pub one_more : {T : Type 0} (Tell Further Longer : T → List (List ℕ) → Type 0) (front : List (List ℕ)) (line : List ℕ)
    → ((v : T) (more : List (List ℕ))
    → (Tell v (front ++ more) → (w : T) × Further w more) × (Further v more → Tell v (front ++ more)))
    → ((v : T) (more : List (List ℕ))
    → (Further v (line ∷ more) → (w : T) × Longer w more) × (Longer v more → Further v (line ∷ more)))
    → (v : T) (more : List (List ℕ))
    → (Tell v ((front ++ line ∷ []) ++ more) → (w : T) × Longer w more)
    × (Longer v more → Tell v ((front ++ line ∷ []) ++ more))
one_more Tell Further Longer front line same next v more = (
  λ told.
      let w = (same v (line ∷ more)).0 (subst (Tell v) (append_assoc front (line ∷ []) more) told) in
      (next w.0 more).0 w.1,
  λ told. subst (Tell v) (sym (append_assoc front (line ∷ []) more)) ((same v (line ∷ more)).1 ((next v more).1 told)),
)

-- where two formats have the same texts, a text is damaged at the same line
pub damaged_as : {T U : Type 0} (P : T → List ℕ → Type 0) (Q : U → List ℕ → Type 0) (n : ℕ) (text : List ℕ)
    → ((t : T) (x : List ℕ) → P t x → (u : U) × Q u x) → ((u : U) (x : List ℕ) → Q u x → (t : T) × P t x)
    → IsDamagedAt P n text → IsDamagedAt Q n text
damaged_as P Q n text to from d = record {
  none = λ u is. let t = from u text is in d.none t.0 t.1;
  from_one = d.from_one;
  before = λ m less.
      let b = d.before m less in
      let u = to b.value (ended b.lines ++ b.more) b.begins in
      record { lines = b.lines; are_lines = b.are_lines; number = b.number; rest = b.rest; has = b.has; value = u.0; more = b.more; begins = u.1 };
  damaged = λ b.
      let t = from b.value (ended b.lines ++ b.more) b.begins in
      d.damaged
      (record { lines = b.lines; are_lines = b.are_lines; number = b.number; rest = b.rest; has = b.has; value = t.0; more = b.more; begins = t.1 });
}

-- ---- texts with a line for each value

module _ {T : Type 0} (IsLineOf : T → List ℕ → Type 0) where
  pub line_for_each : (values : List T) (text : List ℕ) → HasLineForEach IsLineOf values text
      → IsTextOfLines (TellFurther IsLineOf []) values text
  line_for_each [] text h = ([], tt, ([], refl, tt), h)
  line_for_each (value ∷ values) text (line, rest, e, is, of, h) =
      let (lines, are, (new, f, zip), g) = line_for_each values rest h in (
        line ∷ lines,
        (is, are),
        (value ∷ new, ap (λ (l : List T). value ∷ l) f, (of, zip)),
        e ∙ (ap (λ (l : List ℕ). line ++ 10 ∷ l) g ∙ sym (ended_first line lines)),
      )

  -- one value more: its line stands before the others
  pub taken_further : (old longer : List T) (value : T) (line : List ℕ) → longer ≡ old ++ value ∷ []
      → IsLineOf value line → (all : List T) (more : List (List ℕ))
      → (TellFurther IsLineOf old all (line ∷ more) → (other : List T) × TellFurther IsLineOf longer other more)
      × (TellFurther IsLineOf longer all more → TellFurther IsLineOf old all (line ∷ more))
  taken_further old longer value line e is all more = (
    λ h. go_on h.0 h.2,
    λ h. (value ∷ h.0, h.1 ∙ (ap (λ (l : List T). l ++ h.0) e ∙ append_assoc old (value ∷ []) h.0), (is, h.2)),
  )
    where
      go_on : (new : List T) → AllZip IsLineOf new (line ∷ more)
          → (other : List T) × TellFurther IsLineOf longer other more
      go_on [] zip = absurd zip
      go_on (first ∷ new) zip = (longer ++ new, (new, refl, zip.1))

  pub none_further : (old all : List T) (line : List ℕ) (more : List (List ℕ))
      → ((value : T) → IsLineOf value line → ⊥) → TellFurther IsLineOf old all (line ∷ more) → ⊥
  none_further old all line more wrong (new, e, zip) = none new zip
    where
      none : (new : List T) → AllZip IsLineOf new (line ∷ more) → ⊥
      none [] zip = absurd zip
      none (first ∷ new) zip = wrong first zip.0

  each_has_line : (values : List T) (lines : List (List ℕ)) → AllByRecursion IsLine lines
      → AllZip IsLineOf values lines → HasLineForEach IsLineOf values (ended lines)
  each_has_line [] [] are zip = refl
  each_has_line [] (line ∷ lines) are zip = absurd zip
  each_has_line (value ∷ values) [] are zip = absurd zip
  each_has_line (value ∷ values) (line ∷ lines) are zip =
      (line, ended lines, ended_first line lines, are.0, zip.0, each_has_line values lines are.1 zip.1)

  pub lines_for_each : (values : List T) (text : List ℕ) → IsTextOfLines (TellFurther IsLineOf []) values text
      → HasLineForEach IsLineOf values text
  lines_for_each values text (lines, are, (new, e, zip), f) =
      subst (HasLineForEach IsLineOf values) (sym f)
      (each_has_line values lines are (subst (λ (l : List T). AllZip IsLineOf l lines) (sym e) zip))

  pub damaged_each : (n : ℕ) (text : List ℕ) → IsDamagedAt (IsTextOfLines (TellFurther IsLineOf [])) n text
      → IsDamagedAt (HasLineForEach IsLineOf) n text
  damaged_each n text d =
      damaged_as (IsTextOfLines (TellFurther IsLineOf [])) (HasLineForEach IsLineOf) n text
      (λ t x h. (t, lines_for_each t x h)) (λ t x h. (t, line_for_each t x h)) d

  pub read_each : (result : Result (List T) TextFault) (text : List ℕ) (start : List T) → start ≡ []
      → MatchResult result (λ values. IsTextOfLines (TellFurther IsLineOf start) values text)
      (λ fault. Damages (IsTextOfLines (TellFurther IsLineOf start)) fault text)
      → MatchResult result (λ values. HasLineForEach IsLineOf values text)
      (λ fault. Damages (HasLineForEach IsLineOf) fault text)
  read_each (Ok values) text start e h = lines_for_each values text
      (subst (λ (l : List T). IsTextOfLines (TellFurther IsLineOf l) values text) e h)
  read_each (Err fault) text start e h = λ n told.
      damaged_each n text
      (subst (λ (l : List T). IsDamagedAt (IsTextOfLines (TellFurther IsLineOf l)) n text) e (h n told))
