-- Lines of which each stands behind a time: what more bytes make of them.
use Rattle.std.proofs.Common.{◌≡◌, ◌∙◌, ℕ, ◌+◌, ◌<◌, ◌≤◌, ◌^◌, ◌⊎◌, Bool, true, false, List, [], ◌∷◌, ◌++◌, length, take}
use Rattle.std.proofs.Common.{Option, Some, None, Result, Ok, Err, ap, ap₂, arith, append_assoc, append-nil, nat_le, refl, subst, sym}
use Rattle.std.specs.Prelude.{◌&&◌, ◌||◌, ◌==◌, ◌≢◌, ◌%◌, decimal, if◌then◌else◌, suc, zero}
use Rattle.std.specs.Io.KnownBytes.{Appends, Keeps, WriteAppends}
use Rattle.std.proofs.KnownBytes.{Keeps-refl}
use Rattle.std.proofs.lemmas.Bool.Decides.{nat_tests}
use Rattle.std.proofs.lemmas.Fmt.{decimal_by_steps}
use Rattle.std.proofs.lemmas.List.{length-append, take-append-le}
use Rattle.std.proofs.lemmas.List.Elements.{All-head, All-tail, All-take}
use Rattle.std.proofs.lemmas.Option.{none-some}
use Rattle.ws_formats.specs.Lines.{IsLine}
use Rattle.wst_noted.specs.TimedLines.{AreTimed, GrowsByTime, IsTime, LinePlace, Astray, InLine, InTime, are_of_time}
use Rattle.wst_noted.specs.TimedLines.{is_of_time, known_lines, next_place, place_behind, place_in, timed_lines_at}
use Rattle.wst_noted.specs.TimedLines.{without_times}

-- ---- bytes of a time

both : (a b : Bool) → a && b ≡ true → (a ≡ true) × (b ≡ true)
both true b p = (refl, p)
both false b p = let bad : false ≡ true = p in absurd (cc)

pub digit_of_time : (n : ℕ) → n < 10 → is_of_time (48 + n) ≡ true
digit_of_time n less =
    let low : nat_le 48 (48 + n) ≡ true = grind (arith, nat_tests) in
    let high : nat_le (48 + n) 57 ≡ true = grind (arith, nat_tests, less) in
    ap₂ (λ (a b : Bool). (a && b) || ((48 + n) == 46)) low high

pub of_time_append : (a b : List ℕ) → are_of_time a ≡ true → are_of_time b ≡ true → are_of_time (a ++ b) ≡ true
of_time_append [] b p q = q
of_time_append (x ∷ a) b p q =
    let (first, rest) = both (is_of_time x) (are_of_time a) p in
    ap₂ (λ (c d : Bool). c && d) first (of_time_append a b rest q)

of_time_take : (n : ℕ) (a : List ℕ) → are_of_time a ≡ true → are_of_time (take n a) ≡ true
of_time_take zero a p = refl
of_time_take (suc n) [] p = refl
of_time_take (suc n) (x ∷ a) p =
    let (first, rest) = both (is_of_time x) (are_of_time a) p in
    ap₂ (λ (c d : Bool). c && d) first (of_time_take n a rest)

pub decimal_of_time : (n : ℕ) → n < 2 ^ 64 → are_of_time (decimal n) ≡ true
decimal_of_time n less = decimal_by_steps (λ k ds. are_of_time ds ≡ true)
    (λ k small. ap (λ (b : Bool). b && true) (digit_of_time k small))
    (λ k ds large so. of_time_append ds ((48 + k % 10) ∷ []) so
    (ap (λ (b : Bool). b && true) (digit_of_time (k % 10) (omega arith)))) n less

-- ---- places and lines of two texts

place_astray : (a : List ℕ) → place_behind Astray a ≡ Astray
place_astray [] = refl
place_astray (x ∷ a) = place_astray a

none_astray : (a : List ℕ) → without_times Astray a ≡ []
none_astray [] = refl
none_astray (x ∷ a) = refl

place_append : (place : LinePlace) (a b : List ℕ) → place_behind place (a ++ b) ≡ place_behind (place_behind place a) b
place_append place [] b = refl
place_append place (x ∷ a) b = place_append (next_place place x) a b

lines_append : (place : LinePlace) (a b : List ℕ)
    → without_times place (a ++ b) ≡ without_times place a ++ without_times (place_behind place a) b
lines_append place [] b = refl
lines_append InTime (x ∷ a) b = lines_append (next_place InTime x) a b
lines_append InLine (x ∷ a) b = ap (λ (l : List ℕ). x ∷ l) (lines_append (next_place InLine x) a b)
lines_append Astray (x ∷ a) b =
    sym (ap (λ (p : LinePlace). without_times p b) (place_astray a) ∙ none_astray b)

-- ---- a time

-- behind bytes of a time
of_time_next : (x : ℕ) → is_of_time x ≡ true → next_place InTime x ≡ InTime
of_time_next x is = ap (λ (b : Bool). if b then InTime else (if x == 32 then InLine else Astray)) is

of_time_place : (a : List ℕ) → are_of_time a ≡ true → place_behind InTime a ≡ InTime
of_time_place [] p = refl
of_time_place (x ∷ a) p =
    let (first, rest) = both (is_of_time x) (are_of_time a) p in
    ap (λ (q : LinePlace). place_behind q a) (of_time_next x first) ∙ of_time_place a rest

of_time_none : (a : List ℕ) → are_of_time a ≡ true → without_times InTime a ≡ []
of_time_none [] p = refl
of_time_none (x ∷ a) p =
    let (first, rest) = both (is_of_time x) (are_of_time a) p in
    ap (λ (q : LinePlace). without_times q a) (of_time_next x first) ∙ of_time_none a rest

-- a text that grew by seconds, a point and the rest of a time grew by a time
pub grows_time : (old first second new : List ℕ) (n : ℕ) → n < 2 ^ 64 → first ≡ old ++ decimal n
    → second ≡ first ++ 46 ∷ [] → GrowsByTime second new → GrowsByTime old new
grows_time old first second new n fits seconds point (time, is, (digits, ends, of)) =
    let one : second ++ time ≡ old ++ decimal n ++ 46 ∷ time =
    ap (λ (l : List ℕ). l ++ time) (point ∙ ap (λ (l : List ℕ). l ++ 46 ∷ []) seconds)
    ∙ append_assoc (old ++ decimal n) (46 ∷ []) time in (
      decimal n ++ 46 ∷ time,
      is ∙ one ∙ append_assoc old (decimal n) (46 ∷ time),
      (
        decimal n ++ 46 ∷ digits,
        ap (λ (l : List ℕ). decimal n ++ 46 ∷ l) ends ∙ sym (append_assoc (decimal n) (46 ∷ digits) (32 ∷ [])),
        of_time_append (decimal n) (46 ∷ digits) (decimal_of_time n fits) of,
      ),
    )

-- ---- what more bytes make of lines

known_at : (b : Bool) (lines : List ℕ) → timed_lines_at b (place_in b) lines ≡ Some lines
known_at true lines = refl
known_at false lines = refl

grow_at : (a b : Bool) (place last : LinePlace) (lines more bs : List ℕ) → last ≡ place_behind place bs
    → more ≡ lines ++ without_times place bs → place_behind (place_in a) bs ≡ place_in b
    → Appends (timed_lines_at a place lines) (timed_lines_at b last more) (without_times (place_in a) bs)
grow_at true b InLine last lines more bs is grown ends =
    subst (λ (o : Option (List ℕ)). Appends (Some lines) o (without_times InLine bs))
    (sym (ap (λ (p : LinePlace). timed_lines_at b p more) (is ∙ ends) ∙ known_at b more)) grown
grow_at false b InTime last lines more bs is grown ends =
    subst (λ (o : Option (List ℕ)). Appends (Some lines) o (without_times InTime bs))
    (sym (ap (λ (p : LinePlace). timed_lines_at b p more) (is ∙ ends) ∙ known_at b more)) grown
grow_at true b InTime last lines more bs is grown ends = tt
grow_at true b Astray last lines more bs is grown ends = tt
grow_at false b InLine last lines more bs is grown ends = tt
grow_at false b Astray last lines more bs is grown ends = tt

-- nothing was written yet
pub none_begun : (first : LinePlace) (b : Bool) → first ≡ place_in b → known_lines first b (Some []) ≡ Some []
none_begun first b is = ap (λ (p : LinePlace). timed_lines_at b p []) is ∙ known_at b []

-- lines that end in a line or not grow by what is no time of these bytes
pub lines_grow : (first : LinePlace) (a b : Bool) (old new : Option (List ℕ)) (bs : List ℕ) → Appends old new bs
    → place_behind (place_in a) bs ≡ place_in b
    → Appends (known_lines first a old) (known_lines first b new) (without_times (place_in a) bs)
lines_grow first a b None new bs grows ends = tt
lines_grow first a b (Some xs) None bs grows ends = absurd grows
lines_grow first a b (Some xs) (Some ys) bs grows ends = grow_at a b (place_behind first xs) (place_behind first ys)
    (without_times first xs) (without_times first ys) bs
    (ap (place_behind first) grows ∙ place_append first xs bs)
    (ap (without_times first) grows ∙ lines_append first xs bs) ends

kept_none : (old new : Option (List ℕ)) (bs : List ℕ) → bs ≡ [] → Appends old new bs → Keeps old new
kept_none None new bs none grows = tt
kept_none (Some xs) None bs none grows = absurd grows
kept_none (Some xs) (Some ys) bs none grows = grows ∙ ap (λ (l : List ℕ). xs ++ l) none ∙ append-nil xs

-- a time that is written whole
time_added : (first : LinePlace) (old new : Option (List ℕ)) (bs : List ℕ) → IsTime bs → Appends old new bs
    → Keeps (known_lines first false old) (known_lines first true new)
time_added first old new bs (time, is, of) grows =
    let place : place_behind InTime bs ≡ InLine = ap (place_behind InTime) is ∙ place_append InTime time (32 ∷ [])
    ∙ ap (λ (p : LinePlace). place_behind p (32 ∷ [])) (of_time_place time of) in
    let none : without_times InTime bs ≡ [] = ap (without_times InTime) is ∙ lines_append InTime time (32 ∷ [])
    ∙ ap₂ (λ (l : List ℕ) (p : LinePlace). l ++ without_times p (32 ∷ [])) (of_time_none time of)
    (of_time_place time of) in
    kept_none (known_lines first false old) (known_lines first true new) (without_times InTime bs) none
    (lines_grow first false true old new bs grows place)

-- or of which only a beginning is written
front_added : (first : LinePlace) (old new : Option (List ℕ)) (bs : List ℕ) (n : ℕ) → IsTime bs → n < length bs
    → Appends old new (take n bs) → Keeps (known_lines first false old) (known_lines first false new)
front_added first old new bs n (time, is, of) less grows =
    let len : length bs ≡ length time + 1 = ap length is ∙ length-append time (32 ∷ []) in
    let front : take n bs ≡ take n time = ap (take n) is ∙ take-append-le n time (32 ∷ []) (omega (arith, len, less)) in
    let of_front : are_of_time (take n bs) ≡ true = ap are_of_time front ∙ of_time_take n time of in
    kept_none (known_lines first false old) (known_lines first false new) (without_times InTime (take n bs))
    (of_time_none (take n bs) of_front) (lines_grow first false false old new (take n bs) grows
    (of_time_place (take n bs) of_front))

take_all : (n : ℕ) (xs : List ℕ) → length xs ≤ n → take n xs ≡ xs
take_all zero [] le = refl
take_all zero (x ∷ xs) le = absurd (omega (arith, le))
take_all (suc n) [] le = refl
take_all (suc n) (x ∷ xs) le = ap (λ (l : List ℕ). x ∷ l) (take_all n xs (omega (arith, le)))

-- where the line isn't begun
pub time_whole : (first : LinePlace) (b : Bool) (old new : Option (List ℕ)) (bs : List ℕ) (n : ℕ) → b ≡ false
    → IsTime bs → length bs ≤ n
    → Appends old new (take n bs) → Keeps (known_lines first b old) (known_lines first true new)
time_whole first b old new bs n is time le grows =
    subst (λ (d : Bool). Keeps (known_lines first d old) (known_lines first true new)) (sym is)
    (time_added first old new bs time (subst (Appends old new) (take_all n bs le) grows))

pub time_begun : (first : LinePlace) (b : Bool) (old new : Option (List ℕ)) (bs : List ℕ) (n : ℕ) → b ≡ false
    → IsTime bs → n < length bs
    → Appends old new (take n bs) → Keeps (known_lines first b old) (known_lines first b new)
time_begun first b old new bs n is time less grows =
    subst (λ (d : Bool). Keeps (known_lines first d old) (known_lines first d new)) (sym is)
    (front_added first old new bs n time less grows)

-- ---- bytes of a line

in_line : (x : ℕ) → x ≢ 10 → next_place InLine x ≡ InLine
in_line x is =
    let other : x == 10 ≡ false = grind (arith, nat_tests, is) in
    ap (λ (b : Bool). if b then InTime else InLine) other

in_line_place : (a : List ℕ) → IsLine a → place_behind InLine a ≡ InLine
in_line_place [] p = refl
in_line_place (x ∷ a) p = ap (λ (q : LinePlace). place_behind q a) (in_line x (All-head (λ (b : ℕ). b ≢ 10) x a p))
    ∙ in_line_place a (All-tail (λ (b : ℕ). b ≢ 10) x a p)

in_line_same : (a : List ℕ) → IsLine a → without_times InLine a ≡ a
in_line_same [] p = refl
in_line_same (x ∷ a) p = ap (λ (l : List ℕ). x ∷ l) (ap (λ (q : LinePlace). without_times q a)
    (in_line x (All-head (λ (b : ℕ). b ≢ 10) x a p)) ∙ in_line_same a (All-tail (λ (b : ℕ). b ≢ 10) x a p))

-- a beginning of these bytes of a line was written
pub line_grows : (first : LinePlace) (old new : Option (List ℕ)) (bs : List ℕ) (n : ℕ) → IsLine bs
    → Appends old new (take n bs)
    → Appends (known_lines first true old) (known_lines first true new) (take n bs)
line_grows first old new bs n line grows =
    let front = All-take (λ (b : ℕ). b ≢ 10) n bs line in
    subst (λ (l : List ℕ). Appends (known_lines first true old) (known_lines first true new) l) (in_line_same (take n bs) front)
    (lines_grow first true true old new (take n bs) grows (in_line_place (take n bs) front))

apart_line : InLine ≡ Astray → ⊥
apart_line bad = absurd (cc)

apart_time : InTime ≡ Astray → ⊥
apart_time bad = absurd (cc)

timed_at : (b : Bool) (place : LinePlace) (some lines : List ℕ) → timed_lines_at b place some ≡ Some lines
    → (place ≢ Astray) × (some ≡ lines)
timed_at true InLine some lines is = (apart_line, cc)
timed_at false InTime some lines is = (apart_time, cc)
timed_at true InTime some lines is = absurd (none-some lines is)
timed_at true Astray some lines is = absurd (none-some lines is)
timed_at false InLine some lines is = absurd (none-some lines is)
timed_at false Astray some lines is = absurd (none-some lines is)

-- the lines behind times of what is known
pub known_timed : (first : LinePlace) (b : Bool) (held : Option (List ℕ)) (lines : List ℕ)
    → known_lines first b held ≡ Some lines
    → (bytes : List ℕ) × (held ≡ Some bytes) × AreTimed first bytes lines
known_timed first b None lines is = absurd (none-some lines is)
known_timed first b (Some bytes) lines is =
    (bytes, refl, timed_at b (place_behind first bytes) (without_times first bytes) lines is)

-- nothing was written
pub kept_lines : (first : LinePlace) (b : Bool) (old new : Option (List ℕ)) → Keeps old new
    → Keeps (known_lines first b old) (known_lines first b new)
kept_lines first b None new kept = tt
kept_lines first b (Some xs) None kept = absurd kept
kept_lines first b (Some xs) (Some ys) kept =
    subst (λ (l : List ℕ). Keeps (known_lines first b (Some xs)) (known_lines first b (Some l))) (sym kept)
    (Keeps-refl (known_lines first b (Some xs)))

-- what a write in a line makes of the lines
pub line_writes : {E : Type 0} (first : LinePlace) (b : Bool) (old new : Option (List ℕ)) (result : Result ℕ E)
    (bs : List ℕ) → b ≡ true
    → IsLine bs → WriteAppends old new result bs
    → WriteAppends (known_lines first b old) (known_lines first b new) result bs
line_writes first b old new (Ok n) bs is line wrote =
    subst (λ (d : Bool). Appends (known_lines first d old) (known_lines first d new) (take n bs)) (sym is)
    (line_grows first old new bs n line wrote)
line_writes first b old new (Err why) bs is line wrote = kept_lines first b old new wrote

-- the end of a line was written
pub feed_grows : (first : LinePlace) (b : Bool) (old new : Option (List ℕ)) (n : ℕ) → b ≡ true → 0 < n
    → Appends old new (take n (10 ∷ []))
    → Appends (known_lines first b old) (known_lines first false new) (take n (10 ∷ []))
feed_grows first b old new zero is some grows = absurd (omega (arith, some))
feed_grows first b old new (suc zero) is some grows =
    subst (λ (d : Bool). Appends (known_lines first d old) (known_lines first false new) (10 ∷ [])) (sym is)
    (lines_grow first true false old new (10 ∷ []) grows refl)
feed_grows first b old new (suc (suc n)) is some grows =
    subst (λ (d : Bool). Appends (known_lines first d old) (known_lines first false new) (10 ∷ [])) (sym is)
    (lines_grow first true false old new (10 ∷ []) grows refl)
