-- Payload lengths in a longer form of which the last bytes are missing: the least that the form allows.
use Rattle.std.proofs.Common.{◌≡◌, ℕ, zero, suc, ◌+◌, ◌-◌, ◌*◌, ◌^◌, ◌<◌, ◌≤◌, List, ◌++◌, length, drop, set, refl, sym}
use Rattle.std.proofs.Common.{ap, ◌∙◌, arith, inl, inr}
use Rattle.std.specs.Prelude.{slice_index, replicate, EachIndex}
use Rattle.std.specs.Int.{w16, w64, to_be_bytes, from_be_bytes}
use Rattle.std.proofs.lemmas.Bool.{cases_lt}
use Rattle.std.proofs.lemmas.Nat.{from_be_bytes-to_be_bytes_2, from_be_bytes-to_be_bytes_8}
use Rattle.std.proofs.lemmas.List.{get_or-drop, get_or_append_left, get_or-append_right, get_or-replicate, get_or_past}
use Rattle.std.proofs.lemmas.List.{get_or-set_same, get_or-set_other, length-replicate, length-drop, length-append}
use Rattle.ws_wire.specs.Header.{AreBytes}
use Rattle.ws_session.specs.LeastHeader.{length_in, HasLeastLength}

-- ---- the number of the length bytes

pub two_is : (l : List ℕ) → length_in w16 l ≡ slice_index l 2 * 256 + slice_index l 3
two_is l = omega (arith, get_or-drop 2 l 0 0, get_or-drop 2 l 1 0)

pub eight_is : (l : List ℕ) → length_in w64 l ≡ slice_index l 2 * 256 ^ 7 + slice_index l 3 * 256 ^ 6 + slice_index l 4
    * 256 ^ 5 + slice_index l 5 * 256 ^ 4 + slice_index l 6 * 256 ^ 3 + slice_index l 7 * 256 ^ 2 + slice_index l 8 *
    256 + slice_index l 9
eight_is l = omega (
  arith,
  get_or-drop 2 l 0 0,
  get_or-drop 2 l 1 0,
  get_or-drop 2 l 2 0,
  get_or-drop 2 l 3 0,
  get_or-drop 2 l 4 0,
  get_or-drop 2 l 5 0,
  get_or-drop 2 l 6 0,
  get_or-drop 2 l 7 0,
)

pub two_read : (n : ℕ) (l rest : List ℕ) → n < 2 ^ 16 → drop 2 l ≡ to_be_bytes w16 n ++ rest → length_in w16 l ≡ n
two_read n l rest lt e = ap (λ (t : List ℕ). from_be_bytes w16 t) e ∙ from_be_bytes-to_be_bytes_2 n lt

pub eight_read : (n : ℕ) (l rest : List ℕ) → n < 2 ^ 64 → drop 2 l ≡ to_be_bytes w64 n ++ rest → length_in w64 l ≡ n
eight_read n l rest lt e = ap (λ (t : List ℕ). from_be_bytes w64 t) e ∙ from_be_bytes-to_be_bytes_8 n lt

-- ---- bytes with zeros behind them

abbrev pub zero_filled : List ℕ → List ℕ
zero_filled start = start ++ replicate (14 - length start) 0

zero_behind : (start : List ℕ) (i : ℕ) → length start ≤ i → slice_index (zero_filled start) i ≡ 0
zero_behind start i le =
    let back : slice_index (zero_filled start) i ≡ slice_index (replicate (14 - length start) 0) (i - length start) =
    get_or-append_right start (replicate (14 - length start) 0) (length start) i 0 refl le in
    elim (cases_lt (i - length start) (14 - length start)) [
      | inl lt ↦ back ∙ get_or-replicate (14 - length start) (i - length start) 0 0 lt
      | inr ge ↦ back ∙ get_or_past (replicate (14 - length start) 0) (i - length start) 0
          (omega (arith, ge, length-replicate {A = ℕ} (14 - length start) 0))
    ]

same_before : (start more : List ℕ) (i : ℕ) → i < length start → slice_index (zero_filled start) i ≡ slice_index
    (start ++ more) i
same_before start more i lt = get_or_append_left start (replicate (14 - length start) 0) 0 i lt
    ∙ sym (get_or_append_left start more 0 i lt)

-- none of them is above that of other bytes that begin so
none_above : (start more : List ℕ) (i : ℕ) → slice_index (zero_filled start) i ≤ slice_index (start ++ more) i
none_above start more i =
    elim (cases_lt i (length start)) [
      | inl lt ↦ omega (arith, same_before start more i lt)
      | inr ge ↦ omega (arith, zero_behind start i ge)
    ]

two_below : (start more : List ℕ) → length_in w16 (zero_filled start) ≤ length_in w16 (start ++ more)
two_below start more =
    let z = zero_filled start in
    let w = start ++ more in
    omega (arith, two_is z, two_is w, none_above start more 2, none_above start more 3)

eight_below : (start more : List ℕ) → length_in w64 (zero_filled start) ≤ length_in w64 (start ++ more)
eight_below start more =
    let z = zero_filled start in
    let w = start ++ more in
    omega (
      arith,
      eight_is z,
      eight_is w,
      none_above start more 2,
      none_above start more 3,
      none_above start more 4,
      none_above start more 5,
      none_above start more 6,
      none_above start more 7,
      none_above start more 8,
      none_above
          start more 9,
    )

-- with both length bytes there, or the first of them set
two_enough : (start more : List ℕ) → (length start < 4 → 126 ≤ length_in w16 (zero_filled start))
    → 126 ≤ length_in w16 (start ++ more) → 126 ≤ length_in w16 (zero_filled start)
two_enough start more few le =
    elim (cases_lt (length start) 4) [
      | inl lt ↦ few lt
      | inr ge ↦ omega (
        arith,
        two_is (zero_filled start),
        two_is (start ++ more),
        same_before start more 2
            (omega (arith, ge)),
        same_before start more 3 (omega (arith, ge)),
        le,
      )
    ]

-- with six of the eight length bytes there, or one of them set
eight_enough : (start more : List ℕ) → AreBytes (start ++ more) → (length start < 8
    → 65536 ≤ length_in w64 (zero_filled start)) → 65536 ≤ length_in w64 (start ++ more)
    → 65536 ≤ length_in w64 (zero_filled start)
eight_enough start more are few le =
    elim (cases_lt (length start) 8) [
      | inl lt ↦ few lt
      | inr ge ↦
          let s = λ (i : ℕ) (lt : i < 8). same_before start more i (omega (arith, ge, lt)) in
          omega (
            arith,
            eight_is (zero_filled start),
            eight_is (start ++ more),
            s 2 (omega arith),
            s 3 (omega arith),
            s
                4 (omega arith),
            s 5 (omega arith),
            s 6 (omega arith),
            s 7 (omega arith),
            are 8,
            are 9,
            le,
          )
    ]

pub least_two : (start : List ℕ) → (length start < 4 → 126 ≤ length_in w16 (zero_filled start))
    → HasLeastLength w16 126 start (zero_filled start)
least_two start few more are le = (two_enough start more few le, two_below start more)

pub least_eight : (start : List ℕ) → (length start < 8 → 65536 ≤ length_in w64 (zero_filled start))
    → HasLeastLength w64 65536 start (zero_filled start)
least_eight start few more are le = (eight_enough start more are few le, eight_below start more)

-- ---- a byte that came is set

abbrev pub AreZeros : List ℕ → Type 0
AreZeros bytes = EachIndex bytes (λ k. slice_index bytes k ≡ 0)

-- each byte behind the first two is zero where those of the number are
all_zero : (start : List ℕ) → ((i : ℕ) → i < length start - 2 → slice_index (zero_filled start) (2 + i) ≡ 0)
    → AreZeros (drop 2 start)
all_zero start h i lt =
    let within : 2 + i < length start = omega (arith, lt, length-drop 2 start) in
    get_or-drop 2 start i 0 ∙ (sym (get_or_append_left start (replicate (14 - length start) 0) 0 (2 + i) within)
    ∙ h i (omega (arith, within)))

two_set : (start : List ℕ) → (AreZeros (drop 2 start) → ⊥) → length start < 4 → 126 ≤ length_in w16 (zero_filled start)
two_set start never few =
    let z = zero_filled start in
    elim (cases_lt (length_in w16 z) 126) [
      | inr ge ↦ ge
      | inl lt ↦
          let second : slice_index z 2 ≡ 0 = omega (arith, two_is z, lt) in
          absurd (never (all_zero start (λ i small. let at : i ≡ 0 = omega (arith, small, few) in ap
          (λ (k : ℕ). slice_index z (2 + k)) at ∙ second)))
    ]

abbrev ZeroTo : List ℕ → ℕ → Type 0
ZeroTo z n = (i : ℕ) → i < n → slice_index z (2 + i) ≡ 0

first_six : (z : List ℕ) → length_in w64 z < 65536 → ZeroTo z 6
first_six z lt zero small = omega (arith, eight_is z, lt)
first_six z lt (suc zero) small = omega (arith, eight_is z, lt)
first_six z lt (suc (suc zero)) small = omega (arith, eight_is z, lt)
first_six z lt (suc (suc (suc zero))) small = omega (arith, eight_is z, lt)
first_six z lt (suc (suc (suc (suc zero)))) small = omega (arith, eight_is z, lt)
first_six z lt (suc (suc (suc (suc (suc zero))))) small = omega (arith, eight_is z, lt)
first_six z lt (suc (suc (suc (suc (suc (suc i)))))) small = absurd (omega arith)

eight_set : (start : List ℕ) → (AreZeros (drop 2 start) → ⊥) → length start < 8
    → 65536 ≤ length_in w64 (zero_filled start)
eight_set start never few =
    let z = zero_filled start in
    elim (cases_lt (length_in w64 z) 65536) [
      | inr ge ↦ ge
      | inl lt ↦ absurd (never (all_zero start (λ i small. first_six z lt i (omega (arith, small, few)))))
    ]

-- a byte that came is set: zeros behind it are the least
pub least_two_set : (start : List ℕ) → (AreZeros (drop 2 start) → ⊥) → HasLeastLength w16 126 start (zero_filled start)
least_two_set start never = least_two start (two_set start never)

pub least_eight_set : (start : List ℕ) → (AreZeros (drop 2 start) → ⊥)
    → HasLeastLength w64 65536 start (zero_filled start)
least_eight_set start never = least_eight start (eight_set start never)

-- ---- none is set

came_zero : (start : List ℕ) → 2 ≤ length start → AreZeros (drop 2 start) → (i : ℕ) → 2 ≤ i
    → slice_index (zero_filled start) i ≡ 0
came_zero start two zeros i le =
    elim (cases_lt i (length start)) [
      | inr ge ↦ zero_behind start i ge
      | inl lt ↦
          let at : 2 + (i - 2) ≡ i = omega (arith, le) in
          get_or_append_left start (replicate (14 - length start) 0) 0 i lt
          ∙ (ap (λ (k : ℕ). slice_index start k) (sym at) ∙ (sym (get_or-drop 2 start (i - 2) 0)
          ∙ zeros (i - 2) (omega (arith, lt, le, length-drop 2 start))))
    ]

-- the least length of each form
two_filled : (start : List ℕ) → 2 ≤ length start → length start < 14 → AreZeros (drop 2 start)
    → length_in w16 (set (zero_filled start) 3 126) ≡ 126
two_filled start two room zeros =
    let z = zero_filled start in
    let size : length z ≡ 14 = omega (
      arith,
      length-append start (replicate (14 - length start) 0),
      length-replicate
          {A = ℕ} (14 - length start) 0,
    ) in
    let third : slice_index (set z 3 126) 3 ≡ 126 = get_or-set_same z 3 126 0 (omega (arith, size)) in
    let second : slice_index (set z 3 126) 2 ≡ 0 = get_or-set_other z 3 2 126 0 (λ e. omega (arith, e))
    ∙ came_zero start two zeros 2 (omega arith) in
    omega (arith, two_is (set z 3 126), second, third)

eight_filled : (start : List ℕ) → 2 ≤ length start → length start < 14 → AreZeros (drop 2 start)
    → length_in w64 (set (zero_filled start) 7 1) ≡ 65536
eight_filled start two room zeros =
    let z = zero_filled start in
    let size : length z ≡ 14 = omega (
      arith,
      length-append start (replicate (14 - length start) 0),
      length-replicate
          {A = ℕ} (14 - length start) 0,
    ) in
    let at : slice_index (set z 7 1) 7 ≡ 1 = get_or-set_same z 7 1 0 (omega (arith, size)) in
    let other = λ (i : ℕ) (no : i ≡ 7 → ⊥) (le : 2 ≤ i). get_or-set_other z 7 i 1 0 no
    ∙ came_zero start two zeros i le in
    omega (
      arith,
      eight_is (set z 7 1),
      at,
      other 2 (λ e. omega (arith, e)) (omega arith),
      other 3
          (λ e. omega (arith, e)) (omega arith),
      other 4 (λ e. omega (arith, e)) (omega arith),
      other 5
          (λ e. omega (arith, e)) (omega arith),
      other 6 (λ e. omega (arith, e)) (omega arith),
      other 8
          (λ e. omega (arith, e)) (omega arith),
      other 9 (λ e. omega (arith, e)) (omega arith),
    )

pub least_two_filled : (start : List ℕ) → 2 ≤ length start → length start < 14 → AreZeros (drop 2 start)
    → HasLeastLength w16 126 start (set (zero_filled start) 3 126)
least_two_filled start two room zeros more are le = let e = two_filled start two room zeros in
    (omega (arith, e), omega (arith, e, le))

pub least_eight_filled : (start : List ℕ) → 2 ≤ length start → length start < 14 → AreZeros (drop 2 start)
    → HasLeastLength w64 65536 start (set (zero_filled start) 7 1)
least_eight_filled start two room zeros more are le = let e = eight_filled start two room zeros in
    (omega (arith, e), omega (arith, e, le))
