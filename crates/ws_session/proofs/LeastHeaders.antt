-- Of the headers that begin with some bytes, the one of the least length breaks a rule only where each does.
use Rattle.std.proofs.Common.{◌≡◌, ℕ, zero, suc, ◌+◌, ◌*◌, ◌%◌, ◌<◌, ◌≤◌, ◌⊎◌, Bool, true, false, List, [], ◌++◌}
use Rattle.std.proofs.Common.{length, get_or, take, drop, Option, Some, None, refl, sym, ap, ◌∙◌, arith, inl, inr, lit<}
use Rattle.std.proofs.Common.{subst}
use Rattle.std.specs.Prelude.{slice_index, nat_le}
use Rattle.std.specs.Int.{w16, w64, byte_at, bytes_high_first}
use Rattle.std.proofs.lemmas.Bool.{cases_lt}
use Rattle.std.proofs.lemmas.List.{append-nil, take-append-drop, take-take, get_or-take, get_or_append_left}
use Rattle.ws_wire.specs.declared.role.Role.{Role}
use Rattle.ws_wire.specs.declared.header.Form.{Form}
use Rattle.ws_wire.specs.declared.header.Form.TheVariants.{Short, Two, Eight}
use Rattle.ws_wire.specs.Header.{HeaderFields, IsHeader, IsMaskingKey, AreBytes, CanHold, header_bytes, first_byte}
use Rattle.ws_wire.specs.Header.{top_bit, length_bits, length_bytes, key_bytes, is_masked}
use Rattle.ws_wire.specs.Reading.{Begins, BeginsNoHeader}
use Rattle.ws_wire.proofs.Headers.{header_ends, header_parts, second_is, SameFirst}
use Rattle.ws_session.specs.declared.message.Message.{Message}
use Rattle.ws_session.specs.declared.reason.Reason.TheVariants.{ReservedBits, Opcode, MaskWrong, NotShortest, BadLength}
use Rattle.ws_session.specs.declared.reason.Reason.TheVariants.{ControlCut, ControlLong, NothingToContinue, MessageOpen}
use Rattle.ws_session.specs.declared.reason.Reason.TheVariants.{TooBig, FrameBig, NotText, TextCut, CloseOneByte}
use Rattle.ws_session.specs.declared.reason.Reason.TheVariants.{CloseCode, CloseReason}
use Rattle.ws_session.specs.Limits.{LimitsValue}
use Rattle.ws_session.specs.Faults.{expects_key}
use Rattle.ws_session.specs.InnerChecking.{NoneAtHeader}
use Rattle.ws_session.specs.LeastHeader.{BeginsWith, IsFineHeader, IsLeastHeader, AreLeastBytes, HasLeastLength}
use Rattle.ws_session.proofs.ByteLists.{bytes_append}
use Rattle.ws_session.proofs.LeastLengths.{two_read, eight_read}

-- ---- the bytes of a header are bytes

byte_below : (k n : ℕ) → byte_at k n < 256
byte_below zero n = omega arith
byte_below (suc k) n = omega arith

high_bytes : (k n : ℕ) → AreBytes (bytes_high_first k n)
high_bytes zero n i = omega arith
high_bytes (suc k) n zero = byte_below k n
high_bytes (suc k) n (suc i) = high_bytes k n i

length_are : (form : Form) (len : ℕ) → AreBytes (length_bytes form len)
length_are Short len i = omega arith
length_are Two len i = high_bytes 2 len i
length_are Eight len i = high_bytes 8 len i

key_are : (key : Option (List ℕ)) → IsMaskingKey key → AreBytes (key_bytes key)
key_are None is i = omega arith
key_are (Some key) is i = is.1 i

first_below : (fin : Bool) (rsv opcode : ℕ) → rsv < 8 → opcode < 16 → top_bit fin + (16 * rsv + opcode) < 256
first_below true rsv opcode r o = omega arith
first_below false rsv opcode r o = omega arith

second_below : (masked : Bool) (form : Form) (len : ℕ) → CanHold form len → top_bit masked + length_bits form len < 256
second_below true Short len h = omega arith
second_below true Two len h = lit< tt
second_below true Eight len h = lit< tt
second_below false Short len h = omega arith
second_below false Two len h = lit< tt
second_below false Eight len h = lit< tt

pub header_are_bytes : (h : HeaderFields) → IsHeader h → AreBytes (header_bytes h)
header_are_bytes h is zero = first_below h.fin h.rsv h.opcode is.rsv is.opcode
header_are_bytes h is (suc zero) = second_below (is_masked h.key) h.form h.len is.len
header_are_bytes h is (suc (suc i)) = bytes_append (length_bytes h.form h.len) (key_bytes h.key)
    (length_are h.form h.len) (key_are h.key is.key) i

-- ---- the lengths of two headers

-- the form is longer than needed
abbrev IsTooLong : Form → ℕ → Type 0
IsTooLong form len = ((form ≡ Two) × (len < 126)) ⊎ ((form ≡ Eight) × (len < 65536))

-- the length is allowed, not below this one and not above that of another
record IsNoLonger (least : ℕ) (form : Form) (len other : ℕ) : Type 0 where
  pub shortest : IsTooLong form len → ⊥
  pub long : least ≤ len
  pub no_longer : len ≤ other

short_is_shortest : (len : ℕ) → IsTooLong Short len → ⊥
short_is_shortest len (inl h) = let e = h.0 in absurd cc
short_is_shortest len (inr h) = let e = h.0 in absurd cc

two_is_shortest : (len : ℕ) → 126 ≤ len → IsTooLong Two len → ⊥
two_is_shortest len le (inl h) = omega (arith, h.1, le)
two_is_shortest len le (inr h) = let e = h.0 in absurd cc

eight_is_shortest : (len : ℕ) → 65536 ≤ len → IsTooLong Eight len → ⊥
eight_is_shortest len le (inl h) = let e = h.0 in absurd cc
eight_is_shortest len le (inr h) = omega (arith, h.1, le)

least_two_of : (least len : ℕ) → (IsTooLong Two len → ⊥) → 126 ≤ len
least_two_of least len never = elim (cases_lt len 126) [ inl lt ↦ absurd (never (inl (refl, lt))) | inr ge ↦ ge ]

least_eight_of : (len : ℕ) → (IsTooLong Eight len → ⊥) → 65536 ≤ len
least_eight_of len never = elim (cases_lt len 65536) [ inl lt ↦ absurd (never (inr (refl, lt))) | inr ge ↦ ge ]

-- with the same bits beside MASK, and the bytes of the one the least of those that begin so
no_longer : (start bytes more : List ℕ) (least : ℕ) (f g : Form) (m n : ℕ) (x y : List ℕ) → least ≤ 125
    → AreBytes (start ++ more)
    → (length_bits f m ≡ 126 → HasLeastLength w16 126 start bytes) →
    (length_bits f m ≡ 127 → HasLeastLength w64 65536 start bytes)
    → CanHold f m → CanHold g n → length_bits f m ≡ length_bits g n
    → drop 2 bytes ≡ length_bytes f m ++ x → drop 2 (start ++ more) ≡ length_bytes g n ++ y
    → (IsTooLong g n → ⊥) → least ≤ n → IsNoLonger least f m n
no_longer start bytes more least Short Short m n x y few are two eight cf cg bits e d never le = record
    { shortest = short_is_shortest m; long = omega (arith, bits, le); no_longer = omega (arith, bits) }
no_longer start bytes more least Short Two m n x y few are two eight cf cg bits e d never le = absurd (omega arith)
no_longer start bytes more least Short Eight m n x y few are two eight cf cg bits e d never le = absurd (omega arith)
no_longer start bytes more least Two Short m n x y few are two eight cf cg bits e d never le = absurd (omega arith)
no_longer start bytes more least Two Two m n x y few are two eight cf cg bits e d never le =
    let mine = two_read m bytes x cf e in
    let other = two_read n (start ++ more) y cg d in
    let h = two refl more are (omega (arith, other, least_two_of least n never)) in
    record {
      shortest = two_is_shortest m (omega (arith, mine, h.0));
      long = omega (arith, mine, h.0, few);
      no_longer =
          omega (arith, mine, other, h.1);
    }
no_longer start bytes more least Two Eight m n x y few are two eight cf cg bits e d never le = absurd (omega arith)
no_longer start bytes more least Eight Short m n x y few are two eight cf cg bits e d never le = absurd (omega arith)
no_longer start bytes more least Eight Two m n x y few are two eight cf cg bits e d never le = absurd (omega arith)
no_longer start bytes more least Eight Eight m n x y few are two eight cf cg bits e d never le =
    let mine = eight_read m bytes x cf e in
    let other = eight_read n (start ++ more) y cg d in
    let h = eight refl more are (omega (arith, other, least_eight_of n never)) in
    record {
      shortest = eight_is_shortest m (omega (arith, mine, h.0));
      long = omega (arith, mine, h.0, few);
      no_longer
          = omega (arith, mine, other, h.1);
    }

-- a length in the bits beside MASK alone
short_length : (least : ℕ) (form : Form) (len other : ℕ) → least ≤ 125 → least ≡ length_bits form len → least ≤ other
    → IsNoLonger least form len other
short_length least Short len other few e le = record {
  shortest = short_is_shortest len;
  long = omega (arith, e);
  no_longer = omega (arith, e, le);
}
short_length least Two len other few e le = absurd (omega arith)
short_length least Eight len other few e le = absurd (omega arith)

-- ---- the rules of two headers

right_bit : (a b : Bool) → ((a ≡ b → ⊥) → ⊥) → a ≡ b
right_bit true true never = refl
right_bit true false never = absurd (never (λ e. absurd cc))
right_bit false true never = absurd (never (λ e. absurd cc))
right_bit false false never = refl

pub same_first : (f g : Bool) (r s o p : ℕ) → r < 8 → s < 8 → o < 16 → p < 16
    → top_bit f + (16 * r + o) ≡ top_bit g + (16 * s + p) → SameFirst f g r s o p
same_first true true r s o p lr ls lo lp e = record { fin = refl; rsv = omega arith; opcode = omega arith }
same_first true false r s o p lr ls lo lp e = absurd (omega arith)
same_first false true r s o p lr ls lo lp e = absurd (omega arith)
same_first false false r s o p lr ls lo lp e = record { fin = refl; rsv = omega arith; opcode = omega arith }

-- a header with the same first byte that isn't longer than one that breaks no rule
module _ (role : Role) (limits : LimitsValue) (opened : Option Message) (h o : HeaderFields)
    (first : SameFirst h.fin o.fin h.rsv o.rsv h.opcode o.opcode) (masked : is_masked h.key ≡ expects_key role)
    (shortest : IsTooLong h.form h.len → ⊥) (shorter : h.len ≤ o.len) (none : NoneAtHeader role limits opened o) where
  pub none_shorter : NoneAtHeader role limits opened h
  none_shorter ReservedBits w = none ReservedBits (λ e. w (first.rsv ∙ e))
  none_shorter Opcode (inl w) = none Opcode (inl (omega (arith, w.0, first.opcode), omega (arith, w.1, first.opcode)))
  none_shorter Opcode (inr w) = none Opcode (inr (omega (arith, w, first.opcode)))
  none_shorter MaskWrong w = w masked
  none_shorter NotShortest w = shortest w
  none_shorter BadLength w = none BadLength (omega (arith, w, shorter))
  none_shorter ControlCut w = none ControlCut (
    (omega (arith, w.0.0, first.opcode), omega (arith, w.0.1, first.opcode)),
    sym first.fin ∙ w.1,
  )
  none_shorter ControlLong w = none ControlLong (
    (
      omega (arith, w.0.0, first.opcode),
      omega
          (arith, w.0.1, first.opcode),
    ),
    omega (arith, w.1, shorter),
  )
  none_shorter NothingToContinue w = none NothingToContinue (sym first.opcode ∙ w.0, w.1)
  none_shorter MessageOpen w = none MessageOpen (
    elim w.0 [
      | inl one ↦ inl (sym first.opcode ∙ one)
      | inr two ↦ inr
          (sym first.opcode ∙ two)
    ],
    w.1,
  )
  none_shorter TooBig w = none TooBig (omega (arith, w.0, first.opcode), omega (arith, w.1, shorter))
  none_shorter FrameBig w = none FrameBig (omega (arith, w.0, first.opcode), omega (arith, w.1, shorter))
  none_shorter NotText w = w
  none_shorter TextCut w = w
  none_shorter CloseOneByte w = w
  none_shorter CloseCode w = w
  none_shorter CloseReason w = w

-- ---- the least header

same_place : (start bytes more : List ℕ) (i : ℕ) → i < length start → take (length start) bytes ≡ start
    → slice_index bytes i ≡ slice_index (start ++ more) i
same_place start bytes more i lt e = sym (get_or-take (length start) bytes i 0 lt) ∙ ap (λ (t : List ℕ). get_or t i 0) e
    ∙ sym (get_or_append_left start more 0 i lt)

module _ (role : Role) (start bytes : List ℕ) (least : ℕ) (few : least ≤ 125) (some : 0 < length start)
    (are : AreLeastBytes role start least bytes) (h : HeaderFields) (used : ℕ) (b : Begins h used bytes) where
  -- the header doesn't end within the bytes that came
  ends_later : BeginsNoHeader start → length start < used
  ends_later none =
      elim (cases_lt (length start) used) [
        | inl lt ↦ lt
        | inr ge ↦
            let same : take used bytes ≡ take used start = sym (take-take used (length start) bytes ge)
            ∙ ap (λ (t : List ℕ). take used t) are.front in
            absurd (none h (take used bytes) (drop used start) b.front
            (sym (ap (λ (t : List ℕ). t ++ drop used start) same ∙ take-append-drop used start)))
      ]

  begins_so : BeginsNoHeader start → BeginsWith start h
  begins_so none =
      let later = ends_later none in
      let front : take (length start) (take used bytes) ≡ start = take-take (length start) used bytes
      (omega (arith, later)) ∙ are.front in
      record {
        is_header = b.front.fields;
        more = drop (length start) (take used bytes);
        layout = sym b.front.layout ∙ (sym (take-append-drop (length start) (take used bytes))
            ∙ ap (λ (t : List ℕ). t ++ drop (length start) (take used bytes)) front);
      }

  -- the length against that of another header that begins so, and the bit of MASK
  record Beside (o : HeaderFields) : Type 0 where
    pub first : SameFirst h.fin o.fin h.rsv o.rsv h.opcode o.opcode
    pub masked : is_masked h.key ≡ expects_key role
    pub length : IsNoLonger least h.form h.len o.len

  module _ (limits : LimitsValue) (opened : Option Message) (o : HeaderFields) (w : BeginsWith start o)
      (fine : IsFineHeader role limits opened least o) where
    whole : start ++ w.more ≡ header_bytes o ++ []
    whole = sym w.layout ∙ sym (append-nil (header_bytes o))

    first_is : SameFirst h.fin o.fin h.rsv o.rsv h.opcode o.opcode
    first_is =
        let mine : slice_index bytes 0 ≡ first_byte h = ap (λ (t : List ℕ). get_or t 0 0) (header_parts h used bytes b)
        in
        let other : slice_index (start ++ w.more) 0 ≡ first_byte o = ap (λ (t : List ℕ). get_or t 0 0) whole in
        same_first h.fin o.fin h.rsv o.rsv h.opcode o.opcode b.front.fields.rsv w.is_header.rsv b.front.fields.opcode
        w.is_header.opcode (sym mine ∙ same_place start bytes w.more 0 some are.front ∙ other)

    -- with the second byte there
    beside_more : 2 ≤ length start → Beside o
    beside_more two =
        let mine = header_ends bytes h (take used bytes) (drop used bytes) b.front (sym (take-append-drop used bytes))
        in
        let other = header_ends (start ++ w.more) o (header_bytes o) [] (record { fields = w.is_header; layout = refl })
        whole in
        let same : slice_index bytes 1 ≡ slice_index (start ++ w.more) 1 = same_place start bytes w.more 1
        (omega (arith, two)) are.front in
        let bits : length_bits h.form h.len ≡ length_bits o.form o.len = sym mine.0 ∙ ap (λ n. n % 128) same
        ∙ other.0 in
        let masks : is_masked h.key ≡ is_masked o.key = mine.1 ∙ ap (λ n. nat_le 128 n) same ∙ sym other.1 in
        let all_bytes : AreBytes (start ++ w.more) = subst (λ (l : List ℕ). AreBytes l) w.layout
        (header_are_bytes o w.is_header) in
        record {
          first = first_is;
          masked = masks ∙ right_bit (is_masked o.key) (expects_key role) (fine.none MaskWrong);
          length = no_longer start bytes w.more least h.form o.form h.len o.len _ _ few all_bytes
              (λ e. are.two two (mine.0 ∙ e)) (λ e. are.eight two (mine.0 ∙ e)) b.front.fields.len w.is_header.len bits
              mine.2 other.2 (fine.none NotShortest) fine.long;
        }

    -- with the first byte alone
    beside_one : length start ≡ 1 → Beside o
    beside_one one =
        let mine = header_ends bytes h (take used bytes) (drop used bytes) b.front (sym (take-append-drop used bytes))
        in
        let s = second_is (expects_key role) least (slice_index bytes 1) (omega (arith, few)) (are.second one) in
        record {
          first = first_is;
          masked = mine.1 ∙ sym s.1;
          length = short_length least h.form h.len o.len few (sym s.0 ∙ mine.0) fine.long;
        }

    beside : Beside o
    beside = elim (cases_lt 1 (length start)) [
      | inl more ↦ beside_more more
      | inr most ↦ beside_one
          (omega (arith, most, some))
    ]

    fine_too : IsFineHeader role limits opened least h
    fine_too = record {
      long = beside.length.long;
      none = none_shorter role limits opened h o beside.first beside.masked beside.length.shortest
          beside.length.no_longer fine.none;
    }

  pub least_of_bytes : BeginsNoHeader start → (limits : LimitsValue) (opened : Option Message)
      → IsLeastHeader role limits opened start least h
  least_of_bytes none limits opened = record {
    begins = begins_so none;
    fine = λ o w fine. fine_too limits opened o w
        fine;
  }
