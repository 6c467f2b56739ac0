-- The first bytes of a header: which right frames begin with them, by the header that breaks a rule only where each
-- does.
use Rattle.std.proofs.Common.{◌≡◌, ℕ, ◌%◌, ◌<◌, ◌≤◌, ◌⊎◌, List, [], ◌∷◌, ◌++◌, length, get_or, take, drop, replicate}
use Rattle.std.proofs.Common.{Option, None, refl, sym, ap, ◌∙◌, append_assoc, arith, inl, inr, subst, lit≤, lit<}
use Rattle.std.proofs.lemmas.Bool.{cases_lt, cases_eq}
use Rattle.std.proofs.lemmas.List.{length-replicate, take_all, append-nil}
use Rattle.ws_wire.specs.declared.role.Role.{Role}
use Rattle.ws_wire.specs.declared.header.Form.{Form}
use Rattle.ws_wire.specs.declared.header.Form.TheVariants.{Short, Two, Eight}
use Rattle.ws_wire.specs.Header.{HeaderFields, IsHeader, CanHold, header_bytes, first_byte, second_byte, length_bits}
use Rattle.ws_wire.specs.Header.{is_masked}
use Rattle.ws_wire.specs.Masking.{masked_payload}
use Rattle.ws_wire.specs.Reading.{BeginsNoHeader}
use Rattle.ws_wire.proofs.Headers.{SameFirst, second_is}
use Rattle.ws_text.specs.Text.{IsText, BeginsText}
use Rattle.ws_text.specs.Stream.{HasReadText, IsWanted}
use Rattle.ws_text.proofs.Texts.{splits}
use Rattle.ws_session.specs.declared.message.Message.{Message}
use Rattle.ws_session.specs.declared.reason.Reason.TheVariants.{ReservedBits, Opcode, MaskWrong, NotShortest, BadLength}
use Rattle.ws_session.specs.declared.reason.Reason.TheVariants.{ControlCut, ControlLong, NothingToContinue, MessageOpen}
use Rattle.ws_session.specs.declared.reason.Reason.TheVariants.{TooBig, FrameBig, NotText, TextCut, CloseOneByte}
use Rattle.ws_session.specs.declared.reason.Reason.TheVariants.{CloseCode, CloseReason}
use Rattle.ws_session.specs.Limits.{LimitsValue}
use Rattle.ws_session.specs.Faults.{open_payload, IsOfText, AppliesInPayload}
use Rattle.ws_session.specs.Doomed.{IsRightFrame, CanBeRight}
use Rattle.ws_session.specs.InnerAssembly.{HasReadOpen}
use Rattle.ws_session.specs.InnerChecking.{NoneAtHeader}
use Rattle.ws_session.specs.InnerDoomed.{EndsText}
use Rattle.ws_session.specs.LeastHeader.{BeginsWith, IsFineHeader, IsLeastHeader}
use Rattle.ws_session.proofs.ControlPayloads.{none_of_ping}
use Rattle.ws_session.proofs.Frames.{none_or_some, one_or_two}
use Rattle.ws_session.proofs.LeastHeaders.{same_first}
use Rattle.ws_session.proofs.Payloads.{read_open}
use Rattle.ws_session.proofs.Replied.{no_bytes}
use Rattle.ws_session.proofs.RightPayloads.{zero_bytes, right_of, right_data, right_is_text}
use Rattle.ws_session.proofs.RightCloses.{none_of_close, empty_can_end}
use Rattle.ws_session.proofs.RightFronts.{read_begins}

-- ---- the first two bytes

first_of : (start : List ℕ) (g : HeaderFields) (more : List ℕ) → 0 < length start → header_bytes g ≡ start ++ more
    → first_byte g ≡ get_or start 0 0
first_of [] g more some e = absurd (omega arith)
first_of (b ∷ start) g more some e = ap (λ (l : List ℕ). get_or l 0 0) e

second_of : (start : List ℕ) (g : HeaderFields) (more : List ℕ) → 1 < length start → header_bytes g ≡ start ++ more
    → second_byte g ≡ get_or start 1 0
second_of [] g more some e = absurd (omega arith)
second_of (b ∷ []) g more some e = absurd (omega arith)
second_of (b ∷ d ∷ start) g more some e = ap (λ (l : List ℕ). get_or l 1 0) e

-- headers that begin with one byte at least have the same FIN and opcode
same_start : (start : List ℕ) (g k : HeaderFields) → 0 < length start → BeginsWith start g → BeginsWith start k
    → SameFirst g.fin k.fin g.rsv k.rsv g.opcode k.opcode
same_start start g k some bg bk = same_first g.fin k.fin g.rsv k.rsv g.opcode k.opcode bg.is_header.rsv bk.is_header.rsv
    bg.is_header.opcode bk.is_header.opcode (first_of start g bg.more some bg.layout
    ∙ sym (first_of start k bk.more some bk.layout))

bits_below : (f : Form) (n : ℕ) → CanHold f n → length_bits f n < 128
bits_below Short n h = omega arith
bits_below Two n h = lit< tt
bits_below Eight n h = lit< tt

-- with two bytes and more they have the same length bits
same_bits : (start : List ℕ) (g k : HeaderFields) → 1 < length start → BeginsWith start g → BeginsWith start k
    → length_bits g.form g.len ≡ length_bits k.form k.len
same_bits start g k some bg bk =
    let gs = second_is (is_masked g.key) (length_bits g.form g.len) (second_byte g)
    (bits_below g.form g.len bg.is_header.len) refl in
    let ks = second_is (is_masked k.key) (length_bits k.form k.len) (second_byte k)
    (bits_below k.form k.len bk.is_header.len) refl in
    sym gs.0 ∙ ap (λ n. n % 128) (second_of start g bg.more some bg.layout
    ∙ sym (second_of start k bk.more some bk.layout)) ∙ ks.0

-- the length 1 in the form that it needs
one_in_bits : (f : Form) (n : ℕ) → n ≡ 1 → (((f ≡ Two) × (n < 126)) ⊎ ((f ≡ Eight) × (n < 65536)) → ⊥)
    → length_bits f n ≡ 1
one_in_bits Short n e fine = e
one_in_bits Two n e fine = absurd (fine (inl (refl, omega arith)))
one_in_bits Eight n e fine = absurd (fine (inr (refl, omega arith)))

one_by_bits : (f : Form) (n : ℕ) → length_bits f n ≡ 1 → n ≡ 1
one_by_bits Short n e = e
one_by_bits Two n e = absurd (omega arith)
one_by_bits Eight n e = absurd (omega arith)

text_opcode : (opened : Option Message) (h : HeaderFields) → IsOfText opened h → h.opcode ≤ 2
text_opcode opened h (inl one) = omega arith
text_opcode opened h (inr more) = omega (arith, more.0)

text_as : (opened : Option Message) (g k : HeaderFields) → g.opcode ≡ k.opcode → IsOfText opened g → IsOfText opened k
text_as opened g k e (inl one) = inl (sym e ∙ one)
text_as opened g k e (inr more) = inr (sym e ∙ more.0, more.1)

-- ---- a header without payload in place of a close with half a code

emptied : HeaderFields → HeaderFields
emptied h = record { fin = h.fin; rsv = h.rsv; opcode = h.opcode; key = h.key; len = 0; form = Short }

emptied_fine : (role : Role) (limits : LimitsValue) (opened : Option Message) (h : HeaderFields) → h.opcode ≡ 8
    → NoneAtHeader role limits opened h → NoneAtHeader role limits opened (emptied h)
unfolding emptied
emptied_fine role limits opened h close fine ReservedBits a = fine ReservedBits a
emptied_fine role limits opened h close fine Opcode a = fine Opcode a
emptied_fine role limits opened h close fine MaskWrong a = fine MaskWrong a
emptied_fine role limits opened h close fine NotShortest (inl a) = let e = a.0 in absurd cc
emptied_fine role limits opened h close fine NotShortest (inr a) = let e = a.0 in absurd cc
emptied_fine role limits opened h close fine BadLength a = omega arith
emptied_fine role limits opened h close fine ControlCut a = fine ControlCut a
emptied_fine role limits opened h close fine ControlLong a = omega (arith, a.1)
emptied_fine role limits opened h close fine NothingToContinue a = fine NothingToContinue a
emptied_fine role limits opened h close fine MessageOpen a = fine MessageOpen a
emptied_fine role limits opened h close fine TooBig a = omega (arith, a.0)
emptied_fine role limits opened h close fine FrameBig a = omega (arith, a.0)
emptied_fine role limits opened h close fine NotText a = a
emptied_fine role limits opened h close fine TextCut a = a
emptied_fine role limits opened h close fine CloseOneByte a = a
emptied_fine role limits opened h close fine CloseCode a = a
emptied_fine role limits opened h close fine CloseReason a = a

emptied_header : (h : HeaderFields) → IsHeader h → IsHeader (emptied h)
unfolding emptied
emptied_header h is = record { rsv = is.rsv; opcode = is.opcode; len = lit< tt; key = is.key }

one_byte_begins : (start : List ℕ) (h : HeaderFields) → length start ≡ 1 → BeginsWith start h
    → header_bytes (emptied h) ≡ start ++ drop 1 (header_bytes (emptied h))
unfolding emptied
one_byte_begins [] h one b = absurd (omega arith)
one_byte_begins (x ∷ []) h one b = ap (λ n. n ∷ drop 1 (header_bytes (emptied h)))
    (first_of (x ∷ []) h b.more (lit≤ tt) b.layout)
one_byte_begins (x ∷ y ∷ start) h one b = absurd (omega arith)

-- ---- the frames that begin so

module _ (role : Role) (limits : LimitsValue) (opened : Option Message) (start : List ℕ) (begun : 0 < length start)
    (unfinished : BeginsNoHeader start) (text : Option (List ℕ)) (reads : HasReadOpen opened text)
    (first : HeaderFields) (is_first : IsLeastHeader role limits opened start 0 first) (wanted : ℕ)
    (wants : EndsText opened first → (t : List ℕ) → HasReadText text t → IsWanted t wanted)
    (other : ¬ EndsText opened first → wanted ≡ 0)
    (h : HeaderFields) (is_least : IsLeastHeader role limits opened start wanted h) where
  nothing_open : (g : HeaderFields) → NoneAtHeader role limits opened g → g.opcode ≤ 2 → 1 ≤ g.opcode → opened ≡ None
  nothing_open g fine most least = none_or_some opened (λ some. fine MessageOpen (one_or_two g.opcode most least, some))

  -- what is open has been read, where such a frame goes on with it
  open_read : (g : HeaderFields) → NoneAtHeader role limits opened g → IsOfText opened g
      → HasReadText text (open_payload opened)
  open_read g fine of_text = read_open opened g text (nothing_open g fine (text_opcode opened g of_text)) reads of_text

  ends_as_first : (g : HeaderFields) → BeginsWith start g → EndsText opened g → EndsText opened first
  ends_as_first g b ends =
      let s = same_start start g first begun b is_first.begins in
      (sym s.fin ∙ ends.0, text_as opened g first s.opcode ends.1)

  first_ends_as : (g : HeaderFields) → BeginsWith start g → EndsText opened first → EndsText opened g
  first_ends_as g b ends =
      let s = same_start start first g begun is_first.begins b in
      (sym s.fin ∙ ends.0, text_as opened first g s.opcode ends.1)

  open_wanted : (g : HeaderFields) → BeginsWith start g → NoneAtHeader role limits opened g → EndsText opened g
      → IsWanted (open_payload opened) wanted
  open_wanted g b fine ends = wants (ends_as_first g b ends) (open_payload opened) (open_read g fine ends.1)

  -- ---- where one begins so

  module _ (can : CanBeRight role limits opened start) where
    can_begins : BeginsWith start can.header
    can_begins = elim (splits (header_bytes can.header) (masked_payload can.header.key can.payload) start can.later
        can.parts) [
          | inl x ↦ record { is_header = can.right.is_header; more = x.0; layout = x.1 }
          | inr x ↦ absurd (unfinished can.header (header_bytes can.header) (x.0 ∷ x.1)
              (record { fields = can.right.is_header; layout = refl }) x.2)
        ]

    can_fine : NoneAtHeader role limits opened can.header
    can_fine r a = can.right.right 0 r (omega arith) (inl (refl, a))

    wanted_begins : (n : ℕ) → IsWanted (open_payload opened) n → BeginsText (open_payload opened)
    wanted_begins n w = record { more = w.enough.0; is_text = w.enough.2 }

    can_ends : EndsText opened can.header → wanted ≤ can.header.len
    can_ends ends =
        let w = open_wanted can.header can_begins can_fine ends in
        let whole : IsText (open_payload opened ++ can.payload) = right_is_text role limits opened can.header
        can.payload can.right ends.0 ends.1 (wanted_begins wanted w) in
        omega (arith, w.least can.payload whole, can.right.whole)

    can_long : wanted ≤ can.header.len
    can_long = elim (cases_lt can.header.len wanted) [
      | inl short ↦
          let never : ¬ EndsText opened first = λ ends. let le = can_ends (first_ends_as can.header can_begins ends) in
          omega arith in
          let none = other never in
          absurd (omega arith)
      | inr le ↦ le
    ]

    -- so the least header breaks no rule, and is long enough
    pub least_is_fine : IsFineHeader role limits opened wanted h
    least_is_fine = is_least.fine can.header can_begins (record { long = can_long; none = can_fine })

    half_is_wrong : can.header.opcode ≡ 8 → can.header.len ≡ 1 → ⊥
    half_is_wrong close one =
        let p = can.payload in
        let all : take (length p) p ≡ p = take_all (length p) p (omega arith) in
        can.right.right (length p) CloseOneByte (omega arith) (inr (subst
        (λ (l : List ℕ). AppliesInPayload opened can.header l CloseOneByte) (sym all)
        (close, can.right.whole, can.right.whole ∙ one)))

    -- and it is a close of one byte only where it needn't be
    pub half_is_open : h.opcode ≡ 8 → h.len ≡ 1 → length start ≡ 1
    half_is_open close one = elim (cases_eq (length start) 1) [
      | inl e ↦ e
      | inr n ↦
          let more : 1 < length start = omega arith in
          let opcode : can.header.opcode ≡ 8 = (same_start start can.header h begun can_begins is_least.begins).opcode
          ∙ close in
          let bits : length_bits can.header.form can.header.len ≡ 1 = same_bits start can.header h more can_begins
          is_least.begins ∙ one_in_bits h.form h.len one (least_is_fine.none NotShortest) in
          absurd (half_is_wrong opcode (one_by_bits can.header.form can.header.len bits))
    ]

  -- ---- where the least header breaks no rule

  module _ (fine : NoneAtHeader role limits opened h) (long : wanted ≤ h.len) where
    with_payload : (p : List ℕ) → IsRightFrame role limits opened h p → CanBeRight role limits opened start
    with_payload p right = record {
      header = h;
      payload = p;
      later = is_least.begins.more ++ masked_payload h.key p;
      parts = ap (λ (l : List ℕ). l ++ masked_payload h.key p) is_least.begins.layout
          ∙ append_assoc start is_least.begins.more (masked_payload h.key p);
      right = right;
    }

    nothing_after : open_payload opened ++ [] ≡ open_payload opened
    nothing_after = append-nil (open_payload opened)

    data_begins : h.opcode ≤ 2 → CanBeRight role limits opened start
    data_begins opcode =
        let right = right_data role limits opened h is_least.begins.is_header fine [] no_bytes (omega arith) opcode
        (λ of_text. subst (λ (l : List ℕ). BeginsText l) (sym nothing_after)
        (read_begins text (open_payload opened) (open_read h fine of_text)))
        (λ ends. (
          wanted,
          subst (λ (l : List ℕ). IsWanted l wanted) (sym nothing_after)
              (open_wanted h is_least.begins fine ends),
          omega arith,
        )) in
        with_payload ([] ++ right.0) right.1

    ping_begins : 8 ≤ h.opcode → (h.opcode ≡ 8 → ⊥) → CanBeRight role limits opened start
    ping_begins control never =
        let p = replicate h.len 0 in
        with_payload p (right_of role limits opened h is_least.begins.is_header fine p (zero_bytes h.len)
        (length-replicate h.len 0) (none_of_ping opened h p control never))

    empty_close : h.opcode ≡ 8 → length start ≡ 1 → CanBeRight role limits opened start
    unfolding emptied
    empty_close close one =
        let k = emptied h in
        record {
          header = k;
          payload = [];
          later = drop 1 (header_bytes k) ++ masked_payload k.key [];
          parts = ap (λ (l : List ℕ). l ++ masked_payload k.key []) (one_byte_begins start h one is_least.begins)
              ∙ append_assoc start (drop 1 (header_bytes k)) (masked_payload k.key []);
          right = right_of role limits opened k (emptied_header h is_least.begins.is_header)
              (emptied_fine role limits opened h close fine) [] no_bytes refl
              (none_of_close opened k [] close refl None refl);
        }

    close_begins : h.opcode ≡ 8 → (h.len ≡ 1 → length start ≡ 1) → CanBeRight role limits opened start
    close_begins close half =
        elim (cases_lt h.len 2) [
          | inl few ↦ elim (cases_eq h.len 1) [
            | inl one ↦ empty_close close (half one)
            | inr not_one ↦
                let none : 0 ≡ h.len = omega arith in
                with_payload [] (right_of role limits opened h is_least.begins.is_header fine [] no_bytes none
                (none_of_close opened h [] close none None refl))
          ]
          | inr some ↦
              let short : h.len ≤ 125 = elim (cases_lt 125 h.len) [
                | inl past ↦ absurd
                    (fine ControlLong ((omega arith, omega arith), past))
                | inr le ↦ le
              ] in
              let p = empty_can_end h.len some short in
              with_payload p.0 (right_of role limits opened h is_least.begins.is_header fine p.0 p.2 p.1
              (none_of_close opened h p.0 close p.1 p.3.0 p.3.1))
        ]

    -- then some right frame begins so
    pub start_can : (h.opcode ≡ 8 → h.len ≡ 1 → length start ≡ 1) → CanBeRight role limits opened start
    start_can half =
        elim (cases_lt h.opcode 3) [
          | inl message ↦ data_begins (omega arith)
          | inr past ↦ elim (cases_lt h.opcode 8) [
            | inl reserved ↦ absurd (fine Opcode (inl (past, omega arith)))
            | inr control ↦ elim (cases_eq h.opcode 8) [
              | inl close ↦ close_begins close (half close)
              | inr never ↦
                  ping_begins control never
            ]
          ]
        ]
