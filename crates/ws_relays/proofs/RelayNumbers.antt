-- The numbers of clients that are tapped, and the parts that tell of them: a client comes, lines of one are told, and
-- the end of one is.
use Rattle.std.proofs.Common.{◌≡◌, ◌∙◌, ◌+◌, ◌-◌, ◌≤◌, ◌<◌, ◌⊎◌, ◌≢◌, ℕ, Bool, true, false, List, [], ◌∷◌, ◌++◌}
use Rattle.std.proofs.Common.{length, Option, None, Some, ap, sym, refl, subst, arith, suc, zero, nat_eq, inl, inr}
use Rattle.std.proofs.Common.{slice_get, slice_set, append_assoc, append-nil, if◌then◌else◌}
use Rattle.std.specs.List.{All}
use Rattle.std.proofs.lemmas.Bool.Decides.{eqb_tells}
use Rattle.std.proofs.lemmas.List.Elements.{All-cons, All-head, All-nil, All-push, All-same, All-tail, All-weaker}
use Rattle.std.proofs.lemmas.Option.{none-some, same_Some, slice_get_within}
use Rattle.ws_loops.proofs.PlaceLemmas.{get_set_other, get_set_same, length_set, set_cases}
use Rattle.ws_clients.specs.Numbers.{clients_numbered}
use Rattle.ws_relays.specs.InnerRelays.{AreRelayNumbers}
use Rattle.ws_relays.specs.Tappings.{ArePartsInTurn, EndOf, IsPartAfter, IsTapPartOf, LinesOf, TapPart, ends_of_parts}
use Rattle.ws_relays.specs.Tappings.{lines_of_number, numbers_of_ends, parts_text, relay_end_line}
use Rattle.ws_relays.specs.declared.relays.RelayEnd.{RelayEnd}

-- ---- parts, and one more

-- this number is none of those
abbrev pub IsOther : ℕ → ℕ → Type 0
IsOther n ended = ended ≡ n → ⊥

abbrev pub ended_numbers : List TapPart → List ℕ
ended_numbers parts = numbers_of_ends (ends_of_parts parts)

pub ends_then : (a b : List TapPart) → ends_of_parts (a ++ b) ≡ ends_of_parts a ++ ends_of_parts b
ends_then [] b = refl
ends_then (LinesOf n text ∷ a) b = ends_then a b
ends_then (EndOf n end ∷ a) b = ap (λ (l : List (ℕ × RelayEnd)). (n, end) ∷ l) (ends_then a b)

pub ends_lines : (a : List TapPart) (n : ℕ) (text : List ℕ) → ends_of_parts (a ++ LinesOf n text ∷ []) ≡ ends_of_parts a
ends_lines [] n text = refl
ends_lines (LinesOf m other ∷ a) n text = ends_lines a n text
ends_lines (EndOf m end ∷ a) n text = ap (λ (l : List (ℕ × RelayEnd)). (m, end) ∷ l) (ends_lines a n text)

pub numbers_end : (a : List TapPart) (n : ℕ) (end : RelayEnd)
    → ended_numbers (a ++ EndOf n end ∷ []) ≡ ended_numbers a ++ n ∷ []
numbers_end [] n end = refl
numbers_end (LinesOf m text ∷ a) n end = numbers_end a n end
numbers_end (EndOf m other ∷ a) n end = ap (λ (l : List ℕ). m ∷ l) (numbers_end a n end)

pub count_end : (a : List TapPart) (n : ℕ) (end : RelayEnd)
    → length (ends_of_parts (a ++ EndOf n end ∷ [])) ≡ 1 + length (ends_of_parts a)
count_end [] n end = refl
count_end (LinesOf m text ∷ a) n end = count_end a n end
count_end (EndOf m other ∷ a) n end = omega (arith, count_end a n end)

pub text_then : (a b : List TapPart) → parts_text (a ++ b) ≡ parts_text a ++ parts_text b
text_then [] b = refl
text_then (LinesOf n text ∷ a) b =
    ap (λ (l : List ℕ). text ++ l) (text_then a b) ∙ sym (append_assoc text (parts_text a) (parts_text b))
text_then (EndOf n end ∷ a) b = ap (λ (l : List ℕ). relay_end_line n end ++ l) (text_then a b)
    ∙ sym (append_assoc (relay_end_line n end) (parts_text a) (parts_text b))

-- the lines of a number, and those of another one
by_number : (is : Bool) (text rest back : List ℕ)
    → (if is then text ++ (rest ++ back) else rest ++ back) ≡ (if is then text ++ rest else rest) ++ back
by_number true text rest back = sym (append_assoc text rest back)
by_number false text rest back = refl

pub lines_then : (m : ℕ) (a b : List TapPart) → lines_of_number m (a ++ b) ≡ lines_of_number m a ++ lines_of_number m b
lines_then m [] b = refl
lines_then m (LinesOf n text ∷ a) b =
    ap (λ (l : List ℕ). if nat_eq n m then text ++ l else l) (lines_then m a b)
    ∙ by_number (nat_eq n m) text (lines_of_number m a) (lines_of_number m b)
lines_then m (EndOf n end ∷ a) b = lines_then m a b

same_number : (n : ℕ) → nat_eq n n ≡ true
same_number n = by (eqb_tells n n)
  where
    by : ((nat_eq n n ≡ true) × (n ≡ n)) ⊎ ((nat_eq n n ≡ false) × (n ≢ n)) → nat_eq n n ≡ true
    by (inl same) = same.0
    by (inr far) = absurd (far.1 refl)

other_number : (n m : ℕ) → (n ≡ m → ⊥) → nat_eq n m ≡ false
other_number n m apart = by (eqb_tells n m)
  where
    by : ((nat_eq n m ≡ true) × (n ≡ m)) ⊎ ((nat_eq n m ≡ false) × (n ≢ m)) → nat_eq n m ≡ false
    by (inl same) = absurd (apart same.1)
    by (inr far) = far.0

pub lines_own : (n : ℕ) (a : List TapPart) (text : List ℕ)
    → lines_of_number n (a ++ LinesOf n text ∷ []) ≡ lines_of_number n a ++ text
lines_own n a text = lines_then n a (LinesOf n text ∷ [])
    ∙ (ap (λ (is : Bool). lines_of_number n a ++ (if is then text ++ [] else [])) (same_number n)
    ∙ ap (λ (l : List ℕ). lines_of_number n a ++ l) (append-nil text))

pub lines_other : (m n : ℕ) (a : List TapPart) (text : List ℕ) → (n ≡ m → ⊥)
    → lines_of_number m (a ++ LinesOf n text ∷ []) ≡ lines_of_number m a
lines_other m n a text apart = lines_then m a (LinesOf n text ∷ [])
    ∙ (ap (λ (is : Bool). lines_of_number m a ++ (if is then text ++ [] else [])) (other_number n m apart)
    ∙ append-nil (lines_of_number m a))

pub lines_end : (m n : ℕ) (a : List TapPart) (end : RelayEnd)
    → lines_of_number m (a ++ EndOf n end ∷ []) ≡ lines_of_number m a
lines_end m n a end = lines_then m a (EndOf n end ∷ []) ∙ append-nil (lines_of_number m a)

-- of a number that wasn't given there is no line
pub lines_none : (taken : ℕ) (parts : List TapPart) → All (IsTapPartOf taken) parts
    → lines_of_number (taken + 1) parts ≡ []
lines_none taken [] all = refl
lines_none taken (LinesOf n text ∷ parts) all =
    let few : n ≤ taken = All-head (IsTapPartOf taken) (LinesOf n text) parts all in
    ap (λ (is : Bool). if is then text ++ lines_of_number (taken + 1) parts else lines_of_number (taken + 1) parts)
    (other_number n (taken + 1) (λ same. omega (arith, few, same)))
    ∙ lines_none taken parts (All-tail (IsTapPartOf taken) (LinesOf n text) parts all)
lines_none taken (EndOf n end ∷ parts) all =
    lines_none taken parts (All-tail (IsTapPartOf taken) (EndOf n end) parts all)

-- ---- each in its turn

lines_in_turn : (most ended n : ℕ) (text : List ℕ) (parts : List TapPart) → 1 ≤ n
    → n ≤ ended + length (ends_of_parts parts) + most → All (IsOther n) (ended_numbers parts)
    → ArePartsInTurn most ended parts → ArePartsInTurn most ended (parts ++ LinesOf n text ∷ [])
lines_in_turn most ended n text [] some few far turns = (some, omega (arith, few), tt)
lines_in_turn most ended n text (LinesOf m other ∷ parts) some few far turns =
    (turns.0, turns.1, lines_in_turn most ended n text parts some few far turns.2)
lines_in_turn most ended n text (EndOf m end ∷ parts) some few far turns = (
  turns.0,
  turns.1,
  All-push (IsPartAfter m) parts (LinesOf n text) turns.2
      (λ same. All-head (IsOther n) m (ended_numbers parts) far (sym same)),
  lines_in_turn most (ended + 1) n text parts some (omega (arith, few))
      (All-tail (IsOther n) m (ended_numbers parts) far) turns.3,
)

end_in_turn : (most ended n : ℕ) (end : RelayEnd) (parts : List TapPart) → 1 ≤ n
    → n ≤ ended + length (ends_of_parts parts) + most → All (IsOther n) (ended_numbers parts)
    → ArePartsInTurn most ended parts → ArePartsInTurn most ended (parts ++ EndOf n end ∷ [])
end_in_turn most ended n end [] some few far turns =
    (some, omega (arith, few), All-nil (IsPartAfter n), tt)
end_in_turn most ended n end (LinesOf m other ∷ parts) some few far turns =
    (turns.0, turns.1, end_in_turn most ended n end parts some few far turns.2)
end_in_turn most ended n end (EndOf m first ∷ parts) some few far turns = (
  turns.0,
  turns.1,
  All-push (IsPartAfter m) parts (EndOf n end) turns.2
      (λ same. All-head (IsOther n) m (ended_numbers parts) far (sym same)),
  end_in_turn most (ended + 1) n end parts some (omega (arith, few))
      (All-tail (IsOther n) m (ended_numbers parts) far) turns.3,
)

-- ---- who is there

count_some : (ns : List (Option ℕ)) (at n : ℕ) → slice_get ns at ≡ Some None
    → clients_numbered (slice_set ns at (Some n)) ≡ 1 + clients_numbered ns
count_some [] at n is = absurd (none-some None is)
count_some (None ∷ ns) zero n is = refl
count_some (Some m ∷ ns) zero n is = absurd (none-some m (sym (same_Some (Some m) None is)))
count_some (None ∷ ns) (suc at) n is = count_some ns at n is
count_some (Some m ∷ ns) (suc at) n is = omega (arith, count_some ns at n is)

count_none : (ns : List (Option ℕ)) (at n : ℕ) → slice_get ns at ≡ Some (Some n)
    → clients_numbered ns ≡ 1 + clients_numbered (slice_set ns at None)
count_none [] at n is = absurd (none-some (Some n) is)
count_none (None ∷ ns) zero n is = absurd (none-some n (same_Some None (Some n) is))
count_none (Some m ∷ ns) zero n is = refl
count_none (None ∷ ns) (suc at) n is = count_none ns at n is
count_none (Some m ∷ ns) (suc at) n is = omega (arith, count_none ns at n is)

count_within : (ns : List (Option ℕ)) → clients_numbered ns ≤ length ns
count_within [] = omega arith
count_within (None ∷ ns) = omega (arith, count_within ns)
count_within (Some n ∷ ns) = omega (arith, count_within ns)

-- fewer are there than places, where one is free
pub count_below : (ns : List (Option ℕ)) (at : ℕ) → slice_get ns at ≡ Some None → 1 + clients_numbered ns ≤ length ns
count_below ns at free = omega (
  arith,
  count_within (slice_set ns at (Some 0)),
  count_some ns at 0 free,
  length_set ns at (Some 0),
)

-- so many may have come by now
pub given_few : (at_once taken there : ℕ) (ns : List (Option ℕ)) (parts : List TapPart)
    → AreRelayNumbers at_once taken there ns parts → taken ≤ 0 + length (ends_of_parts parts) + at_once
given_few at_once taken there ns parts h = omega (arith, h.sum, h.count, count_within ns, h.len)

below_then : (taken : ℕ) (x : TapPart) → IsTapPartOf taken x → IsTapPartOf (taken + 1) x
below_then taken (LinesOf n text) few = omega (arith, few)
below_then taken (EndOf n end) few = omega (arith, few)

ended_below : (taken n : ℕ) (parts : List TapPart) → taken < n → All (IsTapPartOf taken) parts
    → All (IsOther n) (ended_numbers parts)
ended_below taken n [] above all = All-nil (IsOther n)
ended_below taken n (LinesOf m text ∷ parts) above all =
    ended_below taken n parts above (All-tail (IsTapPartOf taken) (LinesOf m text) parts all)
ended_below taken n (EndOf m end ∷ parts) above all =
    let few : m ≤ taken = All-head (IsTapPartOf taken) (EndOf m end) parts all in
    All-cons (IsOther n) m (ended_numbers parts) (λ same. omega (arith, above, few, same))
    (ended_below taken n parts above (All-tail (IsTapPartOf taken) (EndOf m end) parts all))

unpush : (n m : ℕ) (xs : List ℕ) → All (IsOther n) (xs ++ m ∷ []) → All (IsOther n) xs × (m ≡ n → ⊥)
unpush n m [] all = (All-nil (IsOther n), All-head (IsOther n) m [] all)
unpush n m (x ∷ xs) all =
    let rest = unpush n m xs (All-tail (IsOther n) x (xs ++ m ∷ []) all) in
    (All-cons (IsOther n) x xs (All-head (IsOther n) x (xs ++ m ∷ []) all) rest.0, rest.1)

module _ (at_once taken there : ℕ) (ns : List (Option ℕ)) (parts : List TapPart)
    (h : AreRelayNumbers at_once taken there ns parts) (at : ℕ) where
  -- ---- a client comes into a place that is free
  come_given : slice_get ns at ≡ Some None → (i n : ℕ)
      → slice_get (slice_set ns at (Some (taken + 1))) i ≡ Some (Some n)
      → (1 ≤ n) × (n ≤ taken + 1) × All (IsOther n) (ended_numbers parts)
  come_given free i n is = by (set_cases ns at (Some (taken + 1)) i (Some n) is)
    where
      by : ((i ≡ at) × (Some n ≡ Some (taken + 1))) ⊎ ((i ≡ at → ⊥) × (slice_get ns i ≡ Some (Some n)))
          → (1 ≤ n) × (n ≤ taken + 1) × All (IsOther n) (ended_numbers parts)
      by (inl own) =
          let same : n ≡ taken + 1 = same_Some n (taken + 1) own.1 in
          (omega (arith, same), omega (arith, same), ended_below taken n parts (omega (arith, same)) h.came)
      by (inr (far, was)) =
          let given = h.given i n was in (given.0, omega (arith, given.1), given.2)

  come_apart : slice_get ns at ≡ Some None → (i j n : ℕ)
      → slice_get (slice_set ns at (Some (taken + 1))) i ≡ Some (Some n)
      → slice_get (slice_set ns at (Some (taken + 1))) j ≡ Some (Some n) → i ≡ j
  come_apart free i j n is also =
      by (set_cases ns at (Some (taken + 1)) i (Some n) is) (set_cases ns at (Some (taken + 1)) j (Some n) also)
    where
      by : ((i ≡ at) × (Some n ≡ Some (taken + 1))) ⊎ ((i ≡ at → ⊥) × (slice_get ns i ≡ Some (Some n)))
          → ((j ≡ at) × (Some n ≡ Some (taken + 1))) ⊎ ((j ≡ at → ⊥) × (slice_get ns j ≡ Some (Some n))) → i ≡ j
      by (inl one) (inl two) = one.0 ∙ sym two.0
      by (inl one) (inr (far, was)) =
          absurd (omega (arith, (h.given j n was).1, same_Some n (taken + 1) one.1))
      by (inr (far, was)) (inl two) =
          absurd (omega (arith, (h.given i n was).1, same_Some n (taken + 1) two.1))
      by (inr one) (inr two) = h.apart i j n one.1 two.1

  come_stays : slice_get ns at ≡ Some None → (n : ℕ) → 1 ≤ n → n ≤ taken + 1 → All (IsOther n) (ended_numbers parts)
      → (i : ℕ) × (slice_get (slice_set ns at (Some (taken + 1))) i ≡ Some (Some n))
  come_stays free n some few far = by (eqb_tells n (taken + 1))
    where
      by : ((nat_eq n (taken + 1) ≡ true) × (n ≡ taken + 1)) ⊎ ((nat_eq n (taken + 1) ≡ false) × (n ≢ taken + 1))
          → (i : ℕ) × (slice_get (slice_set ns at (Some (taken + 1))) i ≡ Some (Some n))
      by (inl same) = (
        at,
        subst (λ (k : ℕ). slice_get (slice_set ns at (Some (taken + 1))) at ≡ Some (Some k))
            (sym same.1) (get_set_same ns at (Some (taken + 1)) (slice_get_within ns at None free)),
      )
      by (inr other) =
          let there_is = h.stays n some (omega (arith, few, other.1)) far in (
            there_is.0,
            get_set_other ns at there_is.0 (Some (taken + 1)) (λ same. none-some n
                (same_Some None (Some n) (sym free ∙ (ap (λ (k : ℕ). slice_get ns k) (sym same) ∙ there_is.1))))
                ∙ there_is.1,
          )

  pub numbers_come : slice_get ns at ≡ Some None
      → AreRelayNumbers at_once (taken + 1) (there + 1) (slice_set ns at (Some (taken + 1))) parts
  numbers_come free = record {
    len = length_set ns at (Some (taken + 1)) ∙ h.len;
    given = come_given free;
    apart = come_apart free;
    stays = come_stays free;
    count = omega (arith, h.count, count_some ns at (taken + 1) free);
    sum = omega (arith, h.sum);
    turns = h.turns;
    came = All-weaker (IsTapPartOf taken) (IsTapPartOf (taken + 1)) (below_then taken) parts h.came;
  }

  -- ---- lines of the client in this place are told
  pub numbers_lines : (n : ℕ) (text : List ℕ) → slice_get ns at ≡ Some (Some n)
      → AreRelayNumbers at_once taken there ns (parts ++ LinesOf n text ∷ [])
  numbers_lines n text is =
      let given = h.given at n is in
      let same : ended_numbers (parts ++ LinesOf n text ∷ []) ≡ ended_numbers parts =
      ap (λ (l : List (ℕ × RelayEnd)). numbers_of_ends l) (ends_lines parts n text) in record {
        len = h.len;
        given = λ i m was. (
          (h.given i m was).0,
          (h.given i m was).1,
          All-same (IsOther m) (ended_numbers (parts ++ LinesOf n text ∷ [])) (ended_numbers parts) same
              (h.given i m was).2,
        );
        apart = h.apart;
        stays = λ m some few far. h.stays m some few
            (subst (λ (l : List ℕ). All (IsOther m) l) same far);
        count = h.count;
        sum = h.sum ∙ ap (λ (l : List (ℕ × RelayEnd)). there + length l) (sym (ends_lines parts n text));
        turns = lines_in_turn at_once 0 n text parts given.0 (omega (
          arith,
          given.1,
          given_few at_once taken there ns
              parts h,
        )) given.2 h.turns;
        came = All-push (IsTapPartOf taken) parts (LinesOf n text) h.came given.1;
      }

  -- ---- the end of the client in this place is told
  end_given : (n : ℕ) (end : RelayEnd) → slice_get ns at ≡ Some (Some n) → (i m : ℕ)
      → slice_get (slice_set ns at None) i ≡ Some (Some m)
      → (1 ≤ m) × (m ≤ taken) × All (IsOther m) (ended_numbers (parts ++ EndOf n end ∷ []))
  end_given n end there_is i m is = by (set_cases ns at None i (Some m) is)
    where
      by : ((i ≡ at) × (Some m ≡ None)) ⊎ ((i ≡ at → ⊥) × (slice_get ns i ≡ Some (Some m)))
          → (1 ≤ m) × (m ≤ taken) × All (IsOther m) (ended_numbers (parts ++ EndOf n end ∷ []))
      by (inl own) = absurd (none-some m (sym own.1))
      by (inr (far, was)) =
          let given = h.given i m was in (
            given.0,
            given.1,
            subst (λ (l : List ℕ). All (IsOther m) l) (sym (numbers_end parts n end))
                (All-push (IsOther m) (ended_numbers parts) n given.2 (λ same. far (h.apart i at m was
                (there_is ∙ ap (λ (k : ℕ). Some (Some k)) same)))),
          )

  end_apart : (i j m : ℕ) → slice_get (slice_set ns at None) i ≡ Some (Some m)
      → slice_get (slice_set ns at None) j ≡ Some (Some m) → i ≡ j
  end_apart i j m is also = by (set_cases ns at None i (Some m) is) (set_cases ns at None j (Some m) also)
    where
      by : ((i ≡ at) × (Some m ≡ None)) ⊎ ((i ≡ at → ⊥) × (slice_get ns i ≡ Some (Some m)))
          → ((j ≡ at) × (Some m ≡ None)) ⊎ ((j ≡ at → ⊥) × (slice_get ns j ≡ Some (Some m))) → i ≡ j
      by (inl one) two = absurd (none-some m (sym one.1))
      by (inr one) (inl two) = absurd (none-some m (sym two.1))
      by (inr one) (inr two) = h.apart i j m one.1 two.1

  end_stays : (n : ℕ) (end : RelayEnd) → slice_get ns at ≡ Some (Some n) → (m : ℕ) → 1 ≤ m → m ≤ taken
      → All (IsOther m) (ended_numbers (parts ++ EndOf n end ∷ []))
      → (i : ℕ) × (slice_get (slice_set ns at None) i ≡ Some (Some m))
  end_stays n end is m some few far =
      let (front, apart) = unpush m n (ended_numbers parts)
      (subst (λ (l : List ℕ). All (IsOther m) l) (numbers_end parts n end) far) in
      let there_is = h.stays m some few front in (
        there_is.0,
        get_set_other ns at there_is.0 None (λ same. apart (same_Some n m (same_Some (Some n) (Some m)
            (sym is ∙ (ap (λ (k : ℕ). slice_get ns k) (sym same) ∙ there_is.1))))) ∙ there_is.1,
      )

  pub numbers_ended : (n : ℕ) (end : RelayEnd) → slice_get ns at ≡ Some (Some n)
      → AreRelayNumbers at_once taken (there - 1) (slice_set ns at None) (parts ++ EndOf n end ∷ [])
  numbers_ended n end is =
      let given = h.given at n is in record {
        len = length_set ns at None ∙ h.len;
        given = end_given n end is;
        apart = end_apart;
        stays = end_stays n end is;
        count = omega (arith, h.count, count_none ns at n is);
        sum = omega (arith, h.sum, h.count, count_none ns at n is, count_end parts n end);
        turns = end_in_turn at_once 0 n end parts given.0 (omega (
          arith,
          given.1,
          given_few at_once taken there ns
              parts h,
        )) given.2 h.turns;
        came = All-push (IsTapPartOf taken) parts (EndOf n end) h.came given.1;
      }
