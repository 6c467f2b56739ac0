-- The end of a header that comes in pieces.
use Rattle.std.proofs.Common.{◌≡◌, ℕ, ◌+◌, ◌-◌, ◌<◌, ◌≤◌, List, [], ◌++◌, length, take, drop, sym, ap, ◌∙◌, arith, inl, inr, subst}
use Rattle.std.proofs.lemmas.Bool.{cases_lt}
use Rattle.std.proofs.lemmas.List.{length-append, take-append-drop, take-append-le, length-take-le, take-take, take_all}
use Rattle.std.proofs.Math.Seq.{take-append-add}
use Rattle.ws_wire.specs.Header.{HeaderFields, IsHeaderOf, AreBytes}
use Rattle.ws_wire.proofs.Numbers.{front_bytes}
use Rattle.ws_session.proofs.ByteLists.{bytes_append}
use Rattle.ws_wire.specs.Reading.{Begins, BeginsNoHeader}
use Rattle.ws_session.specs.InnerReceiving.{CompletesHeader}

-- of the piece so much is put behind what was kept
module _ (kept piece : List ℕ) (front : ℕ) (le : front ≤ length piece) where
  put_size : length (kept ++ take front piece) ≡ length kept + front
  put_size = length-append kept (take front piece) ∙ ap (λ n. length kept + n) (length-take-le front piece le)

  all_size : length (kept ++ piece) ≡ length kept + length piece
  all_size = length-append kept piece

  put_is : take (length kept + front) (kept ++ piece) ≡ kept ++ take front piece
  put_is = take-append-add kept piece front

  same_front : (n : ℕ) → n ≤ length kept + front → take n (kept ++ take front piece) ≡ take n (kept ++ piece)
  same_front n within = ap (λ (l : List ℕ). take n l) (sym put_is) ∙ take-take n (length kept + front) (kept ++ piece) within

  -- a header there ends behind what was kept
  pub past_kept : (h : HeaderFields) (n : ℕ) → BeginsNoHeader kept → Begins h n (kept ++ take front piece) → length kept ≤ n
  past_kept h n none b = elim (cases_lt n (length kept)) [
    | inr le ↦ le
    | inl less ↦
        let at : take n (kept ++ take front piece) ≡ take n kept = take-append-le n kept (take front piece) (omega (arith, less)) in
        absurd (none h (take n kept) (drop n kept) (subst (λ (l : List ℕ). IsHeaderOf h l) at b.front) (sym (take-append-drop n kept)))
  ]

  pub cut_header_ends : (h : HeaderFields) (n : ℕ) → BeginsNoHeader kept → Begins h n (kept ++ take front piece)
      → CompletesHeader kept piece h (n - length kept)
  cut_header_ends h n none b =
      let past = past_kept h n none b in
      let whole : n ≡ length kept + (n - length kept) = omega (arith, past) in
      let begins : Begins h n (kept ++ piece) = record {
        within = omega (arith, b.within, put_size, all_size, le);
        front = subst (λ (l : List ℕ). IsHeaderOf h l) (same_front n (omega (arith, b.within, put_size))) b.front;
      } in
      record { begins = subst (λ k. Begins h k (kept ++ piece)) whole begins; within = omega (arith, b.within, put_size, le) }

  -- where none stands there the piece completes none
  pub cut_none : ((bytes : List ℕ) → AreBytes bytes → BeginsNoHeader bytes → length bytes < 14) → AreBytes kept
      → AreBytes piece → (front < length piece → length kept + front ≡ 14) → BeginsNoHeader (kept ++ take front piece)
      → BeginsNoHeader (kept ++ piece)
  cut_none law k p full none = elim (cases_lt front (length piece)) [
    | inl less ↦
        let few = law (kept ++ take front piece) (bytes_append kept (take front piece) k (front_bytes front piece p)) none in
        absurd (omega (arith, few, put_size, full less))
    | inr all ↦ subst (λ (l : List ℕ). BeginsNoHeader (kept ++ l)) (take_all front piece all) none
  ]

-- where nothing was kept the piece alone counts
pub header_at_front : (kept piece : List ℕ) (h : HeaderFields) (n : ℕ) → kept ≡ [] → Begins h n piece → CompletesHeader kept piece h n
header_at_front kept piece h n e b =
    let same : n ≡ 0 + n = omega arith in
    subst (λ (l : List ℕ). CompletesHeader l piece h n) (sym e) (record { begins = subst (λ k. Begins h k piece) same b; within = b.within })

pub none_at_front : (kept piece : List ℕ) → kept ≡ [] → BeginsNoHeader piece → BeginsNoHeader (kept ++ piece)
none_at_front kept piece e none = subst (λ (l : List ℕ). BeginsNoHeader (l ++ piece)) (sym e) none
