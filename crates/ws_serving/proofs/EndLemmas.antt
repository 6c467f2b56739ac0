-- The ends of clients that were told, and their numbers.
use Rattle.std.proofs.Common.{◌≡◌, ◌∙◌, ◌+◌, ◌++◌, ◌≤◌, ◌<◌, ℕ, List, [], ◌∷◌, length, ap, sym, refl, arith}
use Rattle.std.proofs.Common.{replicate, suc, zero}
use Rattle.std.specs.List.{All}
use Rattle.std.proofs.lemmas.List.Elements.{All-head, All-nil, All-push, All-tail}
use Rattle.ws_loops.specs.Listeners.{AcceptDeed}
use Rattle.ws_loops.specs.Listeners.AcceptDeed.{CouldNotGive, GaveClient, HadNoClient, LostClient}
use Rattle.ws_clients.specs.Numbers.{clients_given, reasons_given}
use Rattle.ws_serving.specs.EndNumbers.{AreEndNumbers, AreOfThere, AreOnce, numbers_of}
use Rattle.ws_serving.specs.News.{ends_in, fulls_in}
use Rattle.ws_serving.specs.declared.client_end.ClientEnd.{ClientEnd}
use Rattle.ws_serving.specs.declared.news_sink.News.{News}
use Rattle.ws_serving.specs.declared.news_sink.News.TheVariants.{Ended, Full}

-- ---- what was told, and once more

pub ends_push : (news : List News) (n : ℕ) (end : ClientEnd)
    → ends_in (news ++ Ended n end ∷ []) ≡ ends_in news ++ (n, end) ∷ []
ends_push [] n end = refl
ends_push (Ended m other ∷ news) n end = ap (λ (l : List (ℕ × ClientEnd)). (m, other) ∷ l) (ends_push news n end)
ends_push (Full ∷ news) n end = ends_push news n end

pub ends_full : (news : List News) → ends_in (news ++ Full ∷ []) ≡ ends_in news
ends_full [] = refl
ends_full (Ended m other ∷ news) = ap (λ (l : List (ℕ × ClientEnd)). (m, other) ∷ l) (ends_full news)
ends_full (Full ∷ news) = ends_full news

pub fulls_push : (news : List News) (n : ℕ) (end : ClientEnd) → fulls_in (news ++ Ended n end ∷ []) ≡ fulls_in news
fulls_push [] n end = refl
fulls_push (Ended m other ∷ news) n end = fulls_push news n end
fulls_push (Full ∷ news) n end = ap (λ (k : ℕ). 1 + k) (fulls_push news n end)

pub fulls_full : (news : List News) → fulls_in (news ++ Full ∷ []) ≡ 1 + fulls_in news
fulls_full [] = refl
fulls_full (Ended m other ∷ news) = fulls_full news
fulls_full (Full ∷ news) = ap (λ (k : ℕ). 1 + k) (fulls_full news)

pub numbers_push : (ends : List (ℕ × ClientEnd)) (n : ℕ) (end : ClientEnd)
    → numbers_of (ends ++ (n, end) ∷ []) ≡ numbers_of ends ++ n ∷ []
numbers_push [] n end = refl
numbers_push (first ∷ ends) n end = ap (λ (l : List ℕ). first.0 ∷ l) (numbers_push ends n end)

pub count_push : (ends : List (ℕ × ClientEnd)) (end : ℕ × ClientEnd) → length (ends ++ end ∷ []) ≡ 1 + length ends
count_push [] end = refl
count_push (first ∷ ends) end = omega (arith, count_push ends end)

pub numbers_len : (ends : List (ℕ × ClientEnd)) → length (numbers_of ends) ≡ length ends
numbers_len [] = refl
numbers_len (first ∷ ends) = omega (arith, numbers_len ends)

-- ---- their numbers

-- this is none of these
abbrev pub Differs : ℕ → ℕ → Type 0
Differs n m = m ≡ n → ⊥

once_push : (ns : List ℕ) (n : ℕ) → AreOnce ns → All (Differs n) ns → AreOnce (ns ++ n ∷ [])
once_push [] n once far = (All-nil (Differs n), tt)
once_push (m ∷ ns) n once far = (
  All-push (Differs m) ns n once.0 (λ same. All-head (Differs n) m ns far (sym same)),
  once_push ns n once.1 (All-tail (Differs n) m ns far),
)

there_push : (b at_once : ℕ) (ns : List ℕ) (n : ℕ) → AreOfThere b at_once ns → n ≤ b + length ns + at_once
    → AreOfThere b at_once (ns ++ n ∷ [])
there_push b at_once [] n there few = (omega (arith, few), tt)
there_push b at_once (m ∷ ns) n there few =
    (there.0, there_push (b + 1) at_once ns n there.1 (omega (arith, few)))

-- so many have come
abbrev IsGivenOf : ℕ → ℕ → Type 0
IsGivenOf came n = (1 ≤ n) × (n ≤ came)

given_more : (came now : ℕ) (ns : List ℕ) → came ≤ now → All (IsGivenOf came) ns → All (IsGivenOf now) ns
given_more came now ns more given k d below =
    let is = given k d below in (is.0, omega (arith, is.1, more))

-- more clients come
pub numbers_later : (at_once came now : ℕ) (ns : List ℕ) → came ≤ now → AreEndNumbers at_once came ns
    → AreEndNumbers at_once now ns
numbers_later at_once came now ns more h =
    record { given = given_more came now ns more h.given; once = h.once; there = h.there }

-- one more has ended
pub numbers_ended : (at_once came : ℕ) (ns : List ℕ) (n : ℕ) → AreEndNumbers at_once came ns → 1 ≤ n → n ≤ came
    → All (Differs n) ns → n ≤ length ns + at_once → AreEndNumbers at_once came (ns ++ n ∷ [])
numbers_ended at_once came ns n h first last far few = record {
  given = All-push (IsGivenOf came) ns n h.given (first, last);
  once = once_push ns n h.once far;
  there = there_push 0 at_once ns n h.there (omega (arith, few));
}

-- nobody has
pub numbers_none : (at_once came : ℕ) → AreEndNumbers at_once came []
numbers_none at_once came = record { given = All-nil (IsGivenOf came); once = tt; there = tt }

-- ---- what the listener did

pub given_none : {W : Type 0} (deeds : List (AcceptDeed W)) (n : ℕ)
    → clients_given (deeds ++ replicate n HadNoClient) ≡ clients_given deeds
given_none [] zero = refl
given_none [] (suc n) = given_none [] n
given_none (GaveClient at ∷ deeds) n = ap (λ (k : ℕ). 1 + k) (given_none deeds n)
given_none (LostClient why ∷ deeds) n = given_none deeds n
given_none (CouldNotGive why ∷ deeds) n = given_none deeds n
given_none (HadNoClient ∷ deeds) n = given_none deeds n

pub reasons_none : {W : Type 0} (deeds : List (AcceptDeed W)) (n : ℕ)
    → reasons_given (deeds ++ replicate n HadNoClient) ≡ reasons_given deeds
reasons_none [] zero = refl
reasons_none [] (suc n) = reasons_none [] n
reasons_none (GaveClient at ∷ deeds) n = reasons_none deeds n
reasons_none (LostClient why ∷ deeds) n = reasons_none deeds n
reasons_none {W} (CouldNotGive why ∷ deeds) n = ap (λ (l : List W). why ∷ l) (reasons_none deeds n)
reasons_none (HadNoClient ∷ deeds) n = reasons_none deeds n

pub reasons_more : {W : Type 0} (one other : List (AcceptDeed W))
    → reasons_given (one ++ other) ≡ reasons_given one ++ reasons_given other
reasons_more [] other = refl
reasons_more (GaveClient at ∷ one) other = reasons_more one other
reasons_more (LostClient why ∷ one) other = reasons_more one other
reasons_more {W} (CouldNotGive why ∷ one) other = ap (λ (l : List W). why ∷ l) (reasons_more one other)
reasons_more (HadNoClient ∷ one) other = reasons_more one other
