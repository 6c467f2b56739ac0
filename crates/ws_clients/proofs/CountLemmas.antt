-- A listener of which so many clients are taken: what it did is told, and nothing behind the last of them.
use Rattle.std.proofs.Common.{◌≡◌, ◌∙◌, ℕ, ◌+◌, ◌<◌, ◌⊎◌, List, [], ◌∷◌, ◌++◌, refl, Option, Some, None, sym, ap, subst, arith}
use Rattle.std.proofs.Common.{inl, inr, replicate, append_assoc, append-nil, suc, zero}
use Rattle.std.proofs.lemmas.Option.{none-some, same_Some}
use Rattle.ws_loops.specs.Listeners.{AcceptDeed, HasHeard, accept_deed}
use Rattle.ws_loops.specs.Listeners.AcceptDeed.{HadNoClient}
use Rattle.ws_loops.specs.declared.listener.TryAccept.{TryAccept}
use Rattle.ws_loops.specs.declared.listener.TryAccept.TheVariants as accept
use Rattle.ws_clients.specs.Counting.{CountedValue, HasCounted, IsLeftBehind, IsLeftOf}
use Rattle.ws_clients.specs.Numbers.{clients_given}
use Rattle.ws_clients.proofs.NumberLemmas.{given_then, heard_then}

one_more : {W : Type 0} (deed : AcceptDeed W) (n : ℕ) → replicate n deed ++ deed ∷ [] ≡ replicate (suc n) deed
one_more deed zero = refl
one_more {W} deed (suc n) = ap (λ (l : List (AcceptDeed W)). deed ∷ l) (one_more deed n)

-- so many are left behind one more that was asked for
left_more : {S W : Type 0} (before : Option ℕ) (given left : ℕ) (at : ℕ) (got : TryAccept S W) (after : Option ℕ)
    → IsLeftBehind before given (Some left) → IsLeftOf left got after
    → IsLeftBehind before (given + clients_given (accept_deed at got ∷ [])) after
left_more None given left at got after behind of = absurd (none-some left (sym behind))
left_more (Some most) given left at (accept.Client stream) after (l, is, sum) (rest, rest_is, one) =
    (rest, rest_is, omega (arith, sum, one, same_Some left l is))
left_more (Some most) given left at (accept.Lost why) after (l, is, sum) of =
    (left, of, omega (arith, sum, same_Some left l is))
left_more (Some most) given left at (accept.Failed why) after (l, is, sum) of =
    (left, of, omega (arith, sum, same_Some left l is))
left_more (Some most) given left at accept.NotReady after (l, is, sum) of =
    (left, of, omega (arith, sum, same_Some left l is))

none_more : (before : Option ℕ) (given more : ℕ) (now after : Option ℕ) → now ≡ None → after ≡ None
    → IsLeftBehind before given now → IsLeftBehind before (given + more) after
none_more None given more now after none also behind = also
none_more (Some most) given more now after none also (l, is, sum) = absurd (none-some l (sym none ∙ is))

module _ {L W : Type 0} (did : L → L → List (AcceptDeed W) → Type 0) (start now : CountedValue L)
    (told : List (AcceptDeed W)) (h : HasCounted did start now told) where
  -- it isn't asked where no more may be taken
  pub closed_more : now.left ≡ Some 0 → HasCounted did start now (told ++ HadNoClient ∷ [])
  closed_more closed = record {
    deeds = h.deeds;
    heard = h.heard;
    left = h.left;
    unasked = suc h.unasked;
    all = ap (λ (l : List (AcceptDeed W)). l ++ HadNoClient ∷ []) h.all
        ∙ (append_assoc h.deeds (replicate h.unasked HadNoClient) (HadNoClient ∷ [])
        ∙ ap (λ (l : List (AcceptDeed W)). h.deeds ++ l) (one_more HadNoClient h.unasked));
    closed = inr closed;
  }

  -- all was asked for so far
  asked_all : (now.left ≡ Some 0 → ⊥) → told ≡ h.deeds
  asked_all more = by h.closed
    where
      by : (h.unasked ≡ 0) ⊎ (now.left ≡ Some 0) → told ≡ h.deeds
      by (inl none) = h.all ∙ (ap (λ (n : ℕ). h.deeds ++ replicate n HadNoClient) none ∙ append-nil h.deeds)
      by (inr closed) = absurd (more closed)

  asked_more : (next : CountedValue L) (deed : AcceptDeed W) → (now.left ≡ Some 0 → ⊥)
      → HasHeard did now.listener next.listener (deed ∷ [])
      → IsLeftBehind start.left (clients_given (h.deeds ++ deed ∷ [])) next.left
      → HasCounted did start next (told ++ deed ∷ [])
  asked_more next deed more heard left = record {
    deeds = h.deeds ++ deed ∷ [];
    heard = heard_then did start.listener now.listener next.listener h.deeds (deed ∷ []) h.heard heard;
    left = left;
    unasked = 0;
    all = ap (λ (l : List (AcceptDeed W)). l ++ deed ∷ []) (asked_all more) ∙ sym (append-nil (h.deeds ++ deed ∷ []));
    closed = inl refl;
  }

  -- one more was asked for, of those that are counted
  pub counted_more : {S : Type 0} (next : CountedValue L) (left at : ℕ) (got : TryAccept S W) → now.left ≡ Some left
      → 0 < left → HasHeard did now.listener next.listener (accept_deed at got ∷ []) → IsLeftOf left got next.left
      → HasCounted did start next (told ++ accept_deed at got ∷ [])
  counted_more next left at got is some heard of = asked_more next (accept_deed at got)
      (λ closed. absurd (omega (arith, some, same_Some left 0 (sym is ∙ closed)))) heard
      (subst (λ (n : ℕ). IsLeftBehind start.left n next.left) (sym (given_then h.deeds (accept_deed at got ∷ [])))
      (left_more start.left (clients_given h.deeds) left at got next.left
      (subst (λ (o : Option ℕ). IsLeftBehind start.left (clients_given h.deeds) o) is h.left) of))

  -- and where they aren't counted
  pub uncounted_more : {S : Type 0} (next : CountedValue L) (at : ℕ) (got : TryAccept S W) → now.left ≡ None
      → next.left ≡ None → HasHeard did now.listener next.listener (accept_deed at got ∷ [])
      → HasCounted did start next (told ++ accept_deed at got ∷ [])
  uncounted_more next at got none also heard = asked_more next (accept_deed at got)
      (λ closed. none-some 0 (sym none ∙ closed)) heard
      (subst (λ (n : ℕ). IsLeftBehind start.left n next.left) (sym (given_then h.deeds (accept_deed at got ∷ [])))
      (none_more start.left (clients_given h.deeds) (clients_given (accept_deed at got ∷ [])) now.left next.left none also
      h.left))
