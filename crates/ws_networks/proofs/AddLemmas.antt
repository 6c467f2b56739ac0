-- What a network did: nothing more, and one list of things after the other.
use Rattle.std.proofs.Common.{List, [], ◌++◌, sym, subst, append_assoc, append-nil}
use Rattle.ws_networks.specs.Networks.{HasAdded}

module _ {N D : Type 0} (did : N → N → List D → Type 0) where
  pub added_none : (a : N) → HasAdded did a a []
  added_none a = λ start deeds x. subst (λ (l : List D). did start a l) (sym (append-nil deeds)) x

  pub added_then : (a b c : N) (one other : List D) → HasAdded did a b one → HasAdded did b c other
      → HasAdded did a c (one ++ other)
  added_then a b c one other h k = λ start deeds x. subst (λ (l : List D). did start c l) (append_assoc deeds one other)
      (k start (deeds ++ one) (h start deeds x))
