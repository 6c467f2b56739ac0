-- All peers have one mark, where they have that of the first.
use Rattle.std.proofs.Common.{◌≡◌, ℕ, ◌≤◌, List, [], ◌∷◌, length, get_or, ap, arith}
use Rattle.ws_runs.specs.Runs.{PeerValue}
use Rattle.ws_pages.specs.Page.{have_mark, is_same, mark_at}

pub same_as_first : (peers : List PeerValue) (id : List ℕ) (first : PeerValue) → 1 ≤ length peers
    → first ≡ get_or peers 0 first → have_mark peers id (mark_at id first) ≡ is_same peers id
same_as_first [] id first some is = absurd (omega (arith, some))
same_as_first (peer ∷ peers) id first some is = ap (λ (p : PeerValue). have_mark (peer ∷ peers) id (mark_at id p)) is
