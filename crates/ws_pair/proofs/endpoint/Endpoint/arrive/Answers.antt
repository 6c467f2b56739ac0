-- The bytes that come are the next of those that the other end has put, and the end has then taken so many more.
use Rattle.std.proofs.Common.{ℕ, ◌+◌, ◌-◌, ◌≤◌, List, sym, ◌∙◌, arith, subst, length, take, drop}
use Rattle.ws_pair.specs.InnerPlaying.{IsEnd, IsNextIn, grown}
use Rattle.ws_pair.proofs.Bytes.{slice_is_next, comes_within, comes_uncut}
use Rattle.ws_pair.proofs.endpoint.Endpoint.arrive.Goals as goal

pub returns-clause-arrived : goal.returns-clause-arrived
returns-clause-arrived c = λ role limits x xs is peers all.
    let n = c.args.self.now.reached in
    let count = c.arriving-count.result in
    let others = c.args.others.now in
    let fits : n + count ≤ length others = comes_within c.args.self.now.is_cut n count c.args.bytes (length others) c.requires.reached c.arriving-count.ensures in
    let next = slice_is_next others n count (λ i. omega (arith, c.type_inv.others i)) fits in
    subst (λ k. IsEnd role limits (grown role limits x xs k c.args.key) xs c.deliver.new.self) next.0
    (c.in_ok-deliver.ensures role limits x xs is peers
    (subst (λ (l : List ℕ). IsNextIn l x.reached (take (n + count - n) (drop n others))) all (subst (λ k. IsNextIn others k (take (n + count - n) (drop n others))) is.reached next.1))
    (λ some. sym is.is_cut ∙ comes_uncut c.args.self.now.is_cut count c.args.bytes (length others - n) c.arriving-count.ensures (omega (arith, some, next.0))))
