-- What is chosen of the members that are left is chosen of all.
use Rattle.std.proofs.Common.{ℕ, Option, map}
use Rattle.ws_upgrade.specs.Members.{members_of}
use Rattle.ws_upgrade.specs.Protocols.{IsChoice}
use Rattle.ws_upgrade.proofs.headers.Headers.first_known.Given as goal

abbrev pub invariant-loop-member : goal.invariant-loop-member
invariant-loop-member l =
    (choice : Option ℕ) → IsChoice (map (λ other. other.now) l.known) l.member-iterator choice
    → IsChoice (map (λ other. other.now) l.known) (members_of l.name l.self) choice
