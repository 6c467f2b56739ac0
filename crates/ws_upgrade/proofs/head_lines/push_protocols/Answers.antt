-- The line of subprotocols has its header's name, the first of them, and the others behind commas.
use Rattle.std.proofs.Common.{rules, ◌≡◌, ◌++◌, ◌∷◌, sym, subst, List, ℕ, Bor, map, codes}
use Rattle.std.specs.List.{flat_map}
use Rattle.ws_upgrade.specs.Texts.{line_end, lines_bytes, protocol_lines}
use Rattle.ws_upgrade.proofs.Lines.{named_line}
use Rattle.ws_upgrade.proofs.head_lines.push_protocols.Goals as goal

pub returns : goal.returns
returns c =
    let now = (λ (other : Bor (List ℕ)). other.now) in
    let parts : c.args.names.now ≡ c.in-Some.first.now ∷ c.in-Some.others.now = search rules in
    subst (λ (names : List (Bor (List ℕ))). c.extend_from_slice-4.new.self.items ≡ c.args.text.now.items ++ lines_bytes (protocol_lines (map now names))) (sym parts)
    (named_line c.args.text.now.items c.extend_from_slice.new.self.items c.extend_from_slice-2.new.self.items c.extend_from_slice-3.new.self.items
    c.push_others.new.text.items c.extend_from_slice-4.new.self.items
    (codes "Sec-WebSocket-Protocol") (codes ": ") c.in-Some.first.now.now
    (flat_map (λ name. codes ", " ++ name) (map now c.in-Some.others.now)) line_end
    c.in_ok-extend_from_slice.ensures.items c.in_ok-extend_from_slice-2.ensures.items c.in_ok-extend_from_slice-3.ensures.items
    c.in_ok-push_others.ensures c.in_ok-extend_from_slice-4.ensures.items)
