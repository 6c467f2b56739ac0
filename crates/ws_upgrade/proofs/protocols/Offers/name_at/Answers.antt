-- The name at a place of a list of names is one, and it is the one there.
use Rattle.std.proofs.Common.{◌≡◌, ◌∙◌, sym, ap, subst, refl, List, ℕ, Bor, Some, None, slice_get}
use Rattle.std.proofs.lemmas.Option.{slice_get-map, slice_get_past}
use Rattle.ws_upgrade.specs.Protocols.{IsProtocolName}
use Rattle.ws_upgrade.proofs.ProtocolLemmas.{All-unmap, text_at}
use Rattle.ws_upgrade.proofs.protocols.Offers.name_at.Goals as goal

pub proved-requires : goal.proved-requires
proved-requires c =
    let now = (λ (name : Bor (List ℕ)). name.now) in
    let found = c.in-Some.ensures.lookup.3 in
    subst (λ (name : Bor (List ℕ)). IsProtocolName name.now) (sym (found.1 c.in-Some.name.now))
    (All-unmap IsProtocolName now c.self.inside.names.now c.self.invariant.valid c.args.place c.in-Some.name.now found.0)

pub returns-in-Some : goal.returns-in-Some
returns-in-Some c =
    let now = (λ (name : Bor (List ℕ)). name.now) in
    let found = c.in-Some.ensures.lookup.3 in
    rw (← c.self.view_is, c.proved.ensures)
    (ap (λ (name : Bor (List ℕ)). Some name.now) (found.1 c.in-Some.name.now)
    ∙ sym (text_at now c.self.inside.names.now c.args.place c.in-Some.name.now found.0))

pub returns-in-None : goal.returns-in-None
returns-in-None c =
    let none : slice_get c.self.inside.names.now c.args.place ≡ None =
    slice_get_past c.self.inside.names.now c.args.place c.in-None.ensures.lookup.3 in
    rw (← c.self.view_is, slice_get-map, none) refl
