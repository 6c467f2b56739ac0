-- Both streams are closed, and the end is told.
use Rattle.std.proofs.Common.{◌≡◌, ◌∙◌, ◌+◌, ◌<◌, List, ap, length, refl, rules, slice_set, subst, sym, ℕ}
use Rattle.ws_relays.specs.EndPlaces.{EndThere, FreePlace, KeptPlace}
use Rattle.ws_relays.proofs.RelayWork.{client_within, end_stands, server_within, within_pairs}
use Rattle.ws_relays.proofs.relays.Relays.end.Goals as goal

pub close-requires : goal.close-requires
close-requires g c =
    let (tapping, all, stood) = c.requires.stood in
    let len : c.len.result ≡ length c.args.self.now.pairs.items = search rules in
    subst (λ (k : ℕ). k + c.args.at < length c.args.self.now.ends) (sym len)
    (server_within g.S.NonBlocking.did tapping c.args.self.now c.args.at c.args.number all stood.0)

pub free-requires : goal.free-requires
free-requires g c =
    let (tapping, all, stood) = c.requires.stood in
    client_within g.S.NonBlocking.did tapping c.args.self.now c.args.at c.args.number _ KeptPlace c.close.new.self all
    c.close.ensures.kept stood.0

pub index_mut-requires : goal.index_mut-requires
index_mut-requires g c =
    let (tapping, all, stood) = c.requires.stood in
    let less : c.args.at < length c.args.self.now.pairs.items =
    within_pairs g.S.NonBlocking.did tapping c.args.self.now c.args.at c.args.number all stood.0 in
    search (rules, less)

pub returns-clause-stands : goal.returns-clause-stands
returns-clause-stands g c = λ tapping all stood.
    let len : c.len.result ≡ length c.args.self.now.pairs.items = search rules in
    end_stands g.S.NonBlocking.did tapping c.args.self.now _ c.args.at c.args.number c.args.end all (record {
      style = refl;
      server = refl;
      time = refl;
      ends = c.free.ensures.free ∙ ap (λ (l : List (EndThere g.row.S.Denot)). slice_set l c.args.at FreePlace)
          (c.close.ensures.kept ∙ ap (λ (k : ℕ). slice_set c.args.self.now.ends (k + c.args.at) KeptPlace)
          (len ∙ stood.0.1.pairs.many));
      pairs = refl;
      taken = refl;
      there = c.saturating_sub-self.ensures;
    }) stood
