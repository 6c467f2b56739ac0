-- An authority goes up to the first byte that ends one, or to the end, and the rest is what is asked for.
use Rattle.std.proofs.Common.{rules, ◌∙◌, ap, sym, ℕ, take, drop}
use Rattle.std.proofs.lemmas.List.{drop_all, take_all}
use Rattle.std.specs.List.{position_or_len}
use Rattle.ws_targets.specs.Targets.{ends_authority}
use Rattle.ws_targets.proofs.Cuts.{ends_at, ends_nowhere}
use Rattle.ws_targets.proofs.target.cut_authority.Goals as goal

pub returns-in-Some : goal.returns-in-Some
returns-in-Some c =
    let at = ends_at c.args.rest.now c.in-Some.end (search rules) in
    record {
      authority = c.split_at.ensures.front ∙ ap (λ (n : ℕ). take n c.args.rest.now) (sym at);
      resource = c.split_at.ensures.back ∙ ap (λ (n : ℕ). drop n c.args.rest.now) (sym at);
    }

pub returns-in-None : goal.returns-in-None
returns-in-None c =
    let beyond = ends_nowhere c.args.rest.now (search rules) in
    record {
      authority = sym (take_all (position_or_len ends_authority c.args.rest.now) c.args.rest.now beyond);
      resource = sym (drop_all (position_or_len ends_authority c.args.rest.now) c.args.rest.now beyond);
    }
