-- What has happened at an end is told to the tap of its connection.
use Rattle.std.proofs.Common.{◌≡◌, ◌∙◌, ◌+◌, ◌<◌, Some, ap, length, refl, rules, subst, sym, ℕ}
use Rattle.ws_relays.specs.InnerRelays.{StoodUntil, end_at}
use Rattle.ws_relays.specs.declared.ends.EndEvent.TheVariants as came
use Rattle.ws_relays.specs.declared.relays.Pair.{Pair}
use Rattle.ws_relays.proofs.RelayEvents.{happened_at, happened_passes, happened_within, never_other, telling_all}
use Rattle.ws_relays.proofs.relays.Relays.go_on.Goals as goal

pub end_at-at-requires : goal.end_at-at-requires
end_at-at-requires g c =
    let (tapping, all, stood) = c.requires.stood in
    let len : c.len.result ≡ length c.args.self.now.pairs.items = search rules in
    subst (λ (k : ℕ). c.args.place < k + k) (sym len)
    (happened_within g.S.NonBlocking.did tapping c.args.self.now c.args.place c.args.happened all stood)

pub pair_of-requires : goal.pair_of-requires
pair_of-requires g c =
    let (tapping, all, stood) = c.requires.stood in
    let len : c.len.result ≡ length c.args.self.now.pairs.items = search rules in
    (happened_at g.S.NonBlocking.did tapping c.args.self.now c.args.place c.args.happened c.end_at-at.result all
    (c.end_at-at.ensures.end ∙ ap (λ (k : ℕ). end_at k c.args.place) len) stood).1

pub pass_on-requires-clause-stood : goal.pass_on-requires-clause-stood
pass_on-requires-clause-stood g c =
    let (tapping, all, stood) = c.requires.stood in
    let len : c.len.result ≡ length c.args.self.now.pairs.items = search rules in (
      tapping,
      all,
      happened_passes g.S.NonBlocking.did tapping c.args.self.now _ c.args.place c.args.happened c.end_at-at.result
          c.in-Joined.relay all (c.end_at-at.ensures.end ∙ ap (λ (k : ℕ). end_at k c.args.place) len)
          (c.pair_of.ensures.taken ∙ ap (λ (p : Pair g.row.A.Denot g.row.S.Denot g.row.W.Denot). Some p) c.in-Joined.is)
          (record {
            style = refl;
            server = refl;
            time = refl;
            ends = refl;
            pairs = c.pair_of.ensures.free;
            taken = refl;
            there = refl;
          }) stood,
    )

pub returns-in-Joined-clause-goes : goal.returns-in-Joined-clause-goes
returns-in-Joined-clause-goes g c =
    let len : c.len.result ≡ length c.args.self.now.pairs.items = search rules in
    telling_all g.S.NonBlocking.did
    (StoodUntil g.S.NonBlocking.did c.args.self.now (came.Happened c.args.place c.args.happened)) _ _ _ _
    c.pass_on.result (λ tapping all stood. happened_passes g.S.NonBlocking.did tapping c.args.self.now _ c.args.place
    c.args.happened c.end_at-at.result c.in-Joined.relay all
    (c.end_at-at.ensures.end ∙ ap (λ (k : ℕ). end_at k c.args.place) len)
    (c.pair_of.ensures.taken ∙ ap (λ (p : Pair g.row.A.Denot g.row.S.Denot g.row.W.Denot). Some p) c.in-Joined.is)
    (record {
      style = refl;
      server = refl;
      time = refl;
      ends = refl;
      pairs = c.pair_of.ensures.free;
      taken = refl;
      there = refl;
    }) stood) c.pass_on.ensures.goes

pub returns-in-Free : goal.returns-in-Free
returns-in-Free g c =
    let (tapping, all, stood) = c.requires.stood in
    let len : c.len.result ≡ length c.args.self.now.pairs.items = search rules in
    absurd (never_other g.S.NonBlocking.did tapping c.args.self.now c.args.place c.args.happened c.end_at-at.result
    c.pair_of.result all (c.end_at-at.ensures.end ∙ ap (λ (k : ℕ). end_at k c.args.place) len)
    c.pair_of.ensures.taken stood c.in-Free.is)
