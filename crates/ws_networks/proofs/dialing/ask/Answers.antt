-- It is made, or under way still; or its address has taken none, and the next ones are tried.
use Rattle.std.proofs.Common.{◌∙◌, [], subst, sym}
use Rattle.std.proofs.lemmas.Option.{slice_get_within}
use Rattle.ws_networks.specs.Connecting.{IfTried}
use Rattle.ws_networks.specs.declared.dialing.Tried.{Tried}
use Rattle.ws_networks.specs.declared.dialing.Tried.TheVariants as tried
use Rattle.ws_networks.proofs.DialLemmas.{AskedSo, ask_made, ask_next, ask_waits, asked_so}
use Rattle.ws_networks.proofs.TryLemmas.{fresh_so}
use Rattle.ws_networks.proofs.dialing.ask.Goals as goal

pub returns-in-Made-clause-dialled : goal.returns-in-Made-clause-dialled
returns-in-Made-clause-dialled g c =
    let dial = c.args.dial in
    let p = c.progress-progress.result in
    let so : AskedSo g.N.Network.did c.args.at c.args.now dial p c.outcome_of.result =
    subst (λ (t : Tried g.row.N-Stream.Denot g.row.N-Miss.Denot). AskedSo g.N.Network.did c.args.at c.args.now dial p t)
    (sym c.outcome_of.ensures) (asked_so g.N.Network.did c.args.at c.args.now dial p c.is_given_up.result
    c.is_given_up.ensures) in
    let known : AskedSo g.N.Network.did c.args.at c.args.now dial p (tried.Made c.in-Made.stream) =
    subst (λ (t : Tried g.row.N-Stream.Denot g.row.N-Miss.Denot). AskedSo g.N.Network.did c.args.at c.args.now dial p t)
    c.in-Made.is so in
    ask_made g.N.Network.did c.args.at c.args.now dial p c.in-Made.stream c.args.network.now c.progress-progress.new.self
    c.progress-progress.ensures known

pub returns-in-Waits-clause-dialled : goal.returns-in-Waits-clause-dialled
returns-in-Waits-clause-dialled g c =
    let dial = c.args.dial in
    let p = c.progress-progress.result in
    let so : AskedSo g.N.Network.did c.args.at c.args.now dial p c.outcome_of.result =
    subst (λ (t : Tried g.row.N-Stream.Denot g.row.N-Miss.Denot). AskedSo g.N.Network.did c.args.at c.args.now dial p t)
    (sym c.outcome_of.ensures) (asked_so g.N.Network.did c.args.at c.args.now dial p c.is_given_up.result
    c.is_given_up.ensures) in
    let known : AskedSo g.N.Network.did c.args.at c.args.now dial p (tried.Waits c.in-Waits.stream) =
    subst (λ (t : Tried g.row.N-Stream.Denot g.row.N-Miss.Denot). AskedSo g.N.Network.did c.args.at c.args.now dial p t)
    c.in-Waits.is so in
    ask_waits g.N.Network.did c.args.at c.args.now dial p c.in-Waits.stream c.args.network.now
    c.progress-progress.new.self c.progress-progress.ensures known

pub returns-in-Missed-clause-dialled : goal.returns-in-Missed-clause-dialled
returns-in-Missed-clause-dialled g c =
    let dial = c.args.dial in
    let p = c.progress-progress.result in
    let so : AskedSo g.N.Network.did c.args.at c.args.now dial p c.outcome_of.result =
    subst (λ (t : Tried g.row.N-Stream.Denot g.row.N-Miss.Denot). AskedSo g.N.Network.did c.args.at c.args.now dial p t)
    (sym c.outcome_of.ensures) (asked_so g.N.Network.did c.args.at c.args.now dial p c.is_given_up.result
    c.is_given_up.ensures) in
    let known : AskedSo g.N.Network.did c.args.at c.args.now dial p (tried.Missed c.in-Missed.why) =
    subst (λ (t : Tried g.row.N-Stream.Denot g.row.N-Miss.Denot). AskedSo g.N.Network.did c.args.at c.args.now dial p t)
    c.in-Missed.is so in
    ask_next g.N.Network.did c.args.at c.args.now dial p c.in-Missed.why c.past.result c.try_next.result
    c.args.network.now c.progress-progress.new.self c.try_next.new.network c.progress-progress.ensures known
    c.past.ensures c.try_next.ensures.dialled

pub returns-in-Made-clause-fresh : goal.returns-in-Made-clause-fresh
returns-in-Made-clause-fresh g c =
    subst (λ (t : Tried g.row.N-Stream.Denot g.row.N-Miss.Denot). IfTried t (λ s. g.N.Stream.NonBlocking.did s s []))
    (sym c.outcome_of.ensures ∙ c.in-Made.is) (fresh_so (λ s. g.N.Stream.NonBlocking.did s s []) c.args.dial.stream
    c.progress-progress.result c.is_given_up.result c.requires.fresh)

pub returns-in-Waits-clause-fresh : goal.returns-in-Waits-clause-fresh
returns-in-Waits-clause-fresh g c =
    subst (λ (t : Tried g.row.N-Stream.Denot g.row.N-Miss.Denot). IfTried t (λ s. g.N.Stream.NonBlocking.did s s []))
    (sym c.outcome_of.ensures ∙ c.in-Waits.is) (fresh_so (λ s. g.N.Stream.NonBlocking.did s s []) c.args.dial.stream
    c.progress-progress.result c.is_given_up.result c.requires.fresh)

pub past-requires : goal.past-requires
past-requires g c = slice_get_within c.args.dial.tries.addresses.items c.args.dial.tries.missed c.requires.within.0
    c.requires.within.1
