-- Each option was judged, and the connection is made where the words say.
use Rattle.std.proofs.Common.{rules, ◌≡◌, ℕ, List, refl, subst, sym}
use Rattle.std.proofs.lemmas.Result.{err_from_is_err_and}
use Rattle.ws_formats.specs.Words.{IsKeyWord}
use Rattle.ws_connection.specs.Protocols.{protocols_given}
use Rattle.ws_connection.specs.RequestHeaders.{headers_in}
use Rattle.wst_testing.specs.RunPlans.{CanConnect, FitsRole, HasHeaders, HasOffers, header_words}
use Rattle.wst_testing.specs.RunPlans.{RefusesTarget}
use Rattle.wst_commands.specs.TimeLimits.{GivesDeadline, GivesRunTimeout}
use Rattle.wst_commands.specs.declared.time_limit.TimeLimit.{TimeLimit}
use Rattle.wst_testing.specs.declared.run_plans.Refusal.{Refusal}
use Rattle.wst_testing.proofs.PlanLemmas.{deadline_refused, end_refused, has_deadline, has_timeout, has_wait, wait_refused}
use Rattle.wst_testing.proofs.run_plans.plan_run.Goals as goal

pub returns : goal.returns
returns c =
    let options = c.args.options.now in
    let offered : (c.in-Some.protocols ≡ protocols_given options.protocols) × HasOffers options = search rules in
    let added : (c.in-Some-2.headers ≡ headers_in (header_words options)) × HasHeaders options = search rules in
    let can : CanConnect options.connect = search rules in
    let fits : FitsRole options = search rules in
    record {
      fits_role = fits;
      has_offers = offered.1;
      protocols = offered.0;
      has_headers = added.1;
      headers = added.0;
      timeout = subst (λ (usual : TimeLimit). GivesRunTimeout usual options.timeout c.in-Some-run_timeout_given.timeout)
          c.timeout.ensures c.in-Some-run_timeout_given.ensures;
      gives_limit = c.gives_limit.ensures;
      wait = c.in-Some-wait_given.ensures;
      deadline = subst (λ (usual : TimeLimit). GivesDeadline usual options.deadline c.in-Some-deadline_given.deadline)
          c.deadline.ensures c.in-Some-deadline_given.ensures;
      key = subst (λ (word : List ℕ). IsKeyWord c.in-Some-read_key.key word) c.as_bytes.ensures.value c.in-Some-read_key.ensures;
      named = (c.in_ok-named.named, c.in_ok-named.ensures);
      can_connect = can;
      tested = c.in_ok-tested.ensures options.role options.target.now c.in_ok-named.ensures;
      expected = refl;
      budget = refl;
    }

pub returns-then-not-can_connect : goal.returns-then-not-can_connect
returns-then-not-can_connect c =
    let options = c.args.options.now in
    let offered : (c.in-Some.protocols ≡ protocols_given options.protocols) × HasOffers options = search rules in
    let added : (c.in-Some-2.headers ≡ headers_in (header_words options)) × HasHeaders options = search rules in
    let can_not : ¬ (CanConnect options.connect) = search rules in
    let fits : FitsRole options = search rules in
    let key = subst (λ (word : List ℕ). IsKeyWord c.in-Some-read_key.key word) c.as_bytes.ensures.value
    c.in-Some-read_key.ensures in (
      (
        (
          (fits, offered.1, added.1),
          has_timeout _ options.timeout _ c.in-Some-run_timeout_given.ensures,
          has_wait options.wait _ c.in-Some-wait_given.ensures,
          has_deadline _ options.deadline _ c.in-Some-deadline_given.ensures,
        ),
        (c.in-Some-read_key.key, key),
      ),
      (c.in_ok-named.named, c.in_ok-named.ensures),
      can_not,
    )

pub returns-in_default-wait_given : goal.returns-in_default-wait_given
returns-in_default-wait_given c =
    let options = c.args.options.now in
    let offered : (c.in-Some.protocols ≡ protocols_given options.protocols) × HasOffers options = search rules in
    let added : (c.in-Some-2.headers ≡ headers_in (header_words options)) × HasHeaders options = search rules in
    let fits : FitsRole options = search rules in
    wait_refused options c.limit_refusal-in_default-wait_given.result (fits, offered.1, added.1)
    (has_timeout _ options.timeout _ c.in-Some-run_timeout_given.ensures) c.in_default-wait_given.ensures
    c.limit_refusal-in_default-wait_given.ensures

pub returns-in_default-deadline_given : goal.returns-in_default-deadline_given
returns-in_default-deadline_given c =
    let options = c.args.options.now in
    let offered : (c.in-Some.protocols ≡ protocols_given options.protocols) × HasOffers options = search rules in
    let added : (c.in-Some-2.headers ≡ headers_in (header_words options)) × HasHeaders options = search rules in
    let fits : FitsRole options = search rules in
    deadline_refused options c.limit_refusal-in_default-deadline_given.result (fits, offered.1, added.1)
    (has_timeout _ options.timeout _ c.in-Some-run_timeout_given.ensures)
    (has_wait options.wait _ c.in-Some-wait_given.ensures) c.in_default-deadline_given.ensures
    c.limit_refusal-in_default-deadline_given.ensures

pub returns-in_err-named : goal.returns-in_err-named
returns-in_err-named c =
    let options = c.args.options.now in
    let offered : (c.in-Some.protocols ≡ protocols_given options.protocols) × HasOffers options = search rules in
    let added : (c.in-Some-2.headers ≡ headers_in (header_words options)) × HasHeaders options = search rules in
    let fits : FitsRole options = search rules in
    let key = subst (λ (word : List ℕ). IsKeyWord c.in-Some-read_key.key word) c.as_bytes.ensures.value
    c.in-Some-read_key.ensures in
    let p = err_from_is_err_and c.from_residual-in_err-named.result c.from_residual-in_err-named.ensures.1 in
    rw p.1 (end_refused options _ (
      (
        (fits, offered.1, added.1),
        has_timeout _ options.timeout _ c.in-Some-run_timeout_given.ensures,
        has_wait options.wait _ c.in-Some-wait_given.ensures,
        has_deadline _ options.deadline _ c.in-Some-deadline_given.ensures,
      ),
      (c.in-Some-read_key.key, key),
    )
    (subst (λ (why : Refusal). RefusesTarget options.role options.target.now why) (sym p.2) c.in_err-named.ensures))
