-- What an outcome says of the state that it comes of, and that a run that rests wants something.
use Rattle.std.proofs.Common.{◌≡◌, ℕ, ◌<◌, ◌⊎◌, Bool, true, false, if◌then◌else◌, nat_eq, List, [], ◌∷◌, length, inl}
use Rattle.std.proofs.Common.{◌&&◌, not}
use Rattle.std.proofs.Common.{inr, refl, arith}
use Rattle.std.proofs.Common.{sym, subst, min}
use Rattle.std.specs.Prelude.{Option, None, Some, is_some, ◌||◌}
use Rattle.std.proofs.lemmas.Bool.Decides.{nat_tests}
use Rattle.ws_machines.specs.Machines.{HasNext}
use Rattle.ws_scripts.specs.declared.transcript.Ended.{Ended}
use Rattle.ws_tester.specs.Standings.{stops_run}
use Rattle.ws_tester.specs.Outcomes.{by_tests, has_come, has_end, is_spent, is_turn_over, outcome_of}
use Rattle.ws_tester.specs.Outcomes.{owes_messages}
use Rattle.ws_tester.specs.Outgoings.{first_piece}
use Rattle.ws_tester.specs.RunStates.{RunState, has_more, is_all_sent, is_nothing, max_read, wanted_in, wants_own_end}
use Rattle.ws_tester.specs.declared.outcome.Outcome.TheVariants.{Rests, Next}
use Rattle.ws_tester.specs.declared.outcome.TurnFacts.{TurnFacts}

-- ---- by the tests

rests_by : (final sent come spent more : Bool) → by_tests final sent come spent more ≡ Rests
    → (sent ≡ false) ⊎ ((sent ≡ true) × (spent ≡ false))
rests_by true sent come spent more e = absurd cc
rests_by false false come spent more e = inl refl
rests_by false true true spent true e = absurd cc
rests_by false true true spent false e = absurd cc
rests_by false true false true more e = absurd cc
rests_by false true false false more e = inr (refl, refl)

pub next_by : (final sent come spent more : Bool) → by_tests final sent come spent more ≡ Next
    → (sent ≡ true) × (come ≡ true) × (more ≡ true)
next_by true sent come spent more e = absurd cc
next_by false false come spent more e = absurd cc
next_by false true true spent true e = (refl, refl, refl)
next_by false true true spent false e = absurd cc
next_by false true false true more e = absurd cc
next_by false true false false more e = absurd cc

-- ---- a run that rests

some_byte : (bytes : List ℕ) → is_nothing bytes ≡ false → 0 < length bytes
some_byte [] e = absurd cc
some_byte (byte ∷ bytes) e = omega arith

not_both : (none own : Bool) → (none && not own) ≡ false → (none ≡ false) ⊎ (own ≡ true)
not_both false own e = inl refl
not_both true true e = inr refl
not_both true false e = absurd cc

not_spent : (n : ℕ) → nat_eq n 0 ≡ false → 0 < n
not_spent n e = grind (arith, nat_tests)

-- where something may be read, it is, or the own direction is to be ended
reads_or_ends : (ended : Option Ended) (own : Bool) (allowance : ℕ) → ended ≡ None → 0 < allowance
    → (own ≡ true) ⊎ (0 < (if is_some ended || own then 0 else min allowance max_read))
reads_or_ends None true allowance going some = inl refl
reads_or_ends None false allowance going some = inr (omega (arith, some))
reads_or_ends (Some how) own allowance going some = absurd cc

-- a run that has not ended wants bytes to be written, or to be read
wants_bytes : (x : RunState) → x.ended ≡ None → (0 < length (first_piece x.outgoing.rest)) ⊎ (0 < x.allowance)
    → HasNext (wanted_in x)
wants_bytes x going (inl some) = inr (inr (inr (inl (subst (λ (o : Option Ended).
    0 < length (if is_some o then [] else first_piece x.outgoing.rest)) (sym going) some))))
wants_bytes x going (inr some) = read (reads_or_ends x.ended (wants_own_end x) x.allowance going some)
  where
    read : (wants_own_end x ≡ true) ⊎ (0 < (wanted_in x).room) → HasNext (wanted_in x)
    read (inl own) = inr (inr (inl own))
    read (inr room) = inr (inr (inr (inr room)))

-- where not all of the turn is sent
pub unsent_wants : (x : RunState) → x.ended ≡ None → is_all_sent x ≡ false → HasNext (wanted_in x)
unsent_wants x going unsent = wants_bytes x going (inl (some_byte (first_piece x.outgoing.rest) unsent))

pub rests_wants : (x : RunState) (facts : TurnFacts) → x.ended ≡ None → outcome_of x facts ≡ Rests
    → HasNext (wanted_in x)
rests_wants x facts going e = pick (rests_by (stops_run x.plan.tested facts.standing) (is_all_sent x)
    (is_turn_over x facts) (is_spent x) (has_more x) e)
  where
    unspent : (nat_eq x.allowance 0 ≡ false) ⊎ (wants_own_end x ≡ true) → HasNext (wanted_in x)
    unspent (inl some) = wants_bytes x going (inr (not_spent x.allowance some))
    unspent (inr own) = inr (inr (inl own))

    pick : (is_all_sent x ≡ false) ⊎ ((is_all_sent x ≡ true) × (is_spent x ≡ false)) → HasNext (wanted_in x)
    pick (inl unsent) = wants_bytes x going (inl (some_byte (first_piece x.outgoing.rest) unsent))
    pick (inr (sent, spent)) = unspent (not_both (nat_eq x.allowance 0) (wants_own_end x) spent)

-- ---- a turn that another one follows

-- only in the last turn it is waited in vain
come_by : (come owes more vain : Bool) → more ≡ true → (come || (owes && (not more && vain))) ≡ true → come ≡ true
come_by true owes more vain last over = refl
come_by false true true vain last over = absurd cc
come_by false true false vain last over = absurd cc
come_by false false more vain last over = absurd cc

pub next_more : (x : RunState) (facts : TurnFacts) → outcome_of x facts ≡ Next → has_more x ≡ true
next_more x facts e = (next_by (stops_run x.plan.tested facts.standing) (is_all_sent x) (is_turn_over x facts)
    (is_spent x) (has_more x) e).2

pub next_sent : (x : RunState) (facts : TurnFacts) → outcome_of x facts ≡ Next → is_all_sent x ≡ true
next_sent x facts e = (next_by (stops_run x.plan.tested facts.standing) (is_all_sent x) (is_turn_over x facts)
    (is_spent x) (has_more x) e).0

pub next_come : (x : RunState) (facts : TurnFacts) → outcome_of x facts ≡ Next → has_come x facts ≡ true
next_come x facts e =
    let over : is_turn_over x facts ≡ true = (next_by (stops_run x.plan.tested facts.standing) (is_all_sent x)
    (is_turn_over x facts) (is_spent x) (has_more x) e).1 in
    come_by (has_come x facts) (owes_messages x.plan.expected) (has_more x)
    (not x.write_failed && (not (has_end facts.standing) && (facts.cannot_come && not facts.is_inside)))
    (next_more x facts e) over
