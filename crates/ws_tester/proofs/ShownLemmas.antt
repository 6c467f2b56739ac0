-- What is shown of a run stays that of its turns: after bytes that come or are taken, and with the next turn.
use Rattle.std.proofs.Common.{◌≡◌, ◌∙◌, ℕ, ◌&&◌, not, Bool, true, false, if◌then◌else◌, List, [], ◌∷◌}
use Rattle.std.proofs.Common.{◌++◌}
use Rattle.std.proofs.Common.{◌⊎◌, refl, sym, ap, subst, inl, inr, Result, Ok, Err, IfOk}
use Rattle.std.specs.List.{concat}
use Rattle.ws_wire.specs.declared.role.Role.{Role}
use Rattle.ws_session.specs.Exchange.{SessionValue, is_over}
use Rattle.ws_scripts.specs.declared.transcript.Ended.{Ended}
use Rattle.ws_scripts.specs.declared.transcript.Turn.{Turn}
use Rattle.ws_scripts.specs.declared.expectation.Expectation.{Expectation}
use Rattle.ws_base.specs.declared.memory.NoMemory.{NoMemory}
use Rattle.ws_suite.specs.Evidence.{got_turns, other_role}
use Rattle.ws_suite.specs.Growing.{GrowingValue, HasGrown, new_turn, turn_with_got, turn_with_sent}
use Rattle.ws_tester.specs.Standings.{CountsAsClose, HasServerClose, HasStanding, StandsAs, is_server_close}
use Rattle.ws_tester.specs.Standings.{standing_of_status}
use Rattle.ws_tester.specs.Outcomes.{HasSentEnd, got_in_all}
use Rattle.ws_tester.specs.RunStates.{RunState, turns_of_run, with_came, with_closing, with_next_turn, with_nothing_to_send}
use Rattle.ws_suite.specs.Progress.{NotesGot}
use Rattle.ws_tester.specs.RunStates.{with_anew, with_run_end, with_standing, with_taken, with_unanswered}
use Rattle.ws_tester.specs.Following.{HearsCame, ShowsTurns, StandsNow, TesterValue}
use Rattle.ws_tester.specs.declared.standing.Standing.{Standing}
use Rattle.ws_tester.specs.declared.standing.Standing.TheVariants.{Closed, Faulty}
use Rattle.ws_tester.proofs.StandingLemmas.{OneList, close_is, closed_is_over, counts_on, one_standing, one_stands}
use Rattle.ws_tester.proofs.StandingLemmas.{stands_faulty, stands_shown}
use Rattle.ws_tester.proofs.FactsLemmas.{got_shown, sent_end}
use Rattle.ws_tester.proofs.RecordsTurns.{got_begun, got_grows, got_last, got_stays}

-- ---- the next turn

pub next_shown : (old new : TesterValue) → new.run ≡ with_next_turn old.run → new.standing ≡ old.standing
    → new.had_sent_end ≡ is_over old.seen.tested.status
    → HasGrown old.run.plan.tested (turns_of_run old.run ++ new_turn ∷ []) new.seen → ShowsTurns old → ShowsTurns new
next_shown old new run standing before grown h = record {
  grown = subst (λ (x : RunState). HasGrown x.plan.tested (turns_of_run x) new.seen) (sym run) grown;
  stands = subst (λ (t : Standing). StandsAs new.run.plan.tested new.run.plan.expected t
      (got_in_all (turns_of_run new.run))) (sym standing)
      (subst (λ (x : RunState). StandsAs x.plan.tested x.plan.expected old.standing (got_in_all (turns_of_run x)))
      (sym run) (subst (λ (l : List ℕ). StandsAs old.run.plan.tested old.run.plan.expected old.standing l)
      (sym (got_begun (turns_of_run old.run))) h.stands));
  before = subst (λ (b : Bool). HasSentEnd new.run.plan.tested new.run.past b) (sym before)
      (subst (λ (x : RunState). HasSentEnd x.plan.tested x.past (is_over old.seen.tested.status)) (sym run)
      (sent_end old.run.plan.tested (turns_of_run old.run) old.seen h.grown));
  closing = subst (λ (x : RunState). x.closing ≡ true → HasServerClose x.plan.tested x.plan.expected (got_in_all (turns_of_run x))) (sym run)
      (λ c. subst (λ (l : List ℕ). HasServerClose old.run.plan.tested old.run.plan.expected l) (sym (got_begun (turns_of_run old.run)))
      (h.closing c));
}

-- ---- bytes that are taken

pub taken_shown : (old new : TesterValue) (bytes : List ℕ) (pings : List (List ℕ))
    → new.run ≡ with_anew true (with_unanswered pings (with_taken bytes old.run)) → new.standing ≡ old.standing
    → new.had_sent_end ≡ old.had_sent_end
    → HasGrown old.run.plan.tested (old.run.past ++ turn_with_sent old.run.turn bytes ∷ []) new.seen
    → ShowsTurns old → ShowsTurns new
taken_shown old new bytes pings run standing before grown h = record {
  grown = subst (λ (x : RunState). HasGrown x.plan.tested (turns_of_run x) new.seen) (sym run) grown;
  stands = subst (λ (t : Standing). StandsAs new.run.plan.tested new.run.plan.expected t
      (got_in_all (turns_of_run new.run))) (sym standing)
      (subst (λ (x : RunState). StandsAs x.plan.tested x.plan.expected old.standing (got_in_all (turns_of_run x)))
      (sym run) (subst (λ (l : List ℕ). StandsAs old.run.plan.tested old.run.plan.expected old.standing l)
      (sym (got_stays old.run.past old.run.turn bytes)) h.stands));
  before = subst (λ (b : Bool). HasSentEnd new.run.plan.tested new.run.past b) (sym before)
      (subst (λ (x : RunState). HasSentEnd x.plan.tested x.past old.had_sent_end) (sym run) h.before);
  closing = subst (λ (x : RunState). x.closing ≡ true → HasServerClose x.plan.tested x.plan.expected (got_in_all (turns_of_run x))) (sym run)
      (λ c. subst (λ (l : List ℕ). HasServerClose old.run.plan.tested old.run.plan.expected l)
      (sym (got_stays old.run.past old.run.turn bytes)) (h.closing c));
}

-- ---- bytes that come

two_true : (a b : Bool) → (a && b) ≡ true → a ≡ true
two_true true b e = refl
two_true false b e = absurd cc

-- the state once what came is heard, by whether a server's close was got for the first time
abbrev changed_by : Bool → RunState → RunState
changed_by b x = if b then with_closing (with_nothing_to_send x) else x

-- the state with what came, before it is heard how that stands
abbrev base : Bool → List (List ℕ) → List ℕ → RunState → RunState
base progress pings bytes x = with_anew progress (with_unanswered pings (with_came bytes x))

-- more bytes leave a close one: what counts as one still does, and behind another the session tells nothing
pub closed_stays : OneList → (tested : Role) (expected : Expectation) (got more : List ℕ) (before now : SessionValue)
    → HasStanding (other_role tested) (standing_of_status before.status) got
    → HasStanding (other_role tested) (standing_of_status now.status) (got ++ more)
    → (is_over before.status ≡ true → now ≡ before) → StandsAs tested expected Closed got
    → StandsAs tested expected Closed (got ++ more)
closed_stays one tested expected got more before now had has over stands = pick stands.counted
  where
    pick : (CountsAsClose expected (other_role tested) got × (Closed ≡ Closed))
        ⊎ ((¬ (CountsAsClose expected (other_role tested) got)) × HasStanding (other_role tested) Closed got)
        → StandsAs tested expected Closed (got ++ more)
    pick (inl (counts, is)) =
        record { counted = inl (counts_on expected (other_role tested) got more counts, refl) }
    pick (inr (never, closed)) =
        let was : standing_of_status before.status ≡ Closed =
        one_standing one (other_role tested) (standing_of_status before.status) Closed got had closed in
        let same : now ≡ before = over (closed_is_over before.status was) in
        let is : standing_of_status now.status ≡ Closed =
        ap (λ (x : SessionValue). standing_of_status x.status) same ∙ was in
        stands_shown tested expected Closed (got ++ more)
        (subst (λ (s : Standing). HasStanding (other_role tested) s (got ++ more)) is has)
        (λ e. (let wrong : Closed ≡ Faulty = e in cc))

module _ (one : OneList) (old new : TesterValue) (bytes : List ℕ) (progress : Bool) (pings : List (List ℕ))
    (h : ShowsTurns old)
    (grown : HasGrown old.run.plan.tested (old.run.past ++ turn_with_got old.run.turn bytes ∷ []) new.seen)
    (stands : StandsAs old.run.plan.tested old.run.plan.expected new.standing
    (got_in_all (turns_of_run (with_came bytes old.run))))
    (kept : old.standing ≡ Closed → new.standing ≡ Closed) where
  -- a server's close that was got before is still its last event
  still : old.run.closing ≡ true → is_server_close old.run.plan.tested new.standing ≡ true
  still c =
      let close = h.closing c in
      let same : old.standing ≡ close.0 = one_stands old.run.plan.tested old.run.plan.expected
      (got_in_all (turns_of_run old.run))
      (λ s t a b. one_standing one (other_role old.run.plan.tested) s t (got_in_all (turns_of_run old.run)) a b)
      old.standing close.0 h.stands close.2 in
      let before : is_server_close old.run.plan.tested old.standing ≡ true =
      ap (λ (s : Standing). is_server_close old.run.plan.tested s) same ∙ close.1 in
      let was : old.standing ≡ Closed = close_is old.run.plan.tested old.standing before in
      ap (λ (s : Standing). is_server_close old.run.plan.tested s) (kept was ∙ sym was) ∙ before

  pub came_hears : NotesGot old.run.plan.tested (turns_of_run old.run) bytes old.run.pings pings progress
      → new.run ≡ with_standing new.standing (base progress pings bytes old.run)
      → HearsCame bytes old.run (with_came bytes old.run) new.run
  came_hears noted run = record {
    standing = new.standing;
    stands = record { stands = stands; still = still };
    pings = pings;
    progress = progress;
    noted = noted;
    is = run;
  }

  pub came_shown : new.run ≡ with_standing new.standing (base progress pings bytes old.run)
      → new.had_sent_end ≡ old.had_sent_end → ShowsTurns new
  came_shown run before = record {
    grown = subst (λ (x : RunState). HasGrown x.plan.tested (turns_of_run x) new.seen) (sym run)
        (shown_at (is_server_close old.run.plan.tested new.standing && not old.run.closing));
    stands = subst (λ (x : RunState). StandsAs x.plan.tested x.plan.expected new.standing
        (got_in_all (turns_of_run x))) (sym run)
        (stands_at (is_server_close old.run.plan.tested new.standing && not old.run.closing));
    before = subst (λ (had : Bool). HasSentEnd new.run.plan.tested new.run.past had) (sym before)
        (subst (λ (x : RunState). HasSentEnd x.plan.tested x.past old.had_sent_end) (sym run)
        (before_at (is_server_close old.run.plan.tested new.standing && not old.run.closing)));
    closing = subst (λ (x : RunState). x.closing ≡ true
        → HasServerClose x.plan.tested x.plan.expected (got_in_all (turns_of_run x))) (sym run)
        (closing_at (is_server_close old.run.plan.tested new.standing && not old.run.closing)
        (two_true (is_server_close old.run.plan.tested new.standing) (not old.run.closing)));
  }
    where
      shown_at : (b : Bool) → HasGrown (changed_by b (base progress pings bytes old.run)).plan.tested
          (turns_of_run (changed_by b (base progress pings bytes old.run))) new.seen
      shown_at true = grown
      shown_at false = grown

      stands_at : (b : Bool) → StandsAs (changed_by b (base progress pings bytes old.run)).plan.tested
          (changed_by b (base progress pings bytes old.run)).plan.expected new.standing
          (got_in_all (turns_of_run (changed_by b (base progress pings bytes old.run))))
      stands_at true = stands
      stands_at false = stands

      before_at : (b : Bool) → HasSentEnd (changed_by b (base progress pings bytes old.run)).plan.tested
          (changed_by b (base progress pings bytes old.run)).past old.had_sent_end
      before_at true = h.before
      before_at false = h.before

      closing_at : (b : Bool) → (b ≡ true → is_server_close old.run.plan.tested new.standing ≡ true)
          → (changed_by b (base progress pings bytes old.run)).closing ≡ true
          → HasServerClose (changed_by b (base progress pings bytes old.run)).plan.tested
          (changed_by b (base progress pings bytes old.run)).plan.expected
          (got_in_all (turns_of_run (changed_by b (base progress pings bytes old.run))))
      closing_at true is c = (new.standing, is refl, stands)
      closing_at false is c = (new.standing, still c, stands)

-- what came is kept, and then how it stands is heard
pub came_told : OneList → (old mid new : TesterValue) (bytes : List ℕ)
    → mid.run ≡ base mid.run.waits_anew mid.run.pings bytes old.run
    → ((tested : Role) (past : List Turn) (turn : Turn) → HasGrown tested (past ++ turn ∷ []) old.seen
    → HasGrown tested (past ++ turn_with_got turn bytes ∷ []) mid.seen)
    → ((tested : Role) (past : List Turn) (turn : Turn) → HasGrown tested (past ++ turn ∷ []) old.seen
    → NotesGot tested (past ++ turn ∷ []) bytes old.run.pings mid.run.pings mid.run.waits_anew)
    → (is_over old.seen.tester.status ≡ true → mid.seen.tester ≡ old.seen.tester)
    → mid.standing ≡ old.standing → mid.had_sent_end ≡ old.had_sent_end
    → new.run ≡ with_standing new.standing mid.run → new.seen ≡ mid.seen → StandsNow mid new.standing
    → (mid.standing ≡ Closed → new.standing ≡ Closed) → new.had_sent_end ≡ mid.had_sent_end → ShowsTurns old
    → HearsCame bytes old.run (with_came bytes old.run) new.run × ShowsTurns new
came_told one old mid new bytes came grown noted over standing had heard seen now kept before shown = (
  came_hears one old new bytes mid.run.waits_anew mid.run.pings shown grown_now stands_now kept_now
      (noted old.run.plan.tested old.run.past old.run.turn shown.grown) run_is,
  came_shown one old new bytes mid.run.waits_anew mid.run.pings shown grown_now stands_now kept_now run_is
      (before ∙ had),
)
  where
    grown_mid : HasGrown old.run.plan.tested (old.run.past ++ turn_with_got old.run.turn bytes ∷ []) mid.seen
    grown_mid = grown old.run.plan.tested old.run.past old.run.turn shown.grown

    grown_now : HasGrown old.run.plan.tested (old.run.past ++ turn_with_got old.run.turn bytes ∷ []) new.seen
    grown_now = subst (λ (s : GrowingValue). HasGrown old.run.plan.tested
        (old.run.past ++ turn_with_got old.run.turn bytes ∷ []) s) (sym seen) grown_mid

    kept_now : old.standing ≡ Closed → new.standing ≡ Closed
    kept_now was = kept (standing ∙ was)

    -- the close is still one
    closed_now : mid.standing ≡ Closed → StandsAs old.run.plan.tested old.run.plan.expected Closed
        (got_in_all (old.run.past ++ turn_with_got old.run.turn bytes ∷ []))
    closed_now was = subst (λ (l : List ℕ). StandsAs old.run.plan.tested old.run.plan.expected Closed l)
        (sym (got_grows old.run.past old.run.turn bytes))
        (closed_stays one old.run.plan.tested old.run.plan.expected (got_in_all (turns_of_run old.run)) bytes
        old.seen.tester mid.seen.tester
        (got_shown old.run.plan.tested (turns_of_run old.run) old.seen shown.grown)
        (subst (λ (l : List ℕ). HasStanding (other_role old.run.plan.tested)
        (standing_of_status mid.seen.tester.status) l) (got_grows old.run.past old.run.turn bytes)
        (got_shown old.run.plan.tested (old.run.past ++ turn_with_got old.run.turn bytes ∷ []) mid.seen grown_mid))
        over (subst (λ (s : Standing). StandsAs old.run.plan.tested old.run.plan.expected s
        (got_in_all (turns_of_run old.run))) (sym standing ∙ was) shown.stands))

    stands_now : StandsAs old.run.plan.tested old.run.plan.expected new.standing
        (got_in_all (turns_of_run (with_came bytes old.run)))
    stands_now = subst (λ (x : RunState). HasGrown x.plan.tested (turns_of_run x) mid.seen
        → (mid.standing ≡ Closed → StandsAs x.plan.tested x.plan.expected Closed (got_in_all (turns_of_run x)))
        → StandsAs x.plan.tested x.plan.expected new.standing (got_in_all (turns_of_run x))) came now grown_mid
        closed_now

    run_is : new.run ≡ with_standing new.standing (base mid.run.waits_anew mid.run.pings bytes old.run)
    run_is = heard ∙ ap (λ (x : RunState). with_standing new.standing x) came

same_end : (b : Bool) (x : RunState) → (changed_by b x).ended ≡ x.ended
same_end true x = refl
same_end false x = refl

pub came_going : (old mid new : TesterValue) (bytes : List ℕ)
    → mid.run ≡ base mid.run.waits_anew mid.run.pings bytes old.run
    → new.run ≡ with_standing new.standing mid.run → new.run.ended ≡ old.run.ended
came_going old mid new bytes came heard = ap (λ (x : RunState). x.ended) heard
    ∙ (same_end (is_server_close mid.run.plan.tested new.standing && not mid.run.closing) mid.run
    ∙ ap (λ (x : RunState). x.ended) came)

-- ---- the end

pub ended_shown : (old new : TesterValue) (how : Ended) → new.run ≡ with_run_end how old.run → new.seen ≡ old.seen
    → new.standing ≡ old.standing → new.had_sent_end ≡ old.had_sent_end → ShowsTurns old → ShowsTurns new
ended_shown old new how run seen standing before h =
    subst (λ (x : TesterValue). ShowsTurns x) (λ i. record {
      run = sym run i;
      seen = sym seen i;
      standing = sym standing i;
      had_sent_end = sym before i;
    })
    (record { grown = h.grown; stands = h.stands; before = h.before; closing = h.closing })

-- ---- how what was got stands

-- it shows no fault
pub shown_stands : (tested : Role) (expected : Expectation) (past : List Turn) (turn : Turn) (seen : GrowingValue)
    (standing : Standing) → standing_of_status seen.tester.status ≡ standing → (standing ≡ Faulty → ⊥)
    → HasGrown tested (past ++ turn ∷ []) seen → StandsAs tested expected standing (got_in_all (past ++ turn ∷ []))
shown_stands tested expected past turn seen standing e other grown =
    stands_shown tested expected standing (got_in_all (past ++ turn ∷ []))
    (subst (λ (s : Standing). HasStanding (other_role tested) s (got_in_all (past ++ turn ∷ []))) e
    (got_shown tested (past ++ turn ∷ []) seen grown)) other

-- it shows one
pub fault_stands : (tested : Role) (expected : Expectation) (past : List Turn) (got : List ℕ) (seen : GrowingValue)
    (r : Result Standing NoMemory) → standing_of_status seen.tester.status ≡ Faulty
    → IfOk r (λ standing. (CountsAsClose expected (other_role tested) (concat (got_turns past) ++ got)
    × (standing ≡ Closed))
    ⊎ ((¬ (CountsAsClose expected (other_role tested) (concat (got_turns past) ++ got))) × (standing ≡ Faulty)))
    → IfOk r (λ standing. (turn : Turn) → turn.got ≡ got → HasGrown tested (past ++ turn ∷ []) seen
    → StandsAs tested expected standing (got_in_all (past ++ turn ∷ [])))
fault_stands tested expected past got seen (Err e) faulty counted = tt
fault_stands tested expected past got seen (Ok standing) faulty counted = λ turn same grown.
    let turns = past ++ turn ∷ [] in
    let is : got_in_all turns ≡ concat (got_turns past) ++ got =
    got_last past turn ∙ ap (λ (l : List ℕ). concat (got_turns past) ++ l) same in
    stands_faulty tested expected standing (got_in_all turns)
    (subst (λ (s : Standing). HasStanding (other_role tested) s (got_in_all turns)) faulty
    (got_shown tested turns seen grown))
    (subst (λ (l : List ℕ). (CountsAsClose expected (other_role tested) l × (standing ≡ Closed))
    ⊎ ((¬ (CountsAsClose expected (other_role tested) l)) × (standing ≡ Faulty))) (sym is) counted)
