-- A run after one event: what was told of its turns is still a part of them.
use Rattle.std.proofs.Common.{◌≡◌, ◌∙◌, ℕ, ◌⊎◌, ◌&&◌, not, Bool, true, false, if◌then◌else◌, List, [], ◌∷◌, ◌++◌}
use Rattle.std.proofs.Common.{length, refl, sym, ap, subst, inl, inr, append_assoc, append-nil}
use Rattle.std.specs.Prelude.{zero, suc, Option, None, Some, is_some}
use Rattle.std.specs.List.{AllByRecursion}
use Rattle.ws_scripts.specs.Scripts.{has_bytes}
use Rattle.ws_scripts.specs.declared.transcript.Ended.{Ended}
use Rattle.ws_scripts.specs.declared.transcript.Turn.{Turn}
use Rattle.ws_suite.specs.Growing.{new_turn}
use Rattle.ws_machines.specs.Told.{Told}
use Rattle.ws_machines.specs.Told.Told.{Came, DeadlinePassed, DirectionEnded, Ended as StreamEnded, NothingCame}
use Rattle.ws_machines.specs.Told.Told.{ReadFailed, Reported, Taken, WriteFailed}
use Rattle.ws_tester.specs.Standings.{is_server_close}
use Rattle.ws_tester.specs.Outgoings.{Pieces, first_piece, without_front}
use Rattle.ws_tester.specs.RunStates.{RunState, is_all_sent, is_nothing, wanted_in, with_came, with_closing}
use Rattle.ws_tester.specs.RunStates.{with_anew, with_next_turn, with_nothing_to_send, with_taken, with_unanswered}
use Rattle.ws_tester.specs.Following.{Changes, LeadsOnBy, MayHappen, SettlesIn}
use Rattle.ws_tester.specs.declared.outcome.Outcome.{Outcome}
use Rattle.ws_tester.specs.declared.outcome.Outcome.TheVariants.{Rests, Next, Ends}
use Rattle.ws_tester.proofs.RecordsPieces.{no_byte}
use Rattle.ws_shown.specs.TurnsTold.{IsPartOf, IsToldOfRun}
use Rattle.ws_shown.specs.declared.turns_told.TurnsTold.{TurnsTold}

-- ---- what an event changes by itself

-- a turn has got something besides, and has sent nothing more where all of it was sent
pub record IsGrown (x : RunState) (turn : Turn) : Type 0 where
  pub more : List ℕ
  pub got : turn.got ≡ x.turn.got ++ more
  pub sent : is_all_sent x ≡ true → turn.sent ≡ x.turn.sent

pub record HearsOn (x heard : RunState) : Type 0 where
  pub turn : IsGrown x heard.turn
  pub past : heard.past ≡ x.past
  pub still : is_all_sent x ≡ true → is_all_sent heard ≡ true
  pub begun : heard.begun ≡ x.begun

pub came_on : (b : Bool) (x : RunState) (bytes : List ℕ) (pings : List (List ℕ)) (anew : Bool)
    → HearsOn x (if b then with_closing (with_nothing_to_send (with_anew anew (with_unanswered pings (with_came bytes x))))
    else with_anew anew (with_unanswered pings (with_came bytes x)))
came_on true x bytes pings anew = record {
  turn = record { more = bytes; got = refl; sent = λ e. refl };
  past = refl;
  still = λ e. refl;
  begun = refl;
}
came_on false x bytes pings anew = record {
  turn = record { more = bytes; got = refl; sent = λ e. refl };
  past = refl;
  still = λ e. e;
  begun = refl;
}

pub nothing_front : (piece bytes unsent : List ℕ) → is_nothing piece ≡ true → piece ≡ bytes ++ unsent → bytes ≡ []
nothing_front [] [] unsent none e = refl
nothing_front [] (byte ∷ bytes) unsent none e = absurd cc
nothing_front (first ∷ piece) bytes unsent none e = absurd cc

pub still_nothing : (rest : Pieces) (count : ℕ) → AllByRecursion has_bytes rest → is_nothing (first_piece rest) ≡ true
    → is_nothing (first_piece (without_front count rest)) ≡ true
still_nothing [] count h e = refl
still_nothing (piece ∷ pieces) count h e = absurd (no_byte piece e h.0)

pub taken_on : (x : RunState) (bytes unsent : List ℕ) → AllByRecursion has_bytes x.outgoing.rest
    → first_piece x.outgoing.rest ≡ bytes ++ unsent → (pings : List (List ℕ))
    → HearsOn x (with_anew true (with_unanswered pings (with_taken bytes x)))
taken_on x bytes unsent pieces e pings = record {
  turn = record {
    more = [];
    got = sym (append-nil x.turn.got);
    sent = λ none. ap (λ (l : List ℕ). x.turn.sent ++ l) (nothing_front (first_piece x.outgoing.rest) bytes unsent none e)
        ∙ append-nil x.turn.sent;
  };
  past = refl;
  still = λ none. still_nothing x.outgoing.rest (length bytes) pieces none;
  begun = refl;
}

pub same_on : (anew : Bool) (x : RunState) → HearsOn x (with_anew anew x)
same_on anew x = record {
  turn = record { more = []; got = sym (append-nil x.turn.got); sent = λ e. refl };
  past = refl;
  still = λ e. e;
  begun = refl;
}

pub hears_on : (event : Told) (x heard : RunState) → AllByRecursion has_bytes x.outgoing.rest → MayHappen x event
    → Changes event x heard → HearsOn x heard
hears_on (Came bytes) x heard pieces may hears = subst (λ (y : RunState). HearsOn x y) (sym hears.is)
    (came_on (is_server_close x.plan.tested hears.standing && not x.closing) x bytes hears.pings hears.progress)
hears_on (Taken bytes) x heard pieces may hears = subst (λ (y : RunState). HearsOn x y) (sym hears.is)
    (taken_on x bytes may.0 pieces may.1 hears.pings)
hears_on WriteFailed x heard pieces may same = subst (λ (y : RunState). HearsOn x y) (sym same) (record {
  turn = record { more = []; got = sym (append-nil x.turn.got); sent = λ e. refl };
  past = refl;
  still = λ e. refl;
  begun = refl;
})
hears_on DirectionEnded x heard pieces may same = subst (λ (y : RunState). HearsOn x y) (sym same) (record {
  turn = record { more = []; got = sym (append-nil x.turn.got); sent = λ e. refl };
  past = refl;
  still = λ e. e;
  begun = refl;
})
hears_on StreamEnded x heard pieces may same = subst (λ (y : RunState). HearsOn x y) (sym same) (same_on false x)
hears_on ReadFailed x heard pieces may same = subst (λ (y : RunState). HearsOn x y) (sym same) (same_on false x)
hears_on NothingCame x heard pieces may same = subst (λ (y : RunState). HearsOn x y) (sym same) (same_on true x)
hears_on (Reported lines) x heard pieces may same = subst (λ (y : RunState). HearsOn x y) (sym same) (same_on false x)
hears_on (DeadlinePassed waited) x heard pieces may same =
    subst (λ (y : RunState). HearsOn x y) (sym same) (same_on false x)

-- ---- how the run goes on

-- the turn is the same, or others have begun
abbrev pub GoesTo : RunState → RunState → Type 0
GoesTo x now = (now.begun ≡ x.begun)
    × (((now.past ≡ x.past) × (now.turn ≡ x.turn) × (is_all_sent now ≡ is_all_sent x))
    ⊎ ((between : List Turn) × (now.past ≡ x.past ++ x.turn ∷ between)))

pub stays : (x : RunState) → GoesTo x x
stays x = (refl, inl (refl, refl, refl))

pub next_goes : (x now : RunState) → GoesTo (with_next_turn x) now → GoesTo x now
next_goes x now (begun, inl (past, turn, sent)) = (begun, inr ([], past))
next_goes x now (begun, inr (between, past)) =
    (begun, inr (new_turn ∷ between, past ∙ append_assoc x.past (x.turn ∷ []) (new_turn ∷ between)))

pub settled_goes : (n : ℕ) (x now : RunState) → SettlesIn n x now → GoesTo x now
settled_goes zero x now (inl (o, same)) = subst (λ (y : RunState). GoesTo x y) (sym same) (stays x)
settled_goes zero x now (inr (how, o, same)) =
    subst (λ (y : RunState). GoesTo x y) (sym same) (refl, inl (refl, refl, refl))
settled_goes (suc n) x now (o, rest) = next_goes x now (settled_goes n (with_next_turn x) now rest)

pub leads_goes : (outcome : Option Outcome) (x now : RunState) → LeadsOnBy outcome x now → GoesTo x now
leads_goes None x now (n, s) = settled_goes n x now s
leads_goes (Some Rests) x now same = subst (λ (y : RunState). GoesTo x y) (sym same) (stays x)
leads_goes (Some Next) x now (n, s) = next_goes x now (settled_goes n (with_next_turn x) now s)
leads_goes (Some (Ends how)) x now same =
    subst (λ (y : RunState). GoesTo x y) (sym same) (refl, inl (refl, refl, refl))

-- ---- what is wanted

pub no_write_if : (b : Bool) (piece : List ℕ) → is_nothing piece ≡ true → (if b then [] else piece) ≡ []
no_write_if true piece none = refl
no_write_if false [] none = refl
no_write_if false (byte ∷ piece) none = absurd cc

-- where all is sent nothing is to be written, and in a run that hasn't ended the other way round too
pub no_write : (x : RunState) → is_all_sent x ≡ true → (wanted_in x).write ≡ []
no_write x none = no_write_if (is_some x.ended) (first_piece x.outgoing.rest) none

pub all_is_sent : (x : RunState) → x.ended ≡ None → (wanted_in x).write ≡ [] → is_all_sent x ≡ true
all_is_sent x going none = ap (λ (l : List ℕ). is_nothing l)
    (ap (λ (o : Option Ended). if is_some o then [] else first_piece x.outgoing.rest) (sym going) ∙ none)

-- ---- what was told of the turns

pub part_grows : (sent : Bool) (got : ℕ) (x : RunState) (turn : Turn) (part : List Turn) → IsGrown x turn
    → (sent ≡ true → is_all_sent x ≡ true) → IsPartOf sent got x.turn part → IsPartOf sent got turn part
part_grows false got x turn part grown all h = h
part_grows true got x turn part grown all (front, others, e, len, is) = (
  front,
  others ++ grown.more,
  grown.got ∙ (ap (λ (l : List ℕ). l ++ grown.more) e ∙ append_assoc front others grown.more),
  len,
  is ∙ ap (λ (l : List ℕ). record { sent = l; got = front } ∷ []) (sym (grown.sent (all refl))),
)

pub told_goes : (told : TurnsTold) (x heard now : RunState) (turns : List Turn) → x.ended ≡ None → HearsOn x heard
    → GoesTo heard now → IsToldOfRun told x turns → IsToldOfRun told now turns
told_goes told x heard now turns going on (begun, inl (past, turn, sent)) (inl h) = inl (record {
  before = h.before;
  now = h.now;
  after = h.after;
  part = h.part;
  parts = past ∙ (on.past ∙ h.parts);
  count = h.count;
  is_part = h.is_part;
  turns_are = h.turns_are;
})
told_goes told x heard now turns going on (begun, inr (between, past)) (inl h) = inl (record {
  before = h.before;
  now = h.now;
  after = h.after ++ heard.turn ∷ between;
  part = h.part;
  parts = past ∙ (ap (λ (l : List Turn). l ++ heard.turn ∷ between) (on.past ∙ h.parts)
      ∙ append_assoc h.before (h.now ∷ h.after) (heard.turn ∷ between));
  count = h.count;
  is_part = h.is_part;
  turns_are = h.turns_are;
})
told_goes told x heard now turns going on (begun, inl (past, turn, sent)) (inr h) = inr (record {
  at = record {
    part = h.at.part;
    count = ap (λ (l : List Turn). length l) (past ∙ on.past) ∙ h.at.count;
    is_part = subst (λ (t : Turn). IsPartOf told.is_sent told.got t h.at.part) (sym turn)
        (part_grows told.is_sent told.got x heard.turn h.at.part on.turn
        (λ e. all_is_sent x going (h.is_sent e)) h.at.is_part);
    turns_are = h.at.turns_are ∙ ap (λ (l : List Turn). l ++ h.at.part) (sym (past ∙ on.past));
  };
  is_sent = λ e. no_write now (sent ∙ on.still (all_is_sent x going (h.is_sent e)));
})
told_goes told x heard now turns going on (begun, inr (between, past)) (inr h) = inl (record {
  before = x.past;
  now = heard.turn;
  after = between;
  part = h.at.part;
  parts = past ∙ ap (λ (l : List Turn). l ++ heard.turn ∷ between) on.past;
  count = h.at.count;
  is_part = part_grows told.is_sent told.got x heard.turn h.at.part on.turn
      (λ e. all_is_sent x going (h.is_sent e)) h.at.is_part;
  turns_are = h.at.turns_are;
})
