-- Moves are answered in one way, and lead to one link.
use Rattle.std.proofs.Common.{◌≡◌, ℕ, ◌≤◌, List, [], ◌∷◌, ◌++◌, refl, sym, ap, ◌∙◌, arith, subst, if◌then◌else◌}
use Rattle.std.specs.Prelude.{◌==◌}
use Rattle.ws_wire.specs.Frame.{Frame}
use Rattle.ws_session.specs.declared.status.Status.{Status}
use Rattle.ws_session.specs.declared.send_fault.SendFault.{SendFault}
use Rattle.ws_session.specs.declared.send_fault.SendFault.TheVariants.{Over, Busy, NothingOpen, NotText, TooLong, BadCode, NoMemory}
use Rattle.ws_session.specs.Sends.{Send, close_owned, IsFirstWrong, number_of_fault}
use Rattle.ws_session.specs.Faults.{frames_of}
use Rattle.ws_session.specs.Sends as send
use Rattle.ws_pair.specs.declared.moves.End.{End}
use Rattle.ws_pair.specs.declared.moves.Move.{Move}
use Rattle.ws_pair.specs.declared.moves.Move.TheVariants.{Begin, More, Ping, Pong, Close, Arrive, Cut}
use Rattle.ws_pair.specs.declared.report.Answer.{Answer}
use Rattle.ws_pair.specs.declared.report.Answer.TheVariants as outcome
use Rattle.ws_pair.specs.Link.{end_of, Link, BothLimits, status_at}
use Rattle.ws_pair.specs.Moves.{IsSendMoveAnswered, IsMoveAnswered, Plays}

-- ---- one refusal

abbrev fault_of : ℕ → SendFault
fault_of n = if n == 1 then Over else (if n == 2 then Busy else (if n == 3 then NothingOpen else (if n == 4 then NotText else (if n == 5 then TooLong else (if n == 6 then BadCode else NoMemory)))))

fault_back : (fault : SendFault) → fault_of (number_of_fault fault) ≡ fault
fault_back Over = refl
fault_back Busy = refl
fault_back NothingOpen = refl
fault_back NotText = refl
fault_back TooLong = refl
fault_back BadCode = refl
fault_back NoMemory = refl

one_refusal : (sent : List Frame) (status : Status) (what : Send) (a b : SendFault) → IsFirstWrong sent status what a → IsFirstWrong sent status what b → a ≡ b
one_refusal sent status what a b p q =
    let below : number_of_fault a ≤ number_of_fault b = p.first b q.wrong in
    let above : number_of_fault b ≤ number_of_fault a = q.first a p.wrong in
    let same : number_of_fault a ≡ number_of_fault b = omega arith in
    sym (fault_back a) ∙ ap fault_of same ∙ fault_back b

-- ---- one answer

abbrev AreOne : Answer → Answer → Link → Link → Type 0
AreOne a b x y = (a ≡ b) × (x ≡ y)

module _ (limits : BothLimits) (link : Link) where
  one_send : (side : End) (what : Send) (key : List ℕ) (a b : Answer) (x y : Link) → IsSendMoveAnswered limits link side what key a x → IsSendMoveAnswered limits link side what key b y → AreOne a b x y
  one_send side what key outcome.Did outcome.Did x y p q = (refl, p.1 ∙ sym q.1)
  one_send side what key outcome.Did (outcome.Refused fault) x y p q = absurd (p.0 fault q.0.wrong)
  one_send side what key outcome.Did (outcome.Arrived n) x y p q = absurd q
  one_send side what key outcome.Did outcome.Cut x y p q = absurd q
  one_send side what key (outcome.Refused fault) outcome.Did x y p q = absurd (q.0 fault p.0.wrong)
  one_send side what key (outcome.Refused fault) (outcome.Refused other) x y p q =
      (ap (λ (f : SendFault). outcome.Refused f) (one_refusal (frames_of (end_of link side).sent) (status_at limits link side) what fault other p.0 q.0), p.1 ∙ sym q.1)
  one_send side what key (outcome.Refused fault) (outcome.Arrived n) x y p q = absurd q
  one_send side what key (outcome.Refused fault) outcome.Cut x y p q = absurd q
  one_send side what key (outcome.Arrived n) b x y p q = absurd p
  one_send side what key outcome.Cut b x y p q = absurd p

  one_answer : (move : Move) (a b : Answer) (x y : Link) → IsMoveAnswered limits link move a x → IsMoveAnswered limits link move b y → AreOne a b x y
  one_answer (Begin side kind payload fin key) a b x y p q = one_send side (send.Begin kind payload fin) key a b x y p q
  one_answer (More side payload fin key) a b x y p q = one_send side (send.More payload fin) key a b x y p q
  one_answer (Ping side payload key) a b x y p q = one_send side (send.Ping payload) key a b x y p q
  one_answer (Pong side payload key) a b x y p q = one_send side (send.Pong payload) key a b x y p q
  one_answer (Close side given key) a b x y p q = one_send side (send.Close (close_owned given)) key a b x y p q
  one_answer (Arrive side bytes key) a b x y p q = (p.0 ∙ sym q.0, p.1 ∙ sym q.1)
  one_answer (Cut side) a b x y p q = (p.0 ∙ sym q.0, p.1 ∙ sym q.1)

-- ---- one play

pub plays_are_one : (limits : BothLimits) (link : Link) (moves : List Move) (answers others : List Answer) (x y : Link) → Plays limits link moves answers x → Plays limits link moves others y → (answers ≡ others) × (x ≡ y)
plays_are_one limits link [] answers others x y p q = (p.0 ∙ sym q.0, p.1 ∙ sym q.1)
plays_are_one limits link (move ∷ moves) [] others x y p q = absurd p
plays_are_one limits link (move ∷ moves) (a ∷ answers) [] x y p q = absurd q
plays_are_one limits link (move ∷ moves) (a ∷ answers) (b ∷ others) x y p q =
    let first = one_answer limits link move a b p.0 q.0 p.1 q.1 in
    let rest = plays_are_one limits q.0 moves answers others x y (subst (λ (l : Link). Plays limits l moves answers x) first.1 p.2) q.2 in
    (ap (λ (c : Answer). c ∷ answers) first.0 ∙ ap (λ (l : List Answer). b ∷ l) rest.0, rest.1)

-- ---- one move more

pub plays_more : (limits : BothLimits) (link : Link) (moves : List Move) (move : Move) (answers : List Answer) (answer : Answer) (between after : Link)
    → Plays limits link moves answers between → IsMoveAnswered limits between move answer after → Plays limits link (moves ++ move ∷ []) (answers ++ answer ∷ []) after
plays_more limits link [] move answers answer between after p a =
    subst (λ (l : List Answer). Plays limits link (move ∷ []) (l ++ answer ∷ []) after) (sym p.0)
    (after, subst (λ (l : Link). IsMoveAnswered limits l move answer after) p.1 a, (refl, refl))
plays_more limits link (m ∷ moves) move [] answer between after p a = absurd p
plays_more limits link (m ∷ moves) move (b ∷ answers) answer between after p a = (p.0, p.1, plays_more limits p.0 moves move answers answer between after p.2 a)
