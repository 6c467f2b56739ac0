-- What goes on with a client, as one machine: its request is read and answered, something is played to it, or it is
-- left.
use Rattle.std.specs.Prelude.{◌≡◌, ℕ, ⊤, List, []}
use Rattle.ws_machines.specs.Told.{Told}
use Rattle.ws_machines.specs.Machines.{Wants}
use Rattle.ws_loops.specs.Deeds.{Deed, Happened, HasDone, all_done, all_told}
use Rattle.ws_loops.specs.declared.slot.Slot.{Slot}
use Rattle.ws_handshake.specs.Admissions.{AdmitGives, AdmitValue, WasAdmitted, admit_left, wanted_to_admit}
use Rattle.ws_handshake.specs.declared.admission.Admission.{Admission}
use Rattle.ws_clients.specs.Leaving.{WasLeft, leave_left, wanted_to_leave}
use Rattle.ws_clients.specs.declared.talking.Talk.{Talk}
use Rattle.ws_clients.specs.declared.talking.Talk.TheVariants.{Admits, Plays, Leaves}

-- it was told what the one that it is was told, and stays of its kind
abbrev pub agrees_talk : {M : Type 0} → (M → M → List Told → Type 0) → Talk M → Talk M → List Told → Type 0
agrees_talk agrees (Admits start) (Admits now) told = WasAdmitted start now told
agrees_talk agrees (Plays start) (Plays now) told = agrees start now told
agrees_talk agrees (Leaves start) (Leaves now) told = WasLeft start now told
agrees_talk agrees _ _ told = ⊥

-- it wants what that one wants
abbrev pub wants_talk : {M : Type 0} → (M → Wants) → Talk M → Wants
wants_talk wants (Admits now) = wanted_to_admit now
wants_talk wants (Plays now) = wants now
wants_talk wants (Leaves now) = wanted_to_leave now

-- as much can still happen to it as to that one
abbrev pub left_talk : {M : Type 0} → (M → ℕ) → Talk M → ℕ
left_talk left (Admits now) = admit_left now
left_talk left (Plays now) = left now
left_talk left (Leaves now) = leave_left now

-- a request is answered by these subprotocols, and its stream has done nothing
abbrev pub BeginsTalk : {M S : Type 0} → (S → S → List Deed → Type 0) → List (List ℕ) → Talk M → S → Type 0
BeginsTalk did known (Admits start) stream = (start.known ≡ known) × did stream stream []
BeginsTalk did known (Plays start) stream = ⊤
BeginsTalk did known (Leaves start) stream = ⊤

-- Something happened in the slot since some state in which it began so: what its machine was told is what its stream
-- did, in its order, and what the clock says.
pub record IsTalkOf {M S : Type 0} (agrees : M → M → List Told → Type 0) (did : S → S → List Deed → Type 0)
    (known : List (List ℕ)) (slot : Slot (Talk M) S) : Type 0 where
  pub start : Talk M
  pub stream : S
  pub begins : BeginsTalk did known start stream
  pub happened : List Happened
  pub told : agrees_talk agrees start slot.machine (all_told happened)
  pub done : HasDone did stream slot.stream (all_done happened)

-- This came of a request, where these subprotocols are known: a machine that reads and answers one gives it, by all
-- that it was told, and that is what a stream did that had done nothing.
pub record IsAdmission {S : Type 0} (did : S → S → List Deed → Type 0) (known : List (List ℕ)) (admission : Admission)
    : Type 0 where
  pub start : AdmitValue
  pub is_known : start.known ≡ known
  pub happened : List Happened
  pub gives : AdmitGives start (all_told happened) admission
  pub first : S
  pub fresh : did first first []
  pub last : S
  pub done : HasDone did first last (all_done happened)
