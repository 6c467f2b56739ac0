-- Inside the crate: what a call of the receiving side makes of a piece, told by the one frame that it takes. A reader
-- may skip this file.
use Rattle.std.specs.Prelude.{◌≡◌, ℕ, ◌+◌, ◌⊎◌, List, ◌++◌, length, Option, Some, None}
use Rattle.ws_wire.specs.Header.{AreBytes}
use Rattle.ws_session.specs.declared.message.Message.{Message}
use Rattle.ws_session.specs.declared.reason.Reason.{Reason}
use Rattle.ws_session.specs.declared.event.Event.{Event}
use Rattle.ws_session.specs.declared.event.Event.TheVariants as event
use Rattle.ws_session.specs.declared.event.Taken.{Taken}
use Rattle.ws_session.specs.declared.replying.Replying.{Replying}
use Rattle.ws_session.specs.declared.receiver.under_way.UnderWay.{UnderWay}
use Rattle.ws_session.specs.InnerContent.{Content}
use Rattle.ws_session.specs.InnerNextFrame.{IsPartOfFrame, IsFirstFaultOfNext}
use Rattle.ws_session.specs.InnerReceiving.{AssemblyValue, IsWholeFrame, HasNewData}
use Rattle.ws_session.specs.InnerReceiver.{ReceiverValue, receiver_of, event_of_kept, opened_by, HasReceived}

-- the frame under way goes on with the whole piece: nothing is wrong, and nothing is to be told
pub record FrameGoesOn (old new : ReceiverValue) (piece : List ℕ) : Type 0 where
  pub part : IsPartOfFrame old.role old.limits old.opened (old.partial_frame ++ piece)
  pub opened_is : new.opened ≡ old.opened
  pub partial : new.partial_frame ≡ old.partial_frame ++ piece

-- the frame is whole with so many bytes of the piece, nothing is wrong with it, and this event is told of it
pub record HoldsFrame (old : ReceiverValue) (piece : List ℕ) (used : ℕ) (e : Event) (opened : Option Message)
    : Type 0 where
  pub assembly : AssemblyValue
  pub frame : UnderWay
  pub content : Content
  pub opened_is : assembly.opened ≡ old.opened
  pub whole : IsWholeFrame old.role old.limits assembly (old.partial_frame ++ piece) (length old.partial_frame + used)
      content
  pub told : e ≡ event_of_kept (receiver_of old.role old.limits assembly frame) content
  pub opens : opened ≡ opened_by (receiver_of old.role old.limits assembly frame) content

-- the first fault is told at the last of so many bytes of the piece
pub record HoldsFault (old : ReceiverValue) (piece : List ℕ) (used : ℕ) (e : Event) (opened : Option Message)
    : Type 0 where
  pub reason : Reason
  pub bytes : AreBytes (old.partial_frame ++ piece)
  pub first : IsFirstFaultOfNext old.role old.limits old.opened (old.partial_frame ++ piece)
      (length old.partial_frame + used) reason
  pub told : e ≡ event.Failed reason
  pub opens : opened ≡ None

-- one of the two
abbrev pub HoldsEvent : ReceiverValue → List ℕ → ℕ → Event → Option Message → Type 0
HoldsEvent old piece used e opened = HoldsFrame old piece used e opened ⊎ HoldsFault old piece used e opened

-- What a call makes of a piece, of which it used so many bytes: the frame goes on with all of it, or it holds an event,
-- of which came what is to come
abbrev pub ReceivesSo : Replying → ReceiverValue → ReceiverValue → List ℕ → List ℕ → List ℕ → ℕ → Option Event → Type 0
ReceivesSo r old new piece before after used None = (used ≡ length piece) × FrameGoesOn old new piece × (after ≡ before)
ReceivesSo r old new piece before after used (Some e) = (opened : Option Message) × HoldsEvent old piece used e opened
    × HasReceived r old new before after e opened

abbrev pub Receives : Replying → ReceiverValue → ReceiverValue → List ℕ → List ℕ → List ℕ → Taken → Type 0
Receives r old new piece before after taken = ReceivesSo r old new piece before after taken.used taken.event

-- Memory may be wanted: a byte of the piece is of the payload of a data frame, or the piece holds an event of which
-- something is wanted
abbrev pub WantsRoom : (Event → Type 0) → ReceiverValue → List ℕ → Type 0
WantsRoom wants old piece = (AreBytes (old.partial_frame ++ piece)
    × HasNewData old.role old.limits old.opened (length old.partial_frame) (old.partial_frame ++ piece))
    ⊎ ((used : ℕ) × (e : Event) × (opened : Option Message) × HoldsEvent old piece used e opened × wants e)
