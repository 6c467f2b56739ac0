-- Inside the crate: the sending side as it is kept, and one send as it is checked, for contracts of private functions.
-- A reader may skip this file.
use Rattle.std.specs.Prelude.{◌≡◌, ℕ, ◌+◌, ◌≤◌, ◌<◌, Bool, if◌then◌else◌, List, [], ◌++◌, length, Option, Some, None}
use Rattle.ws_text.specs.Stream.{HasReadText}
use Rattle.ws_session.specs.declared.limits.TheConstants.{MAX_MESSAGE}
use Rattle.ws_session.specs.declared.message.Kind.TheVariants.{Text, Binary}
use Rattle.ws_session.specs.declared.message.Message.{Message}
use Rattle.ws_session.specs.declared.sending.SentSoFar.{SentSoFar}
use Rattle.ws_session.specs.declared.sending.SentSoFar.TheVariants as so_far
use Rattle.ws_session.specs.declared.send_fault.SendFault.{SendFault}
use Rattle.ws_session.specs.declared.send_fault.SendFault.TheVariants.{NotText, TooLong}
use Rattle.ws_session.specs.Faults.{IsLowest}
use Rattle.ws_session.specs.Exchange.{SendingValue, IsSendingOf}
use Rattle.ws_session.specs.InnerNextFrame.{opened_with}
use Rattle.ws_session.specs.Sends.{Send, frame_of, IsNoText, IsWrongWith, number_of_fault}

-- ---- what is kept

abbrev pub kept_tail : Option (List ℕ) → List ℕ
kept_tail None = []
kept_tail (Some tail) = tail

-- the open message that is kept
abbrev pub sending_of : Option SentSoFar → Option SendingValue
sending_of None = None
sending_of (Some (so_far.Text size text)) = Some (record { kind = Text; size = size; unfinished = kept_tail text })
sending_of (Some (so_far.Binary size)) = Some (record { kind = Binary; size = size; unfinished = [] })

-- nothing of the text was refused
abbrev pub HasReadSome : Option (List ℕ) → Type 0
HasReadSome text = (read : List ℕ) × HasReadText text read

-- it is no larger than a message may be
abbrev pub CanGoOn : Option SentSoFar → Type 0
CanGoOn None = Unit {0}
CanGoOn (Some (so_far.Text size text)) = (size ≤ MAX_MESSAGE) × HasReadSome text
CanGoOn (Some (so_far.Binary size)) = size ≤ MAX_MESSAGE

-- ---- a payload after what was sent of its message

-- the first of the two that it is refused for
abbrev pub IsRefusedBehind : Message → List ℕ → Bool → SendFault → Type 0
IsRefusedBehind message payload fin NotText = (message.kind ≡ Text) × IsNoText fin (message.payload ++ payload)
IsRefusedBehind message payload fin TooLong = (message.kind ≡ Text → ¬ IsNoText fin (message.payload ++ payload))
    × (MAX_MESSAGE < length message.payload + length payload)
IsRefusedBehind message payload fin _ = ⊥

-- the message that is open after it
abbrev pub sent_behind : Message → List ℕ → Bool → Option Message
sent_behind message payload fin = if fin then None
    else Some (record { kind = message.kind; payload = message.payload ++ payload })

-- it may be sent, and this is what is kept then
pub record IsSentBehind (message : Message) (payload : List ℕ) (fin : Bool) (after : Option SendingValue) : Type 0 where
  pub text : message.kind ≡ Text → ¬ IsNoText fin (message.payload ++ payload)
  pub size : length message.payload + length payload ≤ MAX_MESSAGE
  pub sending : IsSendingOf (sent_behind message payload fin) after

-- ---- a send after an open message

-- nothing is wrong with the send itself
abbrev pub IsFineWith : Option Message → Send → Type 0
IsFineWith opened send = (fault : SendFault) → IsWrongWith opened send fault → ⊥

-- the first that is wrong with it
abbrev pub IsFirstWrongWith : Option Message → Send → SendFault → Type 0
IsFirstWrongWith opened send fault = IsLowest SendFault number_of_fault (IsWrongWith opened send) fault

-- it may be sent, and this is what is kept then
pub record IsSentWith (opened : Option Message) (send : Send) (after : Option SendingValue) : Type 0 where
  pub fine : IsFineWith opened send
  pub sending : IsSendingOf (opened_with opened (frame_of send)) after
