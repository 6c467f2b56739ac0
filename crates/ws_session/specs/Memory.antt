-- When a call that takes bytes may want memory. The rule is ours: section 10.4 leaves memory to the endpoint.
use Rattle.std.specs.Prelude.{◌≡◌, ◌≢◌, ℕ, ◌≤◌, ◌<◌, ◌⊎◌, false, List, [], ◌++◌, length, take, None, option_to_list}
use Rattle.std.specs.List.{AllByRecursion}
use Rattle.ws_wire.specs.Header.{HeaderFields, IsHeader, header_bytes}
use Rattle.ws_wire.specs.Masking.{masked_payload}
use Rattle.ws_wire.specs.Frame.{Frame, KeyedFrame, FitsTheLayout, stream_bytes}
use Rattle.ws_session.specs.declared.event.Event.{Event}
use Rattle.ws_session.specs.declared.event.Taken.{Taken}
use Rattle.ws_session.specs.Events.{HasEvents}
use Rattle.ws_session.specs.Replies.{replies_by}
use Rattle.ws_session.specs.Exchange.{SessionValue, Exchange, HasExchanged}

-- What a call would take of a piece, of a session that has exchanged this: the least number of bytes that add an event,
-- with that event, else the whole piece
pub record WouldTake (session : SessionValue) (exchange : Exchange) (piece : List ℕ) (taken : Taken) : Type 0 where
  pub used : taken.used ≤ length piece
  pub event : (events : List Event) → HasEvents session.role session.limits exchange.taken events
      → HasEvents session.role session.limits (exchange.taken ++ take taken.used piece)
      (events ++ option_to_list taken.event)
  pub least : (n : ℕ) (events : List Event) → n < taken.used
      → HasEvents session.role session.limits exchange.taken events
      → HasEvents session.role session.limits (exchange.taken ++ take n piece) events
  pub whole : taken.event ≡ None → taken.used ≡ length piece

-- the last of these bytes is one of the payload of a data frame, which follows whole frames
pub record EndsInData (bytes : List ℕ) : Type 0 where
  pub before : List KeyedFrame
  pub sent : AllByRecursion FitsTheLayout before
  pub header : HeaderFields
  pub is_header : IsHeader header
  pub is_data : header.opcode ≤ 2
  pub payload : List ℕ
  pub some : 0 < length payload
  pub within : length payload ≤ header.len
  pub parts : bytes ≡ stream_bytes before ++ (header_bytes header ++ masked_payload header.key payload)

-- one of the bytes that are used of a piece, after those taken before, is such
abbrev pub HoldsData : List ℕ → List ℕ → ℕ → Type 0
HoldsData taken piece used = (n : ℕ) × (0 < n) × (n ≤ used) × EndsInData (taken ++ take n piece)

-- Memory may be wanted: the bytes that a call would use hold payload of a data frame, or an answer is owed. So it is
-- whatever the session has exchanged, while its stream has not ended
abbrev pub WantsMemory : (Event → List Frame) → SessionValue → List ℕ → Type 0
WantsMemory reply session piece = (exchange : Exchange) → exchange.ended ≡ false
    → HasExchanged session exchange.sent exchange.taken exchange.ended
    → (taken : Taken) → WouldTake session exchange piece taken
    → HoldsData exchange.taken piece taken.used ⊎ (replies_by reply exchange.sent (option_to_list taken.event) ≢ [])

-- The same of a call that keeps the events: the bytes that a call of one event would use hold payload of a data frame,
-- or an event comes. An answer is owed for an event alone
abbrev pub WantsMemoryToTell : SessionValue → List ℕ → Type 0
WantsMemoryToTell session piece = (exchange : Exchange) → exchange.ended ≡ false
    → HasExchanged session exchange.sent exchange.taken exchange.ended
    → (taken : Taken) → WouldTake session exchange piece taken
    → HoldsData exchange.taken piece taken.used ⊎ (taken.event ≢ None)
