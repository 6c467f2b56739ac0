-- What a close frame says, RFC 6455 sections 5.5.1 and 7.4.
use Rattle.std.specs.Prelude.{◌≡◌, ℕ, ◌+◌, ◌*◌, ◌^◌, ◌/◌, ◌%◌, ◌≤◌, ◌<◌, ◌⊎◌, List, [], ◌∷◌, length, Option, Some, None}
use Rattle.std.specs.Int.{IsInRange}
use Rattle.ws_text.specs.Text.{IsText}

-- a close code and a close reason
pub record CloseValue : Type 0 where
  pub code : ℕ
  pub reason : List ℕ

-- The codes that an endpoint may send. Section 7.4.1 defines 1000 to 1003 and 1007 to 1011, the registry
-- of section 11.7 adds 1012 to 1014, and section 7.4.2 leaves 3000 to 4999 to libraries and applications.
-- 1004 is reserved, and 1005, 1006 and 1015 stand for closes of which no frame tells.
-- our choice: every other code is refused, also one that the registry may define some day
abbrev pub CodeAllowed : ℕ → Type 0
CodeAllowed code = IsInRange 1000 1003 code ⊎ (IsInRange 1007 1014 code ⊎ IsInRange 3000 4999 code)

-- a code that an endpoint may send has this higher byte
abbrev pub CodeMayBegin : ℕ → Type 0
CodeMayBegin high = (low : ℕ) × (low < 256) × CodeAllowed (256 * high + low)

-- the bytes of a close payload: none, or the code's two bytes, the higher first, and the reason
abbrev pub close_payload : Option CloseValue → List ℕ
close_payload None = []
close_payload (Some close) = (close.code / 256) ∷ (close.code % 256) ∷ close.reason

-- what may be said: a control frame's payload has at most 125 bytes (section 5.5)
pub record CanBeSaid (close : CloseValue) : Type 0 where
  pub code : CodeAllowed close.code
  pub reason : IsText close.reason
  pub short : length close.reason ≤ 123

-- the payload of a close frame that says this, or nothing
abbrev pub IsClosePayload : List ℕ → Option CloseValue → Type 0
IsClosePayload payload None = payload ≡ close_payload None
IsClosePayload payload (Some close) = CanBeSaid close × (payload ≡ close_payload (Some close))

-- ---- what is wrong with a payload

-- these two bytes and the rest stand there, whether they may be said or not
pub record HoldsCode (payload : List ℕ) (close : CloseValue) : Type 0 where
  pub fits : close.code < 2 ^ 16
  pub bytes : payload ≡ close_payload (Some close)

-- the code may not stand in a close frame
abbrev pub HasBadCode : List ℕ → Type 0
HasBadCode payload = (close : CloseValue) × HoldsCode payload close × (¬ CodeAllowed close.code)

-- the code may, and the reason is no text
abbrev pub HasBadReason : List ℕ → Type 0
HasBadReason payload = (close : CloseValue) × HoldsCode payload close × CodeAllowed close.code × (¬ IsText close.reason)
