-- Reading the head of an opening handshake from a stream (RFC 6455 section 4), no further than it takes. Which bytes
-- need more, and what the others decide, is said of requests and of responses by themselves.
use Rattle.std.specs.Prelude.{◌≡◌, ℕ, ◌≤◌, true, false, List, [], ◌++◌, length, Result, MatchResult}
use Rattle.std.specs.Io.KnownBytes.{IsAtEnd}
use Rattle.ws_frame.specs.Devices.{Device, HasRead, IsUntouched}
use Rattle.ws_upgrade.specs.Reading.{max_head}
use Rattle.ws_handshake.specs.ReadingHeads.{ReadsNoFurther}
use Rattle.ws_connection.specs.declared.reading_head.HeadEnd.{HeadEnd}
use Rattle.ws_connection.specs.declared.reading_head.HeadEnd.TheVariants.{Decided, Cut, ReadFault}

-- how the reading ended: with a decision on what was read, or where that needs more, at the reader's end or a failure
abbrev pub IsHeadEnd : {D : Type 0} → (List ℕ → Type 0) → (List ℕ → D → Type 0) → HeadEnd D → List ℕ → Device → Type 0
IsHeadEnd needs decides (Decided decision) read input = decides read decision × (input.failed ≡ false)
IsHeadEnd needs decides Cut read input = needs read × (input.failed ≡ false) × IsAtEnd input.new
IsHeadEnd needs decides ReadFault read input = needs read × (input.failed ≡ true)

-- the head was read so: these bytes, at most 8192, and no further than it takes
abbrev pub ReadsHead : {D : Type 0} → (List ℕ → Type 0) → (List ℕ → D → Type 0) → HeadEnd D → List ℕ → Device → Type 0
ReadsHead needs decides end read input =
    HasRead read input × (length read ≤ max_head) × ReadsNoFurther needs read × IsHeadEnd needs decides end read input

-- one read, for the contracts of private functions: a piece was put behind what was there, and an empty one only at the
-- reader's end; or the read failed
abbrev pub ReadsMore : {E : Type 0} → List ℕ → List ℕ → Result ℕ E → Device → Type 0
ReadsMore old new r input = MatchResult r
    (λ count. (piece : List ℕ) × (new ≡ old ++ piece) × (count ≡ length piece) × (count ≤ 1024)
    × HasRead piece input × (count ≡ 0 → IsAtEnd input.new))
    (λ _. (new ≡ old) × IsUntouched input)
