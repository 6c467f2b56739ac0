-- What `tshark -q -z follow,tcp,raw,N` prints of a connection: perhaps an empty line; a line of `=`; what was followed,
-- and how; the filter; the addresses of both ends; a line for each segment; and a line of `=`.
use Rattle.std.specs.Prelude.{◌≡◌, ℕ, ◌<◌, All, List, [], ◌∷◌, ◌++◌, length, codes, IsTrue, nat_eq}
use Rattle.std.specs.List.{starts_with}
use Rattle.ws_followed.specs.declared.segment.Segment.{Segment}
use Rattle.ws_followed.specs.Segments.{IsSegmentLine}

-- a line of `=`, of any length
abbrev pub IsRule : List ℕ → Type 0
IsRule line = (0 < length line) × All (λ byte. byte ≡ 61) line

-- a line that begins so
abbrev pub BeginsSo : List ℕ → List ℕ → Type 0
BeginsSo front line = IsTrue (starts_with nat_eq line front)

-- a line for each segment, and then a line of `=`, which is the last
abbrev pub AreSegmentLines : List Segment → List (List ℕ) → Type 0
AreSegmentLines segments [] = ⊥
AreSegmentLines [] (line ∷ []) = IsRule line
AreSegmentLines [] (line ∷ next ∷ lines) = ⊥
AreSegmentLines (segment ∷ segments) (line ∷ lines) = IsSegmentLine segment line × AreSegmentLines segments lines

-- what each of the lines before the segments is, in their order
abbrev pub LineRules : Type 1
LineRules = List (List ℕ → Type 0)

abbrev pub front_rules : LineRules
front_rules = IsRule ∷ (λ line. line ≡ codes "Follow: tcp,raw") ∷ BeginsSo (codes "Filter: ")
    ∷ BeginsSo (codes "Node 0: ") ∷ BeginsSo (codes "Node 1: ") ∷ []

-- a line for each of these rules, and then those of the segments
abbrev pub FollowRules : LineRules → List Segment → List (List ℕ) → Type 0
FollowRules [] segments lines = AreSegmentLines segments lines
FollowRules (IsSo ∷ rules) segments [] = ⊥
FollowRules (IsSo ∷ rules) segments (line ∷ lines) = IsSo line × FollowRules rules segments lines

-- an empty line may stand before them
abbrev pub behind_empty_line : List (List ℕ) → List (List ℕ)
behind_empty_line [] = []
behind_empty_line ([] ∷ lines) = lines
behind_empty_line ((byte ∷ bytes) ∷ lines) = (byte ∷ bytes) ∷ lines

-- the lines are those of a followed stream with these segments
abbrev pub AreFollowedLines : List Segment → List (List ℕ) → Type 0
AreFollowedLines segments lines = FollowRules front_rules segments (behind_empty_line lines)
