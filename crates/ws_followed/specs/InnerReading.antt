-- Inside the crate: how far a followed stream is read. A reader may skip this file.
use Rattle.std.proofs.Common.{◌≡◌, ℕ, List, [], ◌∷◌, ◌++◌, append-nil, arith, codes, refl, sym}
use Rattle.std.proofs.lemmas.List.Elements.{All-nil, All-push}
use Rattle.std.specs.List.{AllByRecursion}
use Rattle.ws_formats.specs.Lines.{CanBeTold, IsLine}
use Rattle.ws_formats.proofs.LetterLines.{line_by}
use Rattle.ws_followed.specs.declared.front.Front.{Front}
use Rattle.ws_followed.specs.declared.front.Front.TheVariants.{Start, Empty, Ruled, Titled, Filtered, FirstNode}
use Rattle.ws_followed.specs.declared.reading.PartialFollowed.{PartialFollowed}
use Rattle.ws_followed.specs.declared.reading.PartialFollowed.TheVariants.{Before, Data, Whole}
use Rattle.ws_followed.specs.declared.segment.Segment.{Segment}
use Rattle.ws_followed.specs.Followed.{AreFollowedLines, AreSegmentLines, BeginsSo, FollowRules, IsRule, LineRules}
use Rattle.ws_followed.specs.Followed.{front_rules}

-- what the line behind those that are read is, but for an empty one before all others
abbrev pub front_line : Front → List ℕ → Type 0
front_line Start line = IsRule line
front_line Empty line = IsRule line
front_line Ruled line = line ≡ codes "Follow: tcp,raw"
front_line Titled line = BeginsSo (codes "Filter: ") line
front_line Filtered line = BeginsSo (codes "Node 0: ") line
front_line FirstNode line = BeginsSo (codes "Node 1: ") line

-- how far it is read with that line
abbrev pub part_behind : Front → PartialFollowed
part_behind Start = Before Ruled
part_behind Empty = Before Ruled
part_behind Ruled = Before Titled
part_behind Titled = Before Filtered
part_behind Filtered = Before FirstNode
part_behind FirstNode = Data []

-- the rules of the lines that are left before the segments
abbrev pub rules_behind_rule : LineRules
rules_behind_rule = front_line Ruled ∷ front_line Titled ∷ front_line Filtered ∷ front_line FirstNode ∷ []

abbrev pub rules_left : Front → LineRules
rules_left Start = front_rules
rules_left Empty = front_rules
rules_left Ruled = rules_behind_rule
rules_left Titled = front_line Titled ∷ front_line Filtered ∷ front_line FirstNode ∷ []
rules_left Filtered = front_line Filtered ∷ front_line FirstNode ∷ []
rules_left FirstNode = front_line FirstNode ∷ []

-- with these lines after what was read, the whole stream has these segments
abbrev pub TellFollowed : PartialFollowed → List Segment → List (List ℕ) → Type 0
TellFollowed (Before Start) segments lines = AreFollowedLines segments lines
TellFollowed (Before Empty) segments lines = FollowRules (rules_left Empty) segments lines
TellFollowed (Before Ruled) segments lines = FollowRules (rules_left Ruled) segments lines
TellFollowed (Before Titled) segments lines = FollowRules (rules_left Titled) segments lines
TellFollowed (Before Filtered) segments lines = FollowRules (rules_left Filtered) segments lines
TellFollowed (Before FirstNode) segments lines = FollowRules (rules_left FirstNode) segments lines
TellFollowed (Data done) segments lines =
    (new : List Segment) × (segments ≡ done ++ new) × AreSegmentLines new lines
TellFollowed (Whole done) segments lines = (segments ≡ done) × (lines ≡ [])

-- ---- what was read begins some followed stream

one_rule : IsRule (codes "=")
one_rule = (omega arith, All-push (λ byte. byte ≡ 61) [] 61 (All-nil (λ byte. byte ≡ 61)) refl)

-- the last lines of a stream without segments
abbrev from_node_one : List (List ℕ)
from_node_one = codes "Node 1: " ∷ codes "=" ∷ []

abbrev from_node_zero : List (List ℕ)
from_node_zero = codes "Node 0: " ∷ from_node_one

abbrev from_filter : List (List ℕ)
from_filter = codes "Filter: " ∷ from_node_zero

abbrev from_title : List (List ℕ)
from_title = codes "Follow: tcp,raw" ∷ from_filter

lines_from_node_one : AllByRecursion IsLine from_node_one
lines_from_node_one = (line_by (codes "Node 1: ") refl, (line_by (codes "=") refl, tt))

lines_from_node_zero : AllByRecursion IsLine from_node_zero
lines_from_node_zero = (line_by (codes "Node 0: ") refl, lines_from_node_one)

lines_from_filter : AllByRecursion IsLine from_filter
lines_from_filter = (line_by (codes "Filter: ") refl, lines_from_node_zero)

lines_from_title : AllByRecursion IsLine from_title
lines_from_title = (line_by (codes "Follow: tcp,raw") refl, lines_from_filter)

-- these lines are what is left
rules_from_title : FollowRules (rules_left Ruled) [] from_title
rules_from_title = (refl, (refl, (refl, (refl, one_rule))))

pub followed_goes_on : (part : PartialFollowed) → CanBeTold (TellFollowed part)
followed_goes_on (Before Start) =
    ([], codes "=" ∷ from_title, (line_by (codes "=") refl, lines_from_title), (one_rule, rules_from_title))
followed_goes_on (Before Empty) =
    ([], codes "=" ∷ from_title, (line_by (codes "=") refl, lines_from_title), (one_rule, rules_from_title))
followed_goes_on (Before Ruled) = ([], from_title, lines_from_title, rules_from_title)
followed_goes_on (Before Titled) = ([], from_filter, lines_from_filter, rules_from_title.1)
followed_goes_on (Before Filtered) = ([], from_node_zero, lines_from_node_zero, rules_from_title.1.1)
followed_goes_on (Before FirstNode) = ([], from_node_one, lines_from_node_one, rules_from_title.1.1.1)
followed_goes_on (Data done) =
    (done, codes "=" ∷ [], (line_by (codes "=") refl, tt), ([], sym (append-nil done), one_rule))
followed_goes_on (Whole done) = (done, [], tt, (refl, refl))
