-- One line more of a followed stream.
use Rattle.std.proofs.Common.{◌≡◌, ◌∙◌, ◌<◌, ℕ, List, [], ◌∷◌, ◌++◌, append_assoc, append-nil, arith, refl, subst, sym}
use Rattle.std.specs.Prelude.{IfErr, IfOk, Result, Ok, Err}
use Rattle.ws_base.specs.declared.text_fault.LineFault.{LineFault}
use Rattle.ws_base.specs.declared.text_fault.LineFault.TheVariants.{Damaged, NoMemory}
use Rattle.ws_formats.specs.Reading.{TakesLine}
use Rattle.ws_followed.specs.declared.front.Front.{Front}
use Rattle.ws_followed.specs.declared.front.Front.TheVariants.{Start, Empty, Ruled, Titled, Filtered, FirstNode}
use Rattle.ws_followed.specs.declared.reading.PartialFollowed.{PartialFollowed}
use Rattle.ws_followed.specs.declared.reading.PartialFollowed.TheVariants.{Before, Data, Whole}
use Rattle.ws_followed.specs.declared.segment.Segment.{Segment}
use Rattle.ws_followed.specs.Followed.{AreFollowedLines, AreSegmentLines, FollowRules, IsRule, front_rules}
use Rattle.ws_followed.specs.InnerReading.{TellFollowed, front_line, part_behind}
use Rattle.ws_followed.specs.Segments.{IsSegmentLine}
use Rattle.ws_followed.proofs.SegmentLines.{rule_tells_none}

-- with a line more there is what the longer part tells
abbrev pub Takes : PartialFollowed → PartialFollowed → List ℕ → Type 0
Takes part longer line = (value : List Segment) (more : List (List ℕ)) →
    (TellFollowed part value (line ∷ more) → (other : List Segment) × TellFollowed longer other more)
    × (TellFollowed longer value more → TellFollowed part value (line ∷ more))

-- and with one that may not stand there nothing is told
abbrev pub Refuses : PartialFollowed → List ℕ → Type 0
Refuses part line = (value : List Segment) (more : List (List ℕ)) → TellFollowed part value (line ∷ more) → ⊥

-- ---- before the segments

pub empty_taken : Takes (Before Start) (Before Empty) []
empty_taken value more = (λ told. (value, told), λ told. told)

start_taken : (line : List ℕ) → IsRule line → Takes (Before Start) (Before Ruled) line
start_taken [] is = absurd (let none : 0 < 0 = is.0 in omega arith)
start_taken (byte ∷ bytes) is = λ value more. (λ told. (value, told.1), λ told. (is, told))

pub front_taken : (front : Front) (line : List ℕ) → front_line front line → Takes (Before front) (part_behind front) line
front_taken Start line is value more = start_taken line is value more
front_taken Empty line is value more = (λ told. (value, told.1), λ told. (is, told))
front_taken Ruled line is value more = (λ told. (value, told.1), λ told. (is, told))
front_taken Titled line is value more = (λ told. (value, told.1), λ told. (is, told))
front_taken Filtered line is value more = (λ told. (value, told.1), λ told. (is, told))
front_taken FirstNode line is value more =
    (λ told. (value, (value, refl, told.1)), λ told. (is, subst (λ (l : List Segment). AreSegmentLines l more) (sym told.1) told.2))

start_refused : (line : List ℕ) → (line ≡ [] → ⊥) → (IsRule line → ⊥) → Refuses (Before Start) line
start_refused [] some none value more told = some refl
start_refused (byte ∷ bytes) some none value more told = none told.0

pub front_refused : (front : Front) (line : List ℕ) → (front ≡ Start → line ≡ [] → ⊥) → (front_line front line → ⊥)
    → Refuses (Before front) line
front_refused Start line some none value more told = start_refused line (some refl) none value more told
front_refused Empty line some none value more told = none told.0
front_refused Ruled line some none value more told = none told.0
front_refused Titled line some none value more told = none told.0
front_refused Filtered line some none value more told = none told.0
front_refused FirstNode line some none value more told = none told.0

-- ---- the segments

-- a line of `=` is the last
nothing_more : (new : List Segment) (line : List ℕ) → IsRule line → (more : List (List ℕ))
    → AreSegmentLines new (line ∷ more) → more ≡ []
nothing_more [] line is [] are = refl
nothing_more [] line is (next ∷ more) are = absurd are
nothing_more (segment ∷ new) line is more are = absurd (rule_tells_none segment line is are.0)

last_line : (line : List ℕ) → IsRule line → (more : List (List ℕ)) → more ≡ [] → AreSegmentLines [] (line ∷ more)
last_line line is [] e = is
last_line line is (next ∷ more) e = absurd cc

pub rule_taken : (done : List Segment) (line : List ℕ) → IsRule line → Takes (Data done) (Whole done) line
rule_taken done line is value more = (
  λ told. (done, (refl, nothing_more told.0 line is more told.2)),
  λ told. ([], told.0 ∙ sym (append-nil done), last_line line is more told.1),
)

-- one of a segment
first_segment : (new : List Segment) (line : List ℕ) (more : List (List ℕ)) → (IsRule line → ⊥)
    → AreSegmentLines new (line ∷ more)
    → (first : Segment) × (later : List Segment) × IsSegmentLine first line × AreSegmentLines later more
first_segment [] line [] none are = absurd (none are)
first_segment [] line (next ∷ more) none are = absurd are
first_segment (segment ∷ new) line more none are = (segment, new, are.0, are.1)

pub segment_taken : (done : List Segment) (segment : Segment) (line : List ℕ) → (IsRule line → ⊥)
    → IsSegmentLine segment line → Takes (Data done) (Data (done ++ segment ∷ [])) line
segment_taken done segment line none is value more = (
  λ told.
      let (first, later, here, behind) = first_segment told.0 line more none told.2 in
      ((done ++ segment ∷ []) ++ later, (later, refl, behind)),
  λ told. (segment ∷ told.0, told.1 ∙ append_assoc done (segment ∷ []) told.0, (is, told.2)),
)

-- and where memory for it is refused nothing more is told
pub taken_with : (done : List Segment) (segment : Segment) (line : List ℕ) → (IsRule line → ⊥)
    → IsSegmentLine segment line → (result : Result PartialFollowed LineFault)
    → IfOk result (λ longer. longer ≡ Data (done ++ segment ∷ [])) → IfErr result (λ fault. fault ≡ NoMemory)
    → TakesLine TellFollowed (Data done) line result
taken_with done segment line none is (Ok longer) made memory =
    subst (λ (part : PartialFollowed). Takes (Data done) part line) (sym made) (segment_taken done segment line none is)
taken_with done segment line none is (Err fault) made memory = λ damaged.
    let apart : NoMemory ≡ Damaged = sym memory ∙ damaged in
    absurd cc

pub segment_refused : (done : List Segment) (line : List ℕ) → (IsRule line → ⊥)
    → ((segment : Segment) → IsSegmentLine segment line → ⊥) → Refuses (Data done) line
segment_refused done line none other value more told =
    let (first, later, here, behind) = first_segment told.0 line more none told.2 in
    other first here

-- behind the last line nothing is read
pub whole_refused : (done : List Segment) (line : List ℕ) → Refuses (Whole done) line
whole_refused done line value more told = absurd cc

-- only what has its last line is a whole stream
rules_unmet : (front : Front) (value : List Segment) → TellFollowed (Before front) value [] → ⊥
rules_unmet Start value told = told
rules_unmet Empty value told = told
rules_unmet Ruled value told = told
rules_unmet Titled value told = told
rules_unmet Filtered value told = told
rules_unmet FirstNode value told = told

no_last : (new : List Segment) → AreSegmentLines new [] → ⊥
no_last [] are = are
no_last (segment ∷ new) are = are

pub not_whole : (part : PartialFollowed) (value : List Segment) → ((done : List Segment) → part ≡ Whole done → ⊥)
    → TellFollowed part value [] → ⊥
not_whole (Before front) value other told = rules_unmet front value told
not_whole (Data done) value other told = no_last told.0 told.2
not_whole (Whole done) value other told = other done refl
