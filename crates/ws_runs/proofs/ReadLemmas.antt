-- Lines of runs, the first of which is taken off.
use Rattle.std.proofs.Common.{◌≡◌, ◌∙◌, ℕ, List, [], ◌∷◌, ◌++◌, ap, sym, refl, subst, append_assoc, append-nil, arith, slice_index, Option, Some}
use Rattle.std.proofs.lemmas.Slice.Eq.{bytes_eq-Decides}
use Rattle.std.specs.Str.{bytes_eq}
use Rattle.ws_formats.specs.Lines.{IsLine}
use Rattle.ws_formats.proofs.DamagedLines.{no_feed_in_line, no_line_empty, one_line}
use Rattle.ws_reports.specs.Cutting.{TellsNoCase}
use Rattle.ws_reports.specs.KnownLines.{IsBesideCases, IsTotal, StandsFirst}
use Rattle.ws_runs.specs.RunLines.{AreRunLines, IsBare, IsRunLine, RunLine}
use Rattle.ws_runs.specs.RunLines.RunLine.{Below, Note, Other, Peer, Total, Verdict}
use Rattle.ws_runs.specs.Names.{place_among}
use Rattle.ws_runs.specs.Runs.{PeerValue, ReadingValue, RunsValue, below_of, first_reading, new_peer, peer_names, read_so}
use Rattle.ws_runs.specs.Runs.{runs_of, runs_with_peer, with_line, with_lines}
use Rattle.ws_runs.specs.Views.{HasPlace, IsPlaceOf}
use Rattle.ws_runs.proofs.PutLemmas.{keys_stay, put_twice}

-- ---- one line

-- a bare line that is neither a total nor beside cases, and tells of no case, means nothing
pub means_nothing : (line : List ℕ) → IsBare line → (IsTotal line → ⊥) → (IsBesideCases line → ⊥) → TellsNoCase line
    → (meaning : RunLine) → IsRunLine meaning line → ⊥
means_nothing line bare total beside case (Peer name) is = bare.0 (name, is.0)
means_nothing line bare total beside case (Note text) is = bare.1 (text, is.0)
means_nothing line bare total beside case (Verdict id words text) is = case id words is.2
means_nothing line bare total beside case (Below text) is = bare.2 is.0
means_nothing line bare total beside case Total is = total is.1
means_nothing line bare total beside case Other is = beside is.2

-- ---- the first line

-- the lines are one that means something, and others
abbrev pub IsFirstOf : List ℕ → List ℕ → List RunLine → Type 0
IsFirstOf line after lines = (meaning : RunLine) × (left : List RunLine) × (lines ≡ meaning ∷ left)
    × IsRunLine meaning line × AreRunLines left after

pub first_of : (lines : List RunLine) (rest line after : List ℕ) → AreRunLines lines rest → rest ≡ line ++ 10 ∷ after
    → IsLine line → IsFirstOf line after lines
first_of [] rest line after are cut is_line = absurd (no_line_empty line after (sym cut ∙ are))
first_of (meaning ∷ left) rest line after (own, others, e, is_own, is, are) cut is_line =
    let same = one_line own line others after is_own is_line (sym e ∙ cut) in (
      meaning,
      left,
      refl,
      subst (λ (l : List ℕ). IsRunLine meaning l) same.0 is,
      subst (λ (l : List ℕ). AreRunLines left l) same.1 are,
    )

-- where no line ends there is none
pub no_more : (lines : List RunLine) (rest : List ℕ) → AreRunLines lines rest → IsLine rest
    → (lines ≡ []) × (rest ≡ [])
no_more [] rest are is_line = (refl, are)
no_more (meaning ∷ left) rest (own, others, e, is_own, is, are) is_line =
    absurd (no_feed_in_line own others (subst IsLine e is_line))

-- ---- runs so far

-- what is left decides what all lines say
abbrev pub Decides : ReadingValue → List ℕ → List ℕ → Type 0
Decides reading rest text = (left : List RunLine) → AreRunLines left rest
    → (lines : List RunLine) × AreRunLines lines text × (with_lines reading left ≡ read_so lines)

pub decides_all : (reading : ReadingValue) (text : List ℕ) → reading ≡ first_reading → Decides reading text text
decides_all reading text first left are = (left, are, ap (λ (r : ReadingValue). with_lines r left) first)

pub decides_next : (old new : ReadingValue) (meaning : RunLine) (rest text line after : List ℕ)
    → rest ≡ line ++ 10 ∷ after → IsLine line → IsRunLine meaning line
    → ((left : List RunLine) → AreRunLines left after → new ≡ with_line old meaning left) → Decides old rest text
    → Decides new after text
decides_next old new meaning rest text line after cut is_line is moved decides left are =
    let whole = decides (meaning ∷ left) (line, after, cut, is_line, is, are) in
    (whole.0, whole.1, ap (λ (r : ReadingValue). with_lines r left) (moved left are) ∙ whole.2)

pub decided : (reading : ReadingValue) (lines : List RunLine) (rest text : List ℕ) → AreRunLines lines rest
    → IsLine rest → Decides reading rest text
    → (all : List RunLine) × AreRunLines all text × (reading.runs ≡ runs_of all)
decided reading lines rest text are is_line decides =
    let whole = decides [] (no_more lines rest are is_line).1 in
    (whole.0, whole.1, ap (λ (r : ReadingValue). r.runs) whole.2)

-- ---- lines below

-- these lines at the front are below
abbrev pub IsBelowSoFar : List ℕ → List ℕ → List ℕ → Type 0
IsBelowSoFar front rest text = (text ≡ front ++ rest)
    × ((lines : List RunLine) → AreRunLines lines text
    → (left : List RunLine) × AreRunLines left rest × (below_of lines ≡ front ++ below_of left))

below_one : (meaning : RunLine) (left : List RunLine) (line : List ℕ) → IsRunLine meaning line
    → StandsFirst (32 ∷ []) line → below_of (meaning ∷ left) ≡ line ++ 10 ∷ below_of left
below_one (Below text) left line is first = ap (λ (l : List ℕ). l ++ 10 ∷ below_of left) is.1
below_one (Peer name) left line is first = absurd (differs first.0 (sym is.0 ∙ first.1))
  where
    differs : (more : List ℕ) → 35 ∷ 32 ∷ name ≡ 32 ∷ more → ⊥
    differs more e = let head : 35 ≡ 32 = ap (λ (l : List ℕ). slice_index l 0) e in omega (arith, head)
below_one (Note text) left line is first = absurd (differs first.0 (sym is.0 ∙ first.1))
  where
    differs : (more : List ℕ) → 35 ∷ 58 ∷ 32 ∷ text ≡ 32 ∷ more → ⊥
    differs more e = let head : 35 ≡ 32 = ap (λ (l : List ℕ). slice_index l 0) e in omega (arith, head)
below_one (Verdict id words text) left line is first = absurd (is.0.2 first)
below_one Total left line is first = absurd (is.0.2 first)
below_one Other left line is first = absurd (is.0.2 first)

below_none : (meaning : RunLine) (left : List RunLine) (line : List ℕ) → IsRunLine meaning line
    → (StandsFirst (32 ∷ []) line → ⊥) → below_of (meaning ∷ left) ≡ []
below_none (Below text) left line is apart = absurd (apart is.0)
below_none (Peer name) left line is apart = refl
below_none (Note text) left line is apart = refl
below_none (Verdict id words text) left line is apart = refl
below_none Total left line is apart = refl
below_none Other left line is apart = refl

pub below_begins : (text : List ℕ) → IsBelowSoFar [] text text
below_begins text = (refl, λ lines are. (lines, are, refl))

pub below_goes_on : (front rest text line after : List ℕ) → rest ≡ line ++ 10 ∷ after → IsLine line
    → StandsFirst (32 ∷ []) line → IsBelowSoFar front rest text
    → IsBelowSoFar (front ++ (line ++ 10 ∷ [])) after text
below_goes_on front rest text line after cut is_line first so_far = (
  so_far.0 ∙ ap (λ (l : List ℕ). front ++ l) (cut ∙ sym (append_assoc line (10 ∷ []) after))
      ∙ sym (append_assoc front (line ++ 10 ∷ []) after),
  λ lines are.
      let before = so_far.1 lines are in
      let (meaning, left, e, is, others) = first_of before.0 rest line after before.1 cut is_line in (
        left,
        others,
        before.2 ∙ ap (λ (l : List RunLine). front ++ below_of l) e
            ∙ ap (λ (l : List ℕ). front ++ l) (below_one meaning left line is first
            ∙ sym (append_assoc line (10 ∷ []) (below_of left)))
            ∙ sym (append_assoc front (line ++ 10 ∷ []) (below_of left)),
      ),
)

pub below_stops : (front rest text line after : List ℕ) → rest ≡ line ++ 10 ∷ after → IsLine line
    → (StandsFirst (32 ∷ []) line → ⊥) → IsBelowSoFar front rest text → (lines : List RunLine)
    → AreRunLines lines text → front ≡ below_of lines
below_stops front rest text line after cut is_line apart so_far lines are =
    let before = so_far.1 lines are in
    let (meaning, left, e, is, others) = first_of before.0 rest line after before.1 cut is_line in
    sym (before.2 ∙ ap (λ (l : List RunLine). front ++ below_of l) e
    ∙ ap (λ (l : List ℕ). front ++ l) (below_none meaning left line is apart) ∙ append-nil front)

pub below_ends : (front rest text : List ℕ) → IsLine rest → IsBelowSoFar front rest text → (lines : List RunLine)
    → AreRunLines lines text → front ≡ below_of lines
below_ends front rest text is_line so_far lines are =
    let before = so_far.1 lines are in
    sym (before.2 ∙ ap (λ (l : List RunLine). front ++ below_of l) (no_more before.0 rest before.1 is_line).0
    ∙ append-nil front)

-- ---- the peer of the next lines

pub known_place : (place : Option ℕ) (n : ℕ) (name : List ℕ) (peers : List PeerValue) → IsPlaceOf place name peers
    → place ≡ Some n → place_among name (peer_names peers) ≡ Some n
known_place place n name peers is known = subst (λ (p : Option ℕ). IsPlaceOf p name peers) known is

pub place_stays : (reading : ReadingValue) (runs same : RunsValue) (name : List ℕ) (place : ℕ)
    → reading ≡ record { runs = runs; name = name } → same ≡ runs
    → place_among name (peer_names runs.peers) ≡ Some place → HasPlace reading same place
place_stays reading runs same name place seen is there =
    subst (λ (r : ReadingValue). HasPlace r same place) (sym seen)
    (subst (λ (r : RunsValue). HasPlace (record { runs = runs; name = name }) r place) (sym is)
    (there, λ change. refl))

pub place_comes : (reading : ReadingValue) (runs with_it : RunsValue) (name : List ℕ) (place : ℕ)
    → reading ≡ record { runs = runs; name = name } → with_it ≡ runs_with_peer name (λ peer. peer) runs
    → place_among name (peer_names with_it.peers) ≡ Some place → HasPlace reading with_it place
place_comes reading runs with_it name place seen put there =
    subst (λ (r : ReadingValue). HasPlace r with_it place) (sym seen) (
      there,
      λ change.
          ap (runs_with_peer name change) put
          ∙ ap (λ (l : List PeerValue). record { peers = l; ids = runs.ids })
          (put_twice (λ (peer : PeerValue). bytes_eq peer.name name) change (new_peer name)
          ((bytes_eq-Decides name name).1 refl) runs.peers),
    )

abbrev pub name_of : PeerValue → List ℕ
name_of peer = peer.name

-- a change that keeps names leaves the place as it is
pub place_kept : (runs new : RunsValue) (name : List ℕ) (place : ℕ) (change : PeerValue → PeerValue)
    → ((peer : PeerValue) → (change peer).name ≡ peer.name) → new ≡ runs_with_peer name change runs
    → place_among name (peer_names runs.peers) ≡ Some place → place_among name (peer_names new.peers) ≡ Some place
place_kept runs new name place change keeps put there =
    ap (λ (r : RunsValue). place_among name (peer_names r.peers)) put
    ∙ ap (λ (l : List (List ℕ)). place_among name l)
    (keys_stay name_of name change (change (new_peer name)) (λ peer same. keeps peer) runs.peers place there) ∙ there
