-- What is asked of an end of a tapped connection still fits its tap where something has happened at the other end.
use Rattle.std.proofs.Common.{◌≡◌, ◌⊎◌, ℕ, ◌<◌, Bool, true, false, List, [], ◌∷◌, ◌++◌, drop, refl}
use Rattle.std.proofs.Common.{sym, ap, ◌∙◌, append-nil, arith, inl, inr, subst}
use Rattle.std.proofs.lemmas.List.{append_cancel_left, drop_all}
use Rattle.ws_wire.specs.declared.role.Role.{Role}
use Rattle.ws_wire.specs.declared.role.Role.TheVariants.{Client, Server}
use Rattle.ws_tap.specs.declared.pipe.PipeStage.{PipeStage}
use Rattle.ws_tap.specs.declared.pipe.PipeStage.TheVariants as stage
use Rattle.ws_tap.specs.declared.tap.Tap.{Tap}
use Rattle.ws_tap.specs.declared.tapped.Tapped.{Tapped}
use Rattle.ws_tap.specs.Told.{TapTold, Passage, other_end, passage, passage_after}
use Rattle.ws_tap.specs.Told.{where_same}
use Rattle.ws_tap.specs.Piping.{PipeValue, IsPipeOf, room_at, room_in, wants_end_at, wants_end_of, with_bytes_taken}
use Rattle.ws_tap.specs.Piping.{with_direction_ended, with_end_come, with_piece}
use Rattle.ws_tap.specs.Tapping.{HasTapped, pipe_from, waits_for}
use Rattle.ws_tap.proofs.Passages.{here, passage_with}
use Rattle.ws_tap.proofs.PipeLemmas.{end_is_due, has_room, pipe_came, pipe_ended, pipe_passed, pipe_took}
use Rattle.ws_tap.proofs.TapStands.{pipe_stands}
use Rattle.ws_relays.specs.Onces.{OnceValue}
use Rattle.ws_relays.specs.Relayed.{MayHappenAt, happened_told}
use Rattle.ws_relays.specs.TappedEnds.{FitsTap}
use Rattle.ws_relays.specs.declared.once.Happened.{Happened}
use Rattle.ws_relays.specs.declared.once.Happened.TheVariants as happened

-- ---- the pipes behind what has happened

same_pipe : {x y : PipeValue} → x.held ≡ y.held → x.total ≡ y.total → x.stage ≡ y.stage → x ≡ y
same_pipe {x} {y} held total at = ap (λ (t : List ℕ). record { held = t; total = x.total; stage = x.stage }) held
    ∙ (ap (λ (t : ℕ). record { held = y.held; total = t; stage = x.stage }) total
    ∙ ap (λ (t : PipeStage). record { held = y.held; total = y.total; stage = t }) at)

-- a direction stands by one pipe alone
pipe_is : (p : Passage) (x y : PipeValue) → IsPipeOf x p → IsPipeOf y p → x ≡ y
pipe_is p x y a b = same_pipe (append_cancel_left p.taken x.held y.held (sym a.begins ∙ b.begins))
    (a.count ∙ sym b.count) (a.stage ∙ sym b.stage)

-- the pipe from the end at which it happened, and the pipe to it
abbrev pipe_out : Happened → PipeValue → PipeValue
pipe_out (happened.Came bytes) pipe = with_piece pipe bytes.items
pipe_out happened.Ended pipe = with_end_come pipe
pipe_out (happened.Taken count) pipe = pipe
pipe_out happened.DirectionEnded pipe = pipe
pipe_out happened.Failed pipe = pipe

abbrev pipe_in : Happened → PipeValue → PipeValue
pipe_in (happened.Came bytes) pipe = pipe
pipe_in happened.Ended pipe = pipe
pipe_in (happened.Taken count) pipe = with_bytes_taken pipe count
pipe_in happened.DirectionEnded pipe = with_direction_ended pipe
pipe_in happened.Failed pipe = pipe

elsewhere : (role : Role) (same other : Passage) → where_same (other_end role) role same other ≡ other
elsewhere Client same other = refl
elsewhere Server same other = refl

back_here : (role : Role) (same other : Passage) → where_same (other_end (other_end role)) role same other ≡ same
back_here Client same other = refl
back_here Server same other = refl

-- a direction behind one event, by what that makes of it
stands_by : (role : Role) (told : List TapTold) (event : TapTold) (p : Passage) (pipe : PipeValue)
    → passage_after role (passage role told) event ≡ p → IsPipeOf pipe p
    → IsPipeOf pipe (passage role (told ++ event ∷ []))
stands_by role told event p pipe is s =
    subst (λ (x : Passage). IsPipeOf pipe x) (sym (passage_with role told event ∙ is)) s

stands_still : (role : Role) (told : List TapTold) (pipe : PipeValue) → IsPipeOf pipe (passage role told)
    → IsPipeOf pipe (passage role (told ++ []))
stands_still role told pipe s =
    subst (λ (x : List TapTold). IsPipeOf pipe (passage role x)) (sym (append-nil told)) s

stands_out : (role : Role) (tap : Tap) (told : List TapTold) (what : Happened) → MayHappenAt role tap what
    → IsPipeOf (pipe_from role tap) (passage role told)
    → IsPipeOf (pipe_out what (pipe_from role tap))
    (passage role (told ++ happened_told role (waits_for role tap) what))
stands_out role tap told (happened.Came bytes) may s = stands_by role told _ _ _ (here role _ _)
    (pipe_came (pipe_from role tap) (passage role told) bytes.items may.0 may.1 s)
stands_out role tap told happened.Ended may s = stands_by role told _ _ _ (here role _ _)
    (pipe_ended (pipe_from role tap) (passage role told) may s)
stands_out role tap told (happened.Taken count) may s = stands_by role told _ _ _ (elsewhere role _ _) s
stands_out role tap told happened.DirectionEnded may s = stands_by role told _ _ _ (elsewhere role _ _) s
stands_out role tap told happened.Failed may s = stands_still role told _ s

stands_in : (role : Role) (tap : Tap) (told : List TapTold) (what : Happened) → MayHappenAt role tap what
    → IsPipeOf (pipe_from (other_end role) tap) (passage (other_end role) told)
    → IsPipeOf (pipe_in what (pipe_from (other_end role) tap))
    (passage (other_end role) (told ++ happened_told role (waits_for role tap) what))
stands_in role tap told (happened.Came bytes) may s = stands_by (other_end role) told _ _ _ (elsewhere role _ _) s
stands_in role tap told happened.Ended may s = stands_by (other_end role) told _ _ _ (elsewhere role _ _) s
stands_in role tap told (happened.Taken count) may s = stands_by (other_end role) told _ _ _ (back_here role _ _)
    (pipe_took (pipe_from (other_end role) tap) (passage (other_end role) told) count s)
stands_in role tap told happened.DirectionEnded may s = stands_by (other_end role) told _ _ _ (back_here role _ _)
    (pipe_passed (pipe_from (other_end role) tap) (passage (other_end role) told) may s)
stands_in role tap told happened.Failed may s = stands_still (other_end role) told _ s

-- ---- what is asked of the other end

-- it fits the pipe to that end, and the pipe from it
abbrev FitsPipes : PipeValue → PipeValue → OnceValue → Type 0
FitsPipes to from once = ((once.bytes ≡ []) ⊎ (once.bytes ≡ to.held)) × ((once.room ≡ 0) ⊎ (once.room ≡ room_in from))
    × ((once.ends ≡ false) ⊎ (wants_end_of to ≡ true))

-- where bytes may come, no end is to be passed on
not_due : (held : List ℕ) (at : PipeStage) (total : ℕ) → 0 < room_at held at total → wants_end_at held at ≡ true
    → {P : Type 0} → P
not_due held at total some wanted {P} =
    let (none, is_open, most, counts) = has_room held at total some in
    let (nothing, is_ended) = end_is_due held at wanted in absurd (let e : stage.Open ≡ stage.Ended = sym is_open
    ∙ is_ended in cc)

ends_not : (ends : Bool) (held : List ℕ) (at : PipeStage) (total : ℕ) → 0 < room_at held at total
    → (ends ≡ false) ⊎ (wants_end_at held at ≡ true) → ends ≡ false
ends_not ends held at total some (inl none) = none
ends_not ends held at total some (inr wanted) = not_due held at total some wanted

bytes_not : (bytes held : List ℕ) → held ≡ [] → (bytes ≡ []) ⊎ (bytes ≡ held) → bytes ≡ []
bytes_not bytes held none (inl is) = is
bytes_not bytes held none (inr is) = is ∙ none

-- where bytes are taken, no more may come
room_behind : (room count : ℕ) (held : List ℕ) (at : PipeStage) (total : ℕ)
    → (room ≡ 0) ⊎ (room ≡ room_at held at total) → (room ≡ 0) ⊎ (room ≡ room_at (drop count held) at total)
room_behind room count held at total (inl none) = inl none
room_behind room count [] at total (inr is) =
    inr (is ∙ ap (λ (t : List ℕ). room_at t at total) (sym (drop_all count [] (omega arith))))
room_behind room count (byte ∷ held) at total (inr is) = inl is

-- where the end is to be passed on, none may come either
room_at_end : (room : ℕ) (held : List ℕ) (at : PipeStage) (total : ℕ) → wants_end_at held at ≡ true
    → (room ≡ 0) ⊎ (room ≡ room_at held at total) → room ≡ 0
room_at_end room held at total wanted (inl none) = none
room_at_end room [] stage.Open total wanted (inr is) = absurd cc
room_at_end room [] stage.Ended total wanted (inr is) = is
room_at_end room [] stage.Passed total wanted (inr is) = absurd cc
room_at_end room (byte ∷ held) at total wanted (inr is) = absurd cc

fits_still : (role : Role) (tap : Tap) (what : Happened) (once : OnceValue) → MayHappenAt role tap what
    → FitsPipes (pipe_from role tap) (pipe_from (other_end role) tap) once
    → FitsPipes (pipe_out what (pipe_from role tap)) (pipe_in what (pipe_from (other_end role) tap)) once
fits_still role tap (happened.Came bytes) once may fits =
    let pipe = pipe_from role tap in
    let (none, is_open, most, counts) = has_room pipe.held pipe.stage pipe.total (omega (arith, may.0, may.1)) in (
      inl (bytes_not once.bytes pipe.held none fits.0),
      fits.1,
      inl (ends_not once.ends pipe.held pipe.stage pipe.total (omega (arith, may.0, may.1)) fits.2),
    )
fits_still role tap happened.Ended once may fits =
    let pipe = pipe_from role tap in
    (fits.0, fits.1, inl (ends_not once.ends pipe.held pipe.stage pipe.total may fits.2))
fits_still role tap (happened.Taken count) once may fits =
    let pipe = pipe_from (other_end role) tap in
    (fits.0, room_behind once.room count pipe.held pipe.stage pipe.total fits.1, fits.2)
fits_still role tap happened.DirectionEnded once may fits =
    let pipe = pipe_from (other_end role) tap in
    (fits.0, inl (room_at_end once.room pipe.held pipe.stage pipe.total may fits.1), fits.2)
fits_still role tap happened.Failed once may fits = fits

-- so it does for a tap
pipes_of : (role : Role) (tap : Tap) (once : OnceValue) → FitsTap (other_end role) tap once
    → FitsPipes (pipe_from role tap) (pipe_from (other_end role) tap) once
pipes_of Client tap once fits = fits
pipes_of Server tap once fits = fits

fits_of : (role : Role) (tap : Tap) (once : OnceValue)
    → FitsPipes (pipe_from role tap) (pipe_from (other_end role) tap) once → FitsTap (other_end role) tap once
fits_of Client tap once fits = fits
fits_of Server tap once fits = fits

-- what is asked of the other end still fits
pub other_fits : (role : Role) (old new : Tap) (what : Happened) (once : OnceValue) (tapped : Tapped)
    (told : List TapTold) (text after : List ℕ) → HasTapped tapped told old text
    → HasTapped tapped (told ++ happened_told role (waits_for role old) what) new after → MayHappenAt role old what
    → FitsTap (other_end role) old once → FitsTap (other_end role) new once
other_fits role old new what once tapped told text after h now may fits =
    let later = told ++ happened_told role (waits_for role old) what in
    let out = pipe_is (passage role later) _ _ (stands_out role old told what may (pipe_stands role tapped told old text
    h)) (pipe_stands role tapped later new after now) in
    let in_ = pipe_is (passage (other_end role) later) _ _ (stands_in role old told what may
    (pipe_stands (other_end role) tapped told old text h)) (pipe_stands (other_end role) tapped later new after now)
    in
    fits_of role new once (subst (λ (p : PipeValue). FitsPipes p (pipe_from (other_end role) new) once) out
    (subst (λ (p : PipeValue). FitsPipes (pipe_out what (pipe_from role old)) p once) in_
    (fits_still role old what once may (pipes_of role old once fits))))
