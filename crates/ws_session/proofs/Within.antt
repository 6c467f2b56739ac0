-- Frames of which the first bytes have come: what later frames and more bytes leave.
use Rattle.std.proofs.Common.{◌≡◌, ℕ, ◌+◌, ◌-◌, ◌<◌, ◌≤◌, ◌⊎◌, Bool, true, false, cond, List, [], ◌∷◌, ◌++◌, length, take, drop, Option, Some, None, refl, sym, ap, ◌∙◌, append_assoc, arith, inl, inr, subst}
use Rattle.std.specs.Prelude.{◌||◌, nat_le}
use Rattle.std.proofs.lemmas.Bool.{cases_lt, leb-true, le-leb, lt-leb}
use Rattle.std.proofs.lemmas.List.{length-append, take_all, take-append-drop, length-take}
use Rattle.std.proofs.Math.Seq.{take-append-add}
use Rattle.std.specs.List.{AllByRecursion}
use Rattle.ws_wire.specs.Header.{header_bytes}
use Rattle.ws_wire.specs.Frame.{Frame, KeyedFrame, FitsTheLayout, frame_bytes, stream_bytes}
use Rattle.ws_wire.specs.Stream.{SplitsInto}
use Rattle.ws_wire.proofs.Frames.{no_frame_begins, length-frame_bytes}
use Rattle.ws_session.specs.declared.reason.Reason.{Reason}
use Rattle.ws_session.specs.Limits.{LimitsValue}
use Rattle.ws_session.specs.Messages.{is_close}
use Rattle.ws_session.specs.Faults.{frames_of}
use Rattle.ws_session.specs.Validity.{CloseIsLast, AreValidFrames}
use Rattle.ws_session.specs.Replies.{has_close}
use Rattle.ws_session.specs.InnerNextFrame.{AreSent, header_of}
use Rattle.ws_session.specs.Reach.{passes_limit, size_reason, fitting_after, fitting, first_passing_after, first_passing, ending_within, frames_within, PassingFrame, reason_within, size_fault}
use Rattle.ws_session.proofs.Next.{two_bytes}
use Rattle.ws_session.proofs.OneMoreFrame.{none_in_nothing}
use Rattle.ws_session.proofs.Fitting.{passing_frame}

plain_sum : (k a b c : ℕ) → c ≡ a + b → k + c ≡ (k + a) + b
plain_sum k a b c e = omega (arith, e)

plain_zero : (n : ℕ) → n ≡ 0 + n
plain_zero n = omega arith

-- a frame has two bytes or more
pub some_bytes : (x : KeyedFrame) → 1 < length (frame_bytes x)
some_bytes x = omega (arith, length-frame_bytes x, two_bytes (header_of x))

-- ---- the frames that end within the first bytes

pub ends_within : (n : ℕ) (x : KeyedFrame) (xs : List KeyedFrame) → length (frame_bytes x) ≤ n → ending_within n (x ∷ xs) ≡ x ∷ ending_within (n - length (frame_bytes x)) xs
ends_within n x xs le = rw (le-leb (length (frame_bytes x)) n le) refl

pub ends_beyond : (n : ℕ) (x : KeyedFrame) (xs : List KeyedFrame) → n < length (frame_bytes x) → ending_within n (x ∷ xs) ≡ []
ends_beyond n x xs lt = rw (lt-leb (length (frame_bytes x)) n lt) refl

none_within : (xs : List KeyedFrame) → ending_within 0 xs ≡ []
none_within [] = refl
none_within (x ∷ xs) = ends_beyond 0 x xs (omega (arith, some_bytes x))

pub all_within : (n : ℕ) (xs : List KeyedFrame) → length (stream_bytes xs) ≤ n → ending_within n xs ≡ xs
all_within n [] le = refl
all_within n (x ∷ xs) le =
    let len : length (stream_bytes (x ∷ xs)) ≡ length (frame_bytes x) + length (stream_bytes xs) = length-append (frame_bytes x) (stream_bytes xs) in
    let first : length (frame_bytes x) ≤ n = omega arith in
    let rest : length (stream_bytes xs) ≤ n - length (frame_bytes x) = omega arith in
    ends_within n x xs first ∙ ap (λ (l : List KeyedFrame). x ∷ l) (all_within (n - length (frame_bytes x)) xs rest)

-- where the next frame isn't all there
pub stops_within : (n : ℕ) (xs : List KeyedFrame) (y : KeyedFrame) (ys : List KeyedFrame) → n < length (stream_bytes xs) + length (frame_bytes y) → ending_within n (xs ++ y ∷ ys) ≡ ending_within n xs
stops_within n [] y ys lt = ends_beyond n y ys (omega arith)
stops_within n (x ∷ xs) y ys lt =
    let len : length (stream_bytes (x ∷ xs)) ≡ length (frame_bytes x) + length (stream_bytes xs) = length-append (frame_bytes x) (stream_bytes xs) in
    elim (cases_lt n (length (frame_bytes x))) [
      | inl short ↦ ends_beyond n x (xs ++ y ∷ ys) short ∙ sym (ends_beyond n x xs short)
      | inr le ↦
          let rest : n - length (frame_bytes x) < length (stream_bytes xs) + length (frame_bytes y) = omega arith in
          ends_within n x (xs ++ y ∷ ys) le ∙ ap (λ (l : List KeyedFrame). x ∷ l) (stops_within (n - length (frame_bytes x)) xs y ys rest) ∙ sym (ends_within n x xs le)
    ]

-- where all of the first are there
pub past_within : (n : ℕ) (xs ys : List KeyedFrame) → length (stream_bytes xs) ≤ n → (k : ℕ) × (ending_within n (xs ++ ys) ≡ xs ++ ending_within k ys)
past_within n [] ys le = (n, refl)
past_within n (x ∷ xs) ys le =
    let len : length (stream_bytes (x ∷ xs)) ≡ length (frame_bytes x) + length (stream_bytes xs) = length-append (frame_bytes x) (stream_bytes xs) in
    let first : length (frame_bytes x) ≤ n = omega arith in
    let rest : length (stream_bytes xs) ≤ n - length (frame_bytes x) = omega arith in
    let t = past_within (n - length (frame_bytes x)) xs ys rest in
    (t.0, ends_within n x (xs ++ ys) first ∙ ap (λ (l : List KeyedFrame). x ∷ l) t.1)

-- ---- later frames

same_ending_step : (b : Bool) (n : ℕ) (x : KeyedFrame) (xs ys : List KeyedFrame) → (length (frame_bytes x) ≤ n → ending_within (n - length (frame_bytes x)) xs ≡ ending_within (n - length (frame_bytes x)) ys)
    → ending_within n (cond b [] (x ∷ xs)) ≡ ending_within n (cond b [] (x ∷ ys))
same_ending_step true n x xs ys h = refl
same_ending_step false n x xs ys h =
    elim (cases_lt n (length (frame_bytes x))) [
      | inl lt ↦ ends_beyond n x xs lt ∙ sym (ends_beyond n x ys lt)
      | inr le ↦ ends_within n x xs le ∙ ap (λ (l : List KeyedFrame). x ∷ l) (h le) ∙ sym (ends_within n x ys le)
    ]

same_ending : (limits : LimitsValue) (before : List Frame) (n : ℕ) (xs more : List KeyedFrame) → n ≤ length (stream_bytes xs) → ending_within n (fitting_after limits before (xs ++ more)) ≡ ending_within n (fitting_after limits before xs)
same_ending limits before n [] more le =
    let none : n ≡ 0 = omega arith in
    ap (λ k. ending_within k (fitting_after limits before more)) none ∙ none_within (fitting_after limits before more)
same_ending limits before n (x ∷ xs) more le =
    let len : length (stream_bytes (x ∷ xs)) ≡ length (frame_bytes x) + length (stream_bytes xs) = length-append (frame_bytes x) (stream_bytes xs) in
    let after = before ++ x.frame ∷ [] in
    same_ending_step (passes_limit limits before x.frame) n x (fitting_after limits after (xs ++ more)) (fitting_after limits after xs) (λ first.
    let rest : n - length (frame_bytes x) ≤ length (stream_bytes xs) = omega arith in same_ending limits after (n - length (frame_bytes x)) xs more rest)

header_beyond : (n k m : ℕ) (o : Option PassingFrame) → n ≤ k → reason_within n (k + m) o ≡ None
header_beyond n k m None le = refl
header_beyond n k m (Some x) le = ap (λ b. cond b (Some x.reason) None) (lt-leb (k + m + length (header_bytes (header_of x.frame))) n (omega (arith, two_bytes (header_of x.frame))))

same_header_step : (b : Bool) (n k : ℕ) (x : KeyedFrame) (xs ys : List KeyedFrame) (r : Reason) (o p : Option PassingFrame)
    → reason_within n ((k + length (frame_bytes x)) + length (stream_bytes xs)) o ≡ reason_within n ((k + length (frame_bytes x)) + length (stream_bytes ys)) p
    → reason_within n (k + length (stream_bytes (cond b [] (x ∷ xs)))) (cond b (Some (passing_frame x r)) o) ≡ reason_within n (k + length (stream_bytes (cond b [] (x ∷ ys)))) (cond b (Some (passing_frame x r)) p)
same_header_step true n k x xs ys r o p h = refl
same_header_step false n k x xs ys r o p h =
    ap (λ m. reason_within n m o) (plain_sum k (length (frame_bytes x)) (length (stream_bytes xs)) (length (stream_bytes (x ∷ xs))) (length-append (frame_bytes x) (stream_bytes xs))) ∙ h
    ∙ sym (ap (λ m. reason_within n m p) (plain_sum k (length (frame_bytes x)) (length (stream_bytes ys)) (length (stream_bytes (x ∷ ys))) (length-append (frame_bytes x) (stream_bytes ys))))

same_header_within : (limits : LimitsValue) (before : List Frame) (n k : ℕ) (xs more : List KeyedFrame) → n ≤ k + length (stream_bytes xs)
    → reason_within n (k + length (stream_bytes (fitting_after limits before (xs ++ more)))) (first_passing_after limits before (xs ++ more)) ≡ reason_within n (k + length (stream_bytes (fitting_after limits before xs))) (first_passing_after limits before xs)
same_header_within limits before n k [] more le = header_beyond n k (length (stream_bytes (fitting_after limits before more))) (first_passing_after limits before more) (omega arith)
same_header_within limits before n k (x ∷ xs) more le =
    let len = plain_sum k (length (frame_bytes x)) (length (stream_bytes xs)) (length (stream_bytes (x ∷ xs))) (length-append (frame_bytes x) (stream_bytes xs)) in
    let rest : n ≤ (k + length (frame_bytes x)) + length (stream_bytes xs) = omega arith in
    let after = before ++ x.frame ∷ [] in
    same_header_step (passes_limit limits before x.frame) n k x (fitting_after limits after (xs ++ more)) (fitting_after limits after xs) (size_reason limits before x.frame) (first_passing_after limits after (xs ++ more)) (first_passing_after limits after xs)
    (same_header_within limits after n (k + length (frame_bytes x)) xs more rest)

pub later_frames_beyond : (limits : LimitsValue) (n : ℕ) (xs more : List KeyedFrame) → n ≤ length (stream_bytes xs) → frames_within limits n (xs ++ more) ≡ frames_within limits n xs
later_frames_beyond limits n xs more le = same_ending limits [] n xs more le

pub later_header_beyond : (limits : LimitsValue) (n : ℕ) (xs more : List KeyedFrame) → n ≤ length (stream_bytes xs) → size_fault limits n (xs ++ more) ≡ size_fault limits n xs
later_header_beyond limits n xs more le =
    ap (λ m. reason_within n m (first_passing limits (xs ++ more))) (plain_zero (length (stream_bytes (fitting limits (xs ++ more))))) ∙ same_header_within limits [] n 0 xs more (omega arith)
    ∙ sym (ap (λ m. reason_within n m (first_passing limits xs)) (plain_zero (length (stream_bytes (fitting limits xs)))))

-- ---- more bytes

told_then : (b : Bool) (s r : Reason) → cond b (Some s) None ≡ Some r → (b ≡ true) × (Some s ≡ Some r)
told_then true s r h = (refl, h)
told_then false s r h = absurd cc

pub header_stays : (n m k : ℕ) (o : Option PassingFrame) (r : Reason) → n ≤ m → reason_within n k o ≡ Some r → (k ≤ n) × (reason_within m k o ≡ Some r)
header_stays n m k None r le h = absurd cc
header_stays n m k (Some x) r le h =
    let end = k + length (header_bytes (header_of x.frame)) in
    let told = told_then (nat_le end n) x.reason r h in
    let all : end ≤ n = leb-true end n told.0 in
    (omega arith, ap (λ b. cond b (Some x.reason) None) (le-leb end m (omega arith)) ∙ told.1)

pub size_fault_stays : (limits : LimitsValue) (n m : ℕ) (xs : List KeyedFrame) (r : Reason) → n ≤ m → size_fault limits n xs ≡ Some r → (frames_within limits m xs ≡ frames_within limits n xs) × (size_fault limits m xs ≡ Some r)
size_fault_stays limits n m xs r le h =
    let stays = header_stays n m (length (stream_bytes (fitting limits xs))) (first_passing limits xs) r le h in
    let more : length (stream_bytes (fitting limits xs)) ≤ m = omega (arith, stays.0) in
    (all_within m (fitting limits xs) more ∙ sym (all_within n (fitting limits xs) stays.0), stays.1)

-- all frames are within, and none passes the limit
abbrev AllAreWithin : LimitsValue → List Frame → ℕ → List KeyedFrame → Type 0
AllAreWithin limits before m xs = (ending_within m (fitting_after limits before xs) ≡ xs) × (first_passing_after limits before xs ≡ None)

no_frames : (xs : List KeyedFrame) → frames_of xs ≡ [] → xs ≡ []
no_frames [] e = refl
no_frames (x ∷ xs) e = absurd cc

pub either_of : (c d : Bool) → c || d ≡ true → (c ≡ true) ⊎ (d ≡ true)
either_of true d h = inl refl
either_of false d h = inr h

close_step : (b : Bool) (n m : ℕ) (x : KeyedFrame) (xs fits : List KeyedFrame) (p : PassingFrame) (passing : Option PassingFrame) → n ≤ m
    → (is_close x.frame ≡ true → (fits ≡ []) × (xs ≡ []) × (passing ≡ None))
    → (has_close (frames_of (ending_within (n - length (frame_bytes x)) fits)) ≡ true → (ending_within (m - length (frame_bytes x)) fits ≡ xs) × (passing ≡ None))
    → has_close (frames_of (ending_within n (cond b [] (x ∷ fits)))) ≡ true
    → (ending_within m (cond b [] (x ∷ fits)) ≡ x ∷ xs) × (cond b (Some p) passing ≡ None)
close_step true n m x xs fits p passing le last ih h = absurd cc
close_step false n m x xs fits p passing le last ih h =
    elim (cases_lt n (length (frame_bytes x))) [
      | inl lt ↦ let no : false ≡ true = ap (λ (l : List KeyedFrame). has_close (frames_of l)) (sym (ends_beyond n x fits lt)) ∙ h in absurd cc
      | inr first ↦
          let has : is_close x.frame || has_close (frames_of (ending_within (n - length (frame_bytes x)) fits)) ≡ true = ap (λ (l : List KeyedFrame). has_close (frames_of l)) (sym (ends_within n x fits first)) ∙ h in
          let fit : ending_within m (x ∷ fits) ≡ x ∷ ending_within (m - length (frame_bytes x)) fits = ends_within m x fits (omega arith) in
          elim (either_of (is_close x.frame) (has_close (frames_of (ending_within (n - length (frame_bytes x)) fits))) has) [
            | inl is ↦
                let t = last is in
                (fit ∙ ap (λ (l : List KeyedFrame). x ∷ ending_within (m - length (frame_bytes x)) l) t.0 ∙ ap (λ (l : List KeyedFrame). x ∷ l) (sym t.1), t.2)
            | inr later ↦ let t = ih later in (fit ∙ ap (λ (l : List KeyedFrame). x ∷ l) t.0, t.1)
          ]
    ]

close_within : (limits : LimitsValue) (before : List Frame) (n m : ℕ) (xs : List KeyedFrame) → n ≤ m → CloseIsLast (frames_of xs) → has_close (frames_of (ending_within n (fitting_after limits before xs))) ≡ true → AllAreWithin limits before m xs
close_within limits before n m [] le last h = absurd cc
close_within limits before n m (x ∷ xs) le last h =
    let after = before ++ x.frame ∷ [] in
    close_step (passes_limit limits before x.frame) n m x xs (fitting_after limits after xs) (passing_frame x (size_reason limits before x.frame)) (first_passing_after limits after xs) le
    (λ is.
    let none = no_frames xs (last.0 is).0 in
    (ap (λ (l : List KeyedFrame). fitting_after limits after l) none, none, ap (λ (l : List KeyedFrame). first_passing_after limits after l) none))
    (λ later. close_within limits after (n - length (frame_bytes x)) (m - length (frame_bytes x)) xs (omega arith) last.1 later) h

pub close_is_all : (limits most : LimitsValue) (n m : ℕ) (xs : List KeyedFrame) → n ≤ m → AreValidFrames most (frames_of xs) → has_close (frames_of (frames_within limits n xs)) ≡ true → (frames_within limits m xs ≡ xs) × (size_fault limits m xs ≡ None)
close_is_all limits most n m xs le valid h =
    let t = close_within limits [] n m xs le valid.close h in
    (t.0, ap (λ (o : Option PassingFrame). reason_within m (length (stream_bytes (fitting limits xs))) o) t.1)

-- ---- the split of the first bytes

pub record FrontSplit (n : ℕ) (xs : List KeyedFrame) : Type 0 where
  pub rest : List ℕ
  pub split : SplitsInto (take n (stream_bytes xs)) (ending_within n xs) rest

cut_begins_none : (n : ℕ) (x y : KeyedFrame) (s more : List ℕ) → FitsTheLayout x → n < length (frame_bytes x) → FitsTheLayout y → take n (frame_bytes x ++ s) ≡ frame_bytes y ++ more → ⊥
cut_begins_none n x y s more can lt sends e =
    let all = frame_bytes x ++ s in
    let whole : frame_bytes y ++ (more ++ drop n all) ≡ all = sym (append_assoc (frame_bytes y) more (drop n all)) ∙ ap (λ (l : List ℕ). l ++ drop n all) (sym e) ∙ take-append-drop n all in
    let same = no_frame_begins y x (more ++ drop n all) s sends can whole in
    let size : length (take n all) ≡ length (frame_bytes y) + length more = ap (λ (l : List ℕ). length l) e ∙ length-append (frame_bytes y) more in
    let len : length (frame_bytes y) ≡ length (frame_bytes x) = ap (λ (z : KeyedFrame). length (frame_bytes z)) same.0 in
    omega (arith, size, len, lt, length-take n all)

plain_rest : (a n : ℕ) → a ≤ n → n ≡ a + (n - a)
plain_rest a n le = omega arith

pub front_split : (n : ℕ) (xs : List KeyedFrame) → AreSent xs → FrontSplit n xs
front_split n [] each = record { rest = []; split = record { each = tt; whole = take_all n [] (omega arith); left = none_in_nothing } }
front_split n (x ∷ xs) each =
    let s = stream_bytes xs in
    elim (cases_lt n (length (frame_bytes x))) [
      | inl lt ↦ record {
        rest = take n (frame_bytes x ++ s);
        split = subst (λ (l : List KeyedFrame). SplitsInto (take n (frame_bytes x ++ s)) l (take n (frame_bytes x ++ s))) (sym (ends_beyond n x xs lt))
            (record { each = tt; whole = refl; left = λ y more sends e. cut_begins_none n x y s more each.0 lt sends e });
      }
      | inr le ↦
          let t = front_split (n - length (frame_bytes x)) xs each.1 in
          record {
            rest = t.rest;
            split = subst (λ (l : List KeyedFrame). SplitsInto (take n (frame_bytes x ++ s)) l t.rest) (sym (ends_within n x xs le))
                (record {
                  each = (each.0, t.split.each);
                  whole = ap (λ k. take k (frame_bytes x ++ s)) (plain_rest (length (frame_bytes x)) n le) ∙ take-append-add (frame_bytes x) s (n - length (frame_bytes x)) ∙ ap (λ (l : List ℕ). frame_bytes x ++ l) t.split.whole
                      ∙ sym (append_assoc (frame_bytes x) (stream_bytes (ending_within (n - length (frame_bytes x)) xs)) t.rest);
                  left = t.split.left;
                });
          }
    ]

pub split_all : {X : Type 0} (P : X → Type 0) (xs ys : List X) → AllByRecursion P (xs ++ ys) → AllByRecursion P xs × AllByRecursion P ys
split_all P [] ys h = (tt, h)
split_all P (x ∷ xs) ys h = let t = split_all P xs ys h.1 in ((h.0, t.0), t.1)
