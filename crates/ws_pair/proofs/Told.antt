-- What an end is told by some first bytes of the other's frames, and its status by that.
use Rattle.std.proofs.Common.{◌≡◌, ℕ, ◌≤◌, ◌⊎◌, suc, Bool, true, false, cond, List, [], ◌∷◌, ◌++◌, length, Option, Some, None, refl, sym, ap, ◌∙◌, arith, inl, inr, subst}
use Rattle.std.specs.Prelude.{◌==◌, ◌||◌, nat_le}
use Rattle.std.proofs.lemmas.List.{append-nil}
use Rattle.std.proofs.lemmas.Grind.{flat_map-append}
use Rattle.ws_wire.specs.Frame.{Frame, KeyedFrame}
use Rattle.ws_session.specs.declared.reason.Reason.{Reason}
use Rattle.ws_session.specs.declared.message.Message.{Message}
use Rattle.ws_session.specs.declared.event.Event.{Event}
use Rattle.ws_session.specs.declared.event.Event.TheVariants as event
use Rattle.ws_session.specs.declared.status.Status.{Status}
use Rattle.ws_session.specs.declared.status.Status.TheVariants as status
use Rattle.ws_session.specs.Limits.{LimitsValue}
use Rattle.ws_session.specs.Messages.{is_control, is_close, data_frames, groups_of, message_of, messages_of}
use Rattle.ws_session.specs.Validity.{CloseIsLast, AreValidFrames}
use Rattle.ws_session.specs.Faults.{frames_of}
use Rattle.ws_session.specs.Events.{close_in, event_of, events_after, message_in, messages_in}
use Rattle.ws_session.specs.Replies.{has_close, replies_of}
use Rattle.ws_session.specs.Exchange.{last_event, code_if_any, status_before_close, status_after, status_of}
use Rattle.ws_session.specs.Reach.{frames_within, size_fault, events_of_fault, events_within}
use Rattle.ws_session.specs.Sends.{most_limits}
use Rattle.ws_pair.specs.Link.{LinkEnd, close_code_in, status_by_close, status_by_size}
use Rattle.ws_pair.specs.InnerPlaying.{LawsOfEachSession}

-- ---- the status by the frames that have come

-- the status of an end, by what it has sent and what has come
abbrev pub status_by : LimitsValue → LinkEnd → List KeyedFrame → Status
status_by limits x others =
    status_by_size (size_fault limits x.reached others) (status_by_close (close_code_in (frames_of (frames_within limits x.reached others))) (frames_of x.sent) x.is_cut)

pub no_both : (b : Bool) → b ≡ true → b ≡ false → ⊥
no_both b e f = let no : true ≡ false = sym e ∙ f in absurd cc

pub true_or_false : (b : Bool) → (b ≡ true) ⊎ (b ≡ false)
true_or_false true = inl refl
true_or_false false = inr refl

close_is_control : (n : ℕ) → (n == 8) ≡ true → nat_le 8 n ≡ true
close_is_control n e = grind arith

by_control : (close ping : Bool) (f : Frame) (sent : List Frame) (ended : Bool)
    → status_after sent ended (Some (cond close (event.Close (close_in f.payload)) (cond ping (event.Ping f.payload) (event.Pong f.payload)))) ≡ status_by_close (cond close (Some (code_if_any (close_in f.payload))) None) sent ended
by_control true ping f sent ended = refl
by_control false true f sent ended = refl
by_control false false f sent ended = refl

by_data : (fin : Bool) (m : Message) (sent : List Frame) (ended : Bool) → status_after sent ended (Some (cond fin (event.Message m) event.Part)) ≡ status_before_close sent ended
by_data true m sent ended = refl
by_data false m sent ended = refl

by_kind : (control close ping fin : Bool) (f : Frame) (m : Message) (sent : List Frame) (ended : Bool) → (close ≡ true → control ≡ true)
    → status_after sent ended (Some (cond control (cond close (event.Close (close_in f.payload)) (cond ping (event.Ping f.payload) (event.Pong f.payload))) (cond fin (event.Message m) event.Part)))
    ≡ status_by_close (cond close (Some (code_if_any (close_in f.payload))) None) sent ended
by_kind true close ping fin f m sent ended h = by_control close ping f sent ended
by_kind false true ping fin f m sent ended h = absurd (no_both false (h refl) refl)
by_kind false false ping fin f m sent ended h = by_data fin m sent ended

by_one : (before : List Frame) (f : Frame) (sent : List Frame) (ended : Bool) → status_after sent ended (Some (event_of before f)) ≡ status_by_close (close_code_in (f ∷ [])) sent ended
by_one before f sent ended = by_kind (is_control f) (is_close f) (f.opcode == 9) f.fin f (message_of ((groups_of (data_frames before)).unfinished ++ f ∷ [])) sent ended (close_is_control f.opcode)

code_behind : (close : Bool) (f : Frame) (o : Option (Option ℕ)) → close ≡ false → cond close (Some (code_if_any (close_in f.payload))) o ≡ o
code_behind true f o e = absurd (no_both true refl e)
code_behind false f o e = refl

not_last : (close : Bool) (f g : Frame) (fs : List Frame) → (close ≡ true → (g ∷ fs) ≡ []) → close ≡ false
not_last true f g fs h = let no : suc (length fs) ≡ 0 = ap (λ (l : List Frame). length l) (h refl) in absurd cc
not_last false f g fs h = refl

by_frames : (before fs : List Frame) (sent : List Frame) (ended : Bool) → CloseIsLast fs → status_of sent ended (events_after before fs) ≡ status_by_close (close_code_in fs) sent ended
by_frames before [] sent ended h = refl
by_frames before (f ∷ []) sent ended h = by_one before f sent ended
by_frames before (f ∷ g ∷ fs) sent ended h =
    by_frames (before ++ f ∷ []) (g ∷ fs) sent ended h.1
    ∙ ap (λ (o : Option (Option ℕ)). status_by_close o sent ended) (sym (code_behind (is_close f) f (close_code_in (g ∷ fs)) (not_last (is_close f) f g fs (λ e. (h.0 e).0))))

or_left : (a b : Bool) → a || b ≡ false → a ≡ false
or_left false b e = refl
or_left true b e = e

or_right : (a b : Bool) → a || b ≡ false → b ≡ false
or_right false b e = e
or_right true b e = absurd (no_both true refl e)

none_closes : (fs : List Frame) → has_close fs ≡ false → CloseIsLast fs
none_closes [] e = tt
none_closes (f ∷ fs) e = (λ is. absurd (no_both (is_close f) is (or_left (is_close f) (has_close fs) e)), none_closes fs (or_right (is_close f) (has_close fs) e))

last_fails : (es : List Event) (e : Event) → last_event (es ++ e ∷ []) ≡ Some e
last_fails [] e = refl
last_fails (d ∷ []) e = refl
last_fails (d ∷ c ∷ es) e = last_fails (c ∷ es) e

code_or : (close : Bool) (f : Frame) (fs : List Frame) (code : Option ℕ) → (close_code_in fs ≡ Some code → has_close fs ≡ true) → cond close (Some (code_if_any (close_in f.payload))) (close_code_in fs) ≡ Some code → close || has_close fs ≡ true
code_or true f fs code h e = refl
code_or false f fs code h e = h e

pub code_closes : (fs : List Frame) (code : Option ℕ) → close_code_in fs ≡ Some code → has_close fs ≡ true
code_closes [] code e = absurd cc
code_closes (f ∷ fs) code e = code_or (is_close f) f fs code (code_closes fs code) e

-- the code of a clean status
abbrev code_of : Option ℕ → Status → Option ℕ
code_of other (status.Clean code) = code
code_of other _ = other

abbrev is_clean : Status → Bool
is_clean (status.Clean code) = true
is_clean _ = false

not_clean : (ended closing : Bool) (code : Option ℕ) → cond ended status.Lost (cond closing status.Closing status.Open) ≡ status.Clean code → ⊥
not_clean true closing code e = no_both true refl (sym (ap is_clean e))
not_clean false true code e = no_both true refl (sym (ap is_clean e))
not_clean false false code e = no_both true refl (sym (ap is_clean e))

failed_is_not_clean : (reason : Reason) (code : Option ℕ) → status.Failed reason ≡ status.Clean code → ⊥
failed_is_not_clean reason code e = no_both true refl (sym (ap is_clean e))

module _ (laws : LawsOfEachSession) (limits : LimitsValue) (xs : List KeyedFrame) (valid : AreValidFrames most_limits (frames_of xs)) where
  close_is_last : (n : ℕ) → CloseIsLast (frames_of (frames_within limits n xs))
  close_is_last n = elim (true_or_false (has_close (frames_of (frames_within limits n xs)))) [
    | inl e ↦
        let le : n ≤ n = omega arith in
        subst (λ (l : List KeyedFrame). CloseIsLast (frames_of l)) (sym (laws.after_close limits most_limits n n xs le valid e).0) valid.close
    | inr e ↦ none_closes (frames_of (frames_within limits n xs)) e
  ]

  by_size : (n : ℕ) (sent : List Frame) (ended : Bool) (fault : Option Reason)
      → status_of sent ended (events_after [] (frames_of (frames_within limits n xs)) ++ events_of_fault fault)
      ≡ status_by_size fault (status_by_close (close_code_in (frames_of (frames_within limits n xs))) sent ended)
  by_size n sent ended (Some reason) = ap (λ (o : Option Event). status_after sent ended o) (last_fails (events_after [] (frames_of (frames_within limits n xs))) (event.Failed reason))
  by_size n sent ended None =
      ap (λ (l : List Event). status_of sent ended l) (append-nil (events_after [] (frames_of (frames_within limits n xs)))) ∙ by_frames [] (frames_of (frames_within limits n xs)) sent ended (close_is_last n)

  pub status_told : (x : LinkEnd) → status_of (frames_of x.sent) x.is_cut (events_within limits x.reached xs) ≡ status_by limits x xs
  status_told x = by_size x.reached (frames_of x.sent) x.is_cut (size_fault limits x.reached xs)

  -- ---- a clean close

  clean_code : (o : Option (Option ℕ)) (sent : List Frame) (ended : Bool) (code : Option ℕ) → status_by_close o sent ended ≡ status.Clean code → o ≡ Some code
  clean_code None sent ended code e = absurd (not_clean ended (has_close sent) code e)
  clean_code (Some other) sent ended code e = ap (λ c. Some c) (ap (λ (s : Status). code_of other s) e)

  by_clean : (fault : Option Reason) (n : ℕ) (sent : List Frame) (ended : Bool) (code : Option ℕ)
      → status_by_size fault (status_by_close (close_code_in (frames_of (frames_within limits n xs))) sent ended) ≡ status.Clean code
      → (frames_within limits n xs ≡ xs) × (close_code_in (frames_of xs) ≡ Some code)
  by_clean (Some reason) n sent ended code e = absurd (failed_is_not_clean reason code e)
  by_clean None n sent ended code e =
      let is = clean_code (close_code_in (frames_of (frames_within limits n xs))) sent ended code e in
      let same : n ≤ n = omega arith in
      let all = (laws.after_close limits most_limits n n xs same valid (code_closes (frames_of (frames_within limits n xs)) code is)).0 in
      (all, ap (λ (l : List KeyedFrame). close_code_in (frames_of l)) (sym all) ∙ is)

  -- an end that is clean has all that the other sent
  pub clean_is_whole : (x : LinkEnd) (code : Option ℕ) → status_by limits x xs ≡ status.Clean code → (frames_within limits x.reached xs ≡ xs) × (close_code_in (frames_of xs) ≡ Some code)
  clean_is_whole x code e = by_clean (size_fault limits x.reached xs) x.reached (frames_of x.sent) x.is_cut code e

-- ---- messages

pub messages-append : (a b : List Event) → messages_in (a ++ b) ≡ messages_in a ++ messages_in b
messages-append a b = flat_map-append message_in a b

no_message : (fault : Option Reason) → messages_in (events_of_fault fault) ≡ []
no_message (Some reason) = refl
no_message None = refl

-- the messages of the frames that have come are those that were told
pub messages_within : (laws : LawsOfEachSession) (limits : LimitsValue) (n : ℕ) (xs : List KeyedFrame) → messages_in (events_within limits n xs) ≡ messages_of (frames_of (frames_within limits n xs))
messages_within laws limits n xs =
    let frames : List Frame = frames_of (frames_within limits n xs) in
    messages-append (events_after [] frames) (events_of_fault (size_fault limits n xs))
    ∙ ap (λ (l : List Message). messages_in (events_after [] frames) ++ l) (no_message (size_fault limits n xs)) ∙ append-nil (messages_in (events_after [] frames)) ∙ laws.messages frames

-- nothing is owed where nothing was told
pub nothing_owed : (b : Bool) (sent : List Frame) → has_close sent ≡ b → replies_of sent [] ≡ []
nothing_owed true sent e = rw e refl
nothing_owed false sent e = rw e refl
