-- What happened in a slot: nothing yet, one thing, and one list of things after the other; and memory that ran out then.
use Rattle.std.proofs.Common.{◌≡◌, ◌∙◌, ℕ, ◌+◌, ◌-◌, ◌≤◌, ◌⊎◌, true, false, List, [], ◌∷◌, ◌++◌, refl, sym, ap, subst}
use Rattle.std.proofs.Common.{arith, append_assoc, append-nil, inl, inr}
use Rattle.std.proofs.lemmas.Grind.{flat_map-append}
use Rattle.ws_machines.specs.Told.{Told}
use Rattle.ws_machines.specs.Machines.{Extends, Wants}
use Rattle.ws_loops.specs.Deeds.{Deed, Happened, HasDone, all_done, all_moved, all_shown, all_told, done_by, moved_by}
use Rattle.ws_loops.specs.Deeds.{shown_by, told_by}
use Rattle.ws_loops.specs.Deeds.Deed.{Woken}
use Rattle.ws_loops.specs.Paces.{is_due, woken_pace}
use Rattle.ws_loops.specs.Sinks.{HasTakenLines, said_at}
use Rattle.ws_loops.specs.Slots.{AreItsLast, AreSteps, AtNoMemory, HasBroken, HasRunBy, HasServedShare, HasTurn, IsStep}
use Rattle.ws_loops.specs.Slots.{PutsSome, share_len}
use Rattle.ws_loops.specs.declared.pace.Pace.{Pace}
use Rattle.ws_loops.specs.declared.poller.Readiness.{Readiness}
use Rattle.ws_loops.specs.declared.serving.StepFault.{StepFault}
use Rattle.ws_loops.specs.declared.serving.StepFault.TheVariants as fault
use Rattle.ws_loops.specs.declared.slot.Slot.{Slot}
use Rattle.ws_loops.proofs.SinkLemmas.{put_then, said_then}

-- what holds where memory ran out does, where it did
pub at_no_memory : {F : Type 0} (P : Type 0) (why : StepFault F) → why ≡ fault.NoMemory → AtNoMemory P why → P
at_no_memory {F} P why is h = subst (λ (w : StepFault F). AtNoMemory P w) is h

-- bytes that were moved, and then
pub moved_then : (one other : List Happened) → all_moved (one ++ other) ≡ all_moved one + all_moved other
moved_then [] other = omega arith
moved_then (x ∷ one) other = ap (λ (n : ℕ). moved_by x.deed + n) (moved_then one other)
    ∙ sum_so (moved_by x.deed) (all_moved one) (all_moved other)
  where
    sum_so : (a b c : ℕ) → a + (b + c) ≡ (a + b) + c
    sum_so a b c = omega arith

-- and lines that were taken
pub shown_then : (one other : List Happened) → all_shown (one ++ other) ≡ all_shown one ++ all_shown other
shown_then one other = flat_map-append (λ (e : Happened). shown_by e.deed) one other

module _ {M S : Type 0} (agrees : M → M → List Told → Type 0) (wants : M → Wants) (did : S → S → List Deed → Type 0)
  where
    -- nothing has happened
    pub nothing_happened : (from to : ℕ) (x : Slot M S) → from ≤ to → HasRunBy agrees wants did from x [] to x
    nothing_happened from to x h = record {
      told = λ start told a. subst (λ (l : List Told). agrees start x.machine l) (sym (append-nil told)) a;
      done = λ start deeds a. subst (λ (l : List Deed). did start x.stream l) (sym (append-nil deeds)) a;
      steps = (h, refl);
    }

    -- one thing has
    pub one_happened : (now : ℕ) (old new : Slot M S) (deed : Deed) → IsStep agrees wants did old now deed new
        → HasRunBy agrees wants did now old (record { at = now; deed = deed } ∷ []) now new
    one_happened now old new deed h = record {
      told = subst (λ (l : List Told). Extends agrees old.machine new.machine l) (sym (append-nil
          (told_by deed))) h.told;
      done = subst (λ (l : List Deed). HasDone did old.stream new.stream l) (sym (append-nil (done_by deed))) h.done;
      steps = (omega arith, (new, h, (omega arith, refl)));
    }

    wider_steps : (from mid to : ℕ) (x z : Slot M S) (happened : List Happened) → from ≤ mid
        → AreSteps agrees wants did mid x happened to z → AreSteps agrees wants did from x happened to z
    wider_steps from mid to x z [] h (k, same) = (omega (arith, h, k), same)
    wider_steps from mid to x z (e ∷ happened) h (k, rest) = (omega (arith, h, k), rest)

    longer_steps : (from to last : ℕ) (x z : Slot M S) (happened : List Happened) → to ≤ last
        → AreSteps agrees wants did from x happened to z → AreSteps agrees wants did from x happened last z
    longer_steps from to last x z [] h (k, same) = (omega (arith, h, k), same)
    longer_steps from to last x z (e ∷ happened) h (k, (next, step, rest)) =
        (k, (next, step, longer_steps e.at to last next z happened h rest))

    then_steps : (from mid to : ℕ) (x y z : Slot M S) (one other : List Happened)
        → AreSteps agrees wants did from x one mid y → AreSteps agrees wants did mid y other to z
        → AreSteps agrees wants did from x (one ++ other) to z
    then_steps from mid to x y z [] other (h, same) k = wider_steps from mid to x z other h
        (subst (λ (s : Slot M S). AreSteps agrees wants did mid s other to z) (sym same) k)
    then_steps from mid to x y z (e ∷ one) other (h, (next, step, rest)) k =
        (h, (next, step, then_steps e.at mid to next y z one other rest k))

    -- these things, and then those
    pub then_happened : (from mid to : ℕ) (x y z : Slot M S) (one other : List Happened)
        → HasRunBy agrees wants did from x one mid y → HasRunBy agrees wants did mid y other to z
        → HasRunBy agrees wants did from x (one ++ other) to z
    then_happened from mid to x y z one other h k = record {
      told = λ start told a. subst (λ (l : List Told). agrees start z.machine l)
          (append_assoc told (all_told one) (all_told other)
          ∙ ap (λ (l : List Told). told ++ l) (sym (flat_map-append (λ (e : Happened). told_by e.deed) one other)))
          (k.told start (told ++ all_told one) (h.told start told a));
      done = λ start deeds a. subst (λ (l : List Deed). did start z.stream l)
          (append_assoc deeds (all_done one) (all_done other)
          ∙ ap (λ (l : List Deed). deeds ++ l) (sym (flat_map-append (λ (e : Happened). done_by e.deed) one other)))
          (k.done start (deeds ++ all_done one) (h.done start deeds a));
      steps = then_steps from mid to x y z one other h.steps k.steps;
    }

    -- also since an earlier time, and until a later one
    pub happened_within : (from mid to last : ℕ) (x z : Slot M S) (happened : List Happened) → from ≤ mid → to ≤ last
        → HasRunBy agrees wants did mid x happened to z → HasRunBy agrees wants did from x happened last z
    happened_within from mid to last x z happened h k run = record {
      told = run.told;
      done = run.done;
      steps = longer_steps from to last x z happened k (wider_steps from mid to x z happened h run.steps);
    }

    -- what happened in a turn, so much of its share is left, and its lines are these
    abbrev pub SoFar : ℕ → Slot M S → Slot M S → ℕ → List (List ℕ) → Type 0
    SoFar now first x share lines = (happened : List Happened) × HasRunBy agrees wants did now first happened now x
        × (all_moved happened + share ≡ share_len) × (all_shown happened ≡ lines)

    pub one_more : (now : ℕ) (first old new : Slot M S) (share moved : ℕ) (lines more : List (List ℕ)) (deed : Deed)
        → SoFar now first old share lines → IsStep agrees wants did old now deed new → moved_by deed ≡ moved
        → shown_by deed ≡ more → moved ≤ share → SoFar now first new (share - moved) (lines ++ more)
    one_more now first old new share moved lines more deed (happened, run, sum, said) step m s le =
        let x : Happened = record { at = now; deed = deed } in (
          happened ++ x ∷ [],
          then_happened now now now first old new happened (x ∷ []) run
              (one_happened now old new deed step),
          omega (arith, moved_then happened (x ∷ []), sum, m, le),
          shown_then happened (x ∷ [])
              ∙ (ap (λ (l : List (List ℕ)). l ++ (shown_by deed ++ [])) said
              ∙ ap (λ (l : List (List ℕ)). lines ++ l) (append-nil (shown_by deed) ∙ s)),
        )

    -- memory ran out behind what happened
    pub broken_now : (now : ℕ) (first x : Slot M S) (share : ℕ) (lines more : List (List ℕ))
        → SoFar now first x share lines → is_due (wants x.machine) x.pace now ≡ true
        → AreItsLast (wants x.machine) more → HasBroken agrees wants did now now first (lines ++ more)
    broken_now now first x share lines more (happened, run, sum, said) due last = record {
      happened = happened;
      at = now;
      last = x;
      run = run;
      before = omega arith;
      was_due = due;
      more = more;
      its_last = last;
      shown = ap (λ (l : List (List ℕ)). l ++ more) (sym said);
    }

    -- also since an earlier time, and by a later one
    pub broken_within : (from mid to late : ℕ) (x : Slot M S) (lines : List (List ℕ)) → from ≤ mid → to ≤ late
        → HasBroken agrees wants did mid to x lines → HasBroken agrees wants did from late x lines
    broken_within from mid to late x lines h k b = record {
      happened = b.happened;
      at = b.at;
      last = b.last;
      run = happened_within from mid b.at b.at x b.last b.happened h (omega arith) b.run;
      before = omega (arith, b.before, k);
      was_due = b.was_due;
      more = b.more;
      its_last = b.its_last;
      shown = b.shown;
    }

    -- and behind other things that happened
    pub broken_then : (from mid to : ℕ) (x y : Slot M S) (first : List Happened) (one other : List (List ℕ))
        → HasRunBy agrees wants did from x first mid y → all_shown first ≡ one
        → HasBroken agrees wants did mid to y other → HasBroken agrees wants did from to x (one ++ other)
    broken_then from mid to x y first one other ran said b = record {
      happened = first ++ b.happened;
      at = b.at;
      last = b.last;
      run = then_happened from mid b.at x y b.last first b.happened ran b.run;
      before = b.before;
      was_due = b.was_due;
      more = b.more;
      its_last = b.its_last;
      shown = ap (λ (l : List (List ℕ)). one ++ l) b.shown
          ∙ (sym (append_assoc one (all_shown b.happened) b.more)
          ∙ ap (λ (l : List (List ℕ)). l ++ b.more) (ap (λ (l : List (List ℕ)). l ++ all_shown b.happened) (sym said)
          ∙ sym (shown_then first b.happened)));
    }

    -- the lines that were taken before come first
    pub put_broken : {K F : Type 0} (heard : K → K → List (ℕ × List ℕ) → Type 0) (at : ℕ) (a b c : K) (now : ℕ)
        (first x : Slot M S) (share : ℕ) (lines : List (List ℕ)) (why : StepFault F)
        → HasTakenLines heard a b (said_at at lines) → SoFar now first x share lines
        → is_due (wants x.machine) x.pace now ≡ true
        → AtNoMemory (PutsSome heard at b c (λ l. AreItsLast (wants x.machine) l)) why
        → AtNoMemory (PutsSome heard at a c (λ l. HasBroken agrees wants did now now first l)) why
    put_broken heard at a b c now first x share lines fault.NoMemory h so_far due (more, k, last) = (
      lines ++ more,
      subst (λ (l : List (ℕ × List ℕ)). HasTakenLines heard a c l) (sym (said_then at lines more))
          (put_then heard a b c (said_at at lines) (said_at at more) h k),
      broken_now now first x share lines more so_far due last,
    )
    put_broken heard at a b c now first x share lines (fault.NotTaken why) h so_far due k = tt

    pub served_so : (now : ℕ) (first x : Slot M S) (share : ℕ) (lines : List (List ℕ)) → SoFar now first x share lines
        → ((is_due (wants x.machine) x.pace now ≡ false) ⊎ (share ≡ 0))
        → HasServedShare agrees wants did now first x lines
    served_so now first x share lines (happened, run, sum, said) ends = record {
      happened = happened;
      run = run;
      shown = said;
      share = omega (arith, sum);
      served = how ends;
    }
      where
        how : ((is_due (wants x.machine) x.pace now ≡ false) ⊎ (share ≡ 0))
            → (is_due (wants x.machine) x.pace now ≡ false) ⊎ (all_moved happened ≡ share_len)
        how (inl rests) = inl rests
        how (inr none) = inr (omega (arith, sum, none))

    -- it was woken, and then served
    was_woken : (now : ℕ) (old : Slot M S) (p : Pace) (ready : Readiness) → p ≡ woken_pace ready.read ready.write old.pace
        → HasRunBy agrees wants did now old (record { at = now; deed = Woken ready.read ready.write } ∷ []) now
        (record { machine = old.machine; stream = old.stream; pace = p })
    was_woken now old p ready e = one_happened now old
        (record { machine = old.machine; stream = old.stream; pace = p }) (Woken ready.read ready.write) (record {
          told = λ start told a. subst (λ (l : List Told). agrees start old.machine l) (sym (append-nil told)) a;
          done = λ start deeds a. subst (λ (l : List Deed). did start old.stream l) (sym (append-nil deeds)) a;
          paced = e;
          order = tt;
        })

    pub woken_so : (now : ℕ) (old : Slot M S) (p : Pace) (new : Slot M S) (ready : Readiness) (lines : List (List ℕ))
        → p ≡ woken_pace ready.read ready.write old.pace
        → HasServedShare agrees wants did now (record { machine = old.machine; stream = old.stream; pace = p }) new
        lines
        → HasTurn agrees wants did ready now old new lines
    woken_so now old p new ready lines e h =
        let x : Happened = record { at = now; deed = Woken ready.read ready.write } in
        let mid : Slot M S = record { machine = old.machine; stream = old.stream; pace = p } in
        record {
          happened = h.happened;
          run = then_happened now now now old mid new (x ∷ []) h.happened (was_woken now old p ready e) h.run;
          shown = h.shown;
          share = h.share;
          served = h.served;
        }

    -- or memory ran out for it
    pub woken_broken : {K F : Type 0} (heard : K → K → List (ℕ × List ℕ) → Type 0) (at : ℕ) (a b : K) (now : ℕ)
        (old : Slot M S) (p : Pace) (ready : Readiness) (why : StepFault F)
        → p ≡ woken_pace ready.read ready.write old.pace
        → AtNoMemory (PutsSome heard at a b (λ l. HasBroken agrees wants did now now
        (record { machine = old.machine; stream = old.stream; pace = p }) l)) why
        → AtNoMemory (PutsSome heard at a b (λ l. HasBroken agrees wants did now now old l)) why
    woken_broken heard at a b now old p ready fault.NoMemory e (lines, put, h) = (
      lines,
      put,
      broken_then now now now old (record { machine = old.machine; stream = old.stream; pace = p })
          (record { at = now; deed = Woken ready.read ready.write } ∷ []) [] lines (was_woken now old p ready e) refl h,
    )
    woken_broken heard at a b now old p ready (fault.NotTaken why) e h = tt
