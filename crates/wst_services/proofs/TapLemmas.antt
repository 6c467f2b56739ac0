-- Connections that are tapped over a network: what was told of them, and how that ended.
use Rattle.std.proofs.Common.{◌≡◌, ℕ, Bool, List, [], ◌++◌, Option, Result, Ok, Err, inl, inr, refl}
use Rattle.std.proofs.Common.{ap, append-nil, false, subst, sym}
use Rattle.std.proofs.KnownBytes.{Appends-trans, Keeps-refl}
use Rattle.std.specs.Io.KnownBytes.{Appends, Keeps}
use Rattle.ws_frame.specs.Devices.{Device, watched}
use Rattle.ws_frame.specs.Watching.{inner_of}
use Rattle.ws_loops.specs.Deeds.{Deed}
use Rattle.ws_loops.specs.Listeners.{AcceptDeed}
use Rattle.ws_networks.specs.Networks.{NetworkDeed}
use Rattle.ws_clients.specs.Numbers.{clients_given}
use Rattle.ws_tap.specs.declared.tapped.Tapped.{Tapped}
use Rattle.ws_tap.specs.declared.tapping.TapEnd.{TapEnd}
use Rattle.ws_tap.specs.declared.tapping.TapEnd.TheVariants as tap_end
use Rattle.ws_relays.specs.Connections.{EndsOver, IsRelayedTo}
use Rattle.ws_relays.specs.Tappings.{GoesOnSoFar, HasTappedAll, TapPart, TapsAll, ToldOnce, lines_of_number}
use Rattle.ws_relays.specs.Tappings.{parts_text, tapped_in}
use Rattle.ws_relays.specs.declared.relays.RelayEnd.{RelayEnd}
use Rattle.ws_relays.specs.declared.relays.RelayEnd.TheVariants as relay_end
use Rattle.ws_relays.specs.declared.tapping.Tapping.{Tapping}
use Rattle.ws_relays.specs.declared.tapping.TappingEnd.{TappingEnd}
use Rattle.ws_relays.specs.declared.tapping.TappingEnd.TheVariants as end
use Rattle.ws_tap.specs.Running.{EndsAt}
use Rattle.ws_tap.specs.Told.{TapTold}
use Rattle.wst_commands.specs.Devices.{Tells}
use Rattle.wst_commands.specs.declared.exit.Exit.{Exit}
use Rattle.wst_commands.specs.declared.exit.Exit.TheVariants.{Damaged, Done, Failed, WrongWords}
use Rattle.wst_commands.specs.declared.fault.Fault.{Fault}
use Rattle.wst_services.specs.Serve.{TellsFullOnce}
use Rattle.wst_services.specs.ServedLines.{full_text}
use Rattle.wst_services.specs.Tapping.{EndsTapping, HasToldTapped, HaveBeenTapped, IsRelayText, IsTextSoFar, TapsPlan}
use Rattle.wst_services.specs.Tapping.{tapping_exit}
use Rattle.wst_services.specs.declared.tapping.TapPlan.{TapPlan}
use Rattle.wst_services.specs.declared.tapping.ToldShortage.{ToldShortage}

-- what a plan asks for, as connections are tapped
abbrev pub tapping_of : TapPlan → Tapping
tapping_of plan = record { server = plan.server; style = plan.style; at_once = plan.at_once; count = plan.count }

-- ---- what was told, where nothing is said of streams

-- both directions were ended, or a stream has failed
ends_at : {S : Type 0} (did : S → S → List Deed → Type 0) (told : List TapTold) (end : TapEnd) → EndsOver did told end
    → EndsAt end told
ends_at did told (tap_end.Ended first) over = over.0
ends_at did told tap_end.Broken over = tt

relay_text : {A S W : Type 0} (did : S → S → List Deed → Type 0) (server : List ℕ) (tapped : Tapped) (at : ℕ)
    (mine : List (NetworkDeed A W)) (text : List ℕ) (end : RelayEnd) → IsRelayedTo did server tapped at mine text end
    → IsRelayText tapped end text
relay_text did server tapped at mine text relay_end.NoConnection (none, silent) = silent
relay_text did server tapped at mine text (relay_end.Tapped end) (made, t) =
    (t.told, t.passed, t.tells, ends_at did t.told end t.over)

text_so_far : {S : Type 0} (did : S → S → List Deed → Type 0) (plan : TapPlan) (parts : List TapPart) (number : ℕ)
    → GoesOnSoFar did (tapping_of plan) parts number
    → IsTextSoFar (tapped_in plan.style number) (lines_of_number number parts)
text_so_far did plan parts number (inl silent) = inl silent
text_so_far did plan parts number (inr t) = inr (t.told, t.passed, t.tells)

module _ {A S L N W : Type 0} (did : S → S → List Deed → Type 0) (ldid : L → L → List (AcceptDeed W) → Type 0)
    (ndid : N → N → List (NetworkDeed A W) → Type 0) (plan : TapPlan) (listener : L) (network : N) where
  been_tapped : (there : ℕ) (parts : List TapPart)
      → HasTappedAll did ldid ndid (tapping_of plan) listener network there parts → HaveBeenTapped plan there parts
  been_tapped there parts t = record {
    came = clients_given t.deeds;
    within = t.within;
    turns = t.turns;
    of_them = t.came_all;
    ends = λ i d below.
        let r = t.ends i d below in relay_text did plan.server.now _ r.at r.mine _ _ r.relayed;
    goes_on = λ number one most far. text_so_far did plan parts number (t.goes_on number one most far);
    all = t.came;
    few = t.few;
  }

  told_whole : (old new : Option (List ℕ)) (failed : Bool) (there : ℕ) (parts : List TapPart)
      → HasTappedAll did ldid ndid (tapping_of plan) listener network there parts → failed ≡ false
      → Appends old new (parts_text parts)
      → HasToldTapped plan [] there parts [] (record { failed = failed; old = old; new = new })
  told_whole old new failed there parts t works wrote = record {
    tapped = been_tapped there parts t;
    works = works;
    written = subst (λ (l : List ℕ). Appends old new l) (sym (append-nil (parts_text parts))) wrote;
  }

  pub ends_tapping : (old new : Option (List ℕ)) (failed : Bool) (ended : TappingEnd)
      → TapsAll did ldid ndid (tapping_of plan) listener network
      (record { failed = failed; old = old; new = new }) ended
      → EndsTapping plan [] (tapping_exit ended) (record { failed = failed; old = old; new = new })
  ends_tapping old new failed end.Done (works, (parts, t, wrote, all)) =
      (parts, told_whole old new failed 0 parts t works wrote, all)
  ends_tapping old new failed end.Deaf (works, (parts, t, wrote, more, why)) =
      inl (0, parts, told_whole old new failed 0 parts t works wrote, more)
  ends_tapping old new failed end.WaitFailed (works, (there, parts, t, wrote, more)) =
      inl (there, parts, told_whole old new failed there parts t works wrote, more)
  ends_tapping old new failed end.NotWritten (fails, more) = inr (fails, more)
  ends_tapping old new failed end.NoMemory (works, (there, parts, some, t, wrote, more)) = (
    refl,
    (
      there,
      parts,
      some,
      record { tapped = been_tapped there parts t; works = works; written = wrote },
      more,
    ),
  )

-- ---- behind other bytes

told_behind : (plan : TapPlan) (before : List ℕ) (there : ℕ) (parts : List TapPart) (more : List ℕ)
    (old mid new : Option (List ℕ)) (failed : Bool) → Appends old mid before
    → HasToldTapped plan [] there parts more (record { failed = failed; old = mid; new = new })
    → HasToldTapped plan before there parts more (record { failed = failed; old = old; new = new })
told_behind plan before there parts more old mid new failed first h = record {
  tapped = h.tapped;
  works = h.works;
  written = Appends-trans old mid new before (parts_text parts ++ more) first h.written;
}

ends_behind : (plan : TapPlan) (before : List ℕ) (ended : Result Exit Fault) (old mid new : Option (List ℕ))
    (failed : Bool) → Appends old mid before
    → EndsTapping plan [] ended (record { failed = failed; old = mid; new = new })
    → EndsTapping plan before ended (record { failed = failed; old = old; new = new })
ends_behind plan before (Ok Done) old mid new failed first (parts, h, all) =
    (parts, told_behind plan before 0 parts [] old mid new failed first h, all)
ends_behind plan before (Ok Failed) old mid new failed first (inl (there, parts, h, more)) =
    inl (there, parts, told_behind plan before there parts [] old mid new failed first h, more)
ends_behind plan before (Ok Failed) old mid new failed first (inr fails) = inr fails
ends_behind plan before (Ok Damaged) old mid new failed first bad = absurd bad
ends_behind plan before (Ok WrongWords) old mid new failed first bad = absurd bad
ends_behind plan before (Err fault) old mid new failed first (is, (there, parts, some, h, more)) =
    (is, (there, parts, some, told_behind plan before there parts some old mid new failed first h, more))

pub taps_behind : (plan : TapPlan) (before : List ℕ) (ended : Result Exit Fault) (old mid new : Option (List ℕ))
    (failed : Bool) (faults : Device) → Appends old mid before
    → TapsPlan plan [] ended (record { failed = failed; old = mid; new = new }) faults
    → TapsPlan plan before ended (record { failed = failed; old = old; new = new }) faults
taps_behind plan before ended old mid new failed faults first h =
    (ends_behind plan before ended old mid new failed first h.0, h.1)

-- ---- that no connection can be taken

module _ {F : Type 0} (notes : F → Option (List ℕ)) where
  abbrev TellsShort : ToldShortage F → ToldShortage F → Type 0
  TellsShort old new = Tells full_text (watched notes old.faults.now new.faults.now)
      × (new.faults.ghost_name ≡ old.faults.ghost_name)

  pub full_told : (old new : ToldShortage F) → ToldOnce TellsShort old new
      → TellsFullOnce (watched notes old.faults.now new.faults.now)
  full_told old new (inl same) = inl (subst (λ (s : ToldShortage F). Keeps (notes (inner_of old.faults.now))
      (notes (inner_of s.faults.now))) (sym same) (Keeps-refl (notes (inner_of old.faults.now))))
  full_told old new (inr told) = inr told.0

  pub same_faults : (old new : ToldShortage F) → ToldOnce TellsShort old new
      → new.faults.ghost_name ≡ old.faults.ghost_name
  same_faults old new (inl same) = ap (λ (s : ToldShortage F). s.faults.ghost_name) same
  same_faults old new (inr told) = told.1
