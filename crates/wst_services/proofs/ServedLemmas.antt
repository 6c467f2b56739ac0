-- What is told of clients that are served: their lines, and what a server's run writes by them.
use Rattle.std.proofs.Common.{◌≡◌, ◌∙◌, ◌+◌, ◌++◌, ◌≤◌, ◌⊎◌, ℕ, Bool, true, false, List, [], ◌∷◌, Option, None, Some}
use Rattle.std.proofs.Common.{Result, Ok, Err, ap, append-nil, append_assoc, arith, inl, inr, length, map, refl}
use Rattle.std.proofs.Common.{IsErrAnd, subst, suc, sym, zero}
use Rattle.std.specs.Io.KnownBytes.{Appends, Keeps}
use Rattle.std.specs.Bool.{⊤}
use Rattle.std.specs.Prelude.{MatchResult}
use Rattle.std.proofs.KnownBytes.{Appends-kept, Appends-nil, Appends-trans, Keeps-refl, Keeps-trans}
use Rattle.std.proofs.lemmas.List.Elements.{All-cons, All-head, All-nil, All-tail}
use Rattle.std.specs.Borrow.{GName}
use Rattle.std.specs.List.{All}
use Rattle.ws_frame.specs.Devices.{Device, HasBegun, HasWritten, IsUntouched, watched}
use Rattle.ws_frame.specs.Watching.{has_failed, inner_of}
use Rattle.ws_frame.specs.declared.watching.Watched.{Watched}
use Rattle.ws_loops.specs.Deeds.{Deed, all_told}
use Rattle.ws_loops.specs.Listeners.{AcceptDeed, HasHeard}
use Rattle.ws_loops.specs.declared.fault.LoopFault.TheVariants as loop
use Rattle.ws_clients.specs.Numbers.{clients_given}
use Rattle.ws_serving.specs.ClientEnds.{IsClientEnd, known_to}
use Rattle.ws_serving.specs.EndNumbers.{AreEndNumbers, numbers_of}
use Rattle.ws_serving.specs.News.{HasTakenNews, ends_in, fulls_in}
use Rattle.ws_serving.specs.Serving.{HasServedClients, IsNextNews, IsStillOpen, IsWithinCount, ServesAll, once_if}
use Rattle.ws_serving.specs.declared.client_end.ClientEnd.{ClientEnd}
use Rattle.ws_serving.specs.declared.client_end.ClientEnd.TheVariants.{Echoed, Lost, Refused}
use Rattle.ws_serving.specs.declared.client_end.ClientEnd.TheVariants as client
use Rattle.ws_serving.specs.declared.guests.Service.{Service}
use Rattle.ws_serving.specs.declared.news_sink.News.{News}
use Rattle.ws_serving.specs.declared.news_sink.News.TheVariants.{Ended, Full}
use Rattle.ws_serving.specs.declared.serving.ServingEnd.{ServingEnd}
use Rattle.ws_serving.specs.declared.serving.ServingEnd.TheVariants as serving
use Rattle.ws_serving.proofs.EndLemmas.{ends_full, ends_push, fulls_full, fulls_push, numbers_none}
use Rattle.ws_echo.specs.EchoMachines.{EchoGives}
use Rattle.ws_echo.specs.declared.echo_machine.EchoEnd.TheVariants as echo
use Rattle.ws_handshake.specs.declared.admission.Admission.{Admission}
use Rattle.ws_handshake.specs.declared.admission.Admission.TheVariants as admission
use Rattle.ws_session.specs.Limits.{LimitsValue}
use Rattle.ws_clients.specs.Talks.{IsAdmission}
use Rattle.ws_connection.specs.Serving.{connection}
use Rattle.ws_connection.specs.declared.serving.Served.{Served}
use Rattle.wst_sockets.specs.Listening.{CanNotListen}
use Rattle.wst_commands.specs.Devices.{Tells}
use Rattle.wst_commands.specs.declared.exit.Exit.{Exit}
use Rattle.wst_commands.specs.declared.exit.Exit.TheVariants.{Damaged, Done, Failed, WrongWords}
use Rattle.wst_commands.specs.declared.fault.Fault.{Fault}
use Rattle.wst_commands.specs.declared.fault.Fault.TheVariants.{NoMemory}
use Rattle.wst_services.specs.Serve.{EndsServing, GaveClients, HasServed, HaveBeenServed, IsServedBy, IsServedOver}
use Rattle.wst_services.specs.Serve.{GivesAdmission, IsServiceOf, ServesClients, ServesNone, StopsAtServed}
use Rattle.wst_services.specs.Serve.{TellsFullOnce, exit_as}
use Rattle.wst_services.specs.ServedLines.{AreSameDevices, HasRefusedNews, HasToldNews, PutsLine, TellsFull}
use Rattle.wst_services.specs.ServedLines.{connection_line, connection_lines, full_text, served_as, told_ends}
use Rattle.wst_services.specs.declared.serve.ServePlan.{ServePlan}
use Rattle.wst_services.specs.declared.served_lines.LineFault.{LineFault}
use Rattle.wst_services.specs.declared.served_lines.LineFault.TheVariants as line
use Rattle.wst_services.specs.declared.served_lines.ServedLines.{ServedLines}

-- ---- the lines

-- the line of one connection more
lines_push : (ends : List (ℕ × ClientEnd)) (n : ℕ) (end : ClientEnd)
    → connection_lines (told_ends (ends ++ (n, end) ∷ []))
    ≡ connection_lines (told_ends ends) ++ connection_line n (served_as end)
lines_push [] n end = append-nil (connection_line n (served_as end))
lines_push (first ∷ ends) n end =
    ap (λ (l : List ℕ). connection_line first.0 (served_as first.1) ++ l) (lines_push ends n end)
    ∙ sym (append_assoc (connection_line first.0 (served_as first.1)) (connection_lines (told_ends ends))
    (connection_line n (served_as end)))

pub lines_told : (news : List News) (n : ℕ) (end : ClientEnd)
    → connection_lines (told_ends (ends_in (news ++ Ended n end ∷ [])))
    ≡ connection_lines (told_ends (ends_in news)) ++ connection_line n (served_as end)
lines_told news n end = ap (λ (l : List (ℕ × ClientEnd)). connection_lines (told_ends l)) (ends_push news n end)
    ∙ lines_push (ends_in news) n end

told_numbers : (ends : List (ℕ × ClientEnd)) → map (λ end. end.0) (told_ends ends) ≡ numbers_of ends
told_numbers [] = refl
told_numbers (first ∷ ends) = ap (λ (l : List ℕ). first.0 ∷ l) (told_numbers ends)

told_count : (ends : List (ℕ × ClientEnd)) → length (told_ends ends) ≡ length ends
told_count [] = refl
told_count (first ∷ ends) = ap (λ (n : ℕ). suc n) (told_count ends)

-- ---- that no client can be taken

kept_then : (a b c : Option (List ℕ)) (bs : List ℕ) → Keeps a b → Appends b c bs → Appends a c bs
kept_then None b c bs kept wrote = tt
kept_then (Some x) None c bs kept wrote = absurd kept
kept_then (Some x) (Some y) None bs kept wrote = absurd wrote
kept_then (Some x) (Some y) (Some z) bs kept wrote = wrote ∙ ap (λ (l : List ℕ). l ++ bs) kept

tells_then : (a b c : Option (List ℕ)) (text : List ℕ) (new : Bool) → Keeps a b
    → Tells text (record { failed = new; old = b; new = c }) → Tells text (record { failed = new; old = a; new = c })
tells_then a b c text new kept (inl wrote) = inl (kept_then a b c text kept wrote)
tells_then a b c text new kept (inr (failed, (front, more, parts, wrote))) =
    inr (failed, (front, more, parts, kept_then a b c front kept wrote))

-- it is told once more
full_then : (n : ℕ) (a b c : Option (List ℕ)) (mid new : Bool)
    → TellsFull n (record { failed = mid; old = a; new = b })
    → Tells full_text (record { failed = new; old = b; new = c })
    → TellsFull (suc n) (record { failed = new; old = a; new = c })
full_then zero a b c mid new kept now = tells_then a b c full_text new kept now
full_then (suc n) a b c mid new told now = tt

full_once : {W : Type 0} (n : ℕ) (reasons : List W) (faults : Device) → n ≡ once_if reasons → TellsFull n faults
    → TellsFullOnce faults
full_once zero reasons faults is told = inl told
full_once (suc zero) reasons faults is told = inr told
full_once (suc (suc n)) [] faults is told = absurd (omega (arith, is))
full_once (suc (suc n)) (why ∷ more) faults is told = absurd (omega (arith, is))

-- ---- what is told, one after the other

module _ {W F : Type 0} (contents : W → Option (List ℕ)) (notes : F → Option (List ℕ)) where
  abbrev Lines : Type 0
  Lines = ServedLines W F

  -- what was told between two states
  abbrev pub lines_heard : Lines → Lines → List News → Type 0
  lines_heard start now taken = HasToldNews taken (watched contents start.writer.now now.writer.now)
      (has_failed start.writer.now) (watched notes start.faults.now now.faults.now)
      × AreSameDevices start.writer.ghost_name now.writer.ghost_name start.faults.ghost_name now.faults.ghost_name

  -- and what was not
  abbrev pub lines_refused : Lines → Lines → News → LineFault → Type 0
  lines_refused old new news why = HasRefusedNews news why (watched contents old.writer.now new.writer.now)
      (has_failed old.writer.now) × (new.faults.now ≡ old.faults.now)
      × AreSameDevices old.writer.ghost_name new.writer.ghost_name old.faults.ghost_name new.faults.ghost_name

  heard_nothing : (x : Lines) → lines_heard x x []
  heard_nothing x = (
    record {
      written = Appends-nil (contents (inner_of x.writer.now));
      works = λ works. works;
      full = Keeps-refl (notes (inner_of x.faults.now));
    },
    (refl, refl),
  )

  -- all that was told
  pub heard_all : (old new : Lines) (news : List News) → HasTakenNews lines_heard old new news
      → lines_heard old new news
  heard_all old new news h = h old [] (heard_nothing old)

  -- the line of one more
  pub heard_end : (old new : Lines) (n : ℕ) (end : ClientEnd)
      → HasWritten (connection_line n (served_as end)) (watched contents old.writer.now new.writer.now)
      → has_failed new.writer.now ≡ false → new.faults.now ≡ old.faults.now
      → AreSameDevices old.writer.ghost_name new.writer.ghost_name old.faults.ghost_name new.faults.ghost_name
      → HasTakenNews lines_heard old new (Ended n end ∷ [])
  heard_end old new n end wrote works same names start taken (told, before) = (
    record {
      written = subst (λ (l : List ℕ). HasWritten l (watched contents start.writer.now new.writer.now))
          (sym (lines_told taken n end))
          (Appends-trans (contents (inner_of start.writer.now)) (contents (inner_of old.writer.now))
          (contents (inner_of new.writer.now)) (connection_lines (told_ends (ends_in taken)))
          (connection_line n (served_as end)) told.written wrote);
      works = λ fine. works;
      full = subst (λ (k : ℕ). TellsFull k (watched notes start.faults.now new.faults.now))
          (sym (fulls_push taken n end))
          (subst (λ (f : Watched F). TellsFull (fulls_in taken) (watched notes start.faults.now f)) (sym same)
          told.full);
    },
    (names.0 ∙ before.0, names.1 ∙ before.1),
  )

  -- that no client can be taken
  pub heard_full : (old new : Lines) → new.writer.now ≡ old.writer.now
      → Tells full_text (watched notes old.faults.now new.faults.now)
      → AreSameDevices old.writer.ghost_name new.writer.ghost_name old.faults.ghost_name new.faults.ghost_name
      → HasTakenNews lines_heard old new (Full ∷ [])
  heard_full old new same tells names start taken (told, before) =
      let more : suc (fulls_in taken) ≡ fulls_in (taken ++ Full ∷ []) = omega (arith, fulls_full taken) in (
        record {
          written = subst (λ (l : List (ℕ × ClientEnd)). HasWritten (connection_lines (told_ends l))
              (watched contents start.writer.now new.writer.now)) (sym (ends_full taken))
              (subst (λ (w : Watched W). HasWritten (connection_lines (told_ends (ends_in taken)))
              (watched contents start.writer.now w)) (sym same) told.written);
          works = λ fine. ap (λ (w : Watched W). has_failed w) same ∙ told.works fine;
          full = subst (λ (k : ℕ). TellsFull k (watched notes start.faults.now new.faults.now)) more
              (full_then (fulls_in taken) (notes (inner_of start.faults.now)) (notes (inner_of old.faults.now))
              (notes (inner_of new.faults.now)) (has_failed old.faults.now) (has_failed new.faults.now) told.full tells);
        },
        (names.0 ∙ before.0, names.1 ∙ before.1),
      )

  -- what comes of it where the end of one is to be told
  pub puts_end : (old new : Lines) (news : News) (n : ℕ) (end : ClientEnd) (r : Result ⊤ LineFault)
      → news ≡ Ended n end
      → PutsLine (connection_line n (served_as end)) r (watched contents old.writer.now new.writer.now)
      (has_failed old.writer.now) → new.faults.now ≡ old.faults.now
      → AreSameDevices old.writer.ghost_name new.writer.ghost_name old.faults.ghost_name new.faults.ghost_name
      → MatchResult r (λ done. HasTakenNews lines_heard old new (news ∷ [])) (λ why. lines_refused old new news why)
  puts_end old new news n end (Ok done) is (wrote, works) same names =
      subst (λ (x : News). HasTakenNews lines_heard old new (x ∷ [])) (sym is)
      (heard_end old new n end wrote works same names)
  puts_end old new news n end (Err fault) is put same names =
      subst (λ (x : News). lines_refused old new x fault) (sym is) (put, same, names)

  pub puts_full : (old new : Lines) (news : News) → news ≡ Full → new.writer.now ≡ old.writer.now
      → Tells full_text (watched notes old.faults.now new.faults.now)
      → AreSameDevices old.writer.ghost_name new.writer.ghost_name old.faults.ghost_name new.faults.ghost_name
      → HasTakenNews lines_heard old new (news ∷ [])
  puts_full old new news is same tells names = subst (λ (x : News). HasTakenNews lines_heard old new (x ∷ []))
      (sym is) (heard_full old new same tells names)

-- ---- what the run of a server writes

all_map : (MayEnd : Served → Type 0) (P : ℕ × ClientEnd → Type 0) (ends : List (ℕ × ClientEnd))
    → ((end : ℕ × ClientEnd) → P end → MayEnd (served_as end.1)) → All P ends
    → All (λ (e : ℕ × Served). MayEnd e.1) (told_ends ends)
all_map MayEnd P [] to are = All-nil (λ (e : ℕ × Served). MayEnd e.1)
all_map MayEnd P (end ∷ ends) to are = All-cons (λ (e : ℕ × Served). MayEnd e.1) (end.0, served_as end.1)
    (told_ends ends) (to end (All-head P end ends are)) (all_map MayEnd P ends to (All-tail P end ends are))

all_differ : (n : ℕ) (ends : List (ℕ × ClientEnd)) → All (λ (m : ℕ). m ≡ n → ⊥) (numbers_of ends)
    → All (λ (e : ℕ × Served). e.0 ≡ n → ⊥) (told_ends ends)
all_differ n [] far = All-nil (λ (e : ℕ × Served). e.0 ≡ n → ⊥)
all_differ n (end ∷ ends) far = All-cons (λ (e : ℕ × Served). e.0 ≡ n → ⊥) (end.0, served_as end.1) (told_ends ends)
    (All-head (λ (m : ℕ). m ≡ n → ⊥) end.0 (numbers_of ends) far)
    (all_differ n ends (All-tail (λ (m : ℕ). m ≡ n → ⊥) end.0 (numbers_of ends) far))

module _ {S L V : Type 0} (did : S → S → List Deed → Type 0) (ldid : L → L → List (AcceptDeed V) → Type 0)
    {W F : Type 0} (contents : W → Option (List ℕ)) (notes : F → Option (List ℕ)) (plan : ServePlan)
    (service : Service) (is : IsServiceOf plan service) (first : L) where
  abbrev Served_ : ServedLines W F → ServedLines W F → ℕ → List V → Type 0
  Served_ old new there untold =
      HasServedClients did ldid (lines_heard contents notes) service first old new there untold

  ends_over : (end : ℕ × ClientEnd) → IsClientEnd did service end.1 → IsServedOver did plan (served_as end.1)
  ends_over end may = (service, is, end.1, may, refl)

  abbrev been : (old new : ServedLines W F) (there : ℕ) (untold : List V) (s : Served_ old new there untold)
      → HaveBeenServed (GaveClients ldid first) (IsServedOver did plan) plan (told_ends (ends_in s.news))
  been old new there untold s = record {
    came = clients_given s.deeds;
    gave = (s.last, s.deeds, s.asked, refl);
    within = subst (λ (o : Option ℕ). IsWithinCount o (clients_given s.deeds)) is.count s.within;
    numbers = subst (λ (n : ℕ). AreEndNumbers n (clients_given s.deeds) (map (λ (e : ℕ × Served). e.0)
        (told_ends (ends_in s.news)))) is.at_once
        (subst (λ (l : List ℕ). AreEndNumbers service.at_once (clients_given s.deeds) l)
        (sym (told_numbers (ends_in s.news))) s.numbers);
    few = omega (arith, s.came, s.few, is.at_once, told_count (ends_in s.news));
    may = all_map (IsServedOver did plan) (λ (e : ℕ × ClientEnd). IsClientEnd did service e.1) (ends_in s.news)
        ends_over s.ends;
  }

  has_served : (old new : ServedLines W F) (there : ℕ) (untold : List V) (s : Served_ old new there untold)
      → has_failed old.writer.now ≡ false
      → HasServed [] (told_ends (ends_in s.news)) (watched contents old.writer.now new.writer.now)
  has_served old new there untold s works =
      let (told, names) = heard_all contents notes old new s.news s.put in (told.works works, told.written)

  full_served : (old new : ServedLines W F) (there : ℕ) (untold : List V) (s : Served_ old new there untold)
      → TellsFullOnce (watched notes old.faults.now new.faults.now)
  full_served old new there untold s =
      let (told, names) = heard_all contents notes old new s.news s.put in
      full_once (fulls_in s.news) s.reasons (watched notes old.faults.now new.faults.now) s.full told.full

  still_open : (old new : ServedLines W F) (there : ℕ) (untold : List V) (s : Served_ old new there untold)
      → IsStillOpen service.count (length (ends_in s.news)) → IsStillOpen plan.count (length (told_ends (ends_in s.news)))
  still_open old new there untold s more = subst (λ (n : ℕ). IsStillOpen plan.count n) (sym (told_count (ends_in s.news)))
      (subst (λ (o : Option ℕ). IsStillOpen o (length (ends_in s.news))) is.count more)

  -- as many as were asked for were told, or the listener can give none, or the loop can't go on
  told_so : (old new : ServedLines W F) (there : ℕ) (untold : List V) (s : Served_ old new there untold)
      → has_failed old.writer.now ≡ false → (ended : Result Exit Fault)
      → EndsServing (IsServedOver did plan) plan [] (told_ends (ends_in s.news)) ended
      (watched contents old.writer.now new.writer.now)
      → ServesClients (GaveClients ldid first) (IsServedOver did plan) plan [] ended
      (watched contents old.writer.now new.writer.now) (watched notes old.faults.now new.faults.now)
  told_so old new there untold s works ended ends =
      (told_ends (ends_in s.news), been old new there untold s, ends, full_served old new there untold s)

  -- what was to be told next was not taken
  line_failed : (old mid new : ServedLines W F) (there : ℕ) (untold : List V) (s : Served_ old mid there untold)
      → has_failed old.writer.now ≡ false → IsStillOpen service.count (length (ends_in s.news)) → (next : News)
      → IsNextNews did service (clients_given s.deeds) s.news next → (fault : LineFault)
      → lines_refused contents notes mid new next fault
      → ServesClients (GaveClients ldid first) (IsServedOver did plan) plan [] (exit_as (serving.Refused fault))
      (watched contents old.writer.now new.writer.now) (watched notes old.faults.now new.faults.now)
  line_failed old mid new there untold s works more (Ended n end) (may, one, last, far) line.Output
      (put, same, names) =
      let (fine, wrote) = has_served old mid there untold s works in
      let (failed, (front, rest, parts, begun)) = put fine in (
        told_ends (ends_in s.news),
        been old mid there untold s,
        (
          still_open old mid there untold s more,
          inr (
            n,
            served_as end,
            (service, is, end, may, refl),
            all_differ n (ends_in s.news) far,
            failed,
            (
              front,
              rest,
              parts,
              Appends-trans (contents (inner_of old.writer.now)) (contents (inner_of mid.writer.now))
                  (contents (inner_of new.writer.now)) (connection_lines (told_ends (ends_in s.news))) front wrote begun,
            ),
          ),
        ),
        subst (λ (f : Watched F). TellsFullOnce (watched notes old.faults.now f)) (sym same)
            (full_served old mid there untold s),
      )
  line_failed old mid new there untold s works more (Ended n end) next line.NoMemory
      ((kept, still), same, names) =
      let (fine, wrote) = has_served old mid there untold s works in (
        told_ends (ends_in s.news),
        been old mid there untold s,
        (
          refl,
          still_open old mid there untold s more,
          (
            still fine,
            Appends-kept (contents (inner_of old.writer.now)) (contents (inner_of mid.writer.now))
                (contents (inner_of new.writer.now)) (connection_lines (told_ends (ends_in s.news))) wrote kept,
          ),
        ),
        subst (λ (f : Watched F). TellsFullOnce (watched notes old.faults.now f)) (sym same)
            (full_served old mid there untold s),
      )
  line_failed old mid new there untold s works more Full next fault (refused, same, names) = absurd refused

  pub serves_over : (old new : ServedLines W F) (end : ServingEnd LineFault)
      → ServesAll did ldid (lines_heard contents notes) (lines_refused contents notes) service first old new end
      → has_failed old.writer.now ≡ false
      → ServesClients (GaveClients ldid first) (IsServedOver did plan) plan [] (exit_as end)
      (watched contents old.writer.now new.writer.now) (watched notes old.faults.now new.faults.now)
  serves_over old new serving.Done (s, all) works = told_so old new 0 [] s works (Ok Done) (
    sym is.count ∙ (all ∙ ap (λ (n : ℕ). Some n) (sym (told_count (ends_in s.news)))),
    has_served old new 0 [] s works,
  )
  serves_over old new serving.Deaf (why, s, more) works = told_so old new 0 (why ∷ []) s works (Ok Failed)
      (still_open old new 0 (why ∷ []) s more, inl (has_served old new 0 (why ∷ []) s works))
  serves_over old new (serving.Stopped loop.NoMemory) (there, s, more) works =
      told_so old new there [] s works (Err NoMemory)
      (refl, still_open old new there [] s more, has_served old new there [] s works)
  serves_over old new (serving.Stopped loop.WaitFailed) (there, s, more) works =
      told_so old new there [] s works (Ok Failed)
      (still_open old new there [] s more, inl (has_served old new there [] s works))
  serves_over old new (serving.Stopped loop.NoOutput) (there, s, more) works =
      told_so old new there [] s works (Ok Failed)
      (still_open old new there [] s more, inl (has_served old new there [] s works))
  serves_over old new (serving.Refused fault) (mid, there, untold, s, more, next, due, refused) works =
      line_failed old mid new there untold s works more next due fault refused

  -- the same devices are told to, also where it has ended so
  pub serves_names : (old new : ServedLines W F) (end : ServingEnd LineFault)
      → ServesAll did ldid (lines_heard contents notes) (lines_refused contents notes) service first old new end
      → AreSameDevices old.writer.ghost_name new.writer.ghost_name old.faults.ghost_name new.faults.ghost_name
  serves_names old new serving.Done (s, all) = (heard_all contents notes old new s.news s.put).1
  serves_names old new serving.Deaf (why, s, more) = (heard_all contents notes old new s.news s.put).1
  serves_names old new (serving.Stopped fault) (there, s, more) = (heard_all contents notes old new s.news s.put).1
  serves_names old new (serving.Refused fault) (mid, there, untold, s, more, next, due, refused) =
      let before = (heard_all contents notes old mid s.news s.put).1 in
      let (put, same, names) = refused in (names.0 ∙ before.0, names.1 ∙ before.1)

-- ---- behind other bytes, and where nothing is known of streams

written_behind : (before : List ℕ) (ends : List (ℕ × Served)) (old mid new : Option (List ℕ)) (failed : Bool)
    → Appends old mid before → HasServed [] ends (record { failed = failed; old = mid; new = new })
    → HasServed before ends (record { failed = failed; old = old; new = new })
written_behind before ends old mid new failed first (works, wrote) =
    (works, Appends-trans old mid new before (connection_lines ends) first wrote)

module _ {S : Type 0} (did : S → S → List Deed → Type 0) (plan : ServePlan) where
  gives_admission : (known : List (List ℕ)) (request : Admission) → known ≡ plan.protocols
      → IsAdmission did known request → GivesAdmission plan.protocols request
  gives_admission known request same is = (is.start, is.is_known ∙ same, all_told is.happened, is.gives)

  by_end : (service : Service) → IsServiceOf plan service → (end : ClientEnd) → IsClientEnd did service end
      → IsServedBy plan (served_as end)
  by_end service is (Refused fault) may = gives_admission (known_to service) (admission.Refused fault) is.known may
  by_end service is Lost may = tt
  by_end service is (Echoed (echo.Done status)) (request, asked, over) = (
    request,
    gives_admission (known_to service) (admission.Accepted request) is.known asked,
    all_told over.happened,
    subst (λ (n : ℕ). EchoGives (connection plan.limits n request.behind.items) (all_told over.happened)
        (echo.Done status)) is.budget
        (subst (λ (l : LimitsValue). EchoGives (connection l service.budget request.behind.items)
        (all_told over.happened) (echo.Done status)) is.limits over.gives),
  )
  by_end service is (Echoed echo.Budget) may = tt
  by_end service is (Echoed (echo.Stopped why)) may = tt
  by_end service is client.NoMemory may = tt

  served_by : (told : Served) → IsServedOver did plan told → IsServedBy plan told
  served_by told (service, is, end, may, same) =
      subst (λ (x : Served). IsServedBy plan x) (sym same) (by_end service is end may)

  all_by : (ends : List (ℕ × Served)) → All (λ (e : ℕ × Served). IsServedOver did plan e.1) ends
      → All (λ (e : ℕ × Served). IsServedBy plan e.1) ends
  all_by ends over i d below = served_by _ (over i d below)

  been_by : (Gave : ℕ → Type 0) (ends : List (ℕ × Served)) → HaveBeenServed Gave (IsServedOver did plan) plan ends
      → HaveBeenServed (λ came. ⊤) (IsServedBy plan) plan ends
  been_by Gave ends been = record {
    came = been.came;
    gave = tt;
    within = been.within;
    numbers = been.numbers;
    few = been.few;
    may = all_by ends been.may;
  }

  stops_by : (before : List ℕ) (ends : List (ℕ × Served)) (old mid new : Option (List ℕ)) (failed : Bool)
      → Appends old mid before
      → StopsAtServed (IsServedOver did plan) [] ends (record { failed = failed; old = mid; new = new })
      → StopsAtServed (IsServedBy plan) before ends (record { failed = failed; old = old; new = new })
  stops_by before ends old mid new failed first (number, next, may, far, fails, (front, more, parts, wrote)) = (
    number,
    next,
    served_by next may,
    far,
    fails,
    (
      front,
      more,
      parts,
      subst (λ (l : List ℕ). Appends old new l) (sym (append_assoc before (connection_lines ends) front))
          (Appends-trans old mid new before (connection_lines ends ++ front) first wrote),
    ),
  )

  ends_by : (before : List ℕ) (ends : List (ℕ × Served)) (ended : Result Exit Fault)
      (old mid new : Option (List ℕ)) (failed : Bool) → Appends old mid before
      → EndsServing (IsServedOver did plan) plan [] ends ended (record { failed = failed; old = mid; new = new })
      → EndsServing (IsServedBy plan) plan before ends ended (record { failed = failed; old = old; new = new })
  ends_by before ends (Ok Done) old mid new failed first (all, has) =
      (all, written_behind before ends old mid new failed first has)
  ends_by before ends (Ok Failed) old mid new failed first (more, inl has) =
      (more, inl (written_behind before ends old mid new failed first has))
  ends_by before ends (Ok Failed) old mid new failed first (more, inr stops) =
      (more, inr (stops_by before ends old mid new failed first stops))
  ends_by before ends (Ok Damaged) old mid new failed first bad = absurd bad
  ends_by before ends (Ok WrongWords) old mid new failed first bad = absurd bad
  ends_by before ends (Err fault) old mid new failed first (is, more, has) =
      (is, more, written_behind before ends old mid new failed first has)

  -- clients are served behind the first line
  pub serves_behind : (Gave : ℕ → Type 0) (before : List ℕ) (ended : Result Exit Fault)
      (old mid new : Option (List ℕ)) (failed : Bool) (faults : Device) → Appends old mid before
      → ServesClients Gave (IsServedOver did plan) plan [] ended (record { failed = failed; old = mid; new = new })
      faults
      → ServesClients (λ came. ⊤) (IsServedBy plan) plan before ended
      (record { failed = failed; old = old; new = new }) faults
  serves_behind Gave before ended old mid new failed faults first (ends, been, ends_so, full) =
      (ends, been_by Gave ends been, ends_by before ends ended old mid new failed first ends_so, full)

-- ---- nobody

none_within : (o : Option ℕ) → IsWithinCount o 0
none_within None = tt
none_within (Some most) = omega arith

module _ {S L V : Type 0} (did : S → S → List Deed → Type 0) (ldid : L → L → List (AcceptDeed V) → Type 0)
    (plan : ServePlan) (first : L) where
  none_been : HaveBeenServed (GaveClients ldid first) (IsServedOver did plan) plan []
  none_been = record {
    came = 0;
    gave = (first, [], heard_none, refl);
    within = none_within plan.count;
    numbers = numbers_none plan.at_once 0;
    few = omega arith;
    may = All-nil (λ (e : ℕ × Served). IsServedOver did plan e.1);
  }
    where
      heard_none : HasHeard ldid first first []
      heard_none start deeds h =
          subst (λ (d : List (AcceptDeed V)). ldid start first d) (sym (append-nil deeds)) h

  -- nobody was to be served
  pub none_served : (output faults : Option (List ℕ)) (failed broken : Bool) → plan.count ≡ Some 0 → failed ≡ false
      → ServesClients (GaveClients ldid first) (IsServedOver did plan) plan [] (Ok Done)
      (record { failed = failed; old = output; new = output }) (record { failed = broken; old = faults; new = faults })
  none_served output faults failed broken none works =
      ([], none_been, (none, (works, Appends-nil output)), inl (Keeps-refl faults))

  -- memory ran out before anybody came
  pub none_lacks : (ended : Result Exit Fault) (output faults : Option (List ℕ)) (failed broken : Bool)
      → IsErrAnd ended (λ fault. fault ≡ NoMemory) → IsStillOpen plan.count 0 → failed ≡ false
      → ServesClients (GaveClients ldid first) (IsServedOver did plan) plan [] ended
      (record { failed = failed; old = output; new = output }) (record { failed = broken; old = faults; new = faults })
  none_lacks (Ok exit) output faults failed broken is more works = absurd is
  none_lacks (Err fault) output faults failed broken is more works =
      ([], none_been, (is, more, (works, Appends-nil output)), inl (Keeps-refl faults))

-- nothing can be listened at
pub unheard_none : (ended : Result Exit Fault) (output faults : Device) → IsErrAnd ended CanNotListen
    → output.failed ≡ false → IsUntouched output → IsUntouched faults
    → ServesNone ended output × IsUntouched faults
unheard_none (Ok exit) output faults is works same kept = absurd is
unheard_none (Err fault) output faults is works same kept = (((fault, is, refl), works, same), kept)

pub lacks_unheard : (ended : Result Exit Fault) → IsErrAnd ended (λ fault. fault ≡ NoMemory)
    → IsErrAnd ended CanNotListen
lacks_unheard (Ok exit) is = absurd is
lacks_unheard (Err fault) is = inr is
