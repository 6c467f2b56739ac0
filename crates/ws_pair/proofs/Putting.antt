-- Bytes that are put one behind the other through a room: what is due grows by them, also behind a failed write.
use Rattle.std.proofs.Common.{◌≡◌, ◌∙◌, ℕ, ◌<◌, ◌≤◌, List, [], ◌∷◌, ◌++◌, length, Bool, false, true, Option, Result, Ok, Err, OnOk, inl, inr, refl, subst, sym, ap, ap₂, arith, append_assoc, append-nil, codes}
use Rattle.std.proofs.KnownBytes.{Appends-nil}
use Rattle.std.proofs.lemmas.Grind.{flat_map-append}
use Rattle.std.specs.List.{flat_map}
use Rattle.ws_formats.specs.Words.{hex, hex_word}
use Rattle.ws_frame.specs.Devices.{Device, HasBegun, watched}
use Rattle.ws_frame.specs.Streaming.{WritesAll}
use Rattle.ws_frame.specs.Watching.{has_failed}
use Rattle.ws_frame.specs.declared.watching.Watched.{Watched}
use Rattle.ws_frame.specs.declared.writing_whole.WriteFault.{WriteFault}
use Rattle.ws_rooms.specs.Rooms.{WritesAndKeeps}
use Rattle.ws_rooms.proofs.Waiting.{all_written, begun_behind, begun_more, stands_behind}
use Rattle.ws_pair.specs.declared.moves.End.{End}
use Rattle.ws_pair.specs.declared.moves.End.TheVariants.{Client, Server}
use Rattle.ws_pair.specs.declared.report.EndReport.{EndReport}
use Rattle.ws_pair.specs.declared.report.Report.{Report}
use Rattle.ws_pair.specs.ReportLines.{answer_line, end_lines, message_line, report_lines}
use Rattle.ws_pair.specs.InnerPrinting.{IsDue, PutsBehind, end_with_last, put_line, reached_line, standing_line}
use Rattle.ws_pair.proofs.Told.{no_both}

abbrev device : Bool → Option (List ℕ) → Option (List ℕ) → Device
device failed old new = record { failed = failed; old = old; new = new }

-- behind a failed write nothing more is put
pub due_failed : (due more waiting : List ℕ) (failed : Bool) (old new : Option (List ℕ)) → failed ≡ true
    → IsDue due waiting (device failed old new) → IsDue (due ++ more) waiting (device failed old new)
due_failed due more waiting failed old new e (inl h) = absurd (no_both failed e h.0)
due_failed due more waiting failed old new e (inr h) = inr (h.0, begun_more due more (due ++ more) old new refl h.1)

-- what one call puts
pub due_put : {T : Type 0} (due more waiting left : List ℕ) (works failed : Bool) (old mid new : Option (List ℕ))
    (r : Result T WriteFault) → works ≡ false → IsDue due waiting (device works old mid)
    → WritesAndKeeps (waiting ++ more) left (device failed mid new) r → IsDue (due ++ more) left (device failed old new)
due_put due more waiting left works failed old mid new (Ok value) e (inl (fine, written, wrote, same)) (next, later, works_on, f) =
    let (all, both, g) = stands_behind due waiting more (due ++ more) left old mid new (written, wrote, same) refl (next, later, f) in
    inl (works_on, all, both, g)
due_put due more waiting left works failed old mid new (Err fault) e (inl (fine, written, wrote, same)) (begun, f) =
    inr (f, begun_behind due waiting more (due ++ more) old mid new (written, wrote, same) refl begun)
due_put due more waiting left works failed old mid new r e (inr h) put = absurd (no_both works h.0 e)

module _ {W : Type 0} (contents : W → Option (List ℕ)) where
  -- nothing is put
  pub none_put : (room : List ℕ) (writer : Watched W) → PutsBehind contents [] room room writer writer
  none_put room writer = λ first due h. subst (λ (l : List ℕ). IsDue l room (watched contents first writer)) (sym (append-nil due)) h

  -- some bytes, and then others
  pub both_put : (a b room mid left : List ℕ) (old between new : Watched W) → PutsBehind contents a room mid old between
      → PutsBehind contents b mid left between new → PutsBehind contents (a ++ b) room left old new
  both_put a b room mid left old between new p q = λ first due h.
      subst (λ (l : List ℕ). IsDue l left (watched contents first new)) (append_assoc due a b) (q first (due ++ a) (p first due h))

  -- the same bytes
  pub same_put : (a b room left : List ℕ) (old new : Watched W) → a ≡ b → PutsBehind contents a room left old new
      → PutsBehind contents b room left old new
  same_put a b room left old new e p = subst (λ (l : List ℕ). PutsBehind contents l room left old new) e p

  -- behind a failed write whatever else was to be put counts as put
  pub stopped_put : (a b room left : List ℕ) (old new : Watched W) → has_failed new ≡ true
      → PutsBehind contents a room left old new → PutsBehind contents (a ++ b) room left old new
  stopped_put a b room left old new failed p = λ first due h.
      subst (λ (l : List ℕ). IsDue l left (watched contents first new)) (append_assoc due a b)
      (due_failed (due ++ a) b left _ _ _ failed (p first due h))

-- ---- lists of lines

pub flat_more : {T : Type 0} (f : T → List ℕ) (xs : List T) (x : T) → flat_map f (xs ++ x ∷ []) ≡ flat_map f xs ++ f x
flat_more f xs x = flat_map-append f xs (x ∷ []) ∙ ap (λ (l : List ℕ). flat_map f xs ++ l) (append-nil (f x))

-- the lines of some, and of those that follow them
pub flat_all : {T : Type 0} (f : T → List ℕ) (xs ys all : List T) → all ≡ xs ++ ys
    → flat_map f xs ++ flat_map f ys ≡ flat_map f all
flat_all f xs ys all e = sym (ap (λ (l : List _). flat_map f l) e ∙ flat_map-append f xs ys)

pub word_of_some : (bytes : List ℕ) → 0 < length bytes → hex bytes ≡ hex_word bytes
word_of_some [] some = absurd (omega (arith, some))
word_of_some (b ∷ bytes) some = refl

pub word_of_none : (bytes : List ℕ) → length bytes ≤ 0 → codes "-" ≡ hex_word bytes
word_of_none [] none = refl
word_of_none (b ∷ bytes) none = absurd (omega (arith, none))

-- ---- a whole report

pub due_first : (failed : Bool) (old : Option (List ℕ)) → failed ≡ false → IsDue [] [] (device failed old old)
due_first failed old e = inl (e, [], Appends-nil old, refl)

pub due_stopped : (due waiting : List ℕ) (failed : Bool) (old new : Option (List ℕ)) → failed ≡ true
    → IsDue due waiting (device failed old new) → HasBegun due (device failed old new) × (failed ≡ true)
due_stopped due waiting failed old new e (inl h) = absurd (no_both failed e h.0)
due_stopped due waiting failed old new e (inr h) = (h.1, h.0)

pub due_flushed : (due waiting left : List ℕ) (works failed : Bool) (old mid new : Option (List ℕ))
    (r : Result (Unit {0}) WriteFault) → works ≡ false → IsDue due waiting (device works old mid)
    → WritesAndKeeps waiting left (device failed mid new) r → OnOk r (left ≡ []) → WritesAll due (device failed old new) r
due_flushed due waiting left works failed old mid new r e (inl h) put empty =
    all_written due waiting left failed old mid new r (h.1, h.2, h.3) put empty
due_flushed due waiting left works failed old mid new r e (inr h) put empty = absurd (no_both works h.0 e)

-- the lines of an end with its last line
pub with_last : (side : End) (end : EndReport) (last : List ℕ) → last ≡ standing_line side end.status
    → end_with_last side end last ≡ end_lines side end
with_last side end last e =
    ap (λ (l : List ℕ). put_line side end.put.items ++ (reached_line side end.reached ++ (flat_map (message_line side) end.delivered.items ++ l)))
    (e ∙ sym (append-nil (standing_line side end.status)))

pub whole_report : (report : Report) (client server : List ℕ) → client ≡ standing_line Client report.client.status
    → server ≡ standing_line Server report.server.status
    → flat_map answer_line report.answers.items ++ (end_with_last Client report.client client ++ end_with_last Server report.server server)
    ≡ report_lines report
whole_report report client server e f =
    let answers : List ℕ = flat_map answer_line report.answers.items in
    ap₂ (λ (a b : List ℕ). answers ++ (a ++ b)) (with_last Client report.client client e)
    (with_last Server report.server server f ∙ sym (append-nil (end_lines Server report.server)))

pub writes_report : (lines all : List ℕ) (output : Device) (r : Result (Unit {0}) WriteFault) → lines ≡ all
    → WritesAll lines output r → WritesAll all output r
writes_report lines all output r e h = subst (λ (l : List ℕ). WritesAll l output r) e h
