-- What a machine was told and its stream did: nothing yet, one thing, and one after the other.
use Rattle.std.proofs.Common.{◌≡◌, ℕ, ◌<◌, false, List, [], ◌∷◌, ◌++◌, length, sym, refl}
use Rattle.std.proofs.Common.{arith, subst, append_assoc, append-nil}
use Rattle.ws_machines.specs.Told.{Told, told_by_read, told_by_write}
use Rattle.ws_machines.specs.Machines.{Extends, FitsWrite, IsFirstWanted, IsRunning, KeepsTold, MayBeTold, RunTogether}
use Rattle.ws_machines.specs.Machines.{ServedOne, Wants, told_at, write_event}
use Rattle.ws_machines.specs.declared.stream.ReadOutcome.{ReadOutcome}
use Rattle.ws_machines.specs.declared.stream.ReadOutcome.TheVariants as read
use Rattle.ws_machines.specs.declared.stream.WriteOutcome.{WriteOutcome}
use Rattle.ws_machines.specs.declared.stream.WriteOutcome.TheVariants as write

module _ {M S : Type 0} (agrees : M → M → List Told → Type 0) (did : S → S → List Told → Type 0) where
  -- nothing was told yet
  pub nothing_told : (m : M) (s : S) → RunTogether agrees did m m s s
  nothing_told m s = record {
    more = [];
    told = λ start told h. subst (λ (l : List Told). agrees start m l) (sym (append-nil told)) h;
    done = λ start told h. subst (λ (l : List Told). did start s l) (sym (append-nil told)) h;
  }

  -- one thing was done, which both have so
  pub one_told : (wants : M → Wants) (m n : M) (s t : S) (x y : Told) → x ≡ y → Extends agrees m n (x ∷ [])
      → Extends did s t (y ∷ []) → IsFirstWanted (wants m) y → ServedOne agrees wants did m n s t
  one_told wants m n s t x y e told done order = record {
    event = y;
    told = subst (λ (z : Told). Extends agrees m n (z ∷ [])) e told;
    done = done;
    order = order;
  }

  pub served_together : (wants : M → Wants) (m n : M) (s t : S) → ServedOne agrees wants did m n s t
      → RunTogether agrees did m n s t
  served_together wants m n s t h = record { more = h.event ∷ []; told = h.told; done = h.done }

  -- what was told first, and then
  pub then_told : (m n o : M) (s t u : S) → RunTogether agrees did m n s t → RunTogether agrees did n o t u
      → RunTogether agrees did m o s u
  then_told m n o s t u h k = record {
    more = h.more ++ k.more;
    told = λ start told x. subst (λ (l : List Told). agrees start o l) (append_assoc told h.more k.more)
        (k.told start (told ++ h.more) (h.told start told x));
    done = λ start told x. subst (λ (l : List Told). did start u l) (append_assoc told h.more k.more)
        (k.done start (told ++ h.more) (h.done start told x));
  }

  -- it was done still where the stream has done nothing since
  pub served_still : (wants : M → Wants) (m n : M) (s t u : S) → ServedOne agrees wants did m n s t → KeepsTold did t u
      → ServedOne agrees wants did m n s u
  served_still wants m n s t u h keeps = record {
    event = h.event;
    told = h.told;
    done = λ start told x. keeps start (told ++ h.event ∷ []) (h.done start told x);
    order = h.order;
  }

  -- it is told that behind what it was told before
  pub still_running : (m n : M) (s t : S) → RunTogether agrees did m n s t → IsRunning agrees m → IsRunning agrees n
  still_running m n s t h (start, told, x) = (start, told ++ h.more, h.told start told x)

-- what came of a write, as the machine is told of it
pub write_told : (wants : Wants) (outcome : WriteOutcome)
    → told_at wants (write_event outcome) ≡ told_by_write wants.write outcome
write_told wants (write.Taken count) = refl
write_told wants write.Failed = refl
write_told wants (write.DeadlinePassed waited) = refl

-- and it may be told of it
pub write_may_be_told : (wants : Wants) (len : ℕ) (outcome : WriteOutcome) → len ≡ length wants.write
    → wants.done ≡ false → 0 < length wants.write → FitsWrite len outcome → MayBeTold wants (write_event outcome)
write_may_be_told wants len (write.Taken count) e undone some fits = (undone, (fits.0, omega (arith, fits.1, e)))
write_may_be_told wants len write.Failed e undone some fits = (undone, some)
write_may_be_told wants len (write.DeadlinePassed waited) e undone some fits = (undone, tt)

-- what came of a write, or of a read, is the first that was wanted where what stands before it wasn't
pub write_in_order : (wants : Wants) (bytes : List ℕ) (outcome : WriteOutcome) → wants.report ≡ []
    → wants.end ≡ false → IsFirstWanted wants (told_by_write bytes outcome)
write_in_order wants bytes (write.Taken count) r e = (r, e)
write_in_order wants bytes write.Failed r e = (r, e)
write_in_order wants bytes (write.DeadlinePassed waited) r e = (r, e)

pub read_in_order : (wants : Wants) (room : List ℕ) (outcome : ReadOutcome) → wants.report ≡ [] → wants.end ≡ false
    → wants.write ≡ [] → IsFirstWanted wants (told_by_read room outcome)
read_in_order wants room (read.Came count) r e w = (r, (e, w))
read_in_order wants room read.Ended r e w = (r, (e, w))
read_in_order wants room read.Failed r e w = (r, (e, w))
read_in_order wants room read.NothingCame r e w = (r, (e, w))
read_in_order wants room (read.DeadlinePassed waited) r e w = (r, e)
