-- What the calls of a connection come to: all that came was read, and all that was taken was written.
use Rattle.std.proofs.Common.{◌≡◌, ℕ, List, [], ◌∷◌, Option, Some, None, refl, sym, subst, append-nil, Bool, inl, inr}
use Rattle.std.proofs.KnownBytes.{Appends-trans, Consumes-trans}
use Rattle.std.specs.Io.KnownBytes.{Appends, Consumes}
use Rattle.ws_machines.specs.Told.{Told, all_came, all_taken, came_by, taken_by}
use Rattle.ws_machines.specs.Told.Told.{Came, DeadlinePassed, DirectionEnded, Ended, NothingCame, ReadFailed, Reported}
use Rattle.ws_machines.specs.Told.Told.{Taken, WriteFailed}
use Rattle.ws_connection.specs.ConnectionValues.{ConnectionValue, InputValue, OutputValue}
use Rattle.ws_connection.specs.Connections.{ReadsBytes, WritesBytes}
use Rattle.ws_connection.specs.StreamCalls.{DidCalls, IsCallOf}

-- ---- nothing is moved

reads_none : (known : Option (List ℕ)) → Consumes known known []
reads_none None = tt
reads_none (Some bytes) = refl

writes_none : (known : Option (List ℕ)) → Appends known known []
writes_none None = tt
writes_none (Some bytes) = sym (append-nil bytes)

same_input : (x y : InputValue) → y ≡ x → Consumes x.left y.left []
same_input x y same = subst (λ (i : InputValue). Consumes x.left i.left []) (sym same) (reads_none x.left)

same_output : (x y : OutputValue) → y ≡ x → Appends x.held y.held []
same_output x y same = subst (λ (o : OutputValue). Appends x.held o.held []) (sym same) (writes_none x.held)

-- ---- one call

call_reads : (event : Told) (x y : ConnectionValue) → IsCallOf event (record { old = x; new = y })
    → ReadsBytes (came_by event) (record { old = x; new = y })
call_reads (Came bytes) x y call = call.1.has_got
call_reads Ended x y call = call.0.has_got
call_reads ReadFailed x y call = call.has_got
call_reads NothingCame x y call = call.has_got
call_reads (Taken bytes) x y call = same_input x.input y.input call.1.input
call_reads WriteFailed x y call = same_input x.input y.input call.0.input
call_reads DirectionEnded x y call = same_input x.input y.input call.input
call_reads (Reported lines) x y same =
    subst (λ (v : ConnectionValue). Consumes x.input.left v.input.left []) (sym same) (reads_none x.input.left)
call_reads (DeadlinePassed waited) x y (inl call) = call.makes.has_got
call_reads (DeadlinePassed waited) x y (inr call) = subst (λ (i : InputValue). Consumes x.input.left i.left [])
    (sym call.input) (reads_none x.input.left)

call_writes : (event : Told) (x y : ConnectionValue) → IsCallOf event (record { old = x; new = y })
    → WritesBytes (taken_by event) (record { old = x; new = y })
call_writes (Came bytes) x y call = same_output x.output y.output call.1.output
call_writes Ended x y call = same_output x.output y.output call.0.output
call_writes ReadFailed x y call = same_output x.output y.output call.output
call_writes NothingCame x y call = same_output x.output y.output call.output
call_writes (Taken bytes) x y call = call.1.has_put
call_writes WriteFailed x y call = call.0.has_put
call_writes DirectionEnded x y call = call.has_put
call_writes (Reported lines) x y same =
    subst (λ (v : ConnectionValue). Appends x.output.held v.output.held []) (sym same) (writes_none x.output.held)
call_writes (DeadlinePassed waited) x y (inl call) = same_output x.output y.output call.makes.output
call_writes (DeadlinePassed waited) x y (inr call) = call.has_put

-- ---- all of them

pub did_read : (x y : ConnectionValue) (told : List Told) → DidCalls x y told
    → ReadsBytes (all_came told) (record { old = x; new = y })
did_read x y [] same =
    subst (λ (v : ConnectionValue). Consumes x.input.left v.input.left []) (sym same) (reads_none x.input.left)
did_read x y (event ∷ told) (next, call, rest) = Consumes-trans x.input.left next.input.left y.input.left
    (came_by event) (all_came told) (call_reads event x next call) (did_read next y told rest)

pub did_write : (x y : ConnectionValue) (told : List Told) → DidCalls x y told
    → WritesBytes (all_taken told) (record { old = x; new = y })
did_write x y [] same =
    subst (λ (v : ConnectionValue). Appends x.output.held v.output.held []) (sym same) (writes_none x.output.held)
did_write x y (event ∷ told) (next, call, rest) = Appends-trans x.output.held next.output.held y.output.held
    (taken_by event) (all_taken told) (call_writes event x next call) (did_write next y told rest)
