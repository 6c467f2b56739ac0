-- Why an address can't be listened at, and what is told of one that is.
use Rattle.std.specs.Prelude.{◌≡◌, ◌≢◌, ◌⊎◌, ◌≤◌, ℕ, All, Option, MatchOption}
use Rattle.std.specs.Prelude.{List, ◌∷◌, ◌++◌, length}
use Rattle.std.specs.Borrow.{Bor}
use Rattle.std.specs.Fmt.{decimal}
use Rattle.std.specs.declared.io.ErrorKind.{ErrorKind}
use Rattle.std.specs.declared.io.ErrorKind.TheVariants.{AddrInUse, OutOfMemory, PermissionDenied}
use Rattle.wst_commands.specs.declared.fault.Fault.{Fault}
use Rattle.wst_commands.specs.declared.fault.Fault.TheVariants as fault
use Rattle.wst_commands.specs.declared.fault.ListenFault.{ListenFault}
use Rattle.wst_commands.specs.declared.fault.ListenFault.TheVariants as why

-- a look-up that fails so gives no address, unless memory ran out for it
abbrev pub lookup_fault_at : ErrorKind → ListenFault
lookup_fault_at OutOfMemory = why.Failed
lookup_fault_at _ = why.NoSuchHost

-- an address can't be bound so
abbrev pub listen_fault_at : ErrorKind → ListenFault
listen_fault_at AddrInUse = why.AddressInUse
listen_fault_at PermissionDenied = why.NotPermitted
listen_fault_at _ = why.Failed

-- ---- the port 0

abbrev pub port_colon : ℕ
port_colon = 58

abbrev pub plus : ℕ
plus = 43

abbrev pub digit_0 : ℕ
digit_0 = 48

-- zeros, one at least
abbrev pub AreZeros : List ℕ → Type 0
AreZeros word = (1 ≤ length word) × All (λ byte. byte ≡ digit_0) word

-- a port that is read as 0: zeros, before which a plus may stand
abbrev pub SpellsPort0 : List ℕ → Type 0
SpellsPort0 word = AreZeros word ⊎ ((zeros : List ℕ) × (word ≡ plus ∷ zeros) × AreZeros zeros)

-- the address is this host, a colon and the port 0, for which the system chooses another
abbrev pub IsAtPort0 : List ℕ → List ℕ → Type 0
IsAtPort0 address host = (word : List ℕ) × (address ≡ host ++ port_colon ∷ word) × SpellsPort0 word

-- its port isn't 0
abbrev pub LacksPort0 : List ℕ → Type 0
LacksPort0 address = (host : List ℕ) → IsAtPort0 address host → ⊥

-- the host, a colon and some port
abbrev pub IsWithPort : List ℕ → List ℕ → Type 0
IsWithPort host told = (port : ℕ) × (told ≡ host ++ port_colon ∷ decimal port)

-- what is told of an address that is listened at: the word as it was given, or with a port in the place of its port 0;
-- that it is the listener's own is not said
abbrev pub IsToldFor : List ℕ → List ℕ → Type 0
IsToldFor address told = (LacksPort0 address × (told ≡ address))
    ⊎ ((host : List ℕ) × IsAtPort0 address host × IsWithPort host told)

-- memory ran out, or the listener's port is not known
abbrev pub CanNotTell : Fault → Type 0
CanNotTell given = (given ≡ fault.NoMemory) ⊎ (given ≡ fault.NotListening why.Failed)

-- why nothing can be listened at, or want of memory
abbrev pub CanNotListen : Fault → Type 0
CanNotListen given = ((wrong : ListenFault) × (given ≡ fault.NotListening wrong)) ⊎ (given ≡ fault.NoMemory)

-- the bytes are front, their last colon, and back
abbrev pub IsCutAtPort : List ℕ → List ℕ → List ℕ → Type 0
IsCutAtPort bytes front back = (bytes ≡ front ++ port_colon ∷ back) × All (λ byte. byte ≢ port_colon) back

-- the bytes cut so, or none of them is a colon
abbrev pub CutsAtPort : List ℕ → Option (Bor (List ℕ) × Bor (List ℕ)) → Type 0
CutsAtPort bytes result =
    MatchOption result (All (λ byte. byte ≢ port_colon) bytes) (λ parts. IsCutAtPort bytes parts.0.now parts.1.now)
