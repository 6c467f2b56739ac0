-- A run over a script: it has a line for each call, the calls are made one after the other, and what they answer is
-- told.
use Rattle.std.specs.Prelude.{◌≡◌, ℕ, List, [], string_bytes}
use Rattle.ws_wire.specs.declared.role.Role.{Role}
use Rattle.ws_session.specs.Limits.{LimitsValue}
use Rattle.ws_session.specs.Exchange.{Exchange}
use Rattle.ws_session.specs.declared.session.Session.{Session}
use Rattle.ws_session.specs.declared.echo.Echo.{Echo}
use Rattle.ws_calls.specs.declared.calls.Call.{Call}
use Rattle.ws_calls.specs.declared.calls.EchoCall.{EchoCall}
use Rattle.ws_calls.specs.CallLines.{calls_lines}
use Rattle.ws_calls.specs.Calls.{CallsReport, IsEchoReport, IsSessionReport, echo_of, new_exchange, session_of}
use Rattle.ws_calls.specs.InnerSteps.{Agrees, HasMade}
use Rattle.ws_calls.specs.declared.calling.Caller.{Caller}
use Rattle.ws_calls.specs.Script.{AreCallLines, AreEchoCallLines, as_call}

-- these are the lines of the report of these calls at a session
abbrev pub ReportsSession : Role → LimitsValue → List Call → List ℕ → Type 0
ReportsSession role limits calls lines =
    (report : CallsReport) × IsSessionReport role limits calls report × (lines ≡ calls_lines report)

-- and at an echo
abbrev pub ReportsEcho : Role → LimitsValue → List EchoCall → List ℕ → Type 0
ReportsEcho role limits calls lines =
    (report : CallsReport) × IsEchoReport role limits calls report × (lines ≡ calls_lines report)

-- the text is a script, and these are the lines of the report of its calls at a session
abbrev pub TellsSession : Role → LimitsValue → List ℕ → List ℕ → Type 0
TellsSession role limits text lines =
    (calls : List Call) × AreCallLines calls text × ReportsSession role limits calls lines

-- and at an echo
abbrev pub TellsEcho : Role → LimitsValue → List ℕ → List ℕ → Type 0
TellsEcho role limits text lines =
    (calls : List EchoCall) × AreEchoCallLines calls text × ReportsEcho role limits calls lines

-- ---- scripts that come call by call

-- it is a session of this role and these limits, and nothing was asked of it yet
pub record IsNewSession (role : Role) (limits : LimitsValue) (caller : Caller Session) : Type 0 where
  pub agrees : Agrees new_exchange caller.taken caller.called
  pub same : (caller.called.role ≡ role) × (caller.called.limits ≡ limits)
  pub lines : string_bytes caller.lines ≡ []

-- the second is what the first has become by these calls, whatever it had exchanged before them
abbrev pub HasCalledSession : Caller Session → List Call → Caller Session → Type 0
HasCalledSession first calls now = (exchange : Exchange) → Agrees exchange first.taken first.called
    → HasMade (λ call. call) (session_of first.called.role first.called.limits) exchange (string_bytes first.lines)
    calls now.taken now.called (string_bytes now.lines)

-- the same of an echo
pub record IsNewEcho (role : Role) (limits : LimitsValue) (caller : Caller Echo) : Type 0 where
  pub agrees : Agrees new_exchange caller.taken caller.called
  pub same : (caller.called.role ≡ role) × (caller.called.limits ≡ limits)
  pub lines : string_bytes caller.lines ≡ []

abbrev pub HasCalledEcho : Caller Echo → List EchoCall → Caller Echo → Type 0
HasCalledEcho first calls now = (exchange : Exchange) → Agrees exchange first.taken first.called
    → HasMade as_call (echo_of first.called.role first.called.limits) exchange (string_bytes first.lines)
    calls now.taken now.called (string_bytes now.lines)
