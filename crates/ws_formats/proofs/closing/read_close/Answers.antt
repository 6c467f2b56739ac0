-- Where the code is `none` and the reason isn't a dash, the words tell neither a close nor the want of one.
use Rattle.std.proofs.Common.{rules, arith, ◌≡◌, ◌≢◌, codes, ap, List, ℕ, Some, None, slice_index}
use Rattle.ws_formats.specs.Words.{AreCloseWords}
use Rattle.ws_formats.proofs.NumberWords.{number_front}
use Rattle.ws_formats.proofs.closing.read_close.Goals as goal

none_given : (given : _) (code reason : List ℕ) → AreCloseWords given code reason → code ≡ codes "none" → reason ≢ codes "-" → ⊥
none_given None code reason h none dash = dash h.1
none_given (Some given) code reason h none dash = number_front 65535 given.0 110 code (omega arith) h.0 (omega arith) (ap (λ (l : List ℕ). slice_index l 0) none)

pub returns-then-eq : goal.returns-then-eq
returns-then-eq c = λ e given h.
    let none : c.args.code.now ≡ codes "none" = search rules in
    let dash : c.args.reason.now ≢ codes "-" = search rules in
    none_given given c.args.code.now c.args.reason.now h none dash
