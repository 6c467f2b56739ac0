-- The limits of time that words give.
use Rattle.std.specs.Prelude.{◌≡◌, ℕ, ◌*◌, ◌≤◌, ◌<◌, min, Bool, true, false, not, IsTrue, ⊤, List, length, drop}
use Rattle.std.specs.Prelude.{position, All, codes}
use Rattle.std.specs.Prelude.{Option, Some, None}
use Rattle.std.specs.Char.{is_ascii_alphabetic, is_ascii_digit}
use Rattle.std.specs.Borrow.{Bor}
use Rattle.ws_formats.specs.Words.{IsNumberWord}
use Rattle.wst_commands.specs.declared.time_limit.TimeLimit.{TimeLimit}
use Rattle.wst_commands.specs.declared.time_limit.TimeLimit.TheVariants.{Seconds, Unlimited}

-- the word is a count of 1 to the most, in decimal digits without leading zeros
abbrev pub IsCountWord : ℕ → ℕ → List ℕ → Type 0
IsCountWord most count word = (1 ≤ count) × IsNumberWord most count word

-- the option gives this limit of at most so many seconds: that of its word, and none where it is left out
abbrev pub GivesLimit : ℕ → Option (Bor (List ℕ)) → TimeLimit → Type 0
GivesLimit most None limit = limit ≡ Unlimited
GivesLimit most (Some word) Unlimited = ⊥
GivesLimit most (Some word) (Seconds seconds) = IsCountWord most seconds word.now

-- the option gives one, or is left out
abbrev pub HasLimit : ℕ → Option (Bor (List ℕ)) → Type 0
HasLimit most word = (limit : TimeLimit) × GivesLimit most word limit

-- the option gives this limit of at most so many seconds, or none by the word `none`; and this one where it is left out
abbrev pub GivesLimitOrNone : ℕ → TimeLimit → Option (Bor (List ℕ)) → TimeLimit → Type 0
GivesLimitOrNone most usual None limit = limit ≡ usual
GivesLimitOrNone most usual (Some word) Unlimited = word.now ≡ codes "none"
GivesLimitOrNone most usual (Some word) (Seconds seconds) = IsCountWord most seconds word.now

-- the option gives one, or none, or is left out
abbrev pub HasLimitOrNone : ℕ → Option (Bor (List ℕ)) → Type 0
HasLimitOrNone most word = (limit : TimeLimit) × GivesLimitOrNone most Unlimited word limit

-- for how long the tested end is waited for: an hour at most
abbrev pub GivesTimeout : Option (Bor (List ℕ)) → TimeLimit → Type 0
GivesTimeout word limit = GivesLimit 3600 word limit

abbrev pub HasTimeout : Option (Bor (List ℕ)) → Type 0
HasTimeout word = HasLimit 3600 word

-- for how long the tested end is waited for where scripts are run, an hour at most, or without a limit; and so long
-- where the option is left out
abbrev pub GivesRunTimeout : TimeLimit → Option (Bor (List ℕ)) → TimeLimit → Type 0
GivesRunTimeout usual word limit = GivesLimitOrNone 3600 usual word limit

abbrev pub HasRunTimeout : Option (Bor (List ℕ)) → Type 0
HasRunTimeout word = HasLimitOrNone 3600 word

-- for how long a client is waited for: a day at most, or without a limit, and a minute where the option is left out
abbrev pub GivesWait : Option (Bor (List ℕ)) → TimeLimit → Type 0
GivesWait word limit = GivesLimitOrNone 86400 (Seconds 60) word limit

abbrev pub HasWait : Option (Bor (List ℕ)) → Type 0
HasWait word = HasLimitOrNone 86400 word

-- how long a connection lasts: a day at most, and so long where the option is left out
abbrev pub GivesDeadline : TimeLimit → Option (Bor (List ℕ)) → TimeLimit → Type 0
GivesDeadline usual None limit = limit ≡ usual
GivesDeadline usual (Some word) limit = GivesLimit 86400 (Some word) limit

abbrev pub HasDeadline : Option (Bor (List ℕ)) → Type 0
HasDeadline word = HasLimit 86400 word

-- ten times as long, and no more than a day
abbrev pub ten_times : TimeLimit → TimeLimit
ten_times Unlimited = Unlimited
ten_times (Seconds seconds) = Seconds (min seconds 8640 * 10)

-- a limit of time in milliseconds
abbrev pub milliseconds_of : TimeLimit → Option ℕ
milliseconds_of Unlimited = None
milliseconds_of (Seconds seconds) = Some (seconds * 1000)

abbrev pub is_no_digit : ℕ → Bool
is_no_digit byte = not (is_ascii_digit byte)

-- the place is one of the word
abbrev pub Reaches : Option ℕ → List ℕ → Type 0
Reaches None word = ⊤
Reaches (Some at) word = at < length word

-- from the place on all are letters, and it is not the first
abbrev pub HasUnitAt : Option ℕ → List ℕ → Type 0
HasUnitAt None word = ⊥
HasUnitAt (Some at) word = (1 ≤ at) × All (λ byte. IsTrue (is_ascii_alphabetic byte)) (drop at word)

-- digits, one at least, and behind them letters, one at least
abbrev pub IsWithUnit : List ℕ → Type 0
IsWithUnit word = HasUnitAt (position is_no_digit word) word

-- the word of the option is so
abbrev pub HasUnit : Option (Bor (List ℕ)) → Type 0
HasUnit None = ⊥
HasUnit (Some word) = IsWithUnit word.now

abbrev pub is_limited : TimeLimit → Bool
is_limited Unlimited = false
is_limited (Seconds seconds) = true
