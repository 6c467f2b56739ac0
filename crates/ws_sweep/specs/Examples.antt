-- Worked examples of short scripts, each a theorem.
use Rattle.std.specs.Prelude.{◌≡◌, [], ◌∷◌, ◌++◌, codes, refl, length}
use Rattle.ws_wire.specs.declared.role.Role.TheVariants.{Client, Server}
use Rattle.ws_scripts.specs.declared.expectation.Expectation.TheVariants.{Echo, Protocol}
use Rattle.ws_sweep.specs.Alphabet.{alphabet}
use Rattle.ws_sweep.specs.Order.{alphabet_size, count_of_scripts, script_number}
use Rattle.ws_sweep.specs.ShortCases.{end_steps, short_steps}
use Rattle.ws_sweep.specs.Telling.{steps_text}

-- the alphabet has so many steps, whichever end is tested
pub as_many_for_a_server : length (alphabet Server) ≡ alphabet_size
as_many_for_a_server = refl

pub as_many_for_a_client : length (alphabet Client) ≡ alphabet_size
as_many_for_a_client = refl

-- 1 + 27 + 729; and 19,683 more of three steps
pub of_two_steps : count_of_scripts 2 ≡ 757
of_two_steps = refl

pub of_three_steps : count_of_scripts 3 ≡ 20440
of_three_steps = refl

-- the first script has no step, then come those of one, then those of two
pub without_steps : script_number [] ≡ 0
without_steps = refl

pub first_of_one_step : script_number (0 ∷ []) ≡ 1
first_of_one_step = refl

pub last_of_one_step : script_number (26 ∷ []) ≡ 27
last_of_one_step = refl

pub first_of_two_steps : script_number (0 ∷ 0 ∷ []) ≡ 28
first_of_two_steps = refl

pub second_of_two_steps : script_number (0 ∷ 1 ∷ []) ≡ 29
second_of_two_steps = refl

pub last_of_two_steps : script_number (26 ∷ 26 ∷ []) ≡ 756
last_of_two_steps = refl

-- a script of steps that send neither a close nor a fault is told with the close behind it, by the protocol also with
-- the wait before that
pub told_without_steps : steps_text Server Echo [] (end_steps Echo) ≡ codes "close=1000"
told_without_steps = refl

pub told_with_a_close : steps_text Server Echo (1 ∷ 12 ∷ []) (short_steps Server (1 ∷ 12 ∷ []) ++ end_steps Echo)
    ≡ codes "text fin=0 \"a\"; cont -; close=1000"
told_with_a_close = refl

pub told_with_a_wait : steps_text Server Protocol (14 ∷ []) (short_steps Server (14 ∷ []) ++ end_steps Protocol)
    ≡ codes "ping -; wait; close=1000"
told_with_a_wait = refl

-- one that ends by itself is told by its own steps
pub told_alone : steps_text Client Protocol (26 ∷ []) (short_steps Client (26 ∷ []))
    ≡ codes "text key=00000000 \"a\""
told_alone = refl
