-- Worked examples of words and the tasks that they ask for, each a theorem, wherever the names of the ends lie in
-- memory.
use Rattle.std.specs.Prelude.{◌≡◌, ⊤, true, false, List, [], ◌∷◌, Some, None, map, codes, option_map, refl}
use Rattle.std.proofs.Common.{inr}
use Rattle.std.specs.Char.{encode_utf8}
use Rattle.std.specs.Str.{chars}
use Rattle.std.specs.Str.Parse.{digits_value, without_leading_plus}
use Rattle.clap.proofs.ValueTestLemmas.{accepts-Accepts}
use Rattle.clap.specs.Words.{Row, Text, first_of, one_of, subcommand_of, takes}
use Rattle.clap.specs.ValueTests.{accepts}
use Rattle.clap.specs.Values.{Accepts}
use Rattle.clap.specs.Walk.{bundle_met, walked}
use Rattle.clap.specs.Takes.{flags_pass, walk_passes}
use Rattle.clap.specs.Faults.{defaults_fault, flags_fault, walk_fault}
use Rattle.clap.specs.declared.builder.value_parser.ValueParser.TheVariants.{Unsigned}
use Rattle.ws_wire.specs.declared.role.Role.TheVariants.{Client, Server}
use Rattle.ws_frame.specs.declared.source.DataStyle.TheVariants.{Hex}
use Rattle.ws_frame.specs.declared.source.DataStyle.TheVariants as style
use Rattle.ws_scripts.specs.declared.expectation.Expectation.TheVariants.{Echo, Protocol}
use Rattle.wst_words.specs.Arguments.{Places}
use Rattle.wst_words.specs.Options.{GivesNumber, GivesStyle, given_words, style_named}
use Rattle.wst_words.specs.Words.{AsksFor, wst_app}
use Rattle.wst_words.specs.declared.words.Task.TheVariants.{Cases, Convert, Head, Judge, Pair, Session, Show}

-- what is computed at words that are written out
unfoldable pub on_words : ⊤
unfolding walked bundle_met chars encode_utf8 flags_pass walk_passes flags_fault walk_fault defaults_fault
on_words = tt

-- the words with the program's name before them
abbrev pub words : List Text → List Text
words others = codes "wst" ∷ others

-- an option that has a numeral of 64 bits gives its number
numbered : (rows : List Row) (name word : Text) → one_of name rows ≡ Some word
    → accepts false (Unsigned 0 18446744073709551615) word ≡ true
    → GivesNumber rows name (digits_value 10 (without_leading_plus word))
numbered rows name word there passes =
    let number = accepts-Accepts false (Unsigned 0 18446744073709551615) word passes in
    record { word = word; has_word = there; numeral = number.0; value = refl; fits = number.1 }

-- the word 7 is a numeral of 64 bits
seven : Accepts false (Unsigned 0 18446744073709551615) (codes "7")
seven = accepts-Accepts false (Unsigned 0 18446744073709551615) (codes "7") refl

-- a word of the option `--data`
styled : (rows : List Row) (word : Text) → first_of (codes "data") rows ≡ Some word
    → GivesStyle rows (codes "data") (style_named word)
styled rows word there = record { word = word; has_word = there; value = refl }

-- `wst show` is told nothing more
abbrev plain_words : List Text
plain_words = words (codes "show" ∷ [])

pub plain_show : (places : Places)
    → AsksFor (wst_app places) plain_words
    (Show (record { from = None; budget = None; capture = false; role = None; style = Hex }))
unfolding on_words
plain_show places = (refl, (refl, (refl, refl, refl, refl, styled _ (codes "hex") refl)))

-- `wst show --from client --budget 7` reads at most 7 bytes that a client sent
abbrev client_words : List Text
client_words = words (codes "show" ∷ codes "--from" ∷ codes "client" ∷ codes "--budget" ∷ codes "7" ∷ [])

pub client_show : (places : Places)
    → AsksFor (wst_app places) client_words
    (Show (record { from = Some Client; budget = Some 7; capture = false; role = None; style = Hex }))
unfolding on_words
client_show places = (
  refl,
  (
    refl,
    (
      refl,
      record { word = codes "7"; has_word = refl; numeral = seven.0; value = refl; fits = seven.1 },
      refl,
      refl,
      styled _ (codes "hex") refl,
    ),
  ),
)

-- the same with the options the other way round, each as one word
abbrev joined_words : List Text
joined_words = words (codes "show" ∷ codes "--budget=7" ∷ codes "--from=client" ∷ [])

pub joined_show : (places : Places)
    → AsksFor (wst_app places) joined_words
    (Show (record { from = Some Client; budget = Some 7; capture = false; role = None; style = Hex }))
unfolding on_words
joined_show places = (
  refl,
  (
    refl,
    (
      refl,
      record { word = codes "7"; has_word = refl; numeral = seven.0; value = refl; fits = seven.1 },
      refl,
      refl,
      styled _ (codes "hex") refl,
    ),
  ),
)

-- `wst show --capture --role client` reads a capture of a client under test
abbrev capture_words : List Text
capture_words = words (codes "show" ∷ codes "--capture" ∷ codes "--role" ∷ codes "client" ∷ [])

pub capture_show : (places : Places) → AsksFor (wst_app places) capture_words
    (Show (record { from = None; budget = None; capture = true; role = Some Client; style = Hex }))
unfolding on_words
capture_show places = (refl, (refl, (refl, refl, refl, refl, styled _ (codes "hex") refl)))

-- `wst show --data text` shows payloads as text
abbrev text_words : List Text
text_words = words (codes "show" ∷ codes "--data" ∷ codes "text" ∷ [])

pub text_show : (places : Places) → AsksFor (wst_app places) text_words
    (Show (record { from = None; budget = None; capture = false; role = None; style = style.Text }))
unfolding on_words
text_show places = (refl, (refl, (refl, refl, refl, refl, styled _ (codes "text") refl)))

-- `wst head` answers the head of a request
abbrev head_words : List Text
head_words = words (codes "head" ∷ [])

pub plain_head : (places : Places) → AsksFor (wst_app places) head_words (Head (record { protocols = None }))
unfolding on_words
plain_head places = (refl, (refl, refl))

-- `wst head --protocols chat,superchat` knows two subprotocols
abbrev protocol_words : List Text
protocol_words = words (codes "head" ∷ codes "--protocols" ∷ codes "chat,superchat" ∷ [])

pub head_protocols : (places : Places)
    → option_map (λ met. first_of (codes "protocols") met.1) (subcommand_of (wst_app places) protocol_words)
    ≡ Some (Some (codes "chat,superchat"))
unfolding on_words
head_protocols places = refl

-- and the empty list is a list
abbrev no_protocol_words : List Text
no_protocol_words = words (codes "head" ∷ codes "--protocols" ∷ codes "" ∷ [])

pub head_no_protocols : (places : Places)
    → option_map (λ met. first_of (codes "protocols") met.1) (subcommand_of (wst_app places) no_protocol_words)
    ≡ Some (Some [])
unfolding on_words
head_no_protocols places = refl

-- `wst pair` joins ends that take messages of 1 MiB, and frames as large, unless told another limit
pub plain_pair : (places : Places)
    → AsksFor (wst_app places) (words (codes "pair" ∷ codes "--limit-server" ∷ codes "10" ∷ []))
    (Pair (record { limit_client = 1048576; limit_server = 10; frame_client = 1048576; frame_server = 10 }))
unfolding on_words
plain_pair places = (
  refl,
  (
    refl,
    (
      numbered _ _ (codes "1048576") refl refl,
      numbered _ _ (codes "10") refl refl,
      inr (refl, refl),
      inr (refl, refl),
    ),
  ),
)

-- `wst session` makes its calls at a server that takes messages of 1 MiB, and that is no echo
abbrev session_words : List Text
session_words = words (codes "session" ∷ [])

pub plain_session : (places : Places) → AsksFor (wst_app places) session_words
    (Session (record { role = Server; limit = 1048576; frame = 1048576; echo = false }))
unfolding on_words
plain_session places = (
  refl,
  (
    refl,
    (
      record { word = codes "server"; has_word = refl; value = refl },
      numbered _ _ (codes "1048576") refl refl,
      inr (refl, refl),
      refl,
    ),
  ),
)

-- `wst session --echo` at an echo
abbrev echo_words : List Text
echo_words = words (codes "session" ∷ codes "--echo" ∷ [])

pub plain_echo : (places : Places) → AsksFor (wst_app places) echo_words
    (Session (record { role = Server; limit = 1048576; frame = 1048576; echo = true }))
unfolding on_words
plain_echo places = (
  refl,
  (
    refl,
    (
      record { word = codes "server"; has_word = refl; value = refl },
      numbered _ _ (codes "1048576") refl refl,
      inr (refl, refl),
      refl,
    ),
  ),
)

-- `wst judge` judges a capture
abbrev judge_words : List Text
judge_words = words (codes "judge" ∷ [])

pub plain_judge : (places : Places)
    → AsksFor (wst_app places) judge_words
    (Judge (record { role = Server; expect = Echo; explain = false; style = Hex }))
unfolding on_words
plain_judge places = (
  refl,
  (
    refl,
    (
      record { word = codes "server"; has_word = refl; value = refl },
      record { word = codes "echo"; has_word = refl; value = refl },
      refl,
      styled _ (codes "hex") refl,
    ),
  ),
)

-- and `wst judge --role client --explain --data text` one of a client, and tells why, with payloads as text
abbrev explain_words : List Text
explain_words = words (codes "judge" ∷ codes "--role" ∷ codes "client" ∷ codes "--explain" ∷ codes "--data"
    ∷ codes "text" ∷ [])

pub explained_judge : (places : Places)
    → AsksFor (wst_app places) explain_words
    (Judge (record { role = Client; expect = Echo; explain = true; style = style.Text }))
unfolding on_words
explained_judge places = (
  refl,
  (
    refl,
    (
      record { word = codes "client"; has_word = refl; value = refl },
      record { word = codes "echo"; has_word = refl; value = refl },
      refl,
      styled _ (codes "text") refl,
    ),
  ),
)

-- and `wst judge --expect protocol` one of an end that needn't echo
abbrev unechoed_words : List Text
unechoed_words = words (codes "judge" ∷ codes "--expect" ∷ codes "protocol" ∷ [])

pub protocol_judge : (places : Places)
    → AsksFor (wst_app places) unechoed_words
    (Judge (record { role = Server; expect = Protocol; explain = false; style = Hex }))
unfolding on_words
protocol_judge places = (
  refl,
  (
    refl,
    (
      record { word = codes "server"; has_word = refl; value = refl },
      record { word = codes "protocol"; has_word = refl; value = refl },
      refl,
      styled _ (codes "hex") refl,
    ),
  ),
)

-- `wst convert` writes a capture in format 2
abbrev convert_words : List Text
convert_words = words (codes "convert" ∷ [])

pub plain_convert : (places : Places)
    → AsksFor (wst_app places) convert_words (Convert (record { from = None; role = None }))
unfolding on_words
plain_convert places = (refl, (refl, (refl, refl)))

-- and `wst convert --from tshark --role client` what tshark printed, as a capture whose client is judged
abbrev followed_words : List Text
followed_words = words (codes "convert" ∷ codes "--from" ∷ codes "tshark" ∷ codes "--role" ∷ codes "client" ∷ [])

pub followed_convert : (places : Places)
    → option_map (λ met. first_of (codes "from") met.1 ∷ first_of (codes "role") met.1 ∷ [])
    (subcommand_of (wst_app places) followed_words)
    ≡ Some (Some (codes "tshark") ∷ Some (codes "client") ∷ [])
unfolding on_words
followed_convert places = refl

-- `wst cases` lists the cases
abbrev cases_words : List Text
cases_words = words (codes "cases" ∷ [])

pub plain_cases : (places : Places)
    → AsksFor (wst_app places) cases_words (Cases (record { titles = false; id = None }))
unfolding on_words
plain_cases places = (refl, (refl, (refl, refl)))

-- `wst cases 7.7.1*` asks for those whose names begin so
abbrev some_cases_words : List Text
some_cases_words = words (codes "cases" ∷ codes "7.7.1*" ∷ [])

pub some_cases : (places : Places)
    → option_map (λ met. first_of (codes "id") met.1) (subcommand_of (wst_app places) some_cases_words)
    ≡ Some (Some (codes "7.7.1*"))
unfolding on_words
some_cases places = refl

-- `wst cases --titles` asks for the titles
abbrev titles_words : List Text
titles_words = words (codes "cases" ∷ codes "--titles" ∷ [])

pub some_titles : (places : Places)
    → option_map (λ met. one_of (codes "titles") met.1) (subcommand_of (wst_app places) titles_words)
    ≡ Some (Some (codes "true"))
unfolding on_words
some_titles places = refl

-- `wst test own 2.5 1.1.1 2.5` runs cases over our echo, in the order given and as often as given, with the usual key
abbrev test_words : List Text
test_words = words (codes "test" ∷ codes "own" ∷ codes "2.5" ∷ codes "1.1.1" ∷ codes "2.5" ∷ [])

pub test_names : (places : Places)
    → option_map (λ met. given_words (codes "ids") met.1) (subcommand_of (wst_app places) test_words)
    ≡ Some (codes "2.5" ∷ codes "1.1.1" ∷ codes "2.5" ∷ [])
unfolding on_words
test_names places = refl

pub test_target : (places : Places)
    → option_map (λ met. first_of (codes "target") met.1) (subcommand_of (wst_app places) test_words)
    ≡ Some (Some (codes "own"))
unfolding on_words
test_target places = refl

pub test_key : (places : Places)
    → option_map (λ met. first_of (codes "key") met.1) (subcommand_of (wst_app places) test_words)
    ≡ Some (Some (codes "37fa213d"))
unfolding on_words
test_key places = refl

-- `wst serve --limit 1000 [::1]:9001 3` serves three connections, with messages of at most 1000 bytes
abbrev serve_words : List Text
serve_words = words (codes "serve" ∷ codes "--limit" ∷ codes "1000" ∷ codes "[::1]:9001" ∷ codes "3" ∷ [])

pub serve_numbers : (places : Places)
    → option_map (λ met. one_of (codes "limit") met.1 ∷ one_of (codes "budget") met.1
    ∷ one_of (codes "count") met.1 ∷ []) (subcommand_of (wst_app places) serve_words)
    ≡ Some (Some (codes "1000") ∷ Some (codes "1073741824") ∷ Some (codes "3") ∷ [])
unfolding on_words
serve_numbers places = refl

pub serve_address : (places : Places)
    → option_map (λ met. first_of (codes "address") met.1) (subcommand_of (wst_app places) serve_words)
    ≡ Some (Some (codes "[::1]:9001"))
unfolding on_words
serve_address places = refl

-- `wst serve localhost:9001` serves without an end, one connection at a time, each as long as it takes
abbrev endless_words : List Text
endless_words = words (codes "serve" ∷ codes "localhost:9001" ∷ [])

pub serve_endless : (places : Places)
    → option_map (λ met. first_of (codes "count") met.1 ∷ first_of (codes "at-once") met.1
    ∷ first_of (codes "deadline") met.1 ∷ []) (subcommand_of (wst_app places) endless_words)
    ≡ Some (None ∷ Some (codes "1") ∷ None ∷ [])
unfolding on_words
serve_endless places = refl

-- `wst test --timeout 02 --progress own`: how long a byte is waited for is a word here; the budget is 64 MiB
abbrev waiting_words : List Text
waiting_words = words (codes "test" ∷ codes "--timeout" ∷ codes "02" ∷ codes "--progress" ∷ codes "own" ∷ [])

pub test_options : (places : Places)
    → option_map (λ met. first_of (codes "timeout") met.1 ∷ one_of (codes "progress") met.1
    ∷ one_of (codes "budget") met.1 ∷ []) (subcommand_of (wst_app places) waiting_words)
    ≡ Some (Some (codes "02") ∷ Some (codes "true") ∷ Some (codes "67108864") ∷ [])
unfolding on_words
test_options places = refl

-- `wst test --known --junit own` reads an earlier run and writes a document, and has no summary; these words do none
-- of these
abbrev known_words : List Text
known_words = words (codes "test" ∷ codes "--known" ∷ codes "--junit" ∷ codes "own" ∷ [])

pub test_reports : (places : Places)
    → map (λ asked. option_map (λ met. one_of (codes "known") met.1 ∷ one_of (codes "junit") met.1
    ∷ one_of (codes "summary") met.1 ∷ []) (subcommand_of (wst_app places) asked)) (known_words ∷ test_words ∷ [])
    ≡ Some (Some (codes "true") ∷ Some (codes "true") ∷ Some (codes "false") ∷ [])
    ∷ Some (Some (codes "false") ∷ Some (codes "false") ∷ Some (codes "false") ∷ []) ∷ []
unfolding on_words
test_reports places = refl

-- `wst test --summary own` has one
abbrev summary_words : List Text
summary_words = words (codes "test" ∷ codes "--summary" ∷ codes "own" ∷ [])

pub test_summary : (places : Places)
    → option_map (λ met. one_of (codes "summary") met.1) (subcommand_of (wst_app places) summary_words)
    ≡ Some (Some (codes "true"))
unfolding on_words
test_summary places = refl

-- `wst test --role client tung` tests a client, and words without a role a server
abbrev client_test_words : List Text
client_test_words = words (codes "test" ∷ codes "--role" ∷ codes "client" ∷ codes "tung" ∷ [])

pub test_roles : (places : Places)
    → map (λ asked. option_map (λ met. first_of (codes "role") met.1) (subcommand_of (wst_app places) asked))
    (client_test_words ∷ test_words ∷ []) ≡ Some (Some (codes "client")) ∷ Some (Some (codes "server")) ∷ []
unfolding on_words
test_roles places = refl

-- `wst test --role client --wait 060 localhost:9001`: how long a client is waited for is a word here, beside --timeout
abbrev client_wait_words : List Text
client_wait_words = words (codes "test" ∷ codes "--role" ∷ codes "client" ∷ codes "--wait" ∷ codes "060"
    ∷ codes "localhost:9001" ∷ [])

pub test_wait : (places : Places)
    → map (λ asked. option_map (λ met. first_of (codes "wait") met.1 ∷ first_of (codes "timeout") met.1 ∷ [])
    (subcommand_of (wst_app places) asked)) (client_wait_words ∷ waiting_words ∷ [])
    ≡ Some (Some (codes "060") ∷ None ∷ []) ∷ Some (None ∷ Some (codes "02") ∷ []) ∷ []
unfolding on_words
test_wait places = refl

-- `wst test --timeout 2 --deadline 09 own`: so is how long a connection may last
abbrev deadline_words : List Text
deadline_words =
    words (codes "test" ∷ codes "--timeout" ∷ codes "2" ∷ codes "--deadline" ∷ codes "09" ∷ codes "own" ∷ [])

pub test_deadline : (places : Places)
    → map (λ asked. option_map (λ met. first_of (codes "deadline") met.1 ∷ first_of (codes "timeout") met.1 ∷ [])
    (subcommand_of (wst_app places) asked)) (deadline_words ∷ waiting_words ∷ [])
    ≡ Some (Some (codes "09") ∷ Some (codes "2") ∷ []) ∷ Some (None ∷ Some (codes "02") ∷ []) ∷ []
unfolding on_words
test_deadline places = refl

-- such words can fail for want of memory alone
pub asking_words_are_taken : (places : Places)
    → map (takes (wst_app places)) (plain_words ∷ client_words ∷ head_words ∷ protocol_words ∷ no_protocol_words
    ∷ session_words ∷ echo_words ∷ judge_words ∷ convert_words ∷ followed_words ∷ cases_words ∷ some_cases_words
    ∷ test_words ∷ titles_words ∷ serve_words ∷ waiting_words ∷ client_test_words ∷ known_words ∷ client_wait_words
    ∷ deadline_words ∷ endless_words ∷ [])
    ≡ true ∷ true ∷ true ∷ true ∷ true ∷ true ∷ true ∷ true ∷ true ∷ true ∷ true ∷ true ∷ true ∷ true ∷ true ∷ true
    ∷ true ∷ true ∷ true ∷ true ∷ true ∷ []
unfolding on_words
asking_words_are_taken places = refl
