-- The words of a verdict, and the sentence of the rule behind it.
use Rattle.std.specs.Prelude.{ℕ, List, ◌++◌, codes, Option, None, Some}
use Rattle.ws_wire.specs.declared.role.Role.{Role}
use Rattle.ws_wire.specs.declared.role.Role.TheVariants.{Client, Server}
use Rattle.ws_scripts.specs.declared.expectation.Expectation.{Expectation}
use Rattle.ws_scripts.specs.declared.expectation.Expectation.TheVariants.{Echo, Protocol}
use Rattle.ws_suite.specs.declared.verdict.Verdict.{Verdict}
use Rattle.ws_suite.specs.declared.verdict.Verdict.TheVariants.{Pass, Loose, Fail}
use Rattle.ws_suite.specs.declared.verdict.FailWhy.{FailWhy}
use Rattle.ws_suite.specs.declared.verdict.FailWhy.TheVariants as fail
use Rattle.ws_suite.specs.declared.verdict.LooseWhy.{LooseWhy}
use Rattle.ws_suite.specs.declared.verdict.LooseWhy.TheVariants as loose

abbrev pub fail_name : FailWhy → List ℕ
fail_name fail.NotFrames = codes "NotFrames"
fail_name fail.Early = codes "Early"
fail_name fail.Messages = codes "Messages"
fail_name fail.Pongs = codes "Pongs"
fail_name fail.Close = codes "Close"
fail_name fail.End = codes "End"

abbrev pub loose_name : LooseWhy → List ℕ
loose_name loose.PongsSkipped = codes "PongsSkipped"
loose_name loose.PongElsewhere = codes "PongElsewhere"
loose_name loose.OtherCode = codes "OtherCode"
loose_name loose.LateEnd = codes "LateEnd"
loose_name loose.EchoShort = codes "EchoShort"
loose_name loose.BrokenEnd = codes "BrokenEnd"
loose_name loose.OwnFault = codes "OwnFault"
loose_name loose.OwnClose = codes "OwnClose"
loose_name loose.OwnEnd = codes "OwnEnd"
loose_name loose.LateFault = codes "LateFault"
loose_name loose.Tolerated = codes "Tolerated"
loose_name loose.NoClose = codes "NoClose"
loose_name loose.BehindClose = codes "BehindClose"
loose_name loose.TooBig = codes "TooBig"

abbrev pub verdict_words : Verdict → List ℕ
verdict_words Pass = codes "PASS"
verdict_words (Loose why) = codes "LOOSE " ++ loose_name why
verdict_words (Fail why) = codes "FAIL " ++ fail_name why

-- the rule that was broken, where the tested end has this role
abbrev pub fail_rule : Role → FailWhy → List ℕ
fail_rule Server fail.NotFrames =
    codes "All that a server sends must be valid (the last `got` line says what was not): unmasked frames in "
    ++ codes "a valid order, with valid lengths and close payloads (RFC 6455 section 5), text in UTF-8 (section "
    ++ codes "8.1), no end inside a frame and nothing after its close frame (both ours)"
fail_rule Client fail.NotFrames =
    codes "All that a client sends must be valid (the last `got` line says what was not): masked frames in a "
    ++ codes "valid order, with valid lengths and close payloads (RFC 6455 section 5), text in UTF-8 (section "
    ++ codes "8.1), no end inside a frame and nothing after its close frame (both ours)"
fail_rule tested fail.Early =
    codes "A pong, a close frame or an echo is sent only after what it answers (ours; RFC 6455 allows "
    ++ codes "unprompted pongs in section 5.5.3 and, from a server, an unprompted close in section 7.3)"
fail_rule tested fail.Messages =
    codes "An echo sends back each message, in order, with its kind and payload (ours; RFC 6455 sections 5.4 "
    ++ codes "and 5.6 define a message); after a violation nothing is sent back, and messages just before it may "
    ++ codes "be missing"
fail_rule tested fail.Pongs =
    codes "A pong answers a ping (ours) with its payload (RFC 6455 section 5.5.3), and no ping is answered twice "
    ++ codes "(ours). The last ping, or the last before a violation, is always answered (section 5.5.2), and none "
    ++ codes "after a violation (section 7.1.7)"
fail_rule tested fail.Close =
    codes "A close frame is answered by a close frame (RFC 6455 section 5.5.1), and none is sent unless a "
    ++ codes "close frame or a violation was received (ours)"
fail_rule Server fail.End =
    codes "After a close frame (RFC 6455 section 5.5.1) or a violation (section 7.1.7; ours where the broken "
    ++ codes "rule is), a server ends the connection; without either, it does not (ours)"
fail_rule Client fail.End =
    codes "After a close frame or a violation, a client sends a close frame or ends the connection (RFC 6455 "
    ++ codes "sections 5.5.1 and 7.1.7); otherwise it does not end it (ours)"

-- the rule that asks or allows otherwise
abbrev pub loose_rule : Role → LooseWhy → List ℕ
loose_rule tested loose.PongsSkipped = codes "Of several pings, only the last needs an answer (RFC 6455 section 5.5.3)"
loose_rule tested loose.PongElsewhere =
    codes "A pong is sent as soon as is practical (RFC 6455 section 5.5.2); the reference echo sends pongs "
    ++ codes "and messages in the order of what they answer (ours)"
loose_rule tested loose.OtherCode =
    codes "A close frame after a violation has the code for that violation (RFC 6455 section 7.4.1), and one "
    ++ codes "that answers a valid close frame typically has its code (section 5.5.1); another code is told also "
    ++ codes "of an endpoint that closes first (ours)"
loose_rule Server loose.LateEnd =
    codes "After a close frame a server closes the connection immediately (RFC 6455 section 5.5.1), and after"
    ++ codes " a violation it should (section 7.1.1)"
loose_rule Client loose.LateEnd =
    codes "A client should answer a close frame as soon as is practical (RFC 6455 section 5.5.1), and should "
    ++ codes "send one at a violation at which it fails the connection (section 7.1.7); that it does so in the "
    ++ codes "same turn is ours"
loose_rule tested loose.EchoShort =
    codes "An endpoint that fails the connection may drop what it has read (RFC 6455 section 7.1.7); the "
    ++ codes "reference echo answers it (ours)"
loose_rule tested loose.BrokenEnd =
    codes "A connection should be closed cleanly (RFC 6455 section 7.1.1), but a read or a write failed"
loose_rule tested loose.OwnFault =
    codes "An endpoint closes with 1002 because of a protocol error, and with 1007 because of data that does "
    ++ codes "not fit its type (RFC 6455 section 7.4.1), but no complete violation was sent before"
loose_rule Server loose.OwnClose = codes "A server may close the connection whenever desired (RFC 6455 section 7.3)"
loose_rule Client loose.OwnClose = codes "A client should not close the connection arbitrarily (RFC 6455 section 7.3)"
loose_rule tested loose.OwnEnd =
    codes "An endpoint closes the connection by a close frame first (RFC 6455 section 7.1.2); when necessary "
    ++ codes "it may close it by any means (section 7.1.1), and at data that it does not understand it may drop "
    ++ codes "it (section 10.7)"
loose_rule tested loose.LateFault =
    codes "How an endpoint fails the connection at a violation is in RFC 6455 section 7.1.7, and when is not;"
    ++ codes " the frame with the violation, or the message with invalid text, was not sent completely"
loose_rule tested loose.Tolerated =
    codes "The rules for lengths, fragments and control frames bind the sender (RFC 6455 sections 5.2, 5.4 "
    ++ codes "and 5.5), and none bounds a message (section 10.4); the receiver may fail the connection or not"
loose_rule tested loose.NoClose =
    codes "A close frame is answered by one (RFC 6455 section 5.5.1), and an endpoint that has to fail the "
    ++ codes "connection closes it (section 7.1.7); it may not have read so far, or was sending a message of its"
    ++ codes " own"
loose_rule tested loose.BehindClose =
    codes "No data frame follows a close frame (RFC 6455 section 5.5.1); that no control frame follows one is "
    ++ codes "ours"
loose_rule tested loose.TooBig =
    codes "A message has at most 16777216 bytes (ours; RFC 6455 section 10.4 leaves the limit to each "
    ++ codes "endpoint)"

-- the rule of the standard that an end broke which needn't echo; it has no rule that an echo alone keeps
abbrev pub protocol_rule : Role → FailWhy → List ℕ
protocol_rule Server fail.NotFrames =
    codes "All that a server sends must be valid (the last `got` line says what was not): unmasked frames in "
    ++ codes "a valid order (RFC 6455 section 5), text in UTF-8 (section 8.1), close codes that may be sent "
    ++ codes "(section 7.4) and no data frame after its close frame (section 5.5.1); that it does not end inside"
    ++ codes " a frame is ours"
protocol_rule Client fail.NotFrames =
    codes "All that a client sends must be valid (the last `got` line says what was not): masked frames in a "
    ++ codes "valid order (RFC 6455 section 5), text in UTF-8 (section 8.1), close codes that may be sent "
    ++ codes "(section 7.4) and no data frame after its close frame (section 5.5.1); that it does not end inside"
    ++ codes " a frame is ours"
protocol_rule tested fail.Early = fail_rule tested fail.Early
protocol_rule tested fail.Messages = fail_rule tested fail.Messages
protocol_rule tested fail.Pongs =
    codes "An endpoint that receives a ping sends a pong with its payload, unless it has already received a "
    ++ codes "close frame (RFC 6455 section 5.5.2); a pong for the latest ping is enough (section 5.5.3)"
protocol_rule tested fail.Close =
    codes "An endpoint that receives a close frame, and has sent none, sends one (RFC 6455 section 5.5.1); "
    ++ codes "one that drops the connection just before the close frame comes looks the same (that this is a "
    ++ codes "FAIL is ours)"
protocol_rule Server fail.End =
    codes "A server closes the connection when it has to fail it after a violation (RFC 6455 sections 5.1, "
    ++ codes "5.2, 7.1.7 and 8.1), and immediately when it has sent and received a close frame (section 5.5.1)"
protocol_rule Client fail.End =
    codes "A client that has to fail the connection closes it (RFC 6455 sections 5.1, 5.2, 7.1.7 and 8.1), "
    ++ codes "and should send a close frame before (section 7.1.7); it also answers a close frame by one "
    ++ codes "(section 5.5.1)"

-- the rule that was broken by an end of which this is expected
abbrev pub fail_rule_by : Expectation → Role → FailWhy → List ℕ
fail_rule_by Echo tested why = fail_rule tested why
fail_rule_by Protocol tested why = protocol_rule tested why

-- the rule that allows what an end did which needn't echo: it may also leave out the pong for the last ping
abbrev pub protocol_loose_rule : Role → LooseWhy → List ℕ
protocol_loose_rule tested loose.PongsSkipped =
    codes "A ping needs no answer if a later one is answered (RFC 6455 section 5.5.3), or if the endpoint may"
    ++ codes " not have read it or was sending a data frame: frames are not interleaved (section 5.4), and a "
    ++ codes "pong should come as soon as is practical (section 5.5.2)"
protocol_loose_rule tested why = loose_rule tested why

-- the rule that asks or allows otherwise, of an end of which this is expected
abbrev pub loose_rule_by : Expectation → Role → LooseWhy → List ℕ
loose_rule_by Echo tested why = loose_rule tested why
loose_rule_by Protocol tested why = protocol_loose_rule tested why

-- no rule is behind a Pass
abbrev pub rule_words : Role → Expectation → Verdict → Option (List ℕ)
rule_words tested expected Pass = None
rule_words tested expected (Loose why) = Some (loose_rule_by expected tested why)
rule_words tested expected (Fail why) = Some (fail_rule_by expected tested why)
