-- The range of the second byte after each first byte: narrower after E0, ED, F0 and F4, and 80 to BF after the others.
use Rattle.std.proofs.Common.{arith}
use Rattle.ws_text.proofs.UnfinishedCharacters.{second_range}
use Rattle.ws_text.proofs.unfinished.second_bytes.Goals as goal

pub returns-in-224 : goal.returns-in-224
returns-in-224 c = second_range c.args.lead 160 191 c.requires (λ b. (
  λ s. (s.e0 c.in-224.is, s.later.high),
  λ h. record {
    later = record { low = omega (arith, h.0); high = h.1 };
    e0 = λ _. h.0;
    ed = λ e. absurd (omega arith);
    f0 = λ e. absurd (omega arith);
    f4 = λ e. absurd (omega arith);
  },
))

pub returns-in-237 : goal.returns-in-237
returns-in-237 c = second_range c.args.lead 128 159 c.requires (λ b. (
  λ s. (s.later.low, s.ed c.in-237.is),
  λ h. record {
    later = record { low = h.0; high = omega (arith, h.1) };
    e0 = λ e. absurd (omega arith);
    ed = λ _. h.1;
    f0 = λ e. absurd (omega arith);
    f4 = λ e. absurd (omega arith);
  },
))

pub returns-in-240 : goal.returns-in-240
returns-in-240 c = second_range c.args.lead 144 191 c.requires (λ b. (
  λ s. (s.f0 c.in-240.is, s.later.high),
  λ h. record {
    later = record { low = omega (arith, h.0); high = h.1 };
    e0 = λ e. absurd (omega arith);
    ed = λ e. absurd (omega arith);
    f0 = λ _. h.0;
    f4 = λ e. absurd (omega arith);
  },
))

pub returns-in-244 : goal.returns-in-244
returns-in-244 c = second_range c.args.lead 128 143 c.requires (λ b. (
  λ s. (s.later.low, s.f4 c.in-244.is),
  λ h. record {
    later = record { low = h.0; high = omega (arith, h.1) };
    e0 = λ e. absurd (omega arith);
    ed = λ e. absurd (omega arith);
    f0 = λ e. absurd (omega arith);
    f4 = λ _. h.1;
  },
))

pub returns-in_default : goal.returns-in_default
returns-in_default c = second_range c.args.lead 128 191 c.requires (λ b. (
  λ s. (s.later.low, s.later.high),
  λ h. record {
    later = record { low = h.0; high = h.1 };
    e0 = λ e. absurd (omega arith);
    ed = λ e. absurd (omega arith);
    f0 = λ e. absurd (omega arith);
    f4 = λ e. absurd (omega arith);
  },
))
