use Rattle.std.proofs.Common.{◌≤◌, ℕ, [], ◌∷◌, codes, refl, inl, inr, arith}
use Rattle.wsn_wire.specs.declared.endpoint.Role.TheVariants.{Client, Server}
use Rattle.wsn_rules.specs.Entries.{Nothing, Bytes, Mark}
use Rattle.wsn_rules.specs.ShownCapture.{GivesTime, IsSeconds}
use Rattle.wsn_laws.proofs.shown_examples.last_times.Goals as goal

-- One digit, a point and one digit.
seconds : (a b : ℕ) → 48 ≤ a → a ≤ 57 → 48 ≤ b → b ≤ 57 → IsSeconds (a ∷ 46 ∷ b ∷ [])
seconds a b least most from to = record {
  whole = a ∷ [];
  fraction = b ∷ [];
  is = refl;
  whole_is = record { digits = ((least, most), tt); some = omega arith; no_leading_zero = λ digit following e. cc };
  fraction_is = record { digits = ((from, to), tt); some = omega arith; few = omega arith };
}

first : GivesTime (codes "# 1.5") (codes "1.5")
first = (refl, seconds 49 53 (omega arith) (omega arith) (omega arith) (omega arith))

second : GivesTime (codes "# 2.5") (codes "2.5")
second = (refl, seconds 50 53 (omega arith) (omega arith) (omega arith) (omega arith))

pub returns : goal.returns
returns c = record {
  server = inl (record {
    before = Nothing ∷ [];
    last = Bytes Server (0x81 ∷ []);
    after = Nothing ∷ Bytes Client (0x81 ∷ []) ∷ Nothing ∷ [];
    are = refl;
    some = λ e. cc;
    no_more = refl;
    held = ([], [], codes "# 1.5", refl, first, tt);
  });
  client = inl (record {
    before = Nothing ∷ Bytes Server (0x81 ∷ []) ∷ Nothing ∷ [];
    last = Bytes Client (0x81 ∷ []);
    after = Nothing ∷ [];
    are = refl;
    some = λ e. cc;
    no_more = refl;
    held = (codes "# 1.5" ∷ codes "S 81" ∷ [], [], codes "# 2.5", refl, second, tt);
  });
  last_of_two = inl (record {
    before = Nothing ∷ Bytes Server (0x81 ∷ []) ∷ Nothing ∷ [];
    last = Bytes Server (0x05 ∷ []);
    after = Mark Client ∷ [];
    are = refl;
    some = λ e. cc;
    no_more = refl;
    held = (codes "# 1.5" ∷ codes "S 81" ∷ [], [], codes "# 2.5", refl, second, tt);
  });
  before_a_time = inl (record {
    before = [];
    last = Bytes Server (0x81 ∷ []);
    after = Nothing ∷ [];
    are = refl;
    some = λ e. cc;
    no_more = refl;
    held = tt;
  });
  no_bytes = inr (refl, refl);
}
