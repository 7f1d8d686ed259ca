-- Bytes that came from an input in several reads came from it together.
use Rattle.std.proofs.Common.{◌≡◌, ℕ, ◌+◌, ◌≤◌, List, [], ◌++◌, length, take, length-append, length-take-le, refl, subst, ◌∙◌, append-nil, arith}
use Rattle.std.proofs.KnownBytes.{Consumes-nil, Consumes-trans, Consumes-kept}
use Rattle.std.specs.Io.KnownBytes.{Consumes}
use Rattle.wsn_io.specs.Transfer.{Incoming, IsConsumed, IsKept, IsReceived, StaysReadable}

pub consumed_none : (a : Incoming) → IsConsumed a a []
consumed_none a = record { consumed = Consumes-nil a.remaining; counted = omega arith; readable = λ lent. (lent, refl) }

-- No read of lent bytes has failed, neither first nor then.
stays_on : (a b c : Incoming) → StaysReadable a b → StaysReadable b c → StaysReadable a c
stays_on a b c first second lent =
    let one = first lent in
    let two = second one.0 in
    (two.0, two.1 ∙ one.1)

-- one read put n bytes at the start of `into`
pub consumed_read : (a b : Incoming) (into : List ℕ) (n : ℕ) → n ≤ length into → Consumes a.remaining b.remaining (take n into) → b.count ≡ a.count + n → StaysReadable a b → IsConsumed a b (take n into)
consumed_read a b into n within consumed counted readable = record { consumed = consumed; counted = omega (arith, counted, length-take-le n into within); readable = readable }

pub consumed_on : (a b c : Incoming) (bs cs : List ℕ) → IsConsumed a b bs → IsConsumed b c cs → IsConsumed a c (bs ++ cs)
consumed_on a b c bs cs first second = record {
  consumed = Consumes-trans a.remaining b.remaining c.remaining bs cs first.consumed second.consumed;
  counted = omega (arith, first.counted, second.counted, length-append bs cs);
  readable = stays_on a b c first.readable second.readable;
}

-- the input ended
pub consumed_end : (a b c : Incoming) (bs : List ℕ) → IsConsumed a b bs → IsConsumed b c [] → IsConsumed a c bs
consumed_end a b c bs first nothing = subst (λ (all : List ℕ). IsConsumed a c all) (append-nil bs) (consumed_on a b c bs [] first nothing)

-- a read failed
pub consumed_kept : (a b c : Incoming) (bs : List ℕ) → IsConsumed a b bs → IsKept b c → IsConsumed a c bs
consumed_kept a b c bs first kept = record {
  consumed = Consumes-kept a.remaining b.remaining c.remaining bs first.consumed kept.kept;
  counted = omega (arith, first.counted, kept.counted);
  readable = stays_on a b c first.readable kept.readable;
}

-- ---- not too many of them

pub received_of : (most : ℕ) (a b : Incoming) (bs : List ℕ) → IsConsumed a b bs → length bs ≤ most → IsReceived most a b bs
received_of most a b bs is few = record { consumed = is; few = few }

pub received_none : (most : ℕ) (a : Incoming) → IsReceived most a a []
received_none most a = received_of most a a [] (consumed_none a) (omega arith)

pub received_on : (most : ℕ) (a b c : Incoming) (bs cs : List ℕ) → IsReceived most a b bs → IsConsumed b c cs → length (bs ++ cs) ≤ most → IsReceived most a c (bs ++ cs)
received_on most a b c bs cs first second few = received_of most a c (bs ++ cs) (consumed_on a b c bs cs first.consumed second) few
