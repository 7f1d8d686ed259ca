-- What a comparison says of two streams all of whose bytes are known. Two lists of bytes have one answer.
use Rattle.std.proofs.Common.{◌≡◌, ℕ, ◌+◌, ◌-◌, true, false, Option, Some, Ok, List, length, refl, sym, ap, ◌∙◌, subst, append-nil, arith}
use Rattle.std.specs.Io.KnownBytes.{Consumes, IsAtEnd}
use Rattle.wsn_wire.specs.declared.endpoint.Role.{Role}
use Rattle.wsn_wire.specs.Frame.{Frame, stream}
use Rattle.wsn_io.specs.Transfer.{Incoming, IsReceived}
use Rattle.wsn_rules.specs.declared.verdict.Verdict.{Verdict}
use Rattle.wsn_rules.specs.declared.verdict.Verdict.TheVariants.{Accepted}
use Rattle.wsn_rules.specs.Accepted.{IsAccepted}
use Rattle.wsn_rules.specs.Limits.{Limits}
use Rattle.wsn_rules.specs.Meaning.{MeantEvent, meaning}
use Rattle.wsn_rules.specs.Verdict.{IsVerdict}
use Rattle.wsn_rules.specs.Summary.{counted}
use Rattle.wsn_scan.proofs.JudgedInputs.{whole_verdict}
use Rattle.wsn_rules.proofs.OneVerdict.{one_verdict}
use Rattle.wsn_rules.specs.declared.compared.Compared.{Compared}
use Rattle.wsn_rules.specs.declared.compared.Compared.TheVariants.{Equal, Different, NotAccepted}
use Rattle.wsn_rules.specs.SameMeaning.{DifferAt, IsAnAccepted, IsComparisonOfBy}
use Rattle.wsn_events.specs.Comparing.{HasVerdict, IsAcceptedOf, IsComparedBy}
use Rattle.wsn_events.proofs.ComparedEvents.{differ_not_equal, differ_once}
use Rattle.wsn_rules.proofs.NormalLaws.{accepted_meaning}

-- at the end, all of the bytes came
all_came : (old new : Option (List ℕ)) (came all : List ℕ) → Consumes old new came → IsAtEnd new → old ≡ Some all → all ≡ came
all_came old new came all consumed at_end known = grind (arith, append-nil)

module _ (role : Role) (limits : Limits) where
  -- an accepted stream's events are the meaning of all of its bytes
  whole_accepted : (old new : Incoming) (came all : List ℕ) (events : List MeantEvent) → Consumes old.remaining new.remaining came → old.remaining ≡ Some all → IsAcceptedOf role limits new came events
      → (fs : List Frame) × IsAccepted role limits all fs × (events ≡ meaning fs)
  whole_accepted old new came all events consumed known accepted =
      let is : all ≡ came = all_came old.remaining new.remaining came all consumed accepted.1.0.2 known in
      let meant = accepted.1.1 in
      (meant.0, subst (λ (bs : List ℕ). IsAccepted role limits bs meant.0) (sym is) meant.1.0, meant.2)

  whole_of : (old new : Incoming) (came all : List ℕ) (verdict : Verdict) → IsReceived (limits.input + 1) old new came → old.remaining ≡ Some all → HasVerdict role limits new came verdict
      → (fs : List Frame) × IsVerdict role limits all fs verdict
  whole_of old new came all verdict received known has =
      whole_verdict role limits old new verdict all (came, record { received = received; answer = has.1.0 }) known

  pub whole_comparison : (part : List MeantEvent → List MeantEvent) (old new other_old other_new : Incoming) (compared : Compared) → IsComparedBy part role limits old new other_old other_new (Ok compared)
      → (all others : List ℕ) → old.remaining ≡ Some all → other_old.remaining ≡ Some others → IsComparisonOfBy part role limits all others compared
  whole_comparison part old new other_old other_new Equal is all others known other_known =
      let one = whole_accepted old new is.came all is.answer.0 is.received.consumed.consumed known is.answer.2 in
      let two = whole_accepted other_old other_new is.other_came others is.answer.1 is.other_received.consumed.consumed other_known is.answer.3 in
      (one.0, two.0, one.1, two.1, sym (ap part one.2) ∙ is.answer.4 ∙ ap part two.2)
  whole_comparison part old new other_old other_new (Different k) is all others known other_known =
      let one = whole_accepted old new is.came all is.answer.0 is.received.consumed.consumed known is.answer.2 in
      let two = whole_accepted other_old other_new is.other_came others is.answer.1 is.other_received.consumed.consumed other_known is.answer.3 in
      let differ : DifferAt k (part (meaning one.0)) (part is.answer.1) = subst (λ (es : List MeantEvent). DifferAt k (part es) (part is.answer.1)) one.2 is.answer.4 in
      (one.0, two.0, one.1, two.1, subst (λ (es : List MeantEvent). DifferAt k (part (meaning one.0)) (part es)) two.2 differ)
  whole_comparison part old new other_old other_new (NotAccepted false verdict) is all others known other_known =
      (whole_of old new is.came all verdict is.received known is.answer.0, is.answer.1)
  whole_comparison part old new other_old other_new (NotAccepted true verdict) is all others known other_known =
      let one = whole_of old new is.came all (Accepted is.answer.0.0) is.received known is.answer.0.1 in
      ((one.0, one.1.0), whole_of other_old other_new is.other_came others verdict is.other_received other_known is.answer.1, is.answer.2)

  -- ---- one answer

  -- an accepted stream has no other verdict
  not_both : (bytes : List ℕ) (fs gs : List Frame) (verdict : Verdict) → IsAccepted role limits bytes fs → IsVerdict role limits bytes gs verdict → (IsAnAccepted verdict → ⊥) → ⊥
  not_both bytes fs gs verdict accepted is none =
      let summary = counted fs (length (stream fs)) (length bytes - length (stream fs)) in
      none (subst (λ (v : Verdict). IsAnAccepted v) (one_verdict role limits bytes fs gs (Accepted summary) verdict (accepted, refl) is).1 tt)

  -- the lists that differ are the meanings of the accepted streams
  differ_of : (part : List MeantEvent → List MeantEvent) (bytes others : List ℕ) (fs gs hs is : List Frame) (k : ℕ) → IsAccepted role limits bytes fs → IsAccepted role limits others gs → IsAccepted role limits bytes hs → IsAccepted role limits others is
      → DifferAt k (part (meaning hs)) (part (meaning is)) → DifferAt k (part (meaning fs)) (part (meaning gs))
  differ_of part bytes others fs gs hs is k one two three four differ =
      let first : DifferAt k (part (meaning fs)) (part (meaning is)) = subst (λ (es : List MeantEvent). DifferAt k (part es) (part (meaning is))) (accepted_meaning role limits bytes hs fs three one) differ in
      subst (λ (es : List MeantEvent). DifferAt k (part (meaning fs)) (part es)) (accepted_meaning role limits others is gs four two) first

  pub one_answer : (part : List MeantEvent → List MeantEvent) (bytes others : List ℕ) (answer other : Compared) → IsComparisonOfBy part role limits bytes others answer → IsComparisonOfBy part role limits bytes others other → answer ≡ other
  one_answer part bytes others Equal Equal a b = refl
  one_answer part bytes others Equal (Different k) a b = absurd (differ_not_equal k (part (meaning a.0)) (part (meaning a.1)) (differ_of part bytes others a.0 a.1 b.0 b.1 k a.2 a.3 b.2 b.3 b.4) a.4)
  one_answer part bytes others Equal (NotAccepted true v) a b = absurd (not_both others a.1 b.1.0 v a.3 b.1.1 b.2)
  one_answer part bytes others (Different k) Equal a b = absurd (differ_not_equal k (part (meaning b.0)) (part (meaning b.1)) (differ_of part bytes others b.0 b.1 a.0 a.1 k b.2 b.3 a.2 a.3 a.4) b.4)
  one_answer part bytes others (Different k) (Different j) a b =
      ap (λ (n : ℕ). Different n) (differ_once k j (part (meaning a.0)) (part (meaning a.1)) a.4 (differ_of part bytes others a.0 a.1 b.0 b.1 j a.2 a.3 b.2 b.3 b.4))
  one_answer part bytes others (Different k) (NotAccepted true v) a b = absurd (not_both others a.1 b.1.0 v a.3 b.1.1 b.2)
  one_answer part bytes others (NotAccepted false v) Equal a b = absurd (not_both bytes b.0 a.0.0 v b.2 a.0.1 a.1)
  one_answer part bytes others (NotAccepted false v) (Different k) a b = absurd (not_both bytes b.0 a.0.0 v b.2 a.0.1 a.1)
  one_answer part bytes others (NotAccepted false v) (NotAccepted false w) a b = ap (λ (u : Verdict). NotAccepted false u) (one_verdict role limits bytes a.0.0 b.0.0 v w a.0.1 b.0.1).1
  one_answer part bytes others (NotAccepted false v) (NotAccepted true w) a b = absurd (not_both bytes b.0.0 a.0.0 v b.0.1 a.0.1 a.1)
  one_answer part bytes others (NotAccepted true v) Equal a b = absurd (not_both others b.1 a.1.0 v b.3 a.1.1 a.2)
  one_answer part bytes others (NotAccepted true v) (Different k) a b = absurd (not_both others b.1 a.1.0 v b.3 a.1.1 a.2)
  one_answer part bytes others (NotAccepted true v) (NotAccepted false w) a b = absurd (not_both bytes a.0.0 b.0.0 w a.0.1 b.0.1 b.1)
  one_answer part bytes others (NotAccepted true v) (NotAccepted true w) a b = ap (λ (u : Verdict). NotAccepted true u) (one_verdict role limits others a.1.0 b.1.0 v w a.1.1 b.1.1).1
  one_answer part bytes others _ (NotAccepted false v) a b = absurd (not_both bytes a.0 b.0.0 v a.2 b.0.1 b.1)
