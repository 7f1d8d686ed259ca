-- A comparison that leaves nothing out is one of all events; and events that are equal are equal without some kinds.
use Rattle.std.proofs.Common.{◌≡◌, ℕ, Some, Result, Ok, IfOk, List, sym, ◌∙◌, arith}
use Rattle.wsn_wire.specs.declared.endpoint.Role.{Role}
use Rattle.wsn_io.specs.declared.stop.Stop.{Stop}
use Rattle.wsn_io.specs.Transfer.{Incoming}
use Rattle.wsn_rules.specs.declared.compared.Compared.{Compared}
use Rattle.wsn_rules.specs.declared.compared.Compared.TheVariants.{Equal, Different}
use Rattle.wsn_rules.specs.Limits.{Limits}
use Rattle.wsn_rules.specs.LeftOut.{events_without}
use Rattle.wsn_rules.specs.Meaning.{MeantEvent, meaning}
use Rattle.wsn_rules.specs.SameMeaning.{DifferAt, IsComparisonOfBy, IsComparisonOf, all_events}
use Rattle.wsn_events.specs.Comparing.{IsComparisonBy, IsComparedBy, IsCompared}
use Rattle.wsn_events.proofs.LeftOut.{nothing, nothing_left_out}

differ_in_all : (k : ℕ) (events others : List MeantEvent) → DifferAt k (events_without nothing events) (events_without nothing others) → DifferAt k events others
differ_in_all k events others differ = grind (arith, nothing, nothing_left_out)

equal_in_all : (events others : List MeantEvent) → events_without nothing events ≡ events_without nothing others → events ≡ others
equal_in_all events others same = sym (nothing_left_out events) ∙ same ∙ nothing_left_out others

module _ (role : Role) (limits : Limits) where
  of_all : (new : Incoming) (came : List ℕ) (other_new : Incoming) (other_came : List ℕ) (result : Result Compared Stop)
      → IsComparisonBy (events_without nothing) role limits new came other_new other_came result → IsComparisonBy all_events role limits new came other_new other_came result
  of_all new came other_new other_came (Ok Equal) is = (is.0, is.1, is.2, is.3, equal_in_all is.0 is.1 is.4)
  of_all new came other_new other_came (Ok (Different k)) is = (is.0, is.1, is.2, is.3, differ_in_all k is.0 is.1 is.4)
  of_all new came other_new other_came _ is = is

  pub compared_in_all : (old new other_old other_new : Incoming) (result : Result Compared Stop)
      → IsComparedBy (events_without nothing) role limits old new other_old other_new result → IsCompared role limits old new other_old other_new result
  compared_in_all old new other_old other_new result is = grind (arith, of_all)

  pub comparison_of_all : (bytes others : List ℕ) (answer : Compared) → IsComparisonOfBy (events_without nothing) role limits bytes others answer → IsComparisonOf role limits bytes others answer
  comparison_of_all bytes others Equal is = (is.0, is.1, is.2, is.3, equal_in_all (meaning is.0) (meaning is.1) is.4)
  comparison_of_all bytes others (Different k) is = (is.0, is.1, is.2, is.3, differ_in_all k (meaning is.0) (meaning is.1) is.4)
  comparison_of_all bytes others _ is = is

  pub whole_in_all : (old other_old : Incoming) (result : Result Compared Stop)
      → IfOk result (λ (compared : Compared). (all others : List ℕ) → old.remaining ≡ Some all → other_old.remaining ≡ Some others → IsComparisonOfBy (events_without nothing) role limits all others compared)
      → IfOk result (λ (compared : Compared). (all others : List ℕ) → old.remaining ≡ Some all → other_old.remaining ≡ Some others → IsComparisonOf role limits all others compared)
  whole_in_all old other_old result is = grind (arith, comparison_of_all)
