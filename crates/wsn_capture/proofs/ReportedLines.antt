-- The report of the state of both streams.
use Rattle.std.proofs.Common.{◌≡◌, ℕ, ◌<◌, ◌≤◌, Bool, cond, Option, None, Some, List, inl, inr, sym, ap, subst, arith}
use Rattle.std.proofs.lemmas.Bool.{cases_lt, cases_eq, lt-ltb, le-ltb}
use Rattle.wsn_wire.specs.declared.endpoint.Role.{Role}
use Rattle.wsn_wire.specs.declared.endpoint.Role.TheVariants.{Client, Server}
use Rattle.wsn_rules.specs.Limits.{Limits}
use Rattle.wsn_rules.specs.Entries.{Entry}
use Rattle.wsn_rules.specs.Sides.{sent}
use Rattle.wsn_rules.specs.ClosingHandshake.{ClosesIn, IsFirst}
use Rattle.wsn_capture.specs.CloseLines.{IsCloseLine, IsUnclosed, earlier_of}
use Rattle.wsn_rules.proofs.OneReport.{one_line, two_lines}

module _ (limits : Limits) (given : List Entry) where
  unclosed : (role : Role) (line : ℕ) → IsUnclosed role limits (sent role given) → ClosesIn role limits given line → ⊥
  unclosed role line none closes = none closes.frames closes.accepted closes.closes

  -- the Close that ends in an earlier line came first
  pub first_by_lines : (client server : Option ℕ) → IsCloseLine Client limits given client → IsCloseLine Server limits given server → IsFirst limits given (earlier_of client server)
  first_by_lines None None no_client no_server = neither
    where
      neither : (role : Role) (line : ℕ) → ClosesIn role limits given line → ⊥
      neither Client line = unclosed Client line no_client
      neither Server line = unclosed Server line no_server
  first_by_lines (Some client) None closes no_server = (client, closes, (λ other also. absurd (unclosed Server other no_server also)))
  first_by_lines None (Some server) no_client closes = (server, closes, (λ other also. absurd (unclosed Client other no_client also)))
  first_by_lines (Some client) (Some server) closes also =
      elim (cases_lt client server) [
        | inl less ↦
            subst (IsFirst limits given) (sym (ap (λ (b : Bool). cond b (Some Client) (Some Server)) (lt-ltb client server less)))
            (client, closes, (λ other is. let same = one_line Server limits given server other also is in omega (arith, less, same)))
        | inr le ↦
            subst (IsFirst limits given) (sym (ap (λ (b : Bool). cond b (Some Client) (Some Server)) (le-ltb client server le)))
            (server, also, (λ other is. let same = one_line Client limits given client other closes is in let two = two_lines limits given client server closes also in by_two client server le two other same))
      ]
    where
      by_two : (client server : ℕ) → server ≤ client → (client ≡ server → ⊥) → (other : ℕ) → client ≡ other → server < other
      by_two client server le two other same =
          elim (cases_eq client server) [
            | inl equal ↦ absurd (two equal)
            | inr unequal ↦ omega (arith, le, unequal, same)
          ]
