-- The times of the last bytes, after one more line.
use Rattle.std.proofs.Common.{◌≡◌, ℕ, Option, List, [], ◌∷◌, ◌++◌, refl, sym, ap, ◌∙◌, subst}
use Rattle.wsn_wire.specs.declared.endpoint.Role.{Role}
use Rattle.wsn_wire.specs.declared.endpoint.Role.TheVariants.{Client, Server}
use Rattle.wsn_rules.specs.Entries.{Entry, IsEntry, AreEntries}
use Rattle.wsn_rules.specs.Entries.Entry.{Nothing, Bytes, Mark}
use Rattle.wsn_rules.specs.Sides.{bytes_in}
use Rattle.wsn_rules.specs.ShownCapture.{IsTimeAfter, IsTimeOfLast}
use Rattle.wsn_rules.proofs.LastTimes.{some_bytes, one_each, same_last_time, new_last_time}
use Rattle.wsn_show.specs.declared.last_times.LastTimes.{LastTimes}
use Rattle.wsn_show.specs.EndNotes.{HasNotedTimes}

module _ (lines : List (List ℕ)) (entries : List Entry) (line : List ℕ) (are : AreEntries lines entries) where
  -- A line with bytes of this endpoint.
  bytes_noted : (role : Role) (bytes : List ℕ) (time : Option (List ℕ)) → bytes_in role (Bytes role bytes) ≡ bytes → IsTimeAfter lines time → IsEntry line (Bytes role bytes)
      → IsTimeOfLast role (lines ++ line ∷ []) (entries ++ Bytes role bytes ∷ []) time
  bytes_noted role bytes time own holds gives =
      new_last_time role lines entries line (Bytes role bytes) (one_each lines entries are) time
      (λ none. some_bytes gives.0 bytes gives.2 (sym own ∙ none)) holds

  -- A line without.
  none_noted : (role : Role) (entry : Entry) (time : Option (List ℕ)) → bytes_in role entry ≡ [] → IsTimeOfLast role lines entries time
      → IsTimeOfLast role (lines ++ line ∷ []) (entries ++ entry ∷ []) time
  none_noted role entry time none is = same_last_time role lines entries line entry (one_each lines entries are) time none is

  module _ (times : LastTimes) (has : HasNotedTimes times lines entries) (entry : Entry) where
    pub client_noted : (bytes : List ℕ) (time : Option (List ℕ)) → entry ≡ Bytes Client bytes → IsTimeAfter lines time → IsEntry line entry
        → HasNotedTimes (record { client = time; server = times.server }) (lines ++ line ∷ []) (entries ++ entry ∷ [])
    client_noted bytes time is holds gives Client =
        subst (λ (e : Entry). IsTimeOfLast Client (lines ++ line ∷ []) (entries ++ e ∷ []) time) (sym is)
        (bytes_noted Client bytes time refl holds (subst (λ (e : Entry). IsEntry line e) is gives))
    client_noted bytes time is holds gives Server = none_noted Server entry times.server (ap (bytes_in Server) is) (has Server)

    pub server_noted : (bytes : List ℕ) (time : Option (List ℕ)) → entry ≡ Bytes Server bytes → IsTimeAfter lines time → IsEntry line entry
        → HasNotedTimes (record { client = times.client; server = time }) (lines ++ line ∷ []) (entries ++ entry ∷ [])
    server_noted bytes time is holds gives Client = none_noted Client entry times.client (ap (bytes_in Client) is) (has Client)
    server_noted bytes time is holds gives Server =
        subst (λ (e : Entry). IsTimeOfLast Server (lines ++ line ∷ []) (entries ++ e ∷ []) time) (sym is)
        (bytes_noted Server bytes time refl holds (subst (λ (e : Entry). IsEntry line e) is gives))

    pub neither_noted : ((role : Role) → bytes_in role entry ≡ []) → HasNotedTimes times (lines ++ line ∷ []) (entries ++ entry ∷ [])
    neither_noted none Client = none_noted Client entry times.client (none Client) (has Client)
    neither_noted none Server = none_noted Server entry times.server (none Server) (has Server)

pub nothing_sent : (role : Role) → bytes_in role Nothing ≡ []
nothing_sent Client = refl
nothing_sent Server = refl

pub mark_sends_none : (other role : Role) → bytes_in role (Mark other) ≡ []
mark_sends_none other Client = refl
mark_sends_none other Server = refl
