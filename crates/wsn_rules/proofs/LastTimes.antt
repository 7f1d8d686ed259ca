-- The time of an endpoint's last bytes, after one more line.
use Rattle.std.proofs.Common.{◌≡◌, ◌≢◌, ◌≤◌, ℕ, Option, List, [], ◌∷◌, ◌++◌, length, take, refl, sym, ap, ◌∙◌, subst, inl, inr, arith, append_assoc, length-append}
use Rattle.std.proofs.Math.Seq.{take-append_seam}
use Rattle.std.proofs.lemmas.List.{take-append-le}
use Rattle.std.proofs.lemmas.List.Concat.{flat_map-append}
use Rattle.hex.proofs.HexLemmas.{decode_of-ok}
use Rattle.wsn_wire.specs.declared.endpoint.Role.{Role}
use Rattle.wsn_rules.specs.Entries.{Entry, IsHex, AreEntries}
use Rattle.wsn_rules.specs.Sides.{bytes_in, sent}
use Rattle.wsn_rules.specs.ShownCapture.{IsTimeAfter, IsTimeOfLast}
use Rattle.wsn_rules.proofs.Prefixes.{nil-cons}

-- Digits encode at least one byte.
pub some_bytes : (digits bytes : List ℕ) → IsHex digits bytes → bytes ≢ []
some_bytes [] bytes hex none = hex.0 refl
some_bytes (digit ∷ digits) bytes hex none =
    let decoded = decode_of-ok (digit ∷ digits) bytes hex.1 in
    omega (arith, decoded.2, ap length none)

pub one_each : (lines : List (List ℕ)) (entries : List Entry) → AreEntries lines entries → length lines ≡ length entries
one_each [] [] are = refl
one_each [] (entry ∷ entries) are = absurd are
one_each (line ∷ lines) [] are = absurd are
one_each (line ∷ lines) (entry ∷ entries) are = let rest = one_each lines entries are.1 in omega arith

module _ (role : Role) (lines : List (List ℕ)) (entries : List Entry) (line : List ℕ) (entry : Entry) (each : length lines ≡ length entries) where
  sent_no_more : (after : List Entry) → sent role after ≡ [] → bytes_in role entry ≡ [] → sent role (after ++ entry ∷ []) ≡ []
  sent_no_more after none nothing =
      flat_map-append (bytes_in role) after (entry ∷ []) ∙ ap (λ (bs : List ℕ). bs ++ sent role (entry ∷ [])) none ∙ ap (λ (bs : List ℕ). bs ++ []) nothing

  -- A line without bytes of the endpoint changes nothing.
  pub same_last_time : (time : Option (List ℕ)) → bytes_in role entry ≡ [] → IsTimeOfLast role lines entries time → IsTimeOfLast role (lines ++ line ∷ []) (entries ++ entry ∷ []) time
  same_last_time time nothing (inr none) = inr (sent_no_more entries none.0 nothing, none.1)
  same_last_time time nothing (inl t) =
      let within : length t.before ≤ length lines = omega (arith, each, ap length t.are, length-append t.before (t.last ∷ t.after)) in
      inl (record {
        before = t.before;
        last = t.last;
        after = t.after ++ entry ∷ [];
        are = ap (λ (es : List Entry). es ++ entry ∷ []) t.are ∙ append_assoc t.before (t.last ∷ t.after) (entry ∷ []);
        some = t.some;
        no_more = sent_no_more t.after t.no_more nothing;
        held = subst (λ (ls : List (List ℕ)). IsTimeAfter ls time) (sym (take-append-le (length t.before) lines (line ∷ []) within)) t.held;
      })

  -- A line with bytes of the endpoint has the time that holds.
  pub new_last_time : (time : Option (List ℕ)) → bytes_in role entry ≢ [] → IsTimeAfter lines time → IsTimeOfLast role (lines ++ line ∷ []) (entries ++ entry ∷ []) time
  new_last_time time some holds =
      let front : take (length entries) (lines ++ line ∷ []) ≡ lines = ap (λ (n : ℕ). take n (lines ++ line ∷ [])) (sym each) ∙ take-append_seam lines (line ∷ []) in
      inl (record {
        before = entries;
        last = entry;
        after = [];
        are = refl;
        some = some;
        no_more = refl;
        held = subst (λ (ls : List (List ℕ)). IsTimeAfter ls time) (sym front) holds;
      })

  pub next_last_time : (held time : Option (List ℕ)) → IsTimeAfter lines held → IsTimeOfLast role lines entries time → (next : Option (List ℕ)) × IsTimeOfLast role (lines ++ line ∷ []) (entries ++ entry ∷ []) next
  next_last_time held time holds is = by (bytes_in role entry) refl
    where
      by : (bytes : List ℕ) → bytes_in role entry ≡ bytes → (next : Option (List ℕ)) × IsTimeOfLast role (lines ++ line ∷ []) (entries ++ entry ∷ []) next
      by [] nothing = (time, same_last_time time nothing is)
      by (b ∷ bytes) some = (held, new_last_time held (λ nothing. nil-cons b bytes (sym nothing ∙ some)) holds)
