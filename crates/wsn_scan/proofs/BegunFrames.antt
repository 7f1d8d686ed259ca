-- A frame that begins in a chunk: its head, and what the chunk has of its payload.
use Rattle.std.proofs.Common.{rules, nat_eq, Bool, None, Some, false, ◌≡◌, ◌↔◌, ℕ, zero, suc, ◌+◌, ◌-◌, ◌≤◌, true, Ok, Option, List, [], ◌++◌, length, take, drop, refl, sym, ap, ◌∙◌, subst, arith, append-nil}
use Rattle.wsn_wire.specs.declared.endpoint.Role.{Role}
use Rattle.wsn_wire.specs.declared.refusal.Reason.{Reason}
use Rattle.wsn_wire.specs.declared.refusal.Reason.TheVariants.{TextCut}
use Rattle.wsn_wire.specs.Frame.{Frame, IsBytes, first_byte}
use Rattle.wsn_frame.specs.declared.heads.Head.{Head}
use Rattle.wsn_frame.specs.declared.payload_check.PayloadCheck.{PayloadCheck}
use Rattle.wsn_rules.specs.Limits.{Limits}
use Rattle.wsn_rules.specs.Evidence.{EvidentByPayload}
use Rattle.wsn_frame.specs.PartialHeads.{IsHead}
use Rattle.wsn_frame.specs.PayloadChecks.{HasChecked, IsChecked}
use Rattle.wsn_frame.specs.Payloads.{unmasked_by, HoldsPayload}
use Rattle.wsn_frame.proofs.PayloadBytes.{starts, starts_empty, unmasked_by-nil}
use Rattle.wsn_frame.proofs.PayloadMore.{holds_on}
use Rattle.wsn_frame.proofs.FramesAtOnce.{payload_after}
use Rattle.wsn_frame.proofs.HeadsAtOnce.{no_items}
use borrow.Rule.Slice.PartMut.{mid_of, put_mid}
use Rattle.std.specs.Prelude.{IfSome}
use Rattle.std.proofs.lemmas.List.{drop-take}
use Rattle.wsn_scan.specs.declared.part.Part.{Part}
use Rattle.wsn_scan.specs.Positions.{Position, BetweenFrames}
use Rattle.wsn_scan.specs.declared.part.Taken.{Taken}
use Rattle.wsn_scan.specs.declared.scan.Scan.{Scan}
use Rattle.wsn_scan.specs.Scans.{IsReachedBy}
use Rattle.wsn_scan.specs.Parts.{ContinuesFrame, Finds}

-- The check of this part of the payload is that of the frame's bytes so far, also where the frame is empty.
pub holds_begun : (role : Role) (limits : Limits) (group : List Frame) (head : Head) (check next : PayloadCheck) (head_bytes wire rest : List ℕ) → rest ≡ head_bytes ++ wire → IsBytes wire
    → IsHead role limits group head head_bytes → HasChecked group (first_byte head.first.fin head.first.op) check [] → length wire ≤ head.len
    → IsChecked group (first_byte head.first.fin head.first.op) head.len [] (unmasked_by head.key 0 wire) (Ok next)
    → (head.len ≡ 0 → (reason : Reason) → EvidentByPayload group reason (first_byte head.first.fin head.first.op) 0 [] → ⊥)
    → HoldsPayload role limits group head next wire rest
holds_begun role limits group head check next head_bytes wire rest whole in_bytes is_head checked within fed quiet = by_len head.len refl
  where
    by_len : (n : ℕ) → head.len ≡ n → HoldsPayload role limits group head next wire rest
    by_len zero empty =
        let none : wire ≡ [] = no_items wire (omega (arith, within, empty)) in
        let bare : unmasked_by head.key 0 wire ≡ [] = ap (λ (bs : List ℕ). unmasked_by head.key 0 bs) none ∙ unmasked_by-nil head.key in
        let own : HasChecked group (first_byte head.first.fin head.first.op) next [] = subst (λ (bs : List ℕ). HasChecked group (first_byte head.first.fin head.first.op) next bs) bare fed.0 in
        let alone = starts_empty role limits group head head_bytes is_head next own empty (λ row. quiet empty TextCut row) (λ reason other row. quiet empty reason row) in
        let rest_is : rest ≡ head_bytes = whole ∙ ap (λ (bs : List ℕ). head_bytes ++ bs) none ∙ append-nil head_bytes in
        subst (λ (bs : List ℕ). HoldsPayload role limits group head next wire bs) (sym rest_is)
        (subst (λ (w : List ℕ). HoldsPayload role limits group head next w head_bytes) (sym none) alone)
    by_len (suc n) some =
        let before : IsChecked group (first_byte head.first.fin head.first.op) head.len (unmasked_by head.key 0 []) (unmasked_by head.key 0 wire) (Ok next) =
        subst (λ (bs : List ℕ). IsChecked group (first_byte head.first.fin head.first.op) head.len bs (unmasked_by head.key 0 wire) (Ok next)) (sym (unmasked_by-nil head.key)) fed in
        let begun = starts role limits group head head_bytes is_head check checked (omega (arith, some)) in
        subst (λ (bs : List ℕ). HoldsPayload role limits group head next wire bs) (sym whole)
        (holds_on role limits group head check [] head_bytes begun wire (omega (arith, within)) next in_bytes before)

-- Whether the part ends the payload.
pub total_is : (count len : ℕ) (fed : List ℕ) → length fed ≡ count → (nat_eq count len ≡ true) ↔ (0 + length fed ≡ len)
total_is count len fed size = (ends, whole)
  where
    ends : nat_eq count len ≡ true → 0 + length fed ≡ len
    ends ended = let same : count ≡ len = search (rules, ended) in omega (arith, same, size)

    whole : 0 + length fed ≡ len → nat_eq count len ≡ true
    whole all = let same : count ≡ len = omega (arith, all, size) in search (rules, same)

-- The payload in the chunk after it was unmasked: from its start up to the end of the part.
pub drop_mid : (start count : ℕ) (chunk new : List ℕ) (key : Option (List ℕ)) → start + count ≤ length chunk → new ≡ unmasked_by key 0 (mid_of start (start + count - start) chunk)
    → drop start (take (start + count) (put_mid start (start + count - start) chunk new)) ≡ unmasked_by key 0 (mid_of start (start + count - start) chunk)
drop_mid start count chunk new key within unmasked =
    let after = put_mid start (start + count - start) chunk new in
    let same : count ≡ start + count - start = omega arith in
    drop-take start count after ∙ ap (λ (n : ℕ). take n (drop start after)) same ∙ payload_after key start (start + count) chunk new (omega arith) within unmasked

-- Whether a part begins its frame doesn't say how the frame goes on.
pub begun_part : (fs : List Frame) (part : Part) (payload shown : List ℕ) (frames : List Frame) (position : Position) → shown ≡ payload → ContinuesFrame fs [] part payload frames position
    → ContinuesFrame fs [] (record part { begins = true }) shown frames position
begun_part fs part payload shown frames position same goes_on =
    subst (λ (bs : List ℕ). ContinuesFrame fs [] (record part { begins = true }) bs frames position) (sym same) (record { within = goes_on.within; ends = goes_on.ends })

-- A part that doesn't end the frame is not all of it.
not_both : (b : Bool) → b ≡ true → b ≡ false → ⊥
not_both true is isnt = let both : true ≡ false = isnt in cc
not_both false is isnt = let both : false ≡ true = is in cc

pub not_all : (ends : Bool) (done len : ℕ) → (ends ≡ true ↔ (done ≡ len)) → ends ≡ false → done ≡ len → ⊥
not_all ends done len same open_still all = not_both ends (same.1 all) open_still

-- A head alone has no payload.
pub none_shown : (n : ℕ) (bytes : List ℕ) → drop n (take n bytes) ≡ []
none_shown n bytes = let same : n ≡ n + 0 = omega arith in ap (λ (m : ℕ). drop n (take m bytes)) same ∙ drop-take n 0 bytes

-- What is found between frames is found at a position between frames.
pub from_between : (role : Role) (limits : Limits) (new : Scan) (bytes : List ℕ) (taken : Taken) (part : Part) (fs : List Frame) (at : Position) (payload : List ℕ) {rest : Type 0} → at ≡ BetweenFrames
    → IsReachedBy role limits new bytes (Finds taken part payload fs BetweenFrames) × rest → IsReachedBy role limits new bytes (Finds taken part payload fs at) × rest
from_between role limits new bytes taken part fs at payload {rest} between is = subst (λ (p : Position). IsReachedBy role limits new bytes (Finds taken part payload fs p) × rest) (sym between) is

-- What holds of each value holds if there is one.
pub if_some : {P Q : ℕ → Type 0} (found : Option ℕ) → ((n : ℕ) → P n → Q n) → IfSome found P → IfSome found Q
if_some None each is = tt
if_some (Some n) each is = each n is

pub goes_on_as : (fs : List Frame) (before : List ℕ) (part : Part) (payload shown : List ℕ) (frames : List Frame) (position : Position) → shown ≡ payload → ContinuesFrame fs before part payload frames position
    → ContinuesFrame fs before part shown frames position
goes_on_as fs before part payload shown frames position same goes_on = subst (λ (bs : List ℕ). ContinuesFrame fs before part bs frames position) (sym same) goes_on
