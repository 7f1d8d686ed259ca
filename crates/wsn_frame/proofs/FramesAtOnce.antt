-- A frame that is read at once, from one chunk.
use Rattle.std.proofs.Common.{◌≡◌, ℕ, ◌+◌, ◌-◌, ◌<◌, ◌≤◌, Option, Ok, List, [], ◌++◌, length, take, drop, sym, ap, ◌∙◌, subst, arith}
use Rattle.std.proofs.lemmas.Slice.{between-put_mid}
use Rattle.std.proofs.Math.Seq.{take-add}
use borrow.Rule.Slice.PartMut.{mid_of, put_mid, post_of, mid_len, put_same, take_put, drop_put, Post-is}
use Rattle.wsn_wire.specs.declared.endpoint.Role.{Role}
use Rattle.wsn_wire.specs.Frame.{Frame, IsBytes, first_byte}
use Rattle.wsn_frame.specs.declared.heads.Head.{Head}
use Rattle.wsn_frame.specs.declared.payload_check.PayloadCheck.{PayloadCheck}
use Rattle.wsn_rules.specs.Limits.{Limits}
use Rattle.wsn_frame.specs.PartialHeads.{IsHead}
use Rattle.wsn_frame.specs.PayloadChecks.{HasChecked, IsChecked}
use Rattle.wsn_frame.specs.Payloads.{unmasked_by, HoldsPayload}
use Rattle.wsn_frame.proofs.PayloadBytes.{starts, unmasked_by-nil}
use Rattle.wsn_frame.proofs.PayloadMore.{length-unmasked_by, unmasked_by-twice, holds_on}

-- The payload in a chunk, from `start` to `end`, unmasked in place.
module _ (key : Option (List ℕ)) (start end : ℕ) (chunk new : List ℕ) (ordered : start ≤ end) (within : end ≤ length chunk) (unmasked : new ≡ unmasked_by key 0 (mid_of start (end - start) chunk)) where
  abbrev wire : List ℕ
  wire = mid_of start (end - start) chunk

  abbrev after : List ℕ
  after = put_mid start (end - start) chunk new

  size_new : length new ≡ end - start
  size_new = ap (λ (bs : List ℕ). length bs) unmasked ∙ length-unmasked_by key 0 wire ∙ mid_len start end chunk within

  pub kept_after_frame : drop end after ≡ drop end chunk
  kept_after_frame = drop_put start end chunk new ordered within size_new

  pub payload_after : mid_of start (end - start) after ≡ unmasked_by key 0 wire
  payload_after = between-put_mid start (end - start) chunk new end (omega arith) size_new ∙ unmasked

  -- Masked again, the chunk is unchanged.
  pub masked_back : (again : List ℕ) → again ≡ unmasked_by key 0 (mid_of start (end - start) after) → put_mid start (end - start) after again ≡ chunk
  masked_back again is =
      let old : again ≡ wire = is ∙ ap (λ (bs : List ℕ). unmasked_by key 0 bs) payload_after ∙ unmasked_by-twice key 0 wire in
      let front : take start after ≡ take start chunk = take_put start (end - start) chunk new (omega arith) in
      let following : post_of start (end - start) after ≡ post_of start (end - start) chunk = Post-is start end after ordered ∙ kept_after_frame ∙ sym (Post-is start end chunk ordered) in
      ap (λ (bs : List ℕ). bs ++ (again ++ post_of start (end - start) after)) front
      ∙ ap (λ (bs : List ℕ). take start chunk ++ (bs ++ post_of start (end - start) after)) old
      ∙ ap (λ (bs : List ℕ). take start chunk ++ (wire ++ bs)) following
      ∙ put_same start (end - start) chunk

-- A head and the payload after it.
pub head_and_payload : (start end : ℕ) (chunk : List ℕ) → start ≤ end → take end chunk ≡ take start chunk ++ mid_of start (end - start) chunk
head_and_payload start end chunk ordered =
    let sum : end ≡ start + (end - start) = omega arith in
    ap (λ (n : ℕ). take n chunk) sum ∙ take-add start (end - start) chunk

-- All of the payload was checked and is evidence for no refusal.
pub holds_at_once : (role : Role) (limits : Limits) (group : List Frame) (head : Head) (check next : PayloadCheck) (head_bytes wire rest : List ℕ) → rest ≡ head_bytes ++ wire → IsBytes wire
    → IsHead role limits group head head_bytes → HasChecked group (first_byte head.first.fin head.first.op) check [] → 0 < head.len → length wire ≡ head.len
    → IsChecked group (first_byte head.first.fin head.first.op) head.len [] (unmasked_by head.key 0 wire) (Ok next) → HoldsPayload role limits group head next wire rest
holds_at_once role limits group head check next head_bytes wire rest whole in_bytes is_head checked some all fed =
    let first = first_byte head.first.fin head.first.op in
    let before : IsChecked group first head.len (unmasked_by head.key 0 []) (unmasked_by head.key 0 wire) (Ok next) =
    subst (λ (bs : List ℕ). IsChecked group first head.len bs (unmasked_by head.key 0 wire) (Ok next)) (sym (unmasked_by-nil head.key)) fed in
    let begun = starts role limits group head head_bytes is_head check checked some in
    subst (λ (bs : List ℕ). HoldsPayload role limits group head next wire bs) (sym whole)
    (holds_on role limits group head check [] head_bytes begun wire (omega (arith, all)) next in_bytes before)
