-- A payload that continues in a chunk.
use Rattle.std.proofs.Common.{rules, ◌≡◌, ◌↔◌, nat_eq, true, ◌≢◌, ℕ, ◌+◌, ◌-◌, ◌<◌, ◌≤◌, Option, None, Some, Ok, Err, Result, List, [], ◌∷◌, ◌++◌, length, take, drop, inl, inr, refl, sym, ap, ◌∙◌, subst, arith, append_assoc, append-nil, length-append, take-append-drop}
use Rattle.std.proofs.lemmas.List.{length-take-le}
use Rattle.std.proofs.Math.Seq.{take-append_seam, drop-append_seam, take-length}
use Rattle.wsn_wire.specs.declared.endpoint.Role.{Role}
use Rattle.wsn_wire.specs.declared.refusal.Reason.{Reason}
use Rattle.wsn_wire.specs.Frame.{Frame, IsBytes, first_byte}
use Rattle.wsn_wire.proofs.FrameLemmas.{IsBytes-append}
use Rattle.wsn_wire.proofs.MaskLemmas.{length-masked, masked-append, masked-masked}
use Rattle.wsn_frame.specs.declared.heads.Head.{Head}
use Rattle.wsn_frame.specs.declared.payload_check.BadByte.{BadByte}
use Rattle.wsn_frame.specs.declared.payload_check.PayloadCheck.{PayloadCheck}
use Rattle.wsn_rules.specs.Limits.{Limits}
use Rattle.wsn_rules.specs.Evidence.{EvidentByPayload, Evidence}
use Rattle.wsn_frame.specs.PartialHeads.{IsEvidentLast}
use Rattle.wsn_frame.specs.PayloadChecks.{HasChecked, IsQuiet, IsChecked}
use Rattle.wsn_frame.specs.Payloads.{unmasked_by, HoldsPayload}
use Rattle.wsn_rules.proofs.Prefixes.{two_fronts}
use Rattle.wsn_frame.proofs.PayloadBytes.{payload_evident, evident_by_payload}

-- ---- unmasking in parts

pub length-unmasked_by : (key : Option (List ℕ)) (start : ℕ) (bytes : List ℕ) → length (unmasked_by key start bytes) ≡ length bytes
length-unmasked_by None start bytes = refl
length-unmasked_by (Some key) start bytes = length-masked key start bytes

pub unmasked_by-append : (key : Option (List ℕ)) (start : ℕ) (xs ys : List ℕ) → unmasked_by key start (xs ++ ys) ≡ unmasked_by key start xs ++ unmasked_by key (start + length xs) ys
unmasked_by-append None start xs ys = refl
unmasked_by-append (Some key) start xs ys = masked-append key start xs ys

pub unmasked_by-twice : (key : Option (List ℕ)) (start : ℕ) (bytes : List ℕ) → unmasked_by key start (unmasked_by key start bytes) ≡ bytes
unmasked_by-twice None start bytes = refl
unmasked_by-twice (Some key) start bytes = masked-masked key start bytes

pub unmasked_nothing : (key : Option (List ℕ)) → [] ≡ unmasked_by key 0 []
unmasked_nothing None = refl
unmasked_nothing (Some key) = refl

-- Two parts, from the start of the payload.
pub unmasked_by-joined : (key : Option (List ℕ)) (xs ys : List ℕ) → unmasked_by key 0 (xs ++ ys) ≡ unmasked_by key 0 xs ++ unmasked_by key (length xs) ys
unmasked_by-joined key xs ys =
    let start : 0 + length xs ≡ length xs = omega arith in
    unmasked_by-append key 0 xs ys ∙ ap (λ (n : ℕ). unmasked_by key 0 xs ++ unmasked_by key n ys) start

pub take-unmasked_by : (key : Option (List ℕ)) (start n : ℕ) (bytes : List ℕ) → n ≤ length bytes → take n (unmasked_by key start bytes) ≡ unmasked_by key start (take n bytes)
take-unmasked_by key start n bytes within =
    let front = unmasked_by key start (take n bytes) in
    let following = unmasked_by key (start + length (take n bytes)) (drop n bytes) in
    let split : unmasked_by key start bytes ≡ front ++ following =
    ap (λ (bs : List ℕ). unmasked_by key start bs) (sym (take-append-drop n bytes)) ∙ unmasked_by-append key start (take n bytes) (drop n bytes) in
    let count : n ≡ length front = sym (length-unmasked_by key start (take n bytes) ∙ length-take-le n bytes within) in
    ap (λ (bs : List ℕ). take n bs) split ∙ ap (λ (m : ℕ). take m (front ++ following)) count ∙ take-append_seam front following

module _ (role : Role) (limits : Limits) (group : List Frame) (head : Head) (check : PayloadCheck) (wire rest : List ℕ) (h : HoldsPayload role limits group head check wire rest)
    (w : List ℕ) (fits : length wire + length w ≤ head.len) where
  abbrev first : ℕ
  first = first_byte head.first.fin head.first.op

  -- The payload before this chunk, and the chunk's part of it.
  abbrev before : List ℕ
  before = unmasked_by head.key 0 wire

  abbrev share : List ℕ
  share = unmasked_by head.key (length wire) w

  joined : (n : ℕ) → n ≤ length w → unmasked_by head.key 0 (wire ++ take n w) ≡ before ++ take n share
  joined n within = unmasked_by-joined head.key wire (take n w) ∙ ap (λ (bs : List ℕ). before ++ bs) (sym (take-unmasked_by head.key (length wire) n w within))

  front_is : (n : ℕ) → rest ++ take n w ≡ h.head_bytes ++ (wire ++ take n w)
  front_is n = ap (λ (bs : List ℕ). bs ++ take n w) h.whole ∙ append_assoc h.head_bytes wire (take n w)

  -- Evidence in a prefix after the old bytes is evidence in its payload.
  shows : (n : ℕ) (reason : Reason) → 0 < n → n ≤ length w → Evidence role limits group reason (rest ++ take n w) → EvidentByPayload group reason first head.len (before ++ take n share)
  shows n reason some within evidence =
      subst (λ (bs : List ℕ). EvidentByPayload group reason first head.len bs) (joined n within)
      (evident_by_payload role limits group head h.head_bytes h.is_head (wire ++ take n w) reason (omega (arith, length-append wire (take n w), length-take-le n w within, some))
      (subst (λ (bs : List ℕ). Evidence role limits group reason bs) (front_is n) evidence))

  -- A prefix that ends no later than the first m bytes, which are quiet, is evidence for no refusal.
  front_shows : (n m : ℕ) → n ≤ length w → IsQuiet group first head.len before share m → (seen later : List ℕ) (reason : Reason) → rest ++ take n w ≡ seen ++ later → n ≤ m + length later
      → Evidence role limits group reason seen → ⊥
  front_shows n m within quiet seen later reason whole enough evidence =
      elim (two_fronts rest seen (take n w) later whole) [
        | inl p ↦ of p.0 p.1 p.2
        | inr p ↦ h.has_no_evidence.none seen p.0 reason p.1 evidence
      ]
    where
      of : (more : List ℕ) → seen ≡ rest ++ more → take n w ≡ more ++ later → ⊥
      of [] is front = h.has_no_evidence.none seen [] reason (sym (append-nil seen ∙ is ∙ append-nil rest)) evidence
      of (x ∷ xs) is front =
          let more : List ℕ = x ∷ xs in
          let whole_w : w ≡ more ++ (later ++ drop n w) = sym (take-append-drop n w) ∙ ap (λ (bs : List ℕ). bs ++ drop n w) front ∙ append_assoc more later (drop n w) in
          let taken : take (length more) w ≡ more = ap (λ (bs : List ℕ). take (length more) bs) whole_w ∙ take-append_seam more (later ++ drop n w) in
          let counts : n ≡ length more + length later = sym (length-take-le n w within) ∙ ap (λ (bs : List ℕ). length bs) front ∙ length-append more later in
          let small : length more ≤ m = omega (arith, counts, enough) in
          let there : Evidence role limits group reason (rest ++ take (length more) w) =
          subst (λ (bs : List ℕ). Evidence role limits group reason bs) (is ∙ ap (λ (bs : List ℕ). rest ++ bs) (sym taken)) evidence in
          quiet (length more) reason (omega arith) small (shows (length more) reason (omega arith) (omega (arith, counts, within)) there)

  -- ---- the result of the check

  pub holds_on : (next : PayloadCheck) → IsBytes w → IsChecked group first head.len before share (Ok next) → HoldsPayload role limits group head next (wire ++ w) (rest ++ w)
  holds_on next in_bytes checked =
      let all : rest ++ take (length w) w ≡ rest ++ w = ap (λ (bs : List ℕ). rest ++ bs) (take-length w) in
      let quiet : IsQuiet group first head.len before share (length w) =
      subst (λ (n : ℕ). IsQuiet group first head.len before share n) (length-unmasked_by head.key (length wire) w) checked.1 in
      record {
        head_bytes = h.head_bytes;
        whole = ap (λ (bs : List ℕ). bs ++ w) h.whole ∙ append_assoc h.head_bytes wire w;
        is_head = h.is_head;
        in_bytes = IsBytes-append wire w h.in_bytes in_bytes;
        checked = subst (λ (bs : List ℕ). HasChecked group first next bs) (sym (unmasked_by-joined head.key wire w)) checked.0;
        has_no_evidence = record {
          none = λ seen later reason whole evidence. front_shows (length w) (length w) (omega arith) quiet seen later reason (all ∙ whole) (omega arith) evidence;
        };
      }

  pub evident_last : (bad : BadByte) → IsChecked group first head.len before share (Err bad) → IsEvidentLast role limits group bad.reason (rest ++ take (bad.at + 1) w)
  evident_last bad checked =
      let n = bad.at + 1 in
      let within : n ≤ length w = omega (arith, checked.0, length-unmasked_by head.key (length wire) w) in
      record {
        before = λ seen later r some whole evidence. front_shows n bad.at within checked.1 seen later r whole (following later some) evidence;
        is_evident =
            subst (λ (bs : List ℕ). Evidence role limits group bad.reason bs) (sym (front_is n))
            (payload_evident role limits group head h.head_bytes h.is_head (wire ++ take n w) bad.reason
            (omega (arith, fits, within, length-append wire (take n w), length-take-le n w within))
            (subst (λ (bs : List ℕ). EvidentByPayload group bad.reason first head.len bs) (sym (joined n within)) checked.2));
        least = λ r evidence. checked.3 r (shows n r (omega arith) within evidence);
      }
    where
      following : (later : List ℕ) → later ≢ [] → bad.at + 1 ≤ bad.at + length later
      following [] some = absurd (some refl)
      following (x ∷ xs) some = omega arith

-- ---- the chunk in place

take_at : (n : ℕ) (xs ys : List ℕ) → length xs ≡ n → take n (xs ++ ys) ≡ xs
take_at n xs ys is = subst (λ (m : ℕ). take m (xs ++ ys) ≡ xs) is (take-append_seam xs ys)

drop_at : (n : ℕ) (xs ys : List ℕ) → length xs ≡ n → drop n (xs ++ ys) ≡ ys
drop_at n xs ys is = subst (λ (m : ℕ). drop m (xs ++ ys) ≡ ys) is (drop-append_seam xs ys)

-- The first `count` bytes of a chunk, unmasked in place.
module _ (key : Option (List ℕ)) (start count : ℕ) (chunk new : List ℕ) (within : count ≤ length chunk) (unmasked : new ≡ unmasked_by key start (take count chunk)) where
  size_new : length new ≡ count
  size_new = ap (λ (bs : List ℕ). length bs) unmasked ∙ length-unmasked_by key start (take count chunk) ∙ length-take-le count chunk within

  pub front_unmasked : take count (new ++ drop count chunk) ≡ unmasked_by key start (take count chunk)
  front_unmasked = take_at count new (drop count chunk) size_new ∙ unmasked

  -- The payload before, and those bytes.
  pub payload_on : (wire payload : List ℕ) → start ≡ length wire → payload ≡ unmasked_by key 0 wire → payload ++ take count (new ++ drop count chunk) ≡ unmasked_by key 0 (wire ++ take count chunk)
  payload_on wire payload at is =
      ap (λ (bs : List ℕ). bs ++ take count (new ++ drop count chunk)) is ∙ ap (λ (bs : List ℕ). unmasked_by key 0 wire ++ bs) (front_unmasked ∙ ap (λ (n : ℕ). unmasked_by key n (take count chunk)) at)
      ∙ sym (unmasked_by-joined key wire (take count chunk))

  -- Masked again from some byte on, the bytes after it are unchanged.
  pub masked_again : (taken : ℕ) (again : List ℕ) → taken ≤ count → again ≡ unmasked_by key (start + taken) (take (count - taken) (drop taken (new ++ drop count chunk)))
      → drop taken (take taken (new ++ drop count chunk) ++ (again ++ drop (count - taken) (drop taken (new ++ drop count chunk)))) ≡ drop taken chunk
  masked_again taken again small is =
      let w = take count chunk in
      let r = drop count chunk in
      let front = take taken w in
      let following = drop taken w in
      let P = unmasked_by key start front in
      let Q = unmasked_by key (start + taken) following in
      let size_front : length front ≡ taken = length-take-le taken w (omega (arith, small, length-take-le count chunk within)) in
      let size_P : length P ≡ taken = length-unmasked_by key start front ∙ size_front in
      let split_w : w ≡ front ++ following = sym (take-append-drop taken w) in
      let size_after : length following ≡ count - taken = let both : length w ≡ length front + length following = ap (λ (bs : List ℕ). length bs) split_w ∙ length-append front following in omega (arith, both, size_front, length-take-le count chunk within) in
      let size_Q : length Q ≡ count - taken = length-unmasked_by key (start + taken) following ∙ size_after in
      let parts : new ≡ P ++ Q =
      unmasked ∙ ap (λ (bs : List ℕ). unmasked_by key start bs) split_w ∙ unmasked_by-append key start front following ∙ ap (λ (n : ℕ). P ++ unmasked_by key (start + n) following) size_front in
      let whole : new ++ r ≡ P ++ (Q ++ r) = ap (λ (bs : List ℕ). bs ++ r) parts ∙ append_assoc P Q r in
      let left : drop taken (new ++ r) ≡ Q ++ r = ap (λ (bs : List ℕ). drop taken bs) whole ∙ drop_at taken P (Q ++ r) size_P in
      let middle : take (count - taken) (drop taken (new ++ r)) ≡ Q = ap (λ (bs : List ℕ). take (count - taken) bs) left ∙ take_at (count - taken) Q r size_Q in
      let old : again ≡ following = is ∙ ap (λ (bs : List ℕ). unmasked_by key (start + taken) bs) middle ∙ unmasked_by-twice key (start + taken) following in
      let last : drop (count - taken) (drop taken (new ++ r)) ≡ r = ap (λ (bs : List ℕ). drop (count - taken) bs) left ∙ drop_at (count - taken) Q r size_Q in
      let has_scanned : length (take taken (new ++ r)) ≡ taken = ap (λ (bs : List ℕ). length (take taken bs)) whole ∙ ap (λ (bs : List ℕ). length bs) (take_at taken P (Q ++ r) size_P) ∙ size_P in
      let after_it : drop taken chunk ≡ following ++ r =
      ap (λ (bs : List ℕ). drop taken bs) (sym (take-append-drop count chunk) ∙ ap (λ (bs : List ℕ). bs ++ r) split_w ∙ append_assoc front following r) ∙ drop_at taken front (following ++ r) size_front in
      drop_at taken (take taken (new ++ r)) (again ++ drop (count - taken) (drop taken (new ++ r))) has_scanned
      ∙ ap (λ (bs : List ℕ). bs ++ drop (count - taken) (drop taken (new ++ r))) old ∙ ap (λ (bs : List ℕ). following ++ bs) last ∙ sym after_it

-- Whether the chunk ends the payload.
pub is_last : (count left total done : ℕ) → done < total → left ≡ total - done → (nat_eq count left ≡ true) ↔ (done + count ≡ total)
is_last count left total done short is = (ends, whole)
  where
    ends : nat_eq count left ≡ true → done + count ≡ total
    ends ended = let same : count ≡ left = search (rules, ended) in omega (arith, same, is, short)

    whole : done + count ≡ total → nat_eq count left ≡ true
    whole all = let same : count ≡ left = omega (arith, all, is) in search (rules, same)

-- The result of checking the bytes that were unmasked in place.
pub checked_share : (group : List Frame) (first total : ℕ) (key : Option (List ℕ)) (done count left : ℕ) (wire chunk new : List ℕ) (result : Result PayloadCheck BadByte) → count ≤ length chunk
    → done ≡ length wire → length wire < total → left ≡ total - done → length wire + length (take count chunk) ≤ total → new ≡ unmasked_by key done (take count chunk)
    → ((nat_eq count left ≡ true) ↔ (length (unmasked_by key 0 wire) + length (take count (new ++ drop count chunk)) ≡ total)
    → length (unmasked_by key 0 wire) + length (take count (new ++ drop count chunk)) ≤ total
    → IsChecked group first total (unmasked_by key 0 wire) (take count (new ++ drop count chunk)) result)
    → IsChecked group first total (unmasked_by key 0 wire) (unmasked_by key (length wire) (take count chunk)) result
checked_share group first total key done count left wire chunk new result within so_far short left_is fits unmasked found =
    let w = take count chunk in
    let fed = take count (new ++ drop count chunk) in
    let share : fed ≡ unmasked_by key (length wire) w = front_unmasked key done count chunk new within unmasked ∙ ap (λ (n : ℕ). unmasked_by key n w) so_far in
    let size : length fed ≡ length w = ap (λ (bs : List ℕ). length bs) share ∙ length-unmasked_by key (length wire) w in
    let size_w : length w ≡ count = length-take-le count chunk within in
    let size_before : length (unmasked_by key 0 wire) ≡ length wire = length-unmasked_by key 0 wire in
    let sum : length (unmasked_by key 0 wire) + length fed ≡ done + count = omega (arith, size, size_w, size_before, so_far) in
    let last = is_last count left total done (omega (arith, so_far, short)) left_is in
    let checked = found ((λ ended. sum ∙ last.0 ended), (λ all. last.1 (sym sum ∙ all))) (omega (arith, size, size_before, fits)) in
    subst (λ (bs : List ℕ). IsChecked group first total (unmasked_by key 0 wire) bs result) share checked
