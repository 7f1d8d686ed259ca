-- A frame that ends an event, as the part of a chunk that is all of the frame.
use Rattle.std.proofs.Common.{◌≡◌, ℕ, ◌+◌, ◌-◌, ◌<◌, ◌≤◌, true, false, List, [], ◌∷◌, ◌++◌, length, take, drop, refl, sym, ap, ◌∙◌, subst, arith, length-append}
use Rattle.std.proofs.lemmas.List.{length-take-le}
use Rattle.std.proofs.Math.Seq.{drop-append-add}
use Rattle.wsn_wire.specs.declared.endpoint.Role.{Role}
use Rattle.wsn_wire.specs.declared.length_encoding.Form.TheVariants.{Shortest}
use Rattle.wsn_wire.specs.declared.opcode.Kind.{Kind}
use Rattle.wsn_wire.specs.declared.opcode.Op.{Op}
use Rattle.wsn_wire.specs.Frame.{Frame, IsBytes, opcode, first_byte, frame_bytes, head_bytes, stream}
use Rattle.wsn_wire.proofs.FrameLemmas.{op_at, op_at-opcode}
use Rattle.wsn_rules.specs.Group.{unfinished}
use Rattle.wsn_rules.specs.Heads.{info_of}
use Rattle.wsn_rules.specs.Limits.{Limits}
use Rattle.wsn_rules.specs.NormalForm.{normal_key, op_of}
use Rattle.wsn_scan.specs.declared.part.Taken.TheVariants as taken
use Rattle.wsn_scan.specs.declared.scan.Scan.{Scan}
use Rattle.wsn_scan.specs.declared.scan.events.EventFrame.{EventFrame}
use Rattle.wsn_scan.specs.declared.stage.Stage.{Stage}
use Rattle.wsn_scan.specs.declared.stage.Stage.TheVariants as stages
use Rattle.wsn_scan.specs.EventFrames.{EndsEventAt, IsIdle, info_found, whole_part}
use Rattle.wsn_scan.specs.Parts.{IsPartAt}
use Rattle.wsn_scan.specs.Positions.{Position, BetweenFrames}
use Rattle.wsn_scan.specs.Scans.{IsAt, AdvancesFrom}
use Rattle.wsn_scan.proofs.EventFrames.{normal_of, normal_wire}
use Rattle.wsn_scan.proofs.EventRuns.{TakesEvent}

-- what the frame's place has after its head is its payload
payload_is : (role : Role) (limits : Limits) (fs : List Frame) (chunk after : List ℕ) (found : EventFrame) (ends : EndsEventAt role limits fs chunk after found) → unfinished fs ≡ [] → found.size ≤ length after
    → drop (found.size - found.len) (take found.size after) ≡ ends.frame.payload
payload_is role limits fs chunk after found ends none fits =
    let f = ends.frame in
    let head = head_bytes true f.op (normal_key role) Shortest (length f.payload) in
    let bytes : take found.size after ≡ head ++ f.payload =
    ends.normal ∙ ap frame_bytes (normal_of role limits fs f ends.law none) ∙ ap (λ (bs : List ℕ). head ++ bs) (sym (normal_wire role f.payload)) in
    let size : length (take found.size after) ≡ found.size = length-take-le found.size after fits in
    let sum : length (take found.size after) ≡ length head + length f.payload = ap (λ (bs : List ℕ). length bs) bytes ∙ length-append head f.payload in
    let start : found.size - found.len ≡ length head + 0 = omega (arith, size, sum, ends.size) in
    ap (λ (bs : List ℕ). drop (found.size - found.len) bs) bytes ∙ ap (λ (n : ℕ). drop n (head ++ f.payload)) start ∙ drop-append-add head f.payload 0

-- Whatever the scan has consumed, it takes the frame at the start of the chunk as one part.
pub event_part : (old new : Scan) (chunk after : List ℕ) (found : EventFrame) → IsIdle old → (IsBytes chunk → TakesEvent old new chunk after found) → 0 < found.size → found.size ≤ length after
    → AdvancesFrom old.stage old new chunk after found.size taken.Part (whole_part (info_found old.used found) found.size)
event_part old new chunk after found idle takes some fits role limits bytes rest fs at in_chunk has =
    let is : IsAt role limits stages.Between bytes fs rest at = subst (λ (stage : Stage). IsAt role limits stage bytes fs rest at) idle.0 has.is_at in
    let one = takes in_chunk role limits bytes rest fs at has in
    let ends = one.ends in
    let part = whole_part (info_found old.used found) found.size in
    let head : info_found old.used found ≡ info_of (length (stream fs)) ends.frame =
    λ i. record { offset = has.has_consumed.used i; fin = sym ends.final i; op = sym ends.op_is i; key = sym ends.key_is i; form = sym ends.form_is i; len = sym ends.size i } in (
      record {
        frames = fs ++ ends.frame ∷ [];
        since = [];
        position = BetweenFrames;
        has_scanned = one.has_scanned;
        found = record {
          before = [];
          is_at = subst (λ (p : Position). IsPartAt p part []) (sym is.2) (refl, refl);
          goes_on = record {
            within = λ no. let both : true ≡ false = no in absurd cc;
            ends = λ yes. (ends.frame, head, sym (payload_is role limits fs chunk after found ends one.none_before fits), refl, refl);
          };
        };
      },
      (λ more. some, λ no. let both : true ≡ false = no in absurd cc),
    )

-- the opcode of a whole message's frame, by its first byte
pub op_by_first : (kind : Kind) (op : Op) → first_byte true (op_of kind) ∷ [] ≡ first_byte true op ∷ [] → op ≡ op_of kind
op_by_first kind op is =
    let first : first_byte true (op_of kind) ≡ first_byte true op = cc in
    let same : opcode op ≡ opcode (op_of kind) = omega (arith, first) in
    sym (op_at-opcode op) ∙ ap op_at same ∙ op_at-opcode (op_of kind)
