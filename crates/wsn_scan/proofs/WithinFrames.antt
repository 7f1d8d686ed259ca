-- Bytes that are part of a head, or a head and part of its payload, end within a frame.
use Rattle.std.proofs.Common.{◌≡◌, ℕ, suc, ◌+◌, ◌≤◌, Bool, cond, List, [], ◌∷◌, ◌++◌, length, inl, inr, sym, ap, ◌∙◌, subst, arith, append_assoc, length-append}
use Rattle.wsn_wire.specs.declared.endpoint.Role.{Role}
use Rattle.wsn_wire.specs.Frame.{Frame, IsBytes, first_byte, key_bytes}
use Rattle.wsn_wire.specs.ReceivedHead.{HasLayout, len_form_at, length_count, encoded_length, key_count}
use Rattle.wsn_wire.proofs.FrameLemmas.{key_bytes_count, fronts_agree}
use Rattle.wsn_rules.specs.Limits.{Limits}
use Rattle.wsn_rules.specs.Verdict.{EndsWithinFrame}
use Rattle.wsn_frame.specs.PartialHeads.{IsShort}
use Rattle.wsn_scan.specs.declared.stage.Inside.{Inside}
use Rattle.wsn_scan.specs.Scans.{IsInPayload}
use Rattle.wsn_rules.proofs.LayoutPrefixes.{BeginsWithLayout, layout_or_within}

-- how long a layout is
pub length-layout : (bytes : List ℕ) (l : HasLayout bytes) → length bytes ≡ suc (suc (length_count (len_form_at l.second) + (key_count l.second + encoded_length (len_form_at l.second) l.len)))
length-layout bytes l =
    let parts : length (l.len ++ (l.key ++ l.payload)) ≡ length l.len + (length l.key + length l.payload) =
    length-append l.len (l.key ++ l.payload) ∙ ap (λ (n : ℕ). length l.len + n) (length-append l.key l.payload) in
    ap length l.whole ∙ ap (λ (n : ℕ). suc (suc n))
    (parts ∙ ap (λ (n : ℕ). n + (length l.key + length l.payload)) l.len_count ∙ ap (λ (n : ℕ). length_count (len_form_at l.second) + (n + length l.payload)) l.key_counted
    ∙ ap (λ (n : ℕ). length_count (len_form_at l.second) + (key_count l.second + n)) l.payload_count)

-- bytes that are too few for their layout end within a frame
within_unless : (rest : List ℕ) → IsBytes rest → (BeginsWithLayout rest → ⊥) → EndsWithinFrame rest
within_unless rest in_bytes none = elim (layout_or_within rest in_bytes) [ inl begins ↦ absurd (none begins) | inr within ↦ within ]

-- the length of bytes that begin with a layout
at_least : (rest : List ℕ) (b : BeginsWithLayout rest) → length b.bytes ≤ length rest
at_least rest b = let whole : length rest ≡ length b.bytes + length b.following = ap length b.whole ∙ length-append b.bytes b.following in omega arith

-- the second byte of a layout at the start, and the bytes after it
same_second : (first second : ℕ) (tail : List ℕ) (b : BeginsWithLayout (first ∷ second ∷ tail)) → (b.layout.second ≡ second) × (tail ≡ b.layout.len ++ ((b.layout.key ++ b.layout.payload) ++ b.following))
same_second first second tail b =
    let l = b.layout in
    let whole : first ∷ second ∷ tail ≡ l.first ∷ l.second ∷ ((l.len ++ (l.key ++ l.payload)) ++ b.following) = b.whole ∙ ap (λ (bs : List ℕ). bs ++ b.following) l.whole in
    let second_is : l.second ≡ second = cc in
    let tail_is : tail ≡ (l.len ++ (l.key ++ l.payload)) ++ b.following = cc in
    (second_is, tail_is ∙ append_assoc l.len (l.key ++ l.payload) b.following)

pub head_within : (rest : List ℕ) → IsBytes rest → IsShort rest → EndsWithinFrame rest
head_within rest in_bytes short = within_unless rest in_bytes (too_few rest short)
  where
    too_few : (bs : List ℕ) → IsShort bs → BeginsWithLayout bs → ⊥
    too_few [] few b = absurd (omega (arith, at_least [] b, b.some))
    too_few (first ∷ []) few b = absurd (omega (arith, at_least (first ∷ []) b, length-layout b.bytes b.layout))
    too_few (first ∷ second ∷ tail) few b =
        let same = (same_second first second tail b).0 in
        let count : length_count (len_form_at b.layout.second) ≡ length_count (len_form_at second) = ap (λ (n : ℕ). length_count (len_form_at n)) same in
        let key : key_count b.layout.second ≡ key_count second = ap key_count same in
        absurd (omega (arith, few, at_least (first ∷ second ∷ tail) b, length-layout b.bytes b.layout, count, key))

pub payload_within : (role : Role) (limits : Limits) (group : List Frame) (inside : Inside) (rest payload : List ℕ) → IsBytes rest → IsInPayload role limits group inside rest payload → EndsWithinFrame rest
payload_within role limits group inside rest payload in_bytes p = within_unless rest in_bytes short
  where
    short : BeginsWithLayout rest → ⊥
    short b =
        let h = p.holds.is_head in
        let first = first_byte inside.head.first.fin inside.head.first.op in
        let kb = key_bytes inside.head.key in
        let tail = h.lengths ++ (kb ++ p.wire) in
        let is : rest ≡ first ∷ h.second ∷ tail =
        p.holds.whole ∙ ap (λ (bs : List ℕ). bs ++ p.wire) h.whole ∙ ap (λ (bs : List ℕ). first ∷ h.second ∷ bs) (append_assoc h.lengths kb p.wire) in
        let whole = subst BeginsWithLayout is b in
        let same = same_second first h.second tail whole in
        let count : length h.lengths ≡ length whole.layout.len =
        h.counted ∙ ap length_count h.encoded ∙ ap (λ (n : ℕ). length_count (len_form_at n)) (sym same.0) ∙ sym whole.layout.len_count in
        let lens = (fronts_agree h.lengths whole.layout.len (kb ++ p.wire) ((whole.layout.key ++ whole.layout.payload) ++ whole.following) count same.1).0 in
        let reported : encoded_length (len_form_at whole.layout.second) whole.layout.len ≡ inside.head.len =
        ap (λ (n : ℕ). encoded_length (len_form_at n) whole.layout.len) same.0 ∙ ap (λ (bs : List ℕ). encoded_length (len_form_at h.second) bs) (sym lens)
        ∙ ap (λ f. encoded_length f h.lengths) (sym h.encoded) ∙ sym h.reported in
        let counts : length_count (len_form_at whole.layout.second) ≡ length h.lengths = sym whole.layout.len_count ∙ sym count in
        let key : key_count whole.layout.second ≡ length kb =
        ap key_count same.0 ∙ ap (λ (b : Bool). cond b 4 0) h.masked ∙ sym (key_bytes_count inside.head.key h.of_four) in
        let size : length (first ∷ h.second ∷ tail) ≡ suc (suc (length h.lengths + (length kb + length p.wire))) =
        ap (λ (n : ℕ). suc (suc n)) (length-append h.lengths (kb ++ p.wire) ∙ ap (λ (n : ℕ). length h.lengths + n) (length-append kb p.wire)) in
        let fewer = p.short in
        absurd (omega (arith, at_least _ whole, length-layout whole.bytes whole.layout))
