-- With the detail of frames each item that is shown of a stream is where it says.
use Rattle.std.proofs.Common.{◌≡◌, ℕ, ◌+◌, ◌<◌, ◌≤◌, false, List, [], ◌∷◌, ◌++◌, length, map, refl, sym, ap, ◌∙◌, subst, inl, inr, append-nil, append_assoc, length-append, arith}
use Rattle.std.specs.List.{AllByRecursion}
use Rattle.std.proofs.lemmas.List.{map-append}
use Rattle.wsn_wire.specs.declared.endpoint.Role.{Role}
use Rattle.wsn_wire.specs.Frame.{Frame, head_bytes, frame_bytes, stream, wire_payload}
use Rattle.wsn_rules.specs.declared.detail.Detail.TheVariants.{Frames}
use Rattle.wsn_rules.specs.declared.head_info.HeadInfo.{HeadInfo}
use Rattle.wsn_rules.specs.declared.verdict.Refusal.{Refusal}
use Rattle.wsn_rules.specs.declared.verdict.Verdict.{Verdict}
use Rattle.wsn_rules.specs.declared.verdict.Verdict.TheVariants.{Accepted, Cut, Refused}
use Rattle.wsn_rules.specs.Limits.{Limits}
use Rattle.wsn_rules.specs.Group.{unfinished}
use Rattle.wsn_rules.specs.Heads.{info_of, heads_from, heads_of, BeginsWithHead, IsBegun}
use Rattle.wsn_rules.specs.Verdict.{IsRefused, IsVerdict}
use Rattle.wsn_rules.specs.BadCharacter.{PlacedByte, placed}
use Rattle.wsn_rules.specs.ShownOffsets.{IsEncodableHead, IsPlaced, ArePlaced, is_open_message, IsEnd, AreInOrder, IsPartOf, AreHeadsInPlace}
use Rattle.wsn_rules.specs.ShownStream.{Shown, shown_head, IsShownVerdict, IsShownStream}
use Rattle.wsn_rules.proofs.Prefixes.{append_cancel, two_fronts}
use Rattle.wsn_rules.proofs.Walk.{AreSpellable, spellable_of_lawful, spellable_tail}
use Rattle.wsn_rules.proofs.LeastEvident.{evidence_is_some}
use Rattle.wsn_rules.proofs.BegunHeads.{encodable_begun}
use Rattle.wsn_rules.proofs.PlacedBytes.{placed-append, end_is, in_order_from}
use Rattle.wsn_rules.proofs.ShownOffsets.{refused_placed}

-- Items after the offset n, which are where they say.
record ArePlacedFrom (bytes : List ℕ) (n : ℕ) (shown : List Shown) : Type 0 where
  pub piles : List (List PlacedByte)
  pub parts : AllByRecursion (IsPartOf (placed 0 bytes)) piles
  pub are_placed : ArePlaced shown piles
  pub in_order : AreInOrder (length bytes) n shown piles

nothing_placed : (bytes : List ℕ) (n : ℕ) → ArePlacedFrom bytes n []
nothing_placed bytes n = record { piles = []; parts = tt; are_placed = tt; in_order = tt }

placed_earlier : (bytes : List ℕ) (m n : ℕ) (shown : List Shown) → m ≤ n → ArePlacedFrom bytes n shown → ArePlacedFrom bytes m shown
placed_earlier bytes m n shown le p = record { piles = p.piles; parts = p.parts; are_placed = p.are_placed; in_order = in_order_from (length bytes) m n shown p.piles le p.in_order }

is_part : (bytes front piece after : List ℕ) → bytes ≡ front ++ (piece ++ after) → IsPartOf (placed 0 bytes) (placed (length front) piece)
is_part bytes front piece after whole =
    let same : 0 + length front ≡ length front = omega arith in (
      placed 0 front,
      placed (length front + length piece) after,
      ap (placed 0) whole ∙ placed-append 0 front (piece ++ after) ∙ ap (λ n. placed 0 front ++ placed n (piece ++ after)) same ∙ ap (λ (ps : List PlacedByte). placed 0 front ++ ps) (placed-append (length front) piece after),
    )

one_more : (bytes : List ℕ) (n : ℕ) (s : Shown) (shown : List Shown) (front piece after : List ℕ) → bytes ≡ front ++ (piece ++ after) → (IsEnd s.item → shown ≡ []) → is_open_message s.item ≡ false → 0 < length piece → s.after ≡ length front + length piece → n < s.after
    → IsPlaced s (placed (length front) piece) → ArePlacedFrom bytes s.after shown → ArePlacedFrom bytes n (s ∷ shown)
one_more bytes n s shown front piece after whole last closed some end later of p = record {
  piles = placed (length front) piece ∷ p.piles;
  parts = (is_part bytes front piece after whole, p.parts);
  are_placed = (of, p.are_placed);
  in_order = (last, inr (closed, end ∙ sym (end_is (length front) piece some), later, p.in_order));
}

head_some : (info : HeadInfo) → 0 < length (head_bytes info.fin info.op info.key info.form info.len)
head_some info = omega arith

-- A head at its offset.
head_placed : (info : HeadInfo) → IsEncodableHead info → IsPlaced (shown_head info) (placed info.offset (head_bytes info.fin info.op info.key info.form info.len))
head_placed info is =
    let end = end_is info.offset (head_bytes info.fin info.op info.key info.form info.len) (head_some info) in
    record { begins = refl; is_pile = (is, refl); within = omega (arith, end) }

one_head : (bytes : List ℕ) (n : ℕ) (info : HeadInfo) (shown : List Shown) (front after : List ℕ) → bytes ≡ front ++ (head_bytes info.fin info.op info.key info.form info.len ++ after) → info.offset ≡ length front → IsEncodableHead info → n ≤ length front
    → ArePlacedFrom bytes (shown_head info).after shown → ArePlacedFrom bytes n (shown_head info ∷ shown)
one_head bytes n info shown front after whole offset is from p =
    let head = head_bytes info.fin info.op info.key info.form info.len in
    let some = head_some info in
    one_more bytes n (shown_head info) shown front head after whole (λ e. absurd e) refl some (ap (λ k. k + length head) offset) (omega (arith, offset, from, some))
    (subst (λ k. IsPlaced (shown_head info) (placed k head)) offset (head_placed info is)) p

-- The heads of whole frames, and then the rest.
heads_placed : (bytes : List ℕ) (fs : List Frame) (front rest : List ℕ) (later : List Shown) (n : ℕ) → bytes ≡ front ++ (stream fs ++ rest) → AreSpellable fs → n ≤ length front → ArePlacedFrom bytes (length front + length (stream fs)) later
    → ArePlacedFrom bytes n (map shown_head (heads_from (length front) fs) ++ later)
heads_placed bytes [] front rest later n whole each from p = placed_earlier bytes n (length front + length (stream [])) later (omega (arith, from)) p
heads_placed bytes (f ∷ fs) front rest later n whole each from p =
    let head = head_bytes f.fin f.op f.key f.form (length f.payload) in
    let wire = wire_payload f.key f.payload in
    let encodable = each [] fs f refl in
    let info = info_of (length front) f in
    let next : length (front ++ frame_bytes f) ≡ length front + length (frame_bytes f) = length-append front (frame_bytes f) in
    let all : length (stream (f ∷ fs)) ≡ length (frame_bytes f) + length (stream fs) = length-append (frame_bytes f) (stream fs) in
    let own : length (frame_bytes f) ≡ length head + length wire = length-append head wire in
    let grouped : bytes ≡ (front ++ frame_bytes f) ++ (stream fs ++ rest) =
    whole ∙ ap (λ (bs : List ℕ). front ++ bs) (append_assoc (frame_bytes f) (stream fs) rest) ∙ sym (append_assoc front (frame_bytes f) (stream fs ++ rest)) in
    let end : length front + length (stream (f ∷ fs)) ≡ length (front ++ frame_bytes f) + length (stream fs) = omega (arith, next, all) in
    let others = heads_placed bytes fs (front ++ frame_bytes f) rest later (length front + length head) grouped (spellable_tail f fs each) (omega (arith, next, own)) (subst (λ k. ArePlacedFrom bytes k later) end p) in
    let moved = subst (λ k. ArePlacedFrom bytes (length front + length head) (map shown_head (heads_from k fs) ++ later)) next others in
    let parts : bytes ≡ front ++ (head ++ (wire ++ (stream fs ++ rest))) =
    whole ∙ ap (λ (bs : List ℕ). front ++ bs) (append_assoc (frame_bytes f) (stream fs) rest ∙ append_assoc head wire (stream fs ++ rest)) in
    one_head bytes n info (map shown_head (heads_from (length front + length (frame_bytes f)) fs) ++ later) front (wire ++ (stream fs ++ rest)) parts refl (record { key = encodable.key; form = encodable.form; size = encodable.size }) from moved

module _ (role : Role) (limits : Limits) (bytes : List ℕ) (fs : List Frame) where
  -- A refusal, after the offset n.
  of_refusal : (n : ℕ) (refusal : Refusal) (shown : List Shown) → IsRefused role limits bytes fs refusal.offset refusal.reason → n < refusal.offset + 1 → IsShownVerdict Frames role limits bytes fs (Refused refusal) shown → ArePlacedFrom bytes n shown
  of_refusal n refusal shown refused later is =
      let seen = refused.is_evident.seen in
      let some = evidence_is_some role limits (unfinished fs) refusal.reason seen refused.is_evident.evidence in
      subst (λ (ss : List Shown). ArePlacedFrom bytes n ss) (sym is.is)
      (one_more bytes n _ [] (stream fs) seen refused.is_evident.later refused.is_evident.whole (λ e. absurd e) refl some refused.is_evident.at_offset later (refused_placed role limits bytes fs refusal refused is.evidence is.character is.is_evidence) (nothing_placed bytes (refusal.offset + 1)))

  -- What is shown of the verdict, after an offset that all evidence comes after.
  of_verdict : (n : ℕ) (v : Verdict) (shown : List Shown) → IsVerdict role limits bytes fs v → IsShownVerdict Frames role limits bytes fs v shown → ((refusal : Refusal) → IsRefused role limits bytes fs refusal.offset refusal.reason → n < refusal.offset + 1) → ArePlacedFrom bytes n shown
  of_verdict n (Accepted summary) shown is shown_is later = subst (λ (ss : List Shown). ArePlacedFrom bytes n ss) (sym shown_is) (nothing_placed bytes n)
  of_verdict n (Cut summary) shown is shown_is later = subst (λ (ss : List Shown). ArePlacedFrom bytes n ss) (sym shown_is) (nothing_placed bytes n)
  of_verdict n (Refused refusal) shown is shown_is later = of_refusal n refusal shown is (later refusal is) shown_is

  after_frames : (refusal : Refusal) → IsRefused role limits bytes fs refusal.offset refusal.reason → length (stream fs) < refusal.offset + 1
  after_frames refusal refused =
      let some = evidence_is_some role limits (unfinished fs) refusal.reason refused.is_evident.seen refused.is_evident.evidence in
      let stops = refused.is_evident.at_offset in
      omega (arith, some, stops)

  -- Evidence comes after a head that is evidence for nothing.
  after_head : (rest : List ℕ) (whole : bytes ≡ stream fs ++ rest) (info : HeadInfo) → BeginsWithHead role limits fs rest info → (refusal : Refusal) → IsRefused role limits bytes fs refusal.offset refusal.reason → (shown_head info).after < refusal.offset + 1
  after_head rest whole info b refusal refused =
      let e = refused.is_evident in
      let rests : b.head ++ b.following ≡ e.seen ++ e.later = sym b.whole ∙ append_cancel (stream fs) rest (e.seen ++ e.later) (sym whole ∙ e.whole) in
      let stops = e.at_offset in
      let offset = b.offset in
      let head : length b.head ≡ length (head_bytes info.fin info.op info.key info.form info.len) = ap (λ (bs : List ℕ). length bs) b.encoded in
      elim (two_fronts b.head e.seen b.following e.later rests) [
        | inl p ↦ let longer = more p.0 p.1 in omega (arith, longer, stops, offset, head)
        | inr p ↦ absurd (b.has_no_evidence.none e.seen p.0 refusal.reason p.1 e.evidence)
      ]
    where
      more : (rest : List ℕ) → refused.is_evident.seen ≡ b.head ++ rest → length b.head < length refused.is_evident.seen
      more [] is =
          absurd (b.has_no_evidence.none refused.is_evident.seen [] refusal.reason (sym (append-nil refused.is_evident.seen ∙ is ∙ append-nil b.head)) refused.is_evident.evidence)
      more (x ∷ rest) is = let size : length refused.is_evident.seen ≡ length b.head + length (x ∷ rest) = ap (λ (bs : List ℕ). length bs) is ∙ length-append b.head (x ∷ rest) in omega (arith, size)

  -- The head that has begun after the frames, and the verdict.
  of_rest : (rest : List ℕ) (begun : List HeadInfo) (v : Verdict) (shown : List Shown) → bytes ≡ stream fs ++ rest → IsBegun role limits fs rest begun → IsVerdict role limits bytes fs v → IsShownVerdict Frames role limits bytes fs v shown
      → ArePlacedFrom bytes (length (stream fs)) (map shown_head begun ++ shown)
  of_rest rest begun v shown whole (inl none) is shown_is =
      subst (λ (hs : List HeadInfo). ArePlacedFrom bytes (length (stream fs)) (map shown_head hs ++ shown)) (sym none.0) (of_verdict (length (stream fs)) v shown is shown_is after_frames)
  of_rest rest begun v shown whole (inr (inl none)) is shown_is =
      subst (λ (hs : List HeadInfo). ArePlacedFrom bytes (length (stream fs)) (map shown_head hs ++ shown)) (sym none.0) (of_verdict (length (stream fs)) v shown is shown_is after_frames)
  of_rest rest begun v shown whole (inr (inr some)) is shown_is =
      let info = some.1.0 in
      let b = some.1.2 in
      let n = length (stream fs) in
      let parts : bytes ≡ stream fs ++ (head_bytes info.fin info.op info.key info.form info.len ++ b.following) =
      whole ∙ ap (λ (bs : List ℕ). stream fs ++ bs) (b.whole ∙ ap (λ (bs : List ℕ). bs ++ b.following) b.encoded) in
      subst (λ (hs : List HeadInfo). ArePlacedFrom bytes n (map shown_head hs ++ shown)) (sym some.1.1)
      (one_head bytes n info shown (stream fs) b.following parts b.offset (encodable_begun role limits fs rest info b) (omega arith)
      (of_verdict (shown_head info).after v shown is shown_is (after_head rest whole info b)))

module _ (role : Role) (limits : Limits) where
  pub heads_in_place : (bytes : List ℕ) (shown : List Shown) → IsShownStream Frames role limits bytes shown → AreHeadsInPlace bytes shown
  heads_in_place bytes shown p =
      let fs = p.frames in
      let heads = p.are_of_frames.1 in
      let later = of_rest role limits bytes fs heads.rest heads.begun p.verdict p.of_verdict heads.whole heads.is_begun p.is_verdict p.is_of_verdict in
      let same : length (stream fs) ≡ length {A = ℕ} [] + length (stream fs) = omega arith in
      let all = heads_placed bytes fs [] heads.rest (map shown_head heads.begun ++ p.of_verdict) 0 heads.whole (spellable_of_lawful role limits fs heads.lawful) (omega arith) (subst (λ k. ArePlacedFrom bytes k (map shown_head heads.begun ++ p.of_verdict)) same later) in
      let each : shown ≡ map shown_head (heads_of fs) ++ (map shown_head heads.begun ++ p.of_verdict) =
      p.all ∙ ap (λ (ss : List Shown). ss ++ p.of_verdict) (p.are_of_frames.2 ∙ ap (map shown_head) heads.all ∙ map-append shown_head (heads_of fs) heads.begun)
      ∙ append_assoc (map shown_head (heads_of fs)) (map shown_head heads.begun) p.of_verdict in
      subst (AreHeadsInPlace bytes) (sym each) (record { piles = all.piles; parts = all.parts; are_placed = all.are_placed; in_order = all.in_order })
