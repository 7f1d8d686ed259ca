-- Bytes and frames at their offsets, and how they are dealt to the items of a stream.
use Rattle.std.proofs.Common.{◌≡◌, ℕ, ◌+◌, ◌<◌, ◌≤◌, Bool, true, false, List, [], ◌∷◌, ◌++◌, ◌⊎◌, length, map, if◌then◌else◌, refl, sym, ap, ◌∙◌, subst, inl, inr, append-nil, append_assoc, arith}
use Rattle.std.proofs.lemmas.Bool.{cases_Bool, cond-true, cond-false}
use Rattle.std.proofs.lemmas.List.{map-append}
use Rattle.std.proofs.lemmas.List.Concat.{flat_map-append}
use Rattle.wsn_wire.specs.Frame.{Frame, frame_bytes}
use Rattle.wsn_rules.specs.Meaning.{Message, Control}
use Rattle.wsn_rules.specs.ShownOffsets.{AreDealt}
use Rattle.wsn_rules.specs.BadCharacter.{PlacedByte, placed}
use Rattle.wsn_rules.specs.ShownOffsets.{end_or, end_of, PlacedFrame, frames_in, placed_frames, IsPlaced, ArePlaced, is_open_message, IsShownWithNext, IsEnd, AreInOrder}
use Rattle.wsn_rules.specs.ShownStream.{Item, Shown}
use Rattle.wsn_rules.specs.ShownStream.Item.{Event, Head, Unfinished, UnfinishedHead, RefusedFrame, Unread, Tail}
use Rattle.wsn_rules.proofs.Prefixes.{nil-push}

-- ---- dealing

module _ {A : Type 0} where
  deal_empty : (xs : List A) (piles : List (List A)) → AreDealt xs piles → AreDealt xs ([] ∷ piles)
  deal_empty [] piles d = (refl, d)
  deal_empty (x ∷ xs) piles d =
      ([] ∷ d.0, d.1, d.2, ap (λ (ps : List (List A)). [] ∷ ps) d.3, deal_empty xs (d.0 ++ d.1 ∷ d.2) d.4)

  -- Several elements go to one pile.
  deal_all : (chunk xs : List A) (before : List (List A)) (pile : List A) (after : List (List A)) → AreDealt xs (before ++ pile ∷ after) → AreDealt (chunk ++ xs) (before ++ (chunk ++ pile) ∷ after)
  deal_all [] xs before pile after d = d
  deal_all (x ∷ chunk) xs before pile after d = (before, chunk ++ pile, after, refl, deal_all chunk xs before pile after d)

  -- Several elements are a pile of their own.
  deal_pile : (chunk xs : List A) (piles : List (List A)) → AreDealt xs piles → AreDealt (chunk ++ xs) (chunk ∷ piles)
  deal_pile chunk xs piles d =
      subst (λ (pile : List A). AreDealt (chunk ++ xs) (pile ∷ piles)) (append-nil chunk) (deal_all chunk xs [] [] piles (deal_empty xs piles d))

-- ---- bytes and frames at their offsets

pub placed-append : (n : ℕ) (xs ys : List ℕ) → placed n (xs ++ ys) ≡ placed n xs ++ placed (n + length xs) ys
placed-append n [] ys = let same : n ≡ n + length {A = ℕ} [] = omega arith in ap (λ k. placed k ys) same
placed-append n (x ∷ xs) ys =
    let first : PlacedByte = record { offset = n; byte = x } in
    let same : (n + 1) + length xs ≡ n + length (x ∷ xs) = omega arith in
    ap (λ (ps : List PlacedByte). first ∷ ps) (placed-append (n + 1) xs ys ∙ ap (λ k. placed (n + 1) xs ++ placed k ys) same)

-- The bytes without their offsets.
pub bytes_of_placed : (n : ℕ) (bytes : List ℕ) → map (λ (b : PlacedByte). b.byte) (placed n bytes) ≡ bytes
bytes_of_placed n [] = refl
bytes_of_placed n (b ∷ bytes) = ap (λ (bs : List ℕ). b ∷ bs) (bytes_of_placed (n + 1) bytes)

end_or-append : (n : ℕ) (xs ys : List PlacedByte) → end_or n (xs ++ ys) ≡ end_or (end_or n xs) ys
end_or-append n [] ys = refl
end_or-append n (x ∷ xs) ys = end_or-append (x.offset + 1) xs ys

-- Bytes before others don't change where these end.
pub same_end : (n : ℕ) (xs ys : List PlacedByte) → n < end_of ys → end_of (xs ++ ys) ≡ end_of ys
same_end n xs [] some = absurd (omega (arith, some))
same_end n xs (y ∷ ys) some = end_or-append 0 xs (y ∷ ys)

end_of_placed : (n : ℕ) (xs : List ℕ) → end_or n (placed n xs) ≡ n + length xs
end_of_placed n [] = omega arith
end_of_placed n (x ∷ xs) = let rest = end_of_placed (n + 1) xs in omega (arith, rest)

-- The end of bytes in one piece.
pub end_is : (n : ℕ) (xs : List ℕ) → 0 < length xs → end_of (placed n xs) ≡ n + length xs
end_is n [] some = absurd (omega (arith, some))
end_is n (x ∷ xs) some = end_of_placed n (x ∷ xs)

-- The end of a piece after others.
pub end_with : (held : List PlacedByte) (n : ℕ) (xs : List ℕ) → 0 < length xs → end_of (held ++ placed n xs) ≡ n + length xs
end_with held n xs some = let end = end_is n xs some in same_end n held (placed n xs) (omega (arith, end, some)) ∙ end

pub frames_in-push : (held : List PlacedFrame) (f : PlacedFrame) → frames_in (held ++ f ∷ []) ≡ frames_in held ++ f.frame ∷ []
frames_in-push held f = map-append (λ (g : PlacedFrame). g.frame) held (f ∷ [])

pub placed_frames-push : (held : List PlacedFrame) (f : PlacedFrame) → placed_frames (held ++ f ∷ []) ≡ placed_frames held ++ placed f.offset (frame_bytes f.frame)
placed_frames-push held f =
    flat_map-append (λ (g : PlacedFrame). placed g.offset (frame_bytes g.frame)) held (f ∷ [])
    ∙ ap (λ (ps : List PlacedByte). placed_frames held ++ ps) (append-nil (placed f.offset (frame_bytes f.frame)))

-- ---- the order

module _ (total : ℕ) where
  pub in_order_from : (m n : ℕ) (shown : List Shown) (piles : List (List PlacedByte)) → m ≤ n → AreInOrder total n shown piles → AreInOrder total m shown piles
  in_order_from m n [] [] le o = tt
  in_order_from m n [] (pile ∷ piles) le o = absurd o
  in_order_from m n (s ∷ shown) [] le o = absurd o
  in_order_from m n (s ∷ shown) (pile ∷ piles) le (last, inl o) = (last, inl (o.0, o.1, in_order_from m n shown piles le o.2))
  in_order_from m n (s ∷ shown) (pile ∷ piles) le (last, inr o) = let later = o.2 in (last, inr (o.0, o.1, omega (arith, later, le), o.3))

  -- More bytes at the front of a pile don't change the order.
  in_order_with : (chunk : List PlacedByte) (n : ℕ) (shown : List Shown) (before : List (List PlacedByte)) (pile : List PlacedByte) (after : List (List PlacedByte)) → AreInOrder total n shown (before ++ pile ∷ after) → AreInOrder total n shown (before ++ (chunk ++ pile) ∷ after)
  in_order_with chunk n [] [] pile after o = absurd o
  in_order_with chunk n [] (b ∷ before) pile after o = absurd o
  in_order_with chunk n (s ∷ shown) [] pile after (last, inl o) = (last, inl o)
  in_order_with chunk n (s ∷ shown) [] pile after (last, inr o) =
      (last, inr (o.0, o.1 ∙ sym (same_end n chunk pile (subst (λ k. n < k) o.1 o.2)), o.2, o.3))
  in_order_with chunk n (s ∷ shown) (b ∷ before) pile after (last, inl o) = (last, inl (o.0, o.1, in_order_with chunk n shown before pile after o.2))
  in_order_with chunk n (s ∷ shown) (b ∷ before) pile after (last, inr o) = (last, inr (o.0, o.1, o.2, in_order_with chunk s.after shown before pile after o.3))

-- ---- what is held of an open message goes to the first item that shows it

-- The item shows the open message.
abbrev pub takes : Item → Bool
takes (Event offset (Message kind payload) count) = true
takes (Event offset (Control op body) count) = false
takes (Unfinished offset (Message kind payload) count lacks) = true
takes (Unfinished offset (Control op body) count lacks) = false
takes (Head info) = false
takes (UnfinishedHead offset) = false
takes (RefusedFrame offset refusal evidence character) = false
takes (Unread offset all) = false
takes (Tail offset all) = false

-- With the frames that are held of the open message, each pile is placed as its item says.
abbrev pub ArePlacedAfter : List PlacedFrame → List Shown → List (List PlacedByte) → Type 0
ArePlacedAfter held [] [] = held ≡ []
ArePlacedAfter held [] (pile ∷ piles) = ⊥
ArePlacedAfter held (s ∷ shown) [] = ⊥
ArePlacedAfter held (s ∷ shown) (pile ∷ piles) =
    IsPlaced s (placed_frames (if takes s.item then held else []) ++ pile) × ArePlacedAfter (if takes s.item then [] else held) shown piles

-- The bytes from the offset n on are dealt to the items.
pub record Dealt (total n : ℕ) (held : List PlacedFrame) (shown : List Shown) (bytes : List ℕ) : Type 0 where
  pub piles : List (List PlacedByte)
  pub dealt : AreDealt (placed n bytes) piles
  pub have : ArePlacedAfter held shown piles
  pub order : AreInOrder total n shown piles

pub nothing_dealt : (total n : ℕ) → Dealt total n [] [] []
nothing_dealt total n = record { piles = []; dealt = tt; have = refl; order = tt }

-- A piece of its own.
piece_dealt : (n : ℕ) (chunk rest : List ℕ) (piles : List (List PlacedByte)) → AreDealt (placed (n + length chunk) rest) piles → AreDealt (placed n (chunk ++ rest)) (placed n chunk ∷ piles)
piece_dealt n chunk rest piles d =
    subst (λ (ps : List PlacedByte). AreDealt ps (placed n chunk ∷ piles)) (sym (placed-append n chunk rest)) (deal_pile (placed n chunk) (placed (n + length chunk) rest) piles d)

-- An item that isn't an open message ends with its piece.
ends_with_piece : (total n : ℕ) (s : Shown) (shown : List Shown) (chunk : List ℕ) (piles : List (List PlacedByte)) → (IsEnd s.item → shown ≡ []) → is_open_message s.item ≡ false → 0 < length chunk → s.after ≡ n + length chunk → AreInOrder total (n + length chunk) shown piles
    → AreInOrder total n (s ∷ shown) (placed n chunk ∷ piles)
ends_with_piece total n s shown chunk piles end whole some last o =
    (end, inr (whole, last ∙ sym (end_is n chunk some), omega (arith, last, some), subst (λ k. AreInOrder total k shown piles) (sym last) o))

-- An item that doesn't show the open message.
pub other_item : (total n : ℕ) (held : List PlacedFrame) (s : Shown) (shown : List Shown) (chunk rest : List ℕ) → takes s.item ≡ false → (IsEnd s.item → shown ≡ []) → is_open_message s.item ≡ false → 0 < length chunk → s.after ≡ n + length chunk → IsPlaced s (placed n chunk)
    → Dealt total (n + length chunk) held shown rest → Dealt total n held (s ∷ shown) (chunk ++ rest)
other_item total n held s shown chunk rest fails end whole some last of d = record {
  piles = placed n chunk ∷ d.piles;
  dealt = piece_dealt n chunk rest d.piles d.dealt;
  have = (
    subst (λ (fs : List PlacedFrame). IsPlaced s (placed_frames fs ++ placed n chunk)) (sym (cond-false (takes s.item) held [] fails)) of,
    subst (λ (fs : List PlacedFrame). ArePlacedAfter fs shown d.piles) (sym (cond-false (takes s.item) [] held fails)) d.have,
  );
  order = ends_with_piece total n s shown chunk d.piles end whole some last d.order;
}

-- The item that shows it.
pub its_item : (total n : ℕ) (held : List PlacedFrame) (s : Shown) (shown : List Shown) (chunk rest : List ℕ) → takes s.item ≡ true → (IsEnd s.item → shown ≡ [])
    → ((is_open_message s.item ≡ true) × IsShownWithNext total s.after shown) ⊎ ((is_open_message s.item ≡ false) × (0 < length chunk) × (s.after ≡ n + length chunk)) → IsPlaced s (placed_frames held ++ placed n chunk)
    → Dealt total (n + length chunk) [] shown rest → Dealt total n held (s ∷ shown) (chunk ++ rest)
its_item total n held s shown chunk rest holds end kind of d = record {
  piles = placed n chunk ∷ d.piles;
  dealt = piece_dealt n chunk rest d.piles d.dealt;
  have = (
    subst (λ (fs : List PlacedFrame). IsPlaced s (placed_frames fs ++ placed n chunk)) (sym (cond-true (takes s.item) held [] holds)) of,
    subst (λ (fs : List PlacedFrame). ArePlacedAfter fs shown d.piles) (sym (cond-true (takes s.item) [] held holds)) d.have,
  );
  order = by kind;
}
  where
    by : ((is_open_message s.item ≡ true) × IsShownWithNext total s.after shown) ⊎ ((is_open_message s.item ≡ false) × (0 < length chunk) × (s.after ≡ n + length chunk)) → AreInOrder total n (s ∷ shown) (placed n chunk ∷ d.piles)
    by (inl p) = (end, inl (p.0, p.1, in_order_from total n (n + length chunk) shown d.piles (omega arith) d.order))
    by (inr p) = ends_with_piece total n s shown chunk d.piles end p.0 p.1 p.2 d.order

-- Where a fragment goes.
record Found (held : List PlacedFrame) (f : PlacedFrame) (shown : List Shown) (piles : List (List PlacedByte)) : Type 0 where
  pub before : List (List PlacedByte)
  pub pile : List PlacedByte
  pub after : List (List PlacedByte)
  pub is : piles ≡ before ++ pile ∷ after
  pub have : ArePlacedAfter held shown (before ++ (placed f.offset (frame_bytes f.frame) ++ pile) ∷ after)

find : (held : List PlacedFrame) (f : PlacedFrame) (shown : List Shown) (piles : List (List PlacedByte)) → ArePlacedAfter (held ++ f ∷ []) shown piles → Found held f shown piles
find held f [] [] have = absurd (nil-push held f [] (sym have))
find held f [] (pile ∷ piles) have = absurd have
find held f (s ∷ shown) [] have = absurd have
find held f (s ∷ shown) (pile ∷ piles) have =
    let own = placed f.offset (frame_bytes f.frame) in
    elim (cases_Bool (takes s.item)) [
      | inl holds ↦
          let bytes : placed_frames (if takes s.item then held ++ f ∷ [] else []) ++ pile ≡ placed_frames (if takes s.item then held else []) ++ (own ++ pile) =
          ap (λ (fs : List PlacedFrame). placed_frames fs ++ pile) (cond-true (takes s.item) (held ++ f ∷ []) [] holds) ∙ ap (λ (bs : List PlacedByte). bs ++ pile) (placed_frames-push held f)
          ∙ append_assoc (placed_frames held) own pile ∙ sym (ap (λ (fs : List PlacedFrame). placed_frames fs ++ (own ++ pile)) (cond-true (takes s.item) held [] holds)) in
          record {
            before = [];
            pile = pile;
            after = piles;
            is = refl;
            have = (
              subst (IsPlaced s) bytes have.0,
              subst (λ (fs : List PlacedFrame). ArePlacedAfter fs shown piles) (cond-true (takes s.item) [] (held ++ f ∷ []) holds ∙ sym (cond-true (takes s.item) [] held holds)) have.1,
            );
          }
      | inr fails ↦
          let later = find held f shown piles (subst (λ (fs : List PlacedFrame). ArePlacedAfter fs shown piles) (cond-false (takes s.item) [] (held ++ f ∷ []) fails) have.1) in
          record {
            before = pile ∷ later.before;
            pile = later.pile;
            after = later.after;
            is = ap (λ (ps : List (List PlacedByte)). pile ∷ ps) later.is;
            have = (
              subst (λ (fs : List PlacedFrame). IsPlaced s (placed_frames fs ++ pile)) (cond-false (takes s.item) (held ++ f ∷ []) [] fails ∙ sym (cond-false (takes s.item) held [] fails)) have.0,
              subst (λ (fs : List PlacedFrame). ArePlacedAfter fs shown (later.before ++ (own ++ later.pile) ∷ later.after)) (sym (cond-false (takes s.item) [] held fails)) later.have,
            );
          }
    ]

-- A frame at the offset n.
abbrev pub at : ℕ → Frame → PlacedFrame
at n f = record { offset = n; frame = f }

pub fragment : (total n : ℕ) (held : List PlacedFrame) (f : Frame) (shown : List Shown) (rest : List ℕ) → Dealt total (n + length (frame_bytes f)) (held ++ at n f ∷ []) shown rest → Dealt total n held shown (frame_bytes f ++ rest)
fragment total n held f shown rest d =
    let found = find held (at n f) shown d.piles d.have in
    let own = placed n (frame_bytes f) in
    record {
      piles = found.before ++ (own ++ found.pile) ∷ found.after;
      dealt =
          subst (λ (ps : List PlacedByte). AreDealt ps (found.before ++ (own ++ found.pile) ∷ found.after)) (sym (placed-append n (frame_bytes f) rest))
          (deal_all own (placed (n + length (frame_bytes f)) rest) found.before found.pile found.after (subst (AreDealt (placed (n + length (frame_bytes f)) rest)) found.is d.dealt));
      have = found.have;
      order =
          in_order_with total own n shown found.before found.pile found.after
          (in_order_from total n (n + length (frame_bytes f)) shown (found.before ++ found.pile ∷ found.after) (omega arith) (subst (AreInOrder total (n + length (frame_bytes f)) shown) found.is d.order));
    }

-- At the start nothing is held.
pub all_placed : (shown : List Shown) (piles : List (List PlacedByte)) → ArePlacedAfter [] shown piles → ArePlaced shown piles
all_placed [] [] have = tt
all_placed [] (pile ∷ piles) have = absurd have
all_placed (s ∷ shown) [] have = absurd have
all_placed (s ∷ shown) (pile ∷ piles) have =
    elim (cases_Bool (takes s.item)) [
      | inl holds ↦ (
        subst (λ (fs : List PlacedFrame). IsPlaced s (placed_frames fs ++ pile)) (cond-true (takes s.item) [] [] holds) have.0,
        all_placed shown piles (subst (λ (fs : List PlacedFrame). ArePlacedAfter fs shown piles) (cond-true (takes s.item) [] [] holds) have.1),
      )
      | inr fails ↦ (
        subst (λ (fs : List PlacedFrame). IsPlaced s (placed_frames fs ++ pile)) (cond-false (takes s.item) [] [] fails) have.0,
        all_placed shown piles (subst (λ (fs : List PlacedFrame). ArePlacedAfter fs shown piles) (cond-false (takes s.item) [] [] fails) have.1),
      )
    ]
