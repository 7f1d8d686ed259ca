-- The payload of the open message with offsets: its bytes, how it continues by a frame, and where each byte is.
use Rattle.std.proofs.Common.{◌≡◌, ℕ, zero, suc, ◌+◌, ◌-◌, ◌<◌, ◌≤◌, Bool, true, false, ◌&&◌, List, [], ◌∷◌, ◌++◌, length, drop, filter, if◌then◌else◌, refl, sym, ap, ◌∙◌, subst, inl, inr, append_assoc, append-nil, length-append, length-drop, arith}
use Rattle.std.proofs.lemmas.List.{drop_at, drop_all, drop-map, drop-append-le, length-map, map-append}
use Rattle.std.proofs.lemmas.List.Concat.{flat_map-append}
use Rattle.std.proofs.lemmas.Bool.{cases_Bool, cond-true, cond-false}
use Rattle.std.specs.List.{AllByRecursion, fold}
use Rattle.wsn_text.proofs.Numbers.{less_or_not}
use Rattle.wsn_wire.specs.Frame.{Frame, stream, head_bytes, frame_bytes}
use Rattle.wsn_rules.specs.declared.head_info.HeadInfo.{HeadInfo}
use Rattle.wsn_rules.specs.Group.{is_data, with_frame, unfinished, payload_of}
use Rattle.wsn_rules.specs.Heads.{info_of}
use Rattle.wsn_rules.specs.Summary.{ends_message}
use Rattle.wsn_rules.specs.BadCharacter.{PlacedByte, placed, IsPayloadByte, payload_offset, placed_payloads, last_of, open_payload, message_payload, first_offset, bytes_of}
use Rattle.wsn_rules.proofs.AllOfList.{all_push, all_front}
use Rattle.wsn_rules.proofs.Prefixes.{head_same, tail_same, two_fronts}
use Rattle.wsn_rules.proofs.Groups.{unfinished_control, unfinished_final, unfinished_more}
use Rattle.wsn_rules.proofs.MessageText.{text_of_push}

-- ---- the bytes without offsets

bytes_of-placed : (offset : ℕ) (bytes : List ℕ) → bytes_of (placed offset bytes) ≡ bytes
bytes_of-placed offset [] = refl
bytes_of-placed offset (b ∷ bytes) = ap (λ (bs : List ℕ). b ∷ bs) (bytes_of-placed (offset + 1) bytes)

pub bytes_of-append : (xs ys : List PlacedByte) → bytes_of (xs ++ ys) ≡ bytes_of xs ++ bytes_of ys
bytes_of-append xs ys = map-append (λ (b : PlacedByte). b.byte) xs ys

pub length-bytes_of : (xs : List PlacedByte) → length (bytes_of xs) ≡ length xs
length-bytes_of xs = length-map xs (λ (b : PlacedByte). b.byte)

pub bytes_of-drop : (n : ℕ) (xs : List PlacedByte) → bytes_of (drop n xs) ≡ drop n (bytes_of xs)
bytes_of-drop n xs = sym (drop-map (λ (b : PlacedByte). b.byte) n xs)

bytes_of-payloads : (offset : ℕ) (fs : List Frame) → bytes_of (placed_payloads offset fs) ≡ payload_of (filter is_data fs)
bytes_of-payloads offset [] = refl
bytes_of-payloads offset (f ∷ fs) =
    let n = offset + length (frame_bytes f) in
    let here = placed (payload_offset (info_of offset f)) f.payload in
    bytes_of-append (if is_data f then here else []) (placed_payloads n fs)
    ∙ ap (λ (bs : List ℕ). bytes_of (if is_data f then here else []) ++ bs) (bytes_of-payloads n fs)
    ∙ elim (cases_Bool (is_data f)) [
      | inl kept ↦
          ap (λ (ps : List PlacedByte). bytes_of ps ++ payload_of (filter is_data fs)) (cond-true (is_data f) here [] kept)
          ∙ ap (λ (bs : List ℕ). bs ++ payload_of (filter is_data fs)) (bytes_of-placed (payload_offset (info_of offset f)) f.payload)
          ∙ ap payload_of (sym (cond-true (is_data f) (f ∷ filter is_data fs) (filter is_data fs) kept))
      | inr left_out ↦
          ap (λ (ps : List PlacedByte). bytes_of ps ++ payload_of (filter is_data fs)) (cond-false (is_data f) here [] left_out)
          ∙ ap payload_of (sym (cond-false (is_data f) (f ∷ filter is_data fs) (filter is_data fs) left_out))
    ]

-- The data frames end with those of the unfinished message, after these.
abbrev EndWith : List Frame → List Frame → List Frame → Type 0
EndWith fs data_frames group = (before : List Frame) × (data_frames ≡ before ++ fold with_frame group fs)

data_frames_end : (fs group : List Frame) → EndWith fs (group ++ filter is_data fs) group
data_frames_end [] group = ([], append-nil group)
data_frames_end (f ∷ fs) group = by (is_data f) f.fin (data_frames_end fs [], data_frames_end fs (group ++ f ∷ []), data_frames_end fs group)
  where
    by : (data_frame final : Bool) → EndWith fs (filter is_data fs) [] × EndWith fs ((group ++ f ∷ []) ++ filter is_data fs) (group ++ f ∷ []) × EndWith fs (group ++ filter is_data fs) group
        → EndWith fs (group ++ (if data_frame then f ∷ filter is_data fs else filter is_data fs)) (if data_frame then (if final then [] else group ++ f ∷ []) else group)
    by true true ends = (group ++ f ∷ ends.0.0, ap (λ (hs : List Frame). group ++ f ∷ hs) ends.0.1 ∙ sym (append_assoc group (f ∷ ends.0.0) (unfinished fs)))
    by true false ends = (ends.1.0, sym (append_assoc group (f ∷ []) (filter is_data fs)) ∙ ends.1.1)
    by false final ends = ends.2

record IsAtEnd (fs : List Frame) : Type 0 where
  earlier : List Frame
  bytes : bytes_of (placed_payloads 0 fs) ≡ payload_of earlier ++ payload_of (unfinished fs)
  size : length (placed_payloads 0 fs) ≡ length (payload_of earlier) + length (payload_of (unfinished fs))

is_at_end : (fs : List Frame) → IsAtEnd fs
is_at_end fs =
    let all = placed_payloads 0 fs in
    let parts = data_frames_end fs [] in
    let bytes : bytes_of all ≡ payload_of parts.0 ++ payload_of (unfinished fs) =
    bytes_of-payloads 0 fs ∙ ap payload_of parts.1 ∙ flat_map-append (λ (f : Frame). f.payload) parts.0 (unfinished fs) in
    record { earlier = parts.0; bytes = bytes; size = sym (length-bytes_of all) ∙ ap (λ (bs : List ℕ). length bs) bytes ∙ length-append (payload_of parts.0) (payload_of (unfinished fs)) }

pub bytes_of-open : (fs : List Frame) → bytes_of (open_payload fs) ≡ payload_of (unfinished fs)
bytes_of-open fs =
    let all = placed_payloads 0 fs in
    let n = length all - length (payload_of (unfinished fs)) in
    let end = is_at_end fs in
    let size = end.size in
    bytes_of-drop n all ∙ ap (λ (bs : List ℕ). drop n bs) end.bytes ∙ drop_at (payload_of end.earlier) (payload_of (unfinished fs)) n (omega (arith, size))

pub length-open : (fs : List Frame) → length (open_payload fs) ≡ length (payload_of (unfinished fs))
length-open fs = sym (length-bytes_of (open_payload fs)) ∙ ap (λ (bs : List ℕ). length bs) (bytes_of-open fs)

length-placed : (offset : ℕ) (bytes : List ℕ) → length (placed offset bytes) ≡ length bytes
length-placed offset bytes = sym (length-bytes_of (placed offset bytes)) ∙ ap (λ (bs : List ℕ). length bs) (bytes_of-placed offset bytes)

pub payload_so_far : (fs : List Frame) (info : HeadInfo) (part : List ℕ) → bytes_of (message_payload fs info part) ≡ payload_of (unfinished fs) ++ part
payload_so_far fs info part =
    let own = placed (payload_offset info) part in
    bytes_of-append (open_payload fs) own
    ∙ ap (λ (bs : List ℕ). bs ++ bytes_of own) (bytes_of-open fs)
    ∙ ap (λ (bs : List ℕ). payload_of (unfinished fs) ++ bs) (bytes_of-placed (payload_offset info) part)

-- ---- one frame more

abbrev own_payload : ℕ → Frame → List PlacedByte
own_payload offset f = placed (payload_offset (info_of offset f)) f.payload

payloads_push : (offset : ℕ) (fs : List Frame) (f : Frame) → placed_payloads offset (fs ++ f ∷ []) ≡ placed_payloads offset fs ++ (if is_data f then own_payload (offset + length (stream fs)) f else [])
payloads_push offset [] f =
    let same : offset ≡ offset + length (stream []) = omega arith in
    append-nil (if is_data f then own_payload offset f else []) ∙ ap (λ (n : ℕ). if is_data f then own_payload n f else []) same
payloads_push offset (g ∷ fs) f =
    let here = if is_data g then own_payload offset g else [] in
    let n = offset + length (frame_bytes g) in
    let size = length-append (frame_bytes g) (stream fs) in
    let same : n + length (stream fs) ≡ offset + length (stream (g ∷ fs)) = omega (arith, size) in
    ap (λ (ps : List PlacedByte). here ++ ps) (payloads_push n fs f ∙ ap (λ (m : ℕ). placed_payloads n fs ++ (if is_data f then own_payload m f else [])) same)
    ∙ sym (append_assoc here (placed_payloads n fs) (if is_data f then own_payload (offset + length (stream (g ∷ fs))) f else []))

pub open_after_control : (fs : List Frame) (f : Frame) → is_data f ≡ false → open_payload (fs ++ f ∷ []) ≡ open_payload fs
open_after_control fs f left_out =
    let all : placed_payloads 0 (fs ++ f ∷ []) ≡ placed_payloads 0 fs =
    payloads_push 0 fs f ∙ ap (λ (ps : List PlacedByte). placed_payloads 0 fs ++ ps) (cond-false (is_data f) (own_payload (0 + length (stream fs)) f) [] left_out) ∙ append-nil (placed_payloads 0 fs) in
    ap (λ (ps : List PlacedByte). last_of (length (payload_of (unfinished (fs ++ f ∷ [])))) ps) all
    ∙ ap (λ (group : List Frame). last_of (length (payload_of group)) (placed_payloads 0 fs)) (unfinished_control fs f left_out)

pub open_after_final : (fs : List Frame) (f : Frame) → is_data f ≡ true → f.fin ≡ true → open_payload (fs ++ f ∷ []) ≡ []
open_after_final fs f kept final =
    let all = placed_payloads 0 (fs ++ f ∷ []) in
    ap (λ (group : List Frame). last_of (length (payload_of group)) all) (unfinished_final fs f kept final) ∙ drop_all (length all - 0) all (omega arith)

pub open_after_fragment : (fs : List Frame) (f : Frame) → is_data f ≡ true → f.fin ≡ false → open_payload (fs ++ f ∷ []) ≡ open_payload fs ++ placed (payload_offset (info_of (length (stream fs)) f)) f.payload
open_after_fragment fs f kept more =
    let earlier = placed_payloads 0 fs in
    let own = own_payload (length (stream fs)) f in
    let group = payload_of (unfinished fs) in
    let here : 0 + length (stream fs) ≡ length (stream fs) = omega arith in
    let all : placed_payloads 0 (fs ++ f ∷ []) ≡ earlier ++ own =
    payloads_push 0 fs f ∙ ap (λ (ps : List PlacedByte). earlier ++ ps) (cond-true (is_data f) (own_payload (0 + length (stream fs)) f) [] kept) ∙ ap (λ (n : ℕ). earlier ++ own_payload n f) here in
    let bytes : payload_of (unfinished (fs ++ f ∷ [])) ≡ group ++ f.payload = ap payload_of (unfinished_more fs f kept more) ∙ text_of_push (unfinished fs) f in
    let count : length (payload_of (unfinished (fs ++ f ∷ []))) ≡ length group + length f.payload = ap (λ (bs : List ℕ). length bs) bytes ∙ length-append group f.payload in
    let size = length-append earlier own in
    let own_size = length-placed (payload_offset (info_of (length (stream fs)) f)) f.payload in
    let within = (is_at_end fs).size in
    let at : length (earlier ++ own) - length (payload_of (unfinished (fs ++ f ∷ []))) ≡ length earlier - length group = omega (arith, count, size, own_size, within) in
    ap (λ (ps : List PlacedByte). last_of (length (payload_of (unfinished (fs ++ f ∷ [])))) ps) all
    ∙ ap (λ (n : ℕ). drop n (earlier ++ own)) at
    ∙ drop-append-le (length earlier - length group) earlier own (omega (arith, within))

-- ---- where each byte is

pub first_at : (offset n : ℕ) (bytes : List ℕ) → n < length bytes → first_offset (drop n (placed offset bytes)) ≡ offset + n
first_at offset n [] less = absurd (omega (arith, less))
first_at offset zero (b ∷ bytes) less = omega arith
first_at offset (suc n) (b ∷ bytes) less = let later = first_at (offset + 1) n bytes (omega (arith, less)) in omega (arith, later)

pub drop_past : (xs ys : List PlacedByte) (n : ℕ) → length xs ≤ n → drop n (xs ++ ys) ≡ drop (n - length xs) ys
drop_past [] ys n long = ap (λ (m : ℕ). drop m ys) (omega arith)
drop_past (x ∷ xs) ys zero long = absurd (omega (arith, long))
drop_past (x ∷ xs) ys (suc n) long = drop_past xs ys n (omega (arith, long)) ∙ ap (λ (m : ℕ). drop m ys) (omega arith)

first_of_front : (xs ys : List PlacedByte) → 0 < length xs → first_offset (xs ++ ys) ≡ first_offset xs
first_of_front [] ys some = absurd (omega (arith, some))
first_of_front (x ∷ xs) ys some = refl

pub first_in_front : (n : ℕ) (xs ys : List PlacedByte) → n < length xs → first_offset (drop n (xs ++ ys)) ≡ first_offset (drop n xs)
first_in_front n xs ys less =
    ap first_offset (drop-append-le n xs ys (omega (arith, less))) ∙ first_of_front (drop n xs) ys (omega (arith, less, length-drop n xs))

-- It stays a byte of the open message if no frame ends it.
byte_stays : (fs : List Frame) (f : Frame) (index offset : ℕ) → ends_message f ≡ false → IsPayloadByte fs index offset → IsPayloadByte (fs ++ f ∷ []) index offset
byte_stays fs f index offset goes_on p = record {
  before = p.before;
  frame = p.frame;
  after = p.after ++ f ∷ [];
  k = p.k;
  whole = ap (λ (gs : List Frame). gs ++ f ∷ []) p.whole ∙ append_assoc p.before (p.frame ∷ p.after) (f ∷ []);
  data_frame = p.data_frame;
  goes_on = all_push (λ (g : Frame). ends_message g ≡ false) (p.frame ∷ p.after) f p.goes_on goes_on;
  within = p.within;
  index_is = p.index_is;
  offset_is = p.offset_is;
}

abbrev AreBytes : List Frame → Type 0
AreBytes fs = (n : ℕ) → n < length (open_payload fs) → IsPayloadByte fs n (first_offset (drop n (open_payload fs)))

module _ (fs : List Frame) (f : Frame) (earlier : AreBytes fs) where
  after_control : is_data f ≡ false → AreBytes (fs ++ f ∷ [])
  after_control left_out =
      let same = open_after_control fs f left_out in
      λ n less. subst (λ (ps : List PlacedByte). IsPayloadByte (fs ++ f ∷ []) n (first_offset (drop n ps))) (sym same)
      (byte_stays fs f n (first_offset (drop n (open_payload fs))) (ap (λ (b : Bool). b && f.fin) left_out) (earlier n (subst (λ (ps : List PlacedByte). n < length ps) same less)))

  after_final : is_data f ≡ true → f.fin ≡ true → AreBytes (fs ++ f ∷ [])
  after_final kept final n less =
      let none : length (open_payload (fs ++ f ∷ [])) ≡ 0 = ap (λ (ps : List PlacedByte). length ps) (open_after_final fs f kept final) in
      absurd (omega (arith, less, none))

  after_fragment : is_data f ≡ true → f.fin ≡ false → AreBytes (fs ++ f ∷ [])
  after_fragment kept more n less =
      let held = open_payload fs in
      let own = own_payload (length (stream fs)) f in
      let same = open_after_fragment fs f kept more in
      let goes_on : ends_message f ≡ false = ap (λ (b : Bool). b && f.fin) kept ∙ more in
      subst (λ (ps : List PlacedByte). IsPayloadByte (fs ++ f ∷ []) n (first_offset (drop n ps))) (sym same)
      (elim (less_or_not n (length held)) [
        | inl within ↦ subst (λ (offset : ℕ). IsPayloadByte (fs ++ f ∷ []) n offset) (sym (first_in_front n held own within)) (byte_stays fs f n (first_offset (drop n held)) goes_on (earlier n within))
        | inr past ↦
            let sizes : length (open_payload (fs ++ f ∷ [])) ≡ length held + length own = ap (λ (ps : List PlacedByte). length ps) same ∙ length-append held own in
            let own_size = length-placed (payload_offset (info_of (length (stream fs)) f)) f.payload in
            let within : n - length held < length f.payload = omega (arith, less, sizes, own_size, past) in
            let held_size = length-open fs in
            record {
              before = fs;
              frame = f;
              after = [];
              k = n - length held;
              whole = refl;
              data_frame = kept;
              goes_on = (goes_on, tt);
              within = within;
              index_is = omega (arith, held_size, past);
              offset_is = ap first_offset (drop_past held own n past) ∙ first_at (payload_offset (info_of (length (stream fs)) f)) (n - length held) f.payload within;
            }
      ])

  after_one : AreBytes (fs ++ f ∷ [])
  after_one =
      elim (cases_Bool (is_data f)) [
        | inr left_out ↦ after_control left_out
        | inl kept ↦ elim (cases_Bool f.fin) [ inl final ↦ after_final kept final | inr more ↦ after_fragment kept more ]
      ]

pub open_bytes : (fs : List Frame) (n : ℕ) → n < length (open_payload fs) → IsPayloadByte fs n (first_offset (drop n (open_payload fs)))
open_bytes fs = from [] fs (λ n less. absurd (omega (arith, less)))
  where
    from : (before fs : List Frame) → AreBytes before → AreBytes (before ++ fs)
    from before [] are = subst AreBytes (sym (append-nil before)) are
    from before (f ∷ fs) are = subst AreBytes (append_assoc before (f ∷ []) fs) (from (before ++ f ∷ []) fs (after_one before f are))

-- ---- a byte of the open message is at one offset

abbrev size_of : List Frame → ℕ
size_of fs = length (payload_of (unfinished fs))

-- A data frame that doesn't end the message adds its payload, a control nothing.
size_after_data : (fs : List Frame) (f : Frame) → is_data f ≡ true → ends_message f ≡ false → size_of (fs ++ f ∷ []) ≡ size_of fs + length f.payload
size_after_data fs f kept goes_on =
    let more : f.fin ≡ false = sym (ap (λ (b : Bool). b && f.fin) kept) ∙ goes_on in
    ap (λ (bs : List ℕ). length bs) (ap payload_of (unfinished_more fs f kept more) ∙ text_of_push (unfinished fs) f) ∙ length-append (payload_of (unfinished fs)) f.payload

size_grows : (fs gs : List Frame) → AllByRecursion (λ (f : Frame). ends_message f ≡ false) gs → size_of fs ≤ size_of (fs ++ gs)
size_grows fs [] all = let same : size_of (fs ++ []) ≡ size_of fs = ap (λ (hs : List Frame). size_of hs) (append-nil fs) in omega (arith, same)
size_grows fs (f ∷ gs) all =
    let later = size_grows (fs ++ f ∷ []) gs all.1 in
    let moved : size_of ((fs ++ f ∷ []) ++ gs) ≡ size_of (fs ++ f ∷ gs) = ap (λ (hs : List Frame). size_of hs) (append_assoc fs (f ∷ []) gs) in
    elim (cases_Bool (is_data f)) [
      | inl kept ↦ let more = size_after_data fs f kept all.0 in omega (arith, later, moved, more)
      | inr left_out ↦ let same : size_of (fs ++ f ∷ []) ≡ size_of fs = ap (λ (group : List Frame). length (payload_of group)) (unfinished_control fs f left_out) in omega (arith, later, moved, same)
    ]

-- A byte of a frame comes before those of the data frames after it.
module _ (fs : List Frame) (index offset other : ℕ) (p : IsPayloadByte fs index offset) (q : IsPayloadByte fs index other) where
  not_before : (between : List Frame) → q.before ≡ p.before ++ p.frame ∷ between → p.after ≡ between ++ q.frame ∷ q.after → ⊥
  not_before between is rest =
      let all = all_front (λ (f : Frame). ends_message f ≡ false) between (q.frame ∷ q.after) (subst (AllByRecursion (λ (f : Frame). ends_message f ≡ false)) rest p.goes_on.1) in
      let own = size_after_data p.before p.frame p.data_frame p.goes_on.0 in
      let grows = size_grows (p.before ++ p.frame ∷ []) between all in
      let moved : size_of ((p.before ++ p.frame ∷ []) ++ between) ≡ size_of q.before = ap (λ (hs : List Frame). size_of hs) (append_assoc p.before (p.frame ∷ []) between ∙ sym is) in
      let within = p.within in
      let at = p.index_is in
      let also = q.index_is in
      omega (arith, own, grows, moved, within, at, also)

  at_same : p.before ≡ q.before → p.frame ≡ q.frame → offset ≡ other
  at_same before frame =
      let head : Frame → ℕ = λ f. length (head_bytes f.fin f.op f.key f.form (length f.payload)) in
      let sizes : size_of p.before ≡ size_of q.before = ap (λ (hs : List Frame). size_of hs) before in
      let streams : length (stream p.before) ≡ length (stream q.before) = ap (λ (hs : List Frame). length (stream hs)) before in
      let heads : head p.frame ≡ head q.frame = ap head frame in
      let at = p.index_is in
      let also = q.index_is in
      let offset_is = p.offset_is in
      let other_is = q.offset_is in
      omega (arith, sizes, streams, heads, at, also, offset_is, other_is)

pub one_offset : (fs : List Frame) (index offset other : ℕ) → IsPayloadByte fs index offset → IsPayloadByte fs index other → offset ≡ other
one_offset fs index offset other p q =
    elim (two_fronts p.before q.before (p.frame ∷ p.after) (q.frame ∷ q.after) (sym p.whole ∙ q.whole)) [
      | inl e ↦ first index offset other p q e.0 e.1 e.2
      | inr e ↦ sym (first index other offset q p e.0 e.1 e.2)
    ]
  where
    first : (index offset other : ℕ) (p : IsPayloadByte fs index offset) (q : IsPayloadByte fs index other) (more : List Frame) → q.before ≡ p.before ++ more → p.frame ∷ p.after ≡ more ++ q.frame ∷ q.after → offset ≡ other
    first index offset other p q [] is rest = at_same fs index offset other p q (sym (is ∙ append-nil p.before)) (head_same p.frame q.frame p.after q.after rest)
    first index offset other p q (m ∷ more) is rest =
        let same : m ≡ p.frame = sym (head_same p.frame m p.after (more ++ q.frame ∷ q.after) rest) in
        absurd (not_before fs index offset other p q more (is ∙ ap (λ (f : Frame). p.before ++ f ∷ more) same) (tail_same p.frame m p.after (more ++ q.frame ∷ q.after) rest))
