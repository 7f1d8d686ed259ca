-- A chunk that a scan consumes part by part.
use Rattle.std.proofs.Common.{◌≡◌, ℕ, suc, ◌+◌, ◌-◌, ◌<◌, ◌≤◌, List, [], ◌∷◌, ◌++◌, length, take, drop, get_or, sym, ap, ◌∙◌, subst, append_assoc, append-nil, arith, length-drop, take-append-drop}
use Rattle.std.proofs.Math.Seq.{take-add, drop-append-add}
use Rattle.std.proofs.lemmas.List.{take_all, length-take-le, drop-append-le}
use borrow.Rule.Slice.PartMut.{mid_of, post_of, put_mid, put_same, same_len_mid}
use Rattle.wsn_wire.specs.Frame.{IsBytes}
use Rattle.wsn_wire.proofs.FrameLemmas.{IsBytes-right}
use Rattle.wsn_scan.specs.declared.scan.Scan.{Scan}
use Rattle.wsn_rules.specs.declared.head_info.HeadInfo.{HeadInfo}
use Rattle.wsn_scan.specs.Scans.{room_of}
use Rattle.wsn_scan.specs.Feeding.{HasScannedBytes, ConsumesPrefix}

-- a bound on each byte, index by index
pub bytes_below : (xs : List ℕ) → ((i : ℕ) → get_or xs i 0 < 256) → IsBytes xs
bytes_below [] below = tt
bytes_below (x ∷ xs) below = (below 0, bytes_below xs (λ i. below (suc i)))

-- the part that is passed on is all that comes after the first `at` bytes
pub share_is : (at : ℕ) (xs : List ℕ) → mid_of at (length xs - at) xs ≡ drop at xs
share_is at xs = take_all (length xs - at) (drop at xs) (omega (arith, length-drop at xs))

-- the bytes after n more, once the call has returned
after_share : (at k n : ℕ) (xs ys : List ℕ) → at ≤ length xs → n ≤ length ys → drop (at + n) (put_mid at k xs ys) ≡ drop n ys ++ post_of at k xs
after_share at k n xs ys within fits =
    let front : length (take at xs) ≡ at = length-take-le at xs within in
    ap (λ (m : ℕ). drop (m + n) (put_mid at k xs ys)) (sym front) ∙ drop-append-add (take at xs) (ys ++ post_of at k xs) n ∙ drop-append-le n ys (post_of at k xs) fits

-- the bytes after the first n of the part stay in the chunk
pub kept_after : (at k n : ℕ) (xs ys : List ℕ) → at ≤ length xs → n ≤ length (mid_of at k xs) → length ys ≡ length (mid_of at k xs) → drop n ys ≡ drop n (mid_of at k xs)
    → drop (at + n) (put_mid at k xs ys) ≡ drop (at + n) xs
kept_after at k n xs ys within fits size same =
    after_share at k n xs ys within (omega arith)
    ∙ ap (λ (zs : List ℕ). zs ++ post_of at k xs) same
    ∙ sym (after_share at k n xs (mid_of at k xs) within fits)
    ∙ ap (drop (at + n)) (put_same at k xs)

-- lists that are the same after some bytes are the same after more
pub same_further : (at n : ℕ) (xs ys : List ℕ) → at ≤ length xs → at ≤ length ys → drop at xs ≡ drop at ys → drop (at + n) xs ≡ drop (at + n) ys
same_further at n xs ys in_xs in_ys same = further xs in_xs ∙ ap (drop n) same ∙ sym (further ys in_ys)
  where
    further : (zs : List ℕ) → at ≤ length zs → drop (at + n) zs ≡ drop n (drop at zs)
    further zs within =
        let front : length (take at zs) ≡ at = length-take-le at zs within in
        ap (drop (at + n)) (sym (take-append-drop at zs)) ∙ ap (λ (m : ℕ). drop (m + n) (take at zs ++ drop at zs)) (sym front) ∙ drop-append-add (take at zs) (drop at zs) n

-- ---- what the scan has consumed

pub takes_none : (scan : Scan) (chunk : List ℕ) → ConsumesPrefix scan scan chunk 0 []
takes_none scan chunk role limits bytes heads taken =
    subst (λ (hs : List HeadInfo). HasScannedBytes role limits scan (bytes ++ take 0 chunk) hs) (sym (append-nil heads))
    (subst (λ (bs : List ℕ). HasScannedBytes role limits scan bs heads) (sym (append-nil bytes)) taken)

-- a chunk that is consumed in two parts
pub takes_further : (old mid new : Scan) (chunk share : List ℕ) (at n : ℕ) (more heads : List HeadInfo) → share ≡ drop at chunk → ConsumesPrefix old mid chunk at more → ConsumesPrefix mid new share n heads
    → ConsumesPrefix old new chunk (at + n) (more ++ heads)
takes_further old mid new chunk share at n more next is first second role limits bytes heads taken =
    let came = second role limits (bytes ++ take at chunk) (heads ++ more) (first role limits bytes heads taken) in
    let joined : (bytes ++ take at chunk) ++ take n share ≡ bytes ++ take (at + n) chunk =
    append_assoc bytes (take at chunk) (take n share) ∙ ap (λ (bs : List ℕ). bytes ++ (take at chunk ++ take n bs)) is ∙ ap (λ (bs : List ℕ). bytes ++ bs) (sym (take-add at n chunk)) in
    subst (λ (bs : List ℕ). HasScannedBytes role limits new bs (heads ++ (more ++ next))) joined
    (subst (λ (hs : List HeadInfo). HasScannedBytes role limits new ((bytes ++ take at chunk) ++ take n share) hs) (append_assoc heads more next) came)

-- the elements after some bytes are bytes
pub bytes_after : (at : ℕ) (chunk : List ℕ) → IsBytes chunk → IsBytes (drop at chunk)
bytes_after at chunk in_bytes = IsBytes-right (take at chunk) (drop at chunk) (subst IsBytes (sym (take-append-drop at chunk)) in_bytes)

-- ---- a chunk so far

-- The scan has consumed the chunk up to this byte, and the rest of the chunk is unchanged.
pub record IsFedTo (old scan : Scan) (chunk here : List ℕ) (at : ℕ) : Type 0 where
  pub in_bytes : IsBytes chunk
  pub within : at ≤ length chunk
  pub size : length here ≡ length chunk
  pub kept : drop at here ≡ drop at chunk
  pub room : room_of scan + at ≡ room_of old
  pub consumes : (more : List HeadInfo) × ConsumesPrefix old scan chunk at more

-- some bytes further
pub fed_further : (old scan new : Scan) (chunk here after : List ℕ) (at n : ℕ) → IsFedTo old scan chunk here at → n ≤ length (mid_of at (length here - at) here)
    → length after ≡ length (mid_of at (length here - at) here) → drop n after ≡ drop n (mid_of at (length here - at) here) → room_of new + n ≡ room_of scan
    → (IsBytes (mid_of at (length here - at) here) → (heads : List HeadInfo) × ConsumesPrefix scan new (mid_of at (length here - at) here) n heads) → IsFedTo old new chunk (put_mid at (length here - at) here after) (at + n)
fed_further old scan new chunk here after at n fed fits same_size same room consumes =
    let share = mid_of at (length here - at) here in
    let is : share ≡ drop at chunk = share_is at here ∙ fed.kept in
    let in_here : at ≤ length here = omega (arith, fed.within, fed.size) in
    let in_share : IsBytes share = subst IsBytes (sym is) (bytes_after at chunk fed.in_bytes) in
    let size : length share ≡ length (drop at chunk) = ap (λ (bs : List ℕ). length bs) is in
    let more = consumes in_share in
    record {
      in_bytes = fed.in_bytes;
      within = omega (arith, fits, size, length-drop at chunk, fed.within);
      size = same_len_mid at (length here - at) here after same_size ∙ fed.size;
      kept = kept_after at (length here - at) n here after in_here fits same_size same ∙ same_further at n here chunk in_here fed.within fed.kept;
      room = omega (arith, room, fed.room);
      consumes = (fed.consumes.0 ++ more.0, takes_further old scan new chunk share at n fed.consumes.0 more.0 is fed.consumes.1 more.1);
    }
