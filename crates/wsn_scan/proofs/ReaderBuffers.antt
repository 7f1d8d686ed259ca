-- The buffer of a reader of frames, and the bytes that came.
use Rattle.std.specs.List.{slice_range}
use Rattle.std.proofs.Common.{◌≡◌, ℕ, ◌+◌, ◌-◌, ◌≤◌, List, ◌++◌, length, take, drop, sym, ap, ◌∙◌, subst, append_assoc, arith, take-append-drop, length-append, length-drop}
use Rattle.std.proofs.Math.Seq.{drop-append-add}
use Rattle.std.proofs.lemmas.List.{length-take-le, drop-append-le, take_all, take-append-le}
use borrow.Rule.Slice.PartMut.{mid_of, mid_len, post_of, put_mid, put_same}
use Rattle.wsn_rules.specs.Limits.{Limits}
use Rattle.wsn_scan.specs.declared.chunk_reader.ChunkReader.{ChunkReader}
use Rattle.wsn_scan.specs.declared.frame_reader.FrameReader.{FrameReader}
use Rattle.wsn_scan.specs.ChunkReaders.{HasCounted}
use Rattle.wsn_scan.specs.FrameReaders.{IsBuffered, unread}
use Rattle.wsn_scan.proofs.ChunksSoFar.{counted_within}

-- ---- a part of a buffer that a call may write to

-- the bytes after the first n of the part, once the call has returned
pub part_after : (at end n : ℕ) (xs ys : List ℕ) → at ≤ end → end ≤ length xs → length ys ≡ end - at → at + n ≤ end
    → slice_range (put_mid at (end - at) xs ys) (at + n) end ≡ drop n ys
part_after at end n xs ys within in_xs size fits =
    let front : length (take at xs) ≡ at = length-take-le at xs (omega arith) in
    let following : drop (at + n) (put_mid at (end - at) xs ys) ≡ drop n ys ++ post_of at (end - at) xs =
    ap (λ (m : ℕ). drop (m + n) (put_mid at (end - at) xs ys)) (sym front) ∙ drop-append-add (take at xs) (ys ++ post_of at (end - at) xs) n
    ∙ drop-append-le n ys (post_of at (end - at) xs) (omega (arith, size)) in
    let left : end - (at + n) ≡ length (drop n ys) = omega (arith, length-drop n ys, size) in
    ap (take (end - (at + n))) following ∙ take-append-le (end - (at + n)) (drop n ys) (post_of at (end - at) xs) (omega (arith, left)) ∙ take_all (end - (at + n)) (drop n ys) (omega (arith, left))

pub range_after : (at end n : ℕ) (xs : List ℕ) → at ≤ end → end ≤ length xs → at + n ≤ end → slice_range xs (at + n) end ≡ drop n (slice_range xs at end)
range_after at end n xs within in_xs fits =
    ap (λ (ys : List ℕ). slice_range ys (at + n) end) (sym (put_same at (end - at) xs)) ∙ part_after at end n xs (mid_of at (end - at) xs) within in_xs (mid_len at end xs in_xs) fits

pub length-range : (at end : ℕ) (xs : List ℕ) → at ≤ end → end ≤ length xs → length (slice_range xs at end) ≡ end - at
length-range at end xs within in_xs = length-take-le (end - at) (drop at xs) (omega (arith, length-drop at xs))

-- ---- what came

module _ (limits : Limits) (reader : FrameReader) (came scanned : List ℕ) (b : IsBuffered limits reader came scanned) where
  pub length_unread : length (unread reader) ≡ reader.end - reader.at
  length_unread = length-range reader.at reader.end reader.buffer reader.left (omega (arith, reader.held, reader.size))

  -- the scan has room for the others
  pub within_limit : length scanned + (reader.end - reader.at) ≤ limits.input
  within_limit = let room = b.counted.room in omega (arith, room, length-append scanned (unread reader), length_unread)

  pub within_is : take limits.input came ≡ scanned ++ unread reader
  within_is = ap (λ (bs : List ℕ). take limits.input bs) b.whole ∙ counted_within limits reader.chunks (scanned ++ unread reader) b.past b.counted

  pub length_came : length came ≡ length scanned + ((reader.end - reader.at) + length b.past)
  length_came =
      let size = ap (λ (bs : List ℕ). length bs) b.whole in
      omega (arith, size, length-append (scanned ++ unread reader) b.past, length-append scanned (unread reader), length_unread)

-- n bytes more are scanned
module _ (old new : FrameReader) (n : ℕ) (kept : slice_range new.buffer (old.at + n) old.end ≡ slice_range old.buffer (old.at + n) old.end) (at_is : new.at ≡ old.at + n) (end_is : new.end ≡ old.end) where
  pub within : old.at + n ≤ old.end
  within = let left = new.left in omega (arith, left, at_is, end_is)

  pub unread_parts : unread old ≡ take n (unread old) ++ unread new
  unread_parts =
      sym (take-append-drop n (unread old))
      ∙ ap (λ (bs : List ℕ). take n (unread old) ++ bs)
      (sym (range_after old.at old.end n old.buffer old.left (let held = old.held in let size = old.size in omega (arith, held, size)) within) ∙ sym kept
      ∙ ap (λ (m : ℕ). slice_range new.buffer m old.end) (sym at_is) ∙ ap (λ (m : ℕ). slice_range new.buffer new.at m) (sym end_is))

  pub buffered_on : (limits : Limits) (came scanned : List ℕ) → new.chunks ≡ old.chunks → IsBuffered limits old came scanned → IsBuffered limits new came (scanned ++ take n (unread old))
  buffered_on limits came scanned chunks_is was =
      let same : scanned ++ unread old ≡ (scanned ++ take n (unread old)) ++ unread new =
      ap (λ (bs : List ℕ). scanned ++ bs) unread_parts ∙ sym (append_assoc scanned (take n (unread old)) (unread new)) in
      record {
        past = was.past;
        whole = was.whole ∙ ap (λ (bs : List ℕ). bs ++ was.past) same;
        counted = subst (λ (bs : List ℕ). HasCounted limits new.chunks bs was.past) same (subst (λ (c : ChunkReader). HasCounted limits c (scanned ++ unread old) was.past) (sym chunks_is) was.counted);
        few = was.few;
        small = omega (arith, was.small, end_is);
        in_bytes = was.in_bytes;
      }
