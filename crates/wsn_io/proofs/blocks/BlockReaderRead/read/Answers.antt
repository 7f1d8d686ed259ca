use Rattle.std.proofs.Common.{rules, ◌≡◌, ℕ, ◌≤◌, ◌<◌, List, ◌++◌, length, take, drop, slice_range, ◌+◌, ◌-◌, sym, ap, subst, ◌∙◌, arith, take-append-drop, drop-drop}
use Rattle.std.proofs.lemmas.List.{drop-take, take_at, length-append, length-drop}
use Rattle.std.specs.Io.KnownBytes.{Consumes, prepend_known}
use Rattle.std.proofs.KnownBytes.{prepend_known-read}
use Rattle.wsn_io.proofs.blocks.BlockReaderRead.read.Goals as goal

-- The bytes held, in two parts.
parts : (block : List ℕ) (start end count : ℕ) → start + count ≤ end → slice_range block start end ≡ take count (slice_range block start end) ++ slice_range block (start + count) end
parts block start end count within =
    let held = slice_range block start end in
    let rest : drop count held ≡ slice_range block (start + count) end =
    ap (λ n. drop count (take n (drop start block))) {y = count + (end - (start + count))} (omega arith)
    ∙ (drop-take count (end - (start + count)) (drop start block) ∙ ap (take (end - (start + count))) (drop-drop count start block)) in
    sym (take-append-drop count held) ∙ ap (λ bs. take count held ++ bs) rest

-- The bytes that a copy writes to the start.
put_front : (count : ℕ) (copied held into : List ℕ) → length copied ≡ count → copied ≡ take count held → take count (copied ++ drop count into) ≡ take count held
put_front count copied held into same copy = take_at copied (drop count into) count same ∙ copy

pub returns-clause-bytes : goal.returns-clause-bytes
returns-clause-bytes g c =
    let old = c.args.self.now in
    let filled = c.fill.new.self in
    let count = c.min-count.result in
    let held = slice_range filled.block filled.start filled.end in
    let rest = slice_range filled.block (filled.start + count) filled.end in
    let length_held : length held ≡ filled.end - filled.start = search rules in
    let length_copied : length c.copy_from_slice.new.self ≡ count = search rules in
    let front = put_front count c.copy_from_slice.new.self held c.args.into.now length_copied (search rules) in
    let split : held ≡ take count held ++ rest = parts filled.block filled.start filled.end count (omega (arith, c.min-count.ensures, length_held)) in
    let before = prepend_known (slice_range old.block old.start old.end) (g.R.Read.remaining old.reader) in
    let after = g.R.Read.remaining filled.reader in
    let total : length (c.copy_from_slice.new.self ++ drop count c.args.into.now) ≡ count + (length c.args.into.now - count) =
    length-append c.copy_from_slice.new.self (drop count c.args.into.now) ∙ (ap (λ n. n + length (drop count c.args.into.now)) length_copied ∙ ap (λ n. count + n) (length-drop count c.args.into.now)) in
    let read = prepend_known-read before after held rest (take count held) ((count ≡ 0) × (0 < length (c.copy_from_slice.new.self ++ drop count c.args.into.now))) c.fill.ensures.bytes split (λ (none : (count ≡ 0) × (0 < length (c.copy_from_slice.new.self ++ drop count c.args.into.now))).
    let empty : filled.start ≡ filled.end = omega (arith, none.0, none.1, total, c.min-count.ensures, length_held) in
    (ap (λ n. take n (drop (filled.start + count) filled.block)) {y = 0} (omega arith), c.in_ok-fill.ensures.end empty)) in
    (subst (λ (bs : List ℕ). Consumes before (prepend_known rest after) bs) (sym front) read.0, λ zero some. read.1 (zero, some))

pub returns-in_err-fill-clause-bound : goal.returns-in_err-fill-clause-bound
returns-in_err-fill-clause-bound c = search rules

pub returns-in_err-fill-clause-bytes : goal.returns-in_err-fill-clause-bytes
returns-in_err-fill-clause-bytes c = search rules

pub slice_bounds-held-count : goal.slice_bounds-held-count
slice_bounds-held-count c = search rules

pub slice_bounds-held-start : goal.slice_bounds-held-start
slice_bounds-held-start c = search rules

pub slice_bounds-held-end : goal.slice_bounds-held-end
slice_bounds-held-end c = search rules

pub slice_bounds-copy_from_slice-end : goal.slice_bounds-copy_from_slice-end
slice_bounds-copy_from_slice-end c = search rules

pub slice_bounds-copy_from_slice-end-2 : goal.slice_bounds-copy_from_slice-end-2
slice_bounds-copy_from_slice-end-2 c = search rules

pub slice_bounds-copy_from_slice-end-3 : goal.slice_bounds-copy_from_slice-end-3
slice_bounds-copy_from_slice-end-3 c = search rules

pub copy_from_slice-requires : goal.copy_from_slice-requires
copy_from_slice-requires c = search rules

pub overflow_add-self : goal.overflow_add-self
overflow_add-self c = search rules

pub invariant_of-self : goal.invariant_of-self
invariant_of-self c = search rules

pub returns-clause-bound : goal.returns-clause-bound
returns-clause-bound c = search rules
