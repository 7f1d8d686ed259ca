-- What has come of an input that is read in chunks, and what one read more gives.
use Rattle.std.specs.Prelude.{nat_lt, if◌then◌else◌}
use Rattle.std.proofs.Common.{◌≡◌, ℕ, ◌+◌, ◌<◌, ◌≤◌, Bool, true, false, min, Option, Some, None, Ok, List, [], ◌++◌, length, take, drop, refl, sym, ap, ◌∙◌, subst, append_assoc, append-nil, take-append-drop, length-append, length-drop, arith}
use Rattle.std.proofs.lemmas.Bool.{ltb-true, ltb-false}
use Rattle.std.proofs.lemmas.List.{length-take-le, take-append-le, take-take, take_all}
use Rattle.std.specs.Io.KnownBytes.{IsAtEnd}
use Rattle.wsn_io.specs.Transfer.{Incoming, IsConsumed, IsKept, IsReceived}
use Rattle.wsn_io.specs.declared.stop.Stop.TheVariants as stop
use Rattle.wsn_io.proofs.Received.{consumed_on, consumed_end, consumed_kept, received_of}
use Rattle.wsn_wire.specs.Frame.{IsBytes}
use Rattle.wsn_rules.specs.Limits.{Limits}
use Rattle.wsn_rules.proofs.PlanTheory.MessageFrames.{bytes_take}
use Rattle.wsn_scan.specs.declared.chunk_reader.ChunkReader.{ChunkReader}
use Rattle.wsn_scan.specs.ChunkReaders.{HasCounted, HasCome, IsChunkOf, IsEndOf, IsHaltOf, IsNextOf, chunks_ahead}
use Rattle.wsn_scan.specs.Judging.{chunk_size}
use Rattle.wsn_frame.proofs.HeadsAtOnce.{no_items}

pub by_past : {P : Type 0} (past : Bool) → (past ≡ true → P) → (past ≡ false → P) → P
by_past true if_so if_not = if_so refl
by_past false if_so if_not = if_not refl

-- a buffer of which a call had the first n items
pub same_size : (n : ℕ) (buffer chunk : List ℕ) → n ≤ length buffer → length chunk ≡ length (take n buffer) → length (chunk ++ drop n buffer) ≡ length buffer
same_size n buffer chunk within same = omega (arith, same, length-take-le n buffer within, length-append chunk (drop n buffer), length-drop n buffer)

-- ---- what came within the limit, and past it

module _ (limits : Limits) (chunks : ChunkReader) (came past : List ℕ) (counted : HasCounted limits chunks came past) where
  pub few_counted : length (came ++ past) ≤ limits.input + 1
  few_counted =
      by_past chunks.past_limit (λ is. omega (arith, length-append came past, counted.room, (counted.full is).1))
      (λ is. let size = ap (λ (bs : List ℕ). length bs) (counted.none is) in omega (arith, length-append came past, counted.room, size))

  -- the bytes within the limit
  pub counted_within : take limits.input (came ++ past) ≡ came
  counted_within =
      by_past chunks.past_limit (λ is. take-append-le limits.input came past (omega (arith, counted.room, (counted.full is).0)) ∙ all)
      (λ is. ap (λ (bs : List ℕ). take limits.input bs) (ap (λ (bs : List ℕ). came ++ bs) (counted.none is) ∙ append-nil came) ∙ all)
    where
      all : take limits.input came ≡ came
      all = take_all limits.input came (omega (arith, counted.room))

-- ---- one read more

-- One read put n bytes at the start of the buffer, and the reader has counted those within the room.
pub record IsRead (old new : Incoming) (chunks after : ChunkReader) (buffer : List ℕ) (len n : ℕ) : Type 0 where
  pub some : 0 < n
  pub in_buffer : n ≤ length buffer
  pub few : n ≤ chunks.room + 1
  pub len_is : len ≡ min chunks.room n
  pub left : after.room + len ≡ chunks.room
  pub past_is : after.past_limit ≡ nat_lt len n
  pub consumed : IsConsumed old new (take n buffer)
  pub in_bytes : IsBytes buffer
  pub unfailed : new.failed ≡ old.failed

module _ (now new : Incoming) (chunks after : ChunkReader) (buffer : List ℕ) (len n : ℕ) (read : IsRead now new chunks after buffer len n) where
  in_count : len ≤ n
  in_count = let is = read.len_is in omega (arith, is)

  over : after.past_limit ≡ true → len < n
  over is = ltb-true len n (sym read.past_is ∙ is)

  not_over : after.past_limit ≡ false → len ≡ n
  not_over is = let most = ltb-false len n (sym read.past_is ∙ is) in omega (arith, most, in_count)

  -- a bound on the chunks that can still come falls with each
  pub falls : chunks.past_limit ≡ false → chunks_ahead after < chunks_ahead chunks
  falls none =
      let before : chunks_ahead chunks ≡ chunks.room + 1 = ap (λ (p : Bool). chunks.room + (if p then 0 else 1)) none in
      by_past after.past_limit
      (λ is. let later : chunks_ahead after ≡ after.room + 0 = ap (λ (p : Bool). after.room + (if p then 0 else 1)) is in omega (arith, before, later, read.left))
      (λ is. let later : chunks_ahead after ≡ after.room + 1 = ap (λ (p : Bool). after.room + (if p then 0 else 1)) is in omega (arith, before, later, read.left, read.some, not_over is))

  abbrev bytes_past : List ℕ
  bytes_past = drop len (take n buffer)

  parts : take len buffer ++ bytes_past ≡ take n buffer
  parts = ap (λ (bs : List ℕ). bs ++ bytes_past) (sym (take-take len n buffer in_count)) ∙ take-append-drop len (take n buffer)

  size_past : length bytes_past + len ≡ n
  size_past = omega (arith, length-drop len (take n buffer), length-take-le n buffer read.in_buffer, in_count)

  pub chunk_came : (limits : Limits) (first : Incoming) (came : List ℕ) → IsConsumed first now came → chunks.room + length came ≡ limits.input → now.failed ≡ false → IsChunkOf limits first new after came buffer len
  chunk_came limits first came consumed room unfailed = record {
    in_buffer = omega (arith, read.in_buffer, in_count);
    come = record {
      past = bytes_past;
      consumed = subst (λ (bs : List ℕ). IsConsumed first new bs) (ap (λ (bs : List ℕ). came ++ bs) (sym parts) ∙ sym (append_assoc came (take len buffer) bytes_past))
          (consumed_on first now new came (take n buffer) consumed read.consumed);
      counted = record {
        room = omega (arith, room, read.left, length-append came (take len buffer), length-take-le len buffer (omega (arith, read.in_buffer, in_count)));
        full = λ is. let more = over is in let len_is = read.len_is in let few = read.few in (omega (arith, more, len_is, read.left), omega (arith, size_past, more, len_is, few));
        none = λ is. no_items bytes_past (omega (arith, size_past, not_over is));
      };
      unfailed = read.unfailed ∙ unfailed;
    };
    short = omega (arith, size_past, read.in_buffer);
    in_bytes = subst (λ (bs : List ℕ). IsBytes bs) (sym parts) (bytes_take n buffer read.in_bytes);
  }

module _ (limits : Limits) (first now : Incoming) (chunks : ChunkReader) (came : List ℕ) (come : HasCome limits first now chunks came) where
  fits : length came ≤ limits.input
  fits = let room = come.counted.room in omega (arith, room)

  pub received : IsReceived (limits.input + 1) first now (came ++ come.past)
  received = received_of (limits.input + 1) first now (came ++ come.past) come.consumed (few_counted limits chunks came come.past come.counted)

  -- the bytes within the limit
  pub within_limit : take limits.input (came ++ come.past) ≡ came
  within_limit = counted_within limits chunks came come.past come.counted

  module _ (none : chunks.past_limit ≡ false) where
    pub consumed_came : IsConsumed first now came
    consumed_came = subst (λ (bs : List ℕ). IsConsumed first now bs) (ap (λ (bs : List ℕ). came ++ bs) (come.counted.none none) ∙ append-nil came) come.consumed

    pub read_failed : (new : Incoming) → IsKept now new → new.failed ≡ true → IsHaltOf limits first new came stop.Read
    read_failed new keeps failed = record {
      all = came;
      received = received_of (limits.input + 1) first new came (consumed_kept first now new came consumed_came keeps) (omega (arith, fits));
      within = take_all limits.input came fits;
      stops = (fits, failed);
    }

    pub input_ended : (new : Incoming) → IsConsumed now new [] → IsAtEnd new.remaining → new.failed ≡ now.failed → IsEndOf limits first new came
    input_ended new nothing at_end same = record {
      received = received_of (limits.input + 1) first new came (consumed_end first now new came consumed_came nothing) (omega (arith, fits));
      within = fits;
      at_end = at_end;
      unfailed = same ∙ come.unfailed;
    }

  pub limit_passed : chunks.past_limit ≡ true → IsHaltOf limits first now came stop.InputLimit
  limit_passed is = record {
    all = came ++ come.past;
    received = received;
    within = within_limit;
    stops = (let full = come.counted.full is in let room = come.counted.room in omega (arith, length-append came come.past, room, full), come.unfailed);
  }

-- ---- what a read answered

pub next_chunk : {limits : Limits} {first new : Incoming} {chunks : ChunkReader} {came buffer : List ℕ} {found : Option ℕ} {n : ℕ} → found ≡ Some n → IsNextOf limits first new chunks came buffer (Ok found) → IsChunkOf limits first new chunks came buffer n
next_chunk {limits} {first} {new} {chunks} {came} {buffer} is next = subst (λ (o : Option ℕ). IsNextOf limits first new chunks came buffer (Ok o)) is next

pub next_end : {limits : Limits} {first new : Incoming} {came : List ℕ} {found : Option ℕ} (chunks : ChunkReader) (buffer : List ℕ) → found ≡ None → IsNextOf limits first new chunks came buffer (Ok found) → IsEndOf limits first new came
next_end {limits} {first} {new} {came} chunks buffer is next = subst (λ (o : Option ℕ). IsNextOf limits first new chunks came buffer (Ok o)) is next

-- a chunk and the byte past the limit are together no longer than the buffer
pub short_chunk : {limits : Limits} {first new : Incoming} {chunks : ChunkReader} {came buffer : List ℕ} {n : ℕ} (got : IsChunkOf limits first new chunks came buffer n) → length buffer ≡ chunk_size → length (take n buffer) + length got.come.past ≤ chunk_size
short_chunk {buffer = buffer} {n = n} got size = omega (arith, got.short, size, length-take-le n buffer got.in_buffer)
