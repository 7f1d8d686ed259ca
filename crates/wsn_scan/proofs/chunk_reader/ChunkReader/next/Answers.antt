use Rattle.std.proofs.Common.{ℕ, ◌++◌, List, take, drop, refl, sym, subst, length-append, length-take-le, arith, rules}
use Rattle.std.proofs.lemmas.List.{take-append-le}
use Rattle.wsn_io.specs.Transfer.{IsConsumed}
use Rattle.wsn_io.proofs.Received.{consumed_read}
use Rattle.wsn_scan.proofs.FedChunks.{bytes_below}
use Rattle.wsn_scan.proofs.ChunksSoFar.{IsRead, read_failed, input_ended, consumed_came, chunk_came, falls, limit_passed}
use Rattle.wsn_scan.proofs.chunk_reader.ChunkReader.next.Goals as goal

pub returns-then-self : goal.returns-then-self
returns-then-self g c = record {
  next = λ limits first came come. limit_passed limits first c.args.input.now c.args.self.now came come c.if-self.true;
  falls = λ n is. cc;
  limit = search rules;
  kept = search rules;
}

pub slice_bounds-read-end : goal.slice_bounds-read-end
slice_bounds-read-end g c = search rules

pub slice_bounds-read-end-2 : goal.slice_bounds-read-end-2
slice_bounds-read-end-2 g c = search rules

pub read-requires : goal.read-requires
read-requires g c = search rules

pub returns-in_default : goal.returns-in_default
returns-in_default g c = record {
  next = λ limits first came come. read_failed limits first c.args.input.now c.args.self.now came come c.if-self.false c.read.new.self c.in_default.ensures.none.1 c.in_default.ensures.none.0;
  falls = λ n is. cc;
  limit = search rules;
  kept = search rules;
}

pub returns-then-count-eq0 : goal.returns-then-count-eq0
returns-then-count-eq0 g c =
    let into = c.read.new.into in
    let read = consumed_read c.args.input.now c.read.new.self into c.in-Some.count c.in-Some.ensures.within c.in-Some.ensures.bytes c.in-Some.ensures.counted c.in-Some.ensures.readable in
    record {
      next = λ limits first came come.
          input_ended limits first c.args.input.now c.args.self.now came come c.if-self.false c.read.new.self
          (subst (λ (n : ℕ). IsConsumed c.args.input.now c.read.new.self (take n into)) c.if-count-eq0.true read) (c.in-Some.ensures.end c.if-count-eq0.true) c.in-Some.ensures.some;
      falls = λ n is. cc;
      limit = search rules;
      kept = search rules;
    }

pub overflow_sub-self : goal.overflow_sub-self
overflow_sub-self g c = omega (arith, c.min-len.ensures)

pub returns : goal.returns
returns g c =
    let now = c.args.input.now in
    let new = c.read.new.self in
    let into = c.read.new.into in
    let rest = drop c.min-wanted.result c.args.buffer.now in
    let n = c.in-Some.count in
    let within = c.in-Some.ensures.within in
    let consumed = consumed_read now new into n within c.in-Some.ensures.bytes c.in-Some.ensures.counted c.in-Some.ensures.readable in
    let read : IsRead now new c.args.self.now _ (into ++ rest) c.min-len.result n = record {
      some = omega (arith, c.if-count-eq0.false);
      in_buffer = omega (arith, within, length-append into rest);
      few = omega (arith, within, c.read.auto.into, length-take-le c.min-wanted.result c.args.buffer.now (omega (arith, c.min-wanted.ensures)), c.min-wanted.ensures, c.saturating_add.ensures);
      len_is = c.min-len.ensures;
      left = omega (arith, c.min-len.ensures);
      past_is = refl;
      consumed = subst (λ (bs : List ℕ). IsConsumed now new bs) (sym (take-append-le n into rest within)) consumed;
      in_bytes = bytes_below (into ++ rest) (λ i. let below = c.type_inv.buffer i in omega (arith, below));
      unfailed = c.in-Some.ensures.some;
    } in
    record {
      next = λ limits first came come.
          chunk_came now new c.args.self.now _ (into ++ rest) c.min-len.result n read limits first came (consumed_came limits first now c.args.self.now came come c.if-self.false) come.counted.room come.unfailed;
      falls = λ m is. falls now new c.args.self.now _ (into ++ rest) c.min-len.result n read c.if-self.false;
      limit = search rules;
      kept = search rules;
    }
