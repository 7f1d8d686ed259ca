use Rattle.std.proofs.Common.{◌≡◌, ℕ, Option, List, ◌++◌, take, subst, rules, arith}
use Rattle.std.proofs.lemmas.Grind.{common_steps}
use Rattle.std.specs.Io.KnownBytes.{Appends}
use Rattle.wsn_io.proofs.Prefixes.{front_of_first, front_of_second}
use Rattle.wsn_io.proofs.blocks.BlockWriter.put.Goals as goal

pub same-self : goal.same-self
same-self g c = search rules

pub returns-then-failed : goal.returns-then-failed
returns-then-failed g c = record {
  all = search rules;
  failed = search rules;
  for_good = search rules;
  prefix = search rules;
}

pub same-self-2 : goal.same-self-2
same-self-2 g c = search rules

pub returns-then-hold : goal.returns-then-hold
returns-then-hold g c = record {
  all = grind (arith, common_steps);
  failed = search rules;
  for_good = search rules;
  prefix = search rules;
}

pub put_first-requires : goal.put_first-requires
put_first-requires g c = record {
  empty = search rules;
  writable = search rules;
}

pub returns-then-flush : goal.returns-then-flush
returns-then-flush g c = record {
  prefix = λ failed.
      let before = c.self.inside.output.written in
      let begun : before ≡ c.args.self.now.written = search rules in
      let kept : c.hold.new.self.pending ≡ c.args.self.now.pending = search rules in
      let kept_before : c.hold.new.self.written ≡ before = search rules in
      let front = c.put_first.ensures.prefix failed in
      let sent = subst (λ (a : Option (List ℕ)). Appends a c.flush.new.self.written c.args.self.now.pending) kept_before (subst (λ (bs : List ℕ). Appends c.hold.new.self.written c.flush.new.self.written bs) kept (c.flush.ensures.all c.if-flush.true)) in
      subst (λ (a : Option (List ℕ)). (n : ℕ) × Appends a c.put_first.new.self.written (take n (c.args.self.now.pending ++ c.args.bytes.now))) begun
      (front_of_second before c.flush.new.self.written c.put_first.new.self.written c.args.self.now.pending c.args.bytes.now front.0 sent front.1);
  all = search rules;
  failed = search rules;
  for_good = search rules;
}

pub returns-else-flush : goal.returns-else-flush
returns-else-flush g c = record {
  prefix = λ failed.
      let before = c.self.inside.output.written in
      let begun : before ≡ c.args.self.now.written = search rules in
      let kept : c.hold.new.self.pending ≡ c.args.self.now.pending = search rules in
      let kept_before : c.hold.new.self.written ≡ before = search rules in
      let front = c.flush.ensures.prefix failed in
      let sent = subst (λ (a : Option (List ℕ)). Appends a c.flush.new.self.written (take front.0 c.args.self.now.pending)) kept_before (subst (λ (bs : List ℕ). Appends c.hold.new.self.written c.flush.new.self.written (take front.0 bs)) kept front.1) in
      subst (λ (a : Option (List ℕ)). (n : ℕ) × Appends a c.flush.new.self.written (take n (c.args.self.now.pending ++ c.args.bytes.now))) begun
      (front_of_first before c.flush.new.self.written c.args.self.now.pending c.args.bytes.now front.0 sent);
  all = search rules;
  failed = search rules;
  for_good = search rules;
}
