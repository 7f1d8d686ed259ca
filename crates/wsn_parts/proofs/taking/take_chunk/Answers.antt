use Rattle.std.proofs.Common.{◌≡◌, ◌+◌, ◌-◌, ◌<◌, ◌≤◌, ℕ, Option, Ok, Err, List, ◌++◌, length, take, drop, refl, sym, ap, ◌∙◌, subst, arith, length-drop}
use Rattle.std.specs.Prelude.{IsNone}
use Rattle.std.proofs.lemmas.List.{take_all}
use Rattle.std.proofs.lemmas.Result.{err_from_is_err_and}
use borrow.Rule.Slice.PartMut.{mid_of, same_len_mid}
use Rattle.wsn_io.specs.Transfer.{Outgoing}
use Rattle.wsn_wire.specs.declared.endpoint.Role.{Role}
use Rattle.wsn_rules.specs.Limits.{Limits}
use Rattle.wsn_scan.proofs.FedChunks.{share_is, same_further, kept_after}
use Rattle.wsn_parts.specs.declared.answer.Payload.{Payload}
use Rattle.wsn_parts.specs.Following.{HasSought, SeeksOn, SeeksThrough}
use Rattle.wsn_parts.proofs.SoughtChunks.{more, answers, fails, none_of}
use Rattle.wsn_parts.proofs.taking.take_chunk.Goals as goal

pub loop-at-init : goal.loop-at-init
loop-at-init g c = record {
  within = omega arith;
  size = refl;
  kept = refl;
  room = omega arith;
  writable = c.requires.begun.has_sought.written.0;
  sought = λ role limits at came first h. none_of role limits at c.args.scan.now c.args.event.now came c.args.chunk.now first c.args.output.now h;
}

pub returns-in_err-answer : goal.returns-in_err-answer
returns-in_err-answer g c role limits at came first h =
    let i = c.loop-at.at in
    let here = c.loop-at.chunk in
    let chunk = c.args.chunk.now in
    let share = mid_of i (length here - i) here in
    let is : share ≡ drop i chunk = share_is i here ∙ c.loop-at.invariant.kept in
    let sought = c.loop-at.invariant.sought role limits at came first h in
    let given = c.in_err-answer.ensures.seeks role limits at (came ++ take i chunk) first sought in
    let out = err_from_is_err_and c.from_residual.result c.from_residual.ensures.1 in
    let it : c.from_residual.result ≡ Err c.in_err-answer.field-0.0 = out.1 ∙ ap Err out.2 in
    subst (SeeksThrough role limits at c.take_part.new.scan c.take_part.new.event came chunk first c.take_part.new.output) (sym it)
    (fails role limits at c.take_part.new.scan c.take_part.new.event came chunk share i 0 is c.loop-at.invariant.within first c.take_part.new.output c.in_err-answer.field-0.0 given)

pub returns-in_default-Some : goal.returns-in_default-Some
returns-in_default-Some g c role limits at came first h =
    let i = c.loop-at.at in
    let here = c.loop-at.chunk in
    let chunk = c.args.chunk.now in
    let share = mid_of i (length here - i) here in
    let is : share ≡ drop i chunk = share_is i here ∙ c.loop-at.invariant.kept in
    let sought = c.loop-at.invariant.sought role limits at came first h in
    let n = c.in_ok-answer.field-0.0 in
    let given = subst (λ (o : Option Payload). SeeksOn role limits at c.take_part.new.scan c.take_part.new.event (came ++ take i chunk) share first c.take_part.new.output (Ok (n, o))) c.in_default-Some.is-1
    (c.in_ok-answer.ensures.seeks role limits at (came ++ take i chunk) first sought) in
    answers role limits at c.take_part.new.scan c.take_part.new.event came chunk share i n is c.loop-at.invariant.within first c.take_part.new.output c.in_default-Some.answer c.in_ok-answer.ensures.within given

pub loop-at-smaller : goal.loop-at-smaller
loop-at-smaller g c =
    let i = c.loop-at.at in
    let here = c.loop-at.chunk in
    let chunk = c.args.chunk.now in
    let known = c.loop-at.invariant in
    let share = mid_of i (length here - i) here in
    let is : share ≡ drop i chunk = share_is i here ∙ known.kept in
    let size : length share ≡ length (drop i chunk) = ap (λ (bs : List ℕ). length bs) is in
    let less : i < length chunk = omega (arith, known.size, c.loop-at-test.true) in
    let b = c.requires.begun in
    let sought = known.sought b.role b.limits b.at b.came b.first b.has_sought in
    let some = c.in_ok-answer.ensures.progress (record { role = b.role; limits = b.limits; at = b.at; came = b.came ++ take i chunk; first = b.first; has_sought = sought }) (subst IsNone (sym c.in_default-None.is-1) refl) in
    omega (arith, size, length-drop i chunk, c.in_ok-answer.ensures.within, less, some)

pub loop-at-preserved : goal.loop-at-preserved
loop-at-preserved g c =
    let i = c.loop-at.at in
    let here = c.loop-at.chunk in
    let chunk = c.args.chunk.now in
    let known = c.loop-at.invariant in
    let n = c.in_ok-answer.field-0.0 in
    let share = mid_of i (length here - i) here in
    let is : share ≡ drop i chunk = share_is i here ∙ known.kept in
    let size : length share ≡ length (drop i chunk) = ap (λ (bs : List ℕ). length bs) is in
    let in_here : i ≤ length here = omega (arith, known.within, known.size) in
    let b = c.requires.begun in
    let next : (role : Role) (limits : Limits) (at : ℕ) (came : List ℕ) (first : Outgoing) → HasSought role limits at c.args.scan.now c.args.event.now came first c.args.output.now → HasSought role limits at c.take_part.new.scan c.take_part.new.event (came ++ take (i + n) chunk) first c.take_part.new.output = λ role limits at came first h.
    more role limits at c.take_part.new.scan c.take_part.new.event came chunk share i n is known.within first c.take_part.new.output
    (subst (λ (o : Option Payload). SeeksOn role limits at c.take_part.new.scan c.take_part.new.event (came ++ take i chunk) share first c.take_part.new.output (Ok (n, o))) c.in_default-None.is-1
    (c.in_ok-answer.ensures.seeks role limits at (came ++ take i chunk) first (known.sought role limits at came first h))) in
    record {
      within = omega (arith, size, length-drop i chunk, c.in_ok-answer.ensures.within, known.within);
      size = same_len_mid i (length here - i) here c.take_part.new.chunk c.take_part.auto.chunk ∙ known.size;
      kept =
          kept_after i (length here - i) n here c.take_part.new.chunk in_here c.in_ok-answer.ensures.within c.take_part.auto.chunk c.in_ok-answer.ensures.kept
          ∙ same_further i n here chunk in_here known.within known.kept;
      room = omega (arith, c.in_ok-answer.ensures.room, known.room);
      writable = (next b.role b.limits b.at b.came b.first b.has_sought).written.0;
      sought = next;
    }

pub returns : goal.returns
returns g c role limits at came first h =
    let all : take c.loop-at.at c.args.chunk.now ≡ c.args.chunk.now = take_all c.loop-at.at c.args.chunk.now (omega (arith, c.loop-at.invariant.size, c.loop-at-test.false)) in
    subst (λ (bs : List ℕ). HasSought role limits at c.loop-at.scan c.loop-at.event (came ++ bs) first c.loop-at.output) all (c.loop-at.invariant.sought role limits at came first h)
