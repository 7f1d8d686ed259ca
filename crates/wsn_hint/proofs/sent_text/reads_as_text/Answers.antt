use Rattle.std.proofs.Common.{rules, ◌≡◌, ◌≢◌, ℕ, ◌-◌, ◌<◌, ◌∷◌, [], drop, subst, arith}
use Rattle.std.proofs.lemmas.Bool.Decides.{nat_tests}
use Rattle.wsn_hint.specs.SideHints.{BeginsInAscii}
use Rattle.wsn_hint.proofs.sent_text.reads_as_text.Goals as goal

pub returns-then-start-offset : goal.returns-then-start-offset
returns-then-start-offset g c is sent heads_known text_known =
    let has = c.in-Some.ensures.head sent heads_known in
    let starts = c.in-Some.ensures.start has.begins.key in
    let less : c.args.offset - c.in-Some.start < c.text_len-len.result = grind (arith, nat_tests, is) in
    let masks : c.in-Some-key.key ≢ 0 ∷ 0 ∷ 0 ∷ 0 ∷ [] = search rules in
    record {
      head = c.in-Some.head;
      has_head = has;
      key = c.in-Some-key.key;
      keyed = c.in-Some-key.is;
      masks = masks;
      count = c.text_len-len.result;
      text = subst (λ (n : ℕ). BeginsInAscii c.in-Some.head.len c.text_len-len.result (drop n sent)) starts (c.text_len-len.ensures sent text_known);
      from = omega (arith, starts, c.if-start-offset.true);
      up_to = omega (arith, starts, less, c.if-start-offset.true);
    }
