-- The first byte is refused, or a second one is missing, refused, or begins what follows.
use Rattle.std.proofs.Common.{◌≡◌, ℕ, ◌+◌, ◌<◌, List, ◌∷◌, length, take, get_or, sym, ap, ◌∙◌, subst, arith, rules}
use Rattle.wsn_wire.specs.Frame.{first_byte}
use Rattle.wsn_wire.specs.Refusal.{IsFirstEvident}
use Rattle.wsn_wire.specs.EvidenceInHeads.{EvidentInSecond}
use Rattle.wsn_rules.specs.Evidence.{EvidentByFirst}
use Rattle.wsn_frame.specs.PartialHeads.{IsEvidentLast, IsHeadSoFar, HasTwoBytes, IsParsed, IsWithin}
use Rattle.wsn_frame.proofs.HeadsAtOnce.{no_items, one_so_far, first_refused, second_refused}
use Rattle.wsn_frame.proofs.parsing.parse_after.Goals as goal

pub returns-in-Err-clause-within : goal.returns-in-Err-clause-within
returns-in-Err-clause-within c = search rules

pub returns-in-Err-clause-parsed : goal.returns-in-Err-clause-parsed
returns-in-Err-clause-parsed c group is_open = (tt, first_refused c.args.context.now.role c.args.context.now.limits group c.args.byte c.in-Err.reason (c.in-Err.ensures.refused group is_open))

pub returns-in_default-clause-parsed : goal.returns-in_default-clause-parsed
returns-in_default-clause-parsed c group is_open =
    let role = c.args.context.now.role in
    let limits = c.args.context.now.limits in
    subst (λ (bs : List ℕ). IsHeadSoFar role limits group (c.args.byte ∷ bs)) (sym (no_items c.args.following.now c.in_default.ensures.cases))
    (one_so_far role limits group c.args.byte (c.in-Ok.ensures.nothing_evident group is_open))

pub returns-in-Ok-read_second_byte-clause-within : goal.returns-in-Ok-read_second_byte-clause-within
returns-in-Ok-read_second_byte-clause-within c =
    let rest = c.in-Some.ensures.cases in
    let same : 2 + length c.in-Some.following.now ≡ 1 + length c.args.following.now = omega (arith, rest.1) in
    subst (λ (n : ℕ). IsWithin n c.parse_after_two.result) same c.parse_after_two.ensures.within

pub returns-in-Ok-read_second_byte-clause-parsed : goal.returns-in-Ok-read_second_byte-clause-parsed
returns-in-Ok-read_second_byte-clause-parsed c group is_open =
    let role = c.args.context.now.role in
    let limits = c.args.context.now.limits in
    let first = c.in-Ok.first in
    let second = c.in-Some.second.now in
    let following = c.in-Some.following.now in
    let rest = c.in-Some.ensures.cases in
    let read = c.in-Ok.ensures.read in
    let byte : second < 256 = let below = c.type_inv.following 0 in subst (λ (bs : List ℕ). get_or bs 0 0 < 256) rest.0 (omega (arith, below)) in
    let two : HasTwoBytes role limits group first c.in-Ok-read_second_byte.encoded second = record {
      in_bytes = (subst (λ (n : ℕ). n < 256) read (omega arith), (byte, tt));
      encoded_is = c.in-Ok-read_second_byte.ensures.field;
      by_first = λ reason row. c.in-Ok.ensures.nothing_evident group is_open reason (subst (λ (n : ℕ). EvidentByFirst limits group reason n) (sym read) row);
      by_second = c.in-Ok-read_second_byte.ensures.nothing_evident;
    } in
    let whole : first_byte first.fin first.op ∷ second ∷ following ≡ c.args.byte ∷ c.args.following.now = ap (λ (bs : List ℕ). first_byte first.fin first.op ∷ bs) (sym rest.0) ∙ ap (λ (n : ℕ). n ∷ c.args.following.now) (sym read) in
    subst (λ (bs : List ℕ). IsParsed role limits group bs c.parse_after_two.result) whole (c.parse_after_two.ensures.parsed group second is_open two)

pub returns-in-Err-read_second_byte-clause-within : goal.returns-in-Err-read_second_byte-clause-within
returns-in-Err-read_second_byte-clause-within c = let rest = c.in-Some.ensures.cases.1 in (omega arith, omega (arith, rest))

pub returns-in-Err-read_second_byte-clause-parsed : goal.returns-in-Err-read_second_byte-clause-parsed
returns-in-Err-read_second_byte-clause-parsed c group is_open =
    let role = c.args.context.now.role in
    let limits = c.args.context.now.limits in
    let first = c.in-Ok.first in
    let second = c.in-Some.second.now in
    let read = c.in-Ok.ensures.read in
    let reason = c.in-Err-read_second_byte.reason in
    let is_first = subst (λ (n : ℕ). IsFirstEvident (λ r. EvidentInSecond role r n second) reason) (sym read) c.in-Err-read_second_byte.ensures.refused in (
      tt,
      subst (λ (bs : List ℕ). IsEvidentLast role limits group reason (c.args.byte ∷ take 1 bs)) (sym c.in-Some.ensures.cases.0)
          (second_refused role limits group c.args.byte second (c.in-Ok.ensures.nothing_evident group is_open) reason is_first),
    )
