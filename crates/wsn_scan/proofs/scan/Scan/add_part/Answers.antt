use Rattle.std.proofs.Common.{◌≡◌, ℕ, nat_eq, true, false, [], ◌∷◌, ◌++◌, length, refl, sym, ap, ◌∙◌, arith, rules}
use Rattle.wsn_rules.specs.declared.head_info.HeadInfo.{HeadInfo}
use Rattle.wsn_frame.specs.PartialHeads.{info_at}
use Rattle.wsn_scan.specs.Positions.{BetweenFrames, InFrame}
use Rattle.wsn_scan.proofs.MoreBytes.{knows_more}
use Rattle.wsn_scan.proofs.scan.Scan.add_part.Goals as goal

pub returns-then-ends-clause-taken : goal.returns-then-ends-clause-taken
returns-then-ends-clause-taken c role limits bytes rest last wire before payload fs has_consumed none in_last size holds done within unmasked =
    let same : c.args.inside.now.done ≡ c.args.inside.now.head.len = c.if-ends.true in
    let all : length wire ≡ c.args.inside.now.head.len = sym done ∙ same in
    let ended = c.end.ensures.taken role limits (bytes ++ last) (rest ++ last) wire fs
    (knows_more role limits c.args.self.now _ bytes rest last fs (record { sender = refl; under = refl; room = omega (arith, c.requires.fits, size); used = refl; counts = refl; message = refl }) in_last has_consumed)
    none holds all in
    let head_is = c.info-part.ensures ∙ ap (λ (n : ℕ). info_at n c.args.inside.now.head) has_consumed.used ∙ ended.head_is in
    record {
      frames = fs ++ ended.frame ∷ [];
      since = [];
      position = BetweenFrames;
      has_scanned = ended.has_scanned;
      found = record {
        within = λ is. let yes : nat_eq c.args.inside.now.done c.args.inside.now.head.len ≡ true = search (rules, same) in let both : true ≡ false = sym yes ∙ is in cc;
        ends = λ is. (ended.frame, head_is, ended.payload_is ∙ sym unmasked, refl, refl);
      };
    }

pub returns-else-ends-clause-taken : goal.returns-else-ends-clause-taken
returns-else-ends-clause-taken c role limits bytes rest last wire before payload fs has_consumed none in_last size holds done within unmasked =
    let other : (c.args.inside.now.done ≡ c.args.inside.now.head.len) → ⊥ = c.if-ends.false in
    let head_is = c.info-part.ensures ∙ ap (λ (n : ℕ). info_at n c.args.inside.now.head) has_consumed.used in
    record {
      frames = fs;
      since = rest ++ last;
      position = InFrame c.info-part.result (before ++ payload);
      has_scanned = record {
        has_consumed = knows_more role limits c.args.self.now _ bytes rest last fs (record { sender = refl; under = refl; room = omega (arith, c.requires.fits, size); used = refl; counts = refl; message = refl }) in_last has_consumed;
        is_at = (
          none,
          (
            before ++ payload,
            record { wire = wire; holds = holds; done = done; short = omega (arith, within, other, done); unmasked = unmasked },
            ap (λ (info : HeadInfo). InFrame info (before ++ payload)) head_is,
          ),
        );
      };
      found = record {
        within = λ is. (refl, refl);
        ends = λ is. let yes : nat_eq c.args.inside.now.done c.args.inside.now.head.len ≡ true = is in let same : c.args.inside.now.done ≡ c.args.inside.now.head.len = search (rules, yes) in absurd (other same);
      };
    }

pub overflow_sub-self : goal.overflow_sub-self
overflow_sub-self c = search rules

pub end-requires : goal.end-requires
end-requires c = search rules

pub returns-then-ends-clause-head : goal.returns-then-ends-clause-head
returns-then-ends-clause-head c = search rules

pub returns-then-ends-clause-begins : goal.returns-then-ends-clause-begins
returns-then-ends-clause-begins c = search rules

pub returns-then-ends-clause-ends : goal.returns-then-ends-clause-ends
returns-then-ends-clause-ends c = search rules

pub returns-then-ends-clause-start : goal.returns-then-ends-clause-start
returns-then-ends-clause-start c = search rules

pub returns-then-ends-clause-room : goal.returns-then-ends-clause-room
returns-then-ends-clause-room c = search rules

pub returns-then-ends-clause-reported : goal.returns-then-ends-clause-reported
returns-then-ends-clause-reported c = search rules

pub returns-else-ends-clause-head : goal.returns-else-ends-clause-head
returns-else-ends-clause-head c = search rules

pub returns-else-ends-clause-begins : goal.returns-else-ends-clause-begins
returns-else-ends-clause-begins c = search rules

pub returns-else-ends-clause-ends : goal.returns-else-ends-clause-ends
returns-else-ends-clause-ends c = search rules

pub returns-else-ends-clause-start : goal.returns-else-ends-clause-start
returns-else-ends-clause-start c = search rules

pub returns-else-ends-clause-room : goal.returns-else-ends-clause-room
returns-else-ends-clause-room c = search rules

pub returns-else-ends-clause-reported : goal.returns-else-ends-clause-reported
returns-else-ends-clause-reported c = search rules

pub returns-then-ends-clause-whole : goal.returns-then-ends-clause-whole
returns-then-ends-clause-whole c = search rules

pub returns-else-ends-clause-whole : goal.returns-else-ends-clause-whole
returns-else-ends-clause-whole c = search rules
