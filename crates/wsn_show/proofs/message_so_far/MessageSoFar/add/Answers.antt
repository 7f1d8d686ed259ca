use Rattle.std.proofs.Common.{ℕ, List, ◌++◌, subst, append_assoc}
use Rattle.wsn_rules.specs.Group.{unfinished, payload_of}
use Rattle.wsn_show.specs.PayloadsSoFar.{HasPayload}
use Rattle.wsn_show.proofs.message_so_far.MessageSoFar.add.Goals as goal

pub returns-clause-kept : goal.returns-clause-kept
returns-clause-kept c n fs part small keeps = record {
  frames = keeps.frames;
  bytes = keeps.bytes;
  payload =
      subst (λ (bytes : List ℕ). HasPayload n c.add.new.self bytes) (append_assoc (payload_of (unfinished fs)) part c.args.payload.now)
      (c.add.ensures n (payload_of (unfinished fs) ++ part) small keeps.payload);
  earlier = keeps.earlier;
  last = keeps.last;
  op = keeps.op;
  offset = keeps.offset;
}
