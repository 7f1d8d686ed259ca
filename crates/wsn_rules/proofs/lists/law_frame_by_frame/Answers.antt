use Rattle.wsn_rules.proofs.LawfulLists.{lawful_from_front, lawful_after, lawful_iff_from_front}
use Rattle.wsn_rules.proofs.lists.law_frame_by_frame.Goals as goal

pub returns : goal.returns
returns c = record {
  joined = lawful_from_front;
  parted = lawful_after;
  whole = lawful_iff_from_front;
}
