use Rattle.wsn_rules.proofs.NormalLaws.{own_frames, own_normal_form, frames_of_events}
use Rattle.wsn_rules.proofs.laws.law_once.Goals as goal

pub returns : goal.returns
returns c = record {
  accepted = own_frames;
  itself = own_normal_form;
  of_events = frames_of_events;
}
