use Rattle.wsn_laws.proofs.AlikeShown.{alike_heads, alike_plan, alike_shown, alike_left}
use Rattle.wsn_laws.proofs.alike_laws.law_alike_streams_are_shown_alike.Goals as goal

pub returns : goal.returns
returns c = record {
  heads = alike_heads;
  plan = alike_plan;
  shown = λ detail role limits bytes other shown others. alike_shown role limits detail bytes other shown others;
  left = alike_left;
}
