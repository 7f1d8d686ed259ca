use Rattle.std.proofs.Common.{List, ℕ, ap, sym, append-nil, ◌++◌, []}
use Rattle.wsn_wire.specs.Frame.{stream, frame_bytes}
use Rattle.wsn_rules.proofs.Prefixes.{append_cancel}
use Rattle.wsn_rules.proofs.EveryInput.{without_evidence_frame}
use Rattle.wsn_rules.proofs.OneVerdict.{lawful_frame_shows_nothing}
use Rattle.wsn_rules.proofs.laws.law_the_table_is_whole.Goals as goal

pub returns-clause-whole : goal.returns-clause-whole
returns-clause-whole c = λ role limits fs bytes range lawful layout has_no_evidence.
    let frame = without_evidence_frame role limits range (stream fs ++ bytes) fs bytes [] (ap (λ (bs : List ℕ). stream fs ++ bs) (sym (append-nil bytes))) lawful layout has_no_evidence in
    (frame.frame, frame.law, frame.bytes_are)

pub returns-clause-sound : goal.returns-clause-sound
returns-clause-sound c = λ role limits fs gs f following offset reason lawful is_evident.
    lawful_frame_shows_nothing role limits fs f gs lawful is_evident.seen is_evident.later following reason (append_cancel (stream fs) (is_evident.seen ++ is_evident.later) (frame_bytes f ++ following) (sym is_evident.whole)) is_evident.evidence
