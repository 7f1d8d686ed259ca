use Rattle.std.proofs.Common.{refl}
use Rattle.std.specs.Fmt.{digits}
use Rattle.hex.specs.Hex.{encode_with}
use Rattle.wsn_laws.proofs.printed_entries.of_frames.Goals as goal

pub returns-clause-masked : goal.returns-clause-masked
unfolding digits encode_with
returns-clause-masked c = refl

pub returns-clause-not_final : goal.returns-clause-not_final
unfolding digits encode_with
returns-clause-not_final c = refl
