use Rattle.std.proofs.Common.{refl}
use Rattle.std.specs.Fmt.{digits}
use Rattle.hex.specs.Hex.{encode_with}
use Rattle.wsn_laws.proofs.printed_lines.of_heads.Goals as goal

pub returns-clause-masked : goal.returns-clause-masked
unfolding digits encode_with
returns-clause-masked c = refl

pub returns-clause-small_key : goal.returns-clause-small_key
unfolding digits encode_with
returns-clause-small_key c = refl

pub returns-clause-not_final : goal.returns-clause-not_final
unfolding digits encode_with
returns-clause-not_final c = refl

pub returns-clause-continued : goal.returns-clause-continued
unfolding digits encode_with
returns-clause-continued c = refl

pub returns-clause-two : goal.returns-clause-two
unfolding digits encode_with
returns-clause-two c = refl

pub returns-clause-eight : goal.returns-clause-eight
unfolding digits encode_with
returns-clause-eight c = refl

pub returns-clause-close : goal.returns-clause-close
unfolding digits encode_with
returns-clause-close c = refl

pub returns-clause-pong : goal.returns-clause-pong
unfolding digits encode_with
returns-clause-pong c = refl
