use Rattle.std.proofs.Common.{rules, ◌≡◌, length}
use Rattle.wsn_print.proofs.PutParts.{key_of_bytes}
use Rattle.wsn_print.proofs.parts.put_key_digits.Goals as goal

pub returns-clause-written : goal.returns-clause-written
returns-clause-written c =
    let four : length c.args.key ≡ 4 = search rules in
    key_of_bytes c.args.key _ _ _ _ _ four c.put_hex-at.ensures.written c.put_hex-at-2.ensures.written c.put_hex-at-3.ensures.written c.put_hex.ensures.written
