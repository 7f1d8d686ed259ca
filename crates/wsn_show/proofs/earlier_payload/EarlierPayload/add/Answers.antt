use Rattle.std.proofs.Common.{◌≡◌, ℕ, ◌<◌, ◌≤◌, List, length, sym, ap, ◌∙◌, arith, rules}
use Rattle.wsn_rules.specs.BadCharacter.{last_of}
use Rattle.wsn_rules.proofs.LastElements.{last_of_last, last_of_long, last_of_both}
use Rattle.wsn_show.proofs.earlier_payload.EarlierPayload.add.Goals as goal

pub last_chunk-requires : goal.last_chunk-requires
last_chunk-requires c = search rules

pub replace-requires : goal.replace-requires
replace-requires c = search rules

pub add_short-requires : goal.add_short-requires
add_short-requires c =
    let short : length c.args.bytes.now < 48 = c.in-None.ensures.cases in
    let fits : length c.args.bytes.now ≤ 48 = omega (arith, short) in
    fits

pub returns-in-Some : goal.returns-in-Some
returns-in-Some c came payload ends has =
    let bytes = c.args.bytes.now in
    let held = c.args.self.now.held in
    let long : 48 ≤ length bytes = c.in-Some.ensures.cases.0 in
    let last_is : c.replace.new.held ≡ last_of 48 bytes = c.replace.ensures ∙ c.in-Some.ensures.cases.1.same in
    ap (λ (bs : List ℕ). last_of 48 bs) last_is ∙ last_of_last 48 48 bytes (omega arith) ∙ sym (last_of_long 48 held bytes long) ∙ last_of_both 48 held bytes came payload has ends

pub returns-in-None : goal.returns-in-None
returns-in-None c came payload ends has = c.add_short.ensures ∙ last_of_both 48 c.args.self.now.held c.args.bytes.now came payload has ends
