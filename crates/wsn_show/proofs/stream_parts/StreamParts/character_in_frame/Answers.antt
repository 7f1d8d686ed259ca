use Rattle.std.proofs.Common.{rules, ◌≡◌, ℕ, ◌+◌, ◌-◌, ◌<◌, ◌^◌, Bool, true, false, not, Option, None, Some, List, ◌++◌, length, drop, sym, ap, ◌∙◌, subst, length-append, arith}
use Rattle.std.specs.Prelude.{is_some}
use Rattle.std.proofs.lemmas.List.{length-map}
use Rattle.wsn_wire.specs.declared.refusal.Reason.TheVariants.{TextBad}
use Rattle.wsn_rules.specs.BadCharacter.{payload_offset, last_of, open_payload, message_payload, earlier_end, bad_character, PlacedByte, placed}
use Rattle.wsn_rules.specs.Group.{unfinished, payload_of}
use Rattle.wsn_rules.proofs.OpenPayloads.{payload_so_far}
use Rattle.wsn_text.specs.Utf8.{IsFirstBad}
use Rattle.wsn_scan.specs.Positions.{Position, BetweenFrames, InFrame}
use Rattle.wsn_show.specs.LastPayloads.{HasLastPayload, GoesWrongAt, character_at, character_held}
use Rattle.wsn_show.specs.StreamParts.{KeepsStream}
use Rattle.wsn_show.proofs.KeptParts.{part_of_data}
use Rattle.wsn_show.proofs.LastPayloads.{message_goes_on}
use Rattle.wsn_show.proofs.stream_parts.StreamParts.character_in_frame.Goals as goal

none_and_some : {A X : Type 0} (head : Option X) (result : Bool) → head ≡ None → is_some head ≡ not result → result ≡ false → A
none_and_some head result none is not_none = let both : false ≡ true = sym (ap is_some none) ∙ is ∙ ap not not_none in absurd cc

pub returns-clause-character : goal.returns-clause-character
returns-clause-character c n fs at rest wrong keeps = by at wrong keeps
  where
    by : (at : Position) → GoesWrongAt TextBad fs at rest c.args.bytes.now → KeepsStream n c.args.self.now fs at rest → Some (character_held c.bad_character.result) ≡ character_at TextBad fs at c.args.bytes.now
    by BetweenFrames wrong keeps = none_and_some c.args.self.now.head c.is_none.result keeps.frame.head c.is_none.ensures c.if-is_none.false
    by (InFrame head payload) wrong keeps =
        let bytes = c.args.bytes.now in
        let all = message_payload fs head (payload ++ bytes) in
        let end = c.end_so_far-end.result in
        let offset = keeps.frame.offset in
        let size = keeps.frame.size in
        let small = wrong.small in
        let sized = wrong.sized in
        let fits : c.args.self.now.offset + c.args.self.now.size < 2 ^ 64 = omega (arith, offset, size, small) in
        let end_is = c.end_so_far-end.ensures fits in
        let there : payload_offset head + length payload ≡ end = omega (arith, end_is, offset, size, sized) in
        let after = c.saturating_add.ensures in
        let past : end + length bytes ≡ c.saturating_add.result = omega (arith, after, end_is, offset, size, small) in
        let few_skipped : length bytes - (length bytes + 4) ≡ 0 = omega arith in
        let whole : bytes ≡ last_of (length bytes + 4) bytes = sym (ap (λ (m : ℕ). drop m bytes) few_skipped) in
        let first = c.add.ensures (open_payload fs) payload (payload_offset head) 2048 (omega arith) (c.end.ensures.held ∙ keeps.frame.last.held) there keeps.message.last in
        let added = c.add-2.ensures (message_payload fs head payload) bytes end (length bytes + 4) (omega arith) whole past first in
        let is_all : message_payload fs head payload ++ placed end bytes ≡ all = ap (λ (n : ℕ). message_payload fs head payload ++ placed n bytes) (sym there) ∙ sym (message_goes_on fs head payload bytes) in
        let text = payload_so_far fs head (payload ++ bytes) in
        let bad = wrong.ends_bad in
        let text_size : length all ≡ length (payload_of (unfinished fs) ++ (payload ++ bytes)) = sym (length-map all (λ (b : PlacedByte). b.byte)) ∙ ap (λ (bs : List ℕ). length bs) text in
        let parts = length-append (payload_of (unfinished fs)) (payload ++ bytes) in
        let own = length-append payload bytes in
        let front = length-append (payload_of (unfinished fs)) payload in
        let counted : c.count.result ≡ length (payload_of (unfinished fs) ++ payload) =
        c.count.ensures ∙ keeps.message.payload.count ∙ ap (λ (bs : List ℕ). length (payload_of (unfinished fs) ++ bs)) (part_of_data head payload wrong.data_frame) in
        let sum = c.saturating_add-count.ensures in
        let few = wrong.few_bytes in
        let ends = bad.1 in
        let earlier : c.end-earlier.result ≡ earlier_end fs = c.end-earlier.ensures ∙ keeps.message.earlier in
        ap Some (c.bad_character.ensures all bad.0 (subst (HasLastPayload c.add-2.new.self) is_all added) (omega (arith, text_size, parts, own, front, counted, sum, few))
        (subst (λ (bs : List ℕ). IsFirstBad bs bad.0) (sym text) bad.2) (omega (arith, ends, text_size)) ∙ ap (λ (bs : List ℕ). bad_character bs all) earlier)

pub returns-then-is_none-clause-character : goal.returns-then-is_none-clause-character
returns-then-is_none-clause-character c = search rules

pub returns-then-is_none-clause-others : goal.returns-then-is_none-clause-others
returns-then-is_none-clause-others c = search rules

pub returns-clause-others : goal.returns-clause-others
returns-clause-others c = search rules
