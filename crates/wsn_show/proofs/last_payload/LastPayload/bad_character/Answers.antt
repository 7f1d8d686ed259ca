use Rattle.std.proofs.Common.{rules, ◌≡◌, ℕ, ◌+◌, ◌-◌, ◌≤◌, List, length, drop, sym, ap, ◌∙◌, arith}
use Rattle.std.specs.Str.Lossy.{utf8_valid_len}
use Rattle.std.proofs.lemmas.List.{length-map}
use Rattle.wsn_rules.specs.BadCharacter.{first_offset, bytes_of, PlacedByte}
use Rattle.wsn_rules.proofs.LastElements.{bytes_of_last}
use Rattle.wsn_show.specs.LastPayloads.{placed_bytes}
use Rattle.wsn_show.proofs.LastPayloads.{character_is}
use Rattle.wsn_show.proofs.last_payload.LastPayload.bad_character.Goals as goal

pub returns : goal.returns
returns c came i has size bad last =
    let byte : PlacedByte → ℕ = λ b. b.byte in
    let held = placed_bytes c.args.self.now.held.items in
    let bytes = c.bytes-bytes.result in
    let len = c.bad_character_len-len.result in
    let bytes_is : bytes ≡ bytes_of held = c.bytes-bytes.ensures in
    let text : length (bytes_of came) ≡ length came = length-map came byte in
    let ends : i + 1 ≡ length (bytes_of came) = last ∙ sym text in
    let now : c.as_slice.result.now ≡ drop (length (bytes_of came) - 4) (bytes_of came) = c.as_slice.ensures.value ∙ bytes_is ∙ ap bytes_of has ∙ bytes_of_last 4 came in
    let whole : utf8_valid_len (bytes_of came) + len ≡ length came = c.bad_character_len-len.ensures.bad (bytes_of came) i bad ends now ∙ text in
    let held_size : length bytes ≡ length held = ap (λ (bs : List ℕ). length bs) bytes_is ∙ length-map held byte in
    let within = c.bad_character_len-len.ensures.within in
    let slice : length c.as_slice.result.now ≡ length bytes = ap (λ (bs : List ℕ). length bs) c.as_slice.ensures.value in
    let few : len ≤ length held = omega (arith, within, slice, held_size) in
    let count = c.len.ensures.value in
    let first : c.len.result - len ≡ length held - len = omega (arith, count, held_size) in
    let offset : c.offset_at.result ≡ first_offset (drop (length held - len) held) = c.offset_at.ensures ∙ ap (λ (k : ℕ). first_offset (drop k held)) first in
    let less = c.saturating_sub.ensures in
    let place : c.saturating_sub.result ≡ length came - len = omega (arith, less, size) in
    let left : c.drop_front.new.self ≡ drop (length held - len) (bytes_of held) = c.drop_front.ensures ∙ (λ j. drop (first j) (bytes_is j)) in
    (λ j. record { offset = offset j; in_payload = place j; bytes = left j; earlier = c.args.earlier }) ∙ character_is c.args.earlier came len whole held few has

pub as_slice-requires : goal.as_slice-requires
as_slice-requires c = search rules

pub len-requires : goal.len-requires
len-requires c = search rules

pub overflow_sub-first : goal.overflow_sub-first
overflow_sub-first c = search rules

pub drop_front-requires : goal.drop_front-requires
drop_front-requires c = search rules
