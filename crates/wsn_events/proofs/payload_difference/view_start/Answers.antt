use Rattle.std.proofs.Common.{rules, ◌≡◌, ℕ, true, List, length, take, sym, ap, ◌∙◌, subst, arith}
use Rattle.std.proofs.lemmas.List.{length-take, length-take-le}
use Rattle.std.proofs.lemmas.Str.{utf8_valid_len_le}
use Rattle.std.specs.Str.Lossy.{utf8_valid_len}
use Rattle.wsn_text.specs.Utf8.{BeginsText}
use Rattle.wsn_print.specs.DifferingPayloads.{is_text}
use Rattle.wsn_events.specs.PayloadExcerpts.{meant_payload}
use Rattle.wsn_events.proofs.PayloadParts.{few_left, text_is_begun, start_in_text, start_in_bytes}
use Rattle.wsn_events.proofs.payload_difference.view_start.Goals as goal
use Rattle.wsn_rules.specs.Meaning.{payload_in}

pub returns-then-is_text : goal.returns-then-is_text
returns-then-is_text c = record {
  is = let event = meant_payload c.args.payload.now in
      let start : ℕ = c.saturating_sub-start.result in
      let front : List ℕ = take start c.bytes.result.now in
      let text : is_text event ≡ true = sym c.is_text.ensures ∙ c.if-is_text.true in
      let begun : BeginsText front = subst (λ (bs : List ℕ). BeginsText (take start bs)) (sym c.bytes.ensures) (text_is_begun event text c.requires.lawful start) in
      ap (λ (bs : List ℕ). length bs) (c.whole_characters.ensures begun) ∙ length-take-le (utf8_valid_len front) front (utf8_valid_len_le front)
      ∙ ap (λ (bs : List ℕ). utf8_valid_len (take start bs)) c.bytes.ensures ∙ ap (λ (k : ℕ). utf8_valid_len (take k (payload_in event))) c.saturating_sub-start.ensures ∙ start_in_text event text c.args.place;
  near = let event = meant_payload c.args.payload.now in
      let start : ℕ = c.saturating_sub-start.result in
      let all : List ℕ = c.bytes.result.now in
      let front : List ℕ = take start all in
      let text : is_text event ≡ true = sym c.is_text.ensures ∙ c.if-is_text.true in
      let begun : BeginsText front = subst (λ (bs : List ℕ). BeginsText (take start bs)) (sym c.bytes.ensures) (text_is_begun event text c.requires.lawful start) in
      let size : length c.whole_characters.result.now ≡ utf8_valid_len front = ap (λ (bs : List ℕ). length bs) (c.whole_characters.ensures begun) ∙ length-take-le (utf8_valid_len front) front (utf8_valid_len_le front) in
      let cut = length-take start all in
      let is = c.saturating_sub-start.ensures in
      let same : length all ≡ length (payload_in event) = ap (λ (bs : List ℕ). length bs) c.bytes.ensures in
      (omega (arith, size, utf8_valid_len_le front, cut, is), omega (arith, size, few_left front begun, cut, is, same, c.requires.within));
}

pub returns-else-is_text : goal.returns-else-is_text
returns-else-is_text c = record {
  is = let event = meant_payload c.args.payload.now in
      c.saturating_sub-start.ensures ∙ start_in_bytes event (sym c.is_text.ensures ∙ c.if-is_text.false) c.args.place;
  near = search rules;
}

pub slice_bounds-whole_characters-end : goal.slice_bounds-whole_characters-end
slice_bounds-whole_characters-end c = search rules
