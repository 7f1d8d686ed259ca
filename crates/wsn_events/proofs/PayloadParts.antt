-- What is kept of a payload around a place is enough for each view.
use Rattle.std.proofs.Common.{◌≡◌, ℕ, ◌+◌, ◌-◌, ◌≤◌, ◌<◌, min, true, false, true≢false, Option, None, Some, List, [], ◌++◌, length, take, get_or, sym, ap, ◌∙◌, arith, inl, inr}
use Rattle.std.proofs.lemmas.Bool.{cases_lt}
use Rattle.std.proofs.lemmas.List.{length-take, take_min}
use Rattle.std.specs.Str.Lossy.{utf8_valid_len}
use Rattle.wsn_text.specs.Utf8.{BeginsText}
use Rattle.wsn_text.proofs.Prefixes.{begins_take, text_begins}
use Rattle.wsn_text.proofs.WholeCharacters.{whole, cut}
use Rattle.wsn_rules.specs.LawfulEvents.{IsLawfulEvent}
use Rattle.wsn_rules.specs.Meaning.{MeantEvent, payload_in}
use Rattle.wsn_print.specs.declared.shown.DifferingPayloads.{DifferingPayloads}
use Rattle.wsn_print.specs.declared.shown.PayloadPart.{PayloadPart}
use Rattle.wsn_print.specs.DifferingPayloads.{is_text, view_start, payload_on, IsPartOf, StandsForPlace}
use Rattle.wsn_print.specs.ShownParts.{HoldsFirst}
use Rattle.wsn_events.specs.declared.payload_difference.PayloadDifference.{PayloadDifference}
use Rattle.wsn_events.specs.declared.payload_difference.PayloadExcerpt.{PayloadExcerpt}
use Rattle.wsn_events.specs.PayloadExcerpts.{IsPartKept, ArePartsKept, IsLawfulIfAny, event_given}
use Rattle.wsn_events.specs.Turns.{MeantTurn, IsLawfulTurn}

-- ---- where a view begins

-- Of bytes that begin text, at most the last three are of a character that isn't whole.
pub few_left : (bytes : List ℕ) → BeginsText bytes → length bytes ≤ utf8_valid_len bytes + 3
few_left bytes begins =
    elim (cases_lt (length bytes) 1) [
      | inl less ↦ omega (arith, less)
      | inr one ↦
          elim (cases_lt (get_or bytes (length bytes - 1) 0) 0xC0) [
            | inr high ↦ let at = cut bytes (length bytes - 1) 1 (omega (arith, one)) (omega arith) high (λ n leads. leads.one high) begins in omega (arith, at)
            | inl low ↦ from_two low
          ]
    ]
  where
    from_three : get_or bytes (length bytes - 1) 0 < 0xC0 → (2 ≤ length bytes → get_or bytes (length bytes - 2) 0 < 0xE0) → length bytes ≤ utf8_valid_len bytes + 3
    from_three low second =
        elim (cases_lt (length bytes) 3) [
          | inl less ↦ let all = whole bytes begins (record { one = λ le. low; two = second; three = λ le. absurd (omega (arith, le, less)) }) in omega (arith, all)
          | inr three ↦
              elim (cases_lt (get_or bytes (length bytes - 3) 0) 0xF0) [
                | inr high ↦ let at = cut bytes (length bytes - 3) 3 (omega (arith, three)) (omega arith) (omega (arith, high)) (λ n leads. leads.three high) begins in omega (arith, at)
                | inl third ↦ let all = whole bytes begins (record { one = λ le. low; two = second; three = λ le. third }) in omega (arith, all)
              ]
        ]

    from_two : get_or bytes (length bytes - 1) 0 < 0xC0 → length bytes ≤ utf8_valid_len bytes + 3
    from_two low =
        elim (cases_lt (length bytes) 2) [
          | inl less ↦ from_three low (λ le. absurd (omega (arith, le, less)))
          | inr two ↦
              elim (cases_lt (get_or bytes (length bytes - 2) 0) 0xE0) [
                | inr high ↦ let at = cut bytes (length bytes - 2) 2 (omega (arith, two)) (omega arith) (omega (arith, high)) (λ n leads. leads.two high) begins in omega (arith, at)
                | inl second ↦ from_three low (λ le. second)
              ]
        ]

-- A lawful text message's payload is text.
pub text_is_begun : (event : MeantEvent) → is_text event ≡ true → IsLawfulEvent event → (n : ℕ) → BeginsText (take n (payload_in event))
text_is_begun event is_so lawful n = grind (arith, begins_take, text_begins, true≢false)

pub start_in_text : (event : MeantEvent) → is_text event ≡ true → (place : ℕ) → utf8_valid_len (take (place - 8) (payload_in event)) ≡ view_start place event
start_in_text event is_so place = grind (arith, true≢false)

pub start_in_bytes : (event : MeantEvent) → is_text event ≡ false → (place : ℕ) → place - 8 ≡ view_start place event
start_in_bytes event is_not place = grind (arith, true≢false)

-- ---- what is kept

-- The first bytes that are kept.
pub first_kept : (held payload : List ℕ) (n : ℕ) → held ≡ [] → n ≡ min (length payload) 4107 → held ++ take n payload ≡ take 4107 payload
first_kept held payload n none few =
    let same : n ≡ min 4107 (length payload) = omega (arith, few) in
    ap (λ (bs : List ℕ). bs ++ take n payload) none ∙ ap (λ (k : ℕ). take k payload) same ∙ take_min 4107 payload

enough : (least : ℕ) (all held : List ℕ) → least ≤ 4107 → held ≡ take 4107 all → HoldsFirst least all held
enough least all held few is =
    let size : length held ≡ min 4107 (length all) = ap (λ (bs : List ℕ). length bs) is ∙ length-take 4107 all in (
      is ∙ sym (take_min 4107 all) ∙ ap (λ (m : ℕ). take m all) (sym size),
      elim (cases_lt (length all) 4107) [
        | inl less ↦ inr (omega (arith, size, less))
        | inr more ↦ inl (omega (arith, size, more, few))
      ],
    )

pub is_part : (n place : ℕ) (event : MeantEvent) (excerpt : PayloadExcerpt) (part : PayloadPart) → n ≤ 4096 → IsPartKept place excerpt event → part.is_text ≡ excerpt.is_text → part.from ≡ excerpt.from
    → part.before ≡ excerpt.before → part.bytes.bytes ≡ excerpt.bytes → part.bytes.held.now ≡ excerpt.held.items → IsPartOf n place part event
is_part n place event excerpt part few is text from before bytes held = record {
  text = text ∙ is.text;
  start = from ∙ is.start;
  before = before ∙ is.before;
  holds = (bytes ∙ is.size, let near = is.near in enough (place - view_start place event + n) (payload_on place event) part.bytes.held.now (omega (arith, near, few)) (held ∙ is.first));
}

pub are_parts : (n : ℕ) (difference : PayloadDifference) (shown : DifferingPayloads) (place : Option ℕ) (one two : Option MeantEvent) → n ≤ 4096 → ArePartsKept (Some difference) place one two → shown.place ≡ difference.place
    → ((m at : ℕ) (event : MeantEvent) → m ≤ 4096 → IsPartKept at difference.first event → IsPartOf m at shown.first event)
    → ((m at : ℕ) (event : MeantEvent) → m ≤ 4096 → IsPartKept at difference.second event → IsPartOf m at shown.second event) → StandsForPlace n (Some shown) place one two
are_parts n difference shown place one two few are is first second = grind arith

-- None is kept.
pub no_parts : (n : ℕ) (place : Option ℕ) (one two : Option MeantEvent) → ArePartsKept None place one two → StandsForPlace n None place one two
no_parts n place one two are = grind arith

-- The event of a lawful turn is lawful.
pub lawful_given : (turn : MeantTurn) → IsLawfulTurn turn → IsLawfulIfAny (event_given turn)
lawful_given turn lawful = grind arith
