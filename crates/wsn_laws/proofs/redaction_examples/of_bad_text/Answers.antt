use Rattle.std.proofs.Common.{[], ◌∷◌, inr, refl, arith}
use Rattle.wsn_text.proofs.Rests.{text-nil, after_ascii, after_two, after_E0, after_E1_to_EC, after_ED, after_none}
use Rattle.wsn_laws.proofs.ComputedRedactions.{wrong_text}
use Rattle.wsn_laws.proofs.redaction_examples.of_bad_text.Goals as goal

pub returns : goal.returns
returns c = record {
  overlong =
      wrong_text (0x61 ∷ 0xe0 ∷ []) 0x9f
      (record { more = 0xa0 ∷ 0x80 ∷ []; text = (after_ascii 0x61 (omega arith) (0xe0 ∷ 0xa0 ∷ 0x80 ∷ [])).1 ((after_E0 0xe0 refl (0xa0 ∷ 0x80 ∷ [])).1 (omega arith, omega arith, (omega arith, omega arith, text-nil))) })
      (λ begins. let rest = (after_E0 0xe0 refl (0x9f ∷ begins.more)).0 ((after_ascii 0x61 (omega arith) (0xe0 ∷ 0x9f ∷ begins.more)).0 begins.text) in let low = rest.0 in omega (arith, low));
  surrogate =
      wrong_text (0xed ∷ []) 0xa0
      (record { more = 0x80 ∷ 0x80 ∷ []; text = (after_ED 0xed refl (0x80 ∷ 0x80 ∷ [])).1 (omega arith, omega arith, (omega arith, omega arith, text-nil)) })
      (λ begins. let rest = (after_ED 0xed refl (0xa0 ∷ begins.more)).0 begins.text in let high = rest.1 in omega (arith, high));
  letter =
      wrong_text (0xc3 ∷ []) 0x41
      (record { more = 0x80 ∷ []; text = (after_two 0xc3 (omega arith, omega arith) (0x80 ∷ [])).1 (omega arith, omega arith, text-nil) })
      (λ begins. let rest = (after_two 0xc3 (omega arith, omega arith) (0x41 ∷ begins.more)).0 begins.text in let low = rest.0 in omega (arith, low));
  punctuation =
      wrong_text (0xe2 ∷ 0x82 ∷ []) 0x28
      (record { more = 0x80 ∷ []; text = (after_E1_to_EC 0xe2 (omega arith, omega arith) (0x82 ∷ 0x80 ∷ [])).1 (omega arith, omega arith, (omega arith, omega arith, text-nil)) })
      (λ begins. let rest = (after_E1_to_EC 0xe2 (omega arith, omega arith) (0x82 ∷ 0x28 ∷ begins.more)).0 begins.text in let low = rest.2.0 in omega (arith, low));
  no_lead =
      wrong_text (0x61 ∷ []) 0xff
      (record { more = []; text = (after_ascii 0x61 (omega arith) []).1 text-nil })
      (λ begins. after_none 0xff (inr (omega arith)) begins.more ((after_ascii 0x61 (omega arith) (0xff ∷ begins.more)).0 begins.text));
}
