use Rattle.std.proofs.Common.{List, ℕ, [], inl, sym, subst}
use Rattle.wsn_redact.specs.StandIns.{IsRedacted, stood}
use Rattle.wsn_redact.proofs.StoodTexts.{stood_is, redacted_begins, one_redacted, redacted_length}
use Rattle.wsn_redact.proofs.laws.law_one_redacted_text.Goals as goal

pub returns : goal.returns
returns c = record {
  computed = λ text redacted begins.
      let it : IsRedacted text (stood [] text) = inl (stood_is text begins) in
      (λ is. one_redacted text redacted (stood [] text) is it, λ same. subst (λ (bs : List ℕ). IsRedacted text bs) (sym same) it);
  begins = redacted_begins;
  one = one_redacted;
  size = redacted_length;
}
