use Rattle.std.proofs.Common.{◌≡◌, ℕ, ◌-◌, List, [], ◌++◌, length, take, drop, refl, ap, ◌∙◌, subst, append-nil, arith, length-drop}
use Rattle.std.specs.Prelude.{IsOk, ◌↔◌}
use borrow.Rule.Slice.PartMut.{mid_of, post_of}
use Rattle.std.proofs.lemmas.List.{drop_all}
use Rattle.wsn_scan.proofs.FedChunks.{share_is}
use Rattle.wsn_text.specs.Utf8.{BeginsText}
use Rattle.wsn_text.specs.Validated.{HasValidated}
use Rattle.wsn_redact.specs.StandIns.{stood, due_after}
use Rattle.wsn_redact.specs.Dues.{due_of}
use Rattle.wsn_redact.proofs.ReplacedParts.{split_at_count, err_or_ok}
use Rattle.wsn_redact.proofs.redacted_payload.Redactor.replace_body.Goals as goal

pub returns-clause-replaces : goal.returns-clause-replaces
returns-clause-replaces c =
    let n = c.code_count-code.result in
    let payload = c.args.payload.now in
    let k = 2 - c.args.self.now.done in
    let parts = split_at_count n k payload c.code_count-code.ensures.count in
    let mid : mid_of n (length payload - n) payload ≡ drop k payload = share_is n payload ∙ parts.1 in
    let none : post_of n (length payload - n) payload ≡ [] = drop_all (length payload - n) (drop n payload) (omega (arith, length-drop n payload)) in
    record {
      written = (λ i. parts.0 i ++ ((c.replace.ensures.written ∙ ap (λ (bs : List ℕ). stood (due_of c.args.self.now.due) bs) mid) i ++ none i)) ∙ ap (λ (bs : List ℕ). take k payload ++ bs) (append-nil (stood (due_of c.args.self.now.due) (drop k payload)));
      due = c.replace.ensures.due ∙ ap (λ (bs : List ℕ). due_after (due_of c.args.self.now.due) bs) mid;
      text = refl;
      done = refl;
      key = refl;
      reason = λ taken has. subst (λ (bs : List ℕ). HasValidated c.feed.new.self (taken ++ bs)) mid (c.feed.ensures.taken taken has);
    }

pub returns-clause-bad : goal.returns-clause-bad
returns-clause-bad c = λ taken has.
    let n = c.code_count-code.result in
    let payload = c.args.payload.now in
    let k = 2 - c.args.self.now.done in
    let mid : mid_of n (length payload - n) payload ≡ drop k payload = share_is n payload ∙ (split_at_count n k payload c.code_count-code.ensures.count).1 in
    err_or_ok c.feed.result c.is_err-bad.result (BeginsText (taken ++ drop k payload)) c.is_err-bad.ensures.value
    (subst (λ (bs : List ℕ). IsOk c.feed.result ↔ BeginsText (taken ++ bs)) mid (c.feed.ensures.ok taken has))
