use Rattle.std.proofs.Common.{◌≡◌, ℕ, List, refl, sym, ap, ◌∙◌, subst}
use Rattle.wsn_print.specs.declared.shown.Remainder.{Remainder}
use Rattle.wsn_print.specs.declared.shown.Remainder.TheVariants as remainders
use Rattle.wsn_print.specs.ShownParts.{remainder_word, item_of_remainder}
use Rattle.wsn_shown_text.specs.declared.items.ShownItem.{ShownItem}
use Rattle.wsn_shown_text.specs.Members.{item_type}
use Rattle.wsn_shown_text.specs.ShownItems.{IsItem}
use Rattle.wsn_shown_text.proofs.items.kind_of.Goals as goal

of_remainder : (which : Remainder) (offset : ℕ) (all : List ℕ) → remainder_word which ≡ item_type (item_of_remainder which offset all)
of_remainder remainders.Unread offset all = refl
of_remainder remainders.Tail offset all = refl

pub returns-in-Event-clause-word : goal.returns-in-Event-clause-word
returns-in-Event-clause-word c = λ n offset shown held. sym (ap item_type (subst (λ (i : ShownItem). IsItem n offset i shown) c.in-Event.is held).3)

pub returns-in-Frame-clause-word : goal.returns-in-Frame-clause-word
returns-in-Frame-clause-word c = λ n offset shown held. sym (ap item_type (subst (λ (i : ShownItem). IsItem n offset i shown) c.in-Frame.is held))

pub returns-in-Unfinished-clause-word : goal.returns-in-Unfinished-clause-word
returns-in-Unfinished-clause-word c = λ n offset shown held. sym (ap item_type (subst (λ (i : ShownItem). IsItem n offset i shown) c.in-Unfinished.is held).3)

pub returns-in-UnfinishedHead-clause-word : goal.returns-in-UnfinishedHead-clause-word
returns-in-UnfinishedHead-clause-word c = λ n offset shown held. sym (ap item_type (subst (λ (i : ShownItem). IsItem n offset i shown) c.in-UnfinishedHead.is held))

pub returns-in-Refused-clause-word : goal.returns-in-Refused-clause-word
returns-in-Refused-clause-word c = λ n offset shown held. sym (ap item_type (subst (λ (i : ShownItem). IsItem n offset i shown) c.in-Refused.is held).2)

pub returns-in-Remainder-clause-word : goal.returns-in-Remainder-clause-word
returns-in-Remainder-clause-word c = λ n offset shown held.
    let item = subst (λ (i : ShownItem). IsItem n offset i shown) c.in-Remainder.is held in
    c.remainder_word.ensures.word ∙ of_remainder c.in-Remainder.which offset item.0 ∙ sym (ap item_type item.2)
