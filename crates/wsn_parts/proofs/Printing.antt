-- The lines of heads, printed one after another.
use Rattle.std.proofs.Common.{◌≡◌, ℕ, List, [], ◌∷◌, ◌++◌, refl, sym, ap, ◌∙◌, subst, append_assoc, append-nil}
use Rattle.wsn_io.specs.Transfer.{Outgoing, IsWrittenUpToFailure}
use Rattle.wsn_parts.specs.Listing.{PrintsMore, PrintsHeld}
use Rattle.wsn_rules.specs.declared.head_info.HeadInfo.{HeadInfo}
use Rattle.wsn_print.specs.declared.format.Format.{Format}
use Rattle.wsn_print.specs.Formats.{head_text, heads_text}

-- the lines of more heads
pub heads_text-append : (format : Format) (xs ys : List HeadInfo) → heads_text format (xs ++ ys) ≡ heads_text format xs ++ heads_text format ys
heads_text-append format [] ys = refl
heads_text-append format (x ∷ xs) ys =
    ap (λ (bs : List ℕ). head_text format x ++ bs) (heads_text-append format xs ys) ∙ sym (append_assoc (head_text format x) (heads_text format xs) (heads_text format ys))

pub lines_on : (format : Format) (before after : Outgoing) (heads more : List HeadInfo) → IsWrittenUpToFailure before after (heads_text format heads ++ heads_text format more)
    → IsWrittenUpToFailure before after (heads_text format (heads ++ more))
lines_on format before after heads more printed = subst (λ (text : List ℕ). IsWrittenUpToFailure before after text) (sym (heads_text-append format heads more)) printed

-- ---- texts that are held before they are printed

pub prints_none : (before : Outgoing) → PrintsMore before before []
prints_none before first printed written = subst (λ (bs : List ℕ). IsWrittenUpToFailure first before bs) (sym (append-nil printed)) written

pub prints_both : (before mid after : Outgoing) (text more : List ℕ) → PrintsMore before mid text → PrintsMore mid after more → PrintsMore before after (text ++ more)
prints_both before mid after text more one two first printed written =
    subst (λ (bs : List ℕ). IsWrittenUpToFailure first after bs) (append_assoc printed text more) (two first (printed ++ text) (one first printed written))

-- The front of the text was printed, and then the rest.
pub prints_rest : (before mid after : Outgoing) (held rest : List ℕ) → PrintsHeld before mid held rest → PrintsMore mid after rest → PrintsMore before after held
prints_rest before mid after held rest one two = subst (λ (bs : List ℕ). PrintsMore before after bs) one.1 (prints_both before mid after one.0 rest one.2 two)

-- Of what is held after that, more is printed; and then the line of a head is added.
pub prints_further : (format : Format) (before mid after : Outgoing) (heads : List HeadInfo) (head : HeadInfo) (held rest : List ℕ) → PrintsHeld before mid (heads_text format heads) held → PrintsHeld mid after held rest
    → PrintsHeld before after (heads_text format (heads ++ head ∷ [])) (rest ++ head_text format head)
prints_further format before mid after heads head held rest one two = (one.0 ++ two.0, whole, prints_both before mid after one.0 two.0 one.2 two.2)
  where
    line : List ℕ
    line = head_text format head

    whole : (one.0 ++ two.0) ++ (rest ++ line) ≡ heads_text format (heads ++ head ∷ [])
    whole =
        append_assoc one.0 two.0 (rest ++ line)
        ∙ ap (λ (bs : List ℕ). one.0 ++ bs) (sym (append_assoc two.0 rest line) ∙ ap (λ (bs : List ℕ). bs ++ line) two.1)
        ∙ sym (append_assoc one.0 held line)
        ∙ ap (λ (bs : List ℕ). bs ++ line) one.1
        ∙ sym (heads_text-append format heads (head ∷ []) ∙ ap (λ (bs : List ℕ). heads_text format heads ++ bs) (append-nil line))
