-- Texts that are printed one after another, until a write fails.
use Rattle.std.proofs.Common.{◌≡◌, ℕ, ◌+◌, zero, suc, Result, Ok, Err, false, true, List, [], ◌∷◌, ◌++◌, length, take, inl, inr, refl, sym, ap, ◌∙◌, subst}
use Rattle.std.proofs.Math.Seq.{take-append-add}
use Rattle.std.proofs.KnownBytes.{Appends-nil, Appends-trans}
use Rattle.std.specs.Io.KnownBytes.{Appends}
use Rattle.wsn_io.specs.Transfer.{Outgoing, IsWritten, IsPartlyWritten, IsWrittenUpToFailure}
use Rattle.wsn_io.specs.declared.stop.Stop.{Stop}
use Rattle.wsn_io.specs.Stops.{IsWrittenOrStops}

-- A prefix of the text is a prefix of any longer text.
pub front_of_more : (k : ℕ) (text more : List ℕ) → (j : ℕ) × (take j (text ++ more) ≡ take k text)
front_of_more zero text more = (0, refl)
front_of_more (suc k) [] more = (0, refl)
front_of_more (suc k) (x ∷ xs) more = let rest = front_of_more k xs more in (suc rest.0, ap (λ (bs : List ℕ). x ∷ bs) rest.1)

-- More text after a failure: none of it is written.
pub prints_no_more : (before after : Outgoing) (text more : List ℕ) → after.failed ≡ true → IsWrittenUpToFailure before after text → IsWrittenUpToFailure before after (text ++ more)
prints_no_more before after text more failed (inl went) = let both : false ≡ true = sym went.0 ∙ failed in absurd cc
prints_no_more before after text more failed (inr front) =
    let longer = front_of_more front.1.0 text more in
    inr (failed, (longer.0, subst (λ (bs : List ℕ). Appends before.written after.written bs) (sym longer.1) front.1.1))

-- More text, of which all or a prefix is written.
pub prints_on : (before mid after : Outgoing) (text more : List ℕ) → mid.failed ≡ false → IsWrittenUpToFailure before mid text → IsWrittenUpToFailure mid after more → IsWrittenUpToFailure before after (text ++ more)
prints_on before mid after text more unfailed (inr front) next = let both : true ≡ false = sym front.0 ∙ unfailed in absurd cc
prints_on before mid after text more unfailed (inl went) (inl next) = inl (next.0, Appends-trans before.written mid.written after.written text more went.1 next.1)
prints_on before mid after text more unfailed (inl went) (inr next) =
    inr (
      next.0,
      (
        length text + next.1.0,
        subst (λ (bs : List ℕ). Appends before.written after.written bs) (sym (take-append-add text more next.1.0))
            (Appends-trans before.written mid.written after.written text (take next.1.0 more) went.1 next.1.1),
      ),
    )

-- An empty text.
pub prints_nothing : (before : Outgoing) → before.failed ≡ false → IsWrittenUpToFailure before before []
prints_nothing before unfailed = inl (unfailed, Appends-nil before.written)

-- What a call that writes a text returns.
pub went_out : {A : Type 0} (before after : Outgoing) (text : List ℕ) (result : Result A Stop) → IsWrittenOrStops before after text result → IsWrittenUpToFailure before after text
went_out before after text (Ok a) put = inl put
went_out before after text (Err s) put = inr put.1

-- Both texts are written.
pub put_both : (before mid after : Outgoing) (text more : List ℕ) → IsWritten before mid text → IsWritten mid after more → IsWritten before after (text ++ more)
put_both before mid after text more one two = (two.0, Appends-trans before.written mid.written after.written text more one.1 two.1)

-- The first text and a prefix of the second are written.
pub put_front : (before mid after : Outgoing) (text more : List ℕ) → IsWritten before mid text → IsPartlyWritten mid after more → IsPartlyWritten before after (text ++ more)
put_front before mid after text more one two = (
  two.0,
  (
    length text + two.1.0,
    subst (λ (bs : List ℕ). Appends before.written after.written bs) (sym (take-append-add text more two.1.0))
        (Appends-trans before.written mid.written after.written text (take two.1.0 more) one.1 two.1.1),
  ),
)

-- More text after a text that was written.
pub put_more : {A : Type 0} (before mid after : Outgoing) (text more : List ℕ) (result : Result A Stop) → IsWritten before mid text → IsWrittenOrStops mid after more result → IsWrittenOrStops before after (text ++ more) result
put_more before mid after text more (Ok a) one two = put_both before mid after text more one two
put_more before mid after text more (Err s) one two = (two.0, put_front before mid after text more one two.1)

-- More text after a failed write.
pub put_no_more : (before after : Outgoing) (text more : List ℕ) → IsPartlyWritten before after text → IsPartlyWritten before after (text ++ more)
put_no_more before after text more put =
    let longer = front_of_more put.1.0 text more in
    (put.0, (longer.0, subst (λ (bs : List ℕ). Appends before.written after.written bs) (sym longer.1) put.1.1))
